use Rattle.std.proofs.Common.{◌≡◌, ok_or, ap, ◌∙◌}
use Rattle.addr_text.specs.ValuesRead.{value_of, bad_value}
use Rattle.addr_text.proofs.ValueLaws.{parses_value}
use Rattle.addr_text.proofs.FitLaws.{is_value_answered}
use Rattle.addr_text.proofs.value.read_value.Goals as goal

pub returns-clause-meaning : goal.returns-clause-meaning
returns-clause-meaning c =
    let answer : c.ok_or.result ≡ ok_or (value_of c.args.kind c.args.text.now) bad_value = c.ok_or.ensures.value ∙ ap (λ o. ok_or o bad_value) c.parse_value.ensures in
    parses_value c.args.kind c.args.text.now c.ok_or.result bad_value answer

pub returns-clause-fits : goal.returns-clause-fits
returns-clause-fits c =
    let answer : c.ok_or.result ≡ ok_or (value_of c.args.kind c.args.text.now) bad_value = c.ok_or.ensures.value ∙ ap (λ o. ok_or o bad_value) c.parse_value.ensures in
    is_value_answered c.args.kind c.args.text.now c.ok_or.result bad_value answer
