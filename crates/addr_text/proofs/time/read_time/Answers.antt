use Rattle.std.proofs.Common.{◌≡◌, ok_or, ap, ◌∙◌}
use Rattle.addr_text.specs.ValuesRead.{bad_value}
use Rattle.addr_text.specs.TimesRead.{time_of}
use Rattle.addr_text.proofs.TimeLaws.{parses_time, time_within}
use Rattle.addr_text.proofs.time.read_time.Goals as goal

pub returns-clause-meaning : goal.returns-clause-meaning
returns-clause-meaning c =
    let answer : c.ok_or.result ≡ ok_or (time_of c.args.text.now) bad_value = c.ok_or.ensures.value ∙ ap (λ o. ok_or o bad_value) c.parse_time.ensures in
    parses_time c.args.text.now c.ok_or.result bad_value answer

pub returns-clause-within : goal.returns-clause-within
returns-clause-within c =
    let answer : c.ok_or.result ≡ ok_or (time_of c.args.text.now) bad_value = c.ok_or.ensures.value ∙ ap (λ o. ok_or o bad_value) c.parse_time.ensures in
    time_within c.args.text.now c.ok_or.result bad_value answer
