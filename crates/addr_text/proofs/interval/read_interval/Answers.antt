use Rattle.std.proofs.Common.{◌≡◌, ok_or, ap, ◌∙◌}
use Rattle.addr_text.specs.ValuesRead.{bad_value}
use Rattle.addr_text.specs.IntervalsRead.{interval_of}
use Rattle.addr_text.proofs.IntervalLaws.{parses_interval, good_interval}
use Rattle.addr_text.proofs.interval.read_interval.Goals as goal

pub returns-clause-meaning : goal.returns-clause-meaning
returns-clause-meaning c =
    let answer : c.ok_or.result ≡ ok_or (interval_of c.args.kind c.args.text.now) bad_value = c.ok_or.ensures.value ∙ ap (λ o. ok_or o bad_value) c.parse_interval.ensures in
    parses_interval c.args.kind c.args.text.now c.ok_or.result bad_value answer

pub returns-clause-good : goal.returns-clause-good
returns-clause-good c =
    let answer : c.ok_or.result ≡ ok_or (interval_of c.args.kind c.args.text.now) bad_value = c.ok_or.ensures.value ∙ ap (λ o. ok_or o bad_value) c.parse_interval.ensures in
    good_interval c.args.kind c.args.text.now c.ok_or.result bad_value answer
