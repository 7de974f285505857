use Rattle.std.proofs.Common.{◌∙◌}
use Rattle.expiry_scan.proofs.EndLaws.{same_ends}
use Rattle.expiry_scan.proofs.timed.TimedElementsDuplicate.copy.Goals as goal

pub invariant_of-result : goal.invariant_of-result
invariant_of-result c =
    let own = c.self.inside in
    same_ends own.passed own.items c.in_ok-copy.field-0 own.ends.items c.in_ok-from_slice.field-0.items c.in_ok-copy.ensures (c.in_ok-from_slice.ensures.items ∙ c.as_slice.ensures.value) c.self.invariant
