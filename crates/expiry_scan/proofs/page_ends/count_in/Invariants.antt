use Rattle.std.proofs.Common.{◌≡◌, ◌+◌, ◌*◌, take, count_by}
use Rattle.expiry_scan.specs.Expired.{is_leaving}
use Rattle.expiry_scan.proofs.page_ends.count_in.Given as goal

abbrev pub invariant-elements : goal.invariant-elements
invariant-elements l = count_by (is_leaving l.passed l.now) (take (512 * l.page) l.elements) + l.count ≡ count_by (is_leaving l.passed l.now) (take l.i l.elements)
