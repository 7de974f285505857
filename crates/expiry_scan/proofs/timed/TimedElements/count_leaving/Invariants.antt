use Rattle.std.proofs.Common.{◌≡◌, ◌*◌, take, count_by}
use Rattle.expiry_scan.specs.Expired.{is_leaving}
use Rattle.expiry_scan.proofs.timed.TimedElements.count_leaving.Given as goal

abbrev pub invariant-pages : goal.invariant-pages
invariant-pages l = l.count ≡ count_by (is_leaving l.passed l.now) (take (512 * l.page) l.self)
