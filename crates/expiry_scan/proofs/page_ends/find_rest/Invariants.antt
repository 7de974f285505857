use Rattle.std.proofs.Common.{◌≡◌, length}
use Rattle.expiry_scan.specs.Soonest.{AreEnds}
use Rattle.expiry_scan.proofs.page_ends.find_rest.Given as goal

abbrev pub invariant-pages : goal.invariant-pages
invariant-pages l = (length l.ends.items ≡ l.page) × AreEnds l.passed l.elements l.ends.items
