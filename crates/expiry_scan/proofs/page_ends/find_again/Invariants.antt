use Rattle.expiry_scan.specs.Soonest.{AreEnds}
use Rattle.expiry_scan.proofs.page_ends.find_again.Given as goal

abbrev pub invariant-pages : goal.invariant-pages
invariant-pages l = AreEnds l.passed l.elements l.ends.items
