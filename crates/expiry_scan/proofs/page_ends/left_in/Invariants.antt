use Rattle.std.proofs.Common.{◌≡◌, ◌+◌, ◌*◌, ◌<◌, ℕ, length, not, Some, slice_get}
use Rattle.set_model.specs.declared.element.Element.{Element}
use Rattle.bit_rows.specs.Words.{bit_in}
use Rattle.expiry_scan.specs.Expired.{stays}
use Rattle.expiry_scan.proofs.page_ends.left_in.Given as goal

-- the marks of the words before this one
abbrev pub invariant-words : goal.invariant-words
invariant-words l = (length l.words ≡ 8) × ((k : ℕ) (e : Element) → k < 64 * l.w → slice_get l.elements (512 * l.page + k) ≡ Some e → bit_in l.words k ≡ not (stays l.passed e))
