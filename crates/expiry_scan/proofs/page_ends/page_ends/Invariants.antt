use Rattle.std.proofs.Common.{◌≡◌, ◌<◌, ◌+◌, ◌*◌, ℕ, Some, slice_get, replicate}
use Rattle.set_model.specs.declared.element.Element.{Element}
use Rattle.expiry_scan.specs.Soonest.{AreEndsOf}
use Rattle.expiry_scan.proofs.page_ends.page_ends.Given as goal

-- ends of the elements before this place, and no marks yet
abbrev pub invariant-elements : goal.invariant-elements
invariant-elements l = record {
  ends : (k : ℕ) (e : Element) → 512 * l.page + k < l.i → slice_get l.elements (512 * l.page + k) ≡ Some e → AreEndsOf l.passed e l.ends;
  marks : l.ends.left ≡ replicate 8 0;
}
