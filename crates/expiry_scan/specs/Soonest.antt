-- Moments before which no element of a page is expired.
use Rattle.std.specs.Prelude.{◌≡◌, ℕ, ◌+◌, ◌-◌, ◌*◌, ◌^◌, ◌<◌, ◌≤◌, false, not, if◌then◌else◌, Option, Some, List, length, slice_get, unwrap_or}
use Rattle.set_model.specs.declared.element.Element.{Element}
use Rattle.bit_rows.specs.Words.{bit_in}
use Rattle.expiry_scan.specs.declared.page_ends.PageEnds.{PageEnds}
use Rattle.expiry_scan.specs.Expired.{is_expired, stays, is_leaving}

-- the moment from which on a staying element is expired; the last moment if it never expires or has
-- left
abbrev pub end_of : Option ℕ → Element → ℕ
end_of passed e = if stays passed e then unwrap_or e.expiry (2 ^ 64 - 1) else 2 ^ 64 - 1

-- The element is expired at no moment before `all`. At no moment before `staying` it is still in
-- the set and expired.
abbrev pub AreEndsOf : Option ℕ → Element → PageEnds → Type 0
AreEndsOf passed e ends = ((now : ℕ) → now < ends.all → is_expired now e ≡ false) × ((now : ℕ) → now < ends.staying → is_leaving passed now e ≡ false)

-- The bits of eight words say which elements of a page of 512 left.
abbrev pub AreMarks : Option ℕ → List Element → ℕ → List ℕ → Type 0
AreMarks passed elements page words = (length words ≡ 8) × ((k : ℕ) (e : Element) → k < 512 → slice_get elements (512 * page + k) ≡ Some e → bit_in words k ≡ not (stays passed e))

-- The page has such moments for each of its elements, and its words say which elements left. The
-- words hold as long as no more elements have left by `passed`.
pub record ArePageEnds (passed : Option ℕ) (elements : List Element) (page : ℕ) (ends : PageEnds) : Type 0 where
  pub moments : (k : ℕ) (e : Element) → k < 512 → slice_get elements (512 * page + k) ≡ Some e → AreEndsOf passed e ends
  pub marks : unwrap_or passed 0 < ends.staying → AreMarks passed elements page ends.left

-- The first pages of a list, or all pages, have such moments.
abbrev pub AreEnds : Option ℕ → List Element → List PageEnds → Type 0
AreEnds passed elements pages = (512 * length pages < length elements + 512)
    × ((page : ℕ) (ends : PageEnds) → slice_get pages page ≡ Some ends → ArePageEnds passed elements page ends)

-- No element of a page is still in the set and expired now.
abbrev pub HasNoneLeaving : Option ℕ → ℕ → List Element → ℕ → Type 0
HasNoneLeaving passed now elements page = (k : ℕ) (e : Element) → k < 512 → slice_get elements (512 * page + k) ≡ Some e → is_leaving passed now e ≡ false

-- Two lists of elements differ at one place alone. The other list may have one more element there.
abbrev pub DifferAt : ℕ → List Element → List Element → Type 0
DifferAt i elements others = (length elements ≤ length others)
    × ((k : ℕ) (e : Element) → slice_get others k ≡ Some e → (k ≡ i → ⊥) → slice_get elements k ≡ Some e)
