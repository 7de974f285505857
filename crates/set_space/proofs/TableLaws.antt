-- The tables of a published set, and the sets that a commit leaves as they are.
use Rattle.std.proofs.Common.{◌≡◌, refl, sym, ◌∙◌, ap, subst, ℕ, max, Bool, true, false, ◌&&◌, cond, List, [], ◌∷◌, Option, Some, None}
use Rattle.std.specs.Prelude.{filter, find, option_map}
use Rattle.std.proofs.lemmas.Option.{slice_get-map}
use Rattle.set_model.specs.declared.element.Element.{Element}
use Rattle.set_model.specs.Expiry.{live}
use Rattle.set_model.specs.SetState.{State, answers, first, purged}
use Rattle.expiry_scan.specs.Expired.{stays}
use Rattle.pipapo_image.specs.declared.index.Index.{Index}
use Rattle.pipapo_image.specs.Index.{IsIndexOf}
use Rattle.pipapo_image.proofs.Purging.{all_stay}
use Rattle.set_space.specs.LazyImage.{moment}
use Rattle.set_space.specs.Staying.{staying}
use Rattle.set_space.specs.Tables.{HasTables}
use Rattle.set_space.specs.Unchanged.{KeepsUnchanged}
use Rattle.set_space.proofs.GapLaws.{kinds_stay}
use Rattle.set_space.proofs.KeptSets.{live-both, answers-both}

-- ---- the tables
all-pass : (es : List Element) → filter (stays None) es ≡ es
all-pass [] = refl
all-pass (e ∷ es) = ap (λ xs. e ∷ xs) (all-pass es)

others-stay : (passed : Option ℕ) (image : State) → (staying passed image).elements ≡ filter (stays passed) image.elements
others-stay None image = sym (all-pass image.elements)
others-stay (Some m) image = refl

left-expired : (passed : Option ℕ) (e : Element) (now : ℕ) → stays passed e ≡ false → live e (moment passed now) ≡ false
left-expired None e now h = absurd (cc h)
left-expired (Some m) e now h = live-both e.expiry m now ∙ ap (λ t. t && live e now) h

-- the first item that passes a test among those that pass another one
find-both : (q both p : Element → Bool) → ((e : Element) → both e ≡ (q e && p e)) → (es : List Element) → find p (filter q es) ≡ find both es
find-both q both p each [] = refl
find-both q both p each (e ∷ es) = go (q e) (find-both q both p each es) ∙ sym (ap (λ t. cond t (Some e) (find both es)) (each e)) where
  go : (t : Bool) → find p (filter q es) ≡ find both es → find p (cond t (e ∷ filter q es) (filter q es)) ≡ cond (t && p e) (Some e) (find both es)
  go true ih = ap (λ z. cond (p e) (Some e) z) ih
  go false ih = ih

first-stays : (passed : Option ℕ) (image : State) (key : List ℕ) (now : ℕ) → first (staying passed image) key now ≡ find (answers key (moment passed now)) image.elements
first-stays None image key now = refl
first-stays (Some m) image key now = find-both (λ e. live e m) (answers key (max m now)) (answers key now) (answers-both key m now) image.elements

pub has-tables : (passed : Option ℕ) (image s : State) (index : Index) → IsIndexOf image.kinds image.elements index → staying passed image ≡ s → HasTables s index
has-tables passed image s index tables is = subst (λ z. HasTables z index) is (record {
  elements = image.elements;
  passed = passed;
  tables = subst (λ ks. IsIndexOf ks image.elements index) (sym (kinds_stay passed image)) tables;
  others = others-stay passed image;
  left = left-expired passed;
  first_is = first-stays passed image;
})

-- ---- a commit
pub keeps-unchanged : KeepsUnchanged
keeps-unchanged w now set s base same none =
    slice_get-map (λ z. purged z now) w.sets set ∙ ap (option_map (λ (z : State). purged z now)) same ∙ ap Some (sym (all_stay s now none)) ∙ sym base
