-- Steps fit all declared sets of the same kinds.
use Rattle.std.proofs.Common.{◌≡◌, refl, sym, ◌∙◌, ap, subst, ℕ, zero, suc, ◌<◌, List, [], ◌∷◌, All, length, take, Option, Some, None, slice_get, option_map, IsTrue, arith}
use Rattle.std.proofs.lemmas.Option.{slice_get-map}
use Rattle.std.proofs.lemmas.List.Elements.{All-weaker}
use Rattle.set_model.specs.declared.kind.Kind.{Kind}
use Rattle.set_model.specs.declared.script.SetDecl.{SetDecl}
use Rattle.set_model.specs.declared.script.Step.{Step}
use Rattle.set_model.specs.declared.script.Step.TheVariants.{Change, Flush, Commit, Abort}
use Rattle.set_model.specs.Control.{Generation}
use Rattle.set_model.specs.Key.{parts_fit}
use Rattle.set_model.specs.Runnable.{IsRunnableStep}
use Rattle.gen_publish.specs.Publish.{Grown, declared_kinds}

-- If generations have the sets of both, both declare sets of the same kinds.
pub same_kinds : (a b : List SetDecl) (all : List Generation) (from : ℕ) → 0 < from → 0 < length all → Grown a 0 (take from all) → Grown b 0 all → declared_kinds a ≡ declared_kinds b
same_kinds a b [] from some_from some_all grown_a grown_b = absurd (omega arith)
same_kinds a b (g ∷ gs) zero some_from some_all grown_a grown_b = absurd (omega arith)
same_kinds a b (g ∷ gs) (suc n) some_from some_all grown_a grown_b = sym grown_a.1 ∙ grown_b.1

kinds_there : (o : Option SetDecl) (kinds : List Kind) → option_map (λ d. d.kinds) o ≡ Some kinds → (d : SetDecl) × (o ≡ Some d) × (d.kinds ≡ kinds)
kinds_there None kinds e = absurd (cc e)
kinds_there (Some d) kinds e = (d, refl, cc e)

set_there : (a b : List SetDecl) (set : ℕ) (d : SetDecl) → declared_kinds a ≡ declared_kinds b → slice_get a set ≡ Some d → (e : SetDecl) × (slice_get b set ≡ Some e) × (e.kinds ≡ d.kinds)
set_there a b set d same there = kinds_there (slice_get b set) d.kinds
    (sym (slice_get-map (λ (x : SetDecl). x.kinds) b set) ∙ ap (λ (z : List (List Kind)). slice_get z set) (sym same) ∙ slice_get-map (λ (x : SetDecl). x.kinds) a set ∙ ap (option_map (λ (x : SetDecl). x.kinds)) there)

fits_step : (a b : List SetDecl) → declared_kinds a ≡ declared_kinds b → (s : Step) → IsRunnableStep a s → IsRunnableStep b s
fits_step a b same (Change line set verb element now) fits = let e = set_there a b set fits.0 same fits.1 in (e.0, e.1, subst (λ kinds. IsTrue (parts_fit kinds element.parts)) (sym e.2) fits.2)
fits_step a b same (Flush line set now) fits = let e = set_there a b set fits.0 same fits.1 in (e.0, e.1)
fits_step a b same (Commit now) fits = tt
fits_step a b same Abort fits = tt

pub fits_all : (a b : List SetDecl) → declared_kinds a ≡ declared_kinds b → (steps : List Step) → All (IsRunnableStep a) steps → All (IsRunnableStep b) steps
fits_all a b same steps fits = All-weaker (IsRunnableStep a) (IsRunnableStep b) (fits_step a b same) steps fits
