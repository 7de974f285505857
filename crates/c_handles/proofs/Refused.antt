-- What the library refuses, as a fault with its cause.
use Rattle.std.proofs.Common.{◌≡◌, ◌<◌, ◌+◌, ℕ, List, [], ◌∷◌, length, refl, ap, sym, subst, ◌∙◌, true, Option, Some, None, Err, option_map, slice_get}
use Rattle.std.specs.List.{All}
use Rattle.std.proofs.lemmas.Option.{slice_get-map}
use Rattle.std.proofs.lemmas.List.Elements.{All-nil, All-cons}
use Rattle.set_model.specs.Control.{Generation, as_added, as_created, as_deleted}
use Rattle.set_model.specs.SetState.{State, Addition, add, removed}
use Rattle.set_model.specs.SetState.Addition.{Refused as NotAdded}
use Rattle.set_model.specs.Key.{parts_fit}
use Rattle.set_model.specs.declared.kind.Kind.{Kind}
use Rattle.set_model.specs.declared.kind.Interval.{Interval}
use Rattle.set_model.specs.declared.script.SetDecl.{SetDecl}
use Rattle.set_model.specs.declared.element.NewElement.{NewElement}
use Rattle.set_model.specs.declared.report.Why.{Why}
use Rattle.set_model.specs.declared.report.Why.TheVariants.{Missing}
use Rattle.pipapo_image.specs.Image.Insert.{IsAnswer}
use Rattle.pipapo_image.specs.Image.Remove.{IsRemoval}
use Rattle.pipapo_image.specs.declared.answers.ChangeError.{ChangeError}
use Rattle.pipapo_image.specs.declared.answers.ChangeError.TheVariants as errors
use Rattle.set_space.specs.Answers.{IsCreation}
use Rattle.set_space.specs.Open.{Open, IsChange}
use Rattle.gen_publish.specs.Publish.{Steering, ReaderView, AllFresh, kinds_of, declared_kinds}
use Rattle.packed_values.specs.Packed.{parts_in, IsBounds, all_rise}
use Rattle.c_handles.specs.Calls.{IsElement, element_in, kinds_at, kinds_of_set}
use Rattle.c_handles.specs.Causes.{RefusesInsertion, RefusesCreation, RefusesDeletion}
use Rattle.c_handles.specs.Codes.{fault_of}
use Rattle.c_handles.specs.Starting.{IsOf}
use Rattle.c_handles.specs.declared.fault.Fault.{Fault}
use Rattle.c_handles.specs.declared.object.Object.TheVariants.{Control}

pub element_so : (c : Steering) (set : ℕ) (bounds : List ℕ) (d : SetDecl) (kinds : List Kind) (parts : List Interval) → slice_get c.schema set ≡ Some d → kinds ≡ d.kinds → set < length c.schema → IsBounds kinds bounds → parts ≡ parts_in kinds bounds → all_rise parts ≡ true → IsElement c set bounds
element_so c set bounds d kinds parts there same inside two e up =
    let at : kinds ≡ kinds_at c.schema set = same ∙ sym (ap kinds_of_set there) in
    record {
      declared = inside;
      two_keys = subst (λ (ks : List Kind). IsBounds ks bounds) at two;
      rise = subst (λ (ks : List Kind). all_rise (parts_in ks bounds) ≡ true) at (subst (λ (ps : List Interval). all_rise ps ≡ true) e up);
    }

some_same : (a b : List Kind) → Some a ≡ Some b → a ≡ b
some_same a b e = cc e

pub fits_set : (sets : List State) (schema : List SetDecl) (set : ℕ) (d : SetDecl) (kinds : List Kind) (parts : List Interval) (s : State) → kinds_of sets ≡ declared_kinds schema → slice_get schema set ≡ Some d → kinds ≡ d.kinds → parts_fit kinds parts ≡ true
    → slice_get sets set ≡ Some s → parts_fit s.kinds parts ≡ true
fits_set sets schema set d kinds parts s same there e fits at =
    let here : Some s.kinds ≡ slice_get (kinds_of sets) set = sym (slice_get-map (λ (x : State). x.kinds) sets set ∙ ap (option_map (λ (x : State). x.kinds)) at) in
    let declared : slice_get (declared_kinds schema) set ≡ Some d.kinds = slice_get-map (λ (x : SetDecl). x.kinds) schema set ∙ ap (option_map (λ (x : SetDecl). x.kinds)) there in
    let both : d.kinds ≡ s.kinds = sym (some_same s.kinds d.kinds (here ∙ (ap (λ (z : List (List Kind)). slice_get z set) same ∙ declared))) in
    subst (λ (ks : List Kind). parts_fit ks parts ≡ true) (e ∙ both) fits

refused_added : (a : Addition) (t : State) (why : Why) → NotAdded why ≡ a → (as_added (a, t)).0 ≡ Some why
refused_added a t why e = subst (λ (y : Addition). (as_added (y, t)).0 ≡ Some why) e refl

missing : (s : State) (r : Option (ℕ × State)) (why : Why) → r ≡ None → why ≡ Missing → (as_deleted s r).0 ≡ Some why
missing s r why er ew = ap (λ (x : Option (ℕ × State)). (as_deleted s x).0) er ∙ ap Some (sym ew)

pub insertion_refused : (c : Steering) (set : ℕ) (bounds : List ℕ) (expiry : ℕ) (comment : List ℕ) (now : ℕ) (error : ChangeError) (e : NewElement) (new : Open) (fault : Fault) → e ≡ element_in c.schema set bounds expiry comment → IsElement c set bounds
    → IsChange (λ s t. IsAnswer (add s e now) (Err error) s t) c.work set new → fault ≡ fault_of error → RefusesInsertion set bounds expiry comment now (Control c) fault
insertion_refused c set bounds expiry comment now (errors.Refused why) e new fault is el h f =
    subst (λ (x : Fault). RefusesInsertion set bounds expiry comment now (Control c) x) (sym f)
    (el, (h.state, h.at, subst (λ (x : NewElement). (as_added (add h.state x now)).0 ≡ Some why) is (refused_added (add h.state e now).0 (add h.state e now).1 why h.changed.0)))
insertion_refused c set bounds expiry comment now errors.Memory e new fault is el h f = subst (λ (x : Fault). RefusesInsertion set bounds expiry comment now (Control c) x) (sym f) (el.declared, el.two_keys)

pub creation_refused : (c : Steering) (set : ℕ) (bounds : List ℕ) (expiry : ℕ) (comment : List ℕ) (now : ℕ) (error : ChangeError) (e : NewElement) (new : Open) (fault : Fault) → e ≡ element_in c.schema set bounds expiry comment → IsElement c set bounds
    → IsChange (λ s t. IsCreation (add s e now) (Err error) s t) c.work set new → fault ≡ fault_of error → RefusesCreation set bounds expiry comment now (Control c) fault
creation_refused c set bounds expiry comment now (errors.Refused why) e new fault is el h f =
    subst (λ (x : Fault). RefusesCreation set bounds expiry comment now (Control c) x) (sym f)
    (el, (h.state, h.at, subst (λ (x : NewElement). (as_created h.state (add h.state x now)).0 ≡ Some why) is h.changed.0))
creation_refused c set bounds expiry comment now errors.Memory e new fault is el h f = subst (λ (x : Fault). RefusesCreation set bounds expiry comment now (Control c) x) (sym f) (el.declared, el.two_keys)

pub deletion_refused : (c : Steering) (set : ℕ) (bounds : List ℕ) (now : ℕ) (error : ChangeError) (ps : List Interval) (new : Open) (fault : Fault) → ps ≡ parts_in (kinds_at c.schema set) bounds → IsElement c set bounds
    → IsChange (λ s t. IsRemoval (removed s ps now) (Err error) s t) c.work set new → fault ≡ fault_of error → RefusesDeletion set bounds now (Control c) fault
deletion_refused c set bounds now (errors.Refused why) ps new fault is el h f =
    subst (λ (x : Fault). RefusesDeletion set bounds now (Control c) x) (sym f)
    (el, (h.state, h.at, subst (λ (x : List Interval). (as_deleted h.state (removed h.state x now)).0 ≡ Some why) is (missing h.state (removed h.state ps now) why h.changed.1 h.changed.0)))
deletion_refused c set bounds now errors.Memory ps new fault is el h f = subst (λ (x : Fault). RefusesDeletion set bounds now (Control c) x) (sym f) (el.declared, el.two_keys)

-- new readers look up in the declared sets
pub all_of : (c : Steering) (schema t : List SetDecl) (seen : List Generation) (k : ℕ) (ps : List ReaderView) → t ≡ schema → AllFresh c.of schema seen k ps → All (IsOf t) ps
all_of c schema t seen k [] e h = All-nil (IsOf t)
all_of c schema t seen k (p ∷ ps) e h = All-cons (IsOf t) p ps (ap (λ (r : ReaderView). r.schema) h.0 ∙ sym e) (all_of c schema t seen (k + 1) ps e h.1)
