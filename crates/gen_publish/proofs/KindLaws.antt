-- A change of one set keeps the kinds of all, and so the work is still based on the same generation.
use Rattle.std.proofs.Common.{◌≡◌, ◌<◌, refl, sym, ◌∙◌, ap, ℕ, zero, suc, List, [], ◌∷◌, Option, Some, None, Result, Ok, Err, slice_get, slice_set, option_map, length, Bool, true, IsTrue, ◌↔◌, subst, arith}
use Rattle.std.proofs.lemmas.Option.{slice_get-map, slice_get_within, slice_get-get_or}
use Rattle.set_model.specs.declared.kind.Interval.{Interval}
use Rattle.set_model.specs.declared.kind.Kind.{Kind}
use Rattle.set_model.specs.declared.element.NewElement.{NewElement}
use Rattle.set_model.specs.declared.memory.Memory.{Memory as NoMemory}
use Rattle.set_model.specs.declared.script.SetDecl.{SetDecl}
use Rattle.set_model.specs.declared.packet.Packet.{Packet}
use Rattle.set_model.specs.Key.{key_fits, parts_fit}
use Rattle.set_model.specs.SetState.{State, empty_set, element_at, add, removed, exact_place, without_at}
use Rattle.set_model.specs.Control.{Generation}
use Rattle.set_model.specs.Runnable.{IsFitting}
use Rattle.pipapo_image.specs.declared.answers.Added.{Added}
use Rattle.pipapo_image.specs.declared.answers.ChangeError.{ChangeError}
use Rattle.pipapo_image.specs.declared.answers.ChangeError.TheVariants as errors
use Rattle.pipapo_image.specs.Image.Insert.{IsAnswer}
use Rattle.pipapo_image.specs.Image.Remove.{IsRemoval}
use Rattle.pipapo_image.proofs.AddKeeps.{add_keeps}
use Rattle.set_space.specs.Answers.{IsCreation, IsDestruction, IsFlush}
use Rattle.set_space.specs.Open.{Open, FitsSet, IsChange}
use Rattle.history_laws.specs.Histories.{EndsWith}
use Rattle.gen_publish.specs.Publish.{IsSteered, IsSeen, kinds_of, declared_kinds}
use Rattle.gen_publish.proofs.Growing.{steered_by, seen_last, as_many}

-- a set that stays, or is another
stays : (s t : State) → t ≡ s → t.kinds ≡ s.kinds
stays s t e = ap (λ (x : State). x.kinds) e

becomes : (s t u : State) → u.kinds ≡ s.kinds → t ≡ u → t.kinds ≡ s.kinds
becomes s t u same e = ap (λ (x : State). x.kinds) e ∙ same

module _ (s : State) (e : NewElement) (now : ℕ) where
  insertion : (r : Result Added ChangeError) (t : State) → IsAnswer (add s e now) r s t → t.kinds ≡ s.kinds
  insertion (Ok came) t h = becomes s t _ (add_keeps s e now).kinds h.1
  insertion (Err (errors.Refused why)) t h = becomes s t _ (add_keeps s e now).kinds h.1
  insertion (Err errors.Memory) t h = stays s t h

  creation : (r : Result ℕ ChangeError) (t : State) → IsCreation (add s e now) r s t → t.kinds ≡ s.kinds
  creation (Ok id) t h = becomes s t _ (add_keeps s e now).kinds h.1
  creation (Err (errors.Refused why)) t h = stays s t h.1
  creation (Err errors.Memory) t h = stays s t h

module _ (s : State) (parts : List Interval) (now : ℕ) where
  -- the set that is left
  abbrev left : Option (ℕ × State) → State
  left None = s
  left (Some found) = found.1

  by_place : (o : Option ℕ) → (left (option_map {U = ℕ × State} (λ i. ((element_at s i).id, without_at s i)) o)).kinds ≡ s.kinds
  by_place None = refl
  by_place (Some i) = refl

  removal_of : (id : ℕ) (t : State) → removed s parts now ≡ Some (id, t) → t.kinds ≡ s.kinds
  removal_of id t e = ap (λ (x : Option (ℕ × State)). (left x).kinds) (sym e) ∙ by_place (exact_place s parts now)

  removal : (r : Result ℕ ChangeError) (t : State) → IsRemoval (removed s parts now) r s t → t.kinds ≡ s.kinds
  removal (Ok id) t h = removal_of id t h
  removal (Err (errors.Refused why)) t h = stays s t h.2
  removal (Err errors.Memory) t h = stays s t h

  destruction : (r : Result (Option ℕ) NoMemory) (t : State) → IsDestruction (removed s parts now) r s t → t.kinds ≡ s.kinds
  destruction (Ok None) t h = stays s t h.1
  destruction (Ok (Some id)) t h = removal_of id t h
  destruction (Err m) t h = stays s t h

flushed : (s t : State) (r : Result ℕ NoMemory) → IsFlush r s t → t.kinds ≡ s.kinds
flushed s t (Ok n) h = stays (record s { elements = [] }) t h.1
flushed s t (Err m) h = stays s t h

set_kinds : (sets : List State) (i : ℕ) (s t : State) → slice_get sets i ≡ Some s → t.kinds ≡ s.kinds → kinds_of (slice_set sets i t) ≡ kinds_of sets
set_kinds [] i s t h e = absurd (cc h)
set_kinds (x ∷ xs) zero s t h e = let is : x ≡ s = cc h in ap (λ k. k ∷ kinds_of xs) (e ∙ ap (λ (z : State). z.kinds) (sym is))
set_kinds (x ∷ xs) (suc i) s t h e = ap (λ r. x.kinds ∷ r) (set_kinds xs i s t h e)

module _ (schema : List SetDecl) (made : List Generation) (old new : Open) (i : ℕ) (steered : IsSteered schema made old) where
  changed_on : (step : State → State → Type 0) → ((s t : State) → step s t → t.kinds ≡ s.kinds) → IsChange step old i new → IsSteered schema made new
  changed_on step keeps h =
      steered_by schema made old steered new (ap (λ (w : Open). w.base) h.others)
      (ap (λ (w : Open). kinds_of w.sets) h.others ∙ set_kinds old.sets i h.state h.left h.at (keeps h.state h.left h.changed))

  pub insertion_on : (e : NewElement) (now : ℕ) (r : Result Added ChangeError) → IsChange (λ s t. IsAnswer (add s e now) r s t) old i new → IsSteered schema made new
  insertion_on e now r h = changed_on _ (λ s t a. insertion s e now r t a) h

  pub creation_on : (e : NewElement) (now : ℕ) (r : Result ℕ ChangeError) → IsChange (λ s t. IsCreation (add s e now) r s t) old i new → IsSteered schema made new
  creation_on e now r h = changed_on _ (λ s t a. creation s e now r t a) h

  pub removal_on : (parts : List Interval) (now : ℕ) (r : Result ℕ ChangeError) → IsChange (λ s t. IsRemoval (removed s parts now) r s t) old i new → IsSteered schema made new
  removal_on parts now r h = changed_on _ (λ s t a. removal s parts now r t a) h

  pub destruction_on : (parts : List Interval) (now : ℕ) (r : Result (Option ℕ) NoMemory) → IsChange (λ s t. IsDestruction (removed s parts now) r s t) old i new → IsSteered schema made new
  destruction_on parts now r h = changed_on _ (λ s t a. destruction s parts now r t a) h

  pub flush_on : (r : Result ℕ NoMemory) → IsChange (λ s t. IsFlush r s t) old i new → IsSteered schema made new
  flush_on r h = changed_on _ (λ s t a. flushed s t r a) h

-- A set at the place of a declared one has its kinds.
pub declared_at : (schema : List SetDecl) (sets : List State) (set : ℕ) (d : SetDecl) (s : State) → kinds_of sets ≡ declared_kinds schema → slice_get schema set ≡ Some d → slice_get sets set ≡ Some s → s.kinds ≡ d.kinds
declared_at schema sets set d s e h k =
    let left : slice_get (kinds_of sets) set ≡ Some s.kinds = slice_get-map (λ (x : State). x.kinds) sets set ∙ ap (option_map (λ (x : State). x.kinds)) k in
    let right : slice_get (declared_kinds schema) set ≡ Some d.kinds = slice_get-map (λ (x : SetDecl). x.kinds) schema set ∙ ap (option_map (λ (x : SetDecl). x.kinds)) h in
    let both : Some s.kinds ≡ Some d.kinds = sym left ∙ ap (λ (z : List (List Kind)). slice_get z set) e ∙ right in
    cc both

-- A packet that fits the declared sets fits the set at its place in the generation that was seen last.
pub seen_fits : (schema : List SetDecl) (seen : List Generation) (g : Generation) (p : Packet) → IsSeen schema seen → EndsWith seen g → IsFitting schema p
    → (p.set < length g.sets) × ((s : State) → slice_get g.sets p.set ≡ Some s → key_fits s.kinds p.key ≡ true)
seen_fits schema seen g p h ends fits =
    let same = (seen_last schema seen g h ends).1 in let many = as_many g.sets schema same in let within = slice_get_within schema p.set fits.set fits.declared in
    (omega (arith, many, within), λ s at. subst (λ k. key_fits k p.key ≡ true) (sym (declared_at schema g.sets p.set fits.set s same fits.declared at)) fits.fits)

-- Intervals fit an open set exactly if they fit the declared one.
pub fits_open : (schema : List SetDecl) (made : List Generation) (w now : Open) (set : ℕ) (d : SetDecl) (parts : List Interval) (b : Bool) → IsSteered schema made w → w ≡ now → slice_get schema set ≡ Some d
    → b ≡ parts_fit d.kinds parts → IsTrue b ↔ ((set < length now.sets) × FitsSet now set parts)
fits_open schema made w now set d parts b h is declared test =
    let kinds = subst (λ (v : Open). kinds_of v.sets ≡ declared_kinds schema) is h.open_sets in
    let many = as_many now.sets schema kinds in let within = slice_get_within schema set d declared in
    let same = λ (s : State) (at : slice_get now.sets set ≡ Some s). declared_at schema now.sets set d s kinds declared at in (
      λ fit. (omega (arith, many, within), λ s at. subst (λ k. parts_fit k parts ≡ true) (sym (same s at)) (sym test ∙ fit)),
      λ fit. let at = slice_get-get_or now.sets set (empty_set d.kinds d.size d.disjoint) fit.0 in test ∙ subst (λ k. parts_fit k parts ≡ true) (same _ at) (fit.1 _ at),
    )
