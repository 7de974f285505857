-- The sets of a text's script are sets that a listing can say: the steps keep it.
use Rattle.std.proofs.Common.{◌≡◌, refl, sym, ◌∙◌, ap, subst, ℕ, zero, suc, ◌+◌, ◌-◌, ◌≤◌, Bool, true, false, List, [], ◌∷◌, ◌++◌, length, map, filter, Option, Some, None, IfSome, All, option_map, flat_map, slice_get, slice_set, if◌then◌else◌, arith}
use Rattle.std.specs.List.{zip, AllZip}
use Rattle.std.proofs.lemmas.List.Elements.{All-nil, All-cons, All-head, All-tail, All-push, All-set, All-filter}
use Rattle.set_model.specs.declared.element.Element.{Element}
use Rattle.set_model.specs.declared.element.NewElement.{NewElement}
use Rattle.set_model.specs.declared.report.Event.{Event}
use Rattle.set_model.specs.declared.report.Event.TheVariants as events
use Rattle.set_model.specs.declared.report.Why.{Why}
use Rattle.set_model.specs.declared.script.Script.{Script}
use Rattle.set_model.specs.declared.script.SetDecl.{SetDecl}
use Rattle.set_model.specs.declared.script.Step.{Step}
use Rattle.set_model.specs.declared.script.Step.TheVariants.{Change, Flush, Commit, Abort}
use Rattle.set_model.specs.declared.script.Verb.{Verb}
use Rattle.set_model.specs.declared.script.Verb.TheVariants as verbs
use Rattle.set_model.specs.Key.{parts_fit}
use Rattle.set_model.specs.Expiry.{live, renewed_element}
use Rattle.set_model.specs.Runnable.{HasFields, IsRunnableStep}
use Rattle.set_model.specs.SetState.{State, Addition, element_at, twin_place, start_in_the_way, end_in_the_way, sharing_in_the_way, is_full, crowded_field, with_element, renewed, add, add_by, exact_place, without_at, purged, cleared}
use Rattle.set_model.specs.SetState.Addition.{New, Already, Renewed, Refused}
use Rattle.set_model.specs.Control.{Mode, Strict, KeepGoing, Control, start, step, section, history, answered, changed, changed_set, flushed, refused, rewound, committed, as_added, as_created, as_deleted, as_destroyed, first_generation}
use Rattle.addr_text.specs.Times.{longest_time}
use Rattle.set_script.specs.ScriptText.{IsScriptText}
use Rattle.set_script.proofs.RunLaws.{script_is_read}
use Rattle.listing_laws.specs.Listing.{IsListable, IsListableSet, HasStates, AreListable}
use Rattle.listing_laws.specs.Relisted.{IsGrown}
use Rattle.listing_laws.specs.Rising.{moment_after, Rises}
use Rattle.listing_laws.proofs.GrowingLaws.{item_of, All-without}
use Rattle.listing_laws.proofs.RisingLaws.{joined, all-joined, history-grows}
use Rattle.listing_laws.proofs.TextLaws.{moments-rise}
use Rattle.listing_laws.proofs.ScriptSays.{IsSaid, SaysStep, IsDeclared, script_says}

-- Lists that have a relation item by item.
module _ {X Y : Type 0} (R : X → Y → Type 0) where
  zip-at : (xs : List X) (ys : List Y) (i : ℕ) (x : X) (y : Y) → slice_get xs i ≡ Some x → slice_get ys i ≡ Some y → AllZip R xs ys → R x y
  zip-at [] ys i x y at there h = absurd (cc at)
  zip-at (a ∷ xs) [] i x y at there h = absurd h
  zip-at (a ∷ xs) (b ∷ ys) zero x y at there h = let same : a ≡ x = cc at in let also : b ≡ y = cc there in subst (λ (z : Y). R x z) also (subst (λ (z : X). R z b) same h.0)
  zip-at (a ∷ xs) (b ∷ ys) (suc i) x y at there h = zip-at xs ys i x y at there h.1

  zip-set : (xs : List X) (ys : List Y) (i : ℕ) (x : X) (y : Y) → slice_get xs i ≡ Some x → R x y → AllZip R xs ys → AllZip R xs (slice_set ys i y)
  zip-set [] ys i x y at r h = absurd (cc at)
  zip-set (a ∷ xs) [] i x y at r h = absurd h
  zip-set (a ∷ xs) (b ∷ ys) zero x y at r h = let same : a ≡ x = cc at in (subst (λ (z : X). R z y) (sym same) r, h.1)
  zip-set (a ∷ xs) (b ∷ ys) (suc i) x y at r h = (h.0, zip-set xs ys i x y at r h.1)

  zip-long : (xs : List X) (ys : List Y) → AllZip R xs ys → length xs ≡ length ys
  zip-long [] [] h = refl
  zip-long [] (b ∷ ys) h = absurd h
  zip-long (a ∷ xs) [] h = absurd h
  zip-long (a ∷ xs) (b ∷ ys) h = ap suc (zip-long xs ys h.1)

  -- what follows of each pair
  zip-each : (P : X → Type 0) (Q : Y → Type 0) (S : X × Y → Type 0) → ((x : X) (y : Y) → P x → Q y → R x y → S (x, y)) → (xs : List X) (ys : List Y) → All P xs → All Q ys → AllZip R xs ys → All S (zip xs ys)
  zip-each P Q S each [] ys p q h = All-nil S
  zip-each P Q S each (a ∷ xs) [] p q h = absurd h
  zip-each P Q S each (a ∷ xs) (b ∷ ys) p q h =
      All-cons S (a, b) (zip xs ys) (each a b (All-head P a xs p) (All-head Q b ys q) h.0) (zip-each P Q S each xs ys (All-tail P a xs p) (All-tail Q b ys q) h.1)

-- A set that has this declaration, with elements that a text can say at the last moment.
record Has (last : ℕ) (d : SetDecl) (s : State) : Type 0 where
  kinds : s.kinds ≡ d.kinds
  size : s.size ≡ d.size
  disjoint : s.disjoint ≡ d.disjoint
  elements : All (IsListable d last) s.elements

module _ (last : ℕ) (d : SetDecl) where
  -- an expiry that a text can say at the last moment
  abbrev IsShort : Option ℕ → Type 0
  IsShort o = IfSome o (λ t. (d.timed ≡ true) × (t - last ≤ longest_time))

  said-short : (now : ℕ) (o : Option ℕ) → now ≤ last → IfSome o (λ t. (d.timed ≡ true) × (t ≤ now + longest_time)) → IsShort o
  said-short now None le h = tt
  said-short now (Some t) le h = (h.0, omega (arith, le, h.1))

  module _ (s : State) (k : Has last d s) where
    other-elements : (es : List Element) (n : ℕ) → All (IsListable d last) es → Has last d (record s { elements = es; next = n })
    other-elements es n h = record { kinds = k.kinds; size = k.size; disjoint = k.disjoint; elements = h }

    renewed-has : (i m : ℕ) → IsShort (Some m) → Has last d (renewed s i (Some m))
    renewed-has i m short = go (slice_get s.elements i) refl where
      go : (o : Option Element) → slice_get s.elements i ≡ o → Has last d (record s { elements = renewed_element s.elements i (Some m) o })
      go None at = other-elements s.elements s.next k.elements
      go (Some x) at =
          let is = item_of (IsListable d last) s.elements i x k.elements at in
          other-elements (slice_set s.elements i (record x { expiry = Some m })) s.next
          (All-set (IsListable d last) s.elements i (record x { expiry = Some m }) (record { fits = is.fits; single = is.single; timed = short; comment = is.comment }) k.elements)

    module _ (e : NewElement) (now : ℕ) (le : now ≤ last) (fits : parts_fit d.kinds e.parts ≡ true) (said : IsSaid d now e) where
      short : IsShort e.expiry
      short = said-short now e.expiry le said.timed

      new-has : Has last d (with_element s e)
      new-has =
          let is : IsListable d last (record { id = s.next; parts = e.parts; expiry = e.expiry; comment = e.comment }) = record { fits = fits; single = said.single; timed = short; comment = said.comment } in
          other-elements (s.elements ++ record { id = s.next; parts = e.parts; expiry = e.expiry; comment = e.comment } ∷ []) (s.next + 1)
          (All-push (IsListable d last) s.elements (record { id = s.next; parts = e.parts; expiry = e.expiry; comment = e.comment }) k.elements is)

      by-case : (twin expiry a b c : Option ℕ) (full : Bool) (crowded : Option ℕ) → IsShort expiry → Has last d (add_by s e twin expiry a b c full crowded).1
      by-case (Some i) None a b c full crowded h = k
      by-case (Some i) (Some m) a b c full crowded h = renewed-has i m h
      by-case None expiry (Some i) b c full crowded h = k
      by-case None expiry None (Some i) c full crowded h = k
      by-case None expiry None None (Some i) full crowded h = k
      by-case None expiry None None None true crowded h = k
      by-case None expiry None None None false (Some f) h = k
      by-case None expiry None None None false None h = new-has

      added-has : Has last d (add s e now).1
      added-has = by-case (twin_place s e.parts now) e.expiry (start_in_the_way s e.parts now) (end_in_the_way s e.parts now) (sharing_in_the_way s e.parts now) (is_full s) (crowded_field s e.parts) short

      by-addition : (r : Addition × State) → Has last d r.1 → Has last d (as_added r).1
      by-addition (New id, t) h = h
      by-addition (Already id, t) h = h
      by-addition (Renewed id, t) h = h
      by-addition (Refused why, t) h = h

      by-creation : (r : Addition × State) → Has last d r.1 → Has last d (as_created s r).1
      by-creation (New id, t) h = h
      by-creation (Already id, t) h = k
      by-creation (Renewed id, t) h = k
      by-creation (Refused why, t) h = k

      without-has : (i : ℕ) → Has last d (without_at s i)
      without-has i = record { kinds = k.kinds; size = k.size; disjoint = k.disjoint; elements = All-without (IsListable d last) s.elements i k.elements }

      by-deletion : (o : Option ℕ) → Has last d (as_deleted s (option_map (λ i. ((element_at s i).id, without_at s i)) o)).1
      by-deletion None = k
      by-deletion (Some i) = without-has i

      by-destruction : (o : Option ℕ) → Has last d (as_destroyed s (option_map (λ i. ((element_at s i).id, without_at s i)) o)).1
      by-destruction None = k
      by-destruction (Some i) = without-has i

      changed-has : (verb : Verb) → Has last d (changed_set verb s e now).1
      changed-has verbs.Add = by-addition (add s e now) added-has
      changed-has verbs.Create = by-creation (add s e now) added-has
      changed-has verbs.Delete = by-deletion (exact_place s e.parts now)
      changed-has verbs.Destroy = by-destruction (exact_place s e.parts now)

    purged-has : (now : ℕ) → Has last d (purged s now)
    purged-has now = other-elements (filter (λ e. live e now) s.elements) s.next (All-filter (λ e. live e now) (IsListable d last) s.elements k.elements)

    cleared-has : Has last d (cleared s)
    cleared-has = other-elements [] s.next (All-nil (IsListable d last))

-- the sets of the last generation and the open sets
record Holds (last : ℕ) (schema : List SetDecl) (c : Control) : Type 0 where
  last_sets : AllZip (Has last) schema c.last.sets
  sets : AllZip (Has last) schema c.sets

all-purged : (last now : ℕ) (schema : List SetDecl) (sets : List State) → AllZip (Has last) schema sets → AllZip (Has last) schema (map (λ s. purged s now) sets)
all-purged last now [] [] h = h
all-purged last now [] (s ∷ sets) h = h
all-purged last now (d ∷ schema) [] h = h
all-purged last now (d ∷ schema) (s ∷ sets) h = (purged-has last d s h.0 now, all-purged last now schema sets h.1)

all-empty : (last : ℕ) (schema : List SetDecl) → AllZip (Has last) schema (first_generation schema).sets
all-empty last [] = tt
all-empty last (d ∷ schema) = (record { kinds = refl; size = refl; disjoint = refl; elements = All-nil (IsListable d last) }, all-empty last schema)

module _ (last : ℕ) (schema : List SetDecl) (mode : Mode) (c : Control) (h : Holds last schema c) where
  either : (b : Bool) (x y : Control) → Holds last schema x → Holds last schema y → Holds last schema (if b then x else y)
  either true x y p q = p
  either false x y p q = q

  by-refusal : (m : Mode) (line set : ℕ) (why : Why) → Holds last schema (refused m c line set why)
  by-refusal Strict line set why = record { last_sets = h.last_sets; sets = h.sets }
  by-refusal KeepGoing line set why = record { last_sets = h.last_sets; sets = h.sets }

  by-answer : (line set : ℕ) (d : SetDecl) → slice_get schema set ≡ Some d → (x : Option Why × State) → Has last d x.1 → Holds last schema (answered mode c line set x)
  by-answer line set d at (Some why, s) k = by-refusal mode line set why
  by-answer line set d at (None, s) k = record { last_sets = h.last_sets; sets = zip-set (Has last) schema c.sets set d s at k h.sets }

  by-change : (line set : ℕ) (verb : Verb) (e : NewElement) (now : ℕ) → now ≤ last → (d : SetDecl) → slice_get schema set ≡ Some d → parts_fit d.kinds e.parts ≡ true → IsSaid d now e
      → (o : Option State) → slice_get c.sets set ≡ o → Holds last schema (changed mode c line set verb e now o)
  by-change line set verb e now le d at fits said None there = h
  by-change line set verb e now le d at fits said (Some s) there = by-answer line set d at (changed_set verb s e now) (changed-has last d s (zip-at (Has last) schema c.sets set d s at there h.sets) e now le fits said verb)

  by-flush : (set : ℕ) (d : SetDecl) → slice_get schema set ≡ Some d → (o : Option State) → slice_get c.sets set ≡ o → Holds last schema (flushed c set o)
  by-flush set d at None there = h
  by-flush set d at (Some s) there = record { last_sets = h.last_sets; sets = zip-set (Has last) schema c.sets set d (cleared s) at (cleared-has last d s (zip-at (Has last) schema c.sets set d s at there h.sets)) h.sets }

  by-end : (event : Event) → Holds last schema (rewound c event)
  by-end event = record { last_sets = h.last_sets; sets = h.last_sets }

  by-commit : (now : ℕ) → Holds last schema (committed c now)
  by-commit now = let all = all-purged last now schema c.sets h.sets in record { last_sets = all; sets = all }

  step-holds : (first : ℕ) (s : Step) → moment_after first s ≤ last → IsRunnableStep schema s → SaysStep schema s → Holds last schema (step mode c s)
  step-holds first (Change line set verb e now) le fits says =
      let same : says.0 ≡ fits.0 = let both : Some says.0 ≡ Some fits.0 = sym says.1 ∙ fits.1 in cc both in
      either c.failed c _ h (by-change line set verb e now le fits.0 fits.1 fits.2 (subst (λ (d : SetDecl). IsSaid d now e) same says.2) (slice_get c.sets set) refl)
  step-holds first (Flush line set now) le fits says = either c.failed c _ h (by-flush set fits.0 fits.1 (slice_get c.sets set) refl)
  step-holds first (Commit now) le fits says = either c.failed _ _ (by-end (events.Dropped c.last.number)) (by-commit now)
  step-holds first Abort le fits says = by-end (events.Aborted c.last.number)

-- no step is after the last moment
rises-to : (steps : List Step) (first last : ℕ) → Rises first steps last → first ≤ last
rises-to [] first last h = h
rises-to (s ∷ steps) first last h = omega (arith, h.0, rises-to steps (moment_after first s) last h.1)

steps-hold : (last : ℕ) (schema : List SetDecl) (mode : Mode) (steps : List Step) (first : ℕ) (c : Control) → All (IsRunnableStep schema) steps → All (SaysStep schema) steps → Rises first steps last
    → Holds last schema c → Holds last schema (section mode c steps)
steps-hold last schema mode [] first c runs says rises h = h
steps-hold last schema mode (s ∷ steps) first c runs says rises h =
    let le = rises-to steps (moment_after first s) last rises.1 in
    let one = step-holds last schema mode c h first s le (All-head (IsRunnableStep schema) s steps runs) (All-head (SaysStep schema) s steps says) in
    steps-hold last schema mode steps (moment_after first s) (step mode c s) (All-tail (IsRunnableStep schema) s steps runs) (All-tail (SaysStep schema) s steps says) rises.1 one

-- a declaration, beside what running it asks for
record IsSetOf (d : SetDecl) : Type 0 where
  declared : IsDeclared d
  fields : HasFields d

both-sets : (schema : List SetDecl) → All IsDeclared schema → All HasFields schema → All IsSetOf schema
both-sets schema a b = λ i d lt. record { declared = a i d lt; fields = b i d lt }

timeout-is : (d : SetDecl) → IsDeclared d → IfSome d.timeout (λ t. (d.timed ≡ true) × (t ≤ longest_time))
timeout-is d k = go d.timeout k.timeout where
  go : (o : Option ℕ) → ((t : ℕ) → o ≡ Some t → (d.timed ≡ true) × (t ≤ longest_time)) → IfSome o (λ t. (d.timed ≡ true) × (t ≤ longest_time))
  go None h = tt
  go (Some t) h = h t refl

listable-set : (last : ℕ) (d : SetDecl) (s : State) → IsSetOf d → Has last d s → IsListableSet last d s
listable-set last d s is k = record {
  table = is.declared.table;
  name = is.declared.name;
  fields = is.fields;
  narrow = is.declared.narrow;
  size = is.declared.size;
  timeout = timeout-is d is.declared;
  elements = k.elements;
}

module _ (mode : Mode) (text : List ℕ) (s : Script) (means : IsScriptText text s) where
  abbrev sets : List State
  sets = (history mode s.schema s.sections).last.sets

  history-holds : AllZip (Has s.last) s.schema sets
  history-holds =
      let steps = flat_map (λ (x : List Step). x) s.sections in
      let runs = script_is_read text s means in
      let says = script_says text s means in
      let begun : Holds s.last s.schema (start s.schema) = record { last_sets = all-empty s.last s.schema; sets = all-empty s.last s.schema } in
      let whole = steps-hold s.last s.schema mode steps 0 (start s.schema) (all-joined (IsRunnableStep s.schema) s.sections runs.steps) (all-joined (SaysStep s.schema) s.sections says.steps) (moments-rise text s means) begun in
      subst (λ (c : Control). AllZip (Has s.last) s.schema c.last.sets) (sym (joined mode s.schema (start s.schema) s.sections)) whole.last_sets

  pub are-listable : AreListable s.last s.schema sets
  are-listable =
      let runs = script_is_read text s means in
      let says = script_says text s means in
      record {
        states = zip-long (Has s.last) s.schema sets history-holds;
        each = zip-each (Has s.last) IsSetOf (λ _. Unit {0}) (λ p. IsListableSet s.last p.0 p.1) (λ d t is u k. listable-set s.last d t is k) s.schema sets (both-sets s.schema says.sets runs.sets) (λ i x lt. tt) history-holds;
        few = runs.few_sets;
        apart = says.apart;
      }

  pub have-states : All (HasStates s.last) (zip s.schema sets)
  have-states =
      let runs = script_is_read text s means in
      let grown = history-grows mode s.schema s.sections s.last runs.steps (moments-rise text s means) in
      zip-each (Has s.last) (λ _. Unit {0}) (IsGrown s.last) (HasStates s.last) (λ d t u grows k. record { kinds = k.kinds; size = k.size; disjoint = k.disjoint; grown = grows }) s.schema sets (λ i x lt. tt) grown history-holds
