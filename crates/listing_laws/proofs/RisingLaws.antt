-- The sets of a script whose moments never fall read back.
use Rattle.std.proofs.Common.{◌≡◌, refl, sym, ◌∙◌, subst, ℕ, ◌≤◌, ◌==◌, Bool, true, false, nat_le, if◌then◌else◌, List, [], ◌∷◌, length, map, fold, flat_map, Option, Some, None, All, slice_get, arith}
use Rattle.std.proofs.lemmas.Bool.{leb-true, eqb-true, and_parts}
use Rattle.std.proofs.lemmas.List.Elements.{All-nil, All-cons, All-head, All-tail, All-set, All-append}
use Rattle.std.proofs.lemmas.List.Sums.{fold-append}
use Rattle.set_model.specs.declared.kind.Kind.{Kind}
use Rattle.set_model.specs.declared.kind.Interval.{Interval}
use Rattle.set_model.specs.declared.element.NewElement.{NewElement}
use Rattle.set_model.specs.declared.report.Event.{Event}
use Rattle.set_model.specs.declared.report.Event.TheVariants as events
use Rattle.set_model.specs.declared.report.Why.{Why}
use Rattle.set_model.specs.declared.script.SetDecl.{SetDecl}
use Rattle.set_model.specs.declared.script.Step.{Step}
use Rattle.set_model.specs.declared.script.Step.TheVariants.{Change, Flush, Commit, Abort}
use Rattle.set_model.specs.declared.script.Verb.{Verb}
use Rattle.set_model.specs.Key.{is_good, is_value, intervals_fit, parts_fit}
use Rattle.set_model.specs.SetState.{State, empty_set, purged, cleared}
use Rattle.set_model.specs.Control.{Mode, Strict, KeepGoing, Control, start, first_generation, step, section, history, answered, changed, changed_set, flushed, refused, rewound, committed}
use Rattle.set_model.specs.Runnable.{IsRunnableStep}
use Rattle.listing_laws.specs.Relisted.{IsGrown, ReadsBack}
use Rattle.listing_laws.specs.Rising.{moment_after, Rises}
use Rattle.listing_laws.proofs.RelistedLaws.{reads-back}
use Rattle.listing_laws.proofs.GrowingLaws.{item_of, later_grown, empty_grown, purged_grown, cleared_grown, changed_grown}

-- the sets of the last generation and the open sets are grown
record Grows (now : ℕ) (c : Control) : Type 0 where
  last : All (IsGrown now) c.last.sets
  sets : All (IsGrown now) c.sets

all-later : (now later : ℕ) (sets : List State) → now ≤ later → All (IsGrown now) sets → All (IsGrown later) sets
all-later now later sets le h k d lt = later_grown now later _ le (h k d lt)

grows-later : (now later : ℕ) (c : Control) → now ≤ later → Grows now c → Grows later c
grows-later now later c le h = record { last = all-later now later c.last.sets le h.last; sets = all-later now later c.sets le h.sets }

rising-parts : (kinds : List Kind) (parts : List Interval) → length kinds ≡ length parts → intervals_fit kinds parts ≡ true → All (λ (p : Interval). p.low ≤ p.high) parts
rising-parts kinds [] n h = All-nil (λ (p : Interval). p.low ≤ p.high)
rising-parts [] (p ∷ parts) n h = absurd (omega (arith, n))
rising-parts (k ∷ kinds) (p ∷ parts) n h =
    let both = and_parts (is_good k p) (intervals_fit kinds parts) h in
    All-cons (λ (q : Interval). q.low ≤ q.high) p parts (leb-true p.low p.high (and_parts (nat_le p.low p.high) (is_value k p.high) both.0).0) (rising-parts kinds parts (omega (arith, n)) both.1)

fitting-parts : (kinds : List Kind) (parts : List Interval) → parts_fit kinds parts ≡ true → All (λ (p : Interval). p.low ≤ p.high) parts
fitting-parts kinds parts h = let both = and_parts (length kinds == length parts) (intervals_fit kinds parts) h in rising-parts kinds parts (eqb-true (length kinds) (length parts) both.0) both.1

all-purged : (now : ℕ) (sets : List State) → All (IsGrown now) sets → All (IsGrown now) (map (λ s. purged s now) sets)
all-purged now [] h = h
all-purged now (s ∷ sets) h =
    All-cons (IsGrown now) (purged s now) (map (λ t. purged t now) sets) (purged_grown now s (All-head (IsGrown now) s sets h) now) (all-purged now sets (All-tail (IsGrown now) s sets h))

all-empty : (now : ℕ) (schema : List SetDecl) → All (IsGrown now) (first_generation schema).sets
all-empty now [] = All-nil (IsGrown now)
all-empty now (d ∷ schema) = All-cons (IsGrown now) (empty_set d.kinds d.size d.disjoint) (first_generation schema).sets (empty_grown now d.kinds d.size d.disjoint) (all-empty now schema)

module _ (mode : Mode) (now : ℕ) (c : Control) (h : Grows now c) where
  either : (b : Bool) (x y : Control) → Grows now x → Grows now y → Grows now (if b then x else y)
  either true x y p q = p
  either false x y p q = q

  by-refusal : (m : Mode) (line set : ℕ) (why : Why) → Grows now (refused m c line set why)
  by-refusal Strict line set why = record { last = h.last; sets = h.sets }
  by-refusal KeepGoing line set why = record { last = h.last; sets = h.sets }

  by-answer : (line set : ℕ) (x : Option Why × State) → IsGrown now x.1 → Grows now (answered mode c line set x)
  by-answer line set (Some why, s) k = by-refusal mode line set why
  by-answer line set (None, s) k = record { last = h.last; sets = All-set (IsGrown now) c.sets set s k h.sets }

  by-change : (line set : ℕ) (verb : Verb) (e : NewElement) → All (λ (p : Interval). p.low ≤ p.high) e.parts → (o : Option State) → slice_get c.sets set ≡ o → Grows now (changed mode c line set verb e now o)
  by-change line set verb e good None at = h
  by-change line set verb e good (Some s) at = by-answer line set (changed_set verb s e now) (changed_grown now s (item_of (IsGrown now) c.sets set s h.sets at) verb e good)

  by-flush : (set : ℕ) (o : Option State) → slice_get c.sets set ≡ o → Grows now (flushed c set o)
  by-flush set None at = h
  by-flush set (Some s) at = record { last = h.last; sets = All-set (IsGrown now) c.sets set (cleared s) (cleared_grown now s (item_of (IsGrown now) c.sets set s h.sets at)) h.sets }

  by-end : (event : Event) → Grows now (rewound c event)
  by-end event = record { last = h.last; sets = h.last }

  by-commit : Grows now (committed c now)
  by-commit = let all = all-purged now c.sets h.sets in record { last = all; sets = all }

module _ (mode : Mode) (schema : List SetDecl) where
  step-grows : (now : ℕ) (c : Control) (s : Step) → now ≤ moment_after now s → IsRunnableStep schema s → Grows now c → Grows (moment_after now s) (step mode c s)
  step-grows now c (Change line set verb e at) le fits h =
      let k = grows-later now at c le h in
      either mode at c k c.failed c _ k (by-change mode at c k line set verb e (fitting-parts fits.0.kinds e.parts fits.2) (slice_get c.sets set) refl)
  step-grows now c (Flush line set at) le fits h = let k = grows-later now at c le h in either mode at c k c.failed c _ k (by-flush mode at c k set (slice_get c.sets set) refl)
  step-grows now c (Commit at) le fits h = let k = grows-later now at c le h in either mode at c k c.failed _ _ (by-end mode at c k (events.Dropped c.last.number)) (by-commit mode at c k)
  step-grows now c Abort le fits h = by-end mode now c h (events.Aborted c.last.number)

  steps-grow : (steps : List Step) (now last : ℕ) (c : Control) → All (IsRunnableStep schema) steps → Rises now steps last → Grows now c → Grows last (section mode c steps)
  steps-grow [] now last c all rises h = grows-later now last c rises h
  steps-grow (s ∷ steps) now last c all rises h =
      steps-grow steps (moment_after now s) last (step mode c s) (All-tail (IsRunnableStep schema) s steps all) rises.1 (step-grows now c s rises.0 (All-head (IsRunnableStep schema) s steps all) h)

  -- sections one after another are the steps of all of them
  pub joined : (c : Control) (sections : List (List Step)) → fold (section mode) c sections ≡ section mode c (flat_map (λ steps. steps) sections)
  joined c [] = refl
  joined c (x ∷ sections) = joined (section mode c x) sections ∙ sym (fold-append (step mode) c x (flat_map (λ steps. steps) sections))

pub all-joined : {X : Type 0} (P : X → Type 0) (xss : List (List X)) → All (All P) xss → All P (flat_map (λ xs. xs) xss)
all-joined P [] h = All-nil P
all-joined P (xs ∷ xss) h = All-append P xs (flat_map (λ ys. ys) xss) (All-head (All P) xs xss h) (all-joined P xss (All-tail (All P) xs xss h))

pub history-grows : (mode : Mode) (schema : List SetDecl) (sections : List (List Step)) (now : ℕ)
    → All (All (IsRunnableStep schema)) sections → Rises 0 (flat_map (λ steps. steps) sections) now → All (IsGrown now) (history mode schema sections).last.sets
history-grows mode schema sections now all rises =
    let steps = flat_map (λ (x : List Step). x) sections in
    let grows = steps-grow mode schema steps 0 now (start schema) (all-joined (IsRunnableStep schema) sections all) rises (record { last = all-empty 0 schema; sets = all-empty 0 schema }) in
    subst (λ (c : Control). All (IsGrown now) c.last.sets) (sym (joined mode schema (start schema) sections)) grows.last

pub history-reads-back : (mode : Mode) (schema : List SetDecl) (sections : List (List Step)) (now : ℕ)
    → All (All (IsRunnableStep schema)) sections → Rises 0 (flat_map (λ steps. steps) sections) now → All (ReadsBack now) (history mode schema sections).last.sets
history-reads-back mode schema sections now all rises k d lt = reads-back now _ (history-grows mode schema sections now all rises k d lt)
