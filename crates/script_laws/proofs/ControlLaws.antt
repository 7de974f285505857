-- What the steps of a script keep of its control.
use Rattle.std.proofs.Common.{option_map, ◌≡◌, refl, sym, ◌∙◌, ap, ℕ, zero, suc, ◌+◌, ◌<◌, ◌≤◌, Bool, true, false, if◌then◌else◌, List, [], ◌∷◌, ◌++◌, length, map, take, fold, Option, Some, None, slice_get, arith, All, add-one}
use Rattle.std.proofs.lemmas.List.{length-map, length-append}
use Rattle.std.proofs.lemmas.Option.{slice_get-map, slice_get_within}
use Rattle.set_model.specs.declared.kind.Kind.{Kind}
use Rattle.set_model.specs.declared.report.Event.{Event}
use Rattle.set_model.specs.declared.report.Event.TheVariants as events
use Rattle.set_model.specs.declared.report.Why.{Why}
use Rattle.set_model.specs.declared.script.SetDecl.{SetDecl}
use Rattle.set_model.specs.declared.script.Step.{Step}
use Rattle.set_model.specs.declared.script.Step.TheVariants.{Change, Flush, Commit, Abort}
use Rattle.set_model.specs.declared.script.Verb.{Verb}
use Rattle.set_model.specs.SetState.{State, purged, cleared, empty_set}
use Rattle.set_model.specs.Control.{Mode, Strict, KeepGoing, Control, start, step, section, history, with_set, answered, changed, changed_set, flushed, refused, rewound, committed}
use Rattle.set_model.specs.declared.element.NewElement.{NewElement}
use Rattle.set_space.specs.Open.{Open}
use Rattle.set_report.specs.Writes.{NamesSet, AreSetsOf}
use Rattle.gen_publish.specs.Publish.{kinds_of, declared_kinds}
use Rattle.script_laws.specs.Sections.{section_at}
use Rattle.packet_pool.proofs.ChangeLaws.{IsAlike, change_alike, set_same}
use Rattle.script_laws.proofs.Lists.{All-snoc, snoc-at}

-- A work on sets of these kinds, in its base and with the open changes.
pub record HasKinds (kinds : List (List Kind)) (work : Open) : Type 0 where
  pub base : kinds_of work.base.sets ≡ kinds
  pub open_sets : kinds_of work.sets ≡ kinds

-- A step does one of these: nothing, a set that is alike at a place, a refusal, an end that is taken back, a commit.
pub record Outcomes (P : Control → Type 0) (mode : Mode) (c : Control) : Type 0 where
  pub nothing : P c
  pub made : (set : ℕ) (old new : State) → slice_get c.sets set ≡ Some old → IsAlike old new → P (with_set c set new)
  pub refusing : (line set : ℕ) (why : Why) → set < length c.sets → P (refused mode c line set why)
  pub rewinding : (event : Event) → ((n : ℕ) → NamesSet n event) → P (rewound c event)
  pub committing : (now : ℕ) → P (committed c now)

module _ (P : Control → Type 0) (mode : Mode) (c : Control) (o : Outcomes P mode c) where
  either : (b : Bool) (x y : Control) → P x → P y → P (if b then x else y)
  either true x y p q = p
  either false x y p q = q

  by_answer : (line set : ℕ) (s : State) (x : Option Why × State) → slice_get c.sets set ≡ Some s → IsAlike s x.1 → P (answered mode c line set x)
  by_answer line set s (None, t) at alike = o.made set s t at alike
  by_answer line set s (Some why, t) at alike = o.refusing line set why (slice_get_within c.sets set s at)

  by_set : (line set : ℕ) (verb : Verb) (element : NewElement) (now : ℕ) (s : Option State) → slice_get c.sets set ≡ s → P (changed mode c line set verb element now s)
  by_set line set verb element now None at = o.nothing
  by_set line set verb element now (Some s) at = by_answer line set s (changed_set verb s element now) at (change_alike s element now verb)

  by_flush : (set : ℕ) (s : Option State) → slice_get c.sets set ≡ s → P (flushed c set s)
  by_flush set None at = o.nothing
  by_flush set (Some s) at = o.made set s (cleared s) at (record { kinds = refl; size = refl })

  -- What holds of each outcome holds after a step.
  pub by_outcome : (s : Step) → P (step mode c s)
  by_outcome (Change line set verb element now) = either c.failed c _ o.nothing (by_set line set verb element now (slice_get c.sets set) refl)
  by_outcome (Flush line set now) = either c.failed c _ o.nothing (by_flush set (slice_get c.sets set) refl)
  by_outcome (Commit now) = either c.failed _ _ (o.rewinding (events.Dropped c.last.number) (λ n. tt)) (o.committing now)
  by_outcome Abort = o.rewinding (events.Aborted c.last.number) (λ n. tt)

-- What each step keeps, a section keeps.
pub by_steps : (P : Control → Type 0) (mode : Mode) → ((c : Control) (s : Step) → P c → P (step mode c s)) → (c : Control) (steps : List Step) → P c → P (section mode c steps)
by_steps P mode keeps c [] h = h
by_steps P mode keeps c (s ∷ steps) h = by_steps P mode keeps (step mode c s) steps (keeps c s h)

-- the last generation and the open sets of a control
abbrev pub work_of : Control → Open
work_of c = record { base = c.last; sets = c.sets }

-- What a function of their kinds and sizes shows of sets stays.
pub record Shows {X : Type 0} (f : State → X) (xs : List X) (work : Open) : Type 0 where
  pub base : map f work.base.sets ≡ xs
  pub open_sets : map f work.sets ≡ xs

module _ {X : Type 0} (f : State → X) (same : (s t : State) → IsAlike s t → f t ≡ f s) (xs : List X) where
  purged_shows : (sets : List State) (now : ℕ) → map f (map (λ s. purged s now) sets) ≡ map f sets
  purged_shows [] now = refl
  purged_shows (s ∷ sets) now = ap (λ y. y ∷ map f (map (λ t. purged t now) sets)) (same s (purged s now) (record { kinds = refl; size = refl })) ∙ ap (λ r. f s ∷ r) (purged_shows sets now)

  refused_shows : (mode : Mode) (c : Control) (line set : ℕ) (why : Why) → Shows f xs (work_of c) → Shows f xs (work_of (refused mode c line set why))
  refused_shows Strict c line set why h = h
  refused_shows KeepGoing c line set why h = h

  committed_shows : (c : Control) (now : ℕ) → Shows f xs (work_of c) → Shows f xs (work_of (committed c now))
  committed_shows c now h =
      let purged_is : map f (map (λ s. purged s now) c.sets) ≡ xs = purged_shows c.sets now ∙ h.open_sets in
      record { base = purged_is; open_sets = purged_is }

  pub step_shows : (mode : Mode) (c : Control) (s : Step) → Shows f xs (work_of c) → Shows f xs (work_of (step mode c s))
  step_shows mode c s h = by_outcome (λ d. Shows f xs (work_of d)) mode c (record {
    nothing = h;
    made = λ set old new at alike. record { base = h.base; open_sets = set_same f c.sets set old new at (same old new alike) ∙ h.open_sets };
    refusing = λ line set why lt. refused_shows mode c line set why h;
    rewinding = λ event names. record { base = h.base; open_sets = h.base };
    committing = λ now. committed_shows c now h;
  }) s

  pub section_shows : (mode : Mode) (c : Control) (steps : List Step) → Shows f xs (work_of c) → Shows f xs (work_of (section mode c steps))
  section_shows mode c steps h = by_steps (λ d. Shows f xs (work_of d)) mode (step_shows mode) c steps h

-- Sets of these kinds, and events that name one of them.
pub record IsOf (kinds : List (List Kind)) (c : Control) : Type 0 where
  pub work : HasKinds kinds (work_of c)
  pub named : All (NamesSet (length kinds)) c.events

module _ (kinds : List (List Kind)) where
  pub section_kinds : (mode : Mode) (c : Control) (steps : List Step) → HasKinds kinds (work_of c) → HasKinds kinds (work_of (section mode c steps))
  section_kinds mode c steps h =
      let k = section_shows (λ s. s.kinds) (λ s t alike. alike.kinds) kinds mode c steps (record { base = h.base; open_sets = h.open_sets }) in
      record { base = k.base; open_sets = k.open_sets }

  pub kinds_long : (sets : List State) → kinds_of sets ≡ kinds → length sets ≡ length kinds
  kinds_long sets e = sym (length-map sets (λ s. s.kinds)) ∙ ap length e

  told_named : (events : List Event) (event : Event) → All (NamesSet (length kinds)) events → NamesSet (length kinds) event → All (NamesSet (length kinds)) (events ++ event ∷ [])
  told_named events event h e = All-snoc (NamesSet (length kinds)) events event h e

  refused_named : (mode : Mode) (c : Control) (line set : ℕ) (why : Why) → All (NamesSet (length kinds)) c.events → set < length kinds → All (NamesSet (length kinds)) (refused mode c line set why).events
  refused_named Strict c line set why h lt = told_named c.events (events.Refused line set why) h lt
  refused_named KeepGoing c line set why h lt = told_named c.events (events.Refused line set why) h lt

  step_of : (mode : Mode) (c : Control) (s : Step) → IsOf kinds c → IsOf kinds (step mode c s)
  step_of mode c s h =
      let long = kinds_long c.sets h.work.open_sets in
      record {
        work = section_kinds mode c (s ∷ []) h.work;
        named = by_outcome (λ d. All (NamesSet (length kinds)) d.events) mode c (record {
          nothing = h.named;
          made = λ set old new at same. h.named;
          refusing = λ line set why lt. refused_named mode c line set why h.named (omega (arith, long, lt));
          rewinding = λ event names. told_named c.events event h.named (names (length kinds));
          committing = λ now. told_named c.events _ h.named tt;
        }) s;
      }

  pub section_of : (mode : Mode) (c : Control) (steps : List Step) → IsOf kinds c → IsOf kinds (section mode c steps)
  section_of mode c steps h = by_steps (IsOf kinds) mode (step_of mode) c steps h

-- Each committed generation is at the place of its number, and the last one is the control's last.
pub record IsNumbered (c : Control) : Type 0 where
  pub at : slice_get c.committed c.last.number ≡ Some c.last
  pub long : length c.committed ≡ c.last.number + 1

refused_numbered : (mode : Mode) (c : Control) (line set : ℕ) (why : Why) → IsNumbered c → IsNumbered (refused mode c line set why)
refused_numbered Strict c line set why h = record { at = h.at; long = h.long }
refused_numbered KeepGoing c line set why h = record { at = h.at; long = h.long }

committed_numbered : (c : Control) (now : ℕ) → IsNumbered c → IsNumbered (committed c now)
committed_numbered c now h = record {
  at = snoc-at c.committed _ (c.last.number + 1) (sym h.long);
  long = let more = length-append c.committed ((committed c now).last ∷ []) in let long = h.long in omega (arith, more, long);
}

step_numbered : (mode : Mode) (c : Control) (s : Step) → IsNumbered c → IsNumbered (step mode c s)
step_numbered mode c s h = by_outcome IsNumbered mode c (record {
  nothing = h;
  made = λ set old new at same. record { at = h.at; long = h.long };
  refusing = λ line set why lt. refused_numbered mode c line set why h;
  rewinding = λ event names. record { at = h.at; long = h.long };
  committing = λ now. committed_numbered c now h;
}) s

pub section_numbered : (mode : Mode) (c : Control) (steps : List Step) → IsNumbered c → IsNumbered (section mode c steps)
section_numbered mode c steps h = by_steps IsNumbered mode (step_numbered mode) c steps h

-- The numbers of generations never fall.
refused_later : (mode : Mode) (n : ℕ) (c : Control) (line set : ℕ) (why : Why) → n ≤ c.last.number → n ≤ (refused mode c line set why).last.number
refused_later Strict n c line set why h = h
refused_later KeepGoing n c line set why h = h

step_later : (mode : Mode) (n : ℕ) (c : Control) (s : Step) → n ≤ c.last.number → n ≤ (step mode c s).last.number
step_later mode n c s h = by_outcome (λ d. n ≤ d.last.number) mode c (record {
  nothing = h;
  made = λ set old new at same. h;
  refusing = λ line set why lt. refused_later mode n c line set why h;
  rewinding = λ event names. h;
  committing = λ now. omega (arith, h);
}) s

pub section_later : (mode : Mode) (c : Control) (steps : List Step) → c.last.number ≤ (section mode c steps).last.number
section_later mode c steps = by_steps (λ d. c.last.number ≤ d.last.number) mode (step_later mode c.last.number) c steps (omega arith)

empty_shows : {X : Type 0} (f : State → X) (g : SetDecl → X) → ((d : SetDecl) → f (empty_set d.kinds d.size d.disjoint) ≡ g d) → (schema : List SetDecl) → map f (start schema).sets ≡ map g schema
empty_shows f g same [] = refl
empty_shows f g same (d ∷ schema) = ap (λ y. y ∷ map f (start schema).sets) (same d) ∙ ap (λ r. g d ∷ r) (empty_shows f g same schema)

pub start_of : (schema : List SetDecl) → IsOf (declared_kinds schema) (start schema)
start_of schema =
    let kinds : kinds_of (start schema).sets ≡ declared_kinds schema = empty_shows (λ s. s.kinds) (λ d. d.kinds) (λ d. refl) schema in
    record { work = record { base = kinds; open_sets = kinds }; named = λ k e lt. absurd (omega (arith, lt)) }

pub start_sizes : (schema : List SetDecl) → Shows (λ s. s.size) (map (λ d. d.size) schema) (work_of (start schema))
start_sizes schema =
    let sizes : map (λ s. s.size) (start schema).sets ≡ map (λ d. d.size) schema = empty_shows (λ s. s.size) (λ d. d.size) (λ d. refl) schema in
    record { base = sizes; open_sets = sizes }

pub start_numbered : (schema : List SetDecl) → IsNumbered (start schema)
start_numbered schema = record { at = refl; long = refl }

shown : {A B X : Type 0} (f : A → X) (g : B → X) (xs : List A) (ys : List B) (i : ℕ) (x : A) (y : B) → map f xs ≡ map g ys → slice_get xs i ≡ Some x → slice_get ys i ≡ Some y → f x ≡ g y
shown f g xs ys i x y same at_x at_y =
    let left : slice_get (map f xs) i ≡ Some (f x) = slice_get-map f xs i ∙ ap (option_map f) at_x in
    let right : slice_get (map g ys) i ≡ Some (g y) = slice_get-map g ys i ∙ ap (option_map g) at_y in
    let both : Some (f x) ≡ Some (g y) = sym left ∙ ap (λ zs. slice_get zs i) same ∙ right in
    cc both

pub sets-alike : (schema : List SetDecl) (sets : List State) → kinds_of sets ≡ declared_kinds schema → map (λ (s : State). s.size) sets ≡ map (λ (d : SetDecl). d.size) schema → AreSetsOf schema sets
sets-alike schema sets kinds sizes = record {
  one_each = kinds_long (declared_kinds schema) sets kinds ∙ length-map schema (λ d. d.kinds);
  each = λ i d s at_d at_s. record {
    kinds = shown (λ (x : State). x.kinds) (λ (x : SetDecl). x.kinds) sets schema i s d kinds at_s at_d;
    size = shown (λ (x : State). x.size) (λ (x : SetDecl). x.size) sets schema i s d sizes at_s at_d;
  };
}

-- Sections, one after another.
module _ (mode : Mode) where
  -- one section more, which is empty if there is none
  next-from : (c : Control) (sections : List (List Step)) (j : ℕ) → fold (section mode) c (take (suc j) sections) ≡ section mode (fold (section mode) c (take j sections)) (section_at sections j)
  next-from c [] zero = refl
  next-from c [] (suc j) = refl
  next-from c (x ∷ sections) zero = refl
  next-from c (x ∷ sections) (suc j) = next-from (section mode c x) sections j

  pub history-next : (schema : List SetDecl) (sections : List (List Step)) (j : ℕ) → history mode schema (take (j + 1) sections) ≡ section mode (history mode schema (take j sections)) (section_at sections j)
  history-next schema sections j = rw add-one (next-from (start schema) sections j)

  -- What each section keeps, a history keeps.
  pub by_sections : (P : Control → Type 0) → ((c : Control) (steps : List Step) → P c → P (section mode c steps)) → (c : Control) (sections : List (List Step)) → P c → P (fold (section mode) c sections)
  by_sections P keeps c [] h = h
  by_sections P keeps c (x ∷ sections) h = by_sections P keeps (section mode c x) sections (keeps c x h)

  pub history_of : (schema : List SetDecl) (sections : List (List Step)) → IsOf (declared_kinds schema) (history mode schema sections)
  history_of schema sections = by_sections (IsOf (declared_kinds schema)) (section_of (declared_kinds schema) mode) (start schema) sections (start_of schema)

  pub history_numbered : (schema : List SetDecl) (sections : List (List Step)) → IsNumbered (history mode schema sections)
  history_numbered schema sections = by_sections IsNumbered (section_numbered mode) (start schema) sections (start_numbered schema)

  -- The sets of the last generation are those of the schema.
  pub history_sets : (schema : List SetDecl) (sections : List (List Step)) → AreSetsOf schema (history mode schema sections).last.sets
  history_sets schema sections =
      let kinds = (history_of schema sections).work in
      let sizes = by_sections (λ c. Shows (λ s. s.size) (map (λ d. d.size) schema) (work_of c)) (λ c steps h. section_shows (λ s. s.size) (λ s t alike. alike.size) (map (λ d. d.size) schema) mode c steps h) (start schema) sections (start_sizes schema) in
      sets-alike schema (history mode schema sections).last.sets kinds.base sizes.base
