-- The script of a listing, run from generation 0 on, gives the listed sets.
use Rattle.std.proofs.Common.{◌≡◌, refl, sym, ◌∙◌, ap, subst, ℕ, ◌+◌, ◌-◌, List, [], ◌∷◌, ◌++◌, length, map, filter, Bool, true, false, Some, All, slice_get, slice_set, true≢false, append_assoc, append-nil, length-append, arith, cond, if◌then◌else◌}
use Rattle.std.proofs.lemmas.List.Sums.{fold-append}
use Rattle.std.proofs.lemmas.List.Elements.{All-head, All-tail}
use Rattle.set_model.specs.declared.element.Element.{Element}
use Rattle.set_model.specs.declared.element.NewElement.{NewElement}
use Rattle.set_model.specs.declared.script.SetDecl.{SetDecl}
use Rattle.set_model.specs.declared.script.Step.{Step}
use Rattle.set_model.specs.declared.script.Step.TheVariants.{Change, Flush, Commit, Abort}
use Rattle.set_model.specs.declared.script.Verb.TheVariants as verbs
use Rattle.set_model.specs.declared.report.Event.TheVariants as events
use Rattle.set_model.specs.Expiry.{live}
use Rattle.set_model.specs.Runnable.{opens, is_open}
use Rattle.set_model.specs.SetState.{State, Addition, empty_set, add, purged}
use Rattle.set_model.specs.SetState.Addition.{New}
use Rattle.set_model.specs.Control.{Mode, Control, Generation, start, step, section, history, changed, answered, as_added, with_set, committed, rewound}
use Rattle.set_script.specs.Changes.{with_commit}
use Rattle.listing_laws.specs.Relisted.{IsGrown, relisted, all_read_back, before_commit}
use Rattle.listing_laws.proofs.RelistedLaws.{upto, next}
use Rattle.listing_laws.specs.Listing.{unlined, addition, all_additions, HasStates, ListingRuns}

-- a set before any step, and after the additions of its listing
abbrev bare : SetDecl × State → State
bare p = empty_set p.0.kinds p.0.size p.0.disjoint

abbrev filled : ℕ → SetDecl × State → State
filled now p = before_commit p.1 now

-- After some steps nothing has failed and nothing is committed, and these are the open sets.
record Ran (c d : Control) (these : List State) : Type 0 where
  last : d.last ≡ c.last
  failed : d.failed ≡ false
  sets : d.sets ≡ these

there : (pre post : List State) (x : State) → slice_get (pre ++ x ∷ post) (length pre) ≡ Some x
there [] post x = refl
there (p ∷ pre) post x = there pre post x

put : (pre post : List State) (x y : State) → slice_set (pre ++ x ∷ post) (length pre) y ≡ pre ++ y ∷ post
put [] post x y = refl
put (p ∷ pre) post x y = ap (λ (z : List State). p ∷ z) (put pre post x y)

-- a step that is this addition, in some line
record IsAddition (set : ℕ) (e : NewElement) (s : Step) : Type 0 where
  line : ℕ
  is : s ≡ Change line set verbs.Add e 0

is_addition : (set : ℕ) (e : NewElement) (s : Step) → unlined s ≡ Change 0 set verbs.Add e 0 → IsAddition set e s
is_addition set e (Change line set1 verb e1 at) h =
    let k : Change 0 set1 verb e1 at ≡ Change 0 set verbs.Add e 0 = h in
    let a : set1 ≡ set = cc k in
    let b : verb ≡ verbs.Add = cc k in
    let c : e1 ≡ e = cc k in
    let d : at ≡ 0 = cc k in
    record { line = line; is = λ i. Change line (a i) (b i) (c i) (d i) }
is_addition set e (Flush line set1 at) h = let k : Flush 0 set1 at ≡ Change 0 set verbs.Add e 0 = h in absurd (cc k)
is_addition set e (Commit at) h = let k : Commit at ≡ Change 0 set verbs.Add e 0 = h in absurd (cc k)
is_addition set e Abort h = let k : Abort ≡ Change 0 set verbs.Add e 0 = h in absurd (cc k)

parts_same : {A : Type 0} (s t : A) (ss ts : List A) → s ∷ ss ≡ t ∷ ts → (s ≡ t) × (ss ≡ ts)
parts_same s t ss ts h = (cc h, cc h)

-- steps that are one list and then another
cut : (steps : List Step) (xs ys : List Step) → map unlined steps ≡ xs ++ ys → (first second : List Step) × (steps ≡ first ++ second) × (map unlined first ≡ xs) × (map unlined second ≡ ys)
cut steps [] ys h = ([], steps, refl, refl, h)
cut [] (x ∷ xs) ys h = absurd (cc h)
cut (s ∷ steps) (x ∷ xs) ys h =
    let parts = parts_same (unlined s) x (map unlined steps) (xs ++ ys) h in
    let k = cut steps xs ys parts.1 in
    (s ∷ k.0, k.1, ap (λ (z : List Step). s ∷ z) k.2, (λ i. parts.0 i ∷ k.3 i), k.4)

module _ (mode : Mode) (now : ℕ) where
  -- one addition that is new
  step_runs : (c : Control) (pre post : List State) (x y : State) (id : ℕ) (e : NewElement) (s : Step) → c.failed ≡ false → c.sets ≡ pre ++ x ∷ post → add x e 0 ≡ (New id, y)
      → IsAddition (length pre) e s → Ran c (step mode c s) (pre ++ y ∷ post)
  step_runs c pre post x y id e s sound open_sets new is =
      subst (λ (z : Control). Ran c z (pre ++ y ∷ post)) (sym whole) (record { last = refl; failed = sound; sets = ap (λ (z : List State). slice_set z (length pre) y) open_sets ∙ put pre post x y })
    where
      found : slice_get c.sets (length pre) ≡ Some x
      found = ap (λ (z : List State). slice_get z (length pre)) open_sets ∙ there pre post x

      whole : step mode c s ≡ with_set c (length pre) y
      whole =
          ap (step mode c) is.is
          ∙ ap (λ (b : Bool). if b then c else changed mode c is.line (length pre) verbs.Add e 0 (slice_get c.sets (length pre))) sound
          ∙ ap (changed mode c is.line (length pre) verbs.Add e 0) found
          ∙ ap (λ (r : Addition × State). answered mode c is.line (length pre) (as_added r)) new

  chain : (c d e : Control) (mid sets : List State) → Ran c d mid → Ran d e sets → Ran c e sets
  chain c d e mid sets h k = record { last = k.last ∙ h.last; failed = k.failed; sets = k.sets }

  -- the elements of one set
  set_runs : (s : State) (grown : IsGrown now s) (pre post : List State) (behind before : List Element) → s.elements ≡ before ++ behind → (steps : List Step) (c : Control)
      → c.failed ≡ false → c.sets ≡ pre ++ upto now s grown before ∷ post → map unlined steps ≡ map (addition now (length pre)) behind → Ran c (section mode c steps) (pre ++ upto now s grown s.elements ∷ post)
  set_runs s grown pre post [] before whole [] c sound open_sets same =
      let all : before ≡ s.elements = sym (append-nil before) ∙ sym whole in
      record { last = refl; failed = sound; sets = open_sets ∙ ap (λ (z : List Element). pre ++ upto now s grown z ∷ post) all }
  set_runs s grown pre post [] before whole (t ∷ steps) c sound open_sets same = absurd (cc same)
  set_runs s grown pre post (e ∷ behind) before whole [] c sound open_sets same = absurd (cc same)
  set_runs s grown pre post (e ∷ behind) before whole (t ∷ steps) c sound open_sets same =
      let parts = parts_same (unlined t) (addition now (length pre) e) (map unlined steps) (map (addition now (length pre)) behind) same in
      let one = step_runs c pre post (upto now s grown before) (upto now s grown (before ++ e ∷ [])) (length before) (relisted now e) t sound open_sets (next now s grown before e behind whole) (is_addition (length pre) (relisted now e) t parts.0) in
      let split : s.elements ≡ (before ++ e ∷ []) ++ behind = whole ∙ sym (append_assoc before (e ∷ []) behind) in
      chain c (step mode c t) (section mode (step mode c t) steps) (pre ++ upto now s grown (before ++ e ∷ []) ∷ post) (pre ++ upto now s grown s.elements ∷ post) one
      (set_runs s grown pre post behind (before ++ e ∷ []) split steps (step mode c t) one.failed one.sets parts.1)

  all_run : (sets : List (SetDecl × State)) → All (HasStates now) sets → (pre : List State) (steps : List Step) (c : Control)
      → c.failed ≡ false → c.sets ≡ pre ++ map bare sets → map unlined steps ≡ all_additions now (length pre) sets → Ran c (section mode c steps) (pre ++ map (filled now) sets)
  all_run [] all pre [] c sound open_sets same = record { last = refl; failed = sound; sets = open_sets }
  all_run [] all pre (t ∷ steps) c sound open_sets same = absurd (cc same)
  all_run ((d, s) ∷ sets) all pre steps c sound open_sets same =
      let has = All-head (HasStates now) (d, s) sets all in
      let k = cut steps (map (addition now (length pre)) s.elements) (all_additions now (length pre + 1) sets) same in
      let empty : bare (d, s) ≡ upto now s has.grown [] = λ i. record { kinds = sym has.kinds i; size = sym has.size i; disjoint = sym has.disjoint i; elements = []; next = 0 } in
      let one = set_runs s has.grown pre (map bare sets) s.elements [] refl k.0 c sound (open_sets ∙ ap (λ (z : State). pre ++ z ∷ map bare sets) empty) k.3 in
      let mid = section mode c k.0 in
      let behind : mid.sets ≡ (pre ++ filled now (d, s) ∷ []) ++ map bare sets = one.sets ∙ sym (append_assoc pre (filled now (d, s) ∷ []) (map bare sets)) in
      let number : length (pre ++ filled now (d, s) ∷ []) ≡ length pre + 1 = length-append pre (filled now (d, s) ∷ []) in
      let rest = all_run sets (All-tail (HasStates now) (d, s) sets all) (pre ++ filled now (d, s) ∷ []) k.1 mid one.failed behind (k.4 ∙ ap (λ (n : ℕ). all_additions now n sets) (sym number)) in
      let joined : section mode c steps ≡ section mode mid k.1 = ap (section mode c) k.2 ∙ fold-append (step mode) c k.0 k.1 in
      subst (λ (z : Control). Ran c z (pre ++ map (filled now) ((d, s) ∷ sets))) (sym joined)
      (subst (λ (z : List State). Ran c (section mode mid k.1) z) (append_assoc pre (filled now (d, s) ∷ []) (map (filled now) sets))
      (chain c mid (section mode mid k.1) (pre ++ filled now (d, s) ∷ map bare sets) ((pre ++ filled now (d, s) ∷ []) ++ map (filled now) sets) one rest))

maps : {A B C : Type 0} (f : A → B) (g : B → C) (xs : List A) → map g (map f xs) ≡ map (λ x. g (f x)) xs
maps f g [] = refl
maps f g (x ∷ xs) = ap (λ z. g (f x) ∷ z) (maps f g xs)

-- the end of the section
only : (steps : List Step) → map unlined steps ≡ Commit 0 ∷ [] → steps ≡ Commit 0 ∷ []
only [] h = absurd (cc h)
only (s ∷ t ∷ steps) h = absurd (cc (parts_same (unlined s) (Commit 0) (unlined t ∷ map unlined steps) [] h).1)
only (Change line set verb e at ∷ []) h = let k : Change 0 set verb e at ≡ Commit 0 = (parts_same (unlined (Change line set verb e at)) (Commit 0) [] [] h).0 in absurd (cc k)
only (Flush line set at ∷ []) h = let k : Flush 0 set at ≡ Commit 0 = (parts_same (unlined (Flush line set at)) (Commit 0) [] [] h).0 in absurd (cc k)
only (Abort ∷ []) h = let k : Abort ≡ Commit 0 = (parts_same (unlined Abort) (Commit 0) [] [] h).0 in absurd (cc k)
only (Commit at ∷ []) h = let same : Commit at ≡ Commit 0 = (parts_same (Commit at) (Commit 0) [] [] h).0 in ap (λ (s : Step). s ∷ []) same

-- steps that each leave a transaction open
AllOpen : List Step → Type 0
AllOpen [] = Unit {0}
AllOpen (s ∷ steps) = (opens (Some s) ≡ true) × AllOpen steps

all-append : (xs ys : List Step) → AllOpen xs → AllOpen ys → AllOpen (xs ++ ys)
unfolding AllOpen
all-append [] ys h k = k
all-append (x ∷ xs) ys h k = (h.0, all-append xs ys h.1 k)

all-additions : (now set : ℕ) (es : List Element) → AllOpen (map (addition now set) es)
unfolding AllOpen
all-additions now set [] = tt
all-additions now set (e ∷ es) = (refl, all-additions now set es)

all-open : (now set : ℕ) (sets : List (SetDecl × State)) → AllOpen (all_additions now set sets)
unfolding AllOpen
all-open now set [] = tt
all-open now set ((d, s) ∷ sets) = all-append (map (addition now set) s.elements) (all_additions now (set + 1) sets) (all-additions now set s.elements) (all-open now (set + 1) sets)

last_opens : (x : Step) (xs : List Step) → AllOpen (x ∷ xs) → opens (slice_get (x ∷ xs) (length xs)) ≡ true
unfolding AllOpen
last_opens x [] h = h.0
last_opens x (y ∷ xs) h = last_opens y xs h.1

nothing_open : (steps : List Step) → AllOpen steps → is_open steps ≡ false → steps ≡ []
nothing_open [] all h = refl
nothing_open (x ∷ xs) all h =
    let before : length (x ∷ xs) - 1 ≡ length xs = omega arith in
    let is : is_open (x ∷ xs) ≡ true = ap (λ (n : ℕ). opens (slice_get (x ∷ xs) n)) before ∙ last_opens x xs all in
    absurd (true≢false (sym is ∙ h))

module _ (now : ℕ) where
  abbrev left_over : SetDecl × State → State
  left_over p = purged (before_commit p.1 now) 0

  -- a listing without elements leaves the sets empty
  stays_bare : (sets : List (SetDecl × State)) (set : ℕ) → All (HasStates now) sets → all_additions now set sets ≡ [] → map bare sets ≡ map left_over sets
  stays_bare [] set all h = refl
  stays_bare ((d, s) ∷ sets) set all h = go s.elements refl h (λ k. stays_bare sets (set + 1) (All-tail (HasStates now) (d, s) sets all) k) where
    has : HasStates now (d, s)
    has = All-head (HasStates now) (d, s) sets all

    go : (es : List Element) → s.elements ≡ es → map (addition now set) es ++ all_additions now (set + 1) sets ≡ [] → (all_additions now (set + 1) sets ≡ [] → map bare sets ≡ map left_over sets) → map bare ((d, s) ∷ sets) ≡ map left_over ((d, s) ∷ sets)
    go (e ∷ es) none k rest = absurd (cc k)
    go [] none k rest =
        let one : bare (d, s) ≡ left_over (d, s) = λ i. record {
          kinds = sym has.kinds i;
          size = sym has.size i;
          disjoint = sym has.disjoint i;
          elements = filter (λ (e : Element). live e 0) (all_read_back now 0 (sym none i));
          next = length (sym none i);
        } in
        λ i. one i ∷ rest k i

listing_run : (mode : Mode) (now : ℕ) (sets : List (SetDecl × State)) (steps : List Step) → All (HasStates now) sets → map unlined steps ≡ with_commit 0 (all_additions now 0 sets)
    → (section mode (start (map (λ p. p.0) sets)) steps).last.sets ≡ map (left_over now) sets
listing_run mode now sets steps all same = go (is_open adds) refl same where
  adds : List Step
  adds = all_additions now 0 sets

  c : Control
  c = start (map (λ p. p.0) sets)

  empty : c.sets ≡ map bare sets
  empty = maps (λ (p : SetDecl × State). p.0) (λ (d : SetDecl). empty_set d.kinds d.size d.disjoint) sets

  go : (b : Bool) → is_open adds ≡ b → map unlined steps ≡ cond b (adds ++ Commit 0 ∷ []) adds → (section mode c steps).last.sets ≡ map (left_over now) sets
  go true is same =
      let k = cut steps adds (Commit 0 ∷ []) same in
      let ran = all_run mode now sets all [] k.0 c refl empty k.3 in
      let d = section mode c k.0 in
      let joined : section mode c steps ≡ step mode d (Commit 0) = ap (section mode c) (k.2 ∙ ap (λ (z : List Step). k.0 ++ z) (only k.1 k.4)) ∙ fold-append (step mode) c k.0 (Commit 0 ∷ []) in
      let done : step mode d (Commit 0) ≡ committed d 0 = ap (λ (b : Bool). if b then rewound d (events.Dropped d.last.number) else committed d 0) ran.failed in
      ap (λ (z : Control). z.last.sets) (joined ∙ done) ∙ ap (map (λ (s : State). purged s 0)) ran.sets ∙ maps (filled now) (λ (s : State). purged s 0) sets
  go false is same =
      let none = nothing_open adds (all-open now 0 sets) is in
      let ran = all_run mode now sets all [] steps c refl empty same in
      ap (λ (g : Generation). g.sets) ran.last ∙ empty ∙ stays_bare now sets 0 all none

pub listing_runs : ListingRuns
listing_runs mode now sets script all is = go script.sections is.sections where
  go : (sections : List (List Step)) → map (map unlined) sections ≡ with_commit 0 (all_additions now 0 sets) ∷ [] → (history mode script.schema sections).last.sets ≡ map (left_over now) sets
  go [] h = absurd (cc h)
  go (steps ∷ more ∷ sections) h = absurd (cc (parts_same (map unlined steps) (with_commit 0 (all_additions now 0 sets)) (map unlined more ∷ map (map unlined) sections) [] h).1)
  go (steps ∷ []) h =
      ap (λ (schema : List SetDecl). (history mode schema (steps ∷ [])).last.sets) is.schema
      ∙ listing_run mode now sets steps all (parts_same (map unlined steps) (with_commit 0 (all_additions now 0 sets)) [] [] h).0
