-- A control goes on as the definition's control does.
use Rattle.std.proofs.Common.{fold, ◌≡◌, refl, sym, ◌∙◌, ap, subst, ℕ, ◌+◌, ◌^◌, ◌<◌, ◌≤◌, cond, ⊎_elim, Bool, true, false, if◌then◌else◌, List, [], ◌∷◌, ◌++◌, length, take, get_or, Option, Some, None, Result, Ok, slice_get, slice_set, arith, add-one, append_assoc}
use Rattle.std.proofs.Math.Seq.{take-suc}
use Rattle.std.proofs.lemmas.List.Sums.{count_by-le-length, fold-append, sum_by-append, sum_by-take-le}
use Rattle.std.proofs.lemmas.Option.{slice_get_within}
use Rattle.history_laws.specs.Histories.{StartsWith}
use Rattle.history_laws.proofs.Prefixes.{starts_itself, starts_more}
use Rattle.set_model.specs.declared.kind.Interval.{Interval}
use Rattle.set_model.specs.declared.memory.Memory.{Memory}
use Rattle.set_model.specs.declared.report.Event.{Event}
use Rattle.set_model.specs.declared.report.Event.TheVariants.{Aborted, Dropped, Committed}
use Rattle.set_model.specs.declared.report.Why.{Why}
use Rattle.set_model.specs.declared.script.SetDecl.{SetDecl}
use Rattle.set_model.specs.declared.script.Step.{Step}
use Rattle.set_model.specs.declared.script.Step.TheVariants.{Change, Flush, Commit, Abort}
use Rattle.set_model.specs.declared.script.Verb.{Verb}
use Rattle.set_model.specs.Key.{parts_fit}
use Rattle.set_model.specs.SetState.{State, cleared}
use Rattle.set_model.specs.Control.{Mode, Strict, KeepGoing, Control, Generation, mode_of, step, section, refused, rewound, committed, changed, changed_set, answered, flushed, with_set, expired_count}
use Rattle.set_model.specs.declared.element.NewElement.{NewElement}
use Rattle.set_space.specs.Answers.{IsFlush}
use Rattle.set_space.specs.Open.{Open, IsChange, FitsSet, opened, sealed}
use Rattle.set_space.specs.Open.{with_open_set as work_with}
use Rattle.set_space.proofs.SetsLaws.{set-same}
use Rattle.gen_publish.specs.Publish.{Steering, after_commit, kinds_of, declared_kinds}
use Rattle.gen_publish.proofs.Growing.{as_many}
use Rattle.gen_publish.proofs.KindLaws.{declared_at}
use Rattle.packet_pool.specs.Running.{Run, run, HasCome, StandsAt, GoesOn, Ran, HasNumbers, is_commit, commits, control_of, Breaks, HasBroken}
use Rattle.packet_pool.proofs.ChangeLaws.{refusal_keeps}

-- A control that goes on in the same way from the run's state.
pub goes_as : (f g : Control → Control) (old new : Run) → ((before : List Event) (c : Control) → StandsAt before c old → f c ≡ g c) → GoesOn f old new → GoesOn g old new
goes_as f g old new same does = record {
  of_is = does.of_is;
  schema_is = does.schema_is;
  readers_is = does.readers_is;
  stands = λ before c h. subst (λ (k : Control). StandsAt before k new) (same before c h) (does.stands before c h);
}

by_test : (b c : Bool) (x y : Control) → b ≡ c → (if c then x else y) ≡ (if b then x else y)
by_test b c x y e = ap (λ (t : Bool). if t then x else y) (sym e)

module _ (mode : Mode) (line set : ℕ) (verb : Verb) (element : NewElement) (now : ℕ) where
  abbrev goes : Control → Control
  goes c = changed mode c line set verb element now (slice_get c.sets set)

  answer-at : (c : Control) (s : State) (o : Option State) → o ≡ Some s → changed mode c line set verb element now o ≡ answered mode c line set (changed_set verb s element now)
  answer-at c s o e = ap (changed mode c line set verb element now) e

  answer-refused : (c : Control) (why : Why) (x : Option Why × State) → Some why ≡ x.0 → answered mode c line set x ≡ refused mode c line set why
  answer-refused c why (None, t) e = absurd (cc e)
  answer-refused c why (Some other, t) e = let same : why ≡ other = cc e in ap (refused mode c line set) (sym same)

  answer-made : (c : Control) (t : State) (x : Option Why × State) → None ≡ x.0 → t ≡ x.1 → answered mode c line set x ≡ with_set c set t
  answer-made c t (None, u) e f = ap (with_set c set) (sym f)
  answer-made c t (Some why, u) e f = absurd (cc e)

  module _ (k new : Steering) (told : List Event) (same : new ≡ record k { work = new.work }) where
    -- a change that was made
    pub change_goes : (failed : Bool) → IsChange (λ s t. HasCome (changed_set verb s element now) None t) k.work set new.work → GoesOn goes (run k failed told) (run new failed told)
    change_goes failed change = record {
      of_is = ap (λ x. x.of) same;
      schema_is = ap (λ x. x.schema) same;
      readers_is = ap (λ x. x.readers) same;
      stands = λ before c h.
          let at : slice_get c.sets set ≡ Some change.state = ap (λ z. slice_get z set) h.sets ∙ change.at in
          let made : goes c ≡ with_set c set change.left = answer-at c change.state (slice_get c.sets set) at ∙ answer-made c change.left (changed_set verb change.state element now) change.changed.answer change.changed.leaves in
          subst (λ (z : Control). StandsAt before z (run new failed told)) (sym made) (record {
            committed = h.committed ∙ sym (ap (λ x. x.committed) same);
            last = h.last ∙ sym (ap (λ w. w.base) change.others);
            sets = ap (λ z. slice_set z set change.left) h.sets ∙ sym (ap (λ w. w.sets) change.others);
            failed = h.failed;
            told = h.told;
          });
    }

    -- a refused change leaves the work
    left : (why : Why) → IsChange (λ s t. HasCome (changed_set verb s element now) (Some why) t) k.work set new.work → new ≡ k
    left why change =
        let state : change.left ≡ change.state = change.changed.leaves ∙ refusal_keeps change.state element now verb why (sym change.changed.answer) in
        let work : new.work ≡ k.work = change.others ∙ ap (λ t. work_with k.work set t) state ∙ ap (λ z. record { base = k.work.base; sets = z }) (set-same k.work.sets set change.state change.at) in
        same ∙ ap (λ w. record k { work = w }) work

    pub refusal_goes : (why : Why) (failed failed' : Bool) (events : List Event) → IsChange (λ s t. HasCome (changed_set verb s element now) (Some why) t) k.work set new.work
        → ((x : Steering) → GoesOn (λ c. refused mode c line set why) (run x failed told) (run x failed' events)) → GoesOn goes (run k failed told) (run new failed' events)
    refusal_goes why failed failed' events change does = subst (λ (x : Steering). GoesOn goes (run x failed told) (run new failed' events)) (left why change) (record {
      of_is = refl;
      schema_is = refl;
      readers_is = refl;
      stands = λ before c h.
          let sets : c.sets ≡ k.work.sets = h.sets ∙ ap (λ x. x.work.sets) (left why change) in
          let at : slice_get c.sets set ≡ Some change.state = ap (λ z. slice_get z set) sets ∙ change.at in
          let is : goes c ≡ refused mode c line set why = answer-at c change.state (slice_get c.sets set) at ∙ answer-refused c why (changed_set verb change.state element now) change.changed.answer in
          subst (λ (z : Control). StandsAt before z (run new failed' events)) (sym is) ((does new).stands before c h);
    })

flush_left : (r : Result ℕ Memory) (n : ℕ) (s t : State) → r ≡ Ok n → IsFlush r s t → t ≡ cleared s
flush_left r n s t e h = (subst (λ z. IsFlush z s t) e h).1

flushed-at : (c : Control) (set : ℕ) (s : State) (o : Option State) → o ≡ Some s → flushed c set o ≡ with_set c set (cleared s)
flushed-at c set s o e = ap (flushed c set) e

pub flush_goes : (k new : Steering) (set n : ℕ) (r : Result ℕ Memory) → r ≡ Ok n → new ≡ record k { work = new.work } → IsChange (λ s t. IsFlush r s t) k.work set new.work
    → (told : List Event) (failed : Bool) → GoesOn (λ c. flushed c set (slice_get c.sets set)) (run k failed told) (run new failed told)
flush_goes k new set n r ok same change told failed = record {
  of_is = ap (λ x. x.of) same;
  schema_is = ap (λ x. x.schema) same;
  readers_is = ap (λ x. x.readers) same;
  stands = λ before c h.
      let at : slice_get c.sets set ≡ Some change.state = ap (λ z. slice_get z set) h.sets ∙ change.at in
      let left : change.left ≡ cleared change.state = flush_left r n change.state change.left ok change.changed in
      subst (λ (z : Control). StandsAt before z (run new failed told)) (sym (flushed-at c set change.state (slice_get c.sets set) at)) (record {
        committed = h.committed ∙ sym (ap (λ x. x.committed) same);
        last = h.last ∙ sym (ap (λ w. w.base) change.others);
        sets = ap (λ z. slice_set z set (cleared change.state)) h.sets ∙ ap (slice_set k.work.sets set) (sym left) ∙ sym (ap (λ w. w.sets) change.others);
        failed = h.failed;
        told = h.told;
      });
}

-- A change and a flush in a transaction that hasn't failed.
pub open_change : (mode : Mode) (old new : Run) (line set : ℕ) (verb : Verb) (element : NewElement) (now : ℕ) → old.failed ≡ false
    → GoesOn (λ c. changed mode c line set verb element now (slice_get c.sets set)) old new
    → GoesOn (λ c. step mode c (Change line set verb element now)) old new
open_change mode old new line set verb element now quiet does =
    goes_as (λ c. changed mode c line set verb element now (slice_get c.sets set)) (λ c. step mode c (Change line set verb element now)) old new
    (λ before c h. by_test c.failed false c _ (h.failed ∙ quiet)) does

pub open_flush : (mode : Mode) (old new : Run) (line set now : ℕ) → old.failed ≡ false
    → GoesOn (λ c. flushed c set (slice_get c.sets set)) old new → GoesOn (λ c. step mode c (Flush line set now)) old new
open_flush mode old new line set now quiet does =
    goes_as (λ c. flushed c set (slice_get c.sets set)) (λ c. step mode c (Flush line set now)) old new (λ before c h. by_test c.failed false c _ (h.failed ∙ quiet)) does

-- nothing is done in a failed transaction
pub stays : (f : Control → Control) (r : Run) → ((before : List Event) (c : Control) → StandsAt before c r → c ≡ f c) → GoesOn f r r
stays f r same = goes_as (λ c. c) f r r same (record { of_is = refl; schema_is = refl; readers_is = refl; stands = λ before c h. h })

pub failed_change : (mode : Mode) (r : Run) (line set : ℕ) (verb : Verb) (element : NewElement) (now : ℕ) → r.failed ≡ true → GoesOn (λ c. step mode c (Change line set verb element now)) r r
failed_change mode r line set verb element now failed = stays (λ c. step mode c (Change line set verb element now)) r (λ before c h. by_test c.failed true c _ (h.failed ∙ failed))

pub failed_flush : (mode : Mode) (r : Run) (line set now : ℕ) → r.failed ≡ true → GoesOn (λ c. step mode c (Flush line set now)) r r
failed_flush mode r line set now failed = stays (λ c. step mode c (Flush line set now)) r (λ before c h. by_test c.failed true c _ (h.failed ∙ failed))

-- The end of a transaction that has failed, and one that is taken back.
pub dropped_end : (mode : Mode) (old new : Run) (event : Event) (now : ℕ) → old.failed ≡ true → event ≡ Dropped old.control.work.base.number
    → GoesOn (λ c. rewound c event) old new → GoesOn (λ c. step mode c (Commit now)) old new
dropped_end mode old new event now failed is does =
    goes_as (λ c. rewound c event) (λ c. step mode c (Commit now)) old new
    (λ before c h. ap (rewound c) (is ∙ sym (ap (λ (g : Generation). Dropped g.number) h.last)) ∙ by_test c.failed true (rewound c (Dropped c.last.number)) (committed c now) (h.failed ∙ failed))
    does

pub aborted_end : (mode : Mode) (old new : Run) (event : Event) → event ≡ Aborted old.control.work.base.number
    → GoesOn (λ c. rewound c event) old new → GoesOn (λ c. step mode c Abort) old new
aborted_end mode old new event is does =
    goes_as (λ c. rewound c event) (λ c. step mode c Abort) old new
    (λ before c h. ap (rewound c) (is ∙ sym (ap (λ (g : Generation). Aborted g.number) h.last)))
    does

pub rewind_goes : (k new : Steering) (failed : Bool) (told events : List Event) (event : Event) → new ≡ record k { work = opened k.work.base } → events ≡ told ++ event ∷ [] → GoesOn (λ c. rewound c event) (run k failed told) (run new false events)
rewind_goes k new failed told events event same more = record {
  of_is = ap (λ x. x.of) same;
  schema_is = ap (λ x. x.schema) same;
  readers_is = ap (λ x. x.readers) same;
  stands = λ before c h. record {
    committed = h.committed ∙ sym (ap (λ x. x.committed) same);
    last = h.last ∙ sym (ap (λ x. x.work.base) same);
    sets = ap (λ g. g.sets) h.last ∙ sym (ap (λ x. x.work.sets) same);
    failed = refl;
    told = ap (λ z. z ++ event ∷ []) h.told ∙ append_assoc before told (event ∷ []) ∙ ap (λ z. before ++ z) (sym more);
  };
}

-- a commit of a transaction that hasn't failed
pub commit_goes : (mode : Mode) (k new : Steering) (now number purged : ℕ) (failed : Bool) (told events : List Event) → failed ≡ false → new ≡ after_commit k now → number ≡ k.work.base.number + 1 → purged ≡ expired_count k.work.sets now
    → events ≡ told ++ Committed number purged ∷ [] → GoesOn (λ c. step mode c (Commit now)) (run k failed told) (run new failed events)
commit_goes mode k new now number purged failed told events quiet same n p more = goes_as (λ c. committed c now) (λ c. step mode c (Commit now)) (run k failed told) (run new failed events)
    (λ before c h. by_test c.failed false _ (committed c now) (h.failed ∙ quiet))
    (record {
      of_is = ap (λ x. x.of) same;
      schema_is = ap (λ x. x.schema) same;
      readers_is = ap (λ x. x.readers) same;
      stands = λ before c h.
          let work : record { base = c.last; sets = c.sets } ≡ k.work = λ i. record { base = h.last i; sets = h.sets i } in
          let event : Committed (c.last.number + 1) (expired_count c.sets now) ≡ Committed number purged = (λ i. Committed ((work i).base.number + 1) (expired_count (work i).sets now)) ∙ (λ i. Committed (sym n i) (sym p i)) in
          record {
            committed = (λ i. h.committed i ++ sealed (work i) now ∷ []) ∙ sym (ap (λ x. x.committed) same);
            last = ap (λ w. sealed w now) work ∙ sym (ap (λ x. x.work.base) same);
            sets = ap (λ w. (sealed w now).sets) work ∙ sym (ap (λ x. x.work.sets) same);
            failed = h.failed;
            told = (λ i. h.told i ++ event i ∷ []) ∙ append_assoc before told (Committed number purged ∷ []) ∙ ap (λ z. before ++ z) (sym more);
          };
    })

-- a fold over one item more
pub fold-more : {A B : Type 0} (f : B → A → B) (b : B) (xs : List A) (i : ℕ) (x : A) → i < length xs → x ≡ get_or xs i x → f (fold f b (take i xs)) x ≡ fold f b (take (i + 1) xs)
fold-more f b xs i x h e =
    let front : take (i + 1) xs ≡ take i xs ++ x ∷ [] = rw add-one (take-suc xs i x h ∙ ap (λ y. take i xs ++ y ∷ []) (sym e)) in
    sym (fold-append f b (take i xs) (x ∷ [])) ∙ ap (fold f b) (sym front)

pub goes_none : (mode : Mode) (r : Run) → GoesOn (λ c. section mode c []) r r
goes_none mode r = record { of_is = refl; schema_is = refl; readers_is = refl; stands = λ before c h. h }

-- One step more.
pub goes_more : (mode : Mode) (steps : List Step) (i : ℕ) (s : Step) (r here new : Run) → i < length steps → s ≡ get_or steps i s
    → GoesOn (λ c. section mode c (take i steps)) r here → GoesOn (λ c. step mode c s) here new → GoesOn (λ c. section mode c (take (i + 1) steps)) r new
goes_more mode steps i s r here new h e first next = record {
  of_is = next.of_is ∙ first.of_is;
  schema_is = next.schema_is ∙ first.schema_is;
  readers_is = next.readers_is ∙ first.readers_is;
  stands = λ before c st. subst (λ (k : Control). StandsAt before k new) (fold-more (step mode) c steps i s h e) (next.stands before (section mode c (take i steps)) (first.stands before c st));
}

-- a control has the state of its definition's control
pub stands_here : (s : Steering) → StandsAt [] (control_of s) (run s false [])
stands_here s = record { committed = refl; last = refl; sets = refl; failed = refl; told = refl }

-- If a step ran out of memory, the committed list is the list after some of the steps.
pub broken : (keep_going : Bool) (steps : List Step) (i : ℕ) (s : Step) (old here new : Steering) (failed : Bool) (events : List Event) → i < length steps → s ≡ get_or steps i s
    → GoesOn (λ c. section (mode_of keep_going) c (take i steps)) (run old false []) (run here failed events) → Breaks (λ c. step (mode_of keep_going) c s) (run here failed events) new
    → HasBroken keep_going steps old new
broken keep_going steps i s old here new failed events h e done breaks =
    let mode = mode_of keep_going in let c = section mode (control_of old) (take i steps) in
    let st : StandsAt [] c (run here failed events) = done.stands [] (control_of old) (stands_here old) in
    ⊎_elim (λ (same : new.committed ≡ here.committed). record { done = i; some_steps = omega arith; committed = same ∙ sym st.committed })
    (λ (more : (before : List Event) (k : Control) → StandsAt before k (run here failed events) → (step mode k s).committed ≡ new.committed). record {
      done = i + 1;
      some_steps = omega arith;
      committed = sym (more [] c st) ∙ ap (λ (k : Control). k.committed) (fold-more (step mode) (control_of old) steps i s h e);
    })
    breaks

-- Only a commit makes a generation.
refused_last : (mode : Mode) (c : Control) (line set : ℕ) (why : Why) → (refused mode c line set why).last ≡ c.last
refused_last Strict c line set why = refl
refused_last KeepGoing c line set why = refl

answered_last : (mode : Mode) (c : Control) (line set : ℕ) (x : Option Why × State) → (answered mode c line set x).last ≡ c.last
answered_last mode c line set (Some why, s) = refused_last mode c line set why
answered_last mode c line set (None, s) = refl

changed_last : (mode : Mode) (c : Control) (line set : ℕ) (verb : Verb) (element : NewElement) (now : ℕ) (o : Option State) → (changed mode c line set verb element now o).last ≡ c.last
changed_last mode c line set verb element now None = refl
changed_last mode c line set verb element now (Some s) = answered_last mode c line set (changed_set verb s element now)

flushed_last : (c : Control) (set : ℕ) (o : Option State) → (flushed c set o).last ≡ c.last
flushed_last c set None = refl
flushed_last c set (Some s) = refl

if_number : (t : Bool) (x y : Control) (n : ℕ) → x.last.number ≤ n → y.last.number ≤ n → (if t then x else y).last.number ≤ n
if_number true x y n p q = p
if_number false x y n p q = q

same_number : (c d : Control) → d.last ≡ c.last → d.last.number ≤ c.last.number
same_number c d e = let n = ap (λ (g : Generation). g.number) e in omega (arith, n)

-- A commit makes one generation at most, and no other step makes one.
step_number : (mode : Mode) (c : Control) (s : Step) → (step mode c s).last.number ≤ c.last.number + commits (s ∷ [])
step_number mode c (Change line set verb element now) =
    let o = slice_get c.sets set in let d = changed mode c line set verb element now o in
    let n = if_number c.failed c d c.last.number (omega arith) (same_number c d (changed_last mode c line set verb element now o)) in omega (arith, n)
step_number mode c (Flush line set now) =
    let o = slice_get c.sets set in let d = flushed c set o in
    let n = if_number c.failed c d c.last.number (omega arith) (same_number c d (flushed_last c set o)) in omega (arith, n)
step_number mode c (Commit now) = if_number c.failed (rewound c (Dropped c.last.number)) (committed c now) (c.last.number + 1) (omega arith) (omega arith)
step_number mode c Abort = omega arith

commits-one : (s : Step) (steps : List Step) → commits (s ∷ steps) ≡ commits (s ∷ []) + commits steps
commits-one s steps = sum_by-append (λ t. cond (is_commit t) 1 0) (s ∷ []) steps

section_number : (mode : Mode) (c : Control) (steps : List Step) → (section mode c steps).last.number ≤ c.last.number + commits steps
section_number mode c [] = omega arith
section_number mode c (s ∷ steps) =
    let one = step_number mode c s in let rest = section_number mode (step mode c s) steps in let both = commits-one s steps in omega (arith, one, rest, both)

-- Steps make at most one generation for each commit.
goes_number : (keep_going : Bool) (steps : List Step) (old new : Steering) (failed : Bool) (events : List Event) → GoesOn (λ c. section (mode_of keep_going) c steps) (run old false []) (run new failed events)
    → new.work.base.number ≤ old.work.base.number + commits steps
goes_number keep_going steps old new failed events goes =
    let st = goes.stands [] (control_of old) (stands_here old) in let n = section_number (mode_of keep_going) (control_of old) steps in let same = ap (λ (g : Generation). g.number) st.last in omega (arith, n, same)

-- After some of the steps the next generation has a number.
pub has_next : (keep_going : Bool) (steps : List Step) (i : ℕ) (old here : Steering) (failed : Bool) (events : List Event) → HasNumbers old steps
    → GoesOn (λ c. section (mode_of keep_going) c (take i steps)) (run old false []) (run here failed events) → here.work.base.number < 2 ^ 63
has_next keep_going steps i old here failed events room goes =
    let n = goes_number keep_going (take i steps) old here failed events goes in let some = sum_by-take-le (λ s. cond (is_commit s) 1 0) steps i in omega (arith, n, some, room)

-- there are no more commits than steps
pub few_commits : (steps : List Step) → commits steps ≤ length steps
few_commits steps = count_by-le-length is_commit steps

-- a step of a declared set can be tried
pub step_within : (schema : List SetDecl) (w : Open) (set : ℕ) (d : SetDecl) → kinds_of w.sets ≡ declared_kinds schema → slice_get schema set ≡ Some d → set < length w.sets
step_within schema w set d e h = let within = slice_get_within schema set d h in let many = as_many w.sets schema e in omega (arith, within, many)

pub step_fits : (schema : List SetDecl) (w : Open) (set : ℕ) (d : SetDecl) (parts : List Interval) → kinds_of w.sets ≡ declared_kinds schema → slice_get schema set ≡ Some d → parts_fit d.kinds parts ≡ true → FitsSet w set parts
step_fits schema w set d parts e h f = λ s at. subst (λ k. parts_fit k parts ≡ true) (sym (declared_at schema w.sets set d s e h at)) f

-- The committed list grows.
abbrev Grew : Control → Control → Type 0
Grew c d = StartsWith d.committed c.committed

grew_self : (c : Control) → Grew c c
grew_self c = starts_itself c.committed

refused_grew : (mode : Mode) (b c : Control) (line set : ℕ) (why : Why) → Grew b c → Grew b (refused mode c line set why)
refused_grew Strict b c line set why h = h
refused_grew KeepGoing b c line set why h = h

answered_grew : (mode : Mode) (b c : Control) (line set : ℕ) (x : Option Why × State) → Grew b c → Grew b (answered mode c line set x)
answered_grew mode b c line set (Some why, s) h = refused_grew mode b c line set why h
answered_grew mode b c line set (None, s) h = h

changed_grew : (mode : Mode) (b c : Control) (line set : ℕ) (verb : Verb) (element : NewElement) (now : ℕ) (o : Option State) → Grew b c → Grew b (changed mode c line set verb element now o)
changed_grew mode b c line set verb element now None h = h
changed_grew mode b c line set verb element now (Some s) h = answered_grew mode b c line set (changed_set verb s element now) h

flushed_grew : (b c : Control) (set : ℕ) (o : Option State) → Grew b c → Grew b (flushed c set o)
flushed_grew b c set None h = h
flushed_grew b c set (Some s) h = h

if_grew : (b : Control) (t : Bool) (x y : Control) → Grew b x → Grew b y → Grew b (if t then x else y)
if_grew b true x y p q = p
if_grew b false x y p q = q

step_grew : (mode : Mode) (b c : Control) (s : Step) → Grew b c → Grew b (step mode c s)
step_grew mode b c (Change line set verb element now) h = if_grew b c.failed c _ h (changed_grew mode b c line set verb element now (slice_get c.sets set) h)
step_grew mode b c (Flush line set now) h = if_grew b c.failed c _ h (flushed_grew b c set (slice_get c.sets set) h)
step_grew mode b c (Commit now) h = if_grew b c.failed _ (committed c now) h (starts_more c.committed b.committed _ h)
step_grew mode b c Abort h = h

section_grew : (mode : Mode) (b c : Control) (steps : List Step) → Grew b c → Grew b (section mode c steps)
section_grew mode b c [] h = h
section_grew mode b c (s ∷ steps) h = section_grew mode b (step mode c s) steps (step_grew mode b c s h)

-- what a section needs to know of the steps beside it
pub record Advances (c d : Steering) : Type 0 where
  pub grows : StartsWith d.committed c.committed
  pub of_is : d.of ≡ c.of
  pub schema_is : d.schema ≡ c.schema
  pub readers_is : d.readers ≡ c.readers

pub advances : (keep_going : Bool) (steps : List Step) (c d : Steering) (events : List Event) → Ran keep_going steps c d events → Advances c d
advances keep_going steps c d events h =
    let st = h.goes_on.stands [] (control_of c) (stands_here c) in record {
      grows = subst (λ (z : List Generation). StartsWith z c.committed) st.committed (section_grew (mode_of keep_going) (control_of c) (control_of c) steps (grew_self (control_of c)));
      of_is = h.goes_on.of_is;
      schema_is = h.goes_on.schema_is;
      readers_is = h.goes_on.readers_is;
    }
