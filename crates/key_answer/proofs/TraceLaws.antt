-- A run that notes lines goes on as the definition does.
use Rattle.std.proofs.Common.{fold, ◌≡◌, refl, sym, ◌∙◌, ap, subst, ℕ, ◌+◌, ◌<◌, ◌==◌, ◌||◌, Bool, true, false, not, if◌then◌else◌, List, [], ◌∷◌, ◌++◌, length, take, get_or, Option, Some, None, Result, Ok, Err, slice_get, append_assoc, eq-eqb, eqb-true}
use Rattle.set_model.specs.declared.element.NewElement.{NewElement}
use Rattle.set_model.specs.declared.report.Event.{Event}
use Rattle.set_model.specs.declared.report.Event.TheVariants.{Refused as Told}
use Rattle.set_model.specs.declared.report.Why.{Why}
use Rattle.set_model.specs.declared.script.SetDecl.{SetDecl}
use Rattle.set_model.specs.declared.script.Step.{Step}
use Rattle.set_model.specs.declared.script.Step.TheVariants.{Change, Flush, Commit, Abort}
use Rattle.set_model.specs.declared.script.Verb.{Verb}
use Rattle.set_model.specs.SetState.{State, Addition, New, Already, Renewed, Refused, add}
use Rattle.set_model.specs.Control.{Mode, Control, mode_of, start, step, section, history, refused, changed, as_added, as_created}
use Rattle.set_space.specs.Open.{Open, IsChange}
use Rattle.set_space.specs.Answers.{IsCreation}
use Rattle.gen_publish.specs.Publish.{Steering}
use Rattle.pipapo_image.specs.declared.answers.Added.{Added}
use Rattle.pipapo_image.specs.declared.answers.Added.TheVariants as added
use Rattle.pipapo_image.specs.declared.answers.ChangeError.{ChangeError}
use Rattle.pipapo_image.specs.declared.answers.ChangeError.TheVariants as errors
use Rattle.pipapo_image.specs.Image.Insert.{IsAnswer}
use Rattle.packet_pool.specs.Running.{Run, run, HasCome, StandsAt, GoesOn}
use Rattle.packet_pool.proofs.RunLaws.{change_goes, refusal_goes, open_change, fold-more, goes_more}
use Rattle.key_answer.specs.Origin.{new_id, made_in, with_line, lines_after, lines_of, Traced, traced_step, traced_section, traced}
use Rattle.key_answer.specs.Tracing.{adding, Makes, HasMade, IsNoted, Traces}

-- the call of an insertion, by the id of the element that it made
abbrev pub made_by : Result Added ChangeError → Result (Option ℕ) ChangeError
made_by (Ok (added.New id)) = Ok (Some id)
made_by (Ok (added.Already id)) = Ok None
made_by (Ok (added.Renewed id)) = Ok None
made_by (Err e) = Err e

-- the same of a creation
abbrev pub created_by : Result ℕ ChangeError → Result (Option ℕ) ChangeError
created_by (Ok id) = Ok (Some id)
created_by (Err e) = Err e

come : (expected : Option Why × State) (why : Option Why) (t : State) → why ≡ expected.0 → t ≡ expected.1 → HasCome expected why t
come expected why t e f = record { answer = e; leaves = f }

inserts : (a : Addition × State) (s t : State) (r : Result Added ChangeError) → IsAnswer a r s t → Makes (as_added a) (new_id a.0) (made_by r) t
inserts (New x, u) s t (Ok (added.New id)) h = let same : id ≡ x = cc h.0 in (come _ _ t refl h.1, ap Some same)
inserts (Already x, u) s t (Ok (added.New id)) h = absurd (cc h.0)
inserts (Renewed x, u) s t (Ok (added.New id)) h = absurd (cc h.0)
inserts (Refused x, u) s t (Ok (added.New id)) h = absurd (cc h.0)
inserts (New x, u) s t (Ok (added.Already id)) h = absurd (cc h.0)
inserts (Already x, u) s t (Ok (added.Already id)) h = (come _ _ t refl h.1, refl)
inserts (Renewed x, u) s t (Ok (added.Already id)) h = absurd (cc h.0)
inserts (Refused x, u) s t (Ok (added.Already id)) h = absurd (cc h.0)
inserts (New x, u) s t (Ok (added.Renewed id)) h = absurd (cc h.0)
inserts (Already x, u) s t (Ok (added.Renewed id)) h = absurd (cc h.0)
inserts (Renewed x, u) s t (Ok (added.Renewed id)) h = (come _ _ t refl h.1, refl)
inserts (Refused x, u) s t (Ok (added.Renewed id)) h = absurd (cc h.0)
inserts (New x, u) s t (Err (errors.Refused why)) h = absurd (cc h.0)
inserts (Already x, u) s t (Err (errors.Refused why)) h = absurd (cc h.0)
inserts (Renewed x, u) s t (Err (errors.Refused why)) h = absurd (cc h.0)
inserts (Refused x, u) s t (Err (errors.Refused why)) h = let same : why ≡ x = cc h.0 in (come _ _ t (ap Some same) h.1, refl)
inserts a s t (Err errors.Memory) h = tt

creates : (a : Addition × State) (s t : State) (r : Result ℕ ChangeError) → IsCreation a r s t → Makes (as_created s a) (new_id a.0) (created_by r) t
creates (New x, u) s t (Ok id) h = let same : id ≡ x = cc h.0 in (come _ _ t refl h.1, ap Some same)
creates (Already x, u) s t (Ok id) h = absurd (cc h.0)
creates (Renewed x, u) s t (Ok id) h = absurd (cc h.0)
creates (Refused x, u) s t (Ok id) h = absurd (cc h.0)
creates (New x, u) s t (Err (errors.Refused why)) h = absurd (cc h.0)
creates (Already x, u) s t (Err (errors.Refused why)) h = (come _ _ t (sym h.0) h.1, refl)
creates (Renewed x, u) s t (Err (errors.Refused why)) h = (come _ _ t (sym h.0) h.1, refl)
creates (Refused x, u) s t (Err (errors.Refused why)) h = (come _ _ t (sym h.0) h.1, refl)
creates a s t (Err errors.Memory) h = tt

-- A change of one sort is one of another.
pub change-by : (P Q : State → State → Type 0) (old : Open) (set : ℕ) (new : Open) → ((s t : State) → P s t → Q s t) → IsChange P old set new → IsChange Q old set new
change-by P Q old set new f h = record { state = h.state; left = h.left; at = h.at; changed = f h.state h.left h.changed; others = h.others }

pub inserted : (e : NewElement) (now : ℕ) (old : Open) (set : ℕ) (new : Open) (r : Result Added ChangeError) (out : Result (Option ℕ) ChangeError) → out ≡ made_by r
    → IsChange (λ s t. IsAnswer (add s e now) r s t) old set new → IsChange (HasMade (adding false) e now out) old set new
inserted e now old set new r out is h = subst (λ o. IsChange (HasMade (adding false) e now o) old set new) (sym is) (change-by (λ s t. IsAnswer (add s e now) r s t) (HasMade (adding false) e now (made_by r)) old set new (λ s t k. inserts (add s e now) s t r k) h)

pub created : (e : NewElement) (now : ℕ) (old : Open) (set : ℕ) (new : Open) (r : Result ℕ ChangeError) (out : Result (Option ℕ) ChangeError) → out ≡ created_by r
    → IsChange (λ s t. IsCreation (add s e now) r s t) old set new → IsChange (HasMade (adding true) e now out) old set new
created e now old set new r out is h = subst (λ o. IsChange (HasMade (adding true) e now o) old set new) (sym is) (change-by (λ s t. IsCreation (add s e now) r s t) (HasMade (adding true) e now (created_by r)) old set new (λ s t k. creates (add s e now) s t r k) h)

-- A refusal, in a transaction that hasn't failed.
pub refusing : (keep_going failed : Bool) (k : Steering) (line set : ℕ) (why : Why) (told events : List Event) → failed ≡ false → events ≡ told ++ Told line set why ∷ []
    → GoesOn (λ c. refused (mode_of keep_going) c line set why) (run k failed told) (run k (not keep_going) events)
refusing true failed k line set why told events quiet more = record {
  of_is = refl;
  schema_is = refl;
  readers_is = refl;
  stands = λ before c h. record { committed = h.committed; last = h.last; sets = h.sets; failed = h.failed ∙ quiet; told = ap (λ z. z ++ Told line set why ∷ []) h.told ∙ append_assoc before told (Told line set why ∷ []) ∙ ap (λ z. before ++ z) (sym more) };
}
refusing false failed k line set why told events quiet more = record {
  of_is = refl;
  schema_is = refl;
  readers_is = refl;
  stands = λ before c h. record { committed = h.committed; last = h.last; sets = h.sets; failed = refl; told = ap (λ z. z ++ Told line set why ∷ []) h.told ∙ append_assoc before told (Told line set why ∷ []) ∙ ap (λ z. before ++ z) (sym more) };
}

-- the lines after an addition to the traced set, in a transaction that hasn't failed
noted : (set line : ℕ) (verb : Verb) (e : NewElement) (now : ℕ) (c : Control) (lines : List ℕ) (s : State) (made : Option ℕ) → c.failed ≡ false → slice_get c.sets set ≡ Some s → made ≡ made_in verb e now (Some s)
    → with_line lines line made ≡ lines_after set c lines (Change line set verb e now)
noted set line verb e now c lines s made quiet at is = rw (eq-eqb set set refl, quiet, at) (ap (with_line lines line) is)

either-same : {X : Type 0} (t : Bool) (x : X) → (if t then x else x) ≡ x
either-same true x = refl
either-same false x = refl

or-true : (b : Bool) → (b || true) ≡ true
or-true true = refl
or-true false = refl

-- A failed transaction notes no line.
pub failed-lines : (set : ℕ) (c : Control) (lines : List ℕ) (s : Step) → c.failed ≡ true → lines_after set c lines s ≡ lines
failed-lines set c lines (Change line other verb e now) failed = rw (failed, or-true (not (other == set))) refl
failed-lines set c lines (Flush line other now) failed = refl
failed-lines set c lines (Commit now) failed = refl
failed-lines set c lines Abort failed = refl

-- A change of another set notes no line, and neither does one that only removes.
pub other-lines : (set line other : ℕ) (verb : Verb) (e : NewElement) (now : ℕ) (c : Control) (lines : List ℕ) → (other == set) ≡ false → lines_after set c lines (Change line other verb e now) ≡ lines
other-lines set line other verb e now c lines is = rw is refl

pub same-lines : (set line other : ℕ) (verb : Verb) (e : NewElement) (now : ℕ) (c : Control) (lines : List ℕ) → ((s : Option State) → made_in verb e now s ≡ None) → lines_after set c lines (Change line other verb e now) ≡ lines
same-lines set line other verb e now c lines none =
    ap (λ (made : Option ℕ). if not (other == set) || c.failed then lines else with_line lines line made) (none (slice_get c.sets other)) ∙ either-same (not (other == set) || c.failed) lines

-- The lines of each set after an addition to one, in a transaction that hasn't failed.
each-line : (line set : ℕ) (verb : Verb) (e : NewElement) (now : ℕ) (made : Option ℕ) (lines more : List (List ℕ)) (s : State) (c : Control) → IsNoted set line made lines more → c.failed ≡ false → slice_get c.sets set ≡ Some s → made ≡ made_in verb e now (Some s)
    → (k : ℕ) → k < length lines → lines_of more k ≡ lines_after k c (lines_of lines k) (Change line set verb e now)
each-line line set verb e now made lines more s c h quiet at is k within = go (set == k) refl where
  go : (b : Bool) → (set == k) ≡ b → lines_of more k ≡ lines_after k c (lines_of lines k) (Change line set verb e now)
  go true same =
      let this : set ≡ k = eqb-true set k same in
      let P : ℕ → Type 0 = λ n. n < length lines → lines_of more n ≡ lines_after n c (lines_of lines n) (Change line set verb e now) in
      subst P this (λ w. h.own w ∙ noted set line verb e now c (lines_of lines set) s made quiet at is) within
  go false other = h.others k other ∙ sym (other-lines k line set verb e now c (lines_of lines k) other)

-- No line was noted.
pub noted-none : (set line : ℕ) (lines : List (List ℕ)) → IsNoted set line None lines lines
noted-none set line lines = record { one_each = refl; own = λ _. refl; others = λ other _. refl }

module _ (mode : Mode) (line set : ℕ) (verb : Verb) (e : NewElement) (now : ℕ) (k new : Steering) (told : List Event) (same : new ≡ record k { work = new.work }) where
  -- An addition was made, and its line noted.
  pub made-traces : (failed : Bool) (made : Option ℕ) (lines more : List (List ℕ)) → failed ≡ false → IsChange (HasMade verb e now (Ok made)) k.work set new.work → IsNoted set line made lines more
      → Traces mode (Change line set verb e now ∷ []) (run k failed told) (run new failed told) lines more
  made-traces failed made lines more quiet h noted_is = record {
    goes_on = open_change mode (run k failed told) (run new failed told) line set verb e now quiet
        (change_goes mode line set verb e now k new told same failed (change-by (HasMade verb e now (Ok made)) _ k.work set new.work (λ s t come. come.0) h));
    one_each = noted_is.one_each;
    lines_are = λ before c st.
        let at : slice_get c.sets set ≡ Some h.state = ap (λ z. slice_get z set) st.sets ∙ h.at in
        each-line line set verb e now made lines more h.state c noted_is (st.failed ∙ quiet) at h.changed.1;
  }

  -- An addition was refused.
  pub refused-traces : (failed failed' : Bool) (why : Why) (events : List Event) (lines : List (List ℕ)) → failed ≡ false → IsChange (HasMade verb e now (Err (errors.Refused why))) k.work set new.work
      → ((x : Steering) → GoesOn (λ c. refused mode c line set why) (run x failed told) (run x failed' events))
      → Traces mode (Change line set verb e now ∷ []) (run k failed told) (run new failed' events) lines lines
  refused-traces failed failed' why events lines quiet h does = record {
    goes_on = open_change mode (run k failed told) (run new failed' events) line set verb e now quiet
        (refusal_goes mode line set verb e now k new told same why failed failed' events (change-by (HasMade verb e now (Err (errors.Refused why))) _ k.work set new.work (λ s t come. come.0) h) does);
    one_each = refl;
    lines_are = λ before c st.
        let at : slice_get c.sets set ≡ Some h.state = ap (λ z. slice_get z set) st.sets ∙ h.at in
        each-line line set verb e now None lines lines h.state c (noted-none set line lines) (st.failed ∙ quiet) at (sym h.changed.1);
  }

-- A step that notes no line.
pub unnoted : (mode : Mode) (s : Step) (old new : Run) (lines : List (List ℕ)) → ((before : List Event) (c : Control) → StandsAt before c old → (set : ℕ) → lines_after set c (lines_of lines set) s ≡ lines_of lines set) → GoesOn (λ c. step mode c s) old new
    → Traces mode (s ∷ []) old new lines lines
unnoted mode s old new lines none does = record { goes_on = does; one_each = refl; lines_are = λ before c st set within. sym (none before c st set) }

-- The control of a traced section is the section's control.
pub traced-control : (mode : Mode) (set : ℕ) (t : Traced) (steps : List Step) → (traced_section mode set t steps).control ≡ section mode t.control steps
traced-control mode set t [] = refl
traced-control mode set t (s ∷ steps) = traced-control mode set (traced_step mode set t s) steps

pub traces-none : (mode : Mode) (r : Run) (lines : List (List ℕ)) → Traces mode [] r r lines lines
traces-none mode r lines = record { goes_on = record { of_is = refl; schema_is = refl; readers_is = refl; stands = λ before c h. h }; one_each = refl; lines_are = λ before c h set within. refl }

-- One step more.
pub traces-more : (mode : Mode) (steps : List Step) (i : ℕ) (s : Step) (r here new : Run) (lines mid more : List (List ℕ)) → i < length steps → s ≡ get_or steps i s
    → Traces mode (take i steps) r here lines mid → Traces mode (s ∷ []) here new mid more → Traces mode (take (i + 1) steps) r new lines more
traces-more mode steps i s r here new lines mid more h e first next = record {
  goes_on = goes_more mode steps i s r here new h e first.goes_on next.goes_on;
  one_each = next.one_each ∙ first.one_each;
  lines_are = λ before c st set within.
      let t : Traced = record { control = c; lines = lines_of lines set } in
      let far = traced_section mode set t (take i steps) in
      let control : far.control ≡ section mode c (take i steps) = traced-control mode set t (take i steps) in
      let mid_is : lines_of mid set ≡ far.lines = first.lines_are before c st set within in
      let last = next.lines_are before (section mode c (take i steps)) (first.goes_on.stands before c st) set (subst (λ n. set < n) (sym first.one_each) within) in
      last ∙ ap (λ (d : Control). lines_after set d (lines_of mid set) s) (sym control) ∙ ap (λ ls. lines_after set far.control ls s) mid_is ∙ ap (λ (u : Traced). u.lines) (fold-more (traced_step mode set) t steps i s h e);
}

-- A traced history has the control of the history.
pub traced-history : (mode : Mode) (set : ℕ) (t : Traced) (sections : List (List Step)) → (fold (traced_section mode set) t sections).control ≡ fold (section mode) t.control sections
traced-history mode set t [] = refl
traced-history mode set t (steps ∷ sections) = traced-history mode set (traced_section mode set t steps) sections ∙ ap (λ c. fold (section mode) c sections) (traced-control mode set t steps)

-- One section more.
pub lines-more : (mode : Mode) (set : ℕ) (schema : List SetDecl) (sections : List (List Step)) (i : ℕ) (steps : List Step) (lines more : List ℕ) → i < length sections → steps ≡ get_or sections i steps
    → lines ≡ (traced mode set schema (take i sections)).lines
    → more ≡ (traced_section mode set (record { control = history mode schema (take i sections); lines = lines }) steps).lines → more ≡ (traced mode set schema (take (i + 1) sections)).lines
lines-more mode set schema sections i steps lines more h e so_far next =
    let t : Traced = record { control = start schema; lines = [] } in
    let far = fold (traced_section mode set) t (take i sections) in
    let control : far.control ≡ history mode schema (take i sections) = traced-history mode set t (take i sections) in
    let pair : Control → List ℕ → Traced = λ k ls. record { control = k; lines = ls } in
    next ∙ ap (λ (k : Control). (traced_section mode set (pair k lines) steps).lines) (sym control) ∙ ap (λ (ls : List ℕ). (traced_section mode set (pair far.control ls) steps).lines) so_far ∙ ap (λ (u : Traced). u.lines) (fold-more (traced_section mode set) t sections i steps h e)
