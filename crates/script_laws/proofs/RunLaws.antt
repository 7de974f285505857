-- A control after some sections of a script: the state of the definition's control, and the declared sets.
use Rattle.std.proofs.Common.{◌≡◌, refl, sym, ◌∙◌, ap, subst, ℕ, ◌+◌, ◌<◌, Bool, false, List, [], ◌∷◌, ◌++◌, length, take, slice_get, get_or, Option, Some, None, All, append-nil, unwrap_or, Result, Ok, Err, IfOk}
use Rattle.std.proofs.lemmas.List.{length-map}
use Rattle.set_model.specs.declared.report.Event.{Event}
use Rattle.set_model.specs.declared.script.Step.{Step}
use Rattle.set_model.specs.declared.script.SetDecl.{SetDecl}
use Rattle.set_model.specs.Control.{Mode, mode_of, Control, Generation, start, section, history, first_generation}
use Rattle.set_model.specs.Runnable.{EndsClosed}
use Rattle.set_model.proofs.ClosedLaws.{closed-section}
use Rattle.gen_publish.specs.Publish.{Steering, declared_kinds}
use Rattle.packet_pool.specs.Running.{run, StandsAt, Ran}
use Rattle.packet_pool.proofs.RunLaws.{fold-more}
use Rattle.set_report.specs.Writes.{NamesSet, AreSetsOf}
use Rattle.set_space.specs.Open.{opened}
use Rattle.script_laws.specs.Sections.{section_at}
use Rattle.script_laws.proofs.ControlLaws.{history_of, history_sets}
use Rattle.script_laws.proofs.Lists.{of-item}

-- What holds of a result holds of what that implies.
pub ok-as : {T E : Type 0} {P Q : T → Type 0} (r : Result T E) → ((x : T) → P x → Q x) → IfOk r P → IfOk r Q
ok-as (Ok x) implies h = implies x h
ok-as (Err e) implies h = tt

-- a section that isn't there is closed
pub closed-at : (sections : List (List Step)) (j : ℕ) → All EndsClosed sections → EndsClosed (section_at sections j)
closed-at sections j h = go (slice_get sections j) refl where
  go : (o : Option (List Step)) → slice_get sections j ≡ o → EndsClosed (unwrap_or o [])
  go None e = refl
  go (Some ys) e = of-item EndsClosed sections j ys h e

-- After some sections, the events of a control name declared sets, and its sets are the declared ones.
module _ (mode : Mode) (schema : List SetDecl) (sections : List (List Step)) (k : Steering) (events : List Event) (st : StandsAt [] (history mode schema sections) (run k false events)) where
  pub events_declared : All (NamesSet (length schema)) events
  events_declared =
      subst (λ n. All (NamesSet n) events) (length-map schema (λ (d : SetDecl). d.kinds))
      (subst (λ (z : List Event). All (NamesSet (length (declared_kinds schema))) z) st.told (history_of mode schema sections).named)

  pub sets_declared : AreSetsOf schema k.work.base.sets
  sets_declared = subst (λ (g : Generation). AreSetsOf schema g.sets) st.last (history_sets mode schema sections)

pub start_stands : (schema : List SetDecl) (k : Steering) → k.committed ≡ first_generation schema ∷ [] → k.work ≡ opened (first_generation schema) → StandsAt [] (start schema) (run k false [])
start_stands schema k list work = record { committed = sym list; last = sym (ap (λ w. w.base) work); sets = sym (ap (λ w. w.sets) work); failed = refl; told = refl }

-- The next section.
pub next_stands : (keep_going : Bool) (schema : List SetDecl) (sections : List (List Step)) (i : ℕ) (steps : List Step) (k new : Steering) (events told all : List Event) → i < length sections → steps ≡ get_or sections i steps
    → EndsClosed steps → StandsAt [] (history (mode_of keep_going) schema (take i sections)) (run k false events) → Ran keep_going steps k new told → all ≡ events ++ told
    → StandsAt [] (history (mode_of keep_going) schema (take (i + 1) sections)) (run new false all)
next_stands keep_going schema sections i steps k new events told all h e closed st ran more =
    let c : Control = history (mode_of keep_going) schema (take i sections) in
    let next = ran.goes_on.stands events c (record { committed = st.committed; last = st.last; sets = st.sets; failed = st.failed; told = st.told ∙ sym (append-nil events) }) in
    subst (λ (x : Control). StandsAt [] x (run new false all)) (fold-more (section (mode_of keep_going)) (start schema) sections i steps h e)
    (record { committed = next.committed; last = next.last; sets = next.sets; failed = closed-section steps closed (mode_of keep_going) c st.failed; told = next.told ∙ sym more })
