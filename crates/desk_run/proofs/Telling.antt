-- The text of a desk reports what the desk has done.
use Rattle.std.proofs.Common.{◌≡◌, refl, sym, ◌∙◌, ap, subst, ℕ, suc, ◌+◌, ◌-◌, Bool, true, false, ◌||◌, List, [], ◌∷◌, ◌++◌, length, map, take, drop, flat_map, All, Some, None, slice_get, get_or, arith, append-nil, append_assoc, add-one, ◌<◌, ◌≤◌, ◌⊎◌, inl, inr}
use Rattle.std.specs.List.{list_any}
use Rattle.set_model.specs.declared.report.Event.{Event}
use Rattle.set_model.specs.declared.script.Script.{Script}
use Rattle.set_model.specs.declared.script.Step.{Step}
use Rattle.set_model.specs.Control.{Control, Generation, history, is_refusal, mode_of}
use Rattle.set_model.specs.declared.script.SetDecl.{SetDecl}
use Rattle.set_report.specs.ListText.{list_text}
use Rattle.set_report.specs.Remarks.{remarks_text}
use Rattle.set_report.specs.Writes.{NamesSet, AreSetsOf}
use Rattle.gen_publish.specs.Publish.{Steering}
use Rattle.packet_pool.specs.Running.{run, StandsAt}
use Rattle.control_desk.specs.declared.entry.Entry.{Entry}
use Rattle.control_desk.specs.Woven.{IsWoven, Replays, said}
use Rattle.control_desk.specs.Work.{IsRun}
use Rattle.script_laws.specs.declared.output.Output.{Output}
use Rattle.script_laws.specs.declared.refusals.Refusal.{Refusal}
use Rattle.script_laws.specs.Reports.{has_failed, is_failure, refusal_in, refusals_in}
use Rattle.script_laws.specs.Sections.{section_at}
use Rattle.script_laws.proofs.Lists.{list_any-append, snoc-at}
use Rattle.std.proofs.lemmas.Grind.{flat_map-append}
use Rattle.std.proofs.lemmas.List.{length-append}
use Rattle.std.proofs.lemmas.List.Elements.{filter_map-append}
use Rattle.std.proofs.Math.Seq.{take-suc}
use Rattle.std.proofs.lemmas.Option.{slice_get_cases}
use Rattle.script_laws.proofs.RunLaws.{events_declared}
use Rattle.desk_run.specs.DeskText.{IsDeskOutput, IsDeskText, after_first_section, done_in_order, log_text, refusals_by}
use Rattle.desk_run.proofs.FirstSection.{first_alone}
use Rattle.desk_run.proofs.LogLaws.{last_declared, log_declares}

module _ {A B : Type 0} (test : B → Bool) (f : A → List B) where
  -- One of the items of some lists passes a test if one of a list does.
  any_of_lists : (xs : List A) → list_any test (flat_map f xs) ≡ list_any (λ x. list_any test (f x)) xs
  any_of_lists [] = refl
  any_of_lists (x ∷ xs) = list_any-append test (f x) (flat_map f xs) ∙ ap (λ b. list_any test (f x) || b) (any_of_lists xs)

-- The first section reported a refusal, or an entry of the log did.
pub refusal_of_log : (events : List Event) (log : List Entry) → (list_any is_refusal events || list_any (λ e. list_any is_refusal (said e)) log) ≡ list_any is_refusal (events ++ flat_map said log)
refusal_of_log events log = ap (λ b. list_any is_refusal events || b) (sym (any_of_lists is_refusal said log)) ∙ sym (list_any-append is_refusal events (flat_map said log))

-- The refused changes of one entry more.
pub logged-more : (log : List Entry) (i : ℕ) (entry : Entry) (refused : List Event) (old a b c : List Refusal) → i < length log → entry ≡ get_or log i entry → a ≡ old ++ flat_map refusals_by (take i log) → refused ≡ entry.refused → b ≡ a ++ refusals_in entry.clerk refused
    → c ≡ b ++ refusals_in entry.clerk (entry.end ∷ []) → c ≡ old ++ flat_map refusals_by (take (i + 1) log)
logged-more log i entry refused old a b c within is so_far given one two =
    let before : List Refusal = flat_map refusals_by (take i log) in
    let changes : List Refusal = refusals_in entry.clerk entry.refused in
    let end : List Refusal = refusals_in entry.clerk (entry.end ∷ []) in
    let front : take (i + 1) log ≡ take i log ++ entry ∷ [] = rw add-one (take-suc log i entry within ∙ ap (λ (e : Entry). take i log ++ e ∷ []) (sym is)) in
    let here : flat_map refusals_by (entry ∷ []) ≡ changes ++ end = append-nil (refusals_by entry) ∙ filter_map-append (refusal_in entry.clerk) entry.refused (entry.end ∷ []) in
    let next : before ++ (changes ++ end) ≡ flat_map refusals_by (take (i + 1) log) =
    ap (λ (z : List Refusal). before ++ z) (sym here) ∙ sym (flat_map-append refusals_by (take i log) (entry ∷ [])) ∙ ap (flat_map refusals_by) (sym front) in
    two ∙ ap (λ (z : List Refusal). z ++ end) (one ∙ ap (λ (z : List Event). a ++ refusals_in entry.clerk z) given ∙ ap (λ (z : List Refusal). z ++ changes) so_far)
    ∙ append_assoc (old ++ before) changes end ∙ append_assoc old before (changes ++ end) ∙ ap (λ (z : List Refusal). old ++ z) next

-- the last of some events and one more
last-snoc : (events : List Event) (event : Event) → has_failed (events ++ event ∷ []) ≡ is_failure (Some event)
last-snoc events event = let more = length-append events (event ∷ []) in ap is_failure (snoc-at events event (length (events ++ event ∷ []) - 1) (omega (arith, more)))

-- The events of a log end with the end of its last entry.
last_end : (log : List Entry) (e : Entry) → slice_get log (length log - 1) ≡ Some e → (events : List Event) × (flat_map said log ≡ events ++ e.end ∷ [])
last_end [] e at = absurd (cc at)
last_end (x ∷ []) e at = let same : x ≡ e = cc at in (x.refused, append-nil (said x) ∙ ap (λ (y : Entry). x.refused ++ y.end ∷ []) same)
last_end (x ∷ y ∷ log) e at =
    let behind : length (x ∷ y ∷ log) - 1 ≡ suc (length (y ∷ log) - 1) = omega arith in
    let rest = last_end (y ∷ log) e (ap (λ k. slice_get (x ∷ y ∷ log) k) (sym behind) ∙ at) in
    (said x ++ rest.0, ap (λ (z : List Event). said x ++ z) rest.1 ∙ sym (append_assoc (said x) rest.0 (e.end ∷ [])))

-- The last transaction is the log's last one.
pub failure_of_log : (told : List Event) (log : List Entry) (e : Entry) → slice_get log (length log - 1) ≡ Some e → is_failure (Some e.end) ≡ has_failed (told ++ flat_map said log)
failure_of_log told log e at =
    let ends = last_end log e at in
    sym (ap (λ (z : List Event). has_failed (told ++ z)) ends.1 ∙ ap has_failed (sym (append_assoc told ends.0 (e.end ∷ []))) ∙ last-snoc (told ++ ends.0) e.end)

-- If the log is empty, it is the first section's last one.
pub failure_alone : (told : List Event) (log : List Entry) → slice_get log (length log - 1) ≡ None → has_failed told ≡ has_failed (told ++ flat_map said log)
failure_alone told [] at = ap has_failed (sym (append-nil told))
failure_alone told (x ∷ log) at = go (slice_get_cases (x ∷ log) (length (x ∷ log) - 1)).1 where
  go : ((e : Entry) × (length (x ∷ log) - 1 < length (x ∷ log)) × (slice_get (x ∷ log) (length (x ∷ log) - 1) ≡ Some e) × (get_or (x ∷ log) (length (x ∷ log) - 1) e ≡ e)) ⊎ ((length (x ∷ log) ≤ length (x ∷ log) - 1) × (slice_get (x ∷ log) (length (x ∷ log) - 1) ≡ None))
      → has_failed told ≡ has_failed (told ++ flat_map said (x ∷ log))
  go (inl k) = let e : None ≡ Some k.0 = sym at ∙ k.2 in absurd (cc e)
  go (inr k) = let long = k.0 in absurd (omega (arith, long))

module _ (script : Script) (keep_going : Bool) (first : List Step) (later : List (List Step)) (control then : Steering) (told : List Event) (log : List Entry)
    (first_is : first ≡ section_at script.sections 0) (later_are : later ≡ drop 1 script.sections)
    (alone : StandsAt [] (history (mode_of keep_going) script.schema (first ∷ [])) (run control false told)) (ran : IsRun later keep_going control.committed then log) where
  stands : StandsAt [] (after_first_section keep_going script) (run control false told)
  stands = subst (λ (k : Control). StandsAt [] k (run control false told))
      (ap (λ (s : List Step). history (mode_of keep_going) script.schema (s ∷ [])) first_is ∙ sym (first_alone (mode_of keep_going) script.schema script.sections)) alone

  replays : Replays (after_first_section keep_going script).committed then.committed log
  replays = subst (λ (z : List Generation). Replays z then.committed log) (sym stands.committed) ran.replays

  -- what a writer of the text requires
  pub told_named : All (NamesSet (length script.schema)) told
  told_named = events_declared (mode_of keep_going) script.schema (take 1 script.sections) control told stands

  pub log_named : All (λ e. All (NamesSet (length script.schema)) (said e)) log
  log_named = log_declares (mode_of keep_going) script.schema (take 1 script.sections) then.committed log replays

  pub sets_declared : AreSetsOf script.schema then.work.base.sets
  sets_declared = last_declared (mode_of keep_going) script.schema (take 1 script.sections) then.committed log replays then.work.base ran.last

  pub tells : (refused : Bool) (text : List ℕ) → text ≡ remarks_text script.schema told ++ (log_text script.schema log ++ list_text script.schema then.work.base.sets script.last)
      → refused ≡ list_any is_refusal (told ++ flat_map said log) → IsDeskText script keep_going refused text
  tells refused text text_is refused_is = record {
    log = log;
    committed = then.committed;
    last = then.work.base;
    woven = subst (λ (z : List (List Step)). IsWoven z log) later_are ran.woven;
    replays = replays;
    modes = ran.modes;
    ends = ran.last;
    text = text_is ∙ ap (λ (events : List Event). remarks_text script.schema events ++ (log_text script.schema log ++ list_text script.schema then.work.base.sets script.last)) (sym stands.told);
    refusal = refused_is ∙ ap (λ (events : List Event). list_any is_refusal (events ++ flat_map said log)) (sym stands.told);
  }

  -- the steps as they were done, as a script
  pub done_script : (declared : List SetDecl) (done : List (List Step)) → declared ≡ script.schema → done ≡ first ∷ map (λ e. e.steps) log
      → (let s : Script = record { schema = declared; sections = done; last = script.last } in s) ≡ record script { sections = done_in_order script log }
  done_script declared done schema_is done_is = λ i. record { schema = schema_is i; sections = (done_is ∙ ap (λ (s : List Step). s ∷ map (λ (e : Entry). e.steps) log) first_is) i; last = script.last }

  -- The data of the output are those of the log.
  pub reports : (out : Output) → out.text.items ≡ remarks_text script.schema told ++ (log_text script.schema log ++ list_text script.schema then.work.base.sets script.last) → out.refused ≡ list_any is_refusal (told ++ flat_map said log)
      → out.refusals.items ≡ refusals_in 0 told ++ flat_map refusals_by log → out.failed ≡ has_failed (told ++ flat_map said log) → (out.refused ≡ true → out.script ≡ Some (record script { sections = done_in_order script log }))
      → IsDeskOutput script keep_going out
  unfolding tells
  reports out text_is refused_is refusals_are failed_is script_is = record {
    desk = tells out.refused out.text.items text_is refused_is;
    refusals_are = refusals_are ∙ ap (λ (events : List Event). refusals_in 0 events ++ flat_map refusals_by log) (sym stands.told);
    failed_is = failed_is ∙ ap (λ (events : List Event). has_failed (events ++ flat_map said log)) (sym stands.told);
    script_is = script_is;
  }
