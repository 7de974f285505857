-- Steps of a transaction on a control: what they keep if memory runs out, and the end of the transaction.
use Rattle.std.proofs.Common.{◌≡◌, refl, sym, ◌∙◌, ap, subst, ℕ, ◌+◌, ◌-◌, ◌<◌, ⊎_elim, Bool, true, false, List, [], ◌∷◌, ◌++◌, All, length, take, get_or, Some, arith, add-one, length-append}
use Rattle.std.proofs.Math.Seq.{take-suc}
use Rattle.std.proofs.lemmas.List.{take_all}
use Rattle.std.proofs.lemmas.List.Sums.{fold-append}
use Rattle.set_model.specs.declared.report.Event.{Event}
use Rattle.set_model.specs.declared.report.Event.TheVariants.{Aborted, Dropped, Committed}
use Rattle.set_model.specs.declared.script.Step.{Step}
use Rattle.set_model.specs.declared.script.Step.TheVariants.{Commit, Abort}
use Rattle.set_model.specs.Control.{Mode, Control, Generation, mode_of, step, section, expired_count}
use Rattle.set_model.specs.Runnable.{opens}
use Rattle.set_space.specs.Open.{opened}
use Rattle.gen_publish.specs.Publish.{Steering, after_commit}
use Rattle.packet_pool.specs.Running.{run, StandsAt, GoesOn, Breaks, control_of}
use Rattle.packet_pool.proofs.RunLaws.{stands_here, commit_goes, rewind_goes, dropped_end, aborted_end}
use Rattle.control_desk.specs.declared.entry.Entry.{Entry}
use Rattle.control_desk.specs.Woven.{IsTransaction}
use Rattle.control_desk.specs.Books.{IsClosed, IsDone}
use Rattle.control_desk.proofs.Transactions.{Keeps, changes_keep, step_keeps}

module _ (keep_going : Bool) (changes : List Step) (old here : Steering) (failed : Bool) (refused : List Event) where
  abbrev Went : Type 0
  Went = GoesOn (λ c. section (mode_of keep_going) c changes) (run old false []) (run here failed refused)

  went_stands : Went → StandsAt [] (section (mode_of keep_going) (control_of old) changes) (run here failed refused)
  went_stands went = went.stands [] (control_of old) (stands_here old)

  went_keeps : All (λ s. opens (Some s) ≡ true) changes → Keeps (control_of old) (section (mode_of keep_going) (control_of old) changes)
  went_keeps all = changes_keep (mode_of keep_going) (control_of old) changes all

  -- After changes the last generation's number is as before.
  pub same_number : All (λ s. opens (Some s) ≡ true) changes → Went → here.work.base.number ≡ old.work.base.number
  same_number all went = ap (λ (g : Generation). g.number) (sym (went_stands went).last ∙ (went_keeps all).last)

  pub same_committed : All (λ s. opens (Some s) ≡ true) changes → Went → here.committed ≡ old.committed
  same_committed all went = sym (went_stands went).committed ∙ (went_keeps all).committed

  -- If memory ran out in a later change, nothing was committed.
  pub none_committed : (s : Step) (new : Steering) → All (λ x. opens (Some x) ≡ true) changes → opens (Some s) ≡ true → Went → Breaks (λ c. step (mode_of keep_going) c s) (run here failed refused) new → new.committed ≡ old.committed
  none_committed s new all opening went breaks =
      let mode = mode_of keep_going in let c = section mode (control_of old) changes in
      ⊎_elim (λ (same : new.committed ≡ here.committed). same ∙ same_committed all went)
      (λ (more : (before : List Event) (k : Control) → StandsAt before k (run here failed refused) → (step mode k s).committed ≡ new.committed).
      sym (more [] c (went_stands went)) ∙ (step_keeps mode (control_of old) c s opening (went_keeps all)).committed)
      breaks

-- the ends of a transaction
module _ (mode : Mode) (k new : Steering) (failed : Bool) (told : List Event) where
  pub commit_ends : (now number purged : ℕ) → failed ≡ false → new ≡ after_commit k now → number ≡ k.work.base.number + 1 → purged ≡ expired_count k.work.sets now
      → GoesOn (λ c. step mode c (Commit now)) (run k failed told) (run new false (told ++ Committed number purged ∷ []))
  commit_ends now number purged quiet same n p =
      subst (λ (b : Bool). GoesOn (λ c. step mode c (Commit now)) (run k b told) (run new false (told ++ Committed number purged ∷ []))) (sym quiet)
      (commit_goes mode k new now number purged false told (told ++ Committed number purged ∷ []) refl same n p refl)

  pub drop_ends : (now number : ℕ) → failed ≡ true → new ≡ record k { work = opened k.work.base } → number ≡ k.work.base.number
      → GoesOn (λ c. step mode c (Commit now)) (run k failed told) (run new false (told ++ Dropped number ∷ []))
  drop_ends now number broken same n =
      dropped_end mode (run k failed told) (run new false (told ++ Dropped number ∷ [])) (Dropped number) now broken (ap Dropped n) (rewind_goes k new failed told (told ++ Dropped number ∷ []) (Dropped number) same refl)

  pub abort_ends : (number : ℕ) → new ≡ record k { work = opened k.work.base } → number ≡ k.work.base.number
      → GoesOn (λ c. step mode c Abort) (run k failed told) (run new false (told ++ Aborted number ∷ []))
  abort_ends number same n =
      aborted_end mode (run k failed told) (run new false (told ++ Aborted number ∷ [])) (Aborted number) (ap Aborted n) (rewind_goes k new failed told (told ++ Aborted number ∷ []) (Aborted number) same refl)

-- Changes, and then the end, are the whole transaction.
pub whole_goes : (keep_going : Bool) (steps changes : List Step) (end : Step) (old here new : Steering) (failed : Bool) (refused events : List Event) → steps ≡ changes ++ end ∷ []
    → GoesOn (λ c. section (mode_of keep_going) c changes) (run old false []) (run here failed refused)
    → GoesOn (λ c. step (mode_of keep_going) c end) (run here failed refused) (run new false events)
    → GoesOn (λ c. section (mode_of keep_going) c steps) (run old false []) (run new false events)
whole_goes keep_going steps changes end old here new failed refused events whole first last = let mode = mode_of keep_going in record {
  of_is = last.of_is ∙ first.of_is;
  schema_is = last.schema_is ∙ first.schema_is;
  readers_is = last.readers_is ∙ first.readers_is;
  stands = λ before c st. subst (λ (k : Control). StandsAt before k (run new false events))
      (sym (ap (section mode c) whole ∙ fold-append (step mode) c changes (end ∷ [])))
      (last.stands before (section mode c changes) (first.stands before c st));
}

-- A transaction is done: its changes, and then its end.
pub done_of : (clerk : ℕ) (keep_going : Bool) (steps : List Step) (t : IsTransaction steps) (all : List Step) (last : Step) (old here new : Steering) (failed : Bool) (refused : List Event) (end : Event) (before behind : List Entry) → all ≡ steps → last ≡ get_or all (length all - 1) last
    → GoesOn (λ c. section (mode_of keep_going) c (take (length all - 1) all)) (run old false []) (run here failed refused)
    → ((mode : Mode) (told : List Event) → GoesOn (λ c. step mode c last) (run here failed told) (run new false (told ++ end ∷ [])))
    → IsClosed new → behind ≡ before ++ record { clerk = clerk; steps = steps; keep_going = keep_going; refused = refused; end = end } ∷ []
    → IsDone clerk steps keep_going old new before behind end
done_of clerk keep_going steps t all last old here new failed refused end before behind same last_is first then closed logged =
    let size : length steps ≡ length t.changes + 1 = ap length t.whole ∙ length-append t.changes (t.end ∷ []) in
    let some : length all - 1 < length all = (let n = ap length same in omega (arith, size, n)) in
    let n : (length all - 1) + 1 ≡ length all = omega (arith, some) in
    let whole : steps ≡ take (length all - 1) all ++ last ∷ [] =
    sym same ∙ sym (take_all (length all) all (omega arith)) ∙ ap (λ i. take i all) (sym n) ∙ (rw add-one (take-suc all (length all - 1) last some ∙ ap (λ y. take (length all - 1) all ++ y ∷ []) (sym last_is))) in record {
      refused = refused;
      logged = logged;
      goes_on = whole_goes keep_going steps (take (length all - 1) all) last old here new failed refused (refused ++ end ∷ []) whole first (then (mode_of keep_going) refused);
      closed = closed;
    }
