-- The log of all control threads, once they have ended, is woven of their sections.
use Rattle.std.proofs.lemmas.Bool.Decides.{nat_tests}
use Rattle.std.proofs.Common.{◌≡◌, refl, sym, ◌∙◌, ap, subst, ℕ, zero, suc, ◌+◌, ◌-◌, ◌<◌, ◌≤◌, ◌==◌, Bool, true, false, cond, List, [], ◌∷◌, ◌++◌, All, length, map, flat_map, Some, slice_get, get_or, take, drop, arith}
use Rattle.std.proofs.lemmas.List.Elements.{All-nil, All-cons, All-head, All-tail, All-weaker}
use Rattle.packet_pool.proofs.Lists.{all_at, all_from, get_at}
use Rattle.set_model.specs.declared.script.SetDecl.{SetDecl}
use Rattle.set_model.specs.declared.script.Step.{Step}
use Rattle.set_model.specs.Control.{Generation}
use Rattle.atomic_table.specs.Seated.{TableId}
use Rattle.gen_publish.specs.Publish.{Steering}
use Rattle.control_desk.specs.declared.entry.Entry.{Entry}
use Rattle.log_turns.specs.LogRule.{Keeps}
use Rattle.control_desk.specs.Books.{Booked}
use Rattle.control_desk.specs.Woven.{IsOfOne, Replays, entries_of, steps_of}
use Rattle.control_desk.specs.Turns.{Seated, AreAll, newcomer}
use Rattle.control_desk.proofs.Submitting.{log_of, base_of, number_of, clerk_of}
use Rattle.control_desk.specs.Work.{HasDone, HasDoneOf, IsEnd, IsOne, IsRun, SharesDesk, kept_by}

-- What holds of each control thread's entries holds of all, if each entry is some control thread's.
module _ (P : Entry → Type 0) (n : ℕ) where
  rest_of : (e : Entry) (log : List Entry) (c : ℕ) (b : Bool) → (e.clerk == c) ≡ b → All P (cond b (e ∷ entries_of c log) (entries_of c log)) → All P (entries_of c log)
  rest_of e log c true is all = All-tail P e (entries_of c log) all
  rest_of e log c false is all = all

  pub all_of_each : (log : List Entry) → All (λ e. (0 < e.clerk) × (e.clerk ≤ n)) log → ((c : ℕ) → 0 < c → c ≤ n → All P (entries_of c log)) → All P log
  all_of_each [] named each = All-nil P
  all_of_each (e ∷ log) named each =
      let mine = All-head (λ (x : Entry). (0 < x.clerk) × (x.clerk ≤ n)) e log named in
      let test : (e.clerk == e.clerk) ≡ true = grind (arith, nat_tests) in
      let here : All P (e ∷ entries_of e.clerk log) = subst (λ b. All P (cond b (e ∷ entries_of e.clerk log) (entries_of e.clerk log))) test (each e.clerk mine.0 mine.1) in
      All-cons P e log (All-head P e (entries_of e.clerk log) here)
      (all_of_each log (All-tail (λ (x : Entry). (0 < x.clerk) × (x.clerk ≤ n)) e log named) (λ c some within. rest_of e log c (e.clerk == c) refl (each c some within)))

module _ (of : TableId) (schema : List SetDecl) (base : List Generation) (sections : List (List Step)) (keep_going : Bool) (clerks done : List Seated)
    (all : AreAll of schema base clerks) (sizes : length sections ≡ length clerks) (same_size : length done ≡ length clerks)
    (each : (place : ℕ) (a b : Seated) → slice_get clerks place ≡ Some a → slice_get done place ≡ Some b → HasDoneOf sections keep_going a b) where
  -- the control thread of a section, and what it did
  record Did (place : ℕ) (steps : List Step) : Type 0 where
    pub old : Seated
    pub new : Seated
    pub old_is : old ≡ newcomer of schema base (length clerks) (place + 1) old.left
    pub at_new : slice_get done place ≡ Some new
    pub did : HasDone steps keep_going old new

  did_at : (place : ℕ) (steps : List Step) → place < length sections → slice_get sections place ≡ Some steps → Did place steps
  did_at place steps within at =
      let a = get_at clerks place (omega (arith, within, sizes)) in let b = get_at done place (omega (arith, within, sizes, same_size)) in let old_is = all.each place a.0 a.1 in
      let number : a.0.number ≡ place + 1 = ap (λ (c : Seated). c.number) old_is in let back : a.0.number - 1 ≡ place = omega (arith, number) in
      record { old = a.0; new = b.0; old_is = old_is; at_new = b.1; did = each place a.0 b.0 a.1 b.1 steps (ap (slice_get sections) back ∙ at) }

  within_list : {A : Type 0} (xs : List A) (place : ℕ) (steps : A) → slice_get xs place ≡ Some steps → place < length xs
  within_list [] place steps at = absurd (cc at)
  within_list (x ∷ xs) zero steps at = omega arith
  within_list (x ∷ xs) (suc n) steps at = let l = within_list xs n steps at in omega (arith, l)

  -- a control thread that has done its section is at the same desk
  pub desk_at : (place : ℕ) (b : Seated) → slice_get done place ≡ Some b → (b.of ≡ of) × (b.base ≡ base) × (b.threads ≡ length clerks)
  desk_at place b at =
      let within = within_list done place b at in let there = get_at sections place (omega (arith, within, sizes, same_size)) in let d = did_at place there.0 (omega (arith, within, sizes, same_size)) there.1 in
      let same : b ≡ d.new = cc (sym at ∙ d.at_new) in (
        ap (λ (c : Seated). c.of) (same ∙ d.did.same) ∙ ap (λ (c : Seated). c.of) d.old_is,
        ap (λ (c : Seated). c.base) (same ∙ d.did.same) ∙ ap (λ (c : Seated). c.base) d.old_is,
        ap (λ (c : Seated). c.threads) (same ∙ d.did.same) ∙ ap (λ (c : Seated). c.threads) d.old_is,
      )

  pub all_share : (first : Seated) → slice_get done 0 ≡ Some first → All (SharesDesk first) done
  all_share first at = all_from (SharesDesk first) done (λ place b at_b. let a = desk_at 0 first at in let c = desk_at place b at_b in record { of_is = c.0 ∙ sym a.0; base_is = c.1 ∙ sym a.1; threads_is = c.2 ∙ sym a.2 })

  module _ (control : Steering) (log : List Entry) (first : Seated) (at_first : slice_get done 0 ≡ Some first) (ended : IsEnd first done control log) where
    module _ (place : ℕ) (steps : List Step) (d : Did place steps) where
      number_is : d.old.number ≡ place + 1
      number_is = ap (λ (c : Seated). c.number) d.old_is

      new_number : d.new.number ≡ place + 1
      new_number = ap (λ (c : Seated). c.number) d.did.same ∙ number_is

      own_entries : entries_of (place + 1) log ≡ entries_of (place + 1) d.new.seen
      own_entries = subst (λ n. entries_of n log ≡ entries_of n d.new.seen) new_number (all_at (λ (c : Seated). entries_of c.number log ≡ entries_of c.number c.seen) done ended.own place d.new d.at_new)

      own_steps : steps_of (place + 1) log ≡ steps
      own_steps = ap (flat_map (λ (e : Entry). e.steps)) own_entries ∙ ap (λ n. steps_of n d.new.seen) (sym number_is) ∙ d.did.whole

      own_ones : All (IsOne keep_going) (entries_of (place + 1) log)
      own_ones = subst (All (IsOne keep_going)) (sym own_entries) (subst (λ n. All (IsOne keep_going) (entries_of n d.new.seen)) number_is d.did.ones)

    ones_of : (c : ℕ) → 0 < c → c ≤ length sections → All (IsOne keep_going) (entries_of c log)
    ones_of c some within =
        let place = c - 1 in let back : place + 1 ≡ c = omega (arith, some) in let there = get_at sections place (omega (arith, some, within)) in
        subst (λ n. All (IsOne keep_going) (entries_of n log)) back (own_ones place there.0 (did_at place there.0 (omega (arith, some, within)) there.1))

    first_threads : 0 < length sections → first.threads ≡ length sections
    first_threads some = let there = get_at sections 0 some in let d = did_at 0 there.0 some there.1 in
        let same : d.new ≡ first = cc (sym d.at_new ∙ at_first) in
        ap (λ (c : Seated). c.threads) (sym same ∙ d.did.same) ∙ ap (λ (c : Seated). c.threads) d.old_is ∙ sym sizes

    first_base : 0 < length sections → first.base ≡ base
    first_base some = let there = get_at sections 0 some in let d = did_at 0 there.0 some there.1 in
        let same : d.new ≡ first = cc (sym d.at_new ∙ at_first) in
        ap (λ (c : Seated). c.base) (sym same ∙ d.did.same) ∙ ap (λ (c : Seated). c.base) d.old_is

    pub run_of : 0 < length sections → IsRun sections keep_going base control log
    run_of some =
        let threads = first_threads some in
        let named : All (λ e. (0 < e.clerk) × (e.clerk ≤ length sections)) log = subst (λ n. All (λ e. (0 < e.clerk) × (e.clerk ≤ n)) log) threads ended.named in
        let ones = all_of_each (IsOne keep_going) (length sections) log named ones_of in record {
          woven = record {
            each = of_one log named ones;
            whole = λ place steps at. own_steps place steps (did_at place steps (within_list sections place steps at) at);
          };
          replays = subst (λ z. Replays z control.committed log) (first_base some) ended.replays;
          modes = All-weaker (IsOne keep_going) (λ e. e.keep_going ≡ keep_going) (λ e one. one.1) log ones;
          closed = ended.closed;
          grown = ended.grown;
          last = ended.last;
        }
      where
        of_one : (log : List Entry) → All (λ e. (0 < e.clerk) × (e.clerk ≤ length sections)) log → All (IsOne keep_going) log → All (IsOfOne (length sections)) log
        of_one [] named ones = All-nil (IsOfOne (length sections))
        of_one (e ∷ log) named ones =
            let n = All-head (λ (x : Entry). (0 < x.clerk) × (x.clerk ≤ length sections)) e log named in let o = All-head (IsOne keep_going) e log ones in
            All-cons (IsOfOne (length sections)) e log (record { transaction = o.0; from = n.0; to = n.1 })
            (of_one log (All-tail (λ (x : Entry). (0 < x.clerk) × (x.clerk ≤ length sections)) e log named) (All-tail (IsOne keep_going) e log ones))

-- The first of a list is taken out.
pub cut_first : (items others : List Seated) (r first : Seated) → slice_get items 0 ≡ Some first → r ≡ get_or items 0 r → others ≡ take 0 items ++ drop (0 + 1) items → (items ≡ first ∷ others) × (r ≡ first)
cut_first [] others r first at value rest = absurd (cc at)
cut_first (x ∷ xs) others r first at value rest = let same : x ≡ first = cc at in ((λ i. same i ∷ sym rest i), value ∙ same)

-- What a gatherer keeps is of the value's log.
pub own_of : (threads : ℕ) (book : Booked) (clerks : List Seated) → All (Keeps log_of base_of number_of clerk_of threads book) (map kept_by clerks) → All (λ c. entries_of c.number book.log ≡ entries_of c.number c.seen) clerks
own_of threads book [] all = All-nil (λ (c : Seated). entries_of c.number book.log ≡ entries_of c.number c.seen)
own_of threads book (c ∷ clerks) all =
    let K = Keeps log_of base_of number_of clerk_of threads book in
    All-cons (λ (c : Seated). entries_of c.number book.log ≡ entries_of c.number c.seen) c clerks (All-head K (kept_by c) (map kept_by clerks) all).3 (own_of threads book clerks (All-tail K (kept_by c) (map kept_by clerks) all))
