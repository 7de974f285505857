-- A control thread's way through its section, step by step.
use Rattle.std.proofs.lemmas.Bool.Decides.{nat_tests}
use Rattle.std.proofs.Common.{◌==◌, ◌≡◌, refl, sym, ◌∙◌, ap, subst, ℕ, suc, ◌+◌, ◌-◌, ◌<◌, ◌≤◌, Bool, true, false, cond, List, [], ◌∷◌, ◌++◌, All, length, fold, take, drop, get_or, flat_map, Some, slice_get, if◌then◌else◌, arith, append_assoc, add-one}
use Rattle.std.proofs.Math.Seq.{take-suc}
use Rattle.std.proofs.lemmas.List.{drop-append-le, drop-take, length-take-le}
use Rattle.std.proofs.lemmas.Grind.{flat_map-append}
use Rattle.std.specs.List.{sum_by}
use Rattle.std.proofs.lemmas.List.Sums.{fold-append, sum_by-append, sum_by-cons, sum_by-take-drop}
use Rattle.std.proofs.lemmas.List.Elements.{All-nil, All-push, All-get_or, filter-append}
use mathlib.Core.List.{append-nil}
use Rattle.set_model.specs.declared.report.Event.{Event}
use Rattle.set_model.specs.declared.script.SetDecl.{SetDecl}
use Rattle.set_model.specs.declared.script.Step.{Step}
use Rattle.set_model.specs.Runnable.{EndsClosed, IsRunnableStep, opens}
use Rattle.control_desk.specs.declared.entry.Entry.{Entry}
use Rattle.control_desk.specs.Woven.{IsTransaction, entries_of, steps_of}
use Rattle.control_desk.specs.Turns.{Seated, HadTurn, IsLogged, IsUnlogged}
use Rattle.control_desk.specs.Work.{HasSubmitted, HasGone, HasDone, IsOne, pending_then, transactions}

abbrev Opens : List Step → Type 0
Opens steps = All (λ s. opens (Some s) ≡ true) steps

abbrev weight : Step → ℕ
weight s = cond (opens (Some s)) 0 1

pub transaction_of : (before : List Step) (step : Step) → Opens before → opens (Some step) ≡ false → IsTransaction (before ++ step ∷ [])
transaction_of before step opening closing = record { changes = before; end = step; whole = refl; opening = opening; closing = closing }

pending_open : (before : List Step) (step : Step) (b : Bool) → b ≡ true → (if b then before ++ step ∷ [] else []) ≡ before ++ step ∷ []
pending_open before step b is = ap (λ z. if z then before ++ step ∷ [] else []) is

pending_closed : (before : List Step) (step : Step) (b : Bool) → b ≡ false → (if b then before ++ step ∷ [] else []) ≡ []
pending_closed before step b is = ap (λ z. if z then before ++ step ∷ [] else []) is

-- A transaction was submitted with the step that ends it.
pub gone_submitted : (step : Step) (keep_going : Bool) (old new : Seated) (before : List Step) → Opens before → opens (Some step) ≡ false → HasSubmitted (before ++ step ∷ []) keep_going old new → HasGone step keep_going old new before []
gone_submitted step keep_going old new before opening closing did =
    let e : Entry = record { clerk = old.number; steps = before ++ step ∷ []; keep_going = keep_going; refused = did.refused; end = did.end } in
    let mine = entries_of old.number old.seen in record {
      steps = append-nil (steps_of old.number new.seen)
          ∙ ap (flat_map (λ (x : Entry). x.steps)) did.own
          ∙ flat_map-append (λ (x : Entry). x.steps) mine (e ∷ [])
          ∙ ap (λ z. steps_of old.number old.seen ++ z) (append-nil (before ++ step ∷ []))
          ∙ sym (append_assoc (steps_of old.number old.seen) before (step ∷ []));
      pending = sym (pending_closed before step (opens (Some step)) closing);
      ones = λ all. subst (All (IsOne keep_going)) (sym did.own) (All-push (IsOne keep_going) mine e all (transaction_of before step opening closing, refl));
      left = (let l = did.left in let one : ◌≡◌ {A = ℕ} (cond (opens (Some step)) 0 1) 1 = ap (λ (b : Bool). cond b 0 1) closing in let a = sum_by-cons weight step [] in omega (arith, l, one, a));
      same = did.same;
    }

-- The step leaves its transaction open.
pub gone_open : (step : Step) (keep_going : Bool) (old : Seated) (before : List Step) → opens (Some step) ≡ true → HasGone step keep_going old old before (before ++ step ∷ [])
gone_open step keep_going old before opening = record {
  steps = sym (append_assoc (steps_of old.number old.seen) before (step ∷ []));
  pending = sym (pending_open before step (opens (Some step)) opening);
  ones = λ all. all;
  left = (let none : ◌≡◌ {A = ℕ} (cond (opens (Some step)) 0 1) 0 = ap (λ (b : Bool). cond b 0 1) opening in let a = sum_by-cons weight step [] in omega (arith, none, a));
  same = refl;
}

-- So much of a section is done: its steps are logged, but for those of the open transaction.
pub record WentOn (keep_going : Bool) (steps : List Step) (old new : Seated) (pending : List Step) : Type 0 where
  pub whole : steps_of old.number new.seen ++ pending ≡ steps
  pub folded : pending ≡ fold pending_then [] steps
  pub opening : Opens pending
  pub fits : All (IsRunnableStep old.schema) pending
  pub ones : All (IsOne keep_going) (entries_of old.number new.seen)
  pub left : new.left + transactions steps ≡ old.left
  pub same : new ≡ record old { seen = new.seen; left = new.left }

pub nothing_done : (keep_going : Bool) (old : Seated) → old.seen ≡ [] → WentOn keep_going [] old old []
nothing_done keep_going old none = record {
  whole = ap (λ (z : List Entry). steps_of old.number z ++ []) none;
  folded = refl;
  opening = All-nil (λ s. opens (Some s) ≡ true);
  fits = All-nil (IsRunnableStep old.schema);
  ones = subst (λ (z : List Entry). All (IsOne keep_going) (entries_of old.number z)) (sym none) (All-nil (IsOne keep_going));
  left = omega arith;
  same = refl;
}

-- what holds of the steps before a step and of the step holds of the open transaction after it
all_pending : (P : Step → Type 0) (before : List Step) (step : Step) → All P before → (opens (Some step) ≡ true → P step) → (b : Bool) → opens (Some step) ≡ b → All P (if b then before ++ step ∷ [] else [])
all_pending P before step all one true is = All-push P before step all (one is)
all_pending P before step all one false is = All-nil P

pub one_more_done : (keep_going : Bool) (steps : List Step) (step : Step) (old mid new : Seated) (before behind : List Step) → IsRunnableStep old.schema step → WentOn keep_going steps old mid before → HasGone step keep_going mid new before behind → WentOn keep_going (steps ++ step ∷ []) old new behind
one_more_done keep_going steps step old mid new before behind fits went gone =
    let number : mid.number ≡ old.number = ap (λ (c : Seated). c.number) went.same in
    let seen_as : steps_of old.number new.seen ≡ steps_of mid.number new.seen = ap (λ n. steps_of n new.seen) (sym number) in record {
      whole = ap (λ z. z ++ behind) seen_as ∙ gone.steps ∙ ap (λ n. (steps_of n mid.seen ++ before) ++ step ∷ []) number ∙ ap (λ z. z ++ step ∷ []) went.whole;
      folded = gone.pending ∙ ap (λ z. pending_then z step) went.folded ∙ sym (fold-append pending_then [] steps (step ∷ []));
      opening = subst Opens (sym gone.pending) (all_pending (λ s. opens (Some s) ≡ true) before step went.opening (λ is. is) (opens (Some step)) refl);
      fits = subst (All (IsRunnableStep old.schema)) (sym gone.pending) (all_pending (IsRunnableStep old.schema) before step went.fits (λ _. fits) (opens (Some step)) refl);
      ones = subst (λ n. All (IsOne keep_going) (entries_of n new.seen)) number (gone.ones (subst (λ n. All (IsOne keep_going) (entries_of n mid.seen)) (sym number) went.ones));
      left = (let a = gone.left in let b = went.left in let c = sum_by-append weight steps (step ∷ []) in omega (arith, a, b, c));
      same = gone.same ∙ ap (λ (c : Seated). record c { seen = new.seen; left = new.left }) went.same;
    }

-- If a section ends its last transaction, none is open after it.
none_open : (before : List Step) (s : Step) (ss : List Step) → opens (slice_get (s ∷ ss) (length ss)) ≡ false → fold pending_then before (s ∷ ss) ≡ []
none_open before s [] closed = pending_closed before s (opens (Some s)) closed
none_open before s (t ∷ ts) closed = none_open (pending_then before s) t ts closed

none_left_open : (steps : List Step) → EndsClosed steps → fold pending_then [] steps ≡ []
none_left_open [] closed = refl
none_left_open (s ∷ ss) closed = let less : length ss ≡ suc (length ss) - 1 = omega arith in none_open [] s ss (ap (λ n. opens (slice_get (s ∷ ss) n)) less ∙ closed)

pub all_done : (keep_going : Bool) (steps : List Step) (old new : Seated) (pending : List Step) → EndsClosed steps → WentOn keep_going steps old new pending → HasDone steps keep_going old new
all_done keep_going steps old new pending closed went = record {
  whole = sym (append-nil (steps_of old.number new.seen)) ∙ ap (λ z. steps_of old.number new.seen ++ z) (sym (went.folded ∙ none_left_open steps closed)) ∙ went.whole;
  ones = went.ones;
  same = went.same;
}

-- there is room for each step's transaction
pub room_left : (steps : List Step) (i left : ℕ) (step : Step) (old : ℕ) → transactions steps ≤ old → take (i + 1) steps ≡ take i steps ++ step ∷ [] → left + transactions (take i steps) ≡ old → transactions (step ∷ []) ≤ left
room_left steps i left step old most next went =
    let a = sum_by-take-drop weight steps (i + 1) in let b = ap (sum_by weight) next in let c = sum_by-append weight (take i steps) (step ∷ []) in omega (arith, a, b, c, most, went)

-- Nothing is logged of a control thread, turn after turn.
pub still_unlogged : (old mid new : Seated) → IsUnlogged old mid → mid ≡ record old { seen = mid.seen; left = mid.left } → HadTurn mid new → IsUnlogged mid new → IsUnlogged old new × (new ≡ record old { seen = new.seen; left = new.left })
still_unlogged old mid new before same turn none =
    let number : mid.number ≡ old.number = ap (λ (c : Seated). c.number) same in (
      record { own = subst (λ n. entries_of n new.seen ≡ entries_of n mid.seen) number none.own ∙ before.own; left = none.left ∙ before.left },
      turn.same ∙ ap (λ (c : Seated). record c { seen = new.seen; left = new.left }) same,
    )

alone : (e : Entry) → entries_of e.clerk (e ∷ []) ≡ e ∷ []
alone e = let test : (e.clerk == e.clerk) ≡ true = grind (arith, nat_tests) in ap (λ b. cond b (e ∷ []) []) test

-- A transaction is logged, if nothing was in earlier turns.
pub submitted : (steps : List Step) (keep_going : Bool) (old mid new : Seated) (end : Event) → IsUnlogged old mid → mid ≡ record old { seen = mid.seen; left = mid.left } → HadTurn mid new → IsLogged steps keep_going mid new end → HasSubmitted steps keep_going old new
submitted steps keep_going old mid new end before same turn did =
    let number : mid.number ≡ old.number = ap (λ (c : Seated). c.number) same in
    let e : ℕ → Entry = (λ n. record { clerk = n; steps = steps; keep_going = keep_going; refused = did.refused; end = end }) in
    let own : entries_of mid.number new.seen ≡ entries_of mid.number mid.seen ++ e mid.number ∷ [] =
    ap (entries_of mid.number) did.logged ∙ filter-append (λ (x : Entry). x.clerk == mid.number) did.turn (e mid.number ∷ []) ∙ ap (λ z. entries_of mid.number did.turn ++ z) (alone (e mid.number)) ∙ ap (λ z. z ++ e mid.number ∷ []) did.own in record {
      refused = did.refused;
      end = end;
      own = subst (λ n. entries_of n new.seen ≡ entries_of n mid.seen ++ e n ∷ []) number own ∙ ap (λ z. z ++ e old.number ∷ []) before.own;
      left = (let a = did.left in let b = before.left in omega (arith, a, b));
      same = turn.same ∙ ap (λ (c : Seated). record c { seen = new.seen; left = new.left }) same;
    }

pub fits_at : (schema : List SetDecl) (items steps : List Step) (i : ℕ) (step : Step) → items ≡ steps → i < length items → step ≡ get_or items i step → All (IsRunnableStep schema) steps → IsRunnableStep schema step
fits_at schema items steps i step same within is all = rw is (All-get_or (IsRunnableStep schema) items i step within (subst (All (IsRunnableStep schema)) (sym same) all))

-- ---- the open transaction as a part of the section

pub next_steps : (section : List Step) (i : ℕ) (step : Step) → i < length section → step ≡ get_or section i step → take (i + 1) section ≡ take i section ++ step ∷ []
next_steps section i step within is = rw add-one (take-suc section i step within ∙ ap (λ (y : Step). take i section ++ y ∷ []) (sym is))

pub open_more : (section : List Step) (from i : ℕ) (step : Step) → from ≤ i → i < length section → step ≡ get_or section i step → drop from (take (i + 1) section) ≡ drop from (take i section) ++ step ∷ []
open_more section from i step before within is =
    let long : length (take i section) ≡ i = length-take-le i section (omega arith) in
    ap (drop from) (next_steps section i step within is) ∙ drop-append-le from (take i section) (step ∷ []) (omega arith)

-- the same as a part of the whole section
pub open_slice : (section : List Step) (from i : ℕ) (step : Step) → from ≤ i → i < length section → step ≡ get_or section i step → take (i + 1 - from) (drop from section) ≡ drop from (take i section) ++ step ∷ []
open_slice section from i step before within is =
    let all : from + (i + 1 - from) ≡ i + 1 = omega arith in
    sym (drop-take from (i + 1 - from) section) ∙ ap (λ n. drop from (take n section)) all ∙ open_more section from i step before within is

pub none_after : (section : List Step) (i : ℕ) → drop (i + 1) (take (i + 1) section) ≡ []
none_after section i =
    let same : i + 1 ≡ (i + 1) + 0 = omega arith in
    ap (λ n. drop (i + 1) (take n section)) same ∙ drop-take (i + 1) 0 section
