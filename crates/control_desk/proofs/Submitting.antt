-- A turn in which a transaction is submitted.
use Rattle.std.proofs.Common.{◌≡◌, refl, sym, ◌∙◌, ap, subst, ℕ, ◌+◌, ◌-◌, ◌<◌, ◌≤◌, Bool, List, [], ◌∷◌, All, length, take, fold, Some, Result, Ok, Err, IfOk, OnOk, OnErr, arith, length-append}
use Rattle.std.proofs.lemmas.List.Elements.{All-nil, All-cons, All-head}
use mathlib.Core.List.{append-nil}
use Rattle.history_laws.specs.Histories.{StartsWith}
use Rattle.history_laws.proofs.Prefixes.{one_last}
use Rattle.log_turns.specs.declared.SeatView.{SeatView}
use Rattle.log_turns.specs.declared.Role.{Role}
use Rattle.log_turns.specs.declared.Role.TheVariants.{Clerk}
use Rattle.log_turns.specs.LogRule.{kept_at, kept_of, Keeps}
use Rattle.log_turns.specs.LogSteps.{MayGive}
use Rattle.set_model.specs.declared.report.Event.{Event}
use Rattle.set_model.specs.declared.script.Step.{Step}
use Rattle.set_model.specs.Control.{Generation}
use Rattle.control_desk.specs.declared.clerk.DeskError.{DeskError}
use Rattle.control_desk.specs.declared.clerk.DeskError.TheVariants.{Stale}
use Rattle.control_desk.specs.declared.entry.Entry.{Entry}
use Rattle.control_desk.specs.Books.{Booked, IsApplied}
use Rattle.control_desk.specs.Woven.{at_rest, after_entry, HasSeen, entries_of}
use Rattle.control_desk.specs.Turns.{Seated, IsLogged, IsUnlogged, IsStale}

abbrev pub log_of : Booked → List Entry
log_of b = b.log

abbrev pub base_of : Booked → List Generation
base_of b = take b.from b.control.committed

abbrev pub number_of : Booked → ℕ
number_of b = b.control.work.base.number

abbrev pub clerk_of : Entry → ℕ
clerk_of e = e.clerk

-- what is seen of a log has one last number
pub one_seen : (base : List Generation) (log : List Entry) (a b : ℕ) → HasSeen base log a → HasSeen base log b → a ≡ b
one_seen base log a b x y = let same = one_last base x.last y.last x.begins y.begins in sym x.reaches ∙ (λ i. (fold after_entry (at_rest base (same i)) log).last.number) ∙ y.reaches

-- a control thread keeps what it has seen
pub own_kept : (d : SeatView Booked Entry Generation) (c threads : ℕ) (v : Booked) → d.role ≡ Clerk c → All (Keeps log_of base_of number_of clerk_of threads v) (kept_of d) → entries_of c v.log ≡ entries_of c d.seen
own_kept d c threads v is all = let one = subst (All (Keeps log_of base_of number_of clerk_of threads v)) (ap (λ (r : Role). kept_at r d.seen d.kept) is) all in (All-head (Keeps log_of base_of number_of clerk_of threads v) (c, d.seen) [] one).3

-- The book that a turn leaves may be given back.
pub may_give : (clerk : ℕ) (steps : List Step) (keep_going : Bool) (d : SeatView Booked Entry Generation) (took new : Booked) (newest : ℕ) (r : Result Event DeskError) → d.took ≡ Some took → 0 < d.left
    → IfOk r (λ end. IsApplied clerk steps keep_going took new end × (number_of took ≤ newest)) → OnOk r (number_of new ≤ number_of took + 1) → OnErr r (new ≡ took) → MayGive log_of base_of number_of clerk_of clerk d new
may_give clerk steps keep_going d took new newest (Ok end) was some_left ok number err =
    let a = ok.0 in let e : Entry = record { clerk = clerk; steps = steps; keep_going = keep_going; refused = a.refused; end = end } in record {
      took = took;
      was = was;
      added = e ∷ [];
      log_is = a.logged;
      own = All-cons (λ (x : Entry). x.clerk ≡ clerk) e [] refl (All-nil (λ (x : Entry). x.clerk ≡ clerk));
      base_is = a.base_is;
      number_is = number;
      enough = omega (arith, some_left);
    }
may_give clerk steps keep_going d took new newest (Err e) was some_left ok number err = record {
  took = took;
  was = was;
  added = [];
  log_is = ap log_of err ∙ sym (append-nil took.log);
  own = All-nil (λ (x : Entry). x.clerk ≡ clerk);
  base_is = ap base_of err;
  number_is = (let same = ap number_of err in omega (arith, same));
  enough = omega arith;
}

module _ (steps : List Step) (keep_going : Bool) (old then : Seated) (took new : Booked) (newest : ℕ) (seen : then.seen ≡ new.log) (left : then.left ≡ old.left - (length new.log - length took.log)) where
  pub logged : (r : Result Event DeskError) → StartsWith took.log old.seen → entries_of old.number took.log ≡ entries_of old.number old.seen → HasSeen old.base old.seen newest → HasSeen old.base took.log (number_of took) → 0 < old.left
      → IfOk r (λ end. IsApplied old.number steps keep_going took new end × (number_of took ≤ newest)) → IfOk r (IsLogged steps keep_going old then)
  logged (Ok end) begins own had has some_left ok =
      let a = ok.0 in let fresh = ok.1 in let size = ap length a.logged in let sum = length-append took.log (record { clerk = old.number; steps = steps; keep_going = keep_going; refused = a.refused; end = end } ∷ []) in record {
        turn = took.log;
        refused = a.refused;
        logged = seen ∙ a.logged;
        begins = begins;
        own = own;
        fresh = λ h n was is. let x = one_seen old.base old.seen h newest was had in let y = one_seen old.base took.log n (number_of took) is has in omega (arith, x, y, fresh);
        left = omega (arith, left, size, sum, some_left);
      }
  logged (Err e) begins own had has some_left ok = tt

  pub unlogged : (r : Result Event DeskError) → entries_of old.number took.log ≡ entries_of old.number old.seen → OnErr r (new ≡ took) → OnErr r (IsUnlogged old then)
  unlogged (Ok end) own err = tt
  unlogged (Err e) own err = let same = ap (λ (b : Booked). length b.log) err in record { own = ap (entries_of old.number) (seen ∙ ap log_of err) ∙ own; left = omega (arith, left, same) }

  pub stale : (r : Result Event DeskError) → HasSeen old.base old.seen newest → HasSeen old.base took.log (number_of took) → OnErr r (new ≡ took)
      → ((newer : ℕ) → r ≡ Err (Stale newer) → (newer ≡ number_of took) × (newest < newer)) → (newer : ℕ) → r ≡ Err (Stale newer) → IsStale newer old then
  stale (Ok end) had has err told newer is = absurd (cc is)
  stale (Err e) had has err told newer is = let t = told newer is in let high = t.1 in record {
    newer_is = subst (HasSeen old.base then.seen) (sym t.0) (subst (λ z. HasSeen old.base z (number_of took)) (sym (seen ∙ ap log_of err)) has);
    moved_on = λ h was. let x = one_seen old.base old.seen h newest was had in omega (arith, x, high);
  }
