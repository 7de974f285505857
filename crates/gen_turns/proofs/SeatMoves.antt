-- One seat gets another view of the same role: what is left to show of the rule.
use Rattle.std.proofs.Common.{◌≡◌, ◌≢◌, ℕ, ◌+◌, ◌<◌, ◌≤◌, List, length, set, refl, ap, ◌∙◌, subst, arith, Option, Some}
use mathlib.Core.Logic.{dite}
use mathlib.Core.Option.{Option as Maybe, some}
use native.Mathlib.Decide.{dec_lt}
use lib.ListN.{get_elem?}
use Rattle.std.specs.Global.{Vec}
use Rattle.atomic_table.specs.Table.{State}
use Rattle.history_laws.specs.Histories.{StartsWith, Chain}
use Rattle.history_laws.proofs.Views.{views_stay, sum_by-view_set}
use Rattle.ticket_line.specs.Tickets.{tickets_at, InLine}
use Rattle.ticket_line.proofs.Lines.{none_at, stays as line_stays}
use Rattle.ticket_line.proofs.Seats.{at_most_one, few_wait, nobody_still, one_still}
use Rattle.gen_turns.specs.declared.board.SeatView.{SeatView}
use Rattle.gen_turns.specs.declared.board.Role.{Role}
use Rattle.gen_turns.specs.declared.board.Role.TheVariants.{Idle, Reader, Keeper}
use Rattle.gen_turns.specs.TurnRule.{Entry, HasTurns, HasNumber, turns_at, stage_of, ticket_of, turns_of, IsStocked, Plays, Sits, Kept}

-- a seat that draws no tickets has none
pub no_ticket : (t : ℕ) (role : Role) → role ≡ Idle → (1 < t → HasTurns role) → t < 2
no_ticket t role idle has = dite (dec_lt 1 t) (λ waits. absurd (subst HasTurns idle (has waits))) (λ low. omega (arith, low))

one_ticket : (t : ℕ) (role : Role) → (1 < t → HasTurns role) → tickets_at t ≤ turns_at role
one_ticket t Idle has = let none = none_at t (no_ticket t Idle refl has) in omega (arith, none)
one_ticket t (Reader r) has = at_most_one t
one_ticket t (Keeper q g) has = at_most_one t

-- other lists of a seat; they are the writer's lists if the old ones were
pub other_lists : {X : Type 0} (n : ℕ) (first made : List X) (given : ℕ) (last : ℕ → List X) (seen entered heard : List X) → (seen ≡ made → heard ≡ made) → (role : Role) → Plays n first made given last seen entered role → Plays n first made given last heard entered role
other_lists n first made given last seen entered heard same Idle k = k
other_lists n first made given last seen entered heard same (Reader r) k = k
other_lists n first made given last seen entered heard same (Keeper q g) k = (k.0, k.1, same k.2, k.3)

module _ {T X : Type 0} (state : T → X) (follows : X → X → Type 0) where
  abbrev St : Type 0
  St = State (Entry T) (SeatView T X)

  abbrev Rule : St → Type 0
  Rule = Kept state follows

  pub plays : (s : St) (k : Rule s) (id : ℕ) (v : SeatView T X) (role : Role) → get_elem? s.views id ≡ some v → v.role ≡ role → Plays k.n k.first k.made k.given k.last v.seen v.entered role
  plays s k id v role at is = subst (Plays k.n k.first k.made k.given k.last v.seen v.entered) is (k.each_seat id v at).5

  -- at most one ticket is out for each reader and the writer
  pub one_for_each : (s : St) (k : Rule s) → length k.line ≤ k.n + 1
  one_for_each s k = let most = few_wait stage_of ticket_of s.words s.views k.line k.queue turns_of (λ j d at. one_ticket d.stage d.role (k.each_seat j d at).3) in let count = k.seats in let few = k.few.2 in omega (arith, most, count, few)

  pub few_out : (s : St) (k : Rule s) → length k.line < 18446744073709551616
  few_out s k = let most = one_for_each s k in let few = k.few.1 in omega (arith, most, few)

  module _ (s : St) (k : Rule s) (id : ℕ) (d w : SeatView T X) (at : get_elem? s.views id ≡ some d) (same : w.role ≡ d.role) where
    -- the same with other changes: the words and the line, the vector, what was published, and the
    -- lists of the last enters
    pub seat_moves : (words : List ℕ) (homes : List (Maybe (Entry T))) (line : List ℕ) (made : List X) (last : ℕ → List X) → length homes ≡ 1 → InLine stage_of ticket_of words (set s.views id w) line
        → (((j : ℕ) (e : SeatView T X) → get_elem? (set s.views id w) j ≡ some e → e.stage ≢ 3) → (v : Vec (Option T)) × (get_elem? homes 0 ≡ some (some (Some v))) × IsStocked state k.n made last v.items)
        → Chain follows made → StartsWith made k.first → ((r : ℕ) → k.given ≤ r → r < k.n → last r ≡ k.first)
        → Sits state k.n k.first made k.given last w → ((j : ℕ) (e : SeatView T X) → j ≢ id → get_elem? s.views j ≡ some e → Sits state k.n k.first made k.given last e)
        → Rule record { words = words; homes = homes; views = set s.views id w }
    seat_moves words homes line made last deep queue home chain starts ungiven mine others = record {
      line = line;
      n = k.n;
      first = k.first;
      made = made;
      given = k.given;
      last = last;
      few = k.few;
      deep = deep;
      queue = queue;
      home = home;
      chain = chain;
      starts = starts;
      ungiven = ungiven;
      one_each = λ a. one_still (λ (e : SeatView T X). HasNumber k.n a e.role) s.views id d w at (subst (HasNumber k.n a) same) (k.one_each a);
      seats = (let sum = sum_by-view_set turns_of s.views id d w at in let one = ap turns_at same in let count = k.seats in omega (arith, sum, one, count));
      each_seat = views_stay (λ _ e. Sits state k.n k.first made k.given last e) s.views id w mine others;
    }

    -- the same without other changes
    pub view_changes : w.stage ≡ d.stage → w.ticket ≡ d.ticket → Sits state k.n k.first k.made k.given k.last w → Rule record { words = s.words; homes = s.homes; views = set s.views id w }
    view_changes same_stage same_ticket mine = seat_moves s.words s.homes k.line k.made k.last k.deep (line_stays stage_of ticket_of s.words s.views k.line k.queue id d w at same_stage same_ticket)
        (λ away. k.home (nobody_still stage_of s.views id d w at (λ three. same_stage ∙ three) away)) k.chain k.starts k.ungiven mine (λ j e _ its. k.each_seat j e its)
