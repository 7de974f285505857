-- What the rule says of the running words.
use Rattle.std.proofs.Common.{◌≡◌, ℕ, ◌+◌, ◌<◌, sym, ◌∙◌, subst, ⊎_elim, arith, Option}
use mathlib.Core.Option.{some, some-injective}
use mathlib.Core.Logic.{dite}
use native.Mathlib.Decide.{dec_lt}
use lib.ListN.{get_elem?}
use Rattle.atomic_table.specs.Table.{State}
use Rattle.history_laws.specs.Histories.{EndsWith}
use Rattle.gen_slots.specs.declared.board.SeatView.{SeatView}
use Rattle.gen_slots.specs.declared.board.Role.TheVariants.{Out, Holds, Keeper}
use Rattle.gen_slots.specs.SlotRule.{Kept}
use Rattle.gen_slots.specs.RuleLaws.{IsReader, Counts, HoldsSafely, Seats}
use Rattle.gen_slots.proofs.Stages.{count_le}
use Rattle.gen_slots.proofs.ReaderSteps.{plays}

module _ {T X : Type 0} (state : T → X) (follows : X → X → Type 0) where
  pub counts : Counts state follows
  counts start s k = let few = k.few.1 in let low = k.published.0 in record {
    names = let ok = k.each_slot k.plan.published low in let live = ok.live (λ _. k.plan.published) in let done = ok.done in omega (arith, few, low, live, done);
    published = let ok = k.each_slot k.plan.published low in let live = ok.live (λ _. k.plan.published) in let done = ok.done in omega (arith, few, low, live, done);
    retired = λ c l is. let ok = k.each_slot c l in let old = ok.retired is in let done = ok.done in omega (arith, old, done);
    few = λ c. let h = count_le k.n k.stage (c + 2) in omega (arith, few, h);
    exact = λ c l is. let ok = k.each_slot c l in let old = ok.retired is in let done = ok.done in let h = count_le k.n k.stage (c + 2) in
        ((λ same. omega (arith, few, old, done, h, same)), (λ none. omega (arith, old, done, none)));
    done = λ c l. (k.each_slot c l).done;
    moved = k.moved;
  }

  pub holds_safely : HoldsSafely state follows
  holds_safely start s k = record {
    not_free = λ j r c d at is. let known = plays state follows start s k j d (Holds r c) at is in k.in_use r c known.0 known.1;
    same_state = λ j r c d x at is at_x. let known = plays state follows start s k j d (Holds r c) at is in
        (subst (EndsWith d.seen) (some-injective known.4.0 x (sym known.4.1 ∙ at_x)) known.4.2, (k.each_seat j d at).0);
    newest = λ i j r d e p at_i at_j is_d is_e. (plays state follows start s k i d (Holds r k.plan.published) at_i is_d).3 (λ _. k.plan.published) ∙ sym (plays state follows start s k j e (Keeper p) at_j is_e).2;
    at_home = λ c q x l used below away at_x. (k.each_slot c l).home used q below away x at_x;
  }

  -- the reader's stage and the seat that has it
  reader_sits : (start : ℕ) (s : State (Option T) (SeatView X)) (k : Kept state follows start s) (j r : ℕ) (d : SeatView X) → get_elem? s.views j ≡ some d → IsReader r d.role → (0 < k.stage r) × (k.owner r ≡ j)
  reader_sits start s k j r d at = ⊎_elim
      (λ (out : d.role ≡ Out r). let known = plays state follows start s k j d (Out r) at out in let stage = known.1 in (omega (arith, stage), known.2))
      (λ (inside : (c : ℕ) × (d.role ≡ Holds r c)). let known = plays state follows start s k j d (Holds r inside.0) at inside.1 in let stage = known.1 in (omega (arith, stage), known.2))

  pub seats : Seats state follows
  seats start s k = record {
    one_writer = λ i j d e p q at_i at_j is_d is_e. let one = plays state follows start s k i d (Keeper p) at_i is_d in let two = plays state follows start s k j e (Keeper q) at_j is_e in one.1 ∙ sym two.1;
    one_reader = λ i j r d e at_i at_j is_d is_e. sym (reader_sits start s k i r d at_i is_d).1 ∙ (reader_sits start s k j r e at_j is_e).1;
    given = λ j r d at is. let stage = (reader_sits start s k j r d at is).0 in dite (dec_lt r k.plan.given) (λ l. l) (λ ge. let none = k.ungiven r (omega arith) in absurd (omega (arith, stage, none)));
    one_list = λ j d at. (k.each_seat j d at).0;
    chain = k.chain;
  }
