-- An enter gets the generation that was committed last.
use Rattle.std.proofs.Common.{◌≡◌, ℕ, ◌+◌, ◌%◌, sym, ◌∙◌, ap, subst, slice_index, List, arith}
use mathlib.Core.Option.{some}
use lib.ListN.{get_elem?}
use Rattle.history_laws.specs.Histories.{EndsWith}
use Rattle.gen_slots.specs.declared.board.Plan.{Plan}
use Rattle.gen_slots.specs.declared.board.SeatView.{SeatView}
use Rattle.gen_slots.specs.declared.board.Role.TheVariants.{Holds, Keeper}
use Rattle.gen_slots.proofs.RunningWords.{counts, holds_safely}
use Rattle.set_model.specs.Control.{Generation}
use Rattle.gen_publish.specs.Publish.{Follows}
use Rattle.gen_publish.specs.Entering.{shown, Words, IsRuled, EntersTheLast}

named-on : (word : ℕ) → word % 256 ≡ (word + 256) % 18446744073709551616 % 256
named-on word = omega arith

-- a reader in the slot that word 0 names has the control's list
newest_seen : (start : ℕ) (words : Words) → IsRuled start words → (i j r : ℕ) (reader control : SeatView Generation) (p : Plan Generation) → get_elem? words.views i ≡ some reader
    → reader.role ≡ Holds r (slice_index words.words 0 % 256) → get_elem? words.views j ≡ some control → control.role ≡ Keeper p → reader.seen ≡ control.seen
newest_seen start words rule i j r reader control p at_i is_reader at_j is_control =
    (holds_safely shown Follows start words rule).newest i j r reader control p at_i at_j (is_reader ∙ ap (Holds r) (counts shown Follows start words rule).names) is_control

pub enters-the-last : EntersTheLast
enters-the-last = record {
  enter = λ st r word me entering out entered. (entered r out).1 ∙ ap (Holds r) (named-on word);
  newest = newest_seen;
  last = λ start after rule st i j r word me entering control p out entered added at_i at_j is_control.
      let went = entered r out in
      let holds = went.1 ∙ ap (Holds r) (named-on word) ∙ ap (λ (w : ℕ). Holds r (w % 256)) (sym added) in
      let same = newest_seen start after rule i j r entering.0 control p at_i holds at_j is_control in
      record { pointer = went.4.0; taken = went.4.1; last = subst (λ (seen : List Generation). EndsWith seen (shown went.4.0)) same went.4.2 };
}
