-- Which generation an enter gets: a law on the words that a control and its readers share.
use Rattle.std.specs.Prelude.{◌≡◌, ℕ, ◌+◌, ◌*◌, ◌%◌, ◌^◌, List, ◌∷◌, Option, Some, slice_index}
use mathlib.Core.Option.{some}
use lib.ListN.{get_elem?}
use Rattle.std.specs.Arc.{arc_value}
use Rattle.atomic_table.specs.Table.{State, Me, Step}
use Rattle.history_laws.specs.Histories.{EndsWith}
use Rattle.gen_slots.specs.declared.board.Plan.{Plan}
use Rattle.gen_slots.specs.declared.board.SeatView.{SeatView}
use Rattle.gen_slots.specs.declared.board.Role.TheVariants.{Out, Holds, Keeper}
use Rattle.gen_slots.specs.SlotSteps.{entered}
use Rattle.gen_slots.specs.RuleLaws.{Rule}
use Rattle.set_model.specs.Control.{Generation}
use Rattle.gen_publish.specs.declared.berth.Berth.{Berth}
use Rattle.gen_publish.specs.Publish.{Follows}

-- the generation that a reader's pointer shows
abbrev pub shown : Berth → Generation
shown b = arc_value b.generation

-- the shared words and the seats, between any two steps of any threads
abbrev pub Words : Type 0
Words = State (Option Berth) (SeatView Generation)

-- They are as the rule of `gen_slots` says. Every count started at `start`.
abbrev pub IsRuled : ℕ → Words → Type 0
IsRuled start words = Rule shown Follows start words

-- A reader r takes its pointer of the slot that word 0 named. The pointer shows the last of these
-- generations.
pub record GetsLast (r word : ℕ) (me entering : Me (Option Berth) (SeatView Generation)) (committed : List Generation) : Type 0 where
  pub pointer : Berth
  pub taken : entering.1 ≡ (32 * r + word % 256, Some pointer) ∷ me.1
  pub last : EndsWith committed (shown pointer)

-- An enter adds 256 to word 0, and its clause is `entered`. After that the reader holds the slot that
-- word 0 names.
--
-- As long as a reader holds the slot that word 0 names, it has seen exactly the generations that the
-- control has committed.
--
-- So an enter gets the last generation that is committed at the step of its addition. `after` are
-- the words after that step.
pub record EntersTheLast : Type 0 where
  pub enter : (st : Step (Option Berth)) (r word : ℕ) (me entering : Me (Option Berth) (SeatView Generation)) → me.0.role ≡ Out r → entered shown Follows st me word entering
      → entering.0.role ≡ Holds r ((word + 256) % 2 ^ 64 % 256)
  pub newest : (start : ℕ) (words : Words) → IsRuled start words → (i j r : ℕ) (reader control : SeatView Generation) (p : Plan Generation) → get_elem? words.views i ≡ some reader
      → reader.role ≡ Holds r (slice_index words.words 0 % 256) → get_elem? words.views j ≡ some control → control.role ≡ Keeper p → reader.seen ≡ control.seen
  pub last : (start : ℕ) (after : Words) → IsRuled start after → (st : Step (Option Berth)) (i j r word : ℕ) (me entering : Me (Option Berth) (SeatView Generation)) (control : SeatView Generation) (p : Plan Generation) → me.0.role ≡ Out r
      → entered shown Follows st me word entering → slice_index after.words 0 ≡ (word + 256) % 2 ^ 64 → get_elem? after.views i ≡ some entering.0 → get_elem? after.views j ≡ some control → control.role ≡ Keeper p
      → GetsLast r word me entering control.seen
