-- What a contract sees of readers, notes and the writer.
use Rattle.std.specs.Prelude.{◌≡◌, ℕ, ◌+◌, ◌<◌, List, [], ◌∷◌, replicate, Option, Some, None}
use Rattle.std.specs.Global.{Vec}
use Rattle.atomic_table.specs.Seated.{TableId}
use Rattle.gen_turns.specs.declared.board.SeatView.{SeatView}
use Rattle.gen_turns.specs.declared.board.Role.{Role}
use Rattle.gen_turns.specs.declared.board.Role.TheVariants.{Keeper}
use Rattle.gen_turns.specs.TurnRule.{Entry}

-- A reader, entered or not: its table, the states that it has seen, and its number.
pub record PassView (X : Type 0) : Type 0 where
  pub of : TableId
  pub seen : List X
  pub reader : ℕ

abbrev pub pass_view : {X : Type 0} → TableId → List X → ℕ → PassView X
pass_view z seen r = record { of = z; seen = seen; reader = r }

-- of a note
pub record Telling (X : Type 0) : Type 0 where
  pub of : TableId
  pub list : List X

-- The writer: the states that were published, and what was in the places at its last turn.
pub record Publishing (T X : Type 0) : Type 0 where
  pub of : TableId
  pub made : List X
  pub readers : ℕ
  pub found : List (Option T)

abbrev pub readers_of : Role → ℕ
readers_of (Keeper q g) = q
readers_of _ = 0

abbrev pub publishing : {T X : Type 0} → TableId → SeatView T X → Publishing T X
publishing z d = record { of = z; made = d.seen; readers = readers_of d.role; found = d.took }

-- two words, and one entry
abbrev pub IsSized : TableId → Type 0
IsSized z = (z.words ≡ 2) × (z.slots ≡ 1)

-- the writer's role, with at least one reader
abbrev pub IsWriterRole : Role → Type 0
IsWriterRole role = (q : ℕ) × (g : ℕ) × (role ≡ Keeper q g) × (0 < q)

-- the table's entry at the start
abbrev pub IsLaid : {T : Type 0} → ℕ → List (Entry T) → Type 0
IsLaid {T} n entry = (v : Vec (Option T)) × (entry ≡ Some v ∷ []) × (v.items ≡ replicate n None)

-- new readers, numbered from k on
abbrev pub AllNew : {X : Type 0} → TableId → List X → ℕ → List (PassView X) → Type 0
AllNew z seen k [] = Unit {0}
AllNew z seen k (p ∷ ps) = (p ≡ record { of = z; seen = seen; reader = k }) × AllNew z seen (k + 1) ps
