-- The note on a run's refused changes.
use Rattle.std.specs.Prelude.{◌≡◌, ℕ, ◌-◌, Bool, true, false, ◌==◌, if◌then◌else◌, List, [], ◌∷◌, ◌++◌, length, codes, decimal}
use Rattle.fault_notes.specs.declared.refused.RefusedChange.{RefusedChange}
use Rattle.token_notes.specs.Shown.{shown, place_text, name_text}

abbrev pub line_feed : List ℕ
line_feed = 10 ∷ []

-- A line on a refused change: the script's name, the change's line and column, and words.
pub record IsRefusalLine (name : List ℕ) (line : ℕ) (text : List ℕ) : Type 0 where
  pub column : ℕ
  pub words : List ℕ
  pub text_is : text ≡ place_text name line column ++ (shown words ++ line_feed)

-- Lines on refused changes: one for each, in their order.
pub data AreRefusalLines (name : List ℕ) : List RefusedChange → List ℕ → Type 0 where
  none : AreRefusalLines name [] []
  more : (changes : List RefusedChange) (change : RefusedChange) (lines line : List ℕ) → AreRefusalLines name changes lines → IsRefusalLine name change.line line → AreRefusalLines name (changes ++ change ∷ []) (lines ++ line)

-- the words after the count of further refused changes
abbrev pub more_words : ℕ → List ℕ
more_words n = if n == 1 then codes " more change is refused" else codes " more changes are refused"

-- The line on the refused changes that have no line of their own, if there are any.
abbrev pub rest_text : List ℕ → ℕ → List ℕ
rest_text name n = if n == 0 then [] else name_text name ++ (shown (decimal n) ++ (shown (more_words n) ++ line_feed))

-- the line on a last transaction that failed
abbrev pub failure_text : List ℕ → Bool → List ℕ
failure_text name true = name_text name ++ (shown (codes "the last transaction failed, so this shows the generation before it") ++ line_feed)
failure_text name false = []

-- The note on so many refused changes. The first ones have a line each.
pub record IsRefusalsNote (name : List ℕ) (first : List RefusedChange) (count : ℕ) (failed : Bool) (text : List ℕ) : Type 0 where
  pub lines : List ℕ
  pub one_each : AreRefusalLines name first lines
  pub text_is : text ≡ (lines ++ rest_text name (count - length first)) ++ failure_text name failed
