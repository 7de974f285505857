-- What a comparison says of two sets of one name.
--
-- A packet passes or fails by whether its set finds an element (nft(8), sets in expressions). So two sets are the same if for each
-- key both find an element or neither does. Which element it is doesn't matter.
use Rattle.std.specs.Prelude.{◌≡◌, ◌&&◌, ℕ, Bool, true, false, List, [], ◌++◌, codes, decimal, Option, Some, None, is_none, slice_get}
use Rattle.set_model.specs.declared.script.SetDecl.{SetDecl}
use Rattle.set_model.specs.Text.{set_text, line_feed}
use Rattle.element_text.specs.ElementText.{key_text, line_text}
use Rattle.set_compare.specs.declared.difference.Difference.{Difference}
use Rattle.set_compare.specs.declared.missing.Lack.{Lack}
use Rattle.set_compare.specs.Missing.{DecideAlike, AreDifferences}
use Rattle.compare_answer.specs.Ending.{Ending, LastSet, IsLastSet}

-- the front of a line about a key: `differs ip filter allowed: `
abbrev pub differs_front : SetDecl → List ℕ
differs_front d = codes "differs " ++ (set_text (Some d) ++ codes ": ")

-- the element that holds the key: ` is in element 4 of old.nft`
abbrev pub held_text : LastSet → ℕ → List ℕ
held_text s id = codes " is in element " ++ (decimal id ++ (codes " of " ++ s.file))

-- the end of a line about a key: ` and in no element of new.nft`
abbrev pub missed_text : List ℕ → List ℕ
missed_text file = codes " and in no element of " ++ (file ++ line_feed)

-- The line on a key that one set finds and the other doesn't: the key, the first live element that holds it, and the line of the
-- script that added this element.
abbrev pub lack_line : LastSet → LastSet → Lack → List ℕ
lack_line s t lack = differs_front s.declared ++ key_text s.state.kinds lack.key ++ held_text s lack.found.id ++ line_text (slice_get s.lines lack.found.id) ++ missed_text t.file

-- its line, if there is such a key
abbrev pub lack_text : LastSet → LastSet → Option Lack → List ℕ
lack_text s t None = []
lack_text s t (Some lack) = lack_line s t lack

-- `same ip filter allowed`
abbrev pub same_line : LastSet → List ℕ
same_line s = codes "same " ++ (set_text (Some s.declared) ++ line_feed)

-- `differs ip filter allowed: the types are different`
abbrev pub types_line : LastSet → List ℕ
types_line s = codes "differs " ++ (set_text (Some s.declared) ++ codes ": the types are different\n")

-- The verdict on two sets of one name: whether they are the same, and its text. Sets of one type are the same exactly if they
-- decide alike for each key. Else the text has a line for each direction in which they differ, with the least key there.
pub data IsVerdict (s t : LastSet) : Bool → List ℕ → Type 0 where
  same : s.state.kinds ≡ t.state.kinds → DecideAlike s.state s.at t.state t.at → IsVerdict s t true (same_line s)
  differ : s.state.kinds ≡ t.state.kinds → (d : Difference) → AreDifferences s.state s.at t.state t.at d → (is_none d.in_first && is_none d.in_second) ≡ false
      → IsVerdict s t false (lack_text s t d.in_first ++ lack_text t s d.in_second)
  other_type : (s.state.kinds ≡ t.state.kinds → ⊥) → IsVerdict s t false (types_line s)

-- The verdict on the sets at a place of one script and at another place of the other, at the scripts' ends.
pub record IsPairVerdict (a : Ending) (place : ℕ) (b : Ending) (other : ℕ) (same : Bool) (text : List ℕ) : Type 0 where
  pub first : LastSet
  pub second : LastSet
  pub is_first : IsLastSet a place first
  pub is_second : IsLastSet b other second
  pub verdict : IsVerdict first second same text
