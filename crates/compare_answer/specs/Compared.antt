-- The text of a comparison of two scripts.
use Rattle.std.specs.Prelude.{◌≡◌, ℕ, Bool, false, ◌&&◌, ◌||◌, not, List, ◌++◌, length, filter, flat_map, codes, bytes_eq, Option, Some, None, is_none, slice_get}
use Rattle.std.specs.List.{list_all, list_any, position}
use Rattle.set_model.specs.declared.script.Script.{Script}
use Rattle.set_model.specs.declared.script.SetDecl.{SetDecl}
use Rattle.set_model.specs.Control.{Mode, history, is_refusal, has_refusal}
use Rattle.set_model.specs.Text.{family_text, set_text, line_feed}
use Rattle.set_report.specs.Remarks.{told_text}
use Rattle.compare_answer.specs.Ending.{Ending, ending_of}
use Rattle.compare_answer.specs.Verdict.{IsPairVerdict}

-- Two sets have one name: the same family, the same table's name and the same name.
abbrev pub same_name : SetDecl → SetDecl → Bool
same_name a b = bytes_eq (family_text a.family) (family_text b.family) && bytes_eq a.table b.table && bytes_eq a.name b.name

-- the place of the set with this set's name, if there is one
abbrev pub place_in : List SetDecl → SetDecl → Option ℕ
place_in schema d = position (same_name d) schema

-- `only in old.nft: ip filter extra`
abbrev pub only_line : List ℕ → SetDecl → List ℕ
only_line file d = codes "only in " ++ (file ++ (codes ": " ++ (set_text (Some d) ++ line_feed)))

-- A set's report: whether the scripts have the same set, and the text.
pub record Report : Type 0 where
  pub same : Bool
  pub text : List ℕ

-- The report on the set at a place of the first script. It is the verdict on this set and the second script's set of its name; or a
-- line that only the first script has it.
pub data IsReport (a b : Ending) (place : ℕ) (r : Report) : Type 0 where
  in_both : (d : SetDecl) (other : ℕ) → slice_get a.schema place ≡ Some d → place_in b.schema d ≡ Some other → IsPairVerdict a place b other r.same r.text → IsReport a b place r
  in_first : (d : SetDecl) → slice_get a.schema place ≡ Some d → place_in b.schema d ≡ None → r.same ≡ false → r.text ≡ only_line a.file d → IsReport a b place r

-- The reports on the first sets of the first script, so many, in the order of their declarations: whether all are the same, and the
-- text.
pub record AreReports (a b : Ending) (count : ℕ) (same : Bool) (text : List ℕ) : Type 0 where
  pub reports : List Report
  pub one_each : length reports ≡ count
  pub each : (place : ℕ) (r : Report) → slice_get reports place ≡ Some r → IsReport a b place r
  pub same_is : same ≡ list_all (λ r. r.same) reports
  pub text_is : text ≡ flat_map (λ r. r.text) reports

-- A set has no set of its name among others.
abbrev pub is_alone : List SetDecl → SetDecl → Bool
is_alone others d = is_none (place_in others d)

-- the lines on sets that have no set of their name among others
abbrev pub alone_text : List ℕ → List SetDecl → List SetDecl → List ℕ
alone_text file others schema = flat_map (only_line file) (filter (is_alone others) schema)

-- The refused changes of a script as comments, each with the name of the script's file.
abbrev pub refusals_text : Mode → List ℕ → Script → List ℕ
refusals_text mode file s = told_text (codes "# " ++ (file ++ codes " ")) s.schema (filter is_refusal (history mode s.schema s.sections).events)

-- What `compare` writes of two scripts, by the names of their files, and whether the status is 1. The text has the refused changes
-- of both scripts. Then it has the reports on the first script's sets, and the lines on the sets that only the second has.
pub record GivesComparison (mode : Mode) (file : List ℕ) (s : Script) (other : List ℕ) (t : Script) (differs : Bool) (text : List ℕ) : Type 0 where
  pub same : Bool
  pub reported : List ℕ
  pub reports : AreReports (ending_of mode file s) (ending_of mode other t) (length s.schema) same reported
  pub text_is : text ≡ refusals_text mode file s ++ refusals_text mode other t ++ reported ++ alone_text other s.schema t.schema
  pub differs_is : differs ≡ (has_refusal mode s || has_refusal mode t || not same || list_any (is_alone s.schema) t.schema)
