-- What is written of two scripts that were run, in terms of their runs.
use Rattle.std.specs.Prelude.{◌≡◌, ◌||◌, ℕ, Bool, not, List, ◌++◌, length, filter, codes}
use Rattle.std.specs.List.{list_any}
use Rattle.set_model.specs.Control.{is_refusal}
use Rattle.set_report.specs.Remarks.{told_text}
use Rattle.compare_answer.specs.declared.side.Finished.{Finished}
use Rattle.compare_answer.specs.Compared.{AreReports, is_alone, alone_text}
use Rattle.compare_answer.specs.Plain.{plain_ending}

-- the refused changes of a run as comments, each with the name of the script's file
abbrev pub run_refusals : Finished → List ℕ
run_refusals f = told_text (codes "# " ++ (f.file.now ++ codes " ")) f.trace.control.schema (filter is_refusal f.trace.events)

-- The text of two runs, and whether anything differs or was refused.
pub record TellsEnds (a b : Finished) (differs : Bool) (text : List ℕ) : Type 0 where
  pub same : Bool
  pub reported : List ℕ
  pub reports : AreReports (plain_ending a) (plain_ending b) (length a.trace.control.schema) same reported
  pub text_is : text ≡ run_refusals a ++ run_refusals b ++ reported ++ alone_text b.file.now a.trace.control.schema b.trace.control.schema
  pub differs_is : differs ≡ (list_any is_refusal a.trace.events || list_any is_refusal b.trace.events || not same || list_any (is_alone a.trace.control.schema) b.trace.control.schema)
