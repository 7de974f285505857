-- What `desk` writes: the first section's reports, the log of the control threads after it, and the last generation.
use Rattle.std.specs.Prelude.{◌≡◌, ℕ, Bool, true, List, ◌∷◌, ◌++◌, drop, map, take, All, Some, codes}
use Rattle.std.specs.List.{flat_map, list_any}
use Rattle.history_laws.specs.Histories.{EndsWith}
use Rattle.set_model.specs.declared.report.Event.{Event}
use Rattle.set_model.specs.declared.script.Script.{Script}
use Rattle.set_model.specs.declared.script.SetDecl.{SetDecl}
use Rattle.set_model.specs.declared.script.Step.{Step}
use Rattle.set_model.specs.Control.{Control, Generation, history, is_refusal, mode_of}
use Rattle.set_model.specs.Text.{numbered}
use Rattle.set_report.specs.Remarks.{remarks_text, told_text}
use Rattle.set_report.specs.ListText.{list_text}
use Rattle.script_laws.specs.declared.output.Output.{Output}
use Rattle.script_laws.specs.declared.refusals.Refusal.{Refusal}
use Rattle.script_laws.specs.Reports.{has_failed, refusals_in}
use Rattle.script_laws.specs.Sections.{section_at}
use Rattle.control_desk.specs.declared.entry.Entry.{Entry}
use Rattle.control_desk.specs.Woven.{IsWoven, Replays, said}

-- the control thread's number, in front of each line of its transactions
abbrev pub clerk_prefix : ℕ → List ℕ
clerk_prefix clerk = numbered (codes "# clerk") clerk ++ codes " "

-- the reports of a transaction, one a line, each after its control thread's number
abbrev pub entry_text : List SetDecl → Entry → List ℕ
entry_text schema e = told_text (clerk_prefix e.clerk) schema (said e)

-- the reports of a log's transactions, in their order
abbrev pub log_text : List SetDecl → List Entry → List ℕ
log_text schema log = flat_map (entry_text schema) log

-- the control after the first section of a script, which runs alone
abbrev pub after_first_section : Bool → Script → Control
after_first_section keep_going script = history (mode_of keep_going) script.schema (take 1 script.sections)

-- The first section's reports as remarks, then the log, and the last generation as a script, at the script's last
-- moment. nft(8) reads it, since all reports are comments.
abbrev pub desk_text : Bool → Script → List Entry → Generation → List ℕ
desk_text keep_going script log last =
    remarks_text script.schema (after_first_section keep_going script).events ++ (log_text script.schema log ++ list_text script.schema last.sets script.last)

-- all reports: of the first section, and of the transactions of the log
abbrev pub all_told : Bool → Script → List Entry → List Event
all_told keep_going script log = (after_first_section keep_going script).events ++ flat_map said log

-- The first section of a script ran alone, and then the others as control threads at one desk. The log is woven of
-- these sections. It replays from the first section's generations to those that end with the listed one. Each
-- transaction is in this mode. The text reports a refusal exactly if `refused` is true.
pub record IsDeskText (script : Script) (keep_going : Bool) (refused : Bool) (output : List ℕ) : Type 0 where
  pub log : List Entry
  pub committed : List Generation
  pub last : Generation
  pub woven : IsWoven (drop 1 script.sections) log
  pub replays : Replays (after_first_section keep_going script).committed committed log
  pub modes : All (λ e. e.keep_going ≡ keep_going) log
  pub ends : EndsWith committed last
  pub text : output ≡ desk_text keep_going script log last
  pub refusal : refused ≡ list_any is_refusal (all_told keep_going script log)

-- the refused changes of a transaction, each of its control thread
abbrev pub refusals_by : Entry → List Refusal
refusals_by e = refusals_in e.clerk (said e)

-- The refused changes of a desk: those of the first section, and then those of the log's transactions.
abbrev pub desk_refusals : Bool → Script → List Entry → List Refusal
desk_refusals keep_going script log = refusals_in 0 (after_first_section keep_going script).events ++ flat_map refusals_by log

-- the steps of a desk in the order in which they were done: the first section, and then each transaction of the log
abbrev pub done_in_order : Script → List Entry → List (List Step)
done_in_order script log = section_at script.sections 0 ∷ map (λ e. e.steps) log

-- The output of a desk. Its refused changes are those of the very log that its text reports. If there are some, it has the
-- steps in the order of this log.
pub record IsDeskOutput (script : Script) (keep_going : Bool) (output : Output) : Type 0 where
  pub desk : IsDeskText script keep_going output.refused output.text.items
  pub refusals_are : output.refusals.items ≡ desk_refusals keep_going script desk.log
  pub failed_is : output.failed ≡ has_failed (all_told keep_going script desk.log)
  pub script_is : output.refused ≡ true → output.script ≡ Some (record script { sections = done_in_order script desk.log })
