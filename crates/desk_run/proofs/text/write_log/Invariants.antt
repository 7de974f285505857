use Rattle.std.proofs.Common.{◌≡◌, ◌++◌, take}
use Rattle.desk_run.specs.DeskText.{log_text}
use Rattle.desk_run.proofs.text.write_log.Given as goal

-- the text has the reports of the transactions so far
abbrev pub invariant-loop-entry : goal.invariant-loop-entry
invariant-loop-entry l = l.out.items ≡ l.initial.out.items ++ log_text l.schema (take l.entry-index l.entry-items)
