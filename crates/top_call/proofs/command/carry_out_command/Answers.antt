use Rattle.std.proofs.Common.{refl, map}
use Rattle.std.specs.String.{string_bytes}
use Rattle.fault_notes.proofs.ToldLaws.{may_tell}
use Rattle.top_call.proofs.FormLaws.{in-no-command, in-early}
use Rattle.top_call.proofs.Goings.{goes-usage, goes-early}
use Rattle.top_call.proofs.command.carry_out_command.Goals as goal

pub returns-in-Ok : goal.returns-in-Ok
returns-in-Ok g c = c.do_command.ensures (map string_bytes c.args.words.now) c.in-Ok.ensures.found

pub returns-in-Err-NoCommand : goal.returns-in-Err-NoCommand
returns-in-Err-NoCommand g c =
    let none = c.command_of.ensures.none (search c.in-Err-NoCommand.is) in
    in-no-command c.args.forms.scripts _ none c.requires.nothing (goes-usage _ (record { no_work = none; no_page = c.requires.no_page }) c.requires.nothing refl (may_tell c.tell_words.ensures) c.tell-status.ensures)

pub returns-in-Err-Memory : goal.returns-in-Err-Memory
returns-in-Err-Memory g c =
    let some = c.command_of.ensures.memory (search c.in-Err-Memory.is) in
    in-early c.args.forms.scripts _ some.1.0 some.1.1 c.requires.nothing (goes-early _ some.1.0 some.1.1 c.requires.nothing refl refl c.tell.ensures)
