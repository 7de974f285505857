use Rattle.command_words.specs.Words.{compare, sets_of}
use Rattle.top_call.proofs.Noting.{changes-told, compare-named, sets-named, script-named}
use Rattle.top_call.proofs.refusals.tell_refusals.Goals as goal

pub returns-in-Script : goal.returns-in-Script
returns-in-Script g c = rw c.in-Script.is (changes-told _ c.in-Script.name.now c.args.output.now _ _ c.tell_changes.result (script-named c.in-Script.name.now c.in-Script.task c.in-Script.keep_going) (search c.if-not-output.false) c.tell_changes.ensures)

pub returns-in-Compare : goal.returns-in-Compare
returns-in-Compare g c =
    rw c.in-Compare.is
    (changes-told (compare c.in-Compare.name.now c.in-Compare.second.now c.in-Compare.keep_going) c.in-Compare.name.now c.args.output.now _ _ c.tell_changes-in-Compare.result (compare-named c.in-Compare.name.now c.in-Compare.second.now c.in-Compare.keep_going) (search c.if-not-output.false) c.tell_changes-in-Compare.ensures)

pub returns-in-Sets : goal.returns-in-Sets
returns-in-Sets g c =
    rw c.in-Sets.is
    (changes-told (sets_of c.in-Sets.name.now) c.in-Sets.name.now c.args.output.now _ _ c.tell_changes-in-Sets.result (sets-named c.in-Sets.name.now) (search c.if-not-output.false) c.tell_changes-in-Sets.ensures)
