use Rattle.std.proofs.Common.{◌++◌, sym, ◌∙◌, ap, [], append-nil, append_assoc}
use Rattle.fault_notes.specs.Refusals.{none}
use Rattle.fault_notes.proofs.RefusalLaws.{one-more}
use Rattle.fault_notes.proofs.refusals.add_changes.Goals as goal

pub loop-change-init : goal.loop-change-init
loop-change-init c = ([], none, sym (append-nil c.args.note.now.bytes.items))

pub loop-change-preserved : goal.loop-change-preserved
loop-change-preserved c =
    let so_far = c.loop-change.invariant in let next = c.in_ok-add_change.ensures in (
      so_far.0 ++ next.0,
      one-more c.args.name.now c.args.changes.now c.loop-change.change-index _ so_far.0 next.0 c.loop-change-test.true so_far.1 next.1,
      next.2 ∙ ap (λ z. z ++ next.0) so_far.2 ∙ append_assoc c.args.note.now.bytes.items so_far.0 next.0,
    )
