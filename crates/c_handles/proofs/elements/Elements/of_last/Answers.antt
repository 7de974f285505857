use Rattle.std.proofs.Common.{rules, ◌<◌, length, arith}
use Rattle.c_handles.proofs.Kept.{last_there}
use Rattle.c_handles.proofs.elements.Elements.of_last.Goals as goal

pub of_set-requires : goal.of_set-requires
of_set-requires c =
    let there : c.args.set < length c.args.control.now.work.base.sets = last_there c.args.control.now c.args.set c.known.ensures.last c.known.ensures.grown (search rules) in
    grind (arith, there)
