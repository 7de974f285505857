use Rattle.std.proofs.Common.{Some, map, sym, subst}
use Rattle.c_handles.specs.Scripting.{HasScripted}
use Rattle.c_handles.specs.declared.object.Object.{Object}
use Rattle.c_handles.proofs.Started.{is_scripted, all_of_control}
use Rattle.c_handles.proofs.scripting.make.Goals as goal

pub boxed-requires : goal.boxed-requires
boxed-requires c = all_of_control c.in-Ok.started.control _ _ 0 c.in-Ok.started.readers.items c.in-Ok.ensures.started.has_readers.fresh

pub returns-clause-made : goal.returns-clause-made
returns-clause-made c =
    let boxes = c.in_ok-boxed.field-0 in
    subst (λ (x : Object). HasScripted c.args.text.now (Some x) (map (λ b. Some b.value) boxes.readers.items)) (sym c.in_ok-boxed.ensures.control)
    (is_scripted (λ b. b.value) boxes.readers.items c.args.text.now c.args.readers _ _ c.in-Ok.ensures.started c.in_ok-boxed.ensures.readers)
