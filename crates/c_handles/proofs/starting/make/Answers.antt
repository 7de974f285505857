use Rattle.std.proofs.Common.{rules, map, Some, sym, subst}
use Rattle.c_handles.proofs.Refused.{all_of}
use Rattle.c_handles.specs.Starting.{HasStarted}
use Rattle.c_handles.specs.declared.object.Object.{Object}
use Rattle.c_handles.proofs.Started.{is_start}
use Rattle.c_handles.proofs.starting.make.Goals as goal

pub boxed-requires : goal.boxed-requires
boxed-requires c = all_of c.in_ok-control.control c.in_ok-schema.schema c.in_ok-control.control.schema _ _ c.in_ok-control.seated.items (search rules) c.in_ok-control.ensures.readers.1

pub returns-clause-made : goal.returns-clause-made
returns-clause-made c =
    let boxes = c.in_ok-boxed.field-0 in let made = c.in_ok-control.ensures in
    subst (λ (x : Object). HasStarted c.args.sets.now (Some x) (map (λ b. Some b.value) boxes.readers.items)) (sym c.in_ok-boxed.ensures.control)
    (is_start (λ b. b.value) boxes.readers.items c.args.sets.now c.in_ok-schema.schema c.in_ok-control.control _ c.in_ok-control.seated.items c.in_ok-schema.ensures.sets made.control.0 made.control.1 made.control.2 made.control.3 made.readers.0 made.readers.1 c.in_ok-boxed.ensures.readers)
