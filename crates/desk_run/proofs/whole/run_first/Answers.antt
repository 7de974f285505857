use Rattle.std.proofs.Common.{◌∙◌, List, All, subst, sym}
use Rattle.set_model.specs.declared.script.SetDecl.{SetDecl}
use Rattle.set_model.specs.Control.{mode_of}
use Rattle.set_model.specs.Runnable.{IsRunnableStep}
use Rattle.script_laws.proofs.RunLaws.{start_stands}
use Rattle.desk_run.proofs.FirstSection.{closed_behind, stands_behind}
use Rattle.desk_run.proofs.whole.run_first.Goals as goal

pub run_steps-requires-clause-steps : goal.run_steps-requires-clause-steps
run_steps-requires-clause-steps g c κs within = subst (λ (s : List SetDecl). All (IsRunnableStep s) c.args.steps.now) (sym c.in_ok-control.ensures.control.0) c.requires.steps

pub returns-clause-stands : goal.returns-clause-stands
returns-clause-stands g c = let e = c.in_ok-control.ensures.control in
    stands_behind c.args.schema c.args.steps.now c.requires.closed c.args.keep_going c.in_ok-control.control c.run_steps.new.control c.in_ok-told.told (start_stands c.args.schema c.in_ok-control.control e.2 e.3) c.in_ok-told.ensures.ok

pub returns-clause-schema : goal.returns-clause-schema
returns-clause-schema g c = c.in_ok-told.ensures.ok.goes_on.schema_is ∙ c.in_ok-control.ensures.control.0

pub returns-clause-rests : goal.returns-clause-rests
returns-clause-rests g c = let e = c.in_ok-control.ensures.control in
    closed_behind c.args.schema c.args.steps.now c.requires.closed (mode_of c.args.keep_going) c.run_steps.new.control c.in_ok-told.told
    (stands_behind c.args.schema c.args.steps.now c.requires.closed c.args.keep_going c.in_ok-control.control c.run_steps.new.control c.in_ok-told.told (start_stands c.args.schema c.in_ok-control.control e.2 e.3) c.in_ok-told.ensures.ok)
