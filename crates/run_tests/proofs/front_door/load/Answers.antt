use Rattle.std.proofs.Common.{rules, ◌≡◌, subst, sym, All, List}
use Rattle.set_model.specs.declared.script.SetDecl.{SetDecl}
use Rattle.set_model.specs.Runnable.{IsRunnable, IsRunnableStep}
use Rattle.script_laws.proofs.Lists.{of-item}
use Rattle.run_tests.proofs.front_door.load.Goals as goal

pub run_steps-requires-clause-steps : goal.run_steps-requires-clause-steps
run_steps-requires-clause-steps g c κs =
    let run : IsRunnable c.expect-script.result = search rules in
    let same : c.expect-control.result.0.schema ≡ c.expect-script.result.schema = search rules in
    subst (λ (s : List SetDecl). All (IsRunnableStep s) c.at-steps.result.now) (sym same)
    (of-item (All (IsRunnableStep c.expect-script.result.schema)) c.expect-script.result.sections 0 c.at-steps.result.now run.steps c.at-steps.ensures)
