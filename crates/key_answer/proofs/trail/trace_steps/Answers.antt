use Rattle.std.proofs.Common.{take, length, ◌≡◌, ◌<◌, false, [], ap, subst, arith, length-take, rules}
use Rattle.set_model.specs.Control.{mode_of, section}
use Rattle.packet_pool.specs.Running.{run, GoesOn}
use Rattle.std.proofs.lemmas.List.{take_all}
use Rattle.packet_pool.proofs.RunLaws.{has_next}
use Rattle.key_answer.proofs.TraceLaws.{traces-more}
use Rattle.key_answer.proofs.trail.trace_steps.Goals as goal

pub trace_step-requires-clause-number : goal.trace_step-requires-clause-number
trace_step-requires-clause-number g c κs within =
    has_next c.args.keep_going c.args.steps.now c.steps.step-index c.args.control.now c.steps.control c.steps.failed c.steps.events c.requires.numbers c.steps.invariant.goes_on

pub steps-preserved : goal.steps-preserved
steps-preserved g c =
    traces-more (mode_of c.args.keep_going) c.args.steps.now c.steps.step-index c.step-item.result _ _ _ _ _ _ (search rules) (search rules) c.steps.invariant c.in_ok-trace_step.ensures

pub returns-clause-ran : goal.returns-clause-ran
returns-clause-ran g c =
    let ended = c.steps-test.false in
    let long : length c.as_slice-step-items.result.now ≡ length c.args.steps.now = ap (λ z. length z) c.as_slice-step-items.ensures in
    let whole : take c.steps.step-index c.args.steps.now ≡ c.args.steps.now = take_all c.steps.step-index c.args.steps.now (omega (arith, ended, long)) in record {
      failed = c.steps.failed;
      goes_on = subst (λ ss. GoesOn (λ k. section (mode_of c.args.keep_going) k ss) (run c.args.control.now false []) (run c.steps.control c.steps.failed c.steps.events)) whole c.steps.invariant.goes_on;
    }
