use Rattle.std.proofs.Common.{◌≡◌, ◌+◌, ◌*◌, ap, rules}
use Rattle.drill_gen.specs.Drill.{after_draws}
use Rattle.drill_gen.specs.Drawing.{target_from, target_at, addition_of, addition_at}
use Rattle.drill_gen.proofs.DrawLaws.{four-more, map-range-more}
use Rattle.drill_gen.proofs.workload.elements.Goals as goal

pub loop-i-preserved : goal.loop-i-preserved
loop-i-preserved c =
    let x = c.args.draws.now.state in
    let i = c.loop-i.i in
    let here : c.loop-i.draws.state ≡ after_draws x (4 * i) = c.loop-i.invariant.next in
    let target : c.draw-target.result ≡ target_at x i = cc (c.draw-target.ensures.drawn, ap target_from here) in
    let step : c.in_ok-addition.field-0 ≡ addition_at x i = cc (c.in_ok-addition.ensures, ap (λ t. addition_of t (i + 1)) target) in
    record {
      next = cc (c.draw-target.ensures.next, ap (λ state. after_draws state 4) here, four-more x i);
      targets = map-range-more (target_at x) i c.loop-i.invariant.targets target (search rules);
      steps = map-range-more (addition_at x) i c.loop-i.invariant.steps step (search rules);
    }
