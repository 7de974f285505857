use Rattle.drill_gen.proofs.WorkloadLaws.{script-drawn, keys-drawn}
use Rattle.drill_gen.proofs.FittingLaws.{runnable-drawn, fitting-drawn}
use Rattle.drill_gen.proofs.workload.generate.Goals as goal

pub returns-clause-drawn : goal.returns-clause-drawn
returns-clause-drawn c = (
  script-drawn c.args.seed c.args.count c.new-draws.ensures c.in_ok-targets.ensures.steps c.in_ok-script.ensures,
  keys-drawn c.args.seed c.args.count c.new-draws.ensures c.in_ok-targets.ensures.next c.in_ok-targets.ensures.targets c.as_slice.ensures.value c.in_ok-packets.ensures c.in_ok-one_section.ensures,
)

pub returns-clause-runnable : goal.returns-clause-runnable
returns-clause-runnable c = runnable-drawn c.args.seed c.args.count (returns-clause-drawn c).0

pub returns-clause-fitting : goal.returns-clause-fitting
returns-clause-fitting c = fitting-drawn c.args.seed c.args.count (returns-clause-drawn c).0 (returns-clause-drawn c).1
