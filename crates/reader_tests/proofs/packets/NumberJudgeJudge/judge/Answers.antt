use Rattle.std.proofs.Common.{ap}
use Rattle.set_model.specs.declared.packet.Verdict.TheVariants.{Element}
use Rattle.reader_tests.proofs.packets.NumberJudgeJudge.judge.Goals as goal

pub returns-clause-answer : goal.returns-clause-answer
returns-clause-answer c = λ g ends. ap Element (c.generation.ensures.last g ends)
