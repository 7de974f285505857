use Rattle.std.proofs.Common.{ap, ◌∙◌, sym}
use Rattle.packet_pool.specs.Section.{verdict_in}
use Rattle.packet_pool.proofs.Found.{verdict_found, found-first}
use Rattle.packet_pool.proofs.lookup_judge.LookupJudgeJudge.judge.Goals as goal

pub returns-in-Some-clause-answer : goal.returns-in-Some-clause-answer
returns-in-Some-clause-answer c = λ g ends. let l = c.in-Some.ensures.found g ends in
    ap verdict_found l.first_match ∙ found-first l.state c.args.packet.now.key c.args.packet.now.now ∙ ap (verdict_in c.args.packet.now.key c.args.packet.now.now) (sym l.at)

pub returns-in-None-clause-answer : goal.returns-in-None-clause-answer
returns-in-None-clause-answer c = λ g ends. let l = c.in-None.ensures.found g ends in
    ap verdict_found l.first_match ∙ found-first l.state c.args.packet.now.key c.args.packet.now.now ∙ ap (verdict_in c.args.packet.now.key c.args.packet.now.now) (sym l.at)
