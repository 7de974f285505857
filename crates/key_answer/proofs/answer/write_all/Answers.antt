use Rattle.std.proofs.lemmas.Result.{on_ok_weaker}
use Rattle.key_answer.proofs.AnswerLaws.{two-parts}
use Rattle.key_answer.proofs.answer.write_all.Goals as goal

pub returns-clause-text : goal.returns-clause-text
returns-clause-text c = on_ok_weaker c.write_found.result (λ two. two-parts c.args.out.now.items _ _ _ _ c.in_ok-write_refusals.ensures two) c.write_found.ensures.text
