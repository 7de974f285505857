use Rattle.std.proofs.Common.{◌≡◌, ◌∙◌, ap, Err}
use Rattle.key_answer.specs.declared.question.AnswerError.TheVariants.{BadKey}
use Rattle.key_answer.proofs.answer.get.Goals as goal

pub returns-in-Err-clause-bad : goal.returns-in-Err-clause-bad
returns-in-Err-clause-bad g c line reason bad schema e =
    let is : c.no_key.result ≡ BadKey line reason bad schema = cc e in
    c.packet_of.ensures.bad line reason (c.in-Err.is ∙ ap Err (c.no_key.ensures line reason bad schema is))
