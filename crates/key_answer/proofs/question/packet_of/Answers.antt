use Rattle.std.proofs.Common.{◌≡◌, ◌∙◌, ap, subst, inl, Err}
use Rattle.set_model.specs.Runnable.{IsFitting}
use Rattle.token_forms.specs.Faults.{IsFault}
use Rattle.token_forms.specs.TextTokens.{text_tokens}
use Rattle.token_forms.specs.declared.error.ReadError.TheVariants.{Bad}
use Rattle.key_file.specs.Keys.{key_file}
use Rattle.key_answer.proofs.AnswerLaws.{only-fits}
use Rattle.key_answer.proofs.question.packet_of.Goals as goal

pub returns-in-Err-clause-bad : goal.returns-in-Err-clause-bad
returns-in-Err-clause-bad c line reason e =
    let same : c.in-Err.error ≡ Bad line reason = cc e in
    let fault = c.read_keys.ensures.bad line reason (c.in-Err.is ∙ ap Err same) in
    inl (subst (λ t. IsFault (key_file c.args.schema.now) (text_tokens t) line reason) (c.as_slice.ensures.value ∙ c.in_ok-text.ensures) fault)

pub returns-in-Some-clause-fits : goal.returns-in-Some-clause-fits
returns-in-Some-clause-fits c = only-fits (IsFitting c.args.schema.now) c.in-Ok.keys c.in-Some.packet c.in-Some.ensures.some c.in-Ok.ensures.fits
