use Rattle.std.proofs.Common.{sym, ◌∙◌, ap, subst}
use Rattle.std.specs.Prelude.{position}
use Rattle.set_model.specs.SetState.{answers}
use Rattle.pipapo_image.specs.Index.Walk.{IsKeyOf}
use Rattle.pipapo_image.proofs.index.Index.find.Goals as goal

pub find_values-requires-clause-key : goal.find_values-requires-clause-key
find_values-requires-clause-key c = subst (λ z. IsKeyOf c.args.self.now.fields z) (sym c.as_slice.ensures) c.requires.key

pub returns : goal.returns
returns c = λ kinds es is parts. c.find_values.ensures kinds es is parts ∙ ap (λ z. position (answers z c.args.now) es) c.as_slice.ensures
