use Rattle.std.proofs.Common.{sym, ◌∙◌, ap, rules, ℕ, Option, Some}
use Rattle.set_model.specs.SetState.{State, without_at}
use Rattle.pipapo_image.proofs.Shrinking.{removed-at, never_missing}
use Rattle.pipapo_image.proofs.image.SetImage.delete.Goals as goal

pub returns-in_ok-remove_at-in-Some-clause-removal : goal.returns-in_ok-remove_at-in-Some-clause-removal
returns-in_ok-remove_at-in-Some-clause-removal c =
    let done = c.in_ok-remove_at-in-Some.ensures.ok in
    let answer : ℕ → State → Option (ℕ × State) = λ id s. Some (id, s) in
    removed-at c.args.self.now c.args.parts.now c.args.now c.in-Some.i (sym c.exact_at.ensures.value ∙ c.in-Some.is)
    ∙ ap (λ z. answer z (without_at c.args.self.now c.in-Some.i)) (sym done.0) ∙ ap (λ z. answer c.in_ok-remove_at-in-Some.field-0 z) (sym done.1)

pub returns-in_ok-remove_at-in-Some-clause-missing : goal.returns-in_ok-remove_at-in-Some-clause-missing
returns-in_ok-remove_at-in-Some-clause-missing c = λ none. absurd (never_missing c.args.self.now c.args.parts.now c.args.now c.in-Some.i (search (rules, c.exact_at.ensures.value)) none)
