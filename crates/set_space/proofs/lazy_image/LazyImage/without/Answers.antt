use Rattle.std.proofs.Common.{refl, sym, ◌∙◌, ap, ℕ, Option, Some}
use Rattle.set_model.specs.SetState.{State, without_at}
use Rattle.pipapo_image.specs.Image.Found.{exactly_found}
use Rattle.set_space.specs.Staying.{staying}
use Rattle.set_space.proofs.LazyLaws.{removed_falls, found_removed, is_there, is_missing}
use Rattle.set_space.proofs.lazy_image.LazyImage.without.Goals as goal

pub returns-in-None-clause-removal : goal.returns-in-None-clause-removal
returns-in-None-clause-removal c =
    let s = c.args.self.now.image in
    (refl, is_missing c.args.self.now.passed s c.args.parts.now c.args.now (sym c.in-None.is ∙ c.find_exact.ensures ∙ ap (exactly_found s c.args.parts.now) c.moment-moment.ensures), refl)

pub returns-in_ok-without_at-in-Some-clause-removal : goal.returns-in_ok-without_at-in-Some-clause-removal
returns-in_ok-without_at-in-Some-clause-removal c =
    let p = c.args.self.now.passed in
    let s = c.args.self.now.image in
    let answer : ℕ → State → Option (ℕ × State) = λ id t. Some (id, t) in
    found_removed p s c.args.parts.now c.args.now c.in-Some.found (sym c.in-Some.is ∙ c.find_exact.ensures ∙ ap (exactly_found s c.args.parts.now) c.moment-moment.ensures)
    ∙ ap (λ z. answer z (staying p (without_at s c.in-Some.found.place))) (sym c.in_ok-without_at-in-Some.ensures.id)
    ∙ ap (answer c.in_ok-without_at-in-Some.field-0.0) (sym c.in_ok-without_at-in-Some.ensures.left)

pub returns-in_ok-without_at-in-Some-clause-missing : goal.returns-in_ok-without_at-in-Some-clause-missing
returns-in_ok-without_at-in-Some-clause-missing c =
    let s = c.args.self.now.image in
    λ none. absurd (is_there c.args.self.now.passed s c.args.parts.now c.args.now c.in-Some.found (sym c.in-Some.is ∙ c.find_exact.ensures ∙ ap (exactly_found s c.args.parts.now) c.moment-moment.ensures) none)

pub returns-in_err-without_at-in-Some-clause-missing : goal.returns-in_err-without_at-in-Some-clause-missing
returns-in_err-without_at-in-Some-clause-missing c =
    let s = c.args.self.now.image in
    λ none. absurd (is_there c.args.self.now.passed s c.args.parts.now c.args.now c.in-Some.found (sym c.in-Some.is ∙ c.find_exact.ensures ∙ ap (exactly_found s c.args.parts.now) c.moment-moment.ensures) none)

pub without_at-requires-clause-falls : goal.without_at-requires-clause-falls
without_at-requires-clause-falls c =
    let p = c.args.self.now.passed in
    let s = c.args.self.now.image in
    removed_falls (staying p s) (staying p (without_at s c.in-Some.found.place)) c.args.parts.now c.args.now _ c.args.self.now.count c.args.self.now.counted
    (found_removed p s c.args.parts.now c.args.now c.in-Some.found (sym c.in-Some.is ∙ c.find_exact.ensures ∙ ap (exactly_found s c.args.parts.now) c.moment-moment.ensures))
