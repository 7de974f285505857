use Rattle.std.proofs.Common.{◌≡◌, ◌∷◌, List, ℕ, map, sym, ◌∙◌, subst, true, true≢false}
use Rattle.std.specs.String.{string_bytes}
use Rattle.command_words.specs.declared.shape.Verb.{Verb}
use Rattle.command_words.specs.WordForms.{accepts, verb_of, HasVerb}
use Rattle.command_words.proofs.CommandWords.{command-of-shape, shape-of-command}
use Rattle.command_words.proofs.shape.verb_before.Goals as goal

pub returns-in-Some-clause-found : goal.returns-in-Some-clause-found
returns-in-Some-clause-found c =
    let shaped : accepts c.in-Some.verb (map string_bytes c.args.rest.now) ≡ true = sym c.fit_behind.ensures ∙ c.if-fit_behind.true in
    subst (λ (w : List ℕ). HasVerb (w ∷ map string_bytes c.args.rest.now) c.in-Some.verb) (sym c.in-Some.ensures.found) (command-of-shape c.in-Some.verb (map string_bytes c.args.rest.now) shaped)

pub returns-in_default-clause-none : goal.returns-in_default-clause-none
returns-in_default-clause-none c none d is_d =
    let f = shape-of-command c.args.first.now (map string_bytes c.args.rest.now) d is_d in
    let same : c.in-Some.verb ≡ verb_of d = cc (c.in-Some.ensures.none (verb_of d) f.0) in
    let shaped : accepts c.in-Some.verb (map string_bytes c.args.rest.now) ≡ true = subst (λ (v : Verb). accepts v (map string_bytes c.args.rest.now) ≡ true) (sym same) f.1 in
    true≢false (sym shaped ∙ sym c.fit_behind.ensures ∙ c.if-fit_behind.false)

pub returns-in_default-2-clause-none : goal.returns-in_default-2-clause-none
returns-in_default-2-clause-none c none d is_d = cc (c.in_default.ensures.none (verb_of d) (shape-of-command c.args.first.now (map string_bytes c.args.rest.now) d is_d).0)
