use Rattle.std.proofs.Common.{◌∙◌, ◌&&◌, sym, ap, map}
use Rattle.std.specs.String.{string_bytes}
use Rattle.command_words.specs.WordForms.{stdin_once}
use Rattle.command_words.proofs.CommandWords.{accepts-shape}
use Rattle.command_words.proofs.shape.fit_behind.Goals as goal

pub returns-then-has_shape : goal.returns-then-has_shape
returns-then-has_shape c =
    let words = map string_bytes c.args.words.now in
    c.names_stdin_once.ensures ∙ ap (λ b. b && stdin_once words) (sym c.if-has_shape.true ∙ c.has_shape.ensures) ∙ sym (accepts-shape c.args.verb c.in_default.not-Get words)

pub returns-else-has_shape : goal.returns-else-has_shape
returns-else-has_shape c =
    let words = map string_bytes c.args.words.now in
    c.if-has_shape.false ∙ ap (λ b. b && stdin_once words) (sym c.if-has_shape.false ∙ c.has_shape.ensures) ∙ sym (accepts-shape c.args.verb c.in_default.not-Get words)
