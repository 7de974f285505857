use Rattle.std.specs.String.{string_bytes}
use Rattle.std.proofs.Common.{Some, None, ap, sym, ◌∙◌, map, drop, ◌+◌}
use Rattle.command_words.specs.WordForms.{with_word}
use Rattle.command_words.proofs.CommandWords.{goes-on, nothing-fits}
use Rattle.command_words.proofs.shape.has_shape.Goals as goal

pub words-preserved : goal.words-preserved
words-preserved c = goes-on string_bytes c.args.verb c.words.shape (Some c.in-Some.next) c.args.words.now c.words.word-index c.word-item.result _ c.words-test.true c.word-item.is (sym c.in-Some.is ∙ c.with_word.ensures ∙ ap (with_word c.args.verb c.words.shape) c.as_str.ensures.value) c.words.invariant

pub returns-in-None : goal.returns-in-None
returns-in-None c = nothing-fits c.args.verb (map string_bytes (drop (c.words.word-index + 1) c.args.words.now)) _
    (goes-on string_bytes c.args.verb c.words.shape None c.args.words.now c.words.word-index c.word-item.result _ c.words-test.true c.word-item.is (sym c.in-None.is ∙ c.with_word.ensures ∙ ap (with_word c.args.verb c.words.shape) c.as_str.ensures.value) c.words.invariant)
