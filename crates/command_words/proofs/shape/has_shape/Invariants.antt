use Rattle.std.proofs.Common.{◌≡◌, drop, fold, map, Some}
use Rattle.std.specs.String.{string_bytes}
use Rattle.command_words.specs.WordForms.{shape_after, is_whole_shape, has_shape}
use Rattle.command_words.proofs.shape.has_shape.Given as goal

-- the words that are left decide
abbrev pub invariant-words : goal.invariant-words
invariant-words l = is_whole_shape l.verb (fold (shape_after l.verb) (Some l.shape) (map string_bytes (drop l.word-index l.words))) ≡ has_shape l.verb (map string_bytes l.words)
