use Rattle.std.proofs.Common.{◌≡◌, map, take}
use Rattle.std.specs.String.{string_bytes}
use Rattle.key_answer.specs.Question.{key_text}
use Rattle.key_answer.proofs.question.key_text.Given as goal

abbrev pub invariant-words : goal.invariant-words
invariant-words l = l.text.items ≡ key_text (map string_bytes (take l.word-index l.words))
