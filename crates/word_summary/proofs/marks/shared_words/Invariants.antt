use Rattle.std.proofs.Common.{◌≡◌, ℕ, ◌+◌, ◌*◌, ◌<◌}
use Rattle.std.specs.Prelude.{slice_index}
use Rattle.bit_rows.specs.Row.{bit}
use Rattle.word_summary.specs.Marks.{share}
use Rattle.bit_rows.proofs.Marked.{marks_to}
use Rattle.word_summary.proofs.marks.shared_words.Given as goal

abbrev pub invariant-words : goal.invariant-words
invariant-words l = (i : ℕ) → i < 64 → bit l.marks i ≡ marks_to (λ k. share (slice_index l.words (l.upper * 8 + k)) (slice_index l.words (l.lower * 8 + k))) 0 l.w i
