use Rattle.std.proofs.Common.{◌≡◌, ◌<◌, ℕ}
use Rattle.bit_rows.specs.Row.{bit}
use Rattle.bit_rows.proofs.Marked.{marks_to}
use Rattle.expiry_scan.proofs.PlaceLaws.{left_at}
use Rattle.expiry_scan.proofs.page_ends.left_word.Given as goal

-- the marks of the elements before this one
abbrev pub invariant-elements : goal.invariant-elements
invariant-elements l = (j : ℕ) → j < 64 → bit l.word j ≡ marks_to (left_at l.passed l.elements l.from) 0 l.k j
