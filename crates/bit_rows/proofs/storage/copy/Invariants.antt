use Rattle.std.proofs.Common.{◌≡◌, take, vec_capacity}
use Rattle.bit_rows.proofs.storage.copy.Given as goal

abbrev pub invariant-words : goal.invariant-words
invariant-words l = record {
  items : l.copied.items ≡ take l.word-index l.words;
  room : vec_capacity l.copied ≡ vec_capacity l.initial.copied;
}
