use Rattle.std.proofs.Common.{◌≡◌, ◌++◌, replicate, vec_capacity}
use Rattle.bit_rows.proofs.storage.grow.Given as goal

abbrev pub invariant-words : goal.invariant-words
invariant-words l = record {
  items : l.words.items ≡ l.initial.words.items ++ replicate l.counter 0;
  room : vec_capacity l.words ≡ vec_capacity l.initial.words;
}
