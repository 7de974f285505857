use Rattle.std.proofs.Common.{◌≡◌, ℕ, ◌≤◌, ◌<◌, true}
use Rattle.std.specs.Prelude.{slice_index}
use Rattle.bit_rows.specs.Row.{bit}
use Rattle.word_summary.specs.Marks.{ClearsNone}
use Rattle.word_summary.proofs.marks.mark_run.Given as goal

abbrev pub invariant-lines : goal.invariant-lines
invariant-lines l = record {
  own : l.page.own ≡ true;
  kept : ClearsNone l.initial.page.items l.page.items;
  set : (j : ℕ) → l.first ≤ j → j < l.j → bit (slice_index l.page.items j) l.k ≡ true;
}
