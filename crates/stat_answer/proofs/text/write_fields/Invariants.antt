use Rattle.std.proofs.Common.{◌≡◌, ◌++◌, ◌*◌, ◌≤◌, map}
use Rattle.std.specs.List.{sum_by, range_with_len}
use Rattle.stat_answer.specs.Figures.{field_figures}
use Rattle.stat_answer.specs.StatText.{field_lines}
use Rattle.stat_answer.proofs.text.write_fields.Given as goal

-- the lines of the fields so far, and their bytes, of 64 bits each
abbrev pub invariant-fields : goal.invariant-fields
invariant-fields l = record {
  text : l.out.items ≡ l.initial.out.items ++ field_lines l.image.kinds l.image.elements l.f;
  bytes : l.bytes ≡ sum_by (λ figures. figures.bytes) (map (field_figures l.image.kinds l.image.elements) (range_with_len 0 l.f));
  small : l.bytes ≤ 18446744073709551615 * l.f;
}
