use Rattle.std.proofs.Common.{◌≡◌, ◌≤◌, length, take, filter}
use Rattle.key_match.specs.Holders.{holds_field, fields}
use Rattle.key_match.proofs.holders.field_count.Given as goal

-- the fields so far
abbrev pub invariant-fields : goal.invariant-fields
invariant-fields l = record {
  count : l.count ≡ length (filter (holds_field l.element) (take l.field (fields l.key)));
  few : l.count ≤ l.field;
}
