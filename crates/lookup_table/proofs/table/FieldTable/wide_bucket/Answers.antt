use Rattle.std.proofs.Common.{◌≡◌, ◌*◌, ◌/◌, length, arith}
use Rattle.bit_rows.specs.Row.{Row}
use Rattle.lookup_table.proofs.RowsLaws.{All-bucket}
use Rattle.lookup_table.proofs.WideLaws.{wide-is}
use Rattle.lookup_table.proofs.table.FieldTable.wide_bucket.Goals as goal

pub returns : goal.returns
returns c =
    let t = c.args.self.now in
    let count : length t.buckets.rows ≡ t.bits / 4 * 16 = rw c.requires.width at t.shaped.count in
    let some = t.shaped.groups.bytes in
    wide-is t.buckets.rows t.rules c.args.j c.in_ok-row.row c.and_into.new.row c.in_ok-row.ensures
    (All-bucket (λ (x : Row). length x.bits ≡ t.rules) t.buckets.rows _ t.shaped.rows (omega (arith, c.requires.place))) (All-bucket (λ (x : Row). length x.bits ≡ t.rules) t.buckets.rows _ t.shaped.rows (omega (arith, c.requires.place)))
    c.and_into.ensures.bits
