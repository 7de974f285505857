use Rattle.std.proofs.Common.{◌≡◌, refl, sym, ◌∙◌, ◌+◌, ◌-◌, ◌*◌, ◌<◌, ◌≤◌, length, arith}
use Rattle.std.proofs.Math.Nat.{mul-le-mul_right}
use Rattle.bit_rows.specs.Row.{Row}
use Rattle.lookup_table.proofs.RowsLaws.{All-bucket, bucket-found}
use Rattle.lookup_table.proofs.ShareLaws.{joined-none, joined-more}
use Rattle.lookup_table.proofs.table.FieldTable.join_into.Goals as goal

pub or_into-requires-clause-length : goal.or_into-requires-clause-length
or_into-requires-clause-length c =
    let step : c.rows.i * c.args.step ≤ (c.args.n - 1) * c.args.step = mul-le-mul_right c.args.step (omega arith) in
    c.rows.invariant.joined.long ∙ sym (All-bucket (λ (x : Row). length x.bits ≡ c.args.self.now.rules) c.args.self.now.buckets.rows _ c.args.self.now.shaped.rows (omega (arith, c.requires.place)))

pub rows-init : goal.rows-init
rows-init c = record { joined = joined-none _ _ _ _ _ c.requires.row; spare = refl }

pub rows-preserved : goal.rows-preserved
rows-preserved c =
    let step : c.rows.i * c.args.step ≤ (c.args.n - 1) * c.args.step = mul-le-mul_right c.args.step (omega arith) in
    let within : c.args.start + c.rows.i * c.args.step < length c.args.self.now.buckets.rows = omega (arith, c.requires.place) in
    record {
      joined = joined-more c.args.self.now.buckets.rows c.args.start c.args.step c.rows.i c.args.self.now.rules c.rows.row c.or_into.new.row _ (bucket-found c.args.self.now.buckets.rows _ within)
          (c.rows.invariant.joined.long ∙ sym (All-bucket (λ (x : Row). length x.bits ≡ c.args.self.now.rules) c.args.self.now.buckets.rows _ c.args.self.now.shaped.rows within)) c.or_into.ensures.bits c.rows.invariant.joined;
      spare = c.or_into.ensures.spare ∙ c.rows.invariant.spare;
    }
