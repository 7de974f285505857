use Rattle.std.proofs.Common.{◌≡◌, ◌+◌, ◌≤◌, ◌++◌, ℕ, List, length, get_or, drop, sym, ◌∙◌, ap, arith}
use Rattle.byteorder.specs.Endian.{big_bytes}
use Rattle.byteorder.specs.Numbers.{length-bytes_high_first}
use Rattle.set_model.specs.declared.kind.Kind.{Kind}
use Rattle.set_model.specs.declared.kind.Kind.TheVariants.{Ipv4}
use Rattle.set_model.specs.declared.kind.Interval.{Interval}
use Rattle.packed_values.specs.Packed.{width_of, lows_of, highs_of}
use Rattle.packed_values.proofs.Packing.{fits_at, as_many, still_long, one_more, lows_on, highs_on, length_on}
use Rattle.packed_values.proofs.pack.write_keys.Goals as goal

pub write_value-requires-clause-fits : goal.write_value-requires-clause-fits
write_value-requires-clause-fits c = (fits_at c.args.kinds.now c.args.parts.now c.fields.i c.requires.fit c.fields-test.true).0

pub write_value-requires-in-fields-clause-fits : goal.write_value-requires-in-fields-clause-fits
write_value-requires-in-fields-clause-fits c = (fits_at c.args.kinds.now c.args.parts.now c.fields.i c.requires.fit c.fields-test.true).1

pub fields-preserved : goal.fields-preserved
fields-preserved c =
    let kinds : List Kind = c.args.kinds.now in let parts : List Interval = c.args.parts.now in let i : ℕ = c.fields.i in let at : ℕ = c.fields.at in let w : ℕ = c.width.result in
    let n = as_many kinds parts c.requires.fit in
    let wide : w ≡ width_of (get_or kinds i Ipv4) = c.width.ensures.width in
    let on = length_on kinds i c.fields-test.true in
    let kept = c.fields.invariant in
    let low_room : at + w ≤ length c.fields.lows = omega (arith, wide, on, kept.left, kept.low_bytes) in
    let high_room : at + w ≤ length c.fields.highs = omega (arith, wide, on, kept.left, kept.high_bytes) in
    let low : c.write_value.new.bytes ≡ big_bytes (width_of (get_or kinds i Ipv4)) (get_or parts i (record { low = 0; high = 0 })).low = c.write_value.ensures in
    let high : c.write_value-in-fields.new.bytes ≡ big_bytes (width_of (get_or kinds i Ipv4)) (get_or parts i (record { low = 0; high = 0 })).high = c.write_value-in-fields.ensures in
    let low_count : length c.write_value.new.bytes ≡ w = ap length low ∙ (length-bytes_high_first _ _ ∙ sym wide) in
    let high_count : length c.write_value-in-fields.new.bytes ≡ w = ap length high ∙ (length-bytes_high_first _ _ ∙ sym wide) in
    let low_left : List ℕ = lows_of (drop (i + 1) kinds) (drop (i + 1) parts) in let high_left : List ℕ = highs_of (drop (i + 1) kinds) (drop (i + 1) parts) in
    record {
      low_bytes = still_long at w c.fields.lows c.write_value.new.bytes low_room low_count ∙ kept.low_bytes;
      high_bytes = still_long at w c.fields.highs c.write_value-in-fields.new.bytes high_room high_count ∙ kept.high_bytes;
      left = omega (arith, wide, on, kept.left);
      lows = one_more at w c.fields.lows c.write_value.new.bytes low_left (lows_of (drop i kinds) (drop i parts)) (lows_of kinds parts) low_room low_count
          (lows_on kinds parts i c.fields-test.true n ∙ ap (λ l. l ++ low_left) (sym low)) kept.lows;
      highs = one_more at w c.fields.highs c.write_value-in-fields.new.bytes high_left (highs_of (drop i kinds) (drop i parts)) (highs_of kinds parts) high_room high_count
          (highs_on kinds parts i c.fields-test.true n ∙ ap (λ l. l ++ high_left) (sym high)) kept.highs;
    }
