-- The test for whole blocks decides what a whole block is.
use Rattle.std.proofs.Common.{◌≡◌, ℕ, ◌-◌, ◌^◌, ◌≤◌, ◌==◌, true, sym, ap, arith, eq-eqb}
use Rattle.std.proofs.lemmas.Bool.{eqb-true, and_parts, and_from}
use Rattle.std.proofs.lemmas.Nat.{pow_pos}
use Rattle.std.specs.Int.Count.{leading_unique}
use Rattle.std.specs.Int.{w128, leading_zeros}
use Rattle.set_model.specs.Kind.{bits_of}
use Rattle.set_model.specs.declared.kind.Kind.{Kind}
use Rattle.set_model.specs.declared.kind.Interval.{Interval}
use Rattle.addr_text.specs.Intervals.{block_of}
use Rattle.addr_text.specs.Written.{fixed_bits, is_whole_block, IsBlock}
use Rattle.addr_text.proofs.IntervalLaws.{bits_of-le}

pub is_block_sound : (kind : Kind) (part : Interval) → is_whole_block kind part ≡ true → IsBlock kind part
is_block_sound kind part h =
    let fixed = fixed_bits (bits_of kind) (part.high - part.low) in
    let whole = block_of (bits_of kind) fixed part.low in
    let (low, high) = and_parts (part.low == whole.low) (part.high == whole.high) h in
    (fixed, omega arith, λ i. record { low = eqb-true part.low whole.low low i; high = eqb-true part.high whole.high high i })

-- 2 to the power h, less one, has h bits
spread_bits : (h : ℕ) → h ≤ 128 → leading_zeros w128 (2 ^ h - 1) ≡ 128 - h
spread_bits h within =
    let some = pow_pos h in
    sym (leading_unique 128 (2 ^ h - 1) (128 - h) h (omega arith) (omega (arith, some)) (omega (arith, some)))

pub is_block_complete : (kind : Kind) (part : Interval) → IsBlock kind part → is_whole_block kind part ≡ true
is_block_complete kind part (fixed, within, block) =
    let bits = bits_of kind in
    let low : part.low ≡ (block_of bits fixed part.low).low = ap (λ p. p.low) block in
    let high : part.high ≡ (block_of bits fixed part.low).high = ap (λ p. p.high) block in
    let spread : part.high - part.low ≡ 2 ^ (bits - fixed) - 1 = omega (arith, low, high) in
    let same : fixed_bits bits (part.high - part.low) ≡ fixed = omega (arith, ap (leading_zeros w128) spread, spread_bits (bits - fixed) (omega (arith, bits_of-le kind)), bits_of-le kind) in
    rw same (and_from _ _ (eq-eqb _ _ low) (eq-eqb _ _ high))
