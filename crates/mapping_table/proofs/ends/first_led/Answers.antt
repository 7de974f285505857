use Rattle.std.proofs.Common.{◌≡◌, ◌∙◌, ap, sym, ℕ, ◌+◌, ◌<◌, ◌≤◌, ◌⊎◌, inl, inr, Bool, true, false, length, get_or, arith}
use Rattle.std.proofs.lemmas.Bool.{cases_lt}
use Rattle.std.specs.List.{zip}
use Rattle.std.proofs.lemmas.Slice.Zip.{length-zip}
use Rattle.std.proofs.lemmas.Option.{get_or_from_slice_get}
use Rattle.set_model.specs.Expiry.{lives}
use Rattle.bit_rows.specs.Row.{IsNextSet}
use Rattle.set_tables.specs.Rows.{is_led}
use Rattle.mapping_table.proofs.LedLaws.{no_end, position-first, position-nowhere, skipped, led-there}
use Rattle.mapping_table.proofs.ends.first_led.Goals as goal

pub returns-then-is_live : goal.returns-then-is_live
returns-then-is_live c =
    let s : IsNextSet c.args.matched.now.bits c.rules.from c.in-Some.r = c.in-Some.ensures in
    let within : c.in-Some.r < length c.args.ends.now.items = omega (arith, s.within, c.requires) in
    let long = length-zip c.args.ends.now.items c.args.matched.now.bits in
    let inside : c.in-Some.r < length (zip c.args.ends.now.items c.args.matched.now.bits) = omega (arith, c.requires) in
    let first =
    position-first (is_led c.args.now) (zip c.args.ends.now.items c.args.matched.now.bits) c.in-Some.r no_end inside
    (skipped c.args.ends.now.items c.args.matched.now.bits c.args.now c.rules.from c.in-Some.r c.requires (omega arith) c.rules.invariant.none s.least)
    (led-there c.args.ends.now.items c.args.matched.now.bits c.args.now c.in-Some.r true c.requires within s.set (ap (λ e. lives e.expiry c.args.now) (get_or_from_slice_get c.args.ends.now.items c.in-Some.r c.at.result.now no_end.0 c.at.ensures) ∙ sym c.is_live.ensures ∙ c.if-is_live.true)) in
    search first

pub overflow_add-from : goal.overflow_add-from
overflow_add-from c =
    let s : IsNextSet c.args.matched.now.bits c.rules.from c.in-Some.r = c.in-Some.ensures in
    omega (arith, s.within, c.len-rules.ensures)

pub rules-preserved : goal.rules-preserved
rules-preserved c =
    let s : IsNextSet c.args.matched.now.bits c.rules.from c.in-Some.r = c.in-Some.ensures in
    let within : c.in-Some.r < length c.args.ends.now.items = omega (arith, s.within, c.requires) in
    let before = skipped c.args.ends.now.items c.args.matched.now.bits c.args.now c.rules.from c.in-Some.r c.requires (omega arith) c.rules.invariant.none s.least in
    let here = led-there c.args.ends.now.items c.args.matched.now.bits c.args.now c.in-Some.r false c.requires within s.set (ap (λ e. lives e.expiry c.args.now) (get_or_from_slice_get c.args.ends.now.items c.in-Some.r c.at.result.now no_end.0 c.at.ensures) ∙ sym c.is_live.ensures ∙ c.if-is_live.false) in
    record {
      within = omega arith;
      none = λ k h. below-more (λ k. is_led c.args.now (get_or (zip c.args.ends.now.items c.args.matched.now.bits) k no_end)) c.in-Some.r before here k (omega (arith, h));
    } where
      below-more : (p : ℕ → Bool) (r : ℕ) → ((k : ℕ) → k < r → p k ≡ false) → p r ≡ false → (k : ℕ) → k < r + 1 → p k ≡ false
      below-more p r before here k h = go (cases_lt k r) where
        go : (k < r) ⊎ (r ≤ k) → p k ≡ false
        go (inl l) = before k l
        go (inr l) = let e : k ≡ r = omega arith in ap p e ∙ here

pub rules-smaller : goal.rules-smaller
rules-smaller c =
    let s : IsNextSet c.args.matched.now.bits c.rules.from c.in-Some.r = c.in-Some.ensures in
    omega (arith, s.within, s.from_on, c.requires)

pub returns : goal.returns
returns c =
    let long = length-zip c.args.ends.now.items c.args.matched.now.bits in
    let all : (i : ℕ) → c.rules.from ≤ i → get_or c.args.matched.now.bits i false ≡ false = c.in_default.ensures in
    position-nowhere (is_led c.args.now) (zip c.args.ends.now.items c.args.matched.now.bits) no_end
    (λ k h.
    let within : k < length c.args.ends.now.items = omega arith in
    skipped c.args.ends.now.items c.args.matched.now.bits c.args.now c.rules.from (k + 1) c.requires (omega arith) c.rules.invariant.none (λ i a b. all i a) k (omega arith))
