-- The places of a value's last groups.
use Rattle.std.proofs.Common.{◌≡◌, sym, ◌∙◌, ap, ℕ, ◌+◌, ◌-◌, ◌*◌, ◌/◌, ◌%◌, ◌^◌, ◌<◌, ◌≤◌, ◌⊎◌, inl, inr, subst, bit_and, arith}
use Rattle.std.proofs.lemmas.Bool.{cases_eq}
use Rattle.std.proofs.lemmas.Nat.{field_of, shl_whole, mul-add-lt}
use Rattle.std.proofs.Math.Nat.{mul-le-mul_right, div-le_self}
use Rattle.std.proofs.Math.Pow.{mod-mod-pow}
use Rattle.field_groups.specs.Groups.{IsWidth, group, shift}
use Rattle.field_groups.specs.LastFour.{IsGroupPlace}
use Rattle.field_groups.proofs.GroupLaws.{group-below, short-mask}

-- The group with so many groups after it begins above as many groups of bits.
shift-behind : (width bits behind : ℕ) → IsWidth width bits → behind < bits / width → shift width bits (bits / width - 1 - behind) ≡ width * behind
shift-behind width bits behind w h = go (cases_eq width 4) where
  go : (width ≡ 4) ⊎ (width ≡ 4 → ⊥) → shift width bits (bits / width - 1 - behind) ≡ width * behind
  go (inl e) = let a = w.bytes in let n : behind < bits / 4 = rw e at h in rw e (omega arith)
  go (inr e) =
      let a = w.fours in
      let b = w.four in
      let d = w.eight in
      let f = w.bytes in
      let eight : width ≡ 8 = omega arith in
      let n : behind < bits / 8 = rw eight at h in
      rw eight (omega arith)

-- Bits within a value's 32 lowest bits are the same in the value.
low-bits : (value s width : ℕ) → s + width ≤ 32 → value % 2 ^ 32 / 2 ^ s % 2 ^ width ≡ value / 2 ^ s % 2 ^ width
low-bits value s width h =
    let sum : 32 - s - width + width + s ≡ 32 = omega arith in
    subst (λ (n : ℕ). value % 2 ^ n / 2 ^ s % 2 ^ width ≡ value / 2 ^ s % 2 ^ width) sum
    (ap (λ x. x % 2 ^ width) (field_of value (32 - s - width + width) s) ∙ mod-mod-pow (value / 2 ^ s) (32 - s - width) width)

-- one of a value's last four groups, as the code takes it
low-group : (width bits behind value : ℕ) → IsWidth width bits → behind < bits / width → behind ≤ 3
    → bit_and (value % 2 ^ 32 / 2 ^ (width * behind)) (1 * 2 ^ width % 2 ^ 64 - 1) ≡ group width bits (bits / width - 1 - behind) value
low-group width bits behind value w h few =
    let narrow = w.eight in
    let product : width * behind ≤ 8 * behind = mul-le-mul_right {m = width} {n = 8} behind narrow in
    short-mask (value % 2 ^ 32) (width * behind) width (omega arith) ∙ low-bits value (width * behind) width (omega arith)
    ∙ ap (λ s. value / 2 ^ s % 2 ^ width) (sym (shift-behind width bits behind w h))

pub last-place : (width bits value behind : ℕ) → IsWidth width bits → behind < bits / width → behind ≤ 3
    → IsGroupPlace width bits value (bits / width - 1 - behind) ((bits / width - 1 - behind) * 2 ^ width % 2 ^ 64 + bit_and (value % 2 ^ 32 / 2 ^ (width * behind)) (1 * 2 ^ width % 2 ^ 64 - 1))
last-place width bits value behind w h few =
    let g = bits / width - 1 - behind in
    let narrow = w.eight in
    let whole : g * 2 ^ width % 2 ^ 64 ≡ g * 2 ^ width = shl_whole g 32 width 64 (omega (arith, w.most, div-le_self bits width)) (omega arith) in
    let is : g * 2 ^ width % 2 ^ 64 + bit_and (value % 2 ^ 32 / 2 ^ (width * behind)) (1 * 2 ^ width % 2 ^ 64 - 1) ≡ g * 2 ^ width + group width bits g value =
    ap (λ x. g * 2 ^ width % 2 ^ 64 + x) (low-group width bits behind value w h few) ∙ ap (λ x. x + group width bits g value) whole
    in
    record {
      at = is;
      within = subst (λ (p : ℕ). p < bits / width * 2 ^ width) (sym is) (omega (arith, mul-add-lt g (2 ^ width) (group width bits g value) (bits / width) (omega arith) (group-below width bits g value)));
    }
