-- Counts modulo 2 ^ 56, and how many readers hold a slot.
use Rattle.std.proofs.Common.{◌≡◌, ◌↔◌, ℕ, ◌+◌, ◌<◌, ◌≤◌, ◌∙◌, ap, cond, Bool, true, refl, sym, arith, eq-eqb, get_or, length, slice_index, Option, Some, None}
use Rattle.std.proofs.lemmas.List.{get_or_read_under}
use Rattle.std.proofs.lemmas.List.Sums.{count_by-le-length, get_or-le-sum_by}
use Rattle.std.proofs.lemmas.Grind.{common_steps}
use Rattle.gen_slots.specs.declared.machine.Standing.TheVariants.{Retired}
use Rattle.gen_slots.specs.SlotMachine.{Machine, holder, holders, standing_of, checked_at, is_slot, IsConsistent}

-- at most 16 readers hold a slot
pub holders_few : (m : Machine) (s : ℕ) → IsConsistent m → holders m s ≤ 16
holders_few m s k = let few = k.few in let wide = k.wide.3 in omega (arith, count_by-le-length (is_slot s) m.held)

-- nobody holds a slot exactly if its two counts agree
pub unheld : (m : Machine) (s : ℕ) → IsConsistent m → s < m.readers + 2 → (slice_index m.done s ≡ slice_index m.entered s) ↔ (holders m s ≡ 0)
unheld m s k in_range = let few = holders_few m s k in let c = k.counted s in_range in let d = (k.small s).0 in let e = (k.small s).1 in
    ((λ same. omega arith), (λ none. omega arith))

pub checked-kept : (m : Machine) (s : ℕ) → IsConsistent m → s < m.readers + 2 → standing_of m s ≡ Retired → slice_index m.done s ≡ slice_index m.entered s → IsConsistent (checked_at s true m)
checked-kept m s k in_range retired same = let none = (unheld m s k in_range).0 same in record {
  some = k.some;
  few = k.few;
  counted = k.counted;
  small = k.small;
  free = grind (arith, common_steps, none, k.free);
  published = grind (arith, common_steps, k.published);
  alone = grind (arith, common_steps, k.alone);
  inside = k.inside;
  wide = grind (arith, common_steps, k.wide);
}

-- a slot that a reader holds has a holder
pub holders-held : (m : Machine) (r s : ℕ) → IsConsistent m → r < m.readers → holder m r ≡ Some s → 0 < holders m s
holders-held m r s k below held = let wide = k.wide.3 in
    let counts = get_or-le-sum_by (λ (o : Option ℕ). cond {A = ℕ} (is_slot s o) 1 0) m.held r None (omega arith) in
    let one : ◌≡◌ {A = ℕ} (cond {A = ℕ} (is_slot s (holder m r)) 1 0) 1 = ap (λ (o : Option ℕ). cond {A = ℕ} (is_slot s o) 1 0) held ∙ ap (λ (b : Bool). cond {A = ℕ} b 1 0) (eq-eqb s s refl) in omega (arith, counts, one)

-- if the two counts that were read of a slot are equal, its counts are equal
pub counts_agree : (m : Machine) (s a b : ℕ) → length m.done ≡ m.readers + 2 → length m.entered ≡ m.readers + 2 → s < m.readers + 2 → a ≡ get_or m.done s a → b ≡ get_or m.entered s b → a ≡ b → slice_index m.done s ≡ slice_index m.entered s
counts_agree m s a b done entered low is_a is_b same =
    sym (get_or_read_under m.done s (length m.done) a 0 is_a (omega (arith, done, low)) refl) ∙ (same ∙ get_or_read_under m.entered s (length m.entered) b 0 is_b (omega (arith, entered, low)) refl)
