-- Each event keeps the invariants of the machine.
use Rattle.std.proofs.Common.{◌≡◌, ℕ, ◌+◌, ◌^◌, ◌<◌, ◌≤◌, ap, Bool, true, false, List, [], ◌∷◌, arith, refl, Option, Some, None, slice_index}
use Rattle.std.specs.Prelude.{IsSome, ◌==◌}
use Rattle.std.proofs.lemmas.Grind.{common_steps}
use Rattle.std.proofs.lemmas.Bool.Decides.{nat_tests}
use Rattle.gen_slots.specs.declared.machine.Standing.TheVariants.{Retired, Free}
use Rattle.gen_slots.specs.SlotMachine.{Machine, holder, holders, standing_of, entered_by, left_from, checked_at, with_published, initial, IsConsistent}
use Rattle.gen_slots.specs.SlotRuns.{Event, enters, leaves, checks, publishes, MayStep, after_event, after_events, MayRun, IsSound, EveryRun}
use Rattle.gen_slots.proofs.HolderLaws.{checked-kept, holders_few, holders-held, unheld}

enters_keeps : (m : Machine) (r : ℕ) → IsConsistent m → r < m.readers → holder m r ≡ None → IsConsistent (entered_by r m)
enters_keeps m r k in_range outside = record {
  some = k.some;
  few = k.few;
  counted = grind (arith, common_steps, k.counted, k.wide, k.published);
  small = grind (arith, common_steps, k.small);
  free = grind (arith, common_steps, k.free, k.wide, k.published);
  published = k.published;
  alone = k.alone;
  inside = grind (arith, common_steps, k.inside, k.published);
  wide = grind (arith, common_steps, k.wide);
}

leaves_keeps : (m : Machine) (r s : ℕ) → IsConsistent m → r < m.readers → holder m r ≡ Some s → IsConsistent (left_from r (Some s) m)
leaves_keeps m r s k in_range inside = let at = k.inside r s inside in record {
  some = k.some;
  few = k.few;
  counted = grind (arith, common_steps, k.counted, k.wide);
  small = grind (arith, common_steps, k.small);
  free = grind (arith, common_steps, k.free, k.wide);
  published = k.published;
  alone = k.alone;
  inside = grind (arith, common_steps, k.inside);
  wide = grind (arith, common_steps, k.wide);
}

publishes_keeps : (m : Machine) (s : ℕ) → IsConsistent m → s < m.readers + 2 → standing_of m s ≡ Free → IsConsistent (with_published s m)
publishes_keeps m s k in_range free = record {
  some = k.some;
  few = k.few;
  counted = grind (arith, common_steps, k.counted, k.free, k.wide, k.small);
  small = grind (arith, common_steps, k.small);
  free = grind (arith, common_steps, k.free, k.wide);
  published = grind (arith, common_steps, k.published, k.wide);
  alone = grind (arith, common_steps, k.alone, k.wide);
  inside = k.inside;
  wide = grind (arith, common_steps, k.wide);
}

leaves_any : (m : Machine) (r : ℕ) (o : Option ℕ) → holder m r ≡ o → IsConsistent m → r < m.readers → IsSome o → IsConsistent (left_from r o m)
leaves_any m r (Some s) is k in_range some = leaves_keeps m r s k in_range is
leaves_any m r None is k in_range some = k

checks_any : (m : Machine) (s : ℕ) (b : Bool) → (slice_index m.done s == slice_index m.entered s) ≡ b → IsConsistent m → s < m.readers + 2 → standing_of m s ≡ Retired → IsConsistent (checked_at s b m)
checks_any m s true is k in_range retired = let same : slice_index m.done s ≡ slice_index m.entered s = grind (arith, nat_tests) in checked-kept m s k in_range retired same
checks_any m s false is k in_range retired = k

step_keeps : (m : Machine) (e : Event) → IsConsistent m → MayStep m e → IsConsistent (after_event m e)
step_keeps m (enters r) k may = enters_keeps m r k may.0 may.1
step_keeps m (leaves r) k may = leaves_any m r (holder m r) refl k may.0 may.1
step_keeps m (checks s) k may = checks_any m s (slice_index m.done s == slice_index m.entered s) refl k may.0 may.1
step_keeps m (publishes s) k may = publishes_keeps m s k may.0 may.1

run_keeps : (m : Machine) (es : List Event) → IsConsistent m → MayRun m es → IsConsistent (after_events m es)
run_keeps m [] k may = k
run_keeps m (e ∷ es) k may = run_keeps (after_event m e) es (step_keeps m e k may.0) may.1

starts : (n start : ℕ) → 0 < n → n ≤ 16 → start < 2 ^ 56 → IsConsistent (initial n start)
starts n start some few small = record {
  some = some;
  few = few;
  counted = grind (arith, common_steps);
  small = grind (arith, common_steps);
  free = grind (arith, common_steps);
  published = grind (arith, common_steps);
  alone = grind (arith, common_steps);
  inside = grind (arith, common_steps);
  wide = grind (arith, common_steps);
}

sound : (m : Machine) → IsConsistent m → IsSound m
sound m k = record {
  counted = k.counted;
  few = λ s. holders_few m s k;
  exact = λ s in_range. unheld m s k in_range;
  kept = λ r s below held is_free. let none = k.free s (k.inside r s held) is_free in let some = holders-held m r s k below held in omega (arith, none, some);
  not_anew = λ r s t below held may same. let none = k.free t may.0 may.1 in let some = holders-held m r s k below held in let equal = ap (holders m) same in omega (arith, none, some, equal);
}

pub every_run_sound : EveryRun
every_run_sound readers start events some few small may = sound (after_events (initial readers start) events) (run_keeps (initial readers start) events (starts readers start some few small) may)
