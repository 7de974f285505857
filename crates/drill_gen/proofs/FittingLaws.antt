-- The workload can be run: its intervals and its keys fit the kinds of the set.
use Rattle.std.proofs.Common.{◌≡◌, refl, sym, subst, ℕ, ◌+◌, ◌*◌, ◌%◌, ◌<◌, ◌==◌, Bool, true, false, IsTrue, if◌then◌else◌, List, [], ◌∷◌, map, arith}
use Rattle.std.specs.List.{range_with_len, All}
use Rattle.std.proofs.lemmas.Bool.Decides.{nat_tests}
use Rattle.std.proofs.lemmas.List.Elements.{All-map, All-nil, All-push}
use Rattle.set_model.specs.declared.kind.Kind.TheVariants.{Ipv4, Service}
use Rattle.set_model.specs.declared.script.Step.TheVariants.{Commit}
use Rattle.set_model.specs.declared.script.Script.{Script}
use Rattle.set_model.specs.declared.packet.Packet.{Packet}
use Rattle.set_model.specs.Key.{key_fits, parts_fit}
use Rattle.set_model.specs.Runnable.{HasFields, IsRunnableStep, EndsClosed, IsRunnable, IsFitting}
use Rattle.set_model.proofs.ClosedLaws.{closed-behind}
use Rattle.drill_gen.specs.Drill.{draw_from, seeded, address, address_span, port_span, span_from, addresses, ports, value_in, near_key, packet_place, packet_draw, addition, drill_set, drill_packet, drill_script, drill_keys}

draw-small : (x n : ℕ) → draw_from x n < 65536
draw-small x n = omega arith

-- an interval that is capped is good, and so are the values in it
parts-good : (a s p t : ℕ) → a < 4294967296 → p < 65536 → IsTrue (parts_fit (Ipv4 ∷ Service ∷ []) (span_from a s 4294967295 ∷ span_from p t 65535 ∷ []))
parts-good a s p t h g = grind (arith, nat_tests)

key-good : (a p : ℕ) → a < 4294967296 → p < 65536 → IsTrue (key_fits (Ipv4 ∷ Service ∷ []) (a ∷ p ∷ []))
key-good a p h g = grind (arith, nat_tests)

address-small : (x n m : ℕ) → address (draw_from x n) (draw_from x m) < 4294967296
address-small x n m = omega (arith, draw-small x n, draw-small x m)

addition-fits : (seed i : ℕ) → IsRunnableStep (drill_set ∷ []) (addition seed i)
addition-fits seed i = (drill_set, refl, parts-good (addresses seed i).low (address_span seed i) (ports seed i).low (port_span seed i) (address-small (seeded seed) (4 * i + 0) (4 * i + 1)) (draw-small (seeded seed) (4 * i + 3)))

-- The script is of one set, its steps are of that set, and a commit ends them.
pub drill-runnable : (seed count : ℕ) → IsRunnable (drill_script seed count)
drill-runnable seed count = record {
  sets = All-push HasFields [] drill_set (All-nil HasFields) (record { some = omega arith; few = omega arith });
  few_sets = omega arith;
  steps = All-push (All (IsRunnableStep (drill_set ∷ []))) [] _ (All-nil (All (IsRunnableStep (drill_set ∷ []))))
      (All-push (IsRunnableStep (drill_set ∷ [])) (map (addition seed) (range_with_len 0 count)) (Commit 0)
      (All-map (IsRunnableStep (drill_set ∷ [])) (addition seed) (range_with_len 0 count) (λ k d lt. addition-fits seed _)) tt);
  closed = All-push EndsClosed [] _ (All-nil EndsClosed) (closed-behind (map (addition seed) (range_with_len 0 count)) (Commit 0) refl);
}

near-fits : (seed e offset : ℕ) → IsTrue (key_fits drill_set.kinds (near_key seed e offset))
near-fits seed e offset = key-good (value_in (addresses seed e) (offset % (address_span seed e + 1))) (value_in (ports seed e) (offset % (port_span seed e + 1))) (omega arith) (omega arith)

key-fits : (seed count p : ℕ) (even : Bool) → IsTrue (key_fits drill_set.kinds (if even then near_key seed (packet_draw seed count p 0 % count) (packet_draw seed count p 1) else address (packet_draw seed count p 0) (packet_draw seed count p 1) ∷ packet_draw seed count p 2 ∷ []))
key-fits seed count p true = near-fits seed (packet_draw seed count p 0 % count) (packet_draw seed count p 1)
key-fits seed count p false =
    key-good (address (packet_draw seed count p 0) (packet_draw seed count p 1)) (packet_draw seed count p 2)
    (address-small (seeded seed) (packet_place count p + 0) (packet_place count p + 1)) (draw-small (seeded seed) (packet_place count p + 2))

packet-fits : (seed count p : ℕ) → IsFitting (drill_set ∷ []) (drill_packet seed count p)
packet-fits seed count p = record { set = drill_set; declared = refl; fits = key-fits seed count p (p % 2 == 0) }

-- Every packet's key fits the set.
pub drill-fits : (seed count : ℕ) → All (All (IsFitting (drill_set ∷ []))) (drill_keys seed count)
drill-fits seed count =
    All-push (All (IsFitting (drill_set ∷ []))) [] _ (All-nil (All (IsFitting (drill_set ∷ []))))
    (All-map (IsFitting (drill_set ∷ [])) (drill_packet seed count) (range_with_len 0 count) (λ k d lt. packet-fits seed count _))

-- so can what is the workload
pub runnable-drawn : (seed count : ℕ) {script : Script} → script ≡ drill_script seed count → IsRunnable script
runnable-drawn seed count e = subst IsRunnable (sym e) (drill-runnable seed count)

pub fitting-drawn : (seed count : ℕ) {script : Script} {keys : List (List Packet)} → script ≡ drill_script seed count → keys ≡ drill_keys seed count → All (All (IsFitting script.schema)) keys
fitting-drawn seed count {script} e f =
    subst (λ z. All (All (IsFitting script.schema)) z) (sym f) (subst (λ (s : Script). All (All (IsFitting s.schema)) (drill_keys seed count)) (sym e) (drill-fits seed count))
