-- The workload that is drawn one after another is the one that is defined place by place.
use Rattle.std.proofs.Common.{◌≡◌, ◌∙◌, ap, ℕ, ◌+◌, ◌*◌, ◌/◌, ◌%◌, ◌<◌, List, [], ◌∷◌, length, map, slice_index_or, arith}
use Rattle.std.specs.List.{range_with_len}
use Rattle.std.proofs.lemmas.List.FromFn.{length-map-range_with_len, get_or-map-range_with_len}
use Rattle.set_model.specs.declared.script.Step.{Step}
use Rattle.set_model.specs.declared.script.Script.{Script}
use Rattle.set_model.specs.declared.packet.Packet.{Packet}
use Rattle.drill_gen.specs.declared.target.Target.{Target}
use Rattle.drill_gen.specs.Drill.{after_draws, draw_from, seeded, draw, addition, packet_draw, drill_packet, drill_script, drill_keys}
use Rattle.drill_gen.specs.Drawing.{target_from, target_of, target_at, addition_of, addition_at, one_transaction, packet_state, drawn_packet, key_of}
use Rattle.drill_gen.proofs.DrawLaws.{draw-more, map-range-same}

pub target-drawn : (seed i : ℕ) → target_at (seeded seed) i ≡ target_of seed i
target-drawn seed i = cc (draw-more (seeded seed) (4 * i) 0, draw-more (seeded seed) (4 * i) 1, draw-more (seeded seed) (4 * i) 2, draw-more (seeded seed) (4 * i) 3)

pub addition-drawn : (seed i : ℕ) → addition_at (seeded seed) i ≡ addition seed i
addition-drawn seed i = ap (λ t. addition_of t (i + 1)) (target-drawn seed i)

-- the targets of all elements
abbrev pub targets : ℕ → ℕ → List Target
targets seed count = map (target_at (seeded seed)) (range_with_len 0 count)

-- the state after all elements
abbrev pub behind : ℕ → ℕ → ℕ
behind seed count = after_draws (seeded seed) (4 * count)

pub packet-place : (seed count p k : ℕ) → draw_from (packet_state (behind seed count) p) k ≡ packet_draw seed count p k
packet-place seed count p k =
    let place : 4 * count + (5 * (p / 2) + 2 * (p % 2) + k) ≡ 4 * count + 5 * (p / 2) + 2 * (p % 2) + k = omega arith in
    draw-more (behind seed count) (5 * (p / 2) + 2 * (p % 2)) k
    ∙ draw-more (seeded seed) (4 * count) (5 * (p / 2) + 2 * (p % 2) + k)
    ∙ ap (draw seed) place

-- the target that a packet chooses
chosen : (seed count e : ℕ) → 0 < count → slice_index_or (targets seed count) (e % length (targets seed count)) (target_from 0) ≡ target_of seed (e % count)
chosen seed count e h =
    let l : length (targets seed count) ≡ count = length-map-range_with_len (target_at (seeded seed)) 0 count in
    let inside : e % count < count = omega arith in
    ap (λ n. slice_index_or (targets seed count) (e % n) (target_from 0)) l
    ∙ get_or-map-range_with_len (target_at (seeded seed)) 0 count (e % count) (e % count) (target_from 0) inside (omega arith)
    ∙ target-drawn seed (e % count)

pub packet-drawn : (seed count p : ℕ) → 0 < count → drawn_packet (targets seed count) (behind seed count) p ≡ drill_packet seed count p
packet-drawn seed count p h =
    cc (
      packet-place seed count p 0,
      packet-place seed count p 1,
      packet-place seed count p 2,
      ap (λ t. key_of t (packet_draw seed count p 1)) (chosen seed count (packet_draw seed count p 0) h),
    )

-- The script of these additions is the workload's.
pub script-drawn : (seed count : ℕ) {x : ℕ} {steps : List Step} {script : Script} → x ≡ seeded seed → steps ≡ map (addition_at x) (range_with_len 0 count) → script ≡ one_transaction steps → script ≡ drill_script seed count
script-drawn seed count {x} e s t =
    let same = map-range-same (addition_at (seeded seed)) (addition seed) 0 count (λ i _ _. addition-drawn seed i) in
    t ∙ ap one_transaction (s ∙ ap (λ y. map (addition_at y) (range_with_len 0 count)) e ∙ same)

-- The packets for these elements are the workload's.
pub packets-drawn : (seed count : ℕ) → map (drawn_packet (targets seed count) (behind seed count)) (range_with_len 0 (length (targets seed count))) ≡ map (drill_packet seed count) (range_with_len 0 count)
packets-drawn seed count =
    let l : length (targets seed count) ≡ count = length-map-range_with_len (target_at (seeded seed)) 0 count in
    ap (λ n. map (drawn_packet (targets seed count) (behind seed count)) (range_with_len 0 n)) l
    ∙ map-range-same (drawn_packet (targets seed count) (behind seed count)) (drill_packet seed count) 0 count (λ p _ h. packet-drawn seed count p (omega arith))

pub keys-drawn : (seed count : ℕ) {x y : ℕ} {elements slice : List Target} {packets : List Packet} {keys : List (List Packet)}
    → x ≡ seeded seed → y ≡ after_draws x (4 * count) → elements ≡ map (target_at x) (range_with_len 0 count) → slice ≡ elements
    → packets ≡ map (drawn_packet slice y) (range_with_len 0 (length slice)) → keys ≡ packets ∷ [] → keys ≡ drill_keys seed count
keys-drawn seed count {x} {y} {elements} {slice} e f g h p k =
    let state : y ≡ behind seed count = f ∙ ap (λ z. after_draws z (4 * count)) e in
    let same : slice ≡ targets seed count = h ∙ g ∙ ap (λ z. map (target_at z) (range_with_len 0 count)) e in
    k ∙ ap (λ q. q ∷ []) (p ∙ ap (λ z. map (drawn_packet slice z) (range_with_len 0 (length slice))) state ∙ ap (λ z. map (drawn_packet z (behind seed count)) (range_with_len 0 (length z))) same ∙ packets-drawn seed count)
