-- Laws of the draws: what is drawn one after another is what is drawn at its place.
use Rattle.std.proofs.Common.{◌≡◌, refl, sym, ◌∙◌, ap, ℕ, zero, suc, ◌+◌, ◌*◌, ◌/◌, ◌%◌, ◌<◌, ◌≤◌, List, [], ◌∷◌, ◌++◌, map, zero-add, arith}
use Rattle.std.specs.List.{range_with_len}
use Rattle.std.proofs.Math.Nat.{add-suc}
use Rattle.std.proofs.lemmas.List.FromFn.{map-range_with_len_more}
use Rattle.std.proofs.lemmas.Bool.Decides.{nat_tests}
use Rattle.drill_gen.specs.Drill.{next_state, after_draws, draw_from}
use Rattle.drill_gen.specs.Drawing.{packet_state, packet_draws}

-- so many draws after so many others
pub after-more : (x m n : ℕ) → after_draws (after_draws x m) n ≡ after_draws x (m + n)
after-more x m zero = let e : m ≡ m + 0 = omega arith in ap (after_draws x) e
after-more x m (suc n) = ap next_state (after-more x m n) ∙ ap (after_draws x) (sym (add-suc m n))

pub draw-more : (x m n : ℕ) → draw_from (after_draws x m) n ≡ draw_from x (m + n)
draw-more x m n = ap (λ y. next_state y / 32768) (after-more x m n)

-- The draws of element i + 1 come four draws after those of element i.
pub four-more : (x i : ℕ) → after_draws (after_draws x (4 * i)) 4 ≡ after_draws x (4 * (i + 1))
four-more x i = after-more x (4 * i) 4 ∙ ap (after_draws x) (omega arith)

-- An even packet takes two draws and an odd one three.
pub packet-more : (x p : ℕ) → after_draws (packet_state x p) (packet_draws p) ≡ packet_state x (p + 1)
packet-more x p = after-more x (5 * (p / 2) + 2 * (p % 2)) (packet_draws p) ∙ ap (after_draws x) (places (p % 2) refl) where
  places : (r : ℕ) → p % 2 ≡ r → 5 * (p / 2) + 2 * (p % 2) + packet_draws p ≡ 5 * ((p + 1) / 2) + 2 * ((p + 1) % 2)
  places r e = grind (arith, nat_tests)

-- Lists by the numbers from a on are the same if they agree at each number.
pub map-range-same : {X : Type 0} (f g : ℕ → X) (a n : ℕ) → ((i : ℕ) → a ≤ i → i < a + n → f i ≡ g i) → map f (range_with_len a n) ≡ map g (range_with_len a n)
map-range-same f g a zero h = refl
map-range-same f g a (suc n) h =
    let first : f a ≡ g a = h a (omega arith) (omega arith) in
    let rest : map f (range_with_len (a + 1) n) ≡ map g (range_with_len (a + 1) n) = map-range-same f g (a + 1) n (λ i l m. h i (omega arith) (omega arith)) in
    cc

-- one more of them at the end
pub map-range-more : {X : Type 0} (f : ℕ → X) (i : ℕ) {old new : List X} {x : X} → old ≡ map f (range_with_len 0 i) → x ≡ f i → new ≡ old ++ x ∷ [] → new ≡ map f (range_with_len 0 (i + 1))
map-range-more f i o e n = cc (map-range_with_len_more f 0 i i (zero-add i))
