-- The packets of a key file in their order, section by section.
use Rattle.std.proofs.Common.{◌≡◌, refl, sym, ◌∙◌, ap, ℕ, zero, suc, ◌+◌, ◌<◌, ◌≤◌, List, [], ◌∷◌, length, map, take, drop, slice_get, Some, arith, All, append-nil, add-zero, ◌⊎◌, inl, inr, flat_map}
use Rattle.std.specs.List.{enumerate_from}
use Rattle.std.proofs.lemmas.List.{length-map, length-append}
use Rattle.std.proofs.lemmas.Option.{slice_get_within}
use Rattle.set_model.specs.declared.packet.Packet.{Packet}
use Rattle.set_model.specs.Legal.{Placed, placed_from}
use Rattle.set_model.specs.Text.{packets_up_to}
use Rattle.script_laws.specs.Sections.{section_at}
use Rattle.script_laws.proofs.Lists.{All-head, All-tail, append-either, take-first, drop-take-behind, numbered, of-item, length-enumerate}

-- the packets of a section, with their places
abbrev pub in_section : ℕ → ℕ × Packet → Placed
in_section j p = record { section = j; place = p.0; packet = p.1 }

abbrev pub placed_in : ℕ → List Packet → List Placed
placed_in j packets = map (in_section j) (enumerate_from 0 packets)

placed-long : (j : ℕ) (packets : List Packet) → length (placed_in j packets) ≡ length packets
placed-long j packets = length-map (enumerate_from 0 packets) (in_section j) ∙ length-enumerate 0 packets

count-cons : (packets : List Packet) (keys : List (List Packet)) (j : ℕ) → packets_up_to (packets ∷ keys) (suc j) ≡ length packets + packets_up_to keys j
count-cons packets keys j = length-append packets (flat_map (λ ps. ps) (take j keys))

-- the packets of one section among all
pub section-placed : (s j : ℕ) (keys : List (List Packet)) → drop (packets_up_to keys j) (take (packets_up_to keys (suc j)) (placed_from s keys)) ≡ placed_in (s + j) (section_at keys j)
section-placed s zero [] = refl
section-placed s (suc j) [] = refl
section-placed s zero (packets ∷ keys) =
    let size : packets_up_to (packets ∷ keys) 1 ≡ length (placed_in s packets) = ap length (append-nil packets) ∙ sym (placed-long s packets) in
    ap (λ n. take n (placed_from s (packets ∷ keys))) size ∙ take-first (placed_in s packets) (placed_from (s + 1) keys) ∙ ap (λ n. placed_in n packets) (sym (add-zero s))
section-placed s (suc j) (packets ∷ keys) =
    let long = placed-long s packets in
    let a : packets_up_to (packets ∷ keys) (suc j) ≡ length (placed_in s packets) + packets_up_to keys j = count-cons packets keys j ∙ ap (λ n. n + packets_up_to keys j) (sym long) in
    let b : packets_up_to (packets ∷ keys) (suc (suc j)) ≡ length (placed_in s packets) + packets_up_to keys (suc j) = count-cons packets keys (suc j) ∙ ap (λ n. n + packets_up_to keys (suc j)) (sym long) in
    ap (λ n. drop n (take (packets_up_to (packets ∷ keys) (suc (suc j))) (placed_from s (packets ∷ keys)))) a
    ∙ ap (λ n. drop (length (placed_in s packets) + packets_up_to keys j) (take n (placed_from s (packets ∷ keys)))) b
    ∙ drop-take-behind (placed_in s packets) (placed_from (s + 1) keys) (packets_up_to keys j) (packets_up_to keys (suc j))
    ∙ section-placed (s + 1) j keys
    ∙ ap (λ n. placed_in n (section_at keys j)) (omega arith)

-- one section more is so many packets more
pub count-next : (keys : List (List Packet)) (j : ℕ) → packets_up_to keys (suc j) ≡ packets_up_to keys j + length (section_at keys j)
count-next [] zero = refl
count-next [] (suc j) = refl
count-next (packets ∷ keys) zero = ap length (append-nil packets) ∙ omega arith
count-next (packets ∷ keys) (suc j) =
    let more = count-next keys j in
    let a = count-cons packets keys (suc j) in
    let b = count-cons packets keys j in
    omega (arith, a, b, more)

-- What holds of all packets holds of each that is placed.
pub of-placed : (P : Packet → Type 0) (s p : ℕ) (keys : List (List Packet)) (at : Placed) → All (All P) keys → slice_get (placed_from s keys) p ≡ Some at → P at.packet
of-placed P s p [] at h e = absurd (cc e)
of-placed P s p (packets ∷ keys) at h e = go (append-either (placed_in s packets) (placed_from (s + 1) keys) p at e) (λ q k. of-placed P (s + 1) q keys at (All-tail (All P) packets keys h) k) where
  go : (slice_get (placed_in s packets) p ≡ Some at) ⊎ ((q : ℕ) × (slice_get (placed_from (s + 1) keys) q ≡ Some at) × (p ≡ length (placed_in s packets) + q))
      → ((q : ℕ) → slice_get (placed_from (s + 1) keys) q ≡ Some at → P at.packet) → P at.packet
  go (inl k) rest =
      let here = numbered (in_section s) packets p at k in
      rw (← here.2) (of-item P packets p here.0 (All-head (All P) packets keys h) here.1)
  go (inr k) rest = rest k.0 k.1

-- a packet that is placed from a section on is of no earlier section
from-section : (s p : ℕ) (keys : List (List Packet)) (at : Placed) → slice_get (placed_from s keys) p ≡ Some at → s ≤ at.section
from-section s p [] at e = absurd (cc e)
from-section s p (packets ∷ keys) at e = go (append-either (placed_in s packets) (placed_from (s + 1) keys) p at e) (λ q k. from-section (s + 1) q keys at k) where
  go : (slice_get (placed_in s packets) p ≡ Some at) ⊎ ((q : ℕ) × (slice_get (placed_from (s + 1) keys) q ≡ Some at) × (p ≡ length (placed_in s packets) + q))
      → ((q : ℕ) → slice_get (placed_from (s + 1) keys) q ≡ Some at → s + 1 ≤ at.section) → s ≤ at.section
  go (inl k) rest = let here = numbered (in_section s) packets p at k in rw (← here.2) (omega arith)
  go (inr k) rest = let later = rest k.0 k.1 in omega (arith, later)

in-first : (s p : ℕ) (packets : List Packet) (at : Placed) → slice_get (placed_in s packets) p ≡ Some at → at.section ≡ s
in-first s p packets at k = let here = numbered (in_section s) packets p at k in ap (λ (z : Placed). z.section) (sym here.2)

-- the places of the items of the first section and of the later ones
abbrev Where : ℕ → List Packet → List (List Packet) → ℕ → Placed → Type 0
Where s packets keys n at = (slice_get (placed_in s packets) n ≡ Some at) ⊎ ((i : ℕ) × (slice_get (placed_from (s + 1) keys) i ≡ Some at) × (n ≡ length (placed_in s packets) + i))

-- A later packet is of no earlier section.
pub sections-rise : (s p q : ℕ) (keys : List (List Packet)) (a b : Placed) → p < q → slice_get (placed_from s keys) p ≡ Some a → slice_get (placed_from s keys) q ≡ Some b → a.section ≤ b.section
sections-rise s p q [] a b lt e f = absurd (cc e)
sections-rise s p q (packets ∷ keys) a b lt e f =
    go (append-either (placed_in s packets) (placed_from (s + 1) keys) p a e) (append-either (placed_in s packets) (placed_from (s + 1) keys) q b f)
    (λ i j l k m. sections-rise (s + 1) i j keys a b l k m) where
      go : Where s packets keys p a → Where s packets keys q b → ((i j : ℕ) → i < j → slice_get (placed_from (s + 1) keys) i ≡ Some a → slice_get (placed_from (s + 1) keys) j ≡ Some b → a.section ≤ b.section) → a.section ≤ b.section
      go (inl k) (inl m) rest = let x = in-first s p packets a k in let y = in-first s q packets b m in omega (arith, x, y)
      go (inl k) (inr m) rest = let x = in-first s p packets a k in let y = from-section (s + 1) m.0 keys b m.1 in omega (arith, x, y)
      go (inr k) (inl m) rest = let x = k.2 in let y = slice_get_within (placed_in s packets) q b m in absurd (omega (arith, x, y, lt))
      go (inr k) (inr m) rest = rest k.0 m.0 (let x = k.2 in let y = m.2 in omega (arith, x, y, lt)) k.1 m.1

-- the item of a part of a list
part-at : {A : Type 0} (xs : List A) (a b q : ℕ) → a + q < b → slice_get (drop a (take b xs)) q ≡ slice_get xs (a + q)
part-at [] zero zero q h = refl
part-at [] zero (suc b) q h = refl
part-at [] (suc a) zero q h = refl
part-at [] (suc a) (suc b) q h = refl
part-at (x ∷ xs) zero zero q h = absurd (omega (arith, h))
part-at (x ∷ xs) zero (suc b) zero h = refl
part-at (x ∷ xs) zero (suc b) (suc q) h = let same : 0 + suc q ≡ suc (0 + q) = omega arith in rw same (part-at xs zero b q (omega (arith, h)))
part-at (x ∷ xs) (suc a) zero q h = absurd (omega (arith, h))
part-at (x ∷ xs) (suc a) (suc b) q h = let same : suc a + q ≡ suc (a + q) = omega arith in rw same (part-at xs a b q (omega (arith, h)))

-- A packet among those of section j + 1 is that section's.
pub placed-here : (j q : ℕ) (keys : List (List Packet)) (at : Placed) → q < length (section_at keys j) → slice_get (placed_from 1 keys) (packets_up_to keys j + q) ≡ Some at
    → (p : Packet) × (slice_get (section_at keys j) q ≡ Some p) × (in_section (1 + j) (q, p) ≡ at)
placed-here j q keys at within e =
    let more = count-next keys j in
    let part = part-at (placed_from 1 keys) (packets_up_to keys j) (packets_up_to keys (suc j)) q (omega (arith, more, within)) in
    let here : slice_get (placed_in (1 + j) (section_at keys j)) q ≡ Some at = ap (λ xs. slice_get xs q) (sym (section-placed 1 j keys)) ∙ part ∙ e in
    numbered (in_section (1 + j)) (section_at keys j) q at here

-- A packet before those is of an earlier section.
pub placed-before : (s j p : ℕ) (keys : List (List Packet)) (at : Placed) → slice_get (placed_from s keys) p ≡ Some at → p < packets_up_to keys j → at.section < s + j
placed-before s j p [] at e lt = absurd (cc e)
placed-before s zero p (packets ∷ keys) at e lt = absurd (omega (arith, lt))
placed-before s (suc j) p (packets ∷ keys) at e lt = go (append-either (placed_in s packets) (placed_from (s + 1) keys) p at e) (λ q k l. placed-before (s + 1) j q keys at k l) where
  go : (slice_get (placed_in s packets) p ≡ Some at) ⊎ ((q : ℕ) × (slice_get (placed_from (s + 1) keys) q ≡ Some at) × (p ≡ length (placed_in s packets) + q))
      → ((q : ℕ) → slice_get (placed_from (s + 1) keys) q ≡ Some at → q < packets_up_to keys j → at.section < s + 1 + j) → at.section < s + suc j
  go (inl k) rest = let is = in-first s p packets at k in omega (arith, is)
  go (inr k) rest = let long = placed-long s packets in let more = count-cons packets keys j in let place = k.2 in let r = rest k.0 k.1 (omega (arith, long, more, place, lt)) in omega (arith, r)

-- all packets
pub placed-count : (s : ℕ) (keys : List (List Packet)) → length (placed_from s keys) ≡ length (flat_map (λ packets. packets) keys)
placed-count s [] = refl
placed-count s (packets ∷ keys) =
    let a = length-append (placed_in s packets) (placed_from (s + 1) keys) in let b = length-append packets (flat_map (λ ps. ps) keys) in let long = placed-long s packets in let rest = placed-count (s + 1) keys in omega (arith, a, b, long, rest)

pub count-rises : (keys : List (List Packet)) (j d : ℕ) → packets_up_to keys j ≤ packets_up_to keys (j + d)
count-rises keys j zero = rw add-zero (omega arith)
count-rises keys j (suc d) = let so_far = count-rises keys j d in let more = count-next keys (j + d) in let same : j + suc d ≡ suc (j + d) = omega arith in rw same (omega (arith, so_far, more))
