-- The walk over the extension headers of IPv6, header by header.
use Rattle.std.proofs.Common.{◌≡◌, refl, sym, ◌∙◌, ℕ, zero, suc, ◌<◌, ◌≤◌, List, length, drop, slice_index, true, false, Option, Some, None, arith, length-drop}
use Rattle.std.proofs.lemmas.Bool.{lt-ltb, le-ltb}
use Rattle.frame_facts.specs.declared.facts.Transport.{Transport}
use Rattle.frame_facts.specs.Transports.{whole, is_extension, is_later_fragment, extension_size, later_fragment, after_headers}

-- What is left to walk gives the whole's result.
abbrev pub Left : ℕ → List ℕ → Option Transport → Type 0
Left next bytes o = (turns : ℕ) × (length bytes < turns) × (after_headers turns next bytes ≡ o)

pub left_start : (next : ℕ) (bytes : List ℕ) → Left next bytes (after_headers (suc (length bytes)) next bytes)
left_start next bytes = (suc (length bytes), omega arith, refl)

pub left_done : (next : ℕ) (bytes : List ℕ) (o : Option Transport) → Left next bytes o → is_extension next ≡ false → Some (whole next bytes) ≡ o
left_done next bytes o (zero, l, e) n = absurd (omega (arith, l))
left_done next bytes o (suc turns, l, e) n =
    let k : after_headers (suc turns) next bytes ≡ Some (whole next bytes) = rw n refl in
    sym k ∙ e

pub left_cut : (next : ℕ) (bytes : List ℕ) (o : Option Transport) → Left next bytes o → is_extension next ≡ true → length bytes < 8 → None ≡ o
left_cut next bytes o (zero, l, e) h l8 = absurd (omega (arith, l))
left_cut next bytes o (suc turns, l, e) h l8 =
    let k : after_headers (suc turns) next bytes ≡ None = rw h (rw (lt-ltb (length bytes) 8 l8) refl) in
    sym k ∙ e

pub left_later : (next : ℕ) (bytes : List ℕ) (o : Option Transport) → Left next bytes o → is_extension next ≡ true → 8 ≤ length bytes → is_later_fragment next bytes ≡ true → later_fragment (slice_index bytes 0) ≡ o
left_later next bytes o (zero, l, e) h l8 y = absurd (omega (arith, l))
left_later next bytes o (suc turns, l, e) h l8 y =
    let k : after_headers (suc turns) next bytes ≡ later_fragment (slice_index bytes 0) = rw h (rw (le-ltb (length bytes) 8 l8) (rw y refl)) in
    sym k ∙ e

pub left_next : (next : ℕ) (bytes : List ℕ) (o : Option Transport) → Left next bytes o → is_extension next ≡ true → 8 ≤ length bytes → is_later_fragment next bytes ≡ false → 8 ≤ extension_size next bytes
    → Left (slice_index bytes 0) (drop (extension_size next bytes) bytes) o
left_next next bytes o (zero, l, e) h l8 n s = absurd (omega (arith, l))
left_next next bytes o (suc turns, l, e) h l8 n s =
    let k : after_headers (suc turns) next bytes ≡ after_headers turns (slice_index bytes 0) (drop (extension_size next bytes) bytes) = rw h (rw (le-ltb (length bytes) 8 l8) (rw n refl)) in
    (turns, omega (arith, l, l8, s, length-drop (extension_size next bytes) bytes), sym k ∙ e)
