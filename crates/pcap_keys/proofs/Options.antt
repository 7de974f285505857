-- The walk over the options of an interface, option by option.
use Rattle.std.proofs.Common.{◌≡◌, refl, sym, ◌∙◌, ap, ℕ, zero, suc, ◌<◌, ◌≤◌, List, length, take, drop, true, false, Option, Some, None, arith, length-drop}
use Rattle.std.proofs.lemmas.Bool.{lt-ltb, le-ltb}
use Rattle.pcap_keys.specs.declared.format.Order.{Order}
use Rattle.pcap_keys.specs.declared.clock.Clock.{Clock}
use Rattle.pcap_keys.specs.Savefile.{number}
use Rattle.pcap_keys.specs.Clocks.{with_option, value_size, option_size, has_option, and_then, options}

-- What is left to walk gives the whole's result.
abbrev pub Left : Order → List ℕ → Clock → Option Clock → Type 0
Left order bytes clock o = (turns : ℕ) × (length bytes ≤ turns) × (options order turns bytes clock ≡ o)

module _ (order : Order) where
  -- the clock after the first option
  abbrev pub first : List ℕ → Clock → Option Clock
  first bytes clock = with_option order (number order 2 bytes) (take (value_size order bytes) (drop 4 bytes)) clock

  pub left_start : (bytes : List ℕ) (clock : Clock) → Left order bytes clock (options order (length bytes) bytes clock)
  left_start bytes clock = (length bytes, omega arith, refl)

  pub left_end : (bytes : List ℕ) (clock : Clock) (o : Option Clock) → Left order bytes clock o → has_option order bytes ≡ false → Some clock ≡ o
  left_end bytes clock o (zero, l, e) n = e
  left_end bytes clock o (suc turns, l, e) n =
      let k : options order (suc turns) bytes clock ≡ Some clock = rw n refl in
      sym k ∙ e

  pub left_cut : (bytes : List ℕ) (clock : Clock) (o : Option Clock) → Left order bytes clock o → has_option order bytes ≡ true → 4 ≤ length bytes → length bytes < option_size order bytes → None ≡ o
  left_cut bytes clock o (zero, l, e) h l4 s = absurd (omega (arith, l, l4))
  left_cut bytes clock o (suc turns, l, e) h l4 s =
      let k : options order (suc turns) bytes clock ≡ None = rw h (rw (lt-ltb (length bytes) (option_size order bytes) s) refl) in
      sym k ∙ e

  after_first : (turns : ℕ) (bytes : List ℕ) (clock : Clock) → has_option order bytes ≡ true → option_size order bytes ≤ length bytes
      → options order (suc turns) bytes clock ≡ and_then (first bytes clock) (λ next. options order turns (drop (option_size order bytes) bytes) next)
  after_first turns bytes clock h s = rw h (rw (le-ltb (length bytes) (option_size order bytes) s) refl)

  pub left_bad : (bytes : List ℕ) (clock : Clock) (o : Option Clock) → Left order bytes clock o → has_option order bytes ≡ true → 4 ≤ length bytes → option_size order bytes ≤ length bytes → first bytes clock ≡ None → None ≡ o
  left_bad bytes clock o (zero, l, e) h l4 s b = absurd (omega (arith, l, l4))
  left_bad bytes clock o (suc turns, l, e) h l4 s b =
      let next = λ (next : Clock). options order turns (drop (option_size order bytes) bytes) next in
      let k : options order (suc turns) bytes clock ≡ None = after_first turns bytes clock h s ∙ ap (λ (z : Option Clock). and_then z next) b in
      sym k ∙ e

  pub left_next : (bytes : List ℕ) (clock after : Clock) (o : Option Clock) → Left order bytes clock o → has_option order bytes ≡ true → 4 ≤ length bytes → option_size order bytes ≤ length bytes → first bytes clock ≡ Some after
      → Left order (drop (option_size order bytes) bytes) after o
  left_next bytes clock after o (zero, l, e) h l4 s b = absurd (omega (arith, l, l4))
  left_next bytes clock after o (suc turns, l, e) h l4 s b =
      let next = λ (next : Clock). options order turns (drop (option_size order bytes) bytes) next in
      let k : options order (suc turns) bytes clock ≡ options order turns (drop (option_size order bytes) bytes) after = after_first turns bytes clock h s ∙ ap (λ (z : Option Clock). and_then z next) b in
      (turns, omega (arith, l, l4, s, length-drop (option_size order bytes) bytes), sym k ∙ e)
