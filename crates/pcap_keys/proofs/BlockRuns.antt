-- The walk over the blocks of a file, block by block.
use Rattle.std.proofs.Common.{◌≡◌, refl, sym, ◌∙◌, ap, ℕ, zero, suc, ◌+◌, ◌<◌, ◌≤◌, List, length, drop, Result, Ok, Err, arith}
use Rattle.std.proofs.lemmas.Bool.{lt-ltb, le-ltb}
use Rattle.pcap_keys.specs.declared.facts.Frame.{Frame}
use Rattle.pcap_keys.specs.declared.reading.Reading.{Reading}
use Rattle.pcap_keys.specs.declared.error.CaptureError.{CaptureError}
use Rattle.pcap_keys.specs.declared.error.CaptureError.TheVariants.{Bad, Memory}
use Rattle.pcap_keys.specs.Sections.{block, and_then, blocks, nothing_read, sections, BecomesBy}
use Rattle.pcap_keys.specs.Captured.{IsUnlessMemory}

-- What is left to read gives the whole's result.
abbrev pub Left : List ℕ → ℕ → Reading → Result (List Frame) CaptureError → Type 0
Left text place r o = (turns : ℕ) × (length text ≤ place + turns) × (blocks text turns place r ≡ o)

module _ (text : List ℕ) where
  pub left_start : Left text 0 nothing_read (sections text)
  left_start = (length text, omega arith, refl)

  pub left_end : (place : ℕ) (r : Reading) (o : Result (List Frame) CaptureError) → Left text place r o → length text ≤ place → Ok r.frames ≡ o
  left_end place r o (zero, l, e) h = e
  left_end place r o (suc turns, l, e) h =
      let k : blocks text (suc turns) place r ≡ Ok r.frames = rw (le-ltb place (length text) h) refl in
      sym k ∙ e

  first : (turns place : ℕ) (r : Reading) → place < length text
      → blocks text (suc turns) place r ≡ and_then (block place (drop place text) r) (λ read. blocks text turns (place + read.1) read.0)
  first turns place r h = rw (lt-ltb place (length text) h) refl

  pub left_next : (place size : ℕ) (r after : Reading) (o : Result (List Frame) CaptureError) → Left text place r o → place < length text → 12 ≤ size → Ok (after, size) ≡ block place (drop place text) r → Left text (place + size) after o
  left_next place size r after o (zero, l, e) h s b = absurd (omega (arith, l, h))
  left_next place size r after o (suc turns, l, e) h s b =
      let next = λ (read : Reading × ℕ). blocks text turns (place + read.1) read.0 in
      let k : blocks text (suc turns) place r ≡ blocks text turns (place + size) after = first turns place r h ∙ ap (λ (z : Result (Reading × ℕ) CaptureError). and_then z next) (sym b) in
      (turns, omega (arith, l, s), sym k ∙ e)

  left_bad : (place : ℕ) (r : Reading) (fault : CaptureError) (o : Result (List Frame) CaptureError) → Left text place r o → place < length text → Err fault ≡ block place (drop place text) r → Err fault ≡ o
  left_bad place r fault o (zero, l, e) h b = absurd (omega (arith, l, h))
  left_bad place r fault o (suc turns, l, e) h b =
      let next = λ (read : Reading × ℕ). blocks text turns (place + read.1) read.0 in
      let k : blocks text (suc turns) place r ≡ Err fault = first turns place r h ∙ ap (λ (z : Result (Reading × ℕ) CaptureError). and_then z next) (sym b) in
      sym k ∙ e

  pub bad_read : (place : ℕ) (r after : Reading) (fault : CaptureError) (o : Result (List Frame) CaptureError) → Left text place r o → place < length text → BecomesBy (Err fault) after (block place (drop place text) r) → IsUnlessMemory (Err fault) o
  bad_read place r after (Bad byte reason) o l h b = left_bad place r (Bad byte reason) o l h b
  bad_read place r after Memory o l h b = tt
