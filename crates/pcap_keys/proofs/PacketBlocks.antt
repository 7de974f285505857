-- A packet whose kept bytes are within its block is read.
use Rattle.std.proofs.Common.{◌≡◌, refl, sym, ◌∙◌, ap, subst, ℕ, ◌-◌, ◌≤◌, List, length, take, drop, Option, Some, Result, Ok}
use Rattle.std.proofs.lemmas.Bool.{le-ltb}
use Rattle.frame_facts.specs.declared.facts.Facts.{Facts}
use Rattle.frame_facts.specs.Links.{facts}
use Rattle.pcap_keys.specs.declared.format.Order.{Order}
use Rattle.pcap_keys.specs.declared.interface.Interface.{Interface}
use Rattle.pcap_keys.specs.declared.reading.Reading.{Reading}
use Rattle.pcap_keys.specs.declared.error.CaptureError.{CaptureError}
use Rattle.pcap_keys.specs.Savefile.{number}
use Rattle.pcap_keys.specs.Clocks.{time}
use Rattle.pcap_keys.specs.Sections.{with_frame, with_timed, stamp_of, enhanced_of, kept_of, simple_of, Becomes}

module _ (order : Order) (byte : ℕ) (block : List ℕ) (r : Reading) (i : Interface) where
  pub simple_read : (kept : ℕ) (f : Option Facts) (x : Result (Unit {0}) CaptureError) (after : Reading) → kept ≡ kept_of i.most (number order 4 (drop 8 block)) → kept ≤ length block - 16
      → f ≡ facts i.link (take kept (drop 12 block)) → Becomes x after (Ok (with_frame r r.moment f)) → Becomes x after (simple_of order byte block r (Some i))
  simple_read kept f x after ek l ef b =
      let size : ℕ = kept_of i.most (number order 4 (drop 8 block)) in
      let P : ℕ → Type 0 = λ n. n ≤ length block - 16 in
      let h : P size = subst P ek l in
      let g : f ≡ facts i.link (take size (drop 12 block)) = ef ∙ ap (λ (z : ℕ). facts i.link (take z (drop 12 block))) ek in
      let k : simple_of order byte block r (Some i) ≡ Ok (with_frame r r.moment (facts i.link (take size (drop 12 block)))) = rw (le-ltb (length block - 16) size h) refl in
      subst (Becomes x after) (sym (k ∙ ap (λ (z : Option Facts). Ok (with_frame r r.moment z)) (sym g))) b

  pub enhanced_read : (kept t : ℕ) (f : Option Facts) (x : Result (Unit {0}) CaptureError) (after : Reading) → kept ≡ number order 4 (drop 20 block) → kept ≤ length block - 32
      → f ≡ facts i.link (take kept (drop 28 block)) → t ≡ time i.clock (stamp_of order block) → Becomes x after (Ok (with_timed r t f)) → Becomes x after (enhanced_of order byte block r (Some i))
  enhanced_read kept t f x after ek l ef et b =
      let size : ℕ = number order 4 (drop 20 block) in
      let P : ℕ → Type 0 = λ n. n ≤ length block - 32 in
      let h : P size = subst P ek l in
      let g : f ≡ facts i.link (take size (drop 28 block)) = ef ∙ ap (λ (z : ℕ). facts i.link (take z (drop 28 block))) ek in
      let k : enhanced_of order byte block r (Some i) ≡ Ok (with_timed r (time i.clock (stamp_of order block)) (facts i.link (take size (drop 28 block)))) = rw (le-ltb (length block - 32) size h) refl in
      subst (Becomes x after) (sym (k ∙ ap (λ (z : Option Facts). Ok (with_timed r (time i.clock (stamp_of order block)) z)) (sym g) ∙ ap (λ (z : ℕ). Ok (with_timed r z f)) (sym et))) b
