-- The facts of the packets of a file of pcapng are values of their kinds.
use Rattle.std.proofs.Common.{ℕ, zero, suc, ◌+◌, ◌-◌, List, length, take, drop, nat_lt, Bool, true, false, Option, Some, None, Result, Ok, Err, slice_get}
use Rattle.std.specs.Prelude.{IfOk, IfSome, if◌then◌else◌}
use Rattle.std.specs.List.{All}
use Rattle.std.proofs.lemmas.List.Elements.{All-nil, All-push, All-take, All-drop}
use Rattle.frame_facts.specs.declared.facts.Facts.{Facts}
use Rattle.frame_facts.specs.Links.{facts}
use Rattle.frame_facts.proofs.Bits.{IsByte}
use Rattle.pcap_keys.specs.declared.facts.Frame.{Frame}
use Rattle.pcap_keys.specs.declared.format.Order.{Order}
use Rattle.pcap_keys.specs.declared.block.Kind.{Kind}
use Rattle.pcap_keys.specs.declared.block.Kind.TheVariants as kinds
use Rattle.pcap_keys.specs.declared.block.Header.{Header}
use Rattle.pcap_keys.specs.declared.interface.Interface.{Interface}
use Rattle.pcap_keys.specs.declared.reading.Reading.{Reading}
use Rattle.pcap_keys.specs.declared.error.CaptureError.{CaptureError}
use Rattle.pcap_keys.specs.declared.error.CaptureError.TheVariants.{Bad}
use Rattle.pcap_keys.specs.declared.error.CaptureReason.TheVariants as reasons
use Rattle.pcap_keys.specs.Savefile.{number}
use Rattle.pcap_keys.specs.Clocks.{time}
use Rattle.pcap_keys.specs.Blocks.{header, interface}
use Rattle.pcap_keys.specs.Sections.{nothing_read, with_frame, started, with_timed, moment_of, is_version, section, with_interface, described, stamp_of, enhanced_of, enhanced, kept_of, simple_of, simple, of_kind, with_size, headed, block, and_then, blocks, sections}
use Rattle.pcap_keys.specs.Fitting.{AreValues, HasValues}
use Rattle.pcap_keys.proofs.FactFits.{facts_have}

abbrev pub AllHave : Result (List Frame) CaptureError → Type 0
AllHave r = IfOk r (All HasValues)

abbrev Has : Reading → Type 0
Has r = All HasValues r.frames

abbrev Keeps : Result Reading CaptureError → Type 0
Keeps r = IfOk r Has

abbrev KeepsBy : Result (Reading × ℕ) CaptureError → Type 0
KeepsBy r = IfOk r (λ read. Has read.0)

either_keeps : (b : Bool) (x y : Result Reading CaptureError) → Keeps x → Keeps y → Keeps (if b then x else y)
either_keeps true x y h k = h
either_keeps false x y h k = k

either_have : (b : Bool) (x y : Result (List Frame) CaptureError) → AllHave x → AllHave y → AllHave (if b then x else y)
either_have true x y h k = h
either_have false x y h k = k

frame_has : (r : Reading) (moment : ℕ) (found : Option Facts) → Has r → IfSome found AreValues → Has (with_frame r moment found)
frame_has r moment found all h = All-push HasValues r.frames (record { moment = moment; facts = found }) all h

module _ (order : Order) (byte : ℕ) (bytes : List ℕ) (is : All IsByte bytes) (r : Reading) (all : Has r) where
  section_keeps : Keeps (section order byte bytes r)
  unfolding section
  section_keeps = either_keeps (is_version order bytes) (Ok _) (Err _) all tt

  described_keeps : Keeps (described order byte bytes r)
  unfolding described
  described_keeps = go (interface order byte bytes) where
    go : (i : Result Interface CaptureError) → Keeps (with_interface r i)
    go (Ok i) = all
    go (Err e) = tt

  enhanced_keeps : Keeps (enhanced order byte bytes r)
  unfolding enhanced
  enhanced_keeps = go (slice_get r.interfaces (number order 4 (drop 8 bytes))) where
    go : (i : Option Interface) → Keeps (enhanced_of order byte bytes r i)
    go None = tt
    go (Some i) =
        let size = number order 4 (drop 20 bytes) in
        let kept = take size (drop 28 bytes) in
        let t = time i.clock (stamp_of order bytes) in
        either_keeps (nat_lt (length bytes - 32) size) (Err (Bad (byte + 20) reasons.Length)) (Ok (with_timed r t (facts i.link kept))) tt
        (frame_has (started r t) (moment_of r.start t) (facts i.link kept) all (facts_have i.link kept (All-take IsByte size (drop 28 bytes) (All-drop IsByte 28 bytes is))))

  simple_keeps : Keeps (simple order byte bytes r)
  unfolding simple
  simple_keeps = go (slice_get r.interfaces 0) where
    go : (i : Option Interface) → Keeps (simple_of order byte bytes r i)
    go None = tt
    go (Some i) =
        let size = kept_of i.most (number order 4 (drop 8 bytes)) in
        let kept = take size (drop 12 bytes) in
        either_keeps (nat_lt (length bytes - 16) size) (Err (Bad (byte + 8) reasons.Length)) (Ok (with_frame r r.moment (facts i.link kept))) tt
        (frame_has r r.moment (facts i.link kept) all (facts_have i.link kept (All-take IsByte size (drop 12 bytes) (All-drop IsByte 12 bytes is))))

  kind_keeps : (kind : Kind) → Keeps (of_kind kind order byte bytes r)
  kind_keeps kinds.Section = section_keeps
  kind_keeps kinds.Interface = described_keeps
  kind_keeps kinds.Simple = simple_keeps
  kind_keeps kinds.Enhanced = enhanced_keeps
  kind_keeps kinds.Other = all

size_keeps : (size : ℕ) (r : Result Reading CaptureError) → Keeps r → KeepsBy (with_size size r)
size_keeps size (Ok r) all = all
size_keeps size (Err e) all = tt

block_keeps : (byte : ℕ) (bytes : List ℕ) → All IsByte bytes → (r : Reading) → Has r → KeepsBy (block byte bytes r)
unfolding block
block_keeps byte bytes is r all = go (header r.order byte bytes) where
  go : (h : Result Header CaptureError) → KeepsBy (headed byte bytes r h)
  go (Ok h) = size_keeps h.size (of_kind h.kind h.order byte (take h.size bytes) r) (kind_keeps h.order byte (take h.size bytes) (All-take IsByte h.size bytes is) r all h.kind)
  go (Err e) = tt

then_have : (next : Reading × ℕ → Result (List Frame) CaptureError) (x : Result (Reading × ℕ) CaptureError) → KeepsBy x → ((read : Reading × ℕ) → Has read.0 → AllHave (next read)) → AllHave (and_then x next)
then_have next (Ok read) h k = k read h
then_have next (Err e) h k = tt

module _ (text : List ℕ) (is : All IsByte text) where
  blocks_have : (turns place : ℕ) (r : Reading) → Has r → AllHave (blocks text turns place r)
  blocks_have zero place r all = all
  blocks_have (suc turns) place r all =
      let next = λ (read : Reading × ℕ). blocks text turns (place + read.1) read.0 in
      let x = block place (drop place text) r in
      either_have (nat_lt place (length text)) (and_then x next) (Ok r.frames)
      (then_have next x (block_keeps place (drop place text) (All-drop IsByte place text is) r all) (λ read h. blocks_have turns (place + read.1) read.0 h)) all

  pub sections_have : AllHave (sections text)
  sections_have = blocks_have (length text) 0 nothing_read (All-nil HasValues)
