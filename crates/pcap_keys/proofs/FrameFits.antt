-- The facts of the frames of a capture are values of their kinds.
use Rattle.std.proofs.Common.{sym, subst, ℕ, zero, suc, ◌+◌, ◌%◌, ◌^◌, List, [], ◌∷◌, length, drop, nat_lt, ◌==◌, not, Bool, true, false, Option, Some, None, Result, Ok, Err}
use Rattle.std.specs.Prelude.{IfOk, if◌then◌else◌}
use Rattle.std.specs.List.{All}
use Rattle.std.proofs.lemmas.List.Elements.{All-nil, All-cons, All-take, All-drop}
use Rattle.frame_facts.specs.declared.link.Link.{Link}
use Rattle.frame_facts.specs.Links.{link_of}
use Rattle.frame_facts.proofs.Bits.{IsByte}
use Rattle.pcap_keys.specs.declared.facts.Frame.{Frame}
use Rattle.pcap_keys.specs.declared.format.Format.{Format}
use Rattle.pcap_keys.specs.declared.format.Order.TheVariants as orders
use Rattle.pcap_keys.specs.declared.error.CaptureError.{CaptureError}
use Rattle.pcap_keys.specs.declared.error.CaptureError.TheVariants.{Bad, Memory}
use Rattle.pcap_keys.specs.declared.error.CaptureReason.TheVariants as reasons
use Rattle.pcap_keys.specs.Savefile.{number, format_of, is_version, kept, is_whole, frame_bytes}
use Rattle.pcap_keys.specs.Blocks.{section_type}
use Rattle.pcap_keys.specs.Sections.{sections}
use Rattle.pcap_keys.specs.Captured.{fault, frame_of, start_of, behind, where_left, where_whole, records, of_link, of_format, captured, IsUnlessMemory}
use Rattle.pcap_keys.specs.Fitting.{HasValues}
use Rattle.pcap_keys.proofs.FactFits.{facts_have}
use Rattle.pcap_keys.proofs.SectionFits.{AllHave, sections_have}

module _ (text : List ℕ) (all : All IsByte text) where
  frame_has : (format : Format) (link : Link) (start place : ℕ) → HasValues (frame_of format link start (drop place text))
  frame_has format link start place =
      facts_have link (frame_bytes format (drop place text)) (All-take IsByte (kept format (drop place text)) (drop 16 (drop place text)) (All-drop IsByte 16 (drop place text) (All-drop IsByte place text all)))

  behind_has : (f : Frame) (r : Result (List Frame) CaptureError) → HasValues f → AllHave r → AllHave (behind (f ∷ []) r)
  behind_has f (Ok others) h k = All-cons HasValues f others h k
  behind_has f (Err e) h k = tt

  whole_has : (b : Bool) (place : ℕ) (r : Result (List Frame) CaptureError) → AllHave r → AllHave (where_whole b place r)
  whole_has true place r k = k
  whole_has false place r k = tt

  left_has : (b : Bool) (r : Result (List Frame) CaptureError) → AllHave r → AllHave (where_left b r)
  left_has true r k = k
  left_has false r k = All-nil HasValues

  records_have : (format : Format) (link : Link) (start turns place : ℕ) → AllHave (records format link start text turns place)
  records_have format link start zero place = All-nil HasValues
  records_have format link start (suc turns) place =
      let bytes = drop place text in
      let others = records format link start text turns (place + (16 + kept format bytes)) in
      let first = frame_of format link start bytes in
      let here = behind_has first others (frame_has format link start place) (records_have format link start turns (place + (16 + kept format bytes))) in
      left_has (nat_lt place (length text)) (where_whole (is_whole format bytes) place (behind (first ∷ []) others)) (whole_has (is_whole format bytes) place (behind (first ∷ []) others) here)

  link_has : (format : Format) (link : Option Link) → AllHave (of_link format text link)
  link_has format None = tt
  link_has format (Some link) = records_have format link (start_of format text) (length text) 24

  either_has : (b : Bool) (x y : Result (List Frame) CaptureError) → AllHave x → AllHave y → AllHave (if b then x else y)
  either_has true x y h k = h
  either_has false x y h k = k

  format_has : (format : Option Format) → AllHave (of_format text format)
  format_has None = tt
  format_has (Some format) =
      let link = link_of (number format.order 4 (drop 20 text) % 2 ^ 16) in
      let linked = of_link format text link in
      let versions = if not (is_version format text) then fault 4 reasons.Version else linked in
      either_has (nat_lt (length text) 24) (fault 0 reasons.Cut) versions tt (either_has (not (is_version format text)) (fault 4 reasons.Version) linked tt (link_has format link))

  captured_has : AllHave (captured text)
  unfolding captured
  captured_has =
      let classic = of_format text (format_of text) in
      let begins = number orders.Big 4 text == section_type in
      either_has (nat_lt (length text) 4) (fault 0 reasons.Magic) (if begins then sections text else classic) tt
      (either_has begins (sections text) classic (sections_have text all) (format_has (format_of text)))

  pub frames_have : (r : Result (List Frame) CaptureError) → IsUnlessMemory r (captured text) → IfOk r (All HasValues)
  frames_have (Ok frames) e = subst AllHave (sym e) captured_has
  frames_have (Err (Bad byte reason)) e = tt
  frames_have (Err Memory) e = tt
