use Rattle.std.proofs.Common.{◌≡◌, sym, ◌∙◌, ◌%◌, ◌^◌, Some, true, ap, ℕ, List, drop}
use Rattle.pcap_keys.specs.Savefile.{number, is_version}
use Rattle.frame_facts.specs.Links.{link_of}
use Rattle.pcap_keys.proofs.Records.{link_read}
use Rattle.pcap_keys.proofs.capture.of_format.Goals as goal

pub returns-in-Some : goal.returns-in-Some
returns-in-Some c =
    let yes : is_version c.args.format c.args.text.now ≡ true = let k = c.is_version.ensures in let h = c.if-not-is_version.false in cc in
    let link : link_of (c.read_u32.result % 2 ^ 16) ≡ Some c.in-Some.link = sym c.link_of.ensures ∙ c.in-Some.is in
    let at : c.read_u32.result ≡ number c.args.format.order 4 (drop 20 c.args.text.now) = c.read_u32.ensures ∙ ap (λ (z : List ℕ). number c.args.format.order 4 z) c.from_place.ensures in
    link_read _ _ _ _ _ c.if-text-lt24.false yes at link c.all_records.ensures
