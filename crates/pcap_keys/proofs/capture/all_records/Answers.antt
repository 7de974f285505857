use Rattle.std.proofs.Common.{◌≡◌, sym, ◌∙◌, ap, subst, ℕ, List, true, false, drop}
use Rattle.pcap_keys.specs.declared.facts.Frame.{Frame}
use Rattle.pcap_keys.specs.Savefile.{is_whole, kept}
use Rattle.pcap_keys.specs.Captured.{frame_of}
use Rattle.pcap_keys.proofs.Records.{Left, left_start, all_read, cut_here, one_read}
use Rattle.pcap_keys.proofs.capture.all_records.Goals as goal

pub records-init : goal.records-init
records-init c = subst (λ (z : List Frame). Left c.args.format c.args.link c.start_of-start.result c.args.text.now z 24) (sym c.new-frames.ensures) (left_start _ _ _ _)

pub returns-then-not-is_whole : goal.returns-then-not-is_whole
returns-then-not-is_whole c =
    let no : is_whole c.args.format (drop c.records.place c.args.text.now) ≡ false = let k = c.is_whole.ensures.same in let b = c.from_place-bytes.ensures in let h = c.if-not-is_whole.true in cc in
    cut_here _ _ _ _ c.start_of-start.ensures _ _ c.records.invariant c.records-test.true no

pub records-preserved : goal.records-preserved
records-preserved c =
    let yes : is_whole c.args.format (drop c.records.place c.args.text.now) ≡ true = let k = c.is_whole.ensures.same in let b = c.from_place-bytes.ensures in let h = c.if-not-is_whole.false in cc in
    let same = c.from_place-bytes.ensures in
    let size : c.kept.result ≡ kept c.args.format (drop c.records.place c.args.text.now) = c.kept.ensures ∙ ap (λ (z : List ℕ). kept c.args.format z) same in
    let frame : c.frame_of.result ≡ frame_of c.args.format c.args.link c.start_of-start.result (drop c.records.place c.args.text.now) = c.frame_of.ensures ∙ ap (λ (z : List ℕ). frame_of c.args.format c.args.link c.start_of-start.result z) same in
    one_read _ _ _ _ _ _ _ _ _ c.records.invariant c.records-test.true yes frame c.in-Ok.ensures.ok size

pub returns : goal.returns
returns c = all_read _ _ _ _ c.start_of-start.ensures _ _ c.records.invariant c.records-test.false
