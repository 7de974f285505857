use Rattle.std.proofs.Common.{◌≡◌, sym, subst, ℕ, List, Ok, Err, drop}
use Rattle.pcap_keys.specs.declared.reading.Reading.{Reading}
use Rattle.pcap_keys.specs.Sections.{sections, block, BecomesBy}
use Rattle.pcap_keys.proofs.BlockRuns.{Left, left_start, left_end, left_next, bad_read}
use Rattle.pcap_keys.proofs.reading.read_sections.Goals as goal

pub file-init : goal.file-init
file-init c = subst (λ (z : Reading). Left c.args.text.now 0 z (sections c.args.text.now)) (sym c.new-reading.ensures) (left_start _)

pub returns-in-Err : goal.returns-in-Err
returns-in-Err c =
    bad_read _ _ _ _ _ _ c.file.invariant c.file-test.true (subst (λ (z : List ℕ). BecomesBy (Err c.in-Err.e) c.read_block.new.self (block c.file.place z c.file.reading)) c.from_place.ensures c.in-Err.ensures.read)

pub file-preserved : goal.file-preserved
file-preserved c =
    let b : Ok (c.read_block.new.self, c.in-Ok.size) ≡ block c.file.place (drop c.file.place c.args.text.now) c.file.reading =
    subst (λ (z : List ℕ). BecomesBy (Ok c.in-Ok.size) c.read_block.new.self (block c.file.place z c.file.reading)) c.from_place.ensures c.in-Ok.ensures.read in
    left_next _ _ _ _ _ _ c.file.invariant c.file-test.true c.in-Ok.ensures.some b

pub returns : goal.returns
returns c = left_end _ _ _ _ c.file.invariant c.file-test.false
