-- All words of a field's rules: what they refill, and where they lead.
use Rattle.std.proofs.Common.{◌≡◌, sym, ◌∙◌, ℕ, ◌*◌, ◌≤◌, Bool, true, List, length, None, arith}
use Rattle.std.specs.Prelude.{replicate}
use Rattle.std.proofs.lemmas.List.{length-replicate}
use Rattle.set_model.specs.declared.block.Block.{Block}
use Rattle.set_tables.specs.declared.End.{End}
use Rattle.set_tables.specs.declared.Span.{Span}
use Rattle.set_tables.specs.Rows.{matched}
use Rattle.lookup_table.specs.declared.table.FieldTable.{FieldTable}
use Rattle.lookup_table.specs.Rules.{Stands}
use Rattle.fused_lookup.specs.Filled.{IsClear, Refills, RefillsWords}
use Rattle.fused_lookup.specs.Led.{Leads, LeadsWords}
use Rattle.fused_lookup.proofs.FillLaws.{filled-none, filled-all}
use Rattle.fused_lookup.proofs.LedLaws.{nowhere-none, nowhere-all}
use Rattle.fused_lookup.proofs.MatchLaws.{length-left}

-- there are as many matched rules as there are rules
pub matched-length : (t : FieldTable) (test : Block → Bool) (blocks : List Block) (n : ℕ) → Stands t blocks → n ≡ t.rules → length (matched test blocks (replicate t.rules true)) ≡ n
matched-length t test blocks n s e =
    let ones = length-replicate t.rules true in
    let count = s.one_each in
    length-left test blocks (replicate t.rules true) (omega arith) ∙ count ∙ sym e

pub all-refilled : (t : FieldTable) (spans : List Span) (test : Block → Bool) (words : ℕ) (old new : List Bool) → length spans ≡ t.rules → t.rules ≤ 64 * words → IsClear old
    → RefillsWords t spans test 0 words old new → Refills t spans test (replicate t.rules true) new
all-refilled t spans test words old new rules past clear filled = λ blocks s.
    let m = matched test blocks (replicate t.rules true) in
    filled-all spans m (64 * words) new (matched-length t test blocks (length spans) s rules) (omega (arith, rules, past)) (filled blocks s (filled-none spans m old clear))

pub all-lead-nowhere : (t : FieldTable) (ends : List End) (test : Block → Bool) (words now : ℕ) → length ends ≡ t.rules → t.rules ≤ 64 * words
    → LeadsWords t ends test 0 words now None → Leads t ends test (replicate t.rules true) now None
all-lead-nowhere t ends test words now rules past nowhere = λ blocks s.
    let m = matched test blocks (replicate t.rules true) in
    nowhere-all ends m now (64 * words) (matched-length t test blocks (length ends) s rules) (omega (arith, rules, past)) (nowhere blocks s (nowhere-none ends m now))
