use Rattle.std.proofs.Common.{◌-◌, ◌/◌, arith}
use Rattle.bit_rows.proofs.Bits.{bit-zero}
use Rattle.lookup_table.proofs.WordLaws.{some-group, word-all}
use Rattle.lookup_table.proofs.table.FieldTable.match_word.Goals as goal

pub returns-then-i-div_ceil-clause-held : goal.returns-then-i-div_ceil-clause-held
returns-then-i-div_ceil-clause-held c = λ blocks stands k h r. absurd (omega arith)

pub returns-then-i-div_ceil-clause-past : goal.returns-then-i-div_ceil-clause-past
returns-then-i-div_ceil-clause-past c = λ k h r. bit-zero k

pub returns-clause-held : goal.returns-clause-held
returns-clause-held c = λ blocks stands.
    let t = c.args.self.now in
    word-all t.width t.bits t.rules c.args.value (t.bits / t.width - 0) c.args.i t.buckets.rows c.args.word c.match_before.result blocks t.shaped.groups (omega arith) c.requires stands
    record { at = c.match_before.ensures.kept; past = c.match_before.ensures.past }

pub returns-clause-past : goal.returns-clause-past
returns-clause-past c = λ k h r.
    c.match_before.ensures.past (omega (arith, some-group c.args.self.now.width c.args.self.now.bits c.args.self.now.shaped.groups)) k h r
