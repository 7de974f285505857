use Rattle.std.proofs.Common.{◌≡◌, ◌/◌, arith}
use Rattle.bit_rows.proofs.Bits.{bit-zero}
use Rattle.lookup_table.proofs.ShareLaws.{word_shared-none, word_shared-more, word_shared-all, word_shared-early}
use Rattle.lookup_table.proofs.table.FieldTable.share_word.Goals as goal

pub groups-init : goal.groups-init
groups-init c = word_shared-none _ _ _ _ _ _ _

pub groups-preserved : goal.groups-preserved
groups-preserved c =
    let t = c.args.self.now in
    word_shared-more t.width t.bits t.rules c.groups.g c.args.i c.args.block t.buckets.rows c.args.word c.groups.left c.meeting_word-left.result c.meeting_word-left.ensures c.groups.invariant

pub returns-then-left-eq0-clause-shared : goal.returns-then-left-eq0-clause-shared
returns-then-left-eq0-clause-shared c = λ blocks stands.
    let t = c.args.self.now in
    word_shared-early t.width t.bits t.rules c.groups.g c.args.i c.args.block t.buckets.rows c.args.word c.groups.left blocks t.shaped.groups (omega arith) c.requires.within c.if-left-eq0.true stands c.groups.invariant

pub returns-then-left-eq0-clause-fewer : goal.returns-then-left-eq0-clause-fewer
returns-then-left-eq0-clause-fewer c = λ k h e. bit-zero k

pub returns-clause-shared : goal.returns-clause-shared
returns-clause-shared c = λ blocks stands.
    let t = c.args.self.now in
    let all : c.groups.g ≡ t.bits / t.width = omega arith in
    word_shared-all t.width t.bits t.rules c.groups.g c.args.i c.args.block t.buckets.rows c.args.word c.groups.left blocks t.shaped.groups all c.requires.within stands c.groups.invariant

pub returns-clause-fewer : goal.returns-clause-fewer
returns-clause-fewer c = λ k h e. c.groups.invariant.fewer k e
