use Rattle.std.proofs.Common.{refl, ◌∙◌, ap, ◌+◌, ◌*◌, ◌&&◌, arith, false}
use Rattle.bit_rows.specs.Row.{bit}
use Rattle.std.proofs.lemmas.List.{get_or_past}
use Rattle.bit_rows.proofs.Bits.{bit-and}
use Rattle.bit_rows.proofs.Tests.{both-same}
use Rattle.lookup_table.proofs.WriteLaws.{merged-none, merged-more, merged-both, cell-bit}
use Rattle.lookup_table.proofs.lines.Lines.and_into.Goals as goal

pub put_word-requires-clause-within : goal.put_word-requires-clause-within
put_word-requires-clause-within c = λ k h past.
    bit-and c.word.result c.word-in-words.result k ∙ ap (λ t. t && bit c.word-in-words.result k) (c.word.ensures k h ∙ get_or_past c.words.row.bits (64 * c.words.i + k) false past)

pub words-init : goal.words-init
words-init c = record { merged = merged-none _ _ _; spare = refl }

pub words-preserved : goal.words-preserved
words-preserved c = record {
  merged = merged-more (λ p q. p && q) _ _ c.words.i _ c.words.row c.put_word.new.self
      (λ k h. bit-and c.word.result c.word-in-words.result k ∙ both-same (c.word.ensures k h) (c.word-in-words.ensures k h ∙ cell-bit c.args.self.now.rows c.args.j (64 * c.words.i + k))) c.put_word.ensures.bits c.words.invariant.merged;
  spare = c.put_word.ensures.spare ∙ c.words.invariant.spare;
}

pub returns-clause-bits : goal.returns-clause-bits
returns-clause-bits c = merged-both _ _ c.words.i c.words.row c.requires.length (omega arith) c.words.invariant.merged
