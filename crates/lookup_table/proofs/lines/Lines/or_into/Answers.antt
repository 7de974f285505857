use Rattle.std.proofs.Common.{refl, ◌∙◌, ap, ◌+◌, ◌*◌, ◌||◌, arith, false}
use Rattle.bit_rows.specs.Row.{bit}
use Rattle.lookup_table.specs.Table.{bucket_at}
use Rattle.std.proofs.lemmas.List.{get_or_past}
use Rattle.bit_rows.proofs.Bits.{bit-or}
use Rattle.bit_rows.proofs.Tests.{either-same}
use Rattle.lookup_table.proofs.WriteLaws.{merged-none, merged-more, merged-either, cell-bit}
use Rattle.lookup_table.proofs.lines.Lines.or_into.Goals as goal

pub put_word-requires-clause-within : goal.put_word-requires-clause-within
put_word-requires-clause-within c = λ k h past.
    let long = c.words.invariant.merged.long in
    bit-or c.word.result c.word-in-words.result k ∙ ap (λ t. t || bit c.word-in-words.result k) (c.word.ensures k h ∙ get_or_past c.words.row.bits (64 * c.words.i + k) false past)
    ∙ c.word-in-words.ensures k h ∙ cell-bit c.args.self.now.rows c.args.j (64 * c.words.i + k) ∙ get_or_past (bucket_at c.args.self.now.rows c.args.j).bits (64 * c.words.i + k) false (omega (arith, c.requires.length))

pub words-init : goal.words-init
words-init c = record { merged = merged-none _ _ _; spare = refl }

pub words-preserved : goal.words-preserved
words-preserved c = record {
  merged = merged-more (λ p q. p || q) _ _ c.words.i _ c.words.row c.put_word.new.self
      (λ k h. bit-or c.word.result c.word-in-words.result k ∙ either-same (c.word.ensures k h) (c.word-in-words.ensures k h ∙ cell-bit c.args.self.now.rows c.args.j (64 * c.words.i + k))) c.put_word.ensures.bits c.words.invariant.merged;
  spare = c.put_word.ensures.spare ∙ c.words.invariant.spare;
}

pub returns-clause-bits : goal.returns-clause-bits
returns-clause-bits c = merged-either _ _ c.words.i c.words.row c.requires.length (omega arith) c.words.invariant.merged
