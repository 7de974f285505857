use Rattle.std.proofs.Common.{◌∙◌, refl, arith}
use Rattle.bit_rows.specs.Row.{IsNextSet}
use Rattle.set_model.specs.Blocks.{blocks}
use Rattle.set_tables.specs.Sharing.{shares_some}
use Rattle.pipapo_image.proofs.SharingRows.{shared-none, shared-word, shared-all}
use Rattle.pipapo_image.proofs.index.sharing.share_words.Goals as goal

pub words-init : goal.words-init
words-init c = record { shared = shared-none c.args.table.now _ c.args.row.now.bits; within = omega arith; whole = refl; spare = refl }

pub words-preserved : goal.words-preserved
words-preserved c =
    let inv = c.words.invariant in
    let next : IsNextSet c.words.row.bits c.words.from c.in-Some.r = c.in-Some.ensures in
    record {
      shared = shared-word c.args.table.now (shares_some (blocks c.args.part.low c.args.part.high c.args.table.now.bits)) c.words.from c.in-Some.r c.word-word.result c.share_word.result c.args.row.now.bits c.words.row.bits
          c.put_word.new.self.bits inv.whole next c.requires.length c.word-word.ensures c.share_word.ensures.shared c.put_word.ensures.bits inv.shared;
      within = omega (arith, next.within, inv.shared.long, c.requires.length);
      whole = omega arith;
      spare = c.put_word.ensures.spare ∙ inv.spare;
    }

pub returns-clause-bits : goal.returns-clause-bits
returns-clause-bits c = λ rules s.
    shared-all c.args.table.now _ c.words.from c.args.row.now.bits c.words.row.bits rules s c.requires.length c.in_default.ensures c.words.invariant.shared
