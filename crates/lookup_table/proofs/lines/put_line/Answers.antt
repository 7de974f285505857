use Rattle.std.proofs.Common.{◌∙◌, ap, ◌<◌, ◌≡◌, ◌*◌, ◌/◌, length, get_or, true, arith, refl}
use Rattle.lookup_table.specs.Lines.{words_at}
use Rattle.lookup_table.proofs.LineLaws.{bit-length}
use Rattle.lookup_table.proofs.WriteLaws.{put-none, put-more, put-all}
use Rattle.lookup_table.proofs.lines.put_line.Goals as goal

pub write_word-requires-clause-own : goal.write_word-requires-clause-own
write_word-requires-clause-own c = ap (λ os. get_or os (c.words.i / 8) true) c.words.invariant.put.alike.own ∙ c.requires.own (c.words.i / 8) (omega arith)

pub write_word-requires-clause-word : goal.write_word-requires-clause-word
write_word-requires-clause-word c =
    let within : c.words.i / 8 < length c.args.pages.now.items = omega (arith, c.requires.places) in
    let size : length (words_at c.words.pages.items (c.words.i / 8)) ≡ c.args.count * 8 = c.words.invariant.put.alike.sizes (c.words.i / 8) ∙ bit-length c.args.pages.now.items c.args.count (c.words.i / 8) c.requires.lines within in
    let line : c.args.j < c.args.count = c.requires.line in
    omega arith

pub words-init : goal.words-init
words-init c = record { put = put-none _ _ _ _; room = refl }

pub words-preserved : goal.words-preserved
words-preserved c = record { put = put-more c.args.count c.args.j c.words.i c.word.result c.args.row.now.bits _ _ _ c.requires.line c.word.ensures c.write_word.ensures.written c.words.invariant.put; room = c.write_word.ensures.room ∙ c.words.invariant.room }

pub returns-clause-put : goal.returns-clause-put
returns-clause-put c = put-all _ _ c.words.i _ _ _ (omega arith) c.words.invariant.put
