use Rattle.std.proofs.Common.{◌∙◌, ap, ◌+◌, ◌-◌, ◌*◌, ◌/◌, ◌%◌, length, arith}
use Rattle.std.proofs.lemmas.List.Edits.{length-remove}
use Rattle.shared_pages.proofs.PageLaws.{items-length, last-out, page-out, own-read}
use Rattle.shared_pages.proofs.pages.take_out.Goals as goal

pub remove-requires-clause-place : goal.remove-requires-clause-place
remove-requires-clause-place g c =
    let len = items-length c.args.whole.now.items c.args.last.now.items c.requires.whole in
    omega (arith, c.requires.place)

pub returns-then-page-count-clause-item : goal.returns-then-page-count-clause-item
returns-then-page-count-clause-item g c =
    last-out c.args.whole.now.items c.args.last.now.items c.remove.new.self.items c.args.i (c.args.i - 512 * c.len-count.result) c.remove.result c.requires.whole (omega arith) c.remove.ensures.item c.remove.ensures.others

pub returns-then-page-count-clause-less : goal.returns-then-page-count-clause-less
returns-then-page-count-clause-less g c =
    let len = items-length c.args.whole.now.items c.args.last.now.items c.requires.whole in
    ap (λ xs. length xs + 1) c.remove.ensures.others ∙ length-remove c.args.last.now.items (c.args.i - 512 * c.len-count.result) (omega (arith, c.requires.place))

pub pass-requires-clause-own : goal.pass-requires-clause-own
pass-requires-clause-own g c =
    ap (λ page. page.own) c.index_mut-items.ensures.value
    ∙ own-read c.take_behind-next.new.whole.items (c.args.i / 512) c.index_mut-items.result.now (omega (arith, c.take_behind-next.ensures.count)) (c.take_behind-next.ensures.own.own (c.args.i / 512) (omega arith))

pub returns-clause-item : goal.returns-clause-item
returns-clause-item g c =
    page-out c.take_behind-next.new.whole.items c.take_behind-next.new.last.items (c.args.i / 512) (c.args.i % 512) c.args.i (512 * (c.args.i / 512) + 512) c.index_mut-items.result.now c.pass.new.self
    c.take_behind-next.result c.pass.result c.take_behind-next.ensures.whole (omega (arith, c.take_behind-next.ensures.count)) (omega arith) (omega arith) (omega arith) c.index_mut-items.ensures.value c.pass.ensures.item c.pass.ensures.others
    ∙ c.take_behind-next.ensures.item
