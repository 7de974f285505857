use Rattle.std.proofs.Common.{◌∙◌, ap, ◌-◌, ◌*◌, ◌%◌, length, get_or, refl, arith}
use Rattle.std.proofs.lemmas.Option.{slice_get_read}
use Rattle.shared_pages.proofs.PageLaws.{items-length, read-page, read-last}
use Rattle.shared_pages.proofs.pages.Pages.at.Goals as goal

pub offset_bounds-as_slice-i-else-page-len : goal.offset_bounds-as_slice-i-else-page-len
offset_bounds-as_slice-i-else-page-len g c =
    let len = items-length c.self.inside.whole.items c.self.inside.last.items c.self.invariant.whole in
    let e = ap length c.self.view_is in
    let f = ap length c.as_slice-else-page-len.ensures in
    omega arith

pub bounds-as_slice-i-else-page-len : goal.bounds-as_slice-i-else-page-len
bounds-as_slice-i-else-page-len g c =
    let len = items-length c.self.inside.whole.items c.self.inside.last.items c.self.invariant.whole in
    let e = ap length c.self.view_is in
    let f = ap length c.as_slice-else-page-len.ensures in
    omega arith

pub returns-then-page-len : goal.returns-then-page-len
returns-then-page-len g c =
    rw (← c.self.view_is) (read-page c.self.inside.whole.items c.self.inside.last.items c.args.i c.index-items.result.now c.index-as_slice-i.result c.self.invariant.whole (omega arith)
    (c.index-as_slice-i.is ∙ ap (λ xs. get_or xs (c.args.i % 512) c.index-as_slice-i.result) (c.as_slice.ensures ∙ ap (λ page. page.items) c.index-items.ensures)))

pub returns-else-page-len : goal.returns-else-page-len
returns-else-page-len g c =
    let len = items-length c.self.inside.whole.items c.self.inside.last.items c.self.invariant.whole in
    let n = ap length c.self.view_is in
    rw (← c.self.view_is) (read-last c.self.inside.whole.items c.self.inside.last.items c.args.i c.index-as_slice-i-else-page-len.result c.self.invariant.whole (omega arith)
    (slice_get_read c.self.inside.last.items (length c.self.inside.last.items) (c.args.i - 512 * length c.self.inside.whole.items) c.index-as_slice-i-else-page-len.result refl (omega arith)
    (c.index-as_slice-i-else-page-len.is ∙ ap (λ xs. get_or xs (c.args.i - 512 * c.len-else-page-len.result) c.index-as_slice-i-else-page-len.result) c.as_slice-else-page-len.ensures
    ∙ ap (λ n. get_or c.self.inside.last.items (c.args.i - 512 * n) c.index-as_slice-i-else-page-len.result) (omega arith))))
