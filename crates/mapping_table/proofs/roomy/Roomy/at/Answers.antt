use Rattle.std.proofs.Common.{refl, ◌∙◌, ap, ◌-◌, ◌*◌, ◌%◌, length, get_or, arith}
use Rattle.shared_pages.proofs.PageLaws.{items-length, read-page, read-last}
use Rattle.std.proofs.lemmas.Option.{slice_get_read}
use Rattle.mapping_table.proofs.roomy.Roomy.at.Goals as goal

pub index-requires : goal.index-requires
index-requires g c =
    let len = items-length c.self.inside.whole.items c.self.inside.rest.items c.self.invariant.whole in
    let e = ap (λ v. length v.items) c.self.view_is in
    omega arith

pub returns-then-page-len : goal.returns-then-page-len
returns-then-page-len g c =
    let e = ap (λ v. v.items) c.self.view_is in
    rw (← e) (read-page c.self.inside.whole.items c.self.inside.rest.items c.args.i c.index-items.result.now c.index-as_slice-i.result c.self.invariant.whole (omega arith)
    (c.index-as_slice-i.is ∙ ap (λ xs. get_or xs (c.args.i % 512) c.index-as_slice-i.result) (c.as_slice.ensures ∙ ap (λ page. page.items) c.index-items.ensures)))

pub returns-else-page-len : goal.returns-else-page-len
returns-else-page-len g c =
    let len = items-length c.self.inside.whole.items c.self.inside.rest.items c.self.invariant.whole in
    let n = ap (λ v. length v.items) c.self.view_is in
    let e = ap (λ v. v.items) c.self.view_is in
    rw (← e) (read-last c.self.inside.whole.items c.self.inside.rest.items c.args.i c.index.result.now c.self.invariant.whole (omega arith)
    (slice_get_read c.self.inside.rest.items (length c.self.inside.rest.items) (c.args.i - 512 * length c.self.inside.whole.items) c.index.result.now refl (omega arith)
    (c.index.ensures ∙ ap (λ n. get_or c.self.inside.rest.items (c.args.i - 512 * n) c.index.result.now) (omega arith))))
