use Rattle.std.proofs.Common.{◌≡◌, sym, ◌∙◌, ap, ◌-◌, ◌*◌, ◌/◌, ◌%◌, length, get_or, true, arith}
use Rattle.shared_pages.proofs.PageLaws.{items-length, set-page, last-set, own-read, own-same}
use Rattle.std.proofs.Math.ListN.{set}
use Rattle.shared_pages.specs.Paged.{items_in}
use Rattle.mapping_table.proofs.roomy.Roomy.set.Goals as goal

pub index_mut-requires : goal.index_mut-requires
index_mut-requires g c =
    let len = items-length c.self.inside.whole.items c.self.inside.rest.items c.self.invariant.whole in
    let e = ap (λ v. length v.items) c.self.view_is in
    omega (arith, c.requires.place)

pub put-requires-clause-own : goal.put-requires-clause-own
put-requires-clause-own g c =
    let e = ap (λ v. v.own) c.self.view_is in
    ap (λ page. page.own) c.index_mut-items.ensures.value
    ∙ own-read c.self.inside.whole.items (c.args.i / 512) c.index_mut-items.result.now (omega arith) (ap (λ os. get_or os (c.args.i / 512) true) e ∙ c.requires.own.own c.args.i (omega arith) (omega arith))

pub returns-then-page-count-clause-items : goal.returns-then-page-count-clause-items
returns-then-page-count-clause-items g c =
    let e = ap (λ v. v.items) c.self.view_is in
    rw (← e) (set-page c.self.inside.whole.items c.self.inside.rest.items c.args.i c.index_mut-items.result.now c.put.new.self c.args.item c.self.invariant.whole (omega arith)
    (c.put.ensures.items ∙ ap (λ page. set page.items (c.args.i % 512) c.args.item) c.index_mut-items.ensures.value))

pub returns-then-page-count-clause-own : goal.returns-then-page-count-clause-own
returns-then-page-count-clause-own g c =
    let e = ap (λ v. v.own) c.self.view_is in
    let was : c.index_mut-items.result.now.own ≡ true =
    ap (λ page. page.own) c.index_mut-items.ensures.value
    ∙ own-read c.self.inside.whole.items (c.args.i / 512) c.index_mut-items.result.now (omega arith) (ap (λ os. get_or os (c.args.i / 512) true) e ∙ c.requires.own.own c.args.i (omega arith) (omega arith)) in
    own-same c.self.inside.whole.items (c.args.i / 512) c.index_mut-items.result.now c.put.new.self c.index_mut-items.ensures.value (c.put.ensures.own ∙ sym was) ∙ e

pub returns-else-page-count-clause-items : goal.returns-else-page-count-clause-items
returns-else-page-count-clause-items g c =
    let e = ap (λ v. v.items) c.self.view_is in
    rw (← e) (ap (λ n. items_in c.self.inside.whole.items (set c.self.inside.rest.items (c.args.i - 512 * n) c.args.item)) (omega arith)
    ∙ last-set c.self.inside.whole.items c.self.inside.rest.items c.args.i c.args.item c.self.invariant.whole (omega arith))
