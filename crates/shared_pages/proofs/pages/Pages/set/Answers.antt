use Rattle.std.proofs.Common.{rules, ◌∙◌, ap, refl, ◌-◌, ◌*◌, ◌/◌, ◌%◌, length, arith}
use Rattle.std.proofs.Math.ListN.{set}
use Rattle.shared_pages.specs.Paged.{items_in}
use Rattle.shared_pages.proofs.PageLaws.{items-length, set-page, last-set, same-items, same-list}
use Rattle.shared_pages.proofs.pages.Pages.set.Goals as goal

pub set-requires-else-page-count : goal.set-requires-else-page-count
set-requires-else-page-count g c =
    let len = items-length c.self.inside.whole.items c.self.inside.last.items c.self.invariant.whole in
    let e = ap length c.self.view_is in
    omega arith

pub returns-in_err-set-clause-err : goal.returns-in_err-set-clause-err
returns-in_err-set-clause-err g c =
    let same = same-list (set c.self.inside.whole.items (c.args.i / 512) c.set.new.self) c.self.inside.whole.items c.self.inside.last.items c.self.inside.last.items
    (same-items c.self.inside.whole.items (c.args.i / 512) c.index_mut-items.result.now c.set.new.self c.index_mut-items.ensures.value c.in_err-set.ensures.err) refl ∙ c.self.view_is in
    search (rules, same)

pub returns-in_ok-set-clause-ok : goal.returns-in_ok-set-clause-ok
returns-in_ok-set-clause-ok g c =
    rw (← c.self.view_is) (set-page c.self.inside.whole.items c.self.inside.last.items c.args.i c.index_mut-items.result.now c.set.new.self c.args.item c.self.invariant.whole (omega arith)
    (c.in_ok-set.ensures.ok ∙ ap (λ page. set page.items (c.args.i % 512) c.args.item) c.index_mut-items.ensures.value))

pub returns-in_ok-set-2-clause-ok : goal.returns-in_ok-set-2-clause-ok
returns-in_ok-set-2-clause-ok g c =
    rw (← c.self.view_is) (ap (λ last. items_in c.self.inside.whole.items last) c.in_ok-set-2.ensures.ok
    ∙ ap (λ n. items_in c.self.inside.whole.items (set c.self.inside.last.items (c.args.i - 512 * n) c.args.item)) (omega arith)
    ∙ last-set c.self.inside.whole.items c.self.inside.last.items c.args.i c.args.item c.self.invariant.whole (omega arith))
