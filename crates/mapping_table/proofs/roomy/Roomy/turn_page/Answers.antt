use Rattle.std.proofs.Common.{◌≡◌, ◌∙◌, ap, ◌+◌, ◌/◌, [], ◌∷◌, ◌++◌, length, get_or, take, true, arith}
use Rattle.shared_pages.proofs.PageLaws.{sealed, own-pushed}
use Rattle.std.proofs.lemmas.List.{length-append, length-drop, length-take-le}
use Rattle.std.proofs.lemmas.List.Elements.{All-push}
use Rattle.shared_pages.specs.Paged.{items_in, owns_of, IsWhole}
use Rattle.mapping_table.proofs.roomy.Roomy.turn_page.Goals as goal

pub invariant_of-self-2 : goal.invariant_of-self-2
invariant_of-self-2 g c =
    let l : length c.in_ok-page.page.items ≡ 512 = ap length (c.in_ok-page.ensures.items ∙ ap (take 512) c.as_slice.ensures.value) ∙ length-take-le 512 c.self.inside.rest.items (omega arith) in
    let t : length c.drop_front.new.items.items + 512 ≡ length c.self.inside.rest.items = omega (arith, ap length c.drop_front.ensures.items, length-drop 512 c.self.inside.rest.items) in
    let p : length c.push.new.self.items ≡ length c.self.inside.whole.items + 1 = ap length c.in_ok-push.ensures.items ∙ length-append _ _ in
    record {
      whole = rw c.in_ok-push.ensures.items (All-push IsWhole c.self.inside.whole.items c.in_ok-page.page c.self.invariant.whole (record { whole = l }));
      within = omega arith;
      held = omega (arith, c.drop_front.ensures.capacity);
      counted = omega arith;
    }

pub returns-clause-items : goal.returns-clause-items
returns-clause-items g c =
    ap (λ pages. items_in pages c.drop_front.new.items.items) c.in_ok-push.ensures.items
    ∙ ap (λ t. items_in (c.self.inside.whole.items ++ c.in_ok-page.page ∷ []) t) c.drop_front.ensures.items
    ∙ sealed c.self.inside.whole.items c.in_ok-page.page c.self.inside.rest.items (c.in_ok-page.ensures.items ∙ ap (take 512) c.as_slice.ensures.value)
    ∙ ap (λ v. v.items) c.self.view_is

pub returns-clause-spare : goal.returns-clause-spare
returns-clause-spare g c =
    let e = ap (λ v. v.spare) c.self.view_is in
    let t : length c.drop_front.new.items.items + 512 ≡ length c.self.inside.rest.items = omega (arith, ap length c.drop_front.ensures.items, length-drop 512 c.self.inside.rest.items) in
    omega arith

pub returns-clause-own : goal.returns-clause-own
returns-clause-own g c =
    let e = ap (λ v. v.own) c.self.view_is in
    record {
      own = λ i h. ap (λ pages. get_or (owns_of pages) (i / 512) true) c.in_ok-push.ensures.items
          ∙ own-pushed c.self.inside.whole.items c.in_ok-page.page c.in_ok-page.ensures.own (i / 512) (ap (λ os. get_or os (i / 512) true) e ∙ h);
    }
