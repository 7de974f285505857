use Rattle.std.proofs.Common.{rules, arith, ◌≡◌, ◌++◌, ◌∷◌, [], sym, ap, ◌∙◌, subst}
use Rattle.std.specs.Arc.{arc_value}
use Rattle.history_laws.specs.States.{AllShow}
use Rattle.set_space.specs.Open.{opened, sealed}
use Rattle.gen_publish.specs.Publish.{IsSteered, after_commit}
use Rattle.gen_publish.proofs.Growing.{shown_follows, next_long, steered_next}
use Rattle.gen_publish.proofs.control.Control.commit_counted.Goals as goal

pub publish-requires-clause-next : goal.publish-requires-clause-next
publish-requires-clause-next g c =
    let next : arc_value c.in_ok-sealed.sealed ≡ sealed c.self.inside.work c.args.now = search rules in
    let berths = c.in_ok-berths.ensures in let count = berths.0 in let some = c.self.invariant.2 in
    let shown = subst (λ z. AllShow (λ b. arc_value b.generation) z c.in_ok-berths.berths.items) next berths.1 in
    λ x y shows last. shown_follows _ _ _ c.self.invariant.0 c.args.now (λ b. arc_value b.generation) _ x y (omega (arith, count, some)) (search (rules, shown)) shows last

pub adopt-requires : goal.adopt-requires
adopt-requires g c = let long = next_long _ _ _ c.self.invariant.0 c.args.now in search rules

pub invariant_of-self-2 : goal.invariant_of-self-2
invariant_of-self-2 g c =
    let next : arc_value c.in_ok-sealed.sealed ≡ sealed c.self.inside.work c.args.now = search rules in
    let shown = subst (λ z. AllShow (λ b. arc_value b.generation) z c.in_ok-berths.berths.items) next c.in_ok-berths.ensures.1 in
    let wrote = c.publish.ensures.made (sealed c.self.inside.work c.args.now) (search (rules, shown)) in
    let work : c.adopt.new.self ≡ opened (sealed c.self.inside.work c.args.now) = search rules in (
      subst (λ z. IsSteered (arc_value c.self.inside.schema) z c.adopt.new.self) (sym (ap (λ v. v.made) wrote))
          (subst (IsSteered (arc_value c.self.inside.schema) (c.self.inside.writer.made ++ sealed c.self.inside.work c.args.now ∷ [])) (sym work) (steered_next _ _ _ c.self.invariant.0 c.args.now)),
      search rules,
      c.self.invariant.2,
    )

pub returns-clause-ok : goal.returns-clause-ok
returns-clause-ok g c =
    let next : arc_value c.in_ok-sealed.sealed ≡ sealed c.self.inside.work c.args.now = search rules in
    let shown = subst (λ z. AllShow (λ b. arc_value b.generation) z c.in_ok-berths.berths.items) next c.in_ok-berths.ensures.1 in
    let wrote = c.publish.ensures.made (sealed c.self.inside.work c.args.now) (search (rules, shown)) in
    let work : c.adopt.new.self ≡ opened (sealed c.self.inside.work c.args.now) = search rules in (
      (λ i. record { of = (wrote i).of; schema = arc_value c.self.inside.schema; readers = (wrote i).readers; committed = (wrote i).made; work = work i }) ∙ ap (λ v. after_commit v c.args.now) c.self.view_is,
      search rules,
      search rules,
    )
