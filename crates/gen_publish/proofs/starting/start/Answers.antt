use Rattle.std.proofs.Common.{rules, ◌≡◌, ◌∷◌, [], ap, ◌∙◌}
use Rattle.std.specs.Arc.{arc_value}
use Rattle.set_model.specs.Control.{first_generation}
use Rattle.gen_publish.proofs.Growing.{new_seen, fresh_as, first_steered}
use Rattle.gen_publish.proofs.starting.start.Goals as goal

pub seat-requires : goal.seat-requires
seat-requires c =
    let first : arc_value c.in_ok-first-2.first ≡ first_generation (arc_value c.in_ok-schema.schema) = search rules in
    let made = c.in_ok-writer.ensures.writer.2 _ c.in_ok-first_berths.ensures.1 ∙ ap (λ g. g ∷ []) first in
    new_seen _ _ _ 0 _ made c.in_ok-writer.ensures.passes.1

pub seated-requires-clause-steered : goal.seated-requires-clause-steered
seated-requires-clause-steered c =
    let first : arc_value c.in_ok-first-2.first ≡ first_generation (arc_value c.in_ok-schema.schema) = search rules in
    let made = c.in_ok-writer.ensures.writer.2 _ c.in_ok-first_berths.ensures.1 ∙ ap (λ g. g ∷ []) first in
    first_steered _ _ _ made (search rules)

pub returns-clause-control : goal.returns-clause-control
returns-clause-control c =
    let first : arc_value c.in_ok-first-2.first ≡ first_generation c.args.schema = search rules in
    let made = c.in_ok-writer.ensures.writer.2 _ c.in_ok-first_berths.ensures.1 in
    (search rules, search rules, ap (λ x. x.committed) c.seated.ensures ∙ (made ∙ ap (λ g. g ∷ []) first), search rules)

pub returns-clause-readers : goal.returns-clause-readers
returns-clause-readers c =
    let schema : arc_value c.in_ok-schema.schema ≡ c.args.schema = search rules in
    let first : arc_value c.in_ok-first-2.first ≡ first_generation c.args.schema = search rules in
    let made = c.in_ok-writer.ensures.writer.2 _ c.in_ok-first_berths.ensures.1 ∙ ap (λ g. g ∷ []) first in
    let of : c.in_ok-writer.writer.of ≡ c.seated.result.of = search rules in
    let readers = fresh_as _ _ _ _ _ _ _ _ of schema made c.in_ok-seated.ensures c.in_ok-writer.ensures.passes.1 in
    (readers.0 ∙ (c.in_ok-writer.ensures.passes.0 ∙ c.in_ok-first_berths.ensures.0), readers.1)
