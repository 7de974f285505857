use Rattle.std.proofs.Common.{◌≡◌, refl, ◌∙◌, ap, subst, ◌+◌, List, [], ◌∷◌, ◌++◌, take, drop, get_or}
use Rattle.atomic_table.specs.Seated.{TableId}
use Rattle.set_model.specs.declared.script.SetDecl.{SetDecl}
use Rattle.set_model.specs.Control.{Generation}
use Rattle.control_desk.specs.Turns.{Seated, newcomer, IsOpened}
use Rattle.reader_tests.proofs.desks.two_clerks.Goals as goal

-- The two control threads of a desk, taken from its front one after the other.
two_taken : (of : TableId) (schema : List SetDecl) (base : List Generation) (clerks behind : List Seated) (one two : Seated) → IsOpened of schema base 2 2 clerks → one ≡ get_or clerks 0 one → behind ≡ take 0 clerks ++ drop (0 + 1) clerks → two ≡ get_or behind 0 two → (one ≡ newcomer of schema base 2 1 2) × (two ≡ newcomer of schema base 2 2 2)
two_taken of schema base [] behind one two opened first rest second = absurd (cc opened.size)
two_taken of schema base (a ∷ []) behind one two opened first rest second = absurd (cc opened.size)
two_taken of schema base (a ∷ b ∷ others) behind one two opened first rest second =
    (first ∙ opened.each 0 a refl, subst (λ z. two ≡ get_or z 0 two) rest second ∙ opened.each 1 b refl)

pub returns-clause-left : goal.returns-clause-left
returns-clause-left c =
    let desk = c.in_ok-clerks.ensures in
    let are = two_taken desk.0 c.in_ok-control.control.schema c.in_ok-control.control.committed c.in_ok-clerks.clerks.items c.remove-one.new.self.items c.remove-one.result c.remove-two.result desk.1 c.remove-one.ensures.value c.remove-one.ensures.by_index.2 c.remove-two.ensures.value in
    (ap (λ (s : Seated). s.left) are.0, ap (λ (s : Seated). s.left) are.1)

pub returns-clause-schema : goal.returns-clause-schema
returns-clause-schema c =
    let desk = c.in_ok-clerks.ensures in
    let are = two_taken desk.0 c.in_ok-control.control.schema c.in_ok-control.control.committed c.in_ok-clerks.clerks.items c.remove-one.new.self.items c.remove-one.result c.remove-two.result desk.1 c.remove-one.ensures.value c.remove-one.ensures.by_index.2 c.remove-two.ensures.value in
    (ap (λ (s : Seated). s.schema) are.0 ∙ c.in_ok-control.ensures.control.0, ap (λ (s : Seated). s.schema) are.1 ∙ c.in_ok-control.ensures.control.0)
