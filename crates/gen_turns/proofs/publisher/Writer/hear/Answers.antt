use Rattle.std.proofs.Common.{rules, ap, ◌∙◌, sym, subst}
use Rattle.gen_turns.specs.TurnViews.{IsWriterRole}
use Rattle.gen_turns.proofs.NoteSteps.{meets, learns}
use Rattle.gen_turns.proofs.publisher.Writer.hear.Goals as goal

pub join_seat-requires : goal.join_seat-requires
join_seat-requires g c = (search rules, search rules, search rules, search rules, meets g.T.Version.state g.T.Version.follows _ _ _ _ (search rules))

pub load-requires : goal.load-requires
load-requires g c = (search rules, search rules, learns g.T.Version.state g.T.Version.follows _ _ _)

pub invariant_of-self : goal.invariant_of-self
invariant_of-self g c = let inv = c.self.invariant in let now = c.load.ensures.2.0 in let joined = c.join_seat.ensures.2 in (
  c.load.ensures.0 ∙ (c.join_seat.ensures.0 ∙ inv.0),
  (search rules, search rules),
  subst IsWriterRole (sym (ap (λ m. m.0.role) now ∙ ap (λ m. m.0.role) joined)) inv.2,
  ap (λ m. m.0.stage) now ∙ (ap (λ m. m.0.stage) joined ∙ inv.3),
  ap (λ m. m.1) now ∙ (ap (λ m. m.1) joined ∙ inv.4),
  c.load.ensures.2.4,
)
