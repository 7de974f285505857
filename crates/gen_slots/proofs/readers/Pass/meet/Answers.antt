use Rattle.std.proofs.Common.{rules, ap, ◌∙◌, sym, subst}
use Rattle.gen_slots.specs.SlotSteps.{IsLearner}
use Rattle.gen_slots.proofs.NoteSteps.{meets, learns}
use Rattle.gen_slots.proofs.readers.Pass.meet.Goals as goal

pub join_seat-requires : goal.join_seat-requires
join_seat-requires g c = (search rules, search rules, search rules, search rules, meets g.T.Version.state g.T.Version.follows _ _ _ _ _)

pub load-requires : goal.load-requires
load-requires g c = (search rules, search rules, learns g.T.Version.state g.T.Version.follows _ _ _ _ (subst (IsLearner {X = g.row.T-State.Denot}) (sym (ap (λ m. m.0.role) c.join_seat.ensures.2 ∙ c.self.invariant.3)) tt))
