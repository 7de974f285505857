use Rattle.std.proofs.Common.{rules, ap, ◌∙◌, sym, subst}
use Rattle.std.specs.Arc.{arc_value}
use Rattle.gen_slots.specs.SlotSteps.{IsLearner}
use Rattle.gen_slots.specs.SlotViews.{checks_of, states_of}
use Rattle.gen_slots.proofs.NoteSteps.{meets, learns}
use Rattle.gen_slots.proofs.publisher.Writer.hear.Goals as goal

pub join_seat-requires : goal.join_seat-requires
join_seat-requires g c = (search rules, search rules, search rules, search rules, meets g.T.Version.state g.T.Version.follows _ _ _ _ _)

pub load-requires : goal.load-requires
load-requires g c = (search rules, search rules, learns g.T.Version.state g.T.Version.follows _ _ _ _ (subst (IsLearner {X = g.row.T-State.Denot}) (sym (ap (λ m. m.0.role) c.join_seat.ensures.2 ∙ c.self.invariant.7.1)) tt))

pub returns-clause-same : goal.returns-clause-same
returns-clause-same g c = let joined = c.join_seat.ensures.2 in let role = ap (λ m. m.0.role) joined ∙ c.self.invariant.7.1 in let still = ap (λ m. m.0.role) c.load.ensures.2.0 ∙ ap (λ m. m.0.role) joined in let table = c.load.ensures.0 ∙ c.join_seat.ensures.0 in
    let same = c.load.ensures.2.3 _ role ∙ ap (λ m. m.0.seen) joined in (λ i. record { of = table i; made = same i; readers = c.self.inside.readers; start = (arc_value c.self.inside.board).shared.key.count; checks = checks_of (still i); published = c.self.inside.published; states = states_of (still i) }) ∙ c.self.view_is
