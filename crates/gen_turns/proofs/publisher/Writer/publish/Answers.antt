use Rattle.std.proofs.Common.{rules, ap, ◌∙◌, sym, subst}
use Rattle.gen_turns.specs.TurnViews.{IsWriterRole}
use Rattle.gen_turns.proofs.publisher.Writer.publish.Goals as goal

pub end_turn-requires-clause-seat : goal.end_turn-requires-clause-seat
end_turn-requires-clause-seat g c = let turn = c.take_turn-ticket.ensures.seat in (subst IsWriterRole (sym (ap (λ m. m.0.role) turn.1)) c.self.invariant.2, ap (λ m. m.0.stage) turn.1, ap (λ m. m.0.ticket) turn.1, ap (λ m. m.1) turn.1)

pub invariant_of-self : goal.invariant_of-self
invariant_of-self g c = let inv = c.self.invariant in let turn = c.take_turn-ticket.ensures.seat in let asked = c.requires.values in
    let shows = asked.1.1 in let same = c.replace-values.ensures.value in
    let end = c.end_turn.ensures.seat asked.1.0 (search rules) in (
      c.end_turn.ensures.table ∙ (c.take_turn-ticket.ensures.table ∙ inv.0),
      (search rules, search rules),
      subst IsWriterRole (sym (ap (λ m. m.0.role) end ∙ ap (λ m. m.0.role) turn.1)) inv.2,
      ap (λ m. m.0.stage) end,
      ap (λ m. m.1) end,
      c.end_turn.ensures.chain,
    )
