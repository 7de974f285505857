use Rattle.std.proofs.Common.{rules, ◌∷◌, Some, sym, ap, ◌∙◌, subst}
use Rattle.atomic_table.specs.Table.{rest}
use Rattle.gen_turns.specs.TurnRule.{HasTurns}
use Rattle.gen_turns.proofs.TakingTurns.{draws, looks}
use Rattle.gen_turns.proofs.turn.take_turn.Goals as goal

pub fetch_add-ticket-requires : goal.fetch_add-ticket-requires
fetch_add-ticket-requires g c = (search rules, search rules, draws g.T.Version.state g.T.Version.follows _ _ _ c.requires.seat.0 c.requires.seat.1)

pub load-requires : goal.load-requires
load-requires g c = let i = c.loop.invariant in (search rules, search rules, looks g.T.Version.state g.T.Version.follows _ _ _ (subst HasTurns (sym (ap (λ m. m.0.role) i.1)) c.requires.seat.0) (ap (λ m. m.0.stage) i.1))

pub exchange-requires : goal.exchange-requires
exchange-requires g c = let i = c.loop.invariant in let got = c.load.ensures.2.0 (c.if-load-ticket.true ∙ sym (ap (λ m. m.0.ticket) i.1)) in (search rules, (Some got.0, ap (λ m. m.1) got.2 ∙ ap (λ cs. (0, Some got.0) ∷ cs) (sym (ap rest (ap (λ m. m.1) got.2)))))
