use Rattle.std.proofs.Common.{rules, ◌≡◌, ◌∷◌, Some, sym, ap, ◌∙◌, subst}
use Rattle.atomic_table.specs.Table.{rest}
use Rattle.log_turns.specs.LogRule.{HasTurns, most}
use Rattle.log_turns.specs.LogSteps.{Finds}
use Rattle.log_turns.proofs.Turns.{draws, looks}
use Rattle.log_turns.proofs.turn.take_turn.Goals as goal

pub fetch_add-ticket-requires : goal.fetch_add-ticket-requires
fetch_add-ticket-requires g c = (search rules, search rules, draws g.T.Logged.log g.T.Logged.base g.T.Logged.number g.T.Logged.clerk _ most _ _ _ c.requires.seat.0 c.requires.seat.1)

pub load-served-requires : goal.load-served-requires
load-served-requires g c = let i = c.loop.invariant in (search rules, search rules, looks g.T.Logged.log g.T.Logged.base g.T.Logged.number g.T.Logged.clerk _ most _ _ _ (subst HasTurns (sym (ap (λ m. m.0.role) i.1)) c.requires.seat.0) (ap (λ m. m.0.stage) i.1))

pub exchange-requires : goal.exchange-requires
exchange-requires g c = let i = c.loop.invariant in let got = c.load-served.ensures.2.0 (c.if-served-ticket.true ∙ sym (ap (λ m. m.0.ticket) i.1)) in (search rules, (Some got.0, ap (λ m. m.1) got.1 ∙ ap (λ cs. (0, Some got.0) ∷ cs) (sym (ap rest (ap (λ m. m.1) got.1)))))

pub returns-then-served-ticket-clause-finds : goal.returns-then-served-ticket-clause-finds
returns-then-served-ticket-clause-finds g c = let i = c.loop.invariant in let got = c.load-served.ensures.2.0 (c.if-served-ticket.true ∙ sym (ap (λ m. m.0.ticket) i.1)) in
    let same : got.0 ≡ c.unwrap-value.result = search rules in let F = Finds g.T.Logged.log g.T.Logged.base g.T.Logged.number g.T.Logged.clerk most in let found = subst (λ m. F m.0 got.0) i.1 got.2 in
    subst (F c.args.place.now.me.0) same record { begins = found.begins; based = found.based; room = found.room; keeps = found.keeps; named = found.named }
