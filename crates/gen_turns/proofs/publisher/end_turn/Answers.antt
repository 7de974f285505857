use Rattle.std.proofs.Common.{rules, ◌∷◌, Some, ap, ◌∙◌, subst}
use Rattle.atomic_table.specs.Table.{rest}
use Rattle.history_laws.specs.Histories.{EndsWith}
use Rattle.gen_turns.specs.TurnViews.{readers_of}
use Rattle.gen_turns.proofs.EndingTurns.{publishes}
use Rattle.gen_turns.proofs.publisher.end_turn.Goals as goal

pub store-requires : goal.store-requires
store-requires g c = let was = c.requires.seat in let pl = was.0 in let asked = c.requires.values in let put = c.exchange.ensures.3 in (
  search rules,
  search rules,
  publishes g.T.Version.state g.T.Version.follows _ _ _ pl.0 pl.1 _ asked.1.0 c.args.values (ap (λ m. m.0.role) put ∙ pl.2) (ap (λ m. m.0.stage) put ∙ was.1) (ap (λ m. m.1) put ∙ ap (λ cs. (0, Some c.args.values) ∷ rest cs) was.3) (asked.0 ∙ ap readers_of pl.2) asked.1.1
      (λ y e. c.requires.next asked.1.0 y asked.1.1 (subst (λ z. EndsWith z y) (ap (λ m. m.0.seen) put) e)) (search rules),
)
