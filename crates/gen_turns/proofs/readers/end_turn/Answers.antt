use Rattle.std.proofs.Common.{rules, ◌∷◌, Some, ap, ◌∙◌}
use Rattle.atomic_table.specs.Table.{rest}
use Rattle.gen_turns.proofs.EndingTurns.{enters}
use Rattle.gen_turns.proofs.readers.end_turn.Goals as goal

pub store-requires : goal.store-requires
store-requires g c = let was = c.requires.seat in let put = c.exchange.ensures.3 in (
  search rules,
  search rules,
  enters g.T.Version.state g.T.Version.follows _ _ _ c.args.reader _ c.args.places (ap (λ m. m.0.role) put ∙ was.0) (ap (λ m. m.0.stage) put ∙ was.1) (ap (λ m. m.1) put ∙ ap (λ cs. (0, Some c.args.places) ∷ rest cs) was.3) (search rules) (search rules),
)
