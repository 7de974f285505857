use Rattle.std.proofs.Common.{rules, ◌∷◌, Some, sym, ap, ◌∙◌, subst}
use Rattle.atomic_table.specs.Table.{rest}
use Rattle.log_turns.specs.LogRule.{most}
use Rattle.log_turns.specs.LogSteps.{MayGive}
use Rattle.log_turns.proofs.Turns.{ends}
use Rattle.log_turns.proofs.turn.end_turn.Goals as goal

pub store-requires : goal.store-requires
store-requires g c = let was = c.requires.seat in let put = c.exchange.ensures.3 in (
  search rules,
  search rules,
  ends g.T.Logged.log g.T.Logged.base g.T.Logged.number g.T.Logged.clerk _ most _ _ _ was.0.0 _ c.args.value (ap (λ m. m.0.role) put ∙ was.0.1) (ap (λ m. m.0.stage) put ∙ was.1) (ap (λ m. m.1) put ∙ ap (λ cs. (0, Some c.args.value) ∷ rest cs) was.3)
      (subst (λ d. MayGive g.T.Logged.log g.T.Logged.base g.T.Logged.number g.T.Logged.clerk was.0.0 d c.args.value) (sym (ap (λ m. m.0) put)) (c.requires.value was.0.0 was.0.1)) (search rules),
)
