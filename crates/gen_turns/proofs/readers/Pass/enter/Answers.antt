use Rattle.std.proofs.Common.{rules, unwrap_or, ◌≡◌, get_or, sym, ap, ◌∙◌, subst}
use Rattle.atomic_table.proofs.Lists.{at_index}
use Rattle.history_laws.specs.Histories.{EndsWith, Chain}
use Rattle.gen_turns.specs.TurnSteps.{Finds}
use Rattle.gen_turns.proofs.Stock.{newer}
use Rattle.gen_turns.proofs.readers.Pass.enter.Goals as goal

pub invariant_of-result : goal.invariant_of-result
invariant_of-result g c = let inv = c.self.invariant in let was = c.self.inside.place.me.0 in let reader = c.self.inside.reader in let turn = c.take_turn-ticket.ensures.seat in let end = c.end_turn.ensures.seat in let items = c.take_turn-ticket.result.1.items in let took = c.take-fresh.ensures.value in
    let mine = subst (Finds g.T.Version.state turn.0 was.seen was.entered items) inv.2 turn.4 in let at = at_index items reader c.take-fresh.result mine.0 (took ∙ (c.index_mut.ensures.value ∙ ap (get_or items reader) (sym took))) in
    let value : c.unwrap_or-value.result ≡ unwrap_or c.take-fresh.result c.self.inside.value = search rules in
    let whole : turn.0 ≡ c.end_turn.new.place.me.0.seen = sym (ap (λ m. m.0.whole) turn.1) ∙ sym (ap (λ m. m.0.seen) end) in (
      c.end_turn.ensures.table ∙ (c.take_turn-ticket.ensures.table ∙ inv.0),
      (search rules, search rules),
      ap (λ m. m.0.role) end ∙ (ap (λ m. m.0.role) turn.1 ∙ inv.2),
      ap (λ m. m.0.stage) end,
      ap (λ m. m.1) end,
      ap (λ m. m.0.entered) end ∙ sym (ap (λ m. m.0.seen) end),
      subst (λ l. EndsWith l (g.T.Version.state c.unwrap_or-value.result)) whole (subst (λ v. EndsWith turn.0 (g.T.Version.state v)) (sym value)
          (newer g.T.Version.state turn.0 was.entered c.take-fresh.result c.self.inside.value (mine.1 c.take-fresh.result at) inv.5)),
      subst (Chain g.T.Version.follows) whole turn.3,
    )
