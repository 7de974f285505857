use Rattle.std.proofs.Common.{rules, ◌+◌, ◌*◌, ◌%◌, ◌∷◌, sym, ap, ◌∙◌, Some}
use Rattle.atomic_table.specs.Table.{rest}
use Rattle.gen_slots.proofs.ReaderSteps.{enters}
use Rattle.gen_slots.proofs.readers.Pass.enter.Goals as goal

pub fetch_add-requires : goal.fetch_add-requires
fetch_add-requires g c = (search rules, search rules, enters g.T.Version.state g.T.Version.follows _ _ _ _ _ c.self.invariant.3)

pub exchange-requires : goal.exchange-requires
exchange-requires g c = let went = c.fetch_add.ensures.2 _ c.self.invariant.3 in
    let there = went.4.1 ∙ ap (λ cs. (32 * c.self.inside.reader + c.fetch_add.result % 256, Some went.4.0) ∷ rest cs) (sym went.4.1) in
    (search rules, (Some went.4.0, search there))
