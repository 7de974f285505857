use Rattle.std.proofs.Common.{[], ◌∷◌, ap, length, length-append, arith}
use Rattle.mapping_table.proofs.LatestLaws.{bounded-pushed}
use Rattle.mapping_table.proofs.ends.EndTable.push.Goals as goal

pub invariant_of-self : goal.invariant_of-self
invariant_of-self c =
    let ends = c.self.inside.ends in
    record {
      bounded = rw c.push.ensures.items (bounded-pushed ends.items c.args.item c.self.inside.latest.items c.raise_word.new.latest.items _ _ (omega arith) (omega arith) c.raise_word.ensures.len c.raise_word.ensures.items c.self.invariant.bounded);
      held = omega (arith, c.self.invariant.held, ap length c.push.ensures.items, length-append ends.items (c.args.item ∷ []), c.push.ensures.spare, c.raise_word.ensures.capacity);
    }
