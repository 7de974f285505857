-- The items of a list when a borrow of them ends.
use Rattle.std.specs.Prelude.{List, ◌++◌, length, take, drop}
use Rattle.std.specs.Borrow.{Lends, MutBor, Fml, RattleType, Array}
use Rattle.set_model.specs.contracts.listed.Listed.{the_row}

-- The list with items written over its own, from the first on. Its length is unchanged.
abbrev pub written_over : {X : Type 0} → List X → List X → List X
written_over xs ws = take (length xs) (ws ++ drop (length ws) xs)

-- At the end the list has the items that the borrow showed last.
abbrev pub LendsItems : (T : RattleType) → MutBor (List T.Denot) → MutBor (List T.Denot) → Fml
LendsItems T xs r = Lends (the_row T) (Array T 0) xs r (written_over xs.now)
