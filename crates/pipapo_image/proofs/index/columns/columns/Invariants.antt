use Rattle.pipapo_image.specs.Index.Built.{Built}
use Rattle.pipapo_image.specs.Index.Grow.{IsColumn}
use Rattle.pipapo_image.proofs.index.columns.columns.Given as goal

abbrev pub invariant-kinds : goal.invariant-kinds
invariant-kinds l = Built (IsColumn l.kinds l.parts) l.list.items l.f
