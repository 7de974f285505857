use Rattle.std.proofs.Common.{rules, ap, ◌∙◌}
use Rattle.gen_slots.proofs.ReaderSteps.{leaves_at}
use Rattle.gen_slots.proofs.readers.Held.leave.Goals as goal

pub fetch_add-requires : goal.fetch_add-requires
fetch_add-requires g c = let was = c.self.invariant in let now = c.exchange.ensures.3 in (
  search rules,
  search rules,
  leaves_at g.T.Version.state g.T.Version.follows _ _ _ _ _ c.self.inside.slot c.self.inside.value _ (search rules) (ap (λ m. m.0.role) now ∙ was.4) (search rules) (search rules),
)
