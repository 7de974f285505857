use Rattle.std.proofs.Common.{◌+◌, sym, subst}
use Rattle.pipapo_image.specs.Index.Built.{Built}
use Rattle.pipapo_image.specs.Index.Grow.{IsColumn}
use Rattle.pipapo_image.proofs.BuiltLaws.{built-more}
use Rattle.pipapo_image.proofs.index.columns.columns.Goals as goal

pub kinds-preserved : goal.kinds-preserved
kinds-preserved c =
    let P = IsColumn c.args.kinds.now c.args.parts.now in
    subst (λ z. Built P z (c.kinds.f + 1)) (sym c.in_ok-push.ensures.items) (built-more P c.kinds.list.items c.kinds.f c.in_ok-column.field-0 c.kinds.invariant c.in_ok-column.ensures)
