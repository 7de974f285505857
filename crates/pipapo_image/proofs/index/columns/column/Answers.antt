use Rattle.std.proofs.Common.{◌∙◌, ap, sym, subst}
use Rattle.set_model.specs.Blocks.{blocks}
use Rattle.range_expand.specs.Split.{IsFieldInterval}
use Rattle.pipapo_image.proofs.GrowLaws.{interval-at, column-of}
use Rattle.pipapo_image.proofs.index.columns.column.Goals as goal

pub split-requires : goal.split-requires
split-requires c =
    let p = c.at-part.result.now in
    subst (λ n. IsFieldInterval p.low p.high n) (sym c.bits.ensures) (interval-at c.args.kinds.now c.args.parts.now c.args.f c.at-kind.result.now p c.requires.fit c.at-kind.ensures c.at-part.ensures)

pub returns : goal.returns
returns c =
    let p = c.at-part.result.now in
    column-of c.args.kinds.now c.args.parts.now c.args.f c.at-kind.result.now p _ c.requires.fit c.at-kind.ensures c.at-part.ensures
    (c.from_vec.ensures ∙ c.in_ok-blocks.ensures ∙ ap (λ n. blocks p.low p.high n) c.bits.ensures)
