use Rattle.std.proofs.Common.{arith}
use Rattle.std.specs.Arc.{arc_value}
use Rattle.set_space.specs.OpenSets.{open_state}
use Rattle.set_space.proofs.SetsLaws.{set-within, open-within, work-at, fits_at}
use Rattle.set_space.proofs.work.Work.fits.Goals as goal

pub set-base-requires : goal.set-base-requires
set-base-requires c = set-within (arc_value c.self.inside.base) c.deref.result.now c.self.inside.sets.items c.args.set c.args.self.now c.self.view_is c.self.invariant.0 c.deref.ensures c.requires

pub index-requires : goal.index-requires
index-requires c =
    let h = open-within (arc_value c.self.inside.base) c.self.inside.sets.items c.args.set c.args.self.now c.self.view_is c.self.invariant.0 c.requires in
    omega (arith, h, c.self.inside.sets.ok)

pub returns : goal.returns
returns c =
    fits_at c.args.self.now c.args.set (open_state c.index.result.now c.set-base.result.now) c.args.parts.now c.fits.result
    (work-at (arc_value c.self.inside.base) c.deref.result.now c.self.inside.sets.items c.args.set c.index.result.now c.set-base.result.now c.args.self.now
    c.self.view_is c.self.invariant.0 c.deref.ensures c.requires c.index.ensures c.set-base.ensures)
    c.fits.ensures
