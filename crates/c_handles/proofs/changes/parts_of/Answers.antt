use Rattle.std.proofs.Common.{rules, ◌≡◌, Some, slice_get}
use Rattle.c_handles.proofs.Kept.{sets_there}
use Rattle.c_handles.proofs.Refused.{element_so, fits_set}
use Rattle.c_handles.proofs.changes.parts_of.Goals as goal

pub returns-in-Ok-clause-element : goal.returns-in-Ok-clause-element
returns-in-Ok-clause-element c =
    let there : slice_get c.args.control.now.schema c.args.set ≡ Some c.at.result.now = search rules in
    element_so c.args.control.now c.args.set c.args.bounds.now c.at.result.now c.as_slice.result.now c.in-Ok.parts there (search rules) (search rules) c.in-Ok.ensures.bounds c.in-Ok.ensures.parts c.in-Ok.ensures.fit.0

pub returns-in-Ok-clause-fits : goal.returns-in-Ok-clause-fits
returns-in-Ok-clause-fits c =
    let there : slice_get c.args.control.now.schema c.args.set ≡ Some c.at.result.now = search rules in (
      sets_there c.args.control.now.work.sets c.args.control.now.schema c.args.set c.known.ensures.open_sets (search rules),
      λ s at. fits_set c.args.control.now.work.sets c.args.control.now.schema c.args.set c.at.result.now c.as_slice.result.now c.in-Ok.parts s c.known.ensures.open_sets there (search rules) c.in-Ok.ensures.fit.1 at,
    )
