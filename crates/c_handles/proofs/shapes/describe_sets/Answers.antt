use Rattle.std.proofs.Common.{length, arith}
use Rattle.c_handles.proofs.Tested.{sets_tested}
use Rattle.c_handles.proofs.shapes.describe_sets.Goals as goal

pub returns : goal.returns
returns c = sets_tested (length c.args.shapes.now) _ _ (omega arith) c.each_describes.ensures
