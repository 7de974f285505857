use Rattle.std.proofs.Common.{arith}
use Rattle.c_handles.proofs.Tested.{set_tested}
use Rattle.c_handles.proofs.shapes.describes_set.Goals as goal

pub returns : goal.returns
returns c = set_tested c.args.shape.now.fields c.args.shape.now.family _ _ (omega arith) (omega arith) (omega arith) c.are_kinds.ensures
