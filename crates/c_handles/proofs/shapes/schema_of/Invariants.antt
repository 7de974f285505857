use Rattle.std.proofs.Common.{◌≡◌, map, take, All}
use Rattle.set_space.specs.Open.{CanBeBuilt}
use Rattle.c_handles.specs.Shapes.{described}
use Rattle.c_handles.proofs.shapes.schema_of.Given as goal

-- the sets so far, each of which can be built
abbrev pub invariant-sets : goal.invariant-sets
invariant-sets l = All CanBeBuilt l.schema × (l.schema ≡ map described (take l.shape-index l.shapes))
