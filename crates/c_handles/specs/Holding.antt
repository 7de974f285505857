-- What a handle owns.
use Rattle.std.specs.Prelude.{Option, Some, None}
use base.Fml.{Fml, feq}
use denote.RawPtr.{Ptr, null_ptr}
use Rattle.std.specs.declared.alloc.Global.{Global}
use Rattle.std.specs.contracts.impls.GlobalAllocator.TheImpl.{ghosts}
use Rattle.std.specs.Box.Ownership.{box_owns}
use Rattle.c_handles.specs.declared.object.Object.{Object}
use Rattle.c_handles.specs.contracts.object.Object.{the_row}

-- Nothing, and the pointer is null; or the object in its block, and the right to free that.
abbrev pub holds : Global → Ptr → Option Object → Fml
holds a p None = feq Ptr p null_ptr
holds a p (Some x) = box_owns (ghosts.dealloc_token a) the_row p x
