use mir.Raw.{raw}
use base.Fraction.{full_share}
use denote.Exit.{Exit, unchanged, leaves, hidden, under}
use denote.Memory.{lone}
use denote.RattleType.{RattleType}
use denote.Param.Send.{IsSend, Quiet, part_keyless, owning_send, struct_send, sendable}
use denote.Builtin.{RawPtr}
use denote.RawPtr.{Ptr, block_ptr, null_ptr, lies_at}
use base.Shift.{Keyless}
use denote.Struct.Struct.{exits_of}
use denote.Struct.Owning.{shape, fields, to}
use Rattle.std.specs.declared.alloc.Global.{Global}
use Rattle.std.specs.contracts.alloc.Global as heap
use Rattle.std.proofs.Crossing.{frees}
use Rattle.c_handles.proofs.object.Object.TheSendSync.{the_send as of_send}
use Rattle.std.specs.declared.option.Option.{Option}
use Rattle.std.specs.declared.option.Option.TheVariants.{None, Some}
use Rattle.c_handles.specs.contracts.object.Object.{the_row as of_row}
use Rattle.c_handles.specs.Holding.{holds}
use Rattle.c_handles.specs.contracts.handle.Handle.{the_row, the_type}

quiet : {D X : Type 0} (to : D → X) (e : Exit X) → Quiet e → Quiet (hidden (under to e))
quiet to unchanged q = λ x w. tt
quiet to (leaves L l S s r₀) q = λ d. q (to d)

lies : (R : RattleType) → IsSend R → (p : Ptr) (x : R.Denot) → Keyless (lies_at R full_share p x)
lies R s (block_ptr b o) x = part_keyless R s full_share x b o
lies R s null_ptr x = tt

global_send : IsSend (heap.the_field).row
global_send = search sendable

ps : IsSend RawPtr
ps = search sendable

-- what a handle owns says the same in every thread
held : (a : Global) (p : Ptr) (h : Option of_row.Denot) → Keyless (holds a p h)
held a p None = tt
held a p (Some x) = (lies of_row of_send p x, frees.frees a (raw (lone of_row.mir)) p)

pub send : IsSend the_row
send = owning_send the_type (ps, (global_send, tt)) (λ d. held d.alloc d.at d.held) (λ k. quiet (to the_type) (exits_of k (fields the_type)) ((struct_send (shape the_type) (ps, (global_send, tt))).leaving k))
