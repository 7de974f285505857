-- Why a start is refused. If memory runs out, it may be refused with no other cause.
use Rattle.std.specs.Prelude.{◌≡◌, ◌<◌, ◌≤◌, ◌⊎◌, ℕ, true, false, List}
use Rattle.c_handles.specs.Codes.{code_of}
use Rattle.c_handles.specs.Shapes.{describe_sets}
use Rattle.c_handles.specs.declared.shapes.SetShape.{SetShape}
use Rattle.c_handles.specs.declared.fault.Fault.{Fault}
use Rattle.c_handles.specs.declared.fault.Fault.TheVariants.{Memory, Schema, Readers}

-- A control has 1 to 16 readers.
abbrev pub IsReaderCount : ℕ → Type 0
IsReaderCount readers = (0 < readers) × (readers ≤ 16)

abbrev pub IsNoReaderCount : ℕ → Type 0
IsNoReaderCount readers = (readers ≡ 0) ⊎ (16 < readers)

-- Why there is no control over these sets with so many readers. Memory is asked for only if there can be one.
abbrev pub RefusesStart : List SetShape → ℕ → Fault → Type 0
RefusesStart shapes readers Readers = IsNoReaderCount readers
RefusesStart shapes readers Schema = IsReaderCount readers × (describe_sets shapes ≡ false)
RefusesStart shapes readers Memory = IsReaderCount readers × (describe_sets shapes ≡ true)
RefusesStart shapes readers other = ⊥

-- A start with this number was refused.
abbrev pub IsRefusedStart : List SetShape → ℕ → ℕ → Type 0
IsRefusedStart shapes readers code = (fault : Fault) × (code ≡ code_of fault) × RefusesStart shapes readers fault
