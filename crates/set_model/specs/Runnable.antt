-- Scripts and packets that can run: their steps and keys fit the declared sets.
use Rattle.std.specs.Prelude.{◌≡◌, ◌≤◌, ◌<◌, ◌-◌, List, Bool, true, false, length, All, IsTrue, Option, Some, None, slice_get}
use Rattle.set_model.specs.declared.packet.Packet.{Packet}
use Rattle.set_model.specs.declared.script.SetDecl.{SetDecl}
use Rattle.set_model.specs.declared.script.Step.{Step}
use Rattle.set_model.specs.declared.script.Step.TheVariants.{Change, Flush, Commit, Abort}
use Rattle.set_model.specs.declared.script.Script.{Script}
use Rattle.set_model.specs.Key.{key_fits, parts_fit}

-- A set has 1 to 16 fields.
pub record HasFields (d : SetDecl) : Type 0 where
  pub some : 0 < length d.kinds
  pub few : length d.kinds ≤ 16

-- A change or a flush is of a declared set, and a change's intervals fit the set's kinds.
abbrev pub IsRunnableStep : List SetDecl → Step → Type 0
IsRunnableStep schema (Change line set verb e now) = (d : SetDecl) × (slice_get schema set ≡ Some d) × IsTrue (parts_fit d.kinds e.parts)
IsRunnableStep schema (Flush line set now) = (d : SetDecl) × (slice_get schema set ≡ Some d)
IsRunnableStep schema (Commit now) = Unit {0}
IsRunnableStep schema Abort = Unit {0}

-- A change or a flush leaves its transaction open; a commit and an abort end it.
abbrev pub opens : Option Step → Bool
opens None = false
opens (Some (Change line set verb e now)) = true
opens (Some (Flush line set now)) = true
opens (Some (Commit now)) = false
opens (Some Abort) = false

-- After these steps of a section a transaction with a change is open: the last step is a change or
-- a flush.
abbrev pub is_open : List Step → Bool
is_open steps = opens (slice_get steps (length steps - 1))

-- The last step of a section, if it has one, ends its transaction: it is a commit or an abort.
abbrev pub EndsClosed : List Step → Type 0
EndsClosed steps = is_open steps ≡ false

-- A script declares at most 64 sets, its steps are of these sets, and each section ends its last transaction.
pub record IsRunnable (s : Script) : Type 0 where
  pub sets : All HasFields s.schema
  pub few_sets : length s.schema ≤ 64
  pub steps : All (All (IsRunnableStep s.schema)) s.sections
  pub closed : All EndsClosed s.sections

-- A packet's set is declared, and its key fits the set's kinds.
pub record IsFitting (schema : List SetDecl) (p : Packet) : Type 0 where
  pub set : SetDecl
  pub declared : slice_get schema p.set ≡ Some set
  pub fits : IsTrue (key_fits set.kinds p.key)
