-- What a listing through a handle is, and why there is none.
use Rattle.std.specs.Prelude.{◌≡◌, ◌<◌, ◌⊎◌, ◌++◌, ℕ, List, length, drop, Option, Some, None}
use Rattle.set_report.specs.ListText.{list_text}
use Rattle.c_handles.specs.Codes.{code_of}
use Rattle.c_handles.specs.declared.fault.Fault.{Fault}
use Rattle.c_handles.specs.declared.fault.Fault.TheVariants.{Memory, Empty, Handle, Room}
use Rattle.c_handles.specs.declared.object.Object.{Object}
use Rattle.c_handles.specs.declared.object.Object.TheVariants.{Control, Reader, Elements}

-- The text is the last generation of a control as a script, at a moment.
abbrev pub IsListing : Object → ℕ → List ℕ → Type 0
IsListing (Control c) now text = text ≡ list_text c.schema c.work.base.sets now
IsListing (Reader s) now text = ⊥
IsListing (Elements e) now text = ⊥

-- Only memory is wanted for a control's listing.
abbrev pub RefusesListing : Object → Fault → Type 0
RefusesListing (Control c) Memory = Unit {0}
RefusesListing (Control c) other = ⊥
RefusesListing (Reader s) fault = fault ≡ Handle
RefusesListing (Elements e) fault = fault ≡ Handle

-- The listing was written over the front of a buffer, and this is its length.
abbrev pub HasListed : Option Object → ℕ → List ℕ → List ℕ → ℕ → Type 0
HasListed None now old new written = ⊥
HasListed (Some x) now old new written = (text : List ℕ) × IsListing x now text × (new ≡ text ++ drop (length text) old) × (written ≡ length text)

-- A listing was refused, with this number: the handle holds nothing; or the buffer has no room for the text, and this is the
-- text's length; or what is held gives the cause.
abbrev pub IsRefusedListing : Option Object → ℕ → ℕ → ℕ → ℕ → Type 0
IsRefusedListing None now room code written = code ≡ code_of Empty
IsRefusedListing (Some x) now room code written =
    ((text : List ℕ) × IsListing x now text × (room < length text) × (code ≡ code_of Room) × (written ≡ length text))
    ⊎ ((fault : Fault) × (code ≡ code_of fault) × RefusesListing x fault)
