-- The sections of a script or of a key file.
use Rattle.std.specs.Prelude.{ℕ, List, [], unwrap_or, slice_get}

-- the items of section j, or none if there is no such section
abbrev pub section_at : {T : Type 0} → List (List T) → ℕ → List T
section_at sections j = unwrap_or (slice_get sections j) []
