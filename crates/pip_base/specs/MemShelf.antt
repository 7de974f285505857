-- Files in memory.
use Rattle.std.specs.Prelude.{ℕ, Bool, List, [], drop, position, Option, Some, None, slice_get, nat_eq, is_some}
use Rattle.std.specs.Cmp.Lexicographic.{pointwise}
use Rattle.std.specs.String.{string_bytes}
use Rattle.pip_base.specs.declared.mem_shelf.StoredFile.{StoredFile}
use Rattle.pip_base.specs.declared.mem_shelf.OpenFile.{OpenFile}
use Rattle.pip_base.specs.Schedule.{Plan, new_plan}

-- A shelf: the names with their bytes, the names that were asked for, the opened files, and which calls fail.
pub record ShelfState : Type 0 where
  pub files : List (List ℕ × List ℕ)
  pub asked : List (List ℕ)
  pub opened : List OpenFile
  pub plan : Plan

abbrev pub stored : StoredFile → List ℕ × List ℕ
stored file = (string_bytes file.name, file.bytes.items)

abbrev pub no_files : ShelfState
no_files = record { files = []; asked = []; opened = []; plan = new_plan }

-- the place of the file of a name
abbrev pub file_place : List (List ℕ × List ℕ) → List ℕ → Option ℕ
file_place files name = position (λ file. pointwise nat_eq file.0 name) files

abbrev pub has_file : List (List ℕ × List ℕ) → List ℕ → Bool
has_file files name = is_some (file_place files name)

-- the bytes of a file from a place on
abbrev pub bytes_from : Option (List ℕ × List ℕ) → ℕ → List ℕ
bytes_from None from = []
bytes_from (Some file) from = drop from file.1

abbrev pub bytes_at : List (List ℕ × List ℕ) → Option ℕ → Option (List ℕ)
bytes_at files None = None
bytes_at files (Some place) = Some (bytes_from (slice_get files place) 0)

-- the bytes under a name, if there are any
abbrev pub told_bytes : ShelfState → List ℕ → Option (List ℕ)
told_bytes s name = bytes_at s.files (file_place s.files name)

abbrev pub rest_of_open : List (List ℕ × List ℕ) → Option OpenFile → Option (List ℕ)
rest_of_open files None = None
rest_of_open files (Some open_file) = Some (bytes_from (slice_get files open_file.place) open_file.from)

-- what an opened file has left
abbrev pub left_bytes : ShelfState → ℕ → Option (List ℕ)
left_bytes s n = rest_of_open s.files (slice_get s.opened n)
