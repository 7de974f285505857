-- The time of a text, computed.
use Rattle.std.specs.Prelude.{ℕ, ◌+◌, ◌*◌, Bool, not, List, [], ◌∷◌, length, take, drop, Option, Some, None, bytes_eq, ◌==◌, nat_lt, nat_le, if◌then◌else◌}
use Rattle.std.specs.List.{prefix_len}
use Rattle.std.specs.Char.{is_digit}
use Rattle.std.specs.Net.Reader.{read_number}
use Rattle.addr_text.specs.Times.{units, longest_time}
use Rattle.addr_text.specs.ValuesRead.{◌>>=◌}

-- a byte that is no decimal digit
abbrev pub is_no_digit : ℕ → Bool
is_no_digit byte = not (is_digit byte 10)

-- how many bytes there are before the first digit
abbrev pub letters_len : List ℕ → ℕ
letters_len text = prefix_len is_no_digit text

-- a count, the text between it and the next digit, and the text from that digit on
pub record TimePart : Type 0 where
  pub count : ℕ
  pub name : List ℕ
  pub behind : List ℕ

-- a count, with its unit taken from the text after it
abbrev pub part_with : ℕ → List ℕ → TimePart
part_with count text = record { count = count; name = take (letters_len text) text; behind = drop (letters_len text) text }

-- the first count of a text, with its unit
unfoldable pub time_part : List ℕ → Option TimePart
time_part text = do
  n ← read_number 10 999_999_999_999_999 text
  if nat_lt 15 n.1 then None else Some (part_with n.0 (drop n.1 text))

-- the time of parts with these units, added to the time before them
unfoldable pub time_parts : List (List ℕ × ℕ) → ℕ → List ℕ → Option ℕ
time_parts [] total text = if length text == 0 then Some total else None
time_parts (unit ∷ units) total text = elim (time_part text) [
  | None ↦ time_parts units total text
  | Some part ↦
      if bytes_eq part.name unit.0 then time_parts units (total + part.count * unit.1) part.behind
      else time_parts units total text
]

-- seconds, or parts
unfoldable pub duration_of : List ℕ → Option ℕ
duration_of text = do
  part ← time_part text
  if length part.name == 0 then Some (part.count * 1_000) else time_parts units 0 text

-- the time that the text means
unfoldable pub time_of : List ℕ → Option ℕ
time_of text = do
  ms ← duration_of text
  if nat_le ms longest_time then Some ms else None
