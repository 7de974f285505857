-- How text is shown so that it can't move a terminal.
use Rattle.std.specs.Prelude.{◌≡◌, ℕ, ◌+◌, ◌/◌, ◌%◌, Bool, IsTrue, ◌&&◌, ◌||◌, ◌==◌, nat_le, cond, List, [], ◌∷◌, ◌++◌, flat_map, codes, decimal}

-- a space or a visible character of ASCII
abbrev pub is_printable : ℕ → Bool
is_printable b = nat_le 32 b && nat_le b 126

-- A note has printable bytes, tabs and line feeds.
abbrev pub IsNoteByte : ℕ → Type 0
IsNoteByte b = IsTrue (is_printable b || b == 9 || b == 10)

-- a digit of a hexadecimal number
abbrev pub hex_digit : ℕ → ℕ
hex_digit n = cond (nat_le n 9) (48 + n) (87 + n)

-- A byte is shown as itself if it is printable, and else as its number, as \x1b.
abbrev pub shown_byte : ℕ → List ℕ
shown_byte b = cond (is_printable b) (b ∷ []) (92 ∷ 120 ∷ hex_digit (b / 16) ∷ hex_digit (b % 16) ∷ [])

abbrev pub shown : List ℕ → List ℕ
shown bytes = flat_map shown_byte bytes

-- NAME:LINE:COLUMN and a colon, with a space after it
abbrev pub place_text : List ℕ → ℕ → ℕ → List ℕ
place_text name line column = shown (name ++ codes ":" ++ decimal line ++ codes ":" ++ decimal column ++ codes ": ")

-- NAME, a colon, the byte, and a colon, with a space after it
abbrev pub byte_text : List ℕ → ℕ → List ℕ
byte_text name byte = shown (name ++ codes ": byte " ++ decimal byte ++ codes ": ")

-- NAME and a colon, with a space after it
abbrev pub name_text : List ℕ → List ℕ
name_text name = shown (name ++ codes ": ")

-- A text begins with another one.
pub record Begins (front text : List ℕ) : Type 0 where
  pub rest : List ℕ
  pub whole : text ≡ front ++ rest

-- A text begins with a name and a place.
pub record BeginsAtPlace (name text : List ℕ) : Type 0 where
  pub line : ℕ
  pub column : ℕ
  pub begins : Begins (place_text name line column) text
