-- The bytes that tokens are made of.
use Rattle.std.specs.Prelude.{ℕ, Bool, ◌&&◌, ◌||◌, not, ◌==◌, nat_le, cond}

-- space, tab, carriage return
abbrev pub is_blank : ℕ → Bool
is_blank b = (b == 32) || (b == 9) || (b == 13)

-- one of { } , ; = *
abbrev pub is_mark_byte : ℕ → Bool
is_mark_byte b = (b == 123) || (b == 125) || (b == 44) || (b == 59) || (b == 61) || (b == 42)

-- an ASCII letter, a digit, or one of _ . / : -
abbrev pub is_word_byte : ℕ → Bool
is_word_byte b =
    (nat_le 65 b && nat_le b 90) || (nat_le 97 b && nat_le b 122) || (nat_le 48 b && nat_le b 57)
    || (b == 95) || (b == 46) || (b == 47) || (b == 58) || (b == 45)

-- a byte of a string: no quote and no control character
abbrev pub is_string_byte : ℕ → Bool
is_string_byte b = not (b == 34) && nat_le 32 b

abbrev pub is_line_feed : ℕ → Bool
is_line_feed b = b == 10

-- the letter of a byte's class: w in words, b for blanks, m for marks, and a full stop for all others
abbrev pub byte_class : ℕ → ℕ
byte_class b = cond (is_word_byte b) 119 (cond (is_blank b) 98 (cond (is_mark_byte b) 109 46))
