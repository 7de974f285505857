-- Numbers as text.
use Rattle.std.specs.Prelude.{◌≡◌, ℕ, ◌+◌, ◌*◌, ◌≤◌, List, length, fold, decimal}
use Rattle.std.specs.Net.Grammar.{IsNumber}

-- the number with these digits in a base, the most significant digit first
abbrev pub big_endian : ℕ → List ℕ → ℕ
big_endian base digits = fold (λ n digit. n * base + digit) 0 digits

-- a number of at most `most`, in decimal digits with no leading zero
abbrev pub IsNumberUpTo : ℕ → List ℕ → ℕ → Type 0
IsNumberUpTo most text n = (n ≤ most) × (text ≡ decimal n)

-- one to `longest` hexadecimal digits of either case
abbrev pub IsHexUpTo : ℕ → List ℕ → ℕ → Type 0
IsHexUpTo longest text n = IsNumber 16 text n × (length text ≤ longest)
