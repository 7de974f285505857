-- The texts of an interval of each kind.
use Rattle.std.specs.Prelude.{◌≡◌, ℕ, ◌+◌, ◌-◌, ◌*◌, ◌/◌, ◌^◌, ◌≤◌, ◌⊎◌, List, codes, ◌++◌}
use Rattle.set_model.specs.Kind.{bits_of}
use Rattle.set_model.specs.declared.kind.Kind.{Kind}
use Rattle.set_model.specs.declared.kind.Interval.{Interval}
use Rattle.addr_text.specs.Numbers.{IsNumberUpTo}
use Rattle.addr_text.specs.Values.{IsValue}

-- The block of all values that share the first `fixed` of so many bits with a value. In its low end the
-- other bits are all 0, and in its high end all 1.
abbrev pub block_of : ℕ → ℕ → ℕ → Interval
block_of bits fixed value =
    let size = 2 ^ (bits - fixed) in
    record { low = value / size * size; high = value / size * size + (size - 1) }

-- a single value
pub record IsPoint (kind : Kind) (text : List ℕ) (part : Interval) : Type 0 where
  pub value : IsValue kind text part.low
  pub same : part.low ≡ part.high

-- a value, `/`, and the number of fixed bits
pub record IsPrefix (kind : Kind) (text : List ℕ) (part : Interval) : Type 0 where
  pub front : List ℕ
  pub digits : List ℕ
  pub value : ℕ
  pub fixed : ℕ
  pub spelled : text ≡ front ++ (codes "/" ++ digits)
  pub front_value : IsValue kind front value
  pub length : IsNumberUpTo (bits_of kind) digits fixed
  pub block : part ≡ block_of (bits_of kind) fixed value

-- two values with `-` between them, the second no lower than the first
pub record IsRange (kind : Kind) (text : List ℕ) (part : Interval) : Type 0 where
  pub front : List ℕ
  pub behind : List ℕ
  pub spelled : text ≡ front ++ (codes "-" ++ behind)
  pub low : IsValue kind front part.low
  pub high : IsValue kind behind part.high
  pub rises : part.low ≤ part.high

-- the text means this interval of the kind
abbrev pub IsInterval : Kind → List ℕ → Interval → Type 0
IsInterval kind text part = IsPoint kind text part ⊎ (IsPrefix kind text part ⊎ IsRange kind text part)
