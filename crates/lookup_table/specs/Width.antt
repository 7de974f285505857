-- The group width of a field.
use Rattle.std.specs.Prelude.{ℕ, ◌+◌, ◌*◌, ◌/◌, nat_le, if◌then◌else◌}

-- the bytes of a table in groups of eight bits, which has 256 buckets per group, each of whole
-- words of 64 rules
abbrev pub wide_bytes : ℕ → ℕ → ℕ
wide_bytes bits rules = bits / 8 * 256 * 8 * ((rules + 63) / 64)

-- eight bits if such a table takes at most 2 MiB, else four
abbrev pub width_of : ℕ → ℕ → ℕ
width_of bits rules = if nat_le (wide_bytes bits rules) 2097152 then 8 else 4
