-- A text of which a part is blanked out.
use Rattle.std.specs.Prelude.{ℕ, not, ◌&&◌, ◌==◌, if◌then◌else◌, List, map, nat_le, nat_lt}
use Rattle.std.specs.List.{enumerate_from}

-- a byte with its place: a blank if the place is in the part, and else itself; a line feed stays
abbrev pub blanked_byte : ℕ → ℕ → ℕ × ℕ → ℕ
blanked_byte from to b = if nat_le from b.0 && (nat_lt b.0 to && not (b.1 == 10)) then 32 else b.1

-- the text whose bytes from one place up to another, which isn't included, are blanked out
abbrev pub blanked : ℕ → ℕ → List ℕ → List ℕ
blanked from to text = map (blanked_byte from to) (enumerate_from 0 text)
