-- Groups of a field's bits, and what a block fixes of them.
--
-- A lookup takes a field's value group by group, most significant first. The kernel's theory of
-- operation of the pile of packet policies says: "the packet bits are grouped".
use Rattle.std.specs.Prelude.{◌≡◌, ℕ, zero, suc, ◌+◌, ◌-◌, ◌*◌, ◌/◌, ◌%◌, ◌^◌, ◌≤◌, min, Bool, true, false, ◌&&◌, ◌||◌, ◌==◌, nat_lt, bit_and}
use Rattle.set_model.specs.declared.block.Block.{Block}

-- Groups of `width` bits, which is 4 or 8, in a field of 1 to 16 whole bytes. It is said as a
-- multiple of four between two bounds: arithmetic reads that, and a sum type is no proposition in
-- an invariant.
pub record IsWidth (width bits : ℕ) : Type 0 where
  pub fours : width % 4 ≡ 0
  pub four : 4 ≤ width
  pub eight : width ≤ 8
  pub bytes : bits % 8 ≡ 0
  pub some : 8 ≤ bits
  pub most : bits ≤ 128

-- how many bits of the field are below group g
abbrev pub shift : ℕ → ℕ → ℕ → ℕ
shift width bits g = bits - width * (g + 1)

-- group g of a value
abbrev pub group : ℕ → ℕ → ℕ → ℕ → ℕ
group width bits g value = value / 2 ^ shift width bits g % 2 ^ width

-- how many bits of group g, its lowest ones, the block leaves free
abbrev pub free_in : ℕ → ℕ → ℕ → Block → ℕ
free_in width bits g block = min width (block.free_bits - shift width bits g)

-- the mask of the bits of group g that the block fixes: all but the free bits
abbrev pub fixed : ℕ → ℕ → ℕ → Block → ℕ
fixed width bits g block = 2 ^ width - 2 ^ free_in width bits g block

-- The value v of group g agrees with the block: it equals the group of the base on the bits that
-- the block fixes.
unfoldable pub agrees : ℕ → ℕ → Block → ℕ → ℕ → Bool
agrees width bits block g v = bit_and v (fixed width bits g block) == bit_and (group width bits g block.base) (fixed width bits g block)

-- the least value of group g that agrees with the block
abbrev pub first_agreeing : ℕ → ℕ → ℕ → Block → ℕ
first_agreeing width bits g block = bit_and (group width bits g block.base) (fixed width bits g block)

-- how many values of group g agree with the block
abbrev pub agreeing_count : ℕ → ℕ → ℕ → Block → ℕ
agreeing_count width bits g block = 2 ^ width - fixed width bits g block

-- p holds of each number below n
abbrev pub every : (ℕ → Bool) → ℕ → Bool
every p zero = true
every p (suc n) = every p n && p n

-- p holds of one of the n numbers from `from` on
abbrev pub some_from : (ℕ → Bool) → ℕ → ℕ → Bool
some_from p from zero = false
some_from p from (suc n) = some_from p from n || p (from + n)

-- some value of group g agrees with both blocks
abbrev pub meets : ℕ → ℕ → Block → Block → ℕ → Bool
meets width bits a b g = some_from (λ v. agrees width bits a g v && agrees width bits b g v) 0 (2 ^ width)

-- The blocks share a value: each begins before the other one ends.
abbrev pub share_value : Block → Block → Bool
share_value a b = nat_lt a.base (b.base + 2 ^ b.free_bits) && nat_lt b.base (a.base + 2 ^ a.free_bits)
