-- A chain of tests whose first ones hold.
use Rattle.std.proofs.Common.{◌≡◌, ◌<◌, ◌≤◌, ◌^◌, ℕ, Bool, ◌&&◌, nat_lt, nat_le, arith}
use Rattle.std.proofs.lemmas.Bool.Decides.{nat_tests}

pub set_tested : (fields family : ℕ) (last result : Bool) → 0 < fields → fields ≤ 16 → family < 6 → result ≡ last → result ≡ (nat_lt 0 fields && nat_le fields 16 && nat_lt family 6 && last)
set_tested fields family last result some few known e = grind (arith, nat_tests)

pub sets_tested : (sets : ℕ) (last result : Bool) → sets ≤ 2 ^ 32 → result ≡ last → result ≡ (nat_le sets (2 ^ 32) && last)
sets_tested sets last result few e = grind (arith, nat_tests)
