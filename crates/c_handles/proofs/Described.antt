-- The names of a declared set in a struct: each before zeros.
use Rattle.std.proofs.Common.{◌≡◌, ℕ, zero, suc, ◌+◌, Bool, true, not, nat_eq, cond, List, [], ◌∷◌, ◌++◌, length, take, drop, replicate, refl, ap, ◌∙◌, arith}
use Rattle.std.specs.List.{list_all, prefix_len}
use Rattle.std.proofs.lemmas.Bool.{and_parts}
use Rattle.std.proofs.lemmas.List.{take_at}
use Rattle.c_handles.specs.Shapes.{name_in}
use Rattle.c_handles.specs.Describing.{takes_name}

none_first : (k n : ℕ) → prefix_len (λ byte. not (nat_eq byte 0)) (drop k (replicate n 0)) ≡ 0
none_first zero zero = refl
none_first zero (suc n) = refl
none_first (suc k) zero = refl
none_first (suc k) (suc n) = none_first k n

all_first : (name zeros : List ℕ) → list_all (λ byte. not (nat_eq byte 0)) name ≡ true → prefix_len (λ byte. not (nat_eq byte 0)) zeros ≡ 0 → prefix_len (λ byte. not (nat_eq byte 0)) (name ++ zeros) ≡ length name
all_first [] zeros h none = none
all_first (byte ∷ name) zeros h none =
    let both = and_parts _ _ h in
    let here : prefix_len (λ x. not (nat_eq x 0)) (byte ∷ name ++ zeros) ≡ 1 + prefix_len (λ x. not (nat_eq x 0)) (name ++ zeros) = ap (λ (b : Bool). cond b (1 + prefix_len (λ x. not (nat_eq x 0)) (name ++ zeros)) 0) both.0 in
    omega (arith, here, all_first name zeros both.1 none)

pub name_back : (name bytes : List ℕ) → takes_name name ≡ true → bytes ≡ name ++ drop (length name) (replicate 128 0) → name_in bytes ≡ name
name_back name bytes h e =
    let zeros : List ℕ = drop (length name) (replicate 128 0) in
    let count = all_first name zeros ((and_parts _ _ h).1) (none_first (length name) 128) in
    ap name_in e ∙ (ap (λ (n : ℕ). take n (name ++ zeros)) count ∙ take_at name zeros (length name) refl)
