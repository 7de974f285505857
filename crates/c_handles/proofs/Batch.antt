-- One key more of many.
use Rattle.std.proofs.Common.{◌≡◌, ℕ, suc, zero, ◌+◌, ◌-◌, ◌*◌, ◌<◌, ◌≤◌, List, [], ◌∷◌, ◌++◌, length, take, drop, ap, sym, ◌∙◌, subst, arith}
use Rattle.std.proofs.lemmas.List.{take_more_set, take_all, length-set, append_assoc, append-nil}
use Rattle.std.proofs.Math.ListN.{set}
use Rattle.std.proofs.Math.Nat.{suc-mul}
use Rattle.set_model.specs.SetState.{State}
use Rattle.pipapo_image.specs.Image.Found.{found}
use Rattle.set_model.specs.declared.kind.Kind.{Kind}
use Rattle.packed_values.specs.Packed.{values_in}
use Rattle.history_laws.specs.Histories.{StartsWith, EndsWith}
use Rattle.set_model.specs.Control.{Generation}
use Rattle.c_handles.specs.Codes.{id_of}
use Rattle.c_handles.specs.Calls.{ids_in, AreFound, HasFoundAll}

less : (n : ℕ) (i : ℕ) → i < n → n - i ≡ suc (n - (i + 1))
less n i h = omega arith

pub one_more : (s : State) (kinds : List Kind) (size : ℕ) (now : ℕ) (ids : List ℕ) (i : ℕ) (rest : List ℕ) (x : ℕ) (all : List ℕ) → i < length ids → x ≡ id_of (found s (values_in kinds (take size rest)) now)
    → take i ids ++ ids_in s kinds size now (length ids - i) rest ≡ all → take (i + 1) (set ids i x) ++ ids_in s kinds size now (length (set ids i x) - (i + 1)) (drop size rest) ≡ all
one_more s kinds size now ids i rest x all h ex e =
    let left : List ℕ = ids_in s kinds size now (length ids - (i + 1)) (drop size rest) in
    let count : length (set ids i x) - (i + 1) ≡ length ids - (i + 1) = ap (λ (n : ℕ). n - (i + 1)) (length-set ids i x) in
    let now_so : take (i + 1) (set ids i x) ++ ids_in s kinds size now (length (set ids i x) - (i + 1)) (drop size rest) ≡ (take i ids ++ x ∷ []) ++ left =
    ap (λ (xs : List ℕ). xs ++ ids_in s kinds size now (length (set ids i x) - (i + 1)) (drop size rest)) (take_more_set ids i x h) ∙ ap (λ (n : ℕ). (take i ids ++ x ∷ []) ++ ids_in s kinds size now n (drop size rest)) count in
    let before : take i ids ++ ids_in s kinds size now (length ids - i) rest ≡ take i ids ++ id_of (found s (values_in kinds (take size rest)) now) ∷ left =
    ap (λ (n : ℕ). take i ids ++ ids_in s kinds size now n rest) (less (length ids) i h) in
    now_so ∙ (append_assoc (take i ids) (x ∷ []) left ∙ (ap (λ (y : ℕ). take i ids ++ y ∷ left) ex ∙ (sym before ∙ e)))

none_left : (n : ℕ) (i : ℕ) → n ≤ i → n - i ≡ zero
none_left n i h = omega arith

pub no_more : (s : State) (kinds : List Kind) (size : ℕ) (now : ℕ) (ids : List ℕ) (i : ℕ) (rest : List ℕ) (all : List ℕ) → length ids ≤ i → take i ids ++ ids_in s kinds size now (length ids - i) rest ≡ all → ids ≡ all
no_more s kinds size now ids i rest all h e =
    let end : take i ids ++ ids_in s kinds size now (length ids - i) rest ≡ take i ids ++ [] = ap (λ (n : ℕ). take i ids ++ ids_in s kinds size now n rest) (none_left (length ids) i h) in
    sym (append-nil (take i ids) ∙ take_all i ids h) ∙ (sym end ∙ e)

-- the bytes of the keys that are left
pub enough : (n i size len : ℕ) → i < n → len ≡ (n - i) * size → size ≤ len
enough n i size len h e =
    let more : (n - i) * size ≡ suc (n - (i + 1)) * size = ap (λ (k : ℕ). k * size) (less n i h) in
    omega (arith, e, more, suc-mul (n - (i + 1)) size)

pub one_less : (n i size len : ℕ) → i < n → len ≡ (n - i) * size → len - size ≡ (n - (i + 1)) * size
one_less n i size len h e =
    let more : (n - i) * size ≡ suc (n - (i + 1)) * size = ap (λ (k : ℕ). k * size) (less n i h) in
    omega (arith, e, more, suc-mul (n - (i + 1)) size)

sub_zero : (n : ℕ) → n - 0 ≡ n
sub_zero n = omega arith

-- before the first key
pub all_left : (length count size kinds : ℕ) → length ≡ count * kinds → size ≡ kinds → length ≡ (count - 0) * size
all_left length count size kinds e same = e ∙ (ap (λ (k : ℕ). count * k) (sym same) ∙ ap (λ (n : ℕ). n * size) (sym (sub_zero count)))

pub none_yet : (s : State) (kinds : List Kind) (size now : ℕ) (ids bytes : List ℕ) → take 0 ids ++ ids_in s kinds size now (length ids - 0) bytes ≡ ids_in s kinds size now (length ids) bytes
none_yet s kinds size now ids bytes = ap (λ (n : ℕ). ids_in s kinds size now n bytes) (sub_zero (length ids))

pub found_all : (old : List Generation) (held : List Generation) (new : List Generation) (kinds : List Kind) (set : ℕ) (bytes : List ℕ) (now : ℕ) (ids : List ℕ) (n : ℕ)
    → ((g : Generation) → EndsWith held g → AreFound g kinds set bytes now ids n) → StartsWith held old → held ≡ new → HasFoundAll old new kinds set bytes now ids n
found_all old held new kinds set bytes now ids n h s e = record {
  seen = subst (λ (l : List Generation). StartsWith l old) e s;
  answers = λ g last. h g (subst (λ (l : List Generation). EndsWith l g) (sym e) last);
}
