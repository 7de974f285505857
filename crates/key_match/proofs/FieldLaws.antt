-- The fields of a key beside their kinds.
use Rattle.std.proofs.Common.{◌≡◌, refl, sym, ◌∙◌, ap, ℕ, zero, suc, ◌+◌, ◌<◌, ◌≤◌, ◌==◌, Bool, true, false, ◌&&◌, List, [], ◌∷◌, length, take, get_or, slice_get, Some, zero-add, eqb-true, arith}
use Rattle.std.specs.List.{enumerate_from}
use Rattle.std.proofs.lemmas.List.{take_all}
use Rattle.set_model.specs.declared.kind.Kind.{Kind}
use Rattle.set_model.specs.declared.kind.Kind.TheVariants.{Ipv4}
use Rattle.set_model.specs.Key.{key_fits, values_fit, is_value}
use Rattle.key_match.specs.Holders.{fields}

both : (a b : Bool) → (a && b) ≡ true → (a ≡ true) × (b ≡ true)
both true b h = (refl, h)
both false b h = absurd (cc h)

-- The numbered values of a key.
numbered : (from : ℕ) (key : List ℕ) (i : ℕ) → i < length key → slice_get (enumerate_from from key) i ≡ Some (from + i, get_or key i 0)
numbered from [] i h = absurd (omega (arith, h))
numbered from (value ∷ key) zero h = ap (λ n. Some (n, value)) (omega arith)
numbered from (value ∷ key) (suc i) h = numbered (from + 1) key i (omega (arith, h)) ∙ ap (λ n. Some (n, get_or key i 0)) (omega arith)

pub field_at : (key : List ℕ) (i : ℕ) → i < length key → slice_get (fields key) i ≡ Some (i, get_or key i 0)
field_at key i h = numbered 0 key i h ∙ ap (λ n. Some (n, get_or key i 0)) (zero-add i)

length-numbered : (from : ℕ) (key : List ℕ) → length (enumerate_from from key) ≡ length key
length-numbered from [] = refl
length-numbered from (value ∷ key) = ap suc (length-numbered (from + 1) key)

pub fields-all : (key : List ℕ) (i : ℕ) → length key ≤ i → take i (fields key) ≡ fields key
fields-all key i past = take_all i (fields key) (let long = length-numbered 0 key in omega (arith, long, past))

good_value : (kinds : List Kind) (key : List ℕ) (i : ℕ) → values_fit kinds key ≡ true → i < length kinds → i < length key → is_value (get_or kinds i Ipv4) (get_or key i 0) ≡ true
good_value [] key i fit h k = absurd (omega (arith, h))
good_value (kind ∷ kinds) [] i fit h k = absurd (omega (arith, k))
good_value (kind ∷ kinds) (value ∷ key) zero fit h k = (both (is_value kind value) (values_fit kinds key) fit).0
good_value (kind ∷ kinds) (value ∷ key) (suc i) fit h k = good_value kinds key i ((both (is_value kind value) (values_fit kinds key) fit).1) (omega (arith, h)) (omega (arith, k))

-- A key that fits has a value of each kind.
pub field_within : (kinds : List Kind) (key : List ℕ) (i : ℕ) → key_fits kinds key ≡ true → i < length key → i < length kinds
field_within kinds key i fit h = let same : length kinds ≡ length key = eqb-true (length kinds) (length key) ((both (length kinds == length key) (values_fit kinds key) fit).0) in omega (arith, h, same)

pub value_good : (kinds : List Kind) (key : List ℕ) (i : ℕ) → key_fits kinds key ≡ true → i < length key → is_value (get_or kinds i Ipv4) (get_or key i 0) ≡ true
value_good kinds key i fit h = good_value kinds key i ((both (length kinds == length key) (values_fit kinds key) fit).1) (field_within kinds key i fit h) h
