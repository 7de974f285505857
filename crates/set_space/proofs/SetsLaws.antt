-- The states of the sets of a work, if one of them changes or all changes are taken back.
use Rattle.std.proofs.Common.{◌≡◌, refl, sym, ◌∙◌, ap, subst, ℕ, zero, suc, ◌+◌, ◌<◌, ◌≤◌, List, [], ◌∷◌, ◌++◌, length, take, map, get_or, slice_get, slice_set, Some, Bool, true, not, count_by, arith, add-one}
use Rattle.std.specs.Prelude.{IsTrue, ◌↔◌}
use Rattle.std.proofs.lemmas.List.{map-append, take_all}
use Rattle.std.proofs.lemmas.List.Sums.{fold-append}
use Rattle.set_model.specs.declared.kind.Interval.{Interval}
use Rattle.set_model.specs.Key.{parts_fit}
use Rattle.set_model.specs.SetState.{State, purged}
use Rattle.set_model.specs.Expiry.{live}
use Rattle.set_model.specs.Control.{Generation, expired_count}
use Rattle.set_space.specs.declared.open_set.OpenSet.{OpenSet}
use Rattle.set_space.specs.declared.open_set.OpenSet.TheVariants.{Unchanged}
use Rattle.set_space.specs.OpenSets.{open_state, open_states, IsSealed}
use Rattle.set_space.specs.Open.{Open, FitsSet, with_open_set, IsChange}

module _ {X : Type 0} where
  pub set-same : (xs : List X) (i : ℕ) (x : X) → slice_get xs i ≡ Some x → slice_set xs i x ≡ xs
  set-same [] i x h = absurd (cc h)
  set-same (y ∷ ys) zero x h = let e : y ≡ x = cc h in ap (λ z. z ∷ ys) (sym e)
  set-same (y ∷ ys) (suc i) x h = ap (λ r. y ∷ r) (set-same ys i x h)

pub open-long : (os : List OpenSet) (bs : List State) → length os ≡ length bs → length (open_states os bs) ≡ length bs
open-long [] [] h = refl
open-long [] (b ∷ bs) h = absurd (omega (arith, h))
open-long (o ∷ os) [] h = absurd (omega (arith, h))
open-long (o ∷ os) (b ∷ bs) h = let r = open-long os bs (omega (arith, h)) in omega (arith, r)

pub open-at : (os : List OpenSet) (bs : List State) (i : ℕ) (o : OpenSet) (b : State) → i < length os → o ≡ get_or os i o → slice_get bs i ≡ Some b
    → slice_get (open_states os bs) i ≡ Some (open_state o b)
open-at [] bs i o b h e g = absurd (omega (arith, h))
open-at (p ∷ os) [] i o b h e g = absurd (cc g)
open-at (p ∷ os) (c ∷ bs) zero o b h e g = let same : c ≡ b = cc g in ap (λ z. Some (open_state z c)) (sym e) ∙ ap (λ z. Some (open_state o z)) same
open-at (p ∷ os) (c ∷ bs) (suc i) o b h e g = open-at os bs i o b (omega (arith, h)) e g

pub open-set : (os : List OpenSet) (bs : List State) (i : ℕ) (o : OpenSet) (b : State) → i < length os → slice_get bs i ≡ Some b
    → open_states (slice_set os i o) bs ≡ slice_set (open_states os bs) i (open_state o b)
open-set [] bs i o b h g = absurd (omega (arith, h))
open-set (p ∷ os) [] i o b h g = absurd (cc g)
open-set (p ∷ os) (c ∷ bs) zero o b h g = let same : c ≡ b = cc g in ap (λ z. open_state o z ∷ open_states os bs) same
open-set (p ∷ os) (c ∷ bs) (suc i) o b h g = ap (λ r. open_state p c ∷ r) (open-set os bs i o b (omega (arith, h)) g)

unchanged-from : (os : List OpenSet) (bs : List State) → length os ≡ length bs → ((i : ℕ) (o : OpenSet) → i < length bs → get_or os i o ≡ Unchanged) → open_states os bs ≡ bs
unchanged-from [] [] h each = refl
unchanged-from [] (b ∷ bs) h each = absurd (omega (arith, h))
unchanged-from (o ∷ os) [] h each = absurd (omega (arith, h))
unchanged-from (o ∷ os) (b ∷ bs) h each =
    let here : o ≡ Unchanged = each 0 o (omega arith) in
    ap (λ z. open_state z b ∷ open_states os bs) here
    ∙ ap (λ r. b ∷ r) (unchanged-from os bs (omega (arith, h)) (λ i p lt. each (suc i) p (omega (arith, lt))))

-- Without a change the sets are those of the base.
pub unchanged_states : (os : List OpenSet) (bs : List State) → length os ≡ length bs → ((i : ℕ) (o : OpenSet) → i < length bs → get_or os i o ≡ Unchanged) → open_states os bs ≡ bs
unchanged_states os bs long each = unchanged-from os bs long each

-- A set that represents the same state.
pub open-kept : (os : List OpenSet) (bs : List State) (i : ℕ) (o n : OpenSet) (b : State) → i < length os → o ≡ get_or os i o → slice_get bs i ≡ Some b
    → open_state n b ≡ open_state o b → open_states (slice_set os i n) bs ≡ open_states os bs
open-kept os bs i o n b h e at same =
    open-set os bs i n b h at ∙ ap (λ z. slice_set (open_states os bs) i z) same ∙ set-same (open_states os bs) i (open_state o b) (open-at os bs i o b h e at)

-- one more state is published and counted
take-more : (xs : List State) (i : ℕ) (x : State) → slice_get xs i ≡ Some x → take (suc i) xs ≡ take i xs ++ x ∷ []
take-more [] i x h = absurd (cc h)
take-more (y ∷ ys) zero x h = let e : y ≡ x = cc h in ap (λ z. z ∷ []) e
take-more (y ∷ ys) (suc i) x h = ap (λ r. y ∷ r) (take-more ys i x h)

count-more : (xs : List State) (x : State) (now : ℕ) → expired_count (xs ++ x ∷ []) now ≡ expired_count xs now + count_by (λ e. not (live e now)) x.elements
count-more xs x now = fold-append (λ a (s : State). a + count_by (λ e. not (live e now)) s.elements) 0 xs (x ∷ [])

pub sealed-more : (states : List State) (i now : ℕ) (published : List State) (total : ℕ) (image : State) (count : ℕ) → IsSealed states i now image count
    → published ≡ map (λ s. purged s now) (take i states) → total ≡ expired_count (take i states) now
    → (published ++ image ∷ [] ≡ map (λ s. purged s now) (take (i + 1) states)) × (total + count ≡ expired_count (take (i + 1) states) now)
sealed-more states i now published total image count h p t =
    let next : take (i + 1) states ≡ take i states ++ h.state ∷ [] = rw add-one (take-more states i h.state h.at) in (
      ap (λ z. z ++ image ∷ []) p ∙ ap (λ z. map (λ s. purged s now) (take i states) ++ z ∷ []) h.published_is ∙ sym (map-append (λ s. purged s now) (take i states) (h.state ∷ [])) ∙ sym (ap (map (λ s. purged s now)) next),
      ap (λ z. z + count) t ∙ ap (λ z. expired_count (take i states) now + z) h.expired ∙ sym (count-more (take i states) h.state now) ∙ sym (ap (λ z. expired_count z now) next),
    )

pub sealed-all : (states : List State) (i now : ℕ) (published : List State) (total : ℕ) → length states ≤ i
    → published ≡ map (λ s. purged s now) (take i states) → total ≡ expired_count (take i states) now
    → (published ≡ map (λ s. purged s now) states) × (total ≡ expired_count states now)
sealed-all states i now published total over p t =
    let whole : take i states ≡ states = take_all i states over in
    (p ∙ ap (map (λ s. purged s now)) whole, t ∙ ap (λ z. expired_count z now) whole)

-- the places of a work
pub set-within : (g d : Generation) (os : List OpenSet) (i : ℕ) (w : Open) → record { base = g; sets = open_states os g.sets } ≡ w
    → length os ≡ length g.sets → d ≡ g → i < length w.sets → i < length d.sets
set-within g d os i w is long same h =
    let inside : i < length (open_states os g.sets) = subst (λ (z : Open). i < length z.sets) (sym is) h in
    let here : i < length g.sets = subst (λ n. i < n) (open-long os g.sets long) inside in
    subst (λ (z : Generation). i < length z.sets) (sym same) here

pub open-within : (g : Generation) (os : List OpenSet) (i : ℕ) (w : Open) → record { base = g; sets = open_states os g.sets } ≡ w
    → length os ≡ length g.sets → i < length w.sets → i < length os
open-within g os i w is long h = subst (λ n. i < n) (sym long) (set-within g g os i w is long refl h)

-- ---- the set at a place of a work, as it is kept open beside the base's
module _ (g d : Generation) (os : List OpenSet) (i : ℕ) (o : OpenSet) (b : State) (w : Open) (is : record { base = g; sets = open_states os g.sets } ≡ w) (long : length os ≡ length g.sets) (same : d ≡ g) (inside : i < length w.sets) (here : o ≡ get_or os i o) (at : slice_get d.sets i ≡ Some b) where
  in-open : i < length os
  in-open = open-within g os i w is long inside

  in-base : slice_get g.sets i ≡ Some b
  in-base = ap (λ (z : Generation). slice_get z.sets i) (sym same) ∙ at

  -- its state
  pub work-at : slice_get w.sets i ≡ Some (open_state o b)
  work-at = ap (λ (z : Open). slice_get z.sets i) (sym is) ∙ open-at os g.sets i o b in-open here in-base

  -- The work whose set was changed.
  pub one-changed : (step : State → State → Type 0) (n : OpenSet) → step (open_state o b) (open_state n b) → IsChange step w i (record { base = g; sets = open_states (slice_set os i n) g.sets })
  one-changed step n done = record {
    state = open_state o b;
    left = open_state n b;
    at = work-at;
    changed = done;
    others = ap (λ r. record { base = g; sets = r }) (open-set os g.sets i n b in-open in-base) ∙ ap (λ z. with_open_set z i (open_state n b)) is;
  }

  -- The work whose set was left unchanged.
  pub none-changed : (n : OpenSet) → open_state n b ≡ open_state o b → record { base = g; sets = open_states (slice_set os i n) g.sets } ≡ w
  none-changed n left = ap (λ r. record { base = g; sets = r }) (open-kept os g.sets i o n b in-open here in-base left) ∙ is

pub change-weaker : (P Q : State → State → Type 0) (old new : Open) (i : ℕ) → ((s t : State) → P s t → Q s t) → IsChange P old i new → IsChange Q old i new
change-weaker P Q old new i more h = record { state = h.state; left = h.left; at = h.at; changed = more h.state h.left h.changed; others = h.others }

-- a work has as many sets as its base
pub work-long : (g d : Generation) (os : List OpenSet) (w : Open) → record { base = g; sets = open_states os g.sets } ≡ w → length os ≡ length g.sets → d ≡ g → length d.sets ≡ length w.sets
work-long g d os w is long same =
    ap (λ (z : Generation). length z.sets) same ∙ sym (open-long os g.sets long) ∙ ap (λ (z : Open). length z.sets) is

-- Intervals fit the set at a place exactly if they fit the kinds of its state.
pub fits_at : (w : Open) (i : ℕ) (s : State) (parts : List Interval) (b : Bool) → slice_get w.sets i ≡ Some s → b ≡ parts_fit s.kinds parts → IsTrue b ↔ FitsSet w i parts
fits_at w i s parts b at test = (
  λ fit t there. let same : s ≡ t = cc (sym at ∙ there) in subst (λ (z : State). parts_fit z.kinds parts ≡ true) same (sym test ∙ fit),
  λ fit. test ∙ fit s at,
)
