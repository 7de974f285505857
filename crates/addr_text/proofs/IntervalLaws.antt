-- `interval_of` decides the relation between texts and intervals.
use Rattle.std.proofs.Common.{◌≡◌, ℕ, ◌+◌, ◌-◌, ◌*◌, ◌/◌, ◌^◌, ◌<◌, ◌≤◌, ◌==◌, Bool, true, false, cond, List, [], ◌∷◌, ◌++◌, length, take, drop, Option, Some, None, Result, ok_or, IfOk, refl, sym, ap, ◌∙◌, subst, arith, inl, inr, lit≤, append-nil, take_at, drop_at, take-append-drop, le-leb, lt-ltb}
use Rattle.std.proofs.Math.Nat.{mul-le-mul_right}
use Rattle.std.proofs.lemmas.Nat.{div_below, pow_pos, pow-add}
use Rattle.std.proofs.lemmas.Bool.{eqb-true, leb-true, and_from}
use Rattle.std.proofs.lemmas.Option.{none-some, same_Some}
use Rattle.std.specs.Net.Grammar.{Parses}
use Rattle.std.proofs.NetLemmas.Options.{cond_some, and_then_some}
use Rattle.set_model.specs.Key.{is_good}
use Rattle.set_model.specs.Kind.{bits_of}
use Rattle.set_model.specs.declared.kind.Kind.{Kind}
use Rattle.set_model.specs.declared.kind.Kind.TheVariants.{Ipv4, Ipv6, Ether, Proto, Service, Mark}
use Rattle.set_model.specs.declared.kind.Interval.{Interval}
use Rattle.addr_text.specs.Intervals.{block_of, IsPrefix, IsRange, IsInterval}
use Rattle.addr_text.specs.IntervalsRead.{first_end, prefix_of, range_of, interval_behind, interval_of}
use Rattle.addr_text.specs.Values.{IsValue}
use Rattle.addr_text.specs.ValuesRead.{number_of, value_of}
use Rattle.addr_text.proofs.NumberLaws.{number_of_sound, number_of_complete}
use Rattle.addr_text.proofs.ValueLaws.{value_of_sound, value_of_complete}
use Rattle.addr_text.proofs.FitLaws.{IsValue-fits}
use Rattle.addr_text.proofs.DashLaws.{end-nil, end-slash, end-dash}

pub bits_of-le : (kind : Kind) → bits_of kind ≤ 128
bits_of-le Ipv4 = lit≤ tt
bits_of-le Ipv6 = lit≤ tt
bits_of-le Ether = lit≤ tt
bits_of-le Proto = lit≤ tt
bits_of-le Service = lit≤ tt
bits_of-le Mark = lit≤ tt

prefix_of_sound : (kind : Kind) (front digits : List ℕ) (value : ℕ) (part : Interval) → IsValue kind front value → prefix_of kind value digits ≡ Some part → IsPrefix kind (front ++ 47 ∷ digits) part
unfolding prefix_of
prefix_of_sound kind front digits value part is e =
    and_then_some _ (number_of (bits_of kind) digits) _ e λ fixed read same.
    record {
      front = front;
      digits = digits;
      value = value;
      fixed = fixed;
      spelled = refl;
      front_value = is;
      length = number_of_sound (bits_of kind) digits fixed (omega (arith, bits_of-le kind)) read;
      block = sym (same_Some (block_of (bits_of kind) fixed value) part same);
    }

range_of_sound : (kind : Kind) (front behind : List ℕ) (value : ℕ) (part : Interval) → IsValue kind front value → range_of kind value behind ≡ Some part → IsRange kind (front ++ 45 ∷ behind) part
unfolding range_of
range_of_sound kind front behind value part is e =
    and_then_some _ (value_of kind behind) _ e λ high read kept.
    let (test, same) = cond_some _ _ _ kept in
    subst (IsRange kind (front ++ 45 ∷ behind)) same (record {
      front = front;
      behind = behind;
      spelled = refl;
      low = is;
      high = value_of_sound kind behind high read;
      rises = leb-true value high test;
    })

behind_sound : (kind : Kind) (front rest : List ℕ) (value : ℕ) (part : Interval) → IsValue kind front value → interval_behind kind value rest ≡ Some part → IsInterval kind (front ++ rest) part
unfolding interval_behind
behind_sound kind front [] value part is e = rw append-nil (subst (IsInterval kind front) (same_Some _ part e) (inl (record { value = is; same = refl })))
behind_sound kind front (mark ∷ behind) value part is e = go (mark == 47) refl e where
  dash : (b : Bool) → (mark == 45) ≡ b → cond b (range_of kind value behind) None ≡ Some part → IsInterval kind (front ++ mark ∷ behind) part
  dash true test found = rw (eqb-true mark 45 test) (inr (inr (range_of_sound kind front behind value part is found)))
  dash false test found = absurd (none-some part found)

  go : (b : Bool) → (mark == 47) ≡ b → cond b (prefix_of kind value behind) (cond (mark == 45) (range_of kind value behind) None) ≡ Some part → IsInterval kind (front ++ mark ∷ behind) part
  go true test found = rw (eqb-true mark 47 test) (inr (inl (prefix_of_sound kind front behind value part is found)))
  go false test found = dash (mark == 45) refl found

pub interval_of_sound : (kind : Kind) (text : List ℕ) (part : Interval) → interval_of kind text ≡ Some part → IsInterval kind text part
unfolding interval_of
interval_of_sound kind text part e =
    and_then_some _ (value_of kind (take (first_end kind text) text)) _ e λ value read kept.
    let found = behind_sound kind (take (first_end kind text) text) (drop (first_end kind text) text) value part (value_of_sound kind _ value read) kept in
    subst (λ (t : List ℕ). IsInterval kind t part) (take-append-drop (first_end kind text) text) found

at_value : (kind : Kind) (front rest : List ℕ) (value : ℕ) → IsValue kind front value → first_end kind (front ++ rest) ≡ length front → interval_of kind (front ++ rest) ≡ interval_behind kind value rest
unfolding interval_of
at_value kind front rest value is ends =
    rw (ends, take_at front rest (length front) refl, drop_at front rest (length front) refl, value_of_complete kind front value is) refl

pub interval_of_complete : (kind : Kind) (text : List ℕ) (part : Interval) → IsInterval kind text part → interval_of kind text ≡ Some part
unfolding interval_behind prefix_of range_of
interval_of_complete kind text part (inl h) =
    let found = rw append-nil at (at_value kind text [] part.low h.value (end-nil kind text part.low h.value)) in
    found ∙ (λ i. Some (record { low = part.low; high = h.same i }))
interval_of_complete kind text part (inr (inl h)) =
    let found = at_value kind h.front (47 ∷ h.digits) h.value h.front_value (end-slash kind h.front h.digits h.value h.front_value) in
    let fixed = number_of_complete (bits_of kind) h.digits h.fixed (omega (arith, bits_of-le kind)) h.length in
    rw h.spelled (found ∙ rw fixed (ap Some (sym h.block)))
interval_of_complete kind text part (inr (inr h)) =
    let found = at_value kind h.front (45 ∷ h.behind) part.low h.low (end-dash kind h.front h.behind part.low part.high h.low h.high h.rises) in
    rw h.spelled (found ∙ rw (value_of_complete kind h.behind part.high h.high, le-leb part.low part.high h.rises) refl)

pub IsInterval_unique : (kind : Kind) (text : List ℕ) (x y : Interval) → IsInterval kind text x → IsInterval kind text y → x ≡ y
IsInterval_unique kind text x y h k = same_Some x y (sym (interval_of_complete kind text x h) ∙ interval_of_complete kind text y k)

-- a block of values with so many bits has no more bits
pub block-le : (bits host value : ℕ) → host ≤ bits → value < 2 ^ bits → value / 2 ^ host * 2 ^ host + 2 ^ host ≤ 2 ^ bits
block-le bits host value inside fits =
    let power : 2 ^ bits ≡ 2 ^ (bits - host) * 2 ^ host = ap (λ n. 2 ^ n) (omega arith) ∙ pow-add 2 (bits - host) host in
    let below : value / 2 ^ host < 2 ^ (bits - host) = div_below value (2 ^ host) (2 ^ (bits - host)) (pow_pos host) (omega (arith, power)) in
    let scaled : (value / 2 ^ host + 1) * 2 ^ host ≤ 2 ^ (bits - host) * 2 ^ host = mul-le-mul_right (2 ^ host) (omega arith) in
    omega (arith, scaled, power)

block_good : (bits fixed value : ℕ) → fixed ≤ bits → value < 2 ^ bits → ((block_of bits fixed value).low ≤ (block_of bits fixed value).high) × ((block_of bits fixed value).high < 2 ^ bits)
block_good bits fixed value inside fits =
    let room = block-le bits (bits - fixed) value (omega arith) fits in
    let some = pow_pos (bits - fixed) in
    (omega arith, omega (arith, room, some))

pub IsInterval-good : (kind : Kind) (text : List ℕ) (part : Interval) → IsInterval kind text part → is_good kind part ≡ true
IsInterval-good kind text part h = let (rises, fits) = ends kind text part h in and_from _ _ (le-leb part.low part.high rises) (lt-ltb part.high (2 ^ bits_of kind) fits) where
  ends : (kind : Kind) (text : List ℕ) (part : Interval) → IsInterval kind text part → (part.low ≤ part.high) × (part.high < 2 ^ bits_of kind)
  ends kind text part (inl h) = let fits = IsValue-fits kind text part.low h.value in let same = h.same in (omega arith, omega arith)
  ends kind text part (inr (inl h)) =
      subst (λ (p : Interval). (p.low ≤ p.high) × (p.high < 2 ^ bits_of kind)) (sym h.block) (block_good (bits_of kind) h.fixed h.value h.length.0 (IsValue-fits kind h.front h.value h.front_value))
  ends kind text part (inr (inr h)) = (h.rises, IsValue-fits kind h.behind part.high h.high)

-- a reader that answers the computed interval answers by the relation
pub parses_interval : {E : Type 0} (kind : Kind) (text : List ℕ) (r : Result Interval E) (e : E) → r ≡ ok_or (interval_of kind text) e → Parses (IsInterval kind) text r
parses_interval {E} kind text r e is = rw is (go (interval_of kind text) refl) where
  go : (o : Option Interval) → interval_of kind text ≡ o → Parses (IsInterval kind) text (ok_or o e)
  go None read = λ x h. none-some x (sym read ∙ interval_of_complete kind text x h)
  go (Some x) read = interval_of_sound kind text x read

pub good_interval : {E : Type 0} (kind : Kind) (text : List ℕ) (r : Result Interval E) (e : E) → r ≡ ok_or (interval_of kind text) e → IfOk r (λ part. is_good kind part ≡ true)
good_interval {E} kind text r e is = rw is (go (interval_of kind text) refl) where
  go : (o : Option Interval) → interval_of kind text ≡ o → IfOk (ok_or o e) (λ part. is_good kind part ≡ true)
  go None read = tt
  go (Some x) read = IsInterval-good kind text x (interval_of_sound kind text x read)
