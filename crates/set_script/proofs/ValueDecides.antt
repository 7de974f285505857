-- The computed interval of a text is the one that the text means.
use Rattle.std.proofs.Common.{◌≡◌, ◌≤◌, ◌<◌, ◌^◌, inl, inr, nat_le, bytes_eq, codes, arith, refl, sym, ◌∙◌, ap, subst, ℕ, List, Bool, true, false, ◌||◌, ◌==◌, Option, Some, None, cond}
use Rattle.std.proofs.lemmas.Bool.{eqb-true, eq-eqb, leb-true, le-leb}
use Rattle.std.proofs.lemmas.Option.{cond_some}
use Rattle.addr_text.specs.Numbers.{IsNumberUpTo}
use Rattle.addr_text.specs.Times.{IsTime}
use Rattle.addr_text.specs.TimesRead.{time_of}
use Rattle.addr_text.specs.ValuesRead.{number_of}
use Rattle.addr_text.proofs.NumberLaws.{number_of_sound, number_of_complete}
use Rattle.addr_text.proofs.TimeLaws.{time_of_sound, time_of_complete}
use Rattle.token_forms.proofs.WordLaws.{bytes_same}
use Rattle.set_model.specs.declared.kind.Kind.{Kind}
use Rattle.set_model.specs.declared.kind.Interval.{Interval}
use Rattle.addr_text.specs.IntervalsRead.{interval_of}
use Rattle.addr_text.proofs.IntervalLaws.{interval_of_sound, interval_of_complete}
use Rattle.token_forms.proofs.WordLaws.{TextDecides}
use Rattle.set_script.specs.Limits.{last_moment, most_elements}
use Rattle.set_script.specs.Values.{IsPart, part_value, part_of, IsLife, life_of, at_least, IsMoment, moment_of, IsSize, size_of}

narrow : (wide same : Bool) → (wide || same) ≡ true → wide ≡ false → same ≡ true
narrow true same h w = absurd (cc w)
narrow false same h w = h

sound : (wide : Bool) (kind : Kind) (text : List ℕ) (part : Interval) (v : Option Interval) → interval_of kind text ≡ v → part_value wide v ≡ Some part → IsPart wide kind text part
sound wide kind text part None e h = absurd (cc h)
sound wide kind text part (Some i) e h = go (wide || (i.high == i.low)) refl h where
  go : (b : Bool) → (wide || (i.high == i.low)) ≡ b → cond b (Some i) None ≡ Some part → IsPart wide kind text part
  go false k h = absurd (cc h)
  go true k h =
      let same : i ≡ part = cc h in
      let at : interval_of kind text ≡ Some part = e ∙ h in
      (interval_of_sound kind text part at, λ w. subst (λ (p : Interval). p.high ≡ p.low) same (eqb-true i.high i.low (narrow wide (i.high == i.low) k w)))

allowed : (wide : Bool) (part : Interval) → (wide ≡ false → part.high ≡ part.low) → (wide || (part.high == part.low)) ≡ true
allowed true part h = refl
allowed false part h = eq-eqb part.high part.low (h refl)

pub part_decides : (wide : Bool) (kind : Kind) → TextDecides (IsPart wide kind) (part_of wide kind)
part_decides wide kind = record {
  sound = λ text part h. sound wide kind text part (interval_of kind text) refl h;
  complete = λ text part w. ap (part_value wide) (interval_of_complete kind text part w.0) ∙ ap (λ b. cond b (Some part) None) (allowed wide part w.1);
}

pub time_decides : TextDecides IsTime time_of
time_decides = record { sound = time_of_sound; complete = time_of_complete }

life_sound : (text : List ℕ) (life : ℕ) → life_of text ≡ Some life → IsLife text life
life_sound text life h = go (bytes_eq text (codes "never")) refl h where
  go : (b : Bool) → bytes_eq text (codes "never") ≡ b → cond b (Some 0) (time_of text) ≡ Some life → IsLife text life
  go true e h = let none : 0 ≡ life = cc h in inl (bytes_same text (codes "never") e, sym none)
  go false e h = inr (λ never. let same : bytes_eq text (codes "never") ≡ true = rw never refl in absurd (cc (e, same)), time_of_sound text life h)

life_complete : (text : List ℕ) (life : ℕ) → IsLife text life → life_of text ≡ Some life
life_complete text life (inl (never, none)) = rw (never, none) refl
life_complete text life (inr (other, time)) = go (bytes_eq text (codes "never")) refl where
  go : (b : Bool) → bytes_eq text (codes "never") ≡ b → cond b (Some 0) (time_of text) ≡ Some life
  go true e = absurd (other (bytes_same text (codes "never") e))
  go false e = time_of_complete text life time

pub life_decides : TextDecides IsLife life_of
life_decides = record { sound = life_sound; complete = life_complete }

at_least_some : (low : ℕ) (o : Option ℕ) (n : ℕ) → at_least low o ≡ Some n → (o ≡ Some n) × (low ≤ n)
at_least_some low None n h = absurd (cc h)
at_least_some low (Some m) n h =
    let k = cond_some (nat_le low m) m n h in
    (ap Some k.1, subst (λ z. low ≤ z) k.1 (leb-true low m k.0))

at_least_here : (low n : ℕ) → low ≤ n → at_least low (Some n) ≡ Some n
at_least_here low n h = ap (λ b. cond b (Some n) None) (le-leb low n h)

numbers_decide : (most low : ℕ) → most < 2 ^ 64 → TextDecides (λ text n. IsNumberUpTo most text n × (low ≤ n)) (λ text. at_least low (number_of most text))
numbers_decide most low small = record {
  sound = λ text n h. let k = at_least_some low (number_of most text) n h in (number_of_sound most text n small k.0, k.1);
  complete = λ text n w. ap (at_least low) (number_of_complete most text n small w.0) ∙ at_least_here low n w.1;
}

pub moment_decides : (before : ℕ) → TextDecides (IsMoment before) (moment_of before)
moment_decides before = numbers_decide last_moment before (omega arith)

pub size_decides : TextDecides IsSize size_of
size_decides = numbers_decide most_elements 1 (omega arith)
