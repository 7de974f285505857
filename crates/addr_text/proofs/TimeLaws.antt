-- `time_of` decides the relation between texts and times.
use Rattle.std.proofs.Common.{◌≡◌, ℕ, ◌+◌, ◌*◌, ◌^◌, ◌<◌, ◌≤◌, ◌⊎◌, ◌==◌, nat_lt, not, Bool, true, false, cond, List, [], ◌∷◌, ◌++◌, length, take, drop, Option, Some, None, Result, ok_or, IfOk, bytes_eq, refl, sym, ap, ◌∙◌, subst, arith, inl, inr, lit≤, lit<, append-nil, add-zero, zero-add, take_at, drop_at, take-append-drop, le-leb, le-ltb, lt-ltb, length-append}
use Rattle.std.proofs.Math.Nat.{pow-le-pow_right}
use Rattle.std.proofs.lemmas.Bool.{eqb-true, leb-true, ltb-false, and_parts, both_ways, cases_lt, or_left, or_right}
use Rattle.std.proofs.lemmas.List.{nil_from_length}
use Rattle.std.proofs.lemmas.List.Folds.{length-prefix_len}
use Rattle.std.proofs.lemmas.Option.{none-some, same_Some}
use Rattle.std.proofs.lemmas.Int.Digits.{digits_value-lt}
use Rattle.std.proofs.lemmas.Slice.Eq.{bytes_eq-Decides}
use Rattle.std.specs.Char.{digit_value}
use Rattle.std.specs.List.{list_all, list_any}
use Rattle.std.specs.Net.Grammar.{Parses}
use Rattle.std.specs.Net.Reader.{read_number}
use Rattle.std.proofs.NetLemmas.Options.{cond_some, cond_none, and_then_some}
use Rattle.std.proofs.NetLemmas.Numbers.{NoDigit, read_number_some, read_number_sound, read_number_empty}
use Rattle.addr_text.specs.Times.{units, longest_time, IsCount, IsParts, IsSeconds, IsTime}
use Rattle.addr_text.specs.TimesRead.{is_no_digit, letters_len, TimePart, time_part, time_parts, duration_of, time_of}

-- no letter begins the text
Unlettered : List ℕ → Type 0
Unlettered text = letters_len text ≡ 0

letters_len-append : (name rest : List ℕ) → list_all is_no_digit name ≡ true → letters_len rest ≡ 0 → letters_len (name ++ rest) ≡ length name
letters_len-append [] rest all stop = stop
letters_len-append (c ∷ name) rest all stop =
    let (first, others) = and_parts (is_no_digit c) (list_all is_no_digit name) all in
    let later = letters_len-append name rest others stop in
    rw first (omega arith)

-- a unit's name: letters, one at least
pub record IsName (name : List ℕ) : Type 0 where
  some : 0 < length name
  letters : list_all is_no_digit name ≡ true

letter_from : (d : ℕ) → not (nat_lt d 10) ≡ true → 10 ≤ d
letter_from d h = elim (cases_lt d 10) [ inl below ↦ (let wrong : not true ≡ true = rw (lt-ltb d 10 below) at h in cc) | inr above ↦ above ]

letter_stops : (c : ℕ) → is_no_digit c ≡ true → 10 ≤ digit_value c
letter_stops c h = letter_from (digit_value c) h

name_stops : (name rest : List ℕ) → IsName name → NoDigit 10 (name ++ rest)
name_stops [] rest h = absurd (omega (arith, h.some))
name_stops (c ∷ name) rest h = letter_stops c (and_parts (is_no_digit c) (list_all is_no_digit name) h.letters).0

part_of_complete : (digits name rest : List ℕ) (count : ℕ) → IsCount digits count → NoDigit 10 (name ++ rest) → list_all is_no_digit name ≡ true → letters_len rest ≡ 0 → time_part (digits ++ (name ++ rest)) ≡ Some (record { count = count; name = name; behind = rest })
unfolding time_part
part_of_complete digits name rest count h stop letters unlettered =
    let below = digits_value-lt 10 digits h.0.0.1 in
    let most : 10 ^ length digits ≤ 10 ^ 15 = pow-le-pow_right (lit≤ tt) h.1 in
    let read = read_number_some 10 999_999_999_999_999 digits (name ++ rest) h.0.0 (omega arith) stop in
    let len = letters_len-append name rest letters unlettered in
    rw (read, le-ltb 15 (length digits) h.1, drop_at digits (name ++ rest) (length digits) refl, len, take_at name rest (length name) refl, drop_at name rest (length name) refl, h.0.1) refl

record IsPartOf (text : List ℕ) (part : TimePart) : Type 0 where
  digits : List ℕ
  count : IsCount digits part.count
  spelled : text ≡ digits ++ (part.name ++ part.behind)
  stops : NoDigit 10 (part.name ++ part.behind)
  letters : letters_len (part.name ++ part.behind) ≡ length part.name

part_of_sound : (text : List ℕ) (part : TimePart) → time_part text ≡ Some part → IsPartOf text part
unfolding time_part
part_of_sound text part e =
    and_then_some _ (read_number 10 999_999_999_999_999 text) _ e λ n read kept.
    let (test, same) = cond_none _ _ _ kept in
    let (number, fits, len, stop) = read_number_sound 10 999_999_999_999_999 text n.0 n.1 (lit≤ tt) read in
    let rest = drop n.1 text in
    let joined = take-append-drop (letters_len rest) rest in
    subst (IsPartOf text) (same_Some _ part same) (record {
      digits = take n.1 text;
      count = (number, omega (arith, ltb-false 15 n.1 test));
      spelled = sym (take-append-drop n.1 text) ∙ ap (λ t. take n.1 text ++ t) (sym joined);
      stops = rw joined stop;
      letters = ap letters_len joined ∙ sym (length-prefix_len is_no_digit rest);
    })

part_of-nil : time_part [] ≡ None
unfolding time_part
part_of-nil = rw (read_number_empty 10 999_999_999_999_999 [] (lit≤ tt)) refl

-- parts begin with no letter
parts_unlettered : (us : List (List ℕ × ℕ)) (text : List ℕ) (ms : ℕ) → IsParts us text ms → letters_len text ≡ 0
parts_unlettered [] text ms h = rw h.0 refl
parts_unlettered (u ∷ us) text ms (inl h) = parts_unlettered us text ms h
parts_unlettered (u ∷ us) text ms (inr (digits, rest, count, later, split, is, others, value)) = rw split (begins digits is) where
  begins : (digits : List ℕ) → IsCount digits count → letters_len (digits ++ (u.0 ++ rest)) ≡ 0
  begins [] is = absurd (omega (arith, is.0.0.0))
  begins (c ∷ digits) is = rw (lt-ltb (digit_value c) 10 is.0.0.1.0) refl

-- one of the units has this name
abbrev named : List ℕ → List (List ℕ × ℕ) → Bool
named name us = list_any (λ u. bytes_eq u.0 name) us

-- units with names of letters, all different
AreUnits : List (List ℕ × ℕ) → Type 0
AreUnits [] = Unit {0}
AreUnits (u ∷ us) = IsName u.0 × (named u.0 us ≡ false) × AreUnits us

record BeginsNamed (us : List (List ℕ × ℕ)) (text : List ℕ) : Type 0 where
  part : TimePart
  read : time_part text ≡ Some part
  name : named part.name us ≡ true

same_name : (name : List ℕ) → bytes_eq name name ≡ true
same_name name = (bytes_eq-Decides name name).1 refl

parts_begin : (us : List (List ℕ × ℕ)) (text : List ℕ) (ms : ℕ) → AreUnits us → IsParts us text ms → (text ≡ []) ⊎ BeginsNamed us text
unfolding AreUnits
parts_begin [] text ms are h = inl h.0
parts_begin (u ∷ us) text ms are (inl h) = elim (parts_begin us text ms are.2 h) [
  | inl empty ↦ inl empty
  | inr b ↦ inr (record { part = b.part; read = b.read; name = or_right (bytes_eq u.0 b.part.name) _ b.name })
]
parts_begin (u ∷ us) text ms are (inr (digits, rest, count, later, split, is, others, value)) =
    let read = part_of_complete digits u.0 rest count is (name_stops u.0 rest are.0) are.0.letters (parts_unlettered us rest later others) in
    inr (record { part = record { count = count; name = u.0; behind = rest }; read = rw split read; name = or_left _ (named u.0 us) (same_name u.0) })

-- no unit is left: the end of the text, or not
pub parts_of-end : (total : ℕ) (text : List ℕ) → (length text == 0) ≡ true → time_parts [] total text ≡ Some total
unfolding time_parts
parts_of-end total text test = rw test refl

pub parts_of-bad : (total : ℕ) (text : List ℕ) → (length text == 0) ≡ false → time_parts [] total text ≡ None
unfolding time_parts
parts_of-bad total text test = rw test refl

-- One unit of those that are left: the text begins with none, with another's part, or with its own.
pub parts_of-none : (u : List ℕ × ℕ) (us : List (List ℕ × ℕ)) (total : ℕ) (text : List ℕ) → time_part text ≡ None → time_parts (u ∷ us) total text ≡ time_parts us total text
unfolding time_parts
parts_of-none u us total text read = ap (λ o. elim o as (λ _. Option ℕ) [ None ↦ time_parts us total text | Some p ↦ cond (bytes_eq p.name u.0) (time_parts us (total + p.count * u.1) p.behind) (time_parts us total text) ]) read

pub parts_of-other : (u : List ℕ × ℕ) (us : List (List ℕ × ℕ)) (total : ℕ) (text : List ℕ) (part : TimePart) → time_part text ≡ Some part → bytes_eq part.name u.0 ≡ false → time_parts (u ∷ us) total text ≡ time_parts us total text
unfolding time_parts
parts_of-other u us total text part read test =
    ap (λ o. elim o as (λ _. Option ℕ) [ None ↦ time_parts us total text | Some p ↦ cond (bytes_eq p.name u.0) (time_parts us (total + p.count * u.1) p.behind) (time_parts us total text) ]) read ∙ ap (λ b. cond b (time_parts us (total + part.count * u.1) part.behind) (time_parts us total text)) test

pub parts_of-same : (u : List ℕ × ℕ) (us : List (List ℕ × ℕ)) (total : ℕ) (text : List ℕ) (part : TimePart) → time_part text ≡ Some part → bytes_eq part.name u.0 ≡ true → time_parts (u ∷ us) total text ≡ time_parts us (total + part.count * u.1) part.behind
unfolding time_parts
parts_of-same u us total text part read test =
    ap (λ o. elim o as (λ _. Option ℕ) [ None ↦ time_parts us total text | Some p ↦ cond (bytes_eq p.name u.0) (time_parts us (total + p.count * u.1) p.behind) (time_parts us total text) ]) read ∙ ap (λ b. cond b (time_parts us (total + part.count * u.1) part.behind) (time_parts us total text)) test

parts_of_complete : (us : List (List ℕ × ℕ)) (total : ℕ) (text : List ℕ) (ms : ℕ) → AreUnits us → IsParts us text ms → time_parts us total text ≡ Some (total + ms)
unfolding time_parts AreUnits
parts_of_complete [] total text ms are h = rw (h.0, h.1, add-zero) refl
parts_of_complete (u ∷ us) total text ms are (inl h) = elim (parts_begin us text ms are.2 h) [
  | inl empty ↦ parts_of-none u us total text (ap time_part empty ∙ part_of-nil) ∙ parts_of_complete us total text ms are.2 h
  | inr b ↦ parts_of-other u us total text b.part b.read (other b) ∙ parts_of_complete us total text ms are.2 h
] where
  other : (b : BeginsNamed us text) → bytes_eq b.part.name u.0 ≡ false
  other b = go (bytes_eq b.part.name u.0) refl where
    go : (t : Bool) → bytes_eq b.part.name u.0 ≡ t → t ≡ false
    go false test = refl
    go true test = let same : b.part.name ≡ u.0 = (bytes_eq-Decides b.part.name u.0).0 test in absurd (both_ways _ are.1 (rw same at b.name))
parts_of_complete (u ∷ us) total text ms are (inr (digits, rest, count, later, split, is, others, value)) =
    let read = part_of_complete digits u.0 rest count is (name_stops u.0 rest are.0) are.0.letters (parts_unlettered us rest later others) in
    let behind = parts_of_complete us (total + count * u.1) rest later are.2 others in
    rw (split, value) (parts_of-same u us total _ _ read (same_name u.0) ∙ behind ∙ ap Some (omega arith))

record Later (us : List (List ℕ × ℕ)) (total : ℕ) (text : List ℕ) (ms : ℕ) : Type 0 where
  later : ℕ
  parts : IsParts us text later
  sum : ms ≡ total + later

parts_of_sound : (us : List (List ℕ × ℕ)) (total : ℕ) (text : List ℕ) (ms : ℕ) → time_parts us total text ≡ Some ms → Later us total text ms
unfolding time_parts
parts_of_sound [] total text ms e =
    let (test, same) = cond_some _ _ _ e in
    record { later = 0; parts = (nil_from_length text (eqb-true _ _ test), refl); sum = sym same ∙ sym (add-zero total) }
parts_of_sound (u ∷ us) total text ms e = go (time_part text) refl e (parts_of_sound us total text ms) (λ part. parts_of_sound us (total + part.count * u.1) part.behind ms) where
  skipped : Later us total text ms → Later (u ∷ us) total text ms
  skipped l = record { later = l.later; parts = inl l.parts; sum = l.sum }

  taken : (part : TimePart) → time_part text ≡ Some part → (part.name ≡ u.0) → Later us (total + part.count * u.1) part.behind ms → Later (u ∷ us) total text ms
  taken part read same l =
      let p = part_of_sound text part read in
      let split : text ≡ p.digits ++ (u.0 ++ part.behind) = p.spelled ∙ ap (λ name. p.digits ++ (name ++ part.behind)) same in
      let sum = l.sum in
      record {
        later = part.count * u.1 + l.later;
        parts = inr (p.digits, part.behind, part.count, l.later, split, p.count, l.parts, refl);
        sum = omega arith;
      }

  go : (o : Option TimePart) → time_part text ≡ o → (elim o as (λ _. Option ℕ) [ None ↦ time_parts us total text | Some part ↦ cond (bytes_eq part.name u.0) (time_parts us (total + part.count * u.1) part.behind) (time_parts us total text) ]) ≡ Some ms → (time_parts us total text ≡ Some ms → Later us total text ms) → ((part : TimePart) → time_parts us (total + part.count * u.1) part.behind ≡ Some ms → Later us (total + part.count * u.1) part.behind ms) → Later (u ∷ us) total text ms
  go None read found skip next = skipped (skip found)
  go (Some part) read found skip next = tested (bytes_eq part.name u.0) refl found where
    tested : (b : Bool) → bytes_eq part.name u.0 ≡ b → cond b (time_parts us (total + part.count * u.1) part.behind) (time_parts us total text) ≡ Some ms → Later (u ∷ us) total text ms
    tested true test found = taken part read ((bytes_eq-Decides part.name u.0).0 test) (next part found)
    tested false test found = skipped (skip found)

units_are : AreUnits units
unfolding AreUnits
units_are = (record { some = lit< tt; letters = refl }, refl, (record { some = lit< tt; letters = refl }, refl, (record { some = lit< tt; letters = refl }, refl, (record { some = lit< tt; letters = refl }, refl, (record { some = lit< tt; letters = refl }, refl, tt)))))

-- nothing is between the digits and the letters of a text
nothing_left : (text : List ℕ) → NoDigit 10 text → letters_len text ≡ 0 → text ≡ []
nothing_left [] stop none = refl
nothing_left (c ∷ text) stop none = absurd (omega (arith, rw (le-ltb (digit_value c) 10 stop) at none))

duration_of_sound : (text : List ℕ) (ms : ℕ) → duration_of text ≡ Some ms → IsSeconds text ms ⊎ ((0 < length text) × IsParts units text ms)
unfolding duration_of
duration_of_sound text ms e =
    and_then_some _ (time_part text) _ e λ part read kept. go part (part_of_sound text part read) (length part.name == 0) refl kept
  where
    go : (part : TimePart) → IsPartOf text part → (b : Bool) → (length part.name == 0) ≡ b → cond b (Some (part.count * 1_000)) (time_parts units 0 text) ≡ Some ms → IsSeconds text ms ⊎ ((0 < length text) × IsParts units text ms)
    go part p true test found =
        let unnamed : part.name ≡ [] = nil_from_length part.name (eqb-true _ _ test) in
        let all : part.name ++ part.behind ≡ [] = nothing_left (part.name ++ part.behind) p.stops (p.letters ∙ ap length unnamed) in
        let same : text ≡ p.digits = p.spelled ∙ ap (λ t. p.digits ++ t) all ∙ append-nil p.digits in
        inl (part.count, rw same p.count, sym (same_Some (part.count * 1_000) ms found))
    go part p false test found =
        let l = parts_of_sound units 0 text ms found in
        let some : 0 < length text = omega (arith, ap length p.spelled, length-append p.digits (part.name ++ part.behind), p.count.0.0.0) in
        inr (some, subst (IsParts units text) (sym (l.sum ∙ zero-add l.later)) l.parts)

duration_of_complete : (text : List ℕ) (ms : ℕ) → IsSeconds text ms ⊎ ((0 < length text) × IsParts units text ms) → duration_of text ≡ Some ms
unfolding duration_of
duration_of_complete text ms (inl (seconds, is, value)) =
    let read = rw append-nil at (part_of_complete text [] [] seconds is (lit≤ tt) refl refl) in
    rw (read, value) refl
duration_of_complete text ms (inr (some, parts)) = elim (parts_begin units text ms units_are parts) [
  | inl empty ↦ absurd (omega (arith, ap length empty))
  | inr b ↦ rw (b.read, other b) (parts_of_complete units 0 text ms units_are parts ∙ ap Some (zero-add ms))
] where
  other : (b : BeginsNamed units text) → (length b.part.name == 0) ≡ false
  other b = go (length b.part.name == 0) refl where
    go : (t : Bool) → (length b.part.name == 0) ≡ t → t ≡ false
    go false test = refl
    go true test =
        let unnamed : b.part.name ≡ [] = nil_from_length b.part.name (eqb-true _ _ test) in
        let wrong : false ≡ true = rw unnamed at b.name in
        cc

pub time_of_sound : (text : List ℕ) (ms : ℕ) → time_of text ≡ Some ms → IsTime text ms
unfolding time_of
time_of_sound text ms e =
    and_then_some _ (duration_of text) _ e λ n read kept.
    let (test, same) = cond_some _ _ _ kept in
    let within : n ≤ longest_time = leb-true n longest_time test in
    subst (IsTime text) same (record { spelled = duration_of_sound text n read; within = within })

pub time_of_complete : (text : List ℕ) (ms : ℕ) → IsTime text ms → time_of text ≡ Some ms
unfolding time_of
time_of_complete text ms h = rw (duration_of_complete text ms h.spelled, le-leb ms longest_time h.within) refl

pub IsTime_unique : (text : List ℕ) (m n : ℕ) → IsTime text m → IsTime text n → m ≡ n
IsTime_unique text m n h k = same_Some m n (sym (time_of_complete text m h) ∙ time_of_complete text n k)

-- a reader that answers the computed time answers by the relation
pub parses_time : {E : Type 0} (text : List ℕ) (r : Result ℕ E) (e : E) → r ≡ ok_or (time_of text) e → Parses IsTime text r
parses_time {E} text r e is = rw is (go (time_of text) refl) where
  go : (o : Option ℕ) → time_of text ≡ o → Parses IsTime text (ok_or o e)
  go None read = λ n h. none-some n (sym read ∙ time_of_complete text n h)
  go (Some n) read = time_of_sound text n read

pub time_within : {E : Type 0} (text : List ℕ) (r : Result ℕ E) (e : E) → r ≡ ok_or (time_of text) e → IfOk r (λ ms. ms ≤ longest_time)
time_within {E} text r e is = rw is (go (time_of text) refl) where
  go : (o : Option ℕ) → time_of text ≡ o → IfOk (ok_or o e) (λ ms. ms ≤ longest_time)
  go None read = tt
  go (Some n) read = (time_of_sound text n read).within
