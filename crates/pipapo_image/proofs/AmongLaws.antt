-- The first element that passes a test, by a row that leads to each of them.
use Rattle.std.proofs.Common.{◌≡◌, refl, sym, ◌∙◌, ap, ℕ, ◌+◌, ◌-◌, ◌<◌, ◌≤◌, ◌⊎◌, inl, inr, Bool, true, false, List, length, get_or, take, flat_map, Some, None, arith}
use Rattle.std.specs.Prelude.{slice_get}
use Rattle.std.proofs.lemmas.Bool.{cases_lt}
use Rattle.std.proofs.lemmas.Option.{get_or_from_slice_get}
use Rattle.std.proofs.lemmas.List.{take_all, get_or_default}
use Rattle.bit_rows.specs.Row.{at, IsNextSet}
use Rattle.mapping_table.proofs.LedLaws.{position-first, position-nowhere}
use Rattle.set_tables.specs.declared.End.{End}
use Rattle.set_tables.specs.Tables.{split, last_ends}
use Rattle.set_tables.proofs.UpdateLaws.{length-ends}
use Rattle.set_model.specs.declared.element.Element.{Element}
use Rattle.set_model.specs.SetState.{State, element_at}
use Rattle.expiry_scan.proofs.PlaceLaws.{no_element}
use Rattle.pipapo_image.specs.Image.Among.{LeadsTo, IsFirst}
use Rattle.pipapo_image.proofs.EndLaws.{end-below}
use Rattle.pipapo_image.proofs.HitLaws.{place-order}

-- the place to which a rule of the last field leads
abbrev pub led_place : State → ℕ → End → ℕ
led_place s r d = (get_or (last_ends s.kinds s.elements) r d).place

pub no_end : End
no_end = record { place = 0; expiry = None }

-- what the loop over the row's rules keeps: those before `from` lead to no element that passes
pub record NonePasses (s : State) (test : Element → Bool) (row : List Bool) (from : ℕ) : Type 0 where
  pub each : (r : ℕ) (d : End) → r < from → at row r ≡ true → test (element_at s (led_place s r d)) ≡ false

pub place-within : (s : State) (r : ℕ) (d : End) → r < length (last_ends s.kinds s.elements) → led_place s r d < length s.elements
place-within s r d h =
    let f = length s.kinds - 1 in
    let n = length-ends (split s.kinds f) 0 s.elements in
    let whole : take (length s.elements) s.elements ≡ s.elements = take_all (length s.elements) s.elements (omega arith) in
    let m : length (flat_map (split s.kinds f) (take (length s.elements) s.elements)) ≡ length (flat_map (split s.kinds f) s.elements) = ap (λ z. length (flat_map (split s.kinds f) z)) whole in
    let b = end-below (split s.kinds f) 0 s.elements (length s.elements) r d (omega arith) in
    omega (arith, b)

-- An element doesn't pass if each rule that leads to it shows that.
unmet : (s : State) (test : Element → Bool) (row : List Bool) (k : ℕ) → LeadsTo s test row → k < length s.elements
    → ((r : ℕ) → r < length (last_ends s.kinds s.elements) → at row r ≡ true → led_place s r no_end ≡ k → test (element_at s (led_place s r no_end)) ≡ false)
    → test (element_at s k) ≡ false
unmet s test row k leads h none = go (test (element_at s k)) refl where
  go : (b : Bool) → test (element_at s k) ≡ b → b ≡ false
  go false e = refl
  go true e =
      let hit = leads.each k h e in
      let off = none hit.rule hit.within hit.set (hit.leads no_end) in
      let same = ap (λ p. test (element_at s p)) (hit.leads no_end) in
      sym e ∙ sym same ∙ off

-- a rule of the row, before `from` or after it
met : (s : State) (test : Element → Bool) (row : List Bool) (from to r : ℕ) → NonePasses s test row from → ((i : ℕ) → from ≤ i → i < to → at row i ≡ false) → r < to → at row r ≡ true
    → test (element_at s (led_place s r no_end)) ≡ false
met s test row from to r none gap h set = go (cases_lt r from) where
  go : (r < from) ⊎ (from ≤ r) → test (element_at s (led_place s r no_end)) ≡ false
  go (inl l) = none.each r no_end l set
  go (inr g) = let e : false ≡ true = sym (gap r g h) ∙ set in absurd (cc e)

pub among-some : (s : State) (test : Element → Bool) (row : List Bool) (from r : ℕ) → LeadsTo s test row → NonePasses s test row from → IsNextSet row from r → r < length (last_ends s.kinds s.elements)
    → test (element_at s (led_place s r no_end)) ≡ true → IsFirst s test (Some (led_place s r no_end))
among-some s test row from r leads none next h passes =
    let list = last_ends s.kinds s.elements in
    let p = led_place s r no_end in
    let within = place-within s r no_end h in
    record {
      value = position-first test s.elements p no_element within
          (λ k l.
          unmet s test row k leads (omega arith)
          (λ q a set to_k. met s test row from r q none next.least (place-order s.kinds s.elements list q r no_end refl a (omega (arith, to_k, l))) set))
          passes;
      within = within;
    }

pub among-none : (s : State) (test : Element → Bool) (row : List Bool) (from : ℕ) → LeadsTo s test row → NonePasses s test row from → ((i : ℕ) → from ≤ i → at row i ≡ false) → IsFirst s test None
among-none s test row from leads none gap = record {
  value = position-nowhere test s.elements no_element
      (λ k l. unmet s test row k leads l (λ q a set to_k. met s test row from (q + 1) q none (λ i b c. gap i b) (omega arith) set));
  within = tt;
}

-- one more rule that leads to an element that doesn't pass
pub one-more-met : (s : State) (test : Element → Bool) (row : List Bool) (from r : ℕ) → NonePasses s test row from → IsNextSet row from r → r < length (last_ends s.kinds s.elements)
    → test (element_at s (led_place s r no_end)) ≡ false → NonePasses s test row (r + 1)
one-more-met s test row from r none next h other = record { each = λ q d l set. go q d l set (cases_lt q r) } where
  go : (q : ℕ) (d : End) → q < r + 1 → at row q ≡ true → (q < r) ⊎ (r ≤ q) → test (element_at s (led_place s q d)) ≡ false
  go q d l set (inl a) =
      let inside : q < length (last_ends s.kinds s.elements) = omega arith in
      ap (λ (z : End). test (element_at s z.place)) (get_or_default (last_ends s.kinds s.elements) q d no_end inside) ∙ met s test row from r q none next.least a set
  go q d l set (inr a) =
      let e : q ≡ r = omega arith in
      let inside : q < length (last_ends s.kinds s.elements) = omega arith in
      ap (λ (z : End). test (element_at s z.place)) (get_or_default (last_ends s.kinds s.elements) q d no_end inside ∙ ap (λ n. get_or (last_ends s.kinds s.elements) n no_end) e) ∙ other

-- the next set rule is a rule of the last field
pub set-rule : (s : State) (test : Element → Bool) (row : List Bool) (from r : ℕ) → LeadsTo s test row → IsNextSet row from r → r < length (last_ends s.kinds s.elements)
set-rule s test row from r leads next = omega (arith, next.within, leads.long)

-- the place in its end
pub led-to : (s : State) (items : List End) (r : ℕ) (end : End) → items ≡ last_ends s.kinds s.elements → slice_get items r ≡ Some end → led_place s r no_end ≡ end.place
led-to s items r end is here = ap (λ z. (get_or z r no_end).place) (sym is) ∙ ap (λ (z : End). z.place) (get_or_from_slice_get items r end no_end here)
