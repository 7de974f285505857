-- What is said of two sets of one name.
use Rattle.std.proofs.Common.{◌≡◌, sym, ◌∙◌, ap, ℕ, Bool, true, false, ◌&&◌, List, [], ◌++◌, append_assoc, append-nil, Option, Some, None, is_none, true≢false}
use Rattle.std.specs.Prelude.{IfSome, IsTrue, ◌↔◌}
use Rattle.set_model.specs.Key.{key_fits}
use Rattle.set_model.specs.SetState.{State}
use Rattle.set_compare.specs.declared.difference.Difference.{Difference}
use Rattle.set_compare.specs.declared.missing.Lack.{Lack}
use Rattle.set_compare.specs.Missing.{DecideAlike, AreDifferences, IsFirstMissing}
use Rattle.compare_answer.specs.Ending.{LastSet}
use Rattle.compare_answer.specs.Verdict.{lack_text, same_line, types_line, IsVerdict, same, differ, other_type}
use Rattle.compare_answer.specs.Plain.{Adds}

-- An element and the line that added it, one after the other.
pub holder-parts : (old mid new front id of file line : List ℕ) → mid ≡ old ++ (front ++ (id ++ (of ++ (file ++ [])))) → new ≡ mid ++ line → new ≡ old ++ ((front ++ (id ++ (of ++ file))) ++ line)
holder-parts old mid new front id of file line e d =
    d ∙ ap (λ m. m ++ line) (e ∙ ap (λ t. old ++ (front ++ (id ++ (of ++ t)))) (append-nil file)) ∙ append_assoc old (front ++ (id ++ (of ++ file))) line

-- The parts of a line about a key.
pub lack-parts : (old m1 m2 m3 new a b c d e : List ℕ) → m1 ≡ old ++ a → m2 ≡ m1 ++ b → m3 ≡ m2 ++ (c ++ d) → new ≡ m3 ++ e → new ≡ old ++ (a ++ b ++ c ++ d ++ e)
lack-parts old m1 m2 m3 new a b c d e h1 h2 h3 h4 =
    h4 ∙ ap (λ m. m ++ e) (h3 ∙ ap (λ m. m ++ (c ++ d)) (h2 ∙ ap (λ m. m ++ b) h1)) ∙ simp append_assoc

-- A key that one set finds and another doesn't fits the first.
pub lack-fits : (s : State) (at : ℕ) (t : State) (then : ℕ) (answer : Option Lack) → IsFirstMissing s at t then answer → IfSome answer (λ l. key_fits s.kinds l.key ≡ true)
lack-fits s at t then None h = tt
lack-fits s at t then (Some lack) h = h.key.fits

module _ (s t : LastSet) where
  -- The line on two sets that are the same.
  pub say-same : (old new : List ℕ) → s.state.kinds ≡ t.state.kinds → DecideAlike s.state s.at t.state t.at → new ≡ old ++ same_line s → Adds (IsVerdict s t true) old new
  say-same old new kinds alike wrote = record { text = same_line s; is_text = same kinds alike; added = wrote }

  -- The lines on two sets that differ.
  pub say-differ : (d : Difference) (old mid new : List ℕ) → s.state.kinds ≡ t.state.kinds → AreDifferences s.state s.at t.state t.at d → (is_none d.in_first && is_none d.in_second) ≡ false → mid ≡ old ++ lack_text s t d.in_first → new ≡ mid ++ lack_text t s d.in_second
      → Adds (IsVerdict s t false) old new
  say-differ d old mid new kinds differences some first second = record {
    text = lack_text s t d.in_first ++ lack_text t s d.in_second;
    is_text = differ kinds d differences some;
    added = second ∙ ap (λ m. m ++ lack_text t s d.in_second) first ∙ append_assoc old (lack_text s t d.in_first) (lack_text t s d.in_second);
  }

  -- The line on two sets of different types.
  pub say-types : (old new : List ℕ) → (s.state.kinds ≡ t.state.kinds → ⊥) → new ≡ old ++ types_line s → Adds (IsVerdict s t false) old new
  say-types old new apart wrote = record { text = types_line s; is_text = other_type apart; added = wrote }

-- A test that fails isn't true.
pub not-true : (b : Bool) (P : Type 0) → IsTrue b ↔ P → b ≡ false → P → ⊥
not-true true P h e p = true≢false e
not-true false P h e p = true≢false (sym (h.1 p))
