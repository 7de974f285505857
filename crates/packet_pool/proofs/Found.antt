-- What a lookup in an image finds, as a verdict.
use Rattle.std.proofs.Common.{◌≡◌, ◌∙◌, refl, sym, ap, ℕ, List, Option, Some, None, option_map, is_some, Bool}
use Rattle.set_tables.proofs.RowLaws.{find-at, find-none}
use Rattle.set_model.specs.declared.packet.Found.{Found}
use Rattle.set_model.specs.declared.packet.Verdict.{Verdict}
use Rattle.set_model.specs.declared.packet.Verdict.TheVariants as verdicts
use Rattle.set_model.specs.SetState.{State, first, place, answers, element_at}
use Rattle.set_model.specs.Control.{Generation}
use Rattle.set_model.specs.Legal.{verdict_of}
use Rattle.gen_publish.specs.Publish.{IsLookup}
use Rattle.rule_chain.specs.Judged.{holds_key, has_element}
use Rattle.pipapo_image.specs.Image.Found.{found}

-- what was found, as a verdict
abbrev pub verdict_found : Option Found → Verdict
verdict_found None = verdicts.None
verdict_found (Some f) = verdicts.Element f.id

-- The verdict on what was found is the verdict on the first live element that holds the key.
pub found-first : (s : State) (key : List ℕ) (now : ℕ) → verdict_found (found s key now) ≡ verdict_of (first s key now)
found-first s key now = go (place s key now) refl where
  go : (o : Option ℕ) → place s key now ≡ o → verdict_found (option_map (λ i. record { place = i; id = (element_at s i).id }) o) ≡ verdict_of (first s key now)
  go None e = ap verdict_of (sym (find-none (answers key now) s.elements e))
  go (Some i) e = ap verdict_of (sym (find-at (answers key now) s.elements i _ e))

-- A lookup finds something exactly if some live element holds the key.
pub found-holds : (g : Generation) (set : ℕ) (key : List ℕ) (now : ℕ) (answer : Option Found) → IsLookup g set key now answer → is_some answer ≡ has_element g set key now
found-holds g set key now answer l = ap is_some l.first_match ∙ go l.state (place l.state key now) refl ∙ ap (holds_key key now) (sym l.at) where
  go : (s : State) (o : Option ℕ) → place s key now ≡ o → is_some {T = Found} (option_map (λ i. record { place = i; id = (element_at s i).id }) o) ≡ is_some (first s key now)
  go s None e = ap is_some (sym (find-none (answers key now) s.elements e))
  go s (Some i) e = ap is_some (sym (find-at (answers key now) s.elements i (element_at s i) e))
