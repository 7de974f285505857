-- What a lookup answers, as C sees it.
use Rattle.std.proofs.Common.{rules, ◌≡◌, ℕ, List, ap, sym, ◌∙◌, subst}
use Rattle.std.specs.Prelude.{slice_get, Option, Some}
use Rattle.history_laws.specs.Histories.{StartsWith, EndsWith}
use Rattle.set_model.specs.Control.{Generation}
use Rattle.set_model.specs.SetState.{State}
use Rattle.set_model.specs.declared.kind.Kind.{Kind}
use Rattle.set_model.specs.declared.packet.Found.{Found}
use Rattle.pipapo_image.specs.Image.Found.{found}
use Rattle.gen_publish.specs.Publish.{IsLookup}
use Rattle.c_handles.specs.Calls.{IsIdIn, HasFound}

one_state : (s : State) (t : State) → Some s ≡ Some t → s ≡ t
one_state s t e = search rules

pub found_at : (g : Generation) (s : State) (set : ℕ) (key : List ℕ) (now : ℕ) (answer : Option Found) → IsLookup g set key now answer → slice_get g.sets set ≡ Some s → answer ≡ found s key now
found_at g s set key now answer l at = l.first_match ∙ ap (λ (t : State). found t key now) (one_state l.state s (sym l.at ∙ at))

-- the id in the generation that was held, after it was let go
pub found_one : (old : List Generation) (held : List Generation) (new : List Generation) (kinds : List Kind) (set : ℕ) (key : List ℕ) (now : ℕ) (id : ℕ)
    → ((g : Generation) → EndsWith held g → IsIdIn g kinds set key now id) → StartsWith held old → held ≡ new → HasFound old new kinds set key now id
found_one old held new kinds set key now id h s e = record {
  seen = subst (λ (l : List Generation). StartsWith l old) e s;
  is = λ g last. h g (subst (λ (l : List Generation). EndsWith l g) (sym e) last);
}
