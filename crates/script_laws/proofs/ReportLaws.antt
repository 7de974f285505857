-- The refused changes that events report.
use Rattle.std.proofs.Common.{◌≡◌, refl, sym, ◌∙◌, ap, ℕ, ◌+◌, ◌<◌, List, [], ◌∷◌, ◌++◌, length, take, get_or, Some, None, append-nil, append_assoc, add-one}
use Rattle.std.proofs.lemmas.List.Elements.{filter_map-append}
use Rattle.std.proofs.Math.Seq.{take-suc}
use Rattle.set_model.specs.declared.report.Event.{Event}
use Rattle.script_laws.specs.declared.refusals.Refusal.{Refusal}
use Rattle.script_laws.specs.Reports.{refusal_in, refusals_in}

module _ (clerk : ℕ) (events : List Event) (i : ℕ) (event : Event) (within : i < length events) (is : event ≡ get_or events i event) where
  next : refusals_in clerk (take (i + 1) events) ≡ refusals_in clerk (take i events) ++ refusals_in clerk (event ∷ [])
  next =
      let front : take (i + 1) events ≡ take i events ++ event ∷ [] = rw add-one (take-suc events i event within ∙ ap (λ e. take i events ++ e ∷ []) (sym is)) in
      ap (refusals_in clerk) front ∙ filter_map-append (refusal_in clerk) (take i events) (event ∷ [])

  -- One refused change more.
  pub refusal-added : (refusal : Refusal) (old so_far new : List Refusal) → Some refusal ≡ refusal_in clerk event → so_far ≡ old ++ refusals_in clerk (take i events) → new ≡ so_far ++ refusal ∷ [] → new ≡ old ++ refusals_in clerk (take (i + 1) events)
  refusal-added refusal old so_far new one h more =
      let here : refusals_in clerk (event ∷ []) ≡ refusal ∷ [] = rw (sym one) refl in
      more ∙ ap (λ rs. rs ++ refusal ∷ []) h ∙ append_assoc old (refusals_in clerk (take i events)) (refusal ∷ []) ∙ ap (λ rs. old ++ (refusals_in clerk (take i events) ++ rs)) (sym here) ∙ ap (λ rs. old ++ rs) (sym next)

  -- An event that reports none.
  pub refusal-none : (old so_far : List Refusal) → None ≡ refusal_in clerk event → so_far ≡ old ++ refusals_in clerk (take i events) → so_far ≡ old ++ refusals_in clerk (take (i + 1) events)
  refusal-none old so_far none h =
      let here : refusals_in clerk (event ∷ []) ≡ [] = rw (sym none) refl in
      h ∙ ap (λ rs. old ++ rs) (sym (append-nil (refusals_in clerk (take i events))) ∙ ap (λ rs. refusals_in clerk (take i events) ++ rs) (sym here) ∙ sym next)
