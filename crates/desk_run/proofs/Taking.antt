-- The steps of a log's transactions are taken out of their sections, the last transaction first.
use Rattle.std.proofs.lemmas.Bool.Decides.{nat_tests}
use Rattle.std.proofs.Common.{◌≡◌, ◌≢◌, refl, sym, ◌∙◌, ap, subst, ℕ, suc, ◌+◌, ◌-◌, ◌≤◌, ◌==◌, ◌⊎◌, ⊎_elim, inl, inr, Bool, true, false, true≢false, cond, List, [], ◌∷◌, ◌++◌, All, length, take, drop, map, reverse, flat_map, slice_get, slice_set, remove, Some, IfOk, Result, Ok, Err, arith, add-one, append-nil, append_assoc}
use Rattle.std.proofs.Math.Seq.{drop-append_seam, take-append_seam, take-suc}
use Rattle.std.proofs.lemmas.Grind.{flat_map-append}
use Rattle.std.proofs.lemmas.List.{drop_all, length-append, length-set, map-append, reverse-append, take_all}
use Rattle.std.proofs.lemmas.List.Elements.{All-nil, All-cons, All-head, All-tail, filter-append}
use Rattle.std.proofs.lemmas.Option.{get_or_from_slice_get, same_Some, slice_get_within}
use Rattle.packet_pool.proofs.Lists.{get_set_here, get_set_other}
use Rattle.set_model.specs.declared.memory.Memory.{Memory}
use Rattle.set_model.specs.declared.script.Step.{Step}
use Rattle.set_model.specs.Lent.{written_over}
use Rattle.set_model.proofs.LentLaws.{written_whole}
use Rattle.control_desk.specs.declared.entry.Entry.{Entry}
use Rattle.control_desk.specs.Woven.{IsOfOne, IsWoven, entries_of, steps_of}

-- One more step is taken from the end of a section.
pub one_taken : (old section rest taken then : List Step) (step : Step) (i : ℕ) → i + 1 ≡ length section → section ++ reverse taken ≡ old → slice_get section i ≡ Some step → rest ≡ remove section i → then ≡ taken ++ step ∷ [] → rest ++ reverse then ≡ old
one_taken old section rest taken then step i size so_far at left more =
    let front : take (i + 1) section ≡ take i section ++ step ∷ [] = rw add-one (take-suc section i step (omega (arith, size)) ∙ ap (λ (s : Step). take i section ++ s ∷ []) (get_or_from_slice_get section i step step at)) in
    let whole : rest ++ step ∷ [] ≡ section =
    ap (λ z. z ++ step ∷ []) left ∙ ap (λ z. (take i section ++ z) ++ step ∷ []) (drop_all (suc i) section (omega (arith, size))) ∙ ap (λ z. z ++ step ∷ []) (append-nil (take i section)) ∙ sym front ∙ take_all (i + 1) section (omega (arith, size)) in
    ap (λ z. rest ++ reverse z) more ∙ ap (λ z. rest ++ z) (reverse-append taken (step ∷ [])) ∙ sym (append_assoc rest (step ∷ []) (reverse taken)) ∙ ap (λ z. z ++ reverse taken) whole ∙ so_far

module _ {X : Type 0} (P : X → Type 0) where
  last_holds : (xs : List X) (x : X) → All P (xs ++ x ∷ []) → P x
  last_holds [] x all = All-head P x [] all
  last_holds (y ∷ xs) x all = last_holds xs x (All-tail P y (xs ++ x ∷ []) all)

  others_hold : (xs : List X) (x : X) → All P (xs ++ x ∷ []) → All P xs
  others_hold [] x all = All-nil P
  others_hold (y ∷ xs) x all = All-cons P y xs (All-head P y (xs ++ x ∷ []) all) (others_hold xs x (All-tail P y (xs ++ x ∷ []) all))

-- Two equal lists with ends of one length have the same parts.
same_parts : {X : Type 0} (a b c d : List X) → a ++ c ≡ b ++ d → length c ≡ length d → (a ≡ b) × (c ≡ d)
same_parts a b c d whole size =
    let n = ap length whole in let x = length-append a c in let y = length-append b d in
    let same : length a ≡ length b = omega (arith, n, x, y, size) in (
      sym (take-append_seam a c) ∙ (λ i. take (same i) (whole i)) ∙ take-append_seam b d,
      sym (drop-append_seam a c) ∙ (λ i. drop (same i) (whole i)) ∙ drop-append_seam b d,
    )

-- the steps of a log with one entry more
steps_then : (log : List Entry) (e : Entry) (k : ℕ) → steps_of k (log ++ e ∷ []) ≡ steps_of k log ++ steps_of k (e ∷ [])
steps_then log e k = ap (flat_map (λ (x : Entry). x.steps)) (filter-append (λ (x : Entry). x.clerk == k) log (e ∷ [])) ∙ flat_map-append (λ (x : Entry). x.steps) (entries_of k log) (entries_of k (e ∷ []))

own_steps : (e : Entry) → steps_of e.clerk (e ∷ []) ≡ e.steps
own_steps e = let test : (e.clerk == e.clerk) ≡ true = grind (arith, nat_tests) in ap (λ b. flat_map (λ (x : Entry). x.steps) (cond b (e ∷ []) [])) test ∙ append-nil e.steps

no_steps : (e : Entry) (k : ℕ) → k ≢ e.clerk → steps_of k (e ∷ []) ≡ []
no_steps e k other = go (e.clerk == k) refl where
  go : (b : Bool) → (e.clerk == k) ≡ b → steps_of k (e ∷ []) ≡ []
  go true is = absurd (other (let same : e.clerk ≡ k = grind (arith, nat_tests, is) in sym same))
  go false is = ap (λ b. flat_map (λ (x : Entry). x.steps) (cond b (e ∷ []) [])) is

module _ (sections : List (List Step)) (log : List Entry) (e : Entry) (woven : IsWoven sections (log ++ e ∷ [])) where
  -- The last entry is of one of the sections.
  pub last_of : IsOfOne (length sections) e
  last_of = last_holds (IsOfOne (length sections)) log e woven.each

  -- Its section ends with its steps.
  pub section_ends : (section : List Step) → slice_get sections (e.clerk - 1) ≡ Some section → section ≡ steps_of e.clerk log ++ e.steps
  section_ends section at =
      let from = last_of.from in let number : (e.clerk - 1) + 1 ≡ e.clerk = omega (arith, from) in
      sym (woven.whole (e.clerk - 1) section at) ∙ ap (λ k. steps_of k (log ++ e ∷ [])) number ∙ steps_then log e e.clerk ∙ ap (λ z. steps_of e.clerk log ++ z) (own_steps e)

  pub long_enough : (section : List Step) → slice_get sections (e.clerk - 1) ≡ Some section → length e.steps ≤ length section
  long_enough section at = let size = ap length (section_ends section at) in let sum = length-append (steps_of e.clerk log) e.steps in omega (arith, size, sum)

  -- If as many steps leave the end of the section, they are the entry's, and the sections are woven of the other entries.
  pub taken_out : (rest last : List Step) (others : List (List Step)) → others ≡ slice_set sections (e.clerk - 1) rest → slice_get sections (e.clerk - 1) ≡ Some (rest ++ last) → length last ≡ length e.steps → (last ≡ e.steps) × IsWoven others log
  taken_out rest last others set at size =
      let parts : rest ++ last ≡ steps_of e.clerk log ++ e.steps = section_ends (rest ++ last) at in
      let cut = same_parts rest (steps_of e.clerk log) last e.steps parts size in
      let within = slice_get_within sections (e.clerk - 1) (rest ++ last) at in
      let from = last_of.from in let number : (e.clerk - 1) + 1 ≡ e.clerk = omega (arith, from) in (
        cut.1,
        subst (λ z. IsWoven z log) (sym set) record {
          each = subst (λ n. All (IsOfOne n) log) (sym (length-set sections (e.clerk - 1) rest)) (others_hold (IsOfOne (length sections)) log e woven.each);
          whole = λ place steps found. ⊎_elim
              (λ (same : place ≡ e.clerk - 1).
              let is : rest ≡ steps = same_Some rest steps (sym (get_set_here sections (e.clerk - 1) rest within) ∙ ap (slice_get (slice_set sections (e.clerk - 1) rest)) (sym same) ∙ found) in
              ap (λ k. steps_of (k + 1) log) same ∙ ap (λ k. steps_of k log) number ∙ sym cut.0 ∙ is)
              (λ (other : place ≢ e.clerk - 1).
              let there = sym (get_set_other sections (e.clerk - 1) place rest other) ∙ found in
              sym (append-nil (steps_of (place + 1) log)) ∙ ap (λ z. steps_of (place + 1) log ++ z) (sym (no_steps e (place + 1) (λ is. other (omega (arith, is, from))))) ∙ sym (steps_then log e (place + 1)) ∙ woven.whole place steps there)
              (at_place place (place == e.clerk - 1) refl);
        },
      )
    where
      at_place : (place : ℕ) (b : Bool) → (place == e.clerk - 1) ≡ b → (place ≡ e.clerk - 1) ⊎ (place ≢ e.clerk - 1)
      at_place place true is = inl (grind (arith, nat_tests, is))
      at_place place false is = inr (λ same. let test : (e.clerk - 1 == e.clerk - 1) ≡ true = grind (arith, nat_tests) in true≢false (sym test ∙ ap (λ p. p == e.clerk - 1) (sym same) ∙ is))

-- The same of a call that takes the steps, if memory lasts.
pub entry_taken : (sections shown after : List (List Step)) (e : Entry) (count : ℕ) (r : Result (List Step) Memory) → shown ≡ sections → count ≡ length e.steps
    → IfOk r (λ last. (rest : List Step) × (after ≡ slice_set shown (e.clerk - 1) rest) × (slice_get shown (e.clerk - 1) ≡ Some (rest ++ last)) × (length last ≡ count))
    → IfOk r (λ steps. (log : List Entry) → IsWoven sections (log ++ e ∷ []) → (steps ≡ e.steps) × IsWoven (written_over sections after) log)
entry_taken sections shown after e count (Ok last) is size did = λ log woven.
    let set : after ≡ slice_set sections (e.clerk - 1) did.0 = did.1 ∙ ap (λ z. slice_set z (e.clerk - 1) did.0) is in
    let long : length after ≡ length sections = ap length set ∙ length-set sections (e.clerk - 1) did.0 in
    taken_out sections log e woven did.0 last (written_over sections after) (written_whole sections after long ∙ set) (ap (λ z. slice_get z (e.clerk - 1)) (sym is) ∙ did.2) (did.3 ∙ size)
entry_taken sections shown after e count (Err m) is size did = tt

-- The steps of one more entry are taken.
pub one_entry_less : (entries left : List Entry) (e : Entry) (steps : List Step) (done then all : List (List Step)) → entries ≡ left ++ e ∷ [] → steps ≡ e.steps → then ≡ done ++ steps ∷ []
    → map (λ x. x.steps) entries ++ reverse done ≡ all → map (λ x. x.steps) left ++ reverse then ≡ all
one_entry_less entries left e steps done then all popped same more so_far =
    let each : List Entry → List (List Step) = map (λ (x : Entry). x.steps) in
    ap (λ z. each left ++ reverse z) more ∙ ap (λ z. each left ++ z) (reverse-append done (steps ∷ [])) ∙ ap (λ (s : List Step). each left ++ s ∷ reverse done) same
    ∙ sym (append_assoc (each left) (e.steps ∷ []) (reverse done)) ∙ ap (λ z. z ++ reverse done) (sym (map-append (λ (x : Entry). x.steps) left (e ∷ [])) ∙ ap each (sym popped)) ∙ so_far
