-- The first section of a script, which runs alone and leaves no change open.
use Rattle.std.proofs.Common.{◌≡◌, refl, sym, ◌∙◌, ap, ℕ, suc, ◌-◌, Bool, true, false, List, [], ◌∷◌, length, take, drop, Some, slice_get, arith}
use Rattle.set_model.specs.declared.report.Event.{Event}
use Rattle.set_model.specs.declared.script.SetDecl.{SetDecl}
use Rattle.set_model.specs.declared.script.Step.{Step}
use Rattle.set_model.specs.declared.script.Step.TheVariants.{Change, Flush, Commit, Abort}
use Rattle.set_model.specs.Control.{Mode, Control, mode_of, start, step, section, history}
use Rattle.set_model.specs.Runnable.{EndsClosed, opens}
use Rattle.gen_publish.specs.Publish.{Steering}
use Rattle.packet_pool.specs.Running.{run, StandsAt, Ran}
use Rattle.control_desk.specs.Books.{IsClosed}
use Rattle.script_laws.specs.Sections.{section_at}
use Rattle.script_laws.proofs.RunLaws.{next_stands}

-- No change is open: the sets are those of the last generation.
abbrev Rests : Control → Type 0
Rests c = c.sets ≡ c.last.sets

commit-rests : (mode : Mode) (c : Control) (now : ℕ) → Rests (step mode c (Commit now))
commit-rests mode c now = go c.failed refl where
  go : (b : Bool) → c.failed ≡ b → Rests (step mode c (Commit now))
  go true e = rw e refl
  go false e = rw e refl

end-rests : (mode : Mode) (c : Control) (s : Step) → opens (Some s) ≡ false → Rests (step mode c s)
end-rests mode c (Change line set verb element now) e = absurd (cc e)
end-rests mode c (Flush line set now) e = absurd (cc e)
end-rests mode c (Commit now) e = commit-rests mode c now
end-rests mode c Abort e = refl

steps-rest : (mode : Mode) (c : Control) (s : Step) (ss : List Step) → opens (slice_get (s ∷ ss) (length ss)) ≡ false → Rests (section mode c (s ∷ ss))
steps-rest mode c s [] e = end-rests mode c s e
steps-rest mode c s (t ∷ ts) e = steps-rest mode (step mode c s) t ts e

section-rests : (mode : Mode) (c : Control) (steps : List Step) → EndsClosed steps → Rests c → Rests (section mode c steps)
section-rests mode c [] e h = h
section-rests mode c (s ∷ ss) e h =
    let less : length ss ≡ suc (length ss) - 1 = omega arith in
    steps-rest mode c s ss (ap (λ n. opens (slice_get (s ∷ ss) n)) less ∙ e)

module _ (schema : List SetDecl) (steps : List Step) (closed : EndsClosed steps) where
  -- A section that ends its last transaction leaves no change open in a control.
  pub closed_behind : (mode : Mode) (k : Steering) (events : List Event) → StandsAt [] (history mode schema (steps ∷ [])) (run k false events) → IsClosed k
  closed_behind mode k events st =
      let same : k.work.sets ≡ k.work.base.sets = sym st.sets ∙ section-rests mode (start schema) steps closed refl ∙ ap (λ g. g.sets) st.last in
      λ i. record { base = k.work.base; sets = same i }

  -- The program starts a control, which does the section. It is then in the state of the definition's control.
  pub stands_behind : (keep_going : Bool) (k new : Steering) (told : List Event) → StandsAt [] (start schema) (run k false []) → Ran keep_going steps k new told → StandsAt [] (history (mode_of keep_going) schema (steps ∷ [])) (run new false told)
  stands_behind keep_going k new told st ran = next_stands keep_going schema (steps ∷ []) 0 steps k new [] told told (omega arith) refl closed st ran refl

-- The first of some sections, or the empty one, is what the first of them is for.
pub first_alone : (mode : Mode) (schema : List SetDecl) (sections : List (List Step)) → history mode schema (take 1 sections) ≡ history mode schema (section_at sections 0 ∷ [])
first_alone mode schema [] = refl
first_alone mode schema (steps ∷ sections) = refl

module _ {T : Type 0} where
  -- If there are no sections, the first is empty, and none follow it.
  pub first_of_none : (sections : List (List T)) → length sections ≡ 0 → ([] ≡ section_at sections 0) × (sections ≡ drop 1 sections)
  first_of_none [] none = (refl, refl)
  first_of_none (x ∷ sections) none = absurd (omega (arith, none))
