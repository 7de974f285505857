-- Sections that end their last transaction leave no change open.
use Rattle.std.proofs.Common.{◌≡◌, refl, ap, ◌∙◌, ◌-◌, suc, Bool, true, false, List, [], ◌∷◌, length, fold, Some, slice_get, All, arith}
use Rattle.set_model.specs.declared.script.SetDecl.{SetDecl}
use Rattle.set_model.specs.declared.script.Step.{Step}
use Rattle.set_model.specs.declared.script.Step.TheVariants.{Change, Flush, Commit, Abort}
use Rattle.set_model.specs.Control.{Mode, Control, start, step, section, history}
use Rattle.set_model.specs.Runnable.{opens, EndsClosed}
use Rattle.script_laws.proofs.Lists.{All-head, All-tail}

-- no change is open
abbrev Rests : Control → Type 0
Rests c = c.sets ≡ c.last.sets

module _ (mode : Mode) where
  last_rests : (c : Control) (s : Step) → opens (Some s) ≡ false → Rests (step mode c s)
  last_rests c (Change line set verb x now) e = absurd (cc e)
  last_rests c (Flush line set now) e = absurd (cc e)
  last_rests c (Commit now) e = go c.failed refl where
    go : (b : Bool) → c.failed ≡ b → Rests (step mode c (Commit now))
    go true f = rw f refl
    go false f = rw f refl
  last_rests c Abort e = refl

  steps_rest : (c : Control) (s : Step) (ss : List Step) → opens (slice_get (s ∷ ss) (length ss)) ≡ false → Rests (section mode c (s ∷ ss))
  steps_rest c s [] e = last_rests c s e
  steps_rest c s (t ∷ ts) e = steps_rest (step mode c s) t ts e

  section_rests : (c : Control) (steps : List Step) → EndsClosed steps → Rests c → Rests (section mode c steps)
  section_rests c [] e h = h
  section_rests c (s ∷ ss) e h =
      let less : length ss ≡ suc (length ss) - 1 = omega arith in
      steps_rest c s ss (ap (λ n. opens (slice_get (s ∷ ss) n)) less ∙ e)

  sections_rest : (c : Control) (sections : List (List Step)) → All EndsClosed sections → Rests c → Rests (fold (section mode) c sections)
  sections_rest c [] closed h = h
  sections_rest c (x ∷ xs) closed h = sections_rest (section mode c x) xs (All-tail EndsClosed x xs closed) (section_rests c x (All-head EndsClosed x xs closed) h)

  pub history_rests : (schema : List SetDecl) (sections : List (List Step)) → All EndsClosed sections → (history mode schema sections).sets ≡ (history mode schema sections).last.sets
  history_rests schema sections closed = sections_rest (start schema) sections closed refl
