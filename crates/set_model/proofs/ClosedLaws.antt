-- A section that ends its last transaction leaves no failed transaction.
use Rattle.std.proofs.Common.{◌≡◌, refl, ap, ◌∙◌, ℕ, zero, suc, ◌-◌, Bool, true, false, List, [], ◌∷◌, ◌++◌, length, Some, slice_get, length-append, arith}
use Rattle.set_model.specs.declared.script.Step.{Step}
use Rattle.set_model.specs.declared.script.Step.TheVariants.{Change, Flush, Commit, Abort}
use Rattle.set_model.specs.Control.{Mode, Control, step, section}
use Rattle.set_model.specs.Runnable.{opens, EndsClosed}

commit-ends : (mode : Mode) (c : Control) (now : ℕ) → (step mode c (Commit now)).failed ≡ false
commit-ends mode c now = go c.failed refl where
  go : (b : Bool) → c.failed ≡ b → (step mode c (Commit now)).failed ≡ false
  go true e = rw e refl
  go false e = rw e refl

last-ends : (mode : Mode) (c : Control) (s : Step) → opens (Some s) ≡ false → (step mode c s).failed ≡ false
last-ends mode c (Change line set verb x now) e = absurd (cc e)
last-ends mode c (Flush line set now) e = absurd (cc e)
last-ends mode c (Commit now) e = commit-ends mode c now
last-ends mode c Abort e = refl

steps-end : (mode : Mode) (c : Control) (s : Step) (ss : List Step) → opens (slice_get (s ∷ ss) (length ss)) ≡ false → (section mode c (s ∷ ss)).failed ≡ false
steps-end mode c s [] e = last-ends mode c s e
steps-end mode c s (t ∷ ts) e = steps-end mode (step mode c s) t ts e

-- If no transaction has failed before the section, none has failed after it.
pub closed-section : (steps : List Step) → EndsClosed steps → (mode : Mode) (c : Control) → c.failed ≡ false → (section mode c steps).failed ≡ false
closed-section [] e mode c quiet = quiet
closed-section (s ∷ ss) e mode c quiet =
    let less : length ss ≡ suc (length ss) - 1 = omega arith in
    steps-end mode c s ss (ap (λ n. opens (slice_get (s ∷ ss) n)) less ∙ e)

last-behind : (ss : List Step) (s : Step) (n : ℕ) → n ≡ length ss → slice_get (ss ++ s ∷ []) n ≡ Some s
last-behind [] s zero e = refl
last-behind [] s (suc n) e = absurd (cc e)
last-behind (t ∷ ts) s zero e = absurd (cc e)
last-behind (t ∷ ts) s (suc n) e = last-behind ts s n (omega (arith, e))

-- Steps that are followed by the end of a transaction end closed.
pub closed-behind : (ss : List Step) (s : Step) → opens (Some s) ≡ false → EndsClosed (ss ++ s ∷ [])
closed-behind ss s e =
    let place : length (ss ++ s ∷ []) - 1 ≡ length ss = omega (arith, length-append ss (s ∷ [])) in
    ap opens (last-behind ss s (length (ss ++ s ∷ []) - 1) place) ∙ e
