-- What a transaction's changes keep, and its parts as places of its list of steps.
use Rattle.std.proofs.Common.{◌≡◌, refl, ◌∙◌, ap, ℕ, ◌+◌, ◌-◌, Bool, true, false, if◌then◌else◌, List, [], ◌∷◌, All, length, take, Option, Some, None, slice_get, arith, length-append}
use Rattle.std.proofs.lemmas.List.{take-append-le, take_all}
use Rattle.std.proofs.lemmas.List.Elements.{All-head, All-tail}
use Rattle.set_model.specs.declared.report.Why.{Why}
use Rattle.set_model.specs.declared.script.Step.{Step}
use Rattle.set_model.specs.declared.script.Step.TheVariants.{Change, Flush, Commit, Abort}
use Rattle.set_model.specs.declared.script.Verb.{Verb}
use Rattle.set_model.specs.SetState.{State}
use Rattle.set_model.specs.Control.{Mode, Strict, KeepGoing, Control, step, section, refused, changed, changed_set, answered, flushed}
use Rattle.set_model.specs.Runnable.{opens}
use Rattle.set_model.specs.declared.element.NewElement.{NewElement}
use Rattle.control_desk.specs.Woven.{IsTransaction}

-- A control has the committed generations of another.
pub record Keeps (c d : Control) : Type 0 where
  pub committed : d.committed ≡ c.committed
  pub last : d.last ≡ c.last

keeps_itself : (c : Control) → Keeps c c
keeps_itself c = record { committed = refl; last = refl }

refused_keeps : (mode : Mode) (b c : Control) (line set : ℕ) (why : Why) → Keeps b c → Keeps b (refused mode c line set why)
refused_keeps Strict b c line set why h = record { committed = h.committed; last = h.last }
refused_keeps KeepGoing b c line set why h = record { committed = h.committed; last = h.last }

answered_keeps : (mode : Mode) (b c : Control) (line set : ℕ) (x : Option Why × State) → Keeps b c → Keeps b (answered mode c line set x)
answered_keeps mode b c line set (Some why, s) h = refused_keeps mode b c line set why h
answered_keeps mode b c line set (None, s) h = record { committed = h.committed; last = h.last }

changed_keeps : (mode : Mode) (b c : Control) (line set : ℕ) (verb : Verb) (element : NewElement) (now : ℕ) (o : Option State) → Keeps b c → Keeps b (changed mode c line set verb element now o)
changed_keeps mode b c line set verb element now None h = h
changed_keeps mode b c line set verb element now (Some s) h = answered_keeps mode b c line set (changed_set verb s element now) h

flushed_keeps : (b c : Control) (set : ℕ) (o : Option State) → Keeps b c → Keeps b (flushed c set o)
flushed_keeps b c set None h = h
flushed_keeps b c set (Some s) h = record { committed = h.committed; last = h.last }

if_keeps : (b : Control) (t : Bool) (x y : Control) → Keeps b x → Keeps b y → Keeps b (if t then x else y)
if_keeps b true x y p q = p
if_keeps b false x y p q = q

-- A change or a flush commits nothing.
pub step_keeps : (mode : Mode) (b c : Control) (s : Step) → opens (Some s) ≡ true → Keeps b c → Keeps b (step mode c s)
step_keeps mode b c (Change line set verb element now) o h = if_keeps b c.failed c _ h (changed_keeps mode b c line set verb element now (slice_get c.sets set) h)
step_keeps mode b c (Flush line set now) o h = if_keeps b c.failed c _ h (flushed_keeps b c set (slice_get c.sets set) h)
step_keeps mode b c (Commit now) o h = absurd (cc o)
step_keeps mode b c Abort o h = absurd (cc o)

section_keeps : (mode : Mode) (b c : Control) (steps : List Step) → All (λ s. opens (Some s) ≡ true) steps → Keeps b c → Keeps b (section mode c steps)
section_keeps mode b c [] all h = h
section_keeps mode b c (s ∷ steps) all h = section_keeps mode b (step mode c s) steps (All-tail (λ t. opens (Some t) ≡ true) s steps all) (step_keeps mode b c s (All-head (λ t. opens (Some t) ≡ true) s steps all) h)

pub changes_keep : (mode : Mode) (c : Control) (steps : List Step) → All (λ s. opens (Some s) ≡ true) steps → Keeps c (section mode c steps)
changes_keep mode c steps all = section_keeps mode c c steps all (keeps_itself c)

-- All steps but the last are the changes, and the last one is the end.
pub changes_are : (steps : List Step) (t : IsTransaction steps) → take (length steps - 1) steps ≡ t.changes
changes_are steps t =
    let size : length steps ≡ length t.changes + 1 = ap length t.whole ∙ length-append t.changes (t.end ∷ []) in
    let places : length steps - 1 ≡ length t.changes = omega (arith, size) in
    (λ i. take (places i) (t.whole i)) ∙ take-append-le (length t.changes) t.changes (t.end ∷ []) (omega arith) ∙ take_all (length t.changes) t.changes (omega arith)
