-- The addition of a script that made an element.
use Rattle.std.specs.Prelude.{◌≡◌, ◌<◌, ℕ, List, [], ◌∷◌, length, map, flat_map, Option, Some, None, slice_get}
use Rattle.std.specs.List.{enumerate_from}
use Rattle.set_model.specs.declared.element.Element.{Element}
use Rattle.set_model.specs.declared.packet.Packet.{Packet}
use Rattle.set_model.specs.declared.script.Script.{Script}
use Rattle.set_model.specs.declared.script.SetDecl.{SetDecl}
use Rattle.set_model.specs.declared.script.Step.{Step}
use Rattle.set_model.specs.declared.script.Step.TheVariants.{Change, Flush, Commit, Abort}
use Rattle.set_model.specs.Control.{Mode, Generation, history}
use Rattle.set_model.specs.SetState.{State}
use Rattle.key_answer.specs.Origin.{traced, lines_of}

-- the items of all sections, in their order
abbrev pub all_of : {X : Type 0} → List (List X) → List X
all_of sections = flat_map (λ items. items) sections

-- the same step on another line
abbrev pub on_line : ℕ → Step → Step
on_line line (Change old set verb e now) = Change line set verb e now
on_line line (Flush old set now) = Flush line set now
on_line line (Commit now) = Commit now
on_line line Abort = Abort

-- Steps, each on a line of its own: the number of its line is its place among the steps.
abbrev pub one_a_line : List Step → List Step
one_a_line steps = map (λ n. on_line n.0 n.1) (enumerate_from 0 steps)

-- The places of the steps that made the elements of a set, by the elements' ids. If each step has a line of its own, the
-- line of an addition is its place.
abbrev pub places_of : Mode → List SetDecl → List Step → ℕ → List ℕ
places_of mode schema steps set = (traced mode set schema (one_a_line steps ∷ [])).lines

-- the step at a place, if there is one
abbrev pub step_at : List Step → Option ℕ → Option Step
step_at steps None = None
step_at steps (Some place) = slice_get steps place

-- The step of a script that made the element of a set with this id.
abbrev pub addition_of : Mode → Script → ℕ → ℕ → Option Step
addition_of mode script set id = let steps = all_of script.sections in step_at steps (slice_get (places_of mode script.schema steps set) id)

-- the sets in which packets are looked up, by the packets' numbers
abbrev pub sets_of : List (List Packet) → List ℕ
sets_of keys = map (λ p. p.set) (all_of keys)

-- The declared sets and the steps of a script; for each set the places of the steps that made its elements, by the elements'
-- ids; and the sets of the packets of a key file, by the packets' numbers.
pub record Additions : Type 0 where
  pub schema : List SetDecl
  pub steps : List Step
  pub places : List (List ℕ)
  pub sets : List ℕ

-- the noted step that made the element of a set with this id
abbrev pub noted_addition : Additions → ℕ → ℕ → Option Step
noted_addition a set id = step_at a.steps (slice_get (lines_of a.places set) id)

-- These are the additions of a script and the sets of a key file's packets.
pub record AreAdditionsOf (mode : Mode) (script : Script) (keys : List (List Packet)) (a : Additions) : Type 0 where
  pub schema_is : a.schema ≡ script.schema
  pub steps_are : a.steps ≡ all_of script.sections
  pub places_are : (set : ℕ) → set < length script.schema → lines_of a.places set ≡ places_of mode script.schema (all_of script.sections) set
  pub sets_are : a.sets ≡ sets_of keys

-- The step adds an element with these intervals and this comment to the set.
abbrev pub HasMade : Option Step → ℕ → Element → Type 0
HasMade None set e = ⊥
HasMade (Some (Change line other verb new now)) set e = (other ≡ set) × (e.parts ≡ new.parts) × (e.comment ≡ new.comment)
HasMade (Some (Flush line other now)) set e = ⊥
HasMade (Some (Commit now)) set e = ⊥
HasMade (Some Abort) set e = ⊥

-- Each element of each generation that a script commits has the set, the intervals and the comment of the addition of its id.
abbrev pub AdditionsTell : Type 0
AdditionsTell =
    (mode : Mode) (script : Script) (n set place : ℕ) (g : Generation) (s : State) (e : Element) → slice_get (history mode script.schema script.sections).committed n ≡ Some g → slice_get g.sets set ≡ Some s → slice_get s.elements place ≡ Some e
    → HasMade (addition_of mode script set e.id) set e
