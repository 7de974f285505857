-- What is asked of an element, and the rules of the last field that lead to such elements.
use Rattle.std.specs.Prelude.{◌≡◌, ℕ, ◌<◌, Bool, true, ◌&&◌, List, length, get_or, Option, IfSome, position}
use Rattle.bit_rows.specs.Row.{at}
use Rattle.set_model.specs.declared.kind.Interval.{Interval}
use Rattle.set_model.specs.declared.element.Element.{Element}
use Rattle.set_model.specs.Key.{parts_hold, parts_share, same_parts}
use Rattle.set_model.specs.Expiry.{live}
use Rattle.set_model.specs.SetState.{State, element_at}
use Rattle.set_tables.specs.declared.End.{End}
use Rattle.set_tables.specs.Tables.{last_ends}
use Rattle.pipapo_image.specs.declared.image.among.Sought.{Sought}
use Rattle.pipapo_image.specs.declared.image.among.Sought.TheVariants.{Exactly, Holding, Sharing}

-- Intervals are what is asked.
abbrev pub meets : Sought → List Interval → Bool
meets (Exactly others) parts = same_parts parts others.now
meets (Holding key) parts = parts_hold parts key.now
meets (Sharing others) parts = parts_share parts others.now

-- An element is live at a moment and has the intervals that are asked for.
abbrev pub is_sought : Sought → ℕ → Element → Bool
is_sought sought now e = live e now && meets sought e.parts

-- a rule that is set in the row, and whose end has this place
pub record IsHit (list : List End) (row : List Bool) (place : ℕ) : Type 0 where
  pub rule : ℕ
  pub within : rule < length list
  pub set : at row rule ≡ true
  pub leads : (d : End) → (get_or list rule d).place ≡ place

-- a row of the last field's rules, with a rule that is set for each element that passes a test
pub record LeadsTo (s : State) (test : Element → Bool) (row : List Bool) : Type 0 where
  pub long : length row ≡ length (last_ends s.kinds s.elements)
  pub each : (k : ℕ) → k < length s.elements → test (element_at s k) ≡ true → IsHit (last_ends s.kinds s.elements) row k

-- the place of the first element that passes a test, within the list
pub record IsFirst (s : State) (test : Element → Bool) (result : Option ℕ) : Type 0 where
  pub value : result ≡ position test s.elements
  pub within : IfSome result (λ i. i < length s.elements)
