-- The first refused change.
use Rattle.std.specs.Prelude.{List, [], ◌∷◌, Option, Some, None}
use Rattle.set_model.specs.declared.report.Event.{Event}
use Rattle.set_model.specs.declared.report.Event.TheVariants as events
use Rattle.script_start.specs.declared.error.StartError.{StartError}
use Rattle.script_start.specs.declared.error.StartError.TheVariants.{Refused}

-- the first refusal that events report, if there is one
abbrev pub refusal_in : List Event → Option StartError
refusal_in [] = None
refusal_in (events.Refused line set why ∷ rest) = Some (Refused line set why)
refusal_in (events.Committed generation purged ∷ rest) = refusal_in rest
refusal_in (events.Aborted generation ∷ rest) = refusal_in rest
refusal_in (events.Dropped generation ∷ rest) = refusal_in rest
