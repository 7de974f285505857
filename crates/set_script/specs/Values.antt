-- The intervals, times and numbers of scripts.
use Rattle.std.specs.Prelude.{◌≡◌, ◌≤◌, ◌⊎◌, ℕ, List, Bool, false, ◌||◌, ◌==◌, nat_le, Option, Some, None, cond, codes, bytes_eq}
use Rattle.set_model.specs.declared.kind.Kind.{Kind}
use Rattle.set_model.specs.declared.kind.Interval.{Interval}
use Rattle.addr_text.specs.Intervals.{IsInterval}
use Rattle.addr_text.specs.IntervalsRead.{interval_of}
use Rattle.addr_text.specs.Numbers.{IsNumberUpTo}
use Rattle.addr_text.specs.Times.{IsTime}
use Rattle.addr_text.specs.TimesRead.{time_of}
use Rattle.addr_text.specs.ValuesRead.{number_of}
use Rattle.set_script.specs.Limits.{last_moment, most_elements}

-- The text means this interval of the kind. Unless wide is true, the interval has one value.
abbrev pub IsPart : Bool → Kind → List ℕ → Interval → Type 0
IsPart wide kind text part = IsInterval kind text part × (wide ≡ false → part.high ≡ part.low)

-- an interval, if it may be used there
abbrev pub part_value : Bool → Option Interval → Option Interval
part_value wide None = None
part_value wide (Some part) = cond (wide || (part.high == part.low)) (Some part) None

-- the interval of a text, computed
abbrev pub part_of : Bool → Kind → List ℕ → Option Interval
part_of wide kind text = part_value wide (interval_of kind text)

-- the life of an element: `never` is the time 0, and every other text is a time
abbrev pub IsLife : List ℕ → ℕ → Type 0
IsLife text life = ((text ≡ codes "never") × (life ≡ 0)) ⊎ ((text ≡ codes "never" → ⊥) × IsTime text life)

-- the life of a text, computed
abbrev pub life_of : List ℕ → Option ℕ
life_of text = cond (bytes_eq text (codes "never")) (Some 0) (time_of text)

-- a moment that isn't before another
abbrev pub IsMoment : ℕ → List ℕ → ℕ → Type 0
IsMoment before text n = IsNumberUpTo last_moment text n × (before ≤ n)

-- how many elements a set may have, at least 1
abbrev pub IsSize : List ℕ → ℕ → Type 0
IsSize text n = IsNumberUpTo most_elements text n × (1 ≤ n)

abbrev pub at_least : ℕ → Option ℕ → Option ℕ
at_least low None = None
at_least low (Some n) = cond (nat_le low n) (Some n) None

-- the moment of a text, computed
abbrev pub moment_of : ℕ → List ℕ → Option ℕ
moment_of before text = at_least before (number_of last_moment text)

-- the size of a text, computed
abbrev pub size_of : List ℕ → Option ℕ
size_of text = at_least 1 (number_of most_elements text)
