-- Which calls of an object in memory fail, and how many failed.
use Rattle.std.specs.Prelude.{ℕ, ◌+◌, ◌-◌, ◌^◌, min, Bool, ◌==◌, List, []}
use Rattle.std.specs.List.{list_any}

pub record Plan : Type 0 where
  pub calls : ℕ
  pub failing : List ℕ
  pub faults : ℕ

abbrev pub new_plan : Plan
new_plan = record { calls = 0; failing = []; faults = 0 }

-- one more, up to the last value
abbrev pub next_count : ℕ → ℕ
next_count n = min (n + 1) (2 ^ 64 - 1)

abbrev pub one_call_more : Plan → Plan
one_call_more p = record p { calls = next_count p.calls }

-- The next call fails.
abbrev pub fails_next : Plan → Bool
fails_next p = list_any (λ at. at == next_count p.calls) p.failing

abbrev pub faulted : Plan → Plan
faulted p = record p { faults = next_count p.faults }
