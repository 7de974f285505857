-- A sink in memory.
use Rattle.std.specs.Prelude.{ℕ, List, []}
use Rattle.pip_base.specs.Schedule.{Plan, new_plan}

-- A sink: the bytes that it took, how many it has room for in all, how many it takes at once, and
-- which writes fail.
pub record Sunk : Type 0 where
  pub taken : List ℕ
  pub room : ℕ
  pub most : ℕ
  pub plan : Plan

abbrev pub empty_sink : ℕ → ℕ → Sunk
empty_sink most room = record { taken = []; room = room; most = most; plan = new_plan }
