use Rattle.std.proofs.Common.{◌≡◌, ◌++◌, drop, zip, flat_map}
use Rattle.stat_answer.specs.StatText.{set_stat, sets_stat}
use Rattle.stat_answer.proofs.text.write_sets.Given as goal

-- what is written, and what is left
abbrev pub invariant-sets : goal.invariant-sets
invariant-sets l = l.out.items ++ flat_map (set_stat l.now) (zip (drop l.i l.schema) (drop l.i l.generation.sets)) ≡ l.initial.out.items ++ sets_stat l.now l.schema l.generation.sets
