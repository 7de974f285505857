use Rattle.std.proofs.Common.{drop, zip, flat_map}
use Rattle.set_report.specs.DumpText.{set_tables_text, dump_text}
use Rattle.set_report.proofs.Leaves.{Leaves}
use Rattle.set_report.proofs.dump.write_dump.Given as goal

-- the sets so far are written
abbrev pub invariant-sets : goal.invariant-sets
invariant-sets l = Leaves l.initial.out.items l.out.items (dump_text l.schema l.generation.sets) (flat_map (λ set. set_tables_text set.0 set.1) (zip (drop l.i l.schema) (drop l.i l.generation.sets)))
