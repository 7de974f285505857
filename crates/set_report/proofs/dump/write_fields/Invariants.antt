use Rattle.std.proofs.Common.{drop, flat_map}
use Rattle.std.specs.List.{enumerate_from}
use Rattle.set_report.specs.DumpText.{field_text}
use Rattle.set_report.proofs.Leaves.{Leaves}
use Rattle.set_report.proofs.dump.write_fields.Given as goal

-- the fields so far are written
abbrev pub invariant-fields : goal.invariant-fields
invariant-fields l = Leaves l.initial.out.items l.out.items (flat_map (field_text l.set.kinds l.set.elements) (enumerate_from 0 l.set.kinds)) (flat_map (field_text l.set.kinds l.set.elements) (enumerate_from l.f (drop l.f l.set.kinds)))
