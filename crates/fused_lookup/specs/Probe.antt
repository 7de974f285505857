-- What is looked up in a field's table.
use Rattle.std.specs.Prelude.{◌^◌, ◌<◌}
use Rattle.field_groups.specs.LastFour.{AreLastFour}
use Rattle.lookup_table.specs.declared.table.FieldTable.{FieldTable}
use Rattle.fused_lookup.specs.declared.probe.Probe.{Probe}

-- A value of the field, with the places of its last four buckets and of the lines of its last four bytes.
pub record IsProbe (t : FieldTable) (probe : Probe) : Type 0 where
  pub value : probe.value < 2 ^ t.bits
  pub buckets : AreLastFour t.width t.bits probe.value probe.buckets
  pub lines : AreLastFour 8 t.bits probe.value probe.lines
