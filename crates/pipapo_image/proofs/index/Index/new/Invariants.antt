use Rattle.std.proofs.Common.{◌-◌}
use Rattle.pipapo_image.specs.Index.Built.{Built}
use Rattle.pipapo_image.proofs.Empty.{IsEmptyTable, IsEmptyMap}
use Rattle.pipapo_image.proofs.index.Index.new.Given as goal

abbrev pub invariant-kinds : goal.invariant-kinds
invariant-kinds l = record {
  fields : Built (IsEmptyTable l.kind-items) l.fields l.kind-index;
  maps : Built IsEmptyMap l.maps (l.kind-index - 1);
}
