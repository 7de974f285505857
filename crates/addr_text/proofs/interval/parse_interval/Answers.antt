use Rattle.std.proofs.Common.{sym, take}
use Rattle.addr_text.proofs.ValueLaws.{value_of_sound}
use Rattle.addr_text.proofs.FitLaws.{IsValue-fits}
use Rattle.addr_text.proofs.interval.parse_interval.Goals as goal

pub interval_behind-requires : goal.interval_behind-requires
interval_behind-requires c = IsValue-fits c.args.kind _ c.in_ok-value.value (value_of_sound c.args.kind (take c.first_end-end.result c.args.text.now) c.in_ok-value.value (sym c.in_ok-value.ensures))
