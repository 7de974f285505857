use Rattle.std.proofs.Common.{◌/◌, ◌%◌}
use Rattle.bit_rows.proofs.Bits.{is_set-bit}
use Rattle.fused_lookup.proofs.window.Window.is_touched.Goals as goal

pub returns : goal.returns
returns c = is_set-bit c.args.self.touched (c.args.i / 8 % 64)
