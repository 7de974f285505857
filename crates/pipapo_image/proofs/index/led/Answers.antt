use Rattle.std.proofs.Common.{sym}
use Rattle.std.proofs.lemmas.Option.{get_or_from_slice_get}
use Rattle.set_tables.proofs.RowLaws.{led-within, led-some, led-none}
use Rattle.pipapo_image.proofs.index.led.Goals as goal

pub at-requires : goal.at-requires
at-requires c = led-within c.args.ends.now.items c.args.row.now.bits c.args.now c.in-Some.r (sym c.in-Some.ensures)

pub returns-in-Some : goal.returns-in-Some
returns-in-Some c =
    sym (led-some c.args.ends.now.items c.args.row.now.bits c.args.now c.in-Some.r _ c.requires (sym c.in-Some.ensures) (get_or_from_slice_get c.args.ends.now.items c.in-Some.r c.at.result.now c.at.result.now c.at.ensures))

pub returns-in-None : goal.returns-in-None
returns-in-None c = sym (led-none c.args.ends.now.items c.args.row.now.bits c.args.now (sym c.in-None.ensures))
