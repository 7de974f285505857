use Rattle.field_groups.proofs.LastLaws.{last-place}
use Rattle.field_groups.proofs.places.place_behind.Goals as goal

pub returns : goal.returns
returns c = rw c.group_count.ensures (last-place c.args.width c.args.bits c.args.value c.args.behind c.requires.width c.requires.group c.requires.last)
