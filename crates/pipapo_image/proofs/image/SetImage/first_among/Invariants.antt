use Rattle.std.proofs.Common.{◌-◌, ◌≤◌, length}
use Rattle.pipapo_image.specs.Image.Among.{is_sought}
use Rattle.pipapo_image.proofs.AmongLaws.{NonePasses}
use Rattle.pipapo_image.proofs.image.SetImage.first_among.Given as goal

abbrev pub invariant-rules : goal.invariant-rules
invariant-rules l = record {
  within : l.from ≤ length l.row.bits;
  none : NonePasses l.self (is_sought l.sought l.now) l.row.bits l.from;
}

abbrev pub decreases-rules : goal.decreases-rules
decreases-rules l = length l.row.bits - l.from
