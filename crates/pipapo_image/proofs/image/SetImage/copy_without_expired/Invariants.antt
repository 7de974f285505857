use Rattle.std.proofs.Common.{◌≡◌, ◌-◌}
use Rattle.pipapo_image.proofs.Leaving.{purged_from}
use Rattle.pipapo_image.proofs.image.SetImage.copy_without_expired.Given as goal

abbrev pub invariant-places : goal.invariant-places
invariant-places l = l.kept ≡ purged_from l.self l.now (l.count - l.k)
