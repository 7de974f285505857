use Rattle.pipapo_image.specs.Index.Shrink.{AreOthersWithout}
use Rattle.pipapo_image.proofs.index.drops.other_widths_without.Given as goal

abbrev pub invariant-fields : goal.invariant-fields
invariant-fields l = AreOthersWithout l.fields l.runs l.others.items l.f
