use Rattle.pipapo_image.specs.Index.Copied.{AreFieldsAgain}
use Rattle.pipapo_image.proofs.index.copy.fields_again.Given as goal

abbrev pub invariant-fields : goal.invariant-fields
invariant-fields l = AreFieldsAgain l.fields l.others l.f
