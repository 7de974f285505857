use Rattle.std.proofs.Common.{ap, ◌∙◌}
use Rattle.reader_tests.proofs.slots.put.Goals as goal

pub returns : goal.returns
returns g c = let now = c.publish.ensures.made c.args.x c.requires.state in record { kept = (ap (λ w. w.readers) now ∙ c.requires.readers.0, ap (λ w. w.of) now) }
