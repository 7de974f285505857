use Rattle.std.proofs.Common.{◌+◌}
use Rattle.pipapo_image.specs.Index.Runs.{AreRuns, IsElementRun}
use Rattle.pipapo_image.proofs.image.SetImage.runs.Given as goal

abbrev pub invariant-maps : goal.invariant-maps
invariant-maps l = record {
  runs : AreRuns l.self.kinds l.self.elements l.i l.runs.items (l.f + 1);
  run : IsElementRun l.self.kinds l.self.elements l.i l.f l.run;
}
