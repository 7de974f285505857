use Rattle.std.proofs.Common.{◌≡◌, ◌≤◌, take}
use Rattle.stat_answer.specs.Figures.{ages_of}
use Rattle.stat_answer.proofs.ages.ages_at.Given as goal

-- the elements so far
abbrev pub invariant-elements : goal.invariant-elements
invariant-elements l = record {
  ages : l.ages ≡ ages_of l.now (take l.i l.elements);
  few : l.ages.expiring ≤ l.i;
}
