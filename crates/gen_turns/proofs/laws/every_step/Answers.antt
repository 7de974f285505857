use Rattle.gen_turns.proofs.TakingTurns.{draws, looks}
use Rattle.gen_turns.proofs.EndingTurns.{enters, publishes}
use Rattle.gen_turns.proofs.NoteSteps.{tells, meets, learns}
use Rattle.gen_turns.proofs.OpeningSteps.{starts, deals}
use Rattle.gen_turns.proofs.laws.every_step.Goals as goal

pub returns : goal.returns
returns g c = record {
  opening = starts g.T.Version.state g.T.Version.follows;
  draw = draws g.T.Version.state g.T.Version.follows;
  look = looks g.T.Version.state g.T.Version.follows;
  end_enter = enters g.T.Version.state g.T.Version.follows;
  end_publish = publishes g.T.Version.state g.T.Version.follows;
  split_reader = deals g.T.Version.state g.T.Version.follows;
  split_note = tells g.T.Version.state g.T.Version.follows;
  join = meets g.T.Version.state g.T.Version.follows;
  learn = learns g.T.Version.state g.T.Version.follows;
}
