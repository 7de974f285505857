use Rattle.gen_slots.proofs.ReaderSteps.{enters, leaves}
use Rattle.gen_slots.proofs.WriterSteps.{checks, publishes}
use Rattle.gen_slots.proofs.NoteSteps.{tells, meets, learns}
use Rattle.gen_slots.proofs.OpeningSteps.{starts, deals}
use Rattle.gen_slots.proofs.laws.every_step.Goals as goal

pub returns : goal.returns
returns g c = record {
  opening = starts g.T.Version.state g.T.Version.follows;
  enter = enters g.T.Version.state g.T.Version.follows;
  leave = leaves g.T.Version.state g.T.Version.follows;
  check = checks g.T.Version.state g.T.Version.follows;
  publish = publishes g.T.Version.state g.T.Version.follows;
  split_reader = deals g.T.Version.state g.T.Version.follows;
  split_note = tells g.T.Version.state g.T.Version.follows;
  join = meets g.T.Version.state g.T.Version.follows;
  learn = learns g.T.Version.state g.T.Version.follows;
}
