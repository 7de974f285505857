use Rattle.std.proofs.Common.{rules}
use Rattle.gen_turns.proofs.NoteSteps.{meets, learns}
use Rattle.gen_turns.proofs.readers.Pass.meet.Goals as goal

pub join_seat-requires : goal.join_seat-requires
join_seat-requires g c = (search rules, search rules, search rules, search rules, meets g.T.Version.state g.T.Version.follows _ _ _ _ (search rules))

pub load-requires : goal.load-requires
load-requires g c = (search rules, search rules, learns g.T.Version.state g.T.Version.follows _ _ _)
