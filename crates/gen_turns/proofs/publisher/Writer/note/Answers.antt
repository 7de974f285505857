use Rattle.std.proofs.Common.{rules}
use Rattle.gen_turns.proofs.NoteSteps.{tells_as}
use Rattle.gen_turns.proofs.publisher.Writer.note.Goals as goal

pub split_seat-requires : goal.split_seat-requires
split_seat-requires g c = (search rules, search rules, tells_as g.T.Version.state g.T.Version.follows _ _ _ _ (search rules) (search rules))
