use Rattle.std.proofs.Common.{rules}
use Rattle.log_turns.specs.LogRule.{most}
use Rattle.log_turns.proofs.Opening.{deals}
use Rattle.log_turns.proofs.dealing.give_seat.Goals as goal

pub split_seat-requires : goal.split_seat-requires
split_seat-requires g c = (search rules, search rules, deals g.T.Logged.log g.T.Logged.base g.T.Logged.number g.T.Logged.clerk _ most _ _ c.requires.seat.0 c.requires.seat.1 c.requires.seat.2)
