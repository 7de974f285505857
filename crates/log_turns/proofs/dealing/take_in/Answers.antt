use Rattle.std.proofs.Common.{rules}
use Rattle.log_turns.specs.LogRule.{most}
use Rattle.log_turns.proofs.Opening.{gathers}
use Rattle.log_turns.proofs.dealing.take_in.Goals as goal

pub join_seat-requires : goal.join_seat-requires
join_seat-requires g c =
    (search rules, search rules, search rules, search rules, gathers g.T.Logged.log g.T.Logged.base g.T.Logged.number g.T.Logged.clerk _ most _ _ _ _ c.requires.taker.0 c.requires.taker.1 c.requires.other.0 c.requires.other.1)
