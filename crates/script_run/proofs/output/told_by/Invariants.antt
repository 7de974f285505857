use Rattle.std.proofs.Common.{◌+◌}
use Rattle.script_run.proofs.TranscriptLaws.{IsToldUpTo}
use Rattle.script_run.proofs.output.told_by.Given as goal

-- the sections so far are written
abbrev pub invariant-rest : goal.invariant-rest
invariant-rest g l = IsToldUpTo (g.J.Judge.verdict l.judge) (g.J.Teller.packets_text l.judge) l.keep_going l.script l.keys l.threads (l.j + 1) l.telling
