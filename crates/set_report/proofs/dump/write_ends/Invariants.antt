use Rattle.std.proofs.Common.{◌≡◌, ◌++◌, take, flat_map}
use Rattle.set_report.specs.DumpText.{end_text}
use Rattle.set_report.proofs.dump.write_ends.Given as goal

-- the ends so far are appended
abbrev pub invariant-rules : goal.invariant-rules
invariant-rules l = l.out.items ≡ l.initial.out.items ++ flat_map end_text (take l.i l.ends.items)
