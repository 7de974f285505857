use Rattle.std.proofs.Common.{◌≡◌, ◌++◌, take, flat_map}
use Rattle.set_report.specs.DumpText.{span_text}
use Rattle.set_report.proofs.dump.write_spans.Given as goal

-- the spans so far are appended
abbrev pub invariant-rules : goal.invariant-rules
invariant-rules l = l.out.items ≡ l.initial.out.items ++ flat_map span_text (take l.i l.map.items)
