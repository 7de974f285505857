use Rattle.std.proofs.Common.{◌≡◌, ◌++◌, ◌+◌, take, flat_map}
use Rattle.std.specs.List.{list_any, enumerate_from}
use Rattle.set_model.specs.Control.{mode_of}
use Rattle.explain_answer.specs.Explained.{section_text, section_lacks}
use Rattle.explain_answer.specs.Runs.{HasDone}
use Rattle.explain_answer.proofs.whole.write_sections.Given as goal

-- the sections so far are done, and their packets are explained
abbrev pub invariant-sections : goal.invariant-sections
invariant-sections g l = record {
  done : HasDone (mode_of l.keep_going) l.script (l.i + 1) l.trace;
  text : l.out.items ≡ l.initial.out.items ++ flat_map (section_text (mode_of l.keep_going) l.script) (take l.i (enumerate_from 0 l.keys));
  lacks : l.lacks ≡ list_any (section_lacks (mode_of l.keep_going) l.script) (take l.i (enumerate_from 0 l.keys));
}
