use Rattle.std.proofs.Common.{◌≡◌, ◌++◌, take}
use Rattle.skip_notes.specs.Skips.{skips_text}
use Rattle.skip_notes.proofs.note.SkipsNote.add_skips.Given as goal

abbrev pub invariant-loop-skip : goal.invariant-loop-skip
invariant-loop-skip l = l.self.bytes.items ≡ l.fn.self.bytes.items ++ skips_text l.name l.text (take l.skip-index l.skips)
