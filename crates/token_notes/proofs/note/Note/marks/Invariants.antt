use Rattle.std.proofs.Common.{◌≡◌, ◌++◌, take, flat_map}
use Rattle.token_notes.specs.Source.{marks}
use Rattle.token_notes.proofs.note.Note.marks.Given as goal

abbrev pub invariant-loop-byte : goal.invariant-loop-byte
invariant-loop-byte l = l.self.bytes.items ≡ l.fn.self.bytes.items ++ flat_map (marks l.mark) (take l.byte-index l.bytes)
