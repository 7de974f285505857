use Rattle.std.proofs.Common.{◌≡◌, ◌++◌, take, flat_map}
use Rattle.token_notes.specs.Source.{line_byte}
use Rattle.token_notes.proofs.note.Note.line_bytes.Given as goal

abbrev pub invariant-loop-byte : goal.invariant-loop-byte
invariant-loop-byte l = l.self.bytes.items ≡ l.fn.self.bytes.items ++ flat_map line_byte (take l.byte-index l.bytes)
