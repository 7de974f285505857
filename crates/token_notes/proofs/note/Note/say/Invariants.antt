use Rattle.std.proofs.Common.{◌≡◌, ◌++◌, take}
use Rattle.token_notes.specs.Shown.{shown}
use Rattle.token_notes.proofs.note.Note.say.Given as goal

abbrev pub invariant-loop-byte : goal.invariant-loop-byte
invariant-loop-byte l = l.self.bytes.items ≡ l.fn.self.bytes.items ++ shown (take l.byte-index l.text)
