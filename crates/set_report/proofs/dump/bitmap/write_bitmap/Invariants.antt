use Rattle.addr_text.specs.Written.{hex_text}
use Rattle.set_report.specs.DumpText.{byte_of, bitmap_text}
use Rattle.set_report.proofs.Leaves.{LeavesFrom}
use Rattle.set_report.proofs.dump.bitmap.write_bitmap.Given as goal

-- the bytes so far are written
abbrev pub invariant-bytes : goal.invariant-bytes
invariant-bytes l = LeavesFrom (λ j. hex_text 2 (byte_of l.row.bits j)) l.j l.j-end l.initial.out.items l.out.items (bitmap_text l.row.bits)
