use Rattle.std.proofs.Common.{◌∙◌, ap, subst, ◌++◌}
use Rattle.addr_text.specs.Written.{hex_text}
use Rattle.set_report.specs.DumpText.{byte_of, bitmap_text}
use Rattle.text_pieces.specs.Appends.{AppendsPart}
use Rattle.text_pieces.proofs.PartLaws.{on_err}
use Rattle.set_report.proofs.Leaves.{from-more, from-broken}
use Rattle.set_report.proofs.dump.bitmap.write_bitmap.Goals as goal

pub returns-in_err-write_byte-clause-err : goal.returns-in_err-write_byte-clause-err
returns-in_err-write_byte-clause-err c =
    on_err c.from_residual.result (from-broken (λ j. hex_text 2 (byte_of c.args.row.now.bits j)) c.bytes.j _ c.args.out.now.items c.bytes.out.items c.write_byte.new.out.items (bitmap_text c.args.row.now.bits)
    c.bytes-test.true c.bytes.invariant (subst (λ n. AppendsPart c.bytes.out.items c.write_byte.new.out.items (hex_text 2 n)) c.byte_at.ensures c.in_err-write_byte.ensures.err))

pub bytes-preserved : goal.bytes-preserved
bytes-preserved c =
    from-more (λ j. hex_text 2 (byte_of c.args.row.now.bits j)) c.bytes.j _ c.args.out.now.items c.bytes.out.items c.write_byte.new.out.items (bitmap_text c.args.row.now.bits)
    c.bytes-test.true c.bytes.invariant (c.in_ok-write_byte.ensures.ok ∙ ap (λ n. c.bytes.out.items ++ hex_text 2 n) c.byte_at.ensures)
