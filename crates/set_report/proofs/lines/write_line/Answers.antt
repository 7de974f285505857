use Rattle.std.proofs.Common.{◌≡◌, sym, ap, subst, ◌++◌, codes, OnOk, OnErr}
use Rattle.set_model.specs.Text.{verdict_text, numbered}
use Rattle.text_pieces.specs.Appends.{AppendsPart}
use Rattle.set_report.proofs.LineLaws.{packet_line}
use Rattle.set_report.proofs.lines.write_line.Goals as goal

pub returns-in-None-clause-ok : goal.returns-in-None-clause-ok
returns-in-None-clause-ok c =
    subst (λ t. OnOk c.append_pieces.result (c.append_pieces.new.out.items ≡ c.args.out.now.items ++ t)) (sym (packet_line c.args.line.now (codes "none") (ap verdict_text c.in-None.is))) c.append_pieces.ensures.ok

pub returns-in-None-clause-err : goal.returns-in-None-clause-err
returns-in-None-clause-err c =
    subst (λ t. OnErr c.append_pieces.result (AppendsPart c.args.out.now.items c.append_pieces.new.out.items t)) (sym (packet_line c.args.line.now (codes "none") (ap verdict_text c.in-None.is))) c.append_pieces.ensures.err

pub returns-in-Element-clause-ok : goal.returns-in-Element-clause-ok
returns-in-Element-clause-ok c =
    subst (λ t. OnOk c.append_pieces-in-Element.result (c.append_pieces-in-Element.new.out.items ≡ c.args.out.now.items ++ t)) (sym (packet_line c.args.line.now (numbered (codes "element") c.in-Element.id) (ap verdict_text c.in-Element.is))) c.append_pieces-in-Element.ensures.ok

pub returns-in-Element-clause-err : goal.returns-in-Element-clause-err
returns-in-Element-clause-err c =
    subst (λ t. OnErr c.append_pieces-in-Element.result (AppendsPart c.args.out.now.items c.append_pieces-in-Element.new.out.items t)) (sym (packet_line c.args.line.now (numbered (codes "element") c.in-Element.id) (ap verdict_text c.in-Element.is))) c.append_pieces-in-Element.ensures.err
