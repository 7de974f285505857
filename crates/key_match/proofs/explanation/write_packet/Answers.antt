use Rattle.std.proofs.Common.{◌∙◌, ap, ◌++◌, Option}
use Rattle.std.proofs.lemmas.Result.{on_ok_weaker}
use Rattle.set_model.specs.declared.element.Element.{Element}
use Rattle.key_match.specs.Matched.{plain, explained}
use Rattle.key_match.proofs.ListLaws.{two-parts}
use Rattle.key_match.proofs.explanation.write_packet.Goals as goal

pub returns : goal.returns
returns c =
    on_ok_weaker c.write_explained.result
    (λ last. two-parts c.args.out.now.items c.write_packet_line.new.out.items _ _ _ c.in_ok-write_packet_line.ensures
    (last ∙ ap (λ (o : Option Element). c.write_packet_line.new.out.items ++ explained (plain c.args.asked.now) o) c.requires.first))
    c.write_explained.ensures
