use Rattle.std.proofs.Common.{◌∙◌, ap, ◌++◌, List, ℕ}
use Rattle.std.proofs.lemmas.Result.{on_ok_weaker}
use Rattle.element_text.specs.ElementText.{comment_text}
use Rattle.key_match.proofs.ListLaws.{five-parts}
use Rattle.key_match.proofs.hit.write_answer.Goals as goal

pub returns : goal.returns
returns c =
    on_ok_weaker c.write_left.result
    (λ last. five-parts c.args.out.now.items c.append_pieces.new.out.items c.write_front.new.out.items c.write_comment.new.out.items c.write_line.new.out.items _ _ _ _ _ _
    c.in_ok-append_pieces.ensures.ok c.in_ok-write_front.ensures (c.in_ok-write_comment.ensures.ok ∙ ap (λ (z : List ℕ). c.write_front.new.out.items ++ comment_text z) c.as_slice.ensures) c.in_ok-write_line.ensures.ok last)
    c.write_left.ensures
