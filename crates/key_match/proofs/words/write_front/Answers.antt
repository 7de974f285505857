use Rattle.std.proofs.Common.{◌≡◌, ◌++◌, ◌∙◌, ap, sym, subst, true, [], codes, decimal, List, append_assoc, append-nil}
use Rattle.std.proofs.lemmas.Result.{on_ok_weaker}
use Rattle.set_model.specs.declared.kind.Kind.{Kind}
use Rattle.set_model.specs.declared.kind.Interval.{Interval}
use Rattle.set_model.specs.Key.{parts_fit}
use Rattle.element_text.specs.ElementText.{intervals_text}
use Rattle.key_match.proofs.ListLaws.{front-parts}
use Rattle.key_match.proofs.words.write_front.Goals as goal

pub write_intervals-requires : goal.write_intervals-requires
write_intervals-requires c =
    subst (λ (k : List Kind). parts_fit k c.as_slice-2.result.now ≡ true) (sym c.as_slice.ensures)
    (subst (λ (p : List Interval). parts_fit c.args.set.now.kinds p ≡ true) (sym c.as_slice-2.ensures) c.requires)

pub returns : goal.returns
returns c =
    on_ok_weaker c.write_intervals.result
    (λ wrote. front-parts c.args.out.now.items c.append_pieces.new.out.items _ (decimal c.args.element.now.id) _ c.in_ok-append_pieces.ensures.ok
    (wrote ∙ ap (λ (k : List Kind). c.append_pieces.new.out.items ++ intervals_text k c.as_slice-2.result.now) c.as_slice.ensures ∙ ap (λ (p : List Interval). c.append_pieces.new.out.items ++ intervals_text c.args.set.now.kinds p) c.as_slice-2.ensures))
    c.write_intervals.ensures.ok
