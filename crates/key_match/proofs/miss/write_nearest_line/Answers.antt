use Rattle.std.proofs.Common.{◌≡◌, ◌∙◌, ap, sym, subst, true, ◌++◌, List}
use Rattle.std.proofs.lemmas.Result.{on_ok_weaker}
use Rattle.set_model.specs.declared.kind.Kind.{Kind}
use Rattle.set_model.specs.Key.{key_fits}
use Rattle.key_match.specs.Matched.{unmatched_text}
use Rattle.key_match.proofs.ListLaws.{five-parts}
use Rattle.key_match.proofs.miss.write_nearest_line.Goals as goal

pub write_unmatched-requires : goal.write_unmatched-requires
write_unmatched-requires c = subst (λ (k : List Kind). key_fits k c.args.asked.now.key.now ≡ true) (sym c.as_slice.ensures) c.requires.key

pub returns : goal.returns
returns c =
    let a = c.args.asked.now in
    on_ok_weaker c.append_pieces-3.result
    (λ last. five-parts c.args.out.now.items c.append_pieces.new.out.items c.write_named.new.out.items c.append_pieces-2.new.out.items c.write_unmatched.new.out.items _ _ _ _ _ _
    c.in_ok-append_pieces.ensures.ok c.in_ok-write_named.ensures c.in_ok-append_pieces-2.ensures.ok
    (c.in_ok-write_unmatched.ensures ∙ ap (λ (k : List Kind). c.append_pieces-2.new.out.items ++ unmatched_text k a.key.now c.args.element.now) c.as_slice.ensures) last)
    c.append_pieces-3.ensures.ok
