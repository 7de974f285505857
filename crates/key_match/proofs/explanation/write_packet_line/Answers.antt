use Rattle.std.proofs.Common.{◌≡◌, ◌∙◌, ap, sym, subst, true, ◌++◌, List}
use Rattle.std.proofs.lemmas.Result.{on_ok_weaker}
use Rattle.set_model.specs.declared.kind.Kind.{Kind}
use Rattle.set_model.specs.Key.{key_fits}
use Rattle.set_model.specs.Text.{set_text}
use Rattle.std.proofs.Common.{Some}
use Rattle.element_text.specs.ElementText.{key_text}
use Rattle.key_match.proofs.ListLaws.{packet-parts}
use Rattle.key_match.proofs.explanation.write_packet_line.Goals as goal

pub write_key-requires : goal.write_key-requires
write_key-requires c = subst (λ (k : List Kind). key_fits k c.args.asked.now.key.now ≡ true) (sym c.as_slice.ensures) c.requires

pub returns : goal.returns
returns c =
    let a = c.args.asked.now in
    on_ok_weaker c.append_pieces-2.result
    (λ last. packet-parts c.args.out.now.items c.append_pieces.new.out.items c.write_key.new.out.items _ (set_text (Some a.declared.now)) (key_text a.declared.now.kinds a.key.now) _ c.in_ok-append_pieces.ensures.ok
    (c.in_ok-write_key.ensures.ok ∙ ap (λ (k : List Kind). c.append_pieces.new.out.items ++ key_text k a.key.now) c.as_slice.ensures) last)
    c.append_pieces-2.ensures.ok
