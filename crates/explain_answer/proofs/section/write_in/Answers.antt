use Rattle.std.proofs.Common.{◌≡◌, ◌∙◌, ap, sym, subst, true, ◌++◌, All, List, ℕ, Option, is_none}
use Rattle.std.specs.Prelude.{IfSome}
use Rattle.std.proofs.lemmas.Result.{on_ok_weaker}
use Rattle.set_model.specs.declared.element.Element.{Element}
use Rattle.set_model.specs.declared.kind.Kind.{Kind}
use Rattle.set_model.specs.Key.{key_fits, parts_fit}
use Rattle.set_model.specs.SetState.{answers}
use Rattle.std.specs.List.{find}
use Rattle.key_match.specs.Matched.{packet_text}
use Rattle.explain_answer.proofs.section.write_in.Goals as goal

pub element_for-answer-requires : goal.element_for-answer-requires
element_for-answer-requires c = subst (λ (k : List Kind). key_fits k c.args.packet.now.key ≡ true) (sym c.requires.kinds) c.requires.key

pub write_packet-requires-clause-proper : goal.write_packet-requires-clause-proper
write_packet-requires-clause-proper c =
    let d = c.args.declared.now in record {
      key = subst (λ (k : List ℕ). key_fits d.kinds k ≡ true) (sym c.as_slice.ensures) c.requires.key;
      parts =
          subst (λ (es : List Element). All (λ e. parts_fit d.kinds e.parts ≡ true) es) (sym c.elements.ensures.same)
          (subst (λ (k : List Kind). All (λ e. parts_fit k e.parts ≡ true) c.args.image.now.elements) c.requires.kinds c.elements.ensures.fit);
    }

pub write_packet-requires-clause-fits : goal.write_packet-requires-clause-fits
write_packet-requires-clause-fits c = subst (λ (k : List Kind). IfSome c.element_for-answer.result (λ e. parts_fit k e.now.parts ≡ true)) c.requires.kinds c.element_for-answer.ensures.fits

pub write_packet-requires-clause-first : goal.write_packet-requires-clause-first
write_packet-requires-clause-first c =
    let p = c.args.packet.now in
    c.element_for-answer.ensures.first
    ∙ ap (λ (es : List Element). find (answers p.key p.now) es) (sym c.elements.ensures.same)
    ∙ ap (λ (k : List ℕ). find (answers k p.now) c.elements.result.now) (sym c.as_slice.ensures)

pub returns-clause-text : goal.returns-clause-text
returns-clause-text c =
    let p = c.args.packet.now in
    let d = c.args.declared.now in
    let lines = c.args.lines.now in
    let old = c.args.out.now.items in
    c.in_ok-write_packet.ensures
    ∙ ap (λ (k : List ℕ). old ++ packet_text (record { declared = d; elements = c.elements.result.now; lines = lines; key = k; now = p.now })) c.as_slice.ensures
    ∙ ap (λ (es : List Element). old ++ packet_text (record { declared = d; elements = es; lines = lines; key = p.key; now = p.now })) c.elements.ensures.same

pub returns-clause-lacks : goal.returns-clause-lacks
returns-clause-lacks c = c.is_missing.ensures ∙ ap (λ (o : Option Element). is_none o) c.element_for-answer.ensures.first
