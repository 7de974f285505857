use Rattle.std.proofs.Common.{◌≡◌, ◌∙◌, ◌++◌, ap, sym, subst, true, List, ℕ, slice_get}
use Rattle.std.proofs.lemmas.Result.{on_ok_weaker}
use Rattle.set_model.specs.declared.kind.Kind.{Kind}
use Rattle.set_model.specs.Key.{key_fits}
use Rattle.element_text.specs.ElementText.{key_text, line_text}
use Rattle.compare_answer.specs.Verdict.{differs_front, held_text, missed_text}
use Rattle.compare_answer.specs.Plain.{plain_set}
use Rattle.compare_answer.proofs.VerdictLaws.{lack-parts}
use Rattle.compare_answer.proofs.verdict.write_lack.Goals as goal

pub write_key-requires : goal.write_key-requires
write_key-requires c =
    subst (λ (k : List Kind). key_fits k c.as_slice-2.result.now ≡ true) (sym (c.as_slice.ensures ∙ c.kinds.ensures))
    (subst (λ (k : List ℕ). key_fits c.args.held.now.image.now.kinds k ≡ true) (sym c.as_slice-2.ensures) c.requires)

pub returns : goal.returns
returns c =
    let held = plain_set c.args.held.now in
    let lack = c.args.lack.now in
    on_ok_weaker c.write_missed.result
    (λ last. lack-parts c.args.out.now.items c.write_front.new.out.items c.write_key.new.out.items _ _ (differs_front held.declared) (key_text held.state.kinds lack.key) (held_text held lack.found.id) (line_text (slice_get held.lines lack.found.id)) (missed_text c.args.other.now.file.now)
    c.in_ok-write_front.ensures
    (c.in_ok-write_key.ensures.ok ∙ ap (λ (k : List Kind). c.write_front.new.out.items ++ key_text k c.as_slice-2.result.now) (c.as_slice.ensures ∙ c.kinds.ensures) ∙ ap (λ (k : List ℕ). c.write_front.new.out.items ++ key_text held.state.kinds k) c.as_slice-2.ensures)
    c.in_ok-write_holder.ensures last)
    c.write_missed.ensures
