use Rattle.std.proofs.Common.{◌∙◌, ap, ◌++◌, append-nil, codes}
use Rattle.std.proofs.lemmas.Option.{slice_get-get_or}
use Rattle.set_model.specs.declared.kind.Kind.TheVariants.{Ipv4}
use Rattle.set_report.specs.KindText.{kind_text}
use Rattle.element_text.proofs.JoinLaws.{joins_get}
use Rattle.set_report.proofs.list.write_kinds.Goals as goal

pub kinds-preserved : goal.kinds-preserved
kinds-preserved c =
    joins_get kind_text (codes " . ") c.args.kinds.now c.kinds.kind-index _ _ _ _ _ (slice_get-get_or c.args.kinds.now c.kinds.kind-index Ipv4 c.kinds-test.true) c.kinds.invariant
    (c.in_ok-write.ensures.ok ∙ ap (λ t. c.kinds.out.items ++ (c.kinds.separator.now ++ t)) (append-nil _ ∙ c.kind_word.ensures))
