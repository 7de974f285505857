use Rattle.std.proofs.Common.{◌∙◌, ap, ◌++◌}
use Rattle.set_report.specs.ListText.{type_line, size_line, flag_words, flags_line, timeout_line, elements_line}
use Rattle.set_report.proofs.ListLaws.{on_ok, five_parts}
use Rattle.set_report.proofs.list.write_items.Goals as goal

pub returns-clause-ok : goal.returns-clause-ok
returns-clause-ok c =
    on_ok c.write_elements.result
    (λ e. five_parts c.args.out.now.items _ _ _ _ _ (type_line c.args.set.now) (size_line c.args.set.now.size) (flags_line (flag_words c.args.set.now)) (timeout_line c.args.set.now.timeout) (elements_line c.args.set.now c.args.now c.args.image.now.elements)
    c.in_ok-write_type.ensures.ok c.in_ok-write_size.ensures.ok c.in_ok-write_flags.ensures.ok c.in_ok-write_timeout.ensures.ok
    (e ∙ ap (λ es. c.write_timeout.new.out.items ++ elements_line c.args.set.now c.args.now es) c.elements.ensures.same))
    c.write_elements.ensures.ok
