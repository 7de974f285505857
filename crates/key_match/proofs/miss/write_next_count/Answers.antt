use Rattle.std.proofs.Common.{◌≡◌, ◌∙◌, ap, sym, subst, ◌++◌, ◌<◌, true, List, [], ℕ, length, get_or, decimal, codes}
use Rattle.std.proofs.lemmas.Result.{on_ok_weaker}
use Rattle.set_model.specs.declared.kind.Kind.{Kind}
use Rattle.set_model.specs.declared.kind.Kind.TheVariants.{Ipv4}
use Rattle.set_model.specs.Key.{is_value}
use Rattle.key_match.specs.Holders.{field_holders}
use Rattle.key_match.specs.Matched.{field_text}
use Rattle.key_match.proofs.ListLaws.{in-parts}
use Rattle.key_match.proofs.miss.write_next_count.Goals as goal

pub write_field-requires-clause-field : goal.write_field-requires-clause-field
write_field-requires-clause-field c = subst (λ (k : List Kind). c.args.field < length k) (sym c.as_slice.ensures) c.requires.field

pub write_field-requires-clause-value : goal.write_field-requires-clause-value
write_field-requires-clause-value c = subst (λ (k : List Kind). is_value (get_or k c.args.field Ipv4) c.args.value ≡ true) (sym c.as_slice.ensures) c.requires.value

pub returns : goal.returns
returns c =
    let a = c.args.asked.now in
    on_ok_weaker c.append_pieces-2.result
    (λ last. in-parts c.args.out.now.items c.append_pieces.new.out.items c.write_field.new.out.items _ (field_text a.declared.now.kinds (c.args.field, c.args.value)) (decimal (length (field_holders a.at (c.args.field, c.args.value) a.elements.now)))
    c.in_ok-append_pieces.ensures.ok
    (c.in_ok-write_field.ensures ∙ ap (λ (k : List Kind). c.append_pieces.new.out.items ++ field_text k (c.args.field, c.args.value)) c.as_slice.ensures)
    (last ∙ ap (λ (n : ℕ). c.write_field.new.out.items ++ (codes " in " ++ (decimal n ++ []))) c.count_holders-holders.ensures))
    c.append_pieces-2.ensures.ok
