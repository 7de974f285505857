use Rattle.std.proofs.Common.{◌≡◌, ◌∙◌, ap, sym, subst, ◌++◌, ◌<◌, true, List, [], ℕ, length, get_or, decimal, codes}
use Rattle.std.proofs.lemmas.Result.{on_ok_weaker}
use Rattle.set_model.specs.declared.kind.Kind.{Kind}
use Rattle.set_model.specs.declared.kind.Kind.TheVariants.{Ipv4}
use Rattle.set_model.specs.Key.{is_value}
use Rattle.key_match.specs.Holders.{field_holders, live_elements}
use Rattle.key_match.specs.Matched.{field_text, total_text}
use Rattle.key_match.proofs.ListLaws.{count-parts}
use Rattle.key_match.proofs.miss.write_first_count.Goals as goal

pub write_field-requires-clause-field : goal.write_field-requires-clause-field
write_field-requires-clause-field c = subst (λ (k : List Kind). c.args.field < length k) (sym c.as_slice.ensures) c.requires.field

pub write_field-requires-clause-value : goal.write_field-requires-clause-value
write_field-requires-clause-value c = subst (λ (k : List Kind). is_value (get_or k c.args.field Ipv4) c.args.value ≡ true) (sym c.as_slice.ensures) c.requires.value

pub returns : goal.returns
returns c =
    let a = c.args.asked.now in
    on_ok_weaker c.write_total.result
    (λ last. count-parts c.args.out.now.items c.write_field.new.out.items c.append_pieces.new.out.items _ (field_text a.declared.now.kinds (c.args.field, c.args.value)) (decimal (length (field_holders a.at (c.args.field, c.args.value) a.elements.now))) (total_text (length (live_elements a.at a.elements.now)))
    (c.in_ok-write_field.ensures ∙ ap (λ (k : List Kind). c.args.out.now.items ++ field_text k (c.args.field, c.args.value)) c.as_slice.ensures)
    (c.in_ok-append_pieces.ensures.ok ∙ ap (λ (n : ℕ). c.write_field.new.out.items ++ (codes " is in " ++ (decimal n ++ (codes " of " ++ [])))) c.count_holders-holders.ensures)
    (last ∙ ap (λ (n : ℕ). c.append_pieces.new.out.items ++ total_text n) c.count_live.ensures))
    c.write_total.ensures
