use Rattle.std.proofs.Common.{◌≡◌, refl, sym, ◌∙◌, ap, ◌+◌, ◌-◌, get_or, arith, length-drop}
use Rattle.std.proofs.lemmas.List.{get_or-drop}
use Rattle.std.proofs.lemmas.Option.{get_or_from_slice_get}
use Rattle.set_tables.specs.declared.Span.{Span}
use Rattle.set_tables.specs.Rows.{lowered}
use Rattle.mapping_table.proofs.MoveLaws.{moved-more}
use Rattle.mapping_table.proofs.map.close_up.Goals as goal

pub overflow_sub-span : goal.overflow_sub-span
overflow_sub-span c =
    let d : Span = record { first = 0; count = 0 } in
    let i = c.spans.i in
    let old = c.args.spans.now.items in
    let place : c.args.first + c.args.n + (c.spans.i - c.args.first) ≡ c.spans.i + c.args.n = omega arith in
    let e = ap (λ x. x.first) (get_or-drop (c.args.first + c.args.n) old (i - c.args.first) d ∙ ap (λ j. get_or old j d) place ∙ sym (c.spans.invariant.items.behind (i + c.args.n) d (omega arith))
    ∙ get_or_from_slice_get c.spans.spans.items (i + c.args.n) c.at-span.result.now d c.at-span.ensures) in
    let high = c.requires.high (i - c.args.first) d (omega (arith, length-drop (c.args.first + c.args.n) c.args.spans.now.items)) in
    omega (arith, e, high)

pub spans-preserved : goal.spans-preserved
spans-preserved c =
    let d : Span = record { first = 0; count = 0 } in
    record {
      items = rw c.set.ensures.items (moved-more (lowered c.args.k) c.args.first c.args.n c.spans.i _ _ c.args.spans.now.items c.spans.spans.items _ d (omega arith) refl refl (omega arith) c.spans.invariant.items
          (ap (lowered c.args.k) (sym (get_or_from_slice_get c.spans.spans.items (c.spans.i + c.args.n) c.at-span.result.now d c.at-span.ensures))));
      spare = c.set.ensures.spare ∙ c.spans.invariant.spare;
      own = c.set.ensures.own ∙ c.spans.invariant.own;
      taken = c.set.ensures.taken ∙ c.spans.invariant.taken;
    }
