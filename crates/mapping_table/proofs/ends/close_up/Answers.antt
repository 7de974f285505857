use Rattle.std.proofs.Common.{◌≡◌, refl, sym, ◌∙◌, ap, ◌+◌, ◌-◌, get_or, None, arith, length-drop}
use Rattle.std.proofs.lemmas.List.{get_or-drop}
use Rattle.std.proofs.lemmas.Option.{get_or_from_slice_get}
use Rattle.set_tables.specs.declared.End.{End}
use Rattle.set_tables.specs.Rows.{lowered_place}
use Rattle.mapping_table.proofs.MoveLaws.{moved-more}
use Rattle.mapping_table.proofs.ends.close_up.Goals as goal

pub overflow_sub-end : goal.overflow_sub-end
overflow_sub-end c =
    let d : End = record { place = 0; expiry = None } in
    let i = c.ends.i in
    let old = c.args.ends.now.items in
    let place : c.args.first + c.args.n + (c.ends.i - c.args.first) ≡ c.ends.i + c.args.n = omega arith in
    let e = ap (λ x. x.place) (get_or-drop (c.args.first + c.args.n) old (i - c.args.first) d ∙ ap (λ j. get_or old j d) place ∙ sym (c.ends.invariant.items.behind (i + c.args.n) d (omega arith))
    ∙ get_or_from_slice_get c.ends.ends.items (i + c.args.n) c.at-end.result.now d c.at-end.ensures) in
    let high = c.requires.later (i - c.args.first) d (omega (arith, length-drop (c.args.first + c.args.n) c.args.ends.now.items)) in
    omega (arith, e, high)

pub ends-preserved : goal.ends-preserved
ends-preserved c =
    let d : End = record { place = 0; expiry = None } in
    record {
      items = rw c.set.ensures.items (moved-more lowered_place c.args.first c.args.n c.ends.i _ _ c.args.ends.now.items c.ends.ends.items _ d (omega arith) refl refl (omega arith) c.ends.invariant.items
          (ap lowered_place (sym (get_or_from_slice_get c.ends.ends.items (c.ends.i + c.args.n) c.at-end.result.now d c.at-end.ensures))));
      spare = c.set.ensures.spare ∙ c.ends.invariant.spare;
      own = c.set.ensures.own ∙ c.ends.invariant.own;
      taken = c.set.ensures.taken ∙ c.ends.invariant.taken;
    }
