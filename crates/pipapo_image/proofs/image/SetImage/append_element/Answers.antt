use Rattle.std.proofs.Common.{sym, ap, subst, List, length, get_or, arith}
use Rattle.lookup_table.specs.declared.table.FieldTable.{FieldTable}
use Rattle.set_model.specs.SetState.{State}
use Rattle.set_tables.specs.declared.End.{End}
use Rattle.set_tables.specs.Search.{of_field}
use Rattle.pipapo_image.specs.Index.Built.{Built}
use Rattle.pipapo_image.specs.Index.Grow.{IsOther}
use Rattle.pipapo_image.specs.Index.Changes.{AreReady, IsAppended}
use Rattle.pipapo_image.proofs.FewLaws.{few_elements}
use Rattle.pipapo_image.proofs.ShapeLaws.{image-shaped}
use Rattle.pipapo_image.proofs.ImageGrowth.{columns-of, image-kept, ready, growth}
use Rattle.pipapo_image.proofs.image.SetImage.append_element.Goals as goal

pub other_widths-requires-clause-narrow : goal.other_widths-requires-clause-narrow
other_widths-requires-clause-narrow c =
    let s : State = record { kinds = c.self.inside.kinds; size = c.self.inside.size; disjoint = c.self.inside.disjoint; elements = c.self.inside.elements; next = c.self.inside.next } in
    (columns-of s c.self.inside.index c.args.element.parts c.args.columns.now c.self.invariant (rw (← c.self.view_is) at c.requires.columns) (rw (← c.self.view_is) at c.requires.few)).narrow

pub other_widths-requires-clause-few : goal.other_widths-requires-clause-few
other_widths-requires-clause-few c =
    let s : State = record { kinds = c.self.inside.kinds; size = c.self.inside.size; disjoint = c.self.inside.disjoint; elements = c.self.inside.elements; next = c.self.inside.next } in
    rw c.as_slice.ensures (columns-of s c.self.inside.index c.args.element.parts c.args.columns.now c.self.invariant (rw (← c.self.view_is) at c.requires.columns) (rw (← c.self.view_is) at c.requires.few)).few

pub reserve-requires-clause-shaped : goal.reserve-requires-clause-shaped
reserve-requires-clause-shaped c = image-shaped c.self.inside.kinds c.self.inside.elements c.self.inside.index c.self.invariant

pub reserve-requires-clause-columns : goal.reserve-requires-clause-columns
reserve-requires-clause-columns c =
    let s : State = record { kinds = c.self.inside.kinds; size = c.self.inside.size; disjoint = c.self.inside.disjoint; elements = c.self.inside.elements; next = c.self.inside.next } in
    columns-of s c.self.inside.index c.args.element.parts c.args.columns.now c.self.invariant (rw (← c.self.view_is) at c.requires.columns) (rw (← c.self.view_is) at c.requires.few)

pub push-requires : goal.push-requires
push-requires c = omega (arith, few_elements c.self.inside.kinds c.self.inside.elements c.self.inside.index c.self.invariant)

pub invariant_of-self : goal.invariant_of-self
invariant_of-self c = image-kept c.self.inside.kinds c.self.inside.elements c.self.inside.index c.reserve.new.self c.self.invariant c.reserve.ensures.kept

pub invariant_of-self-in_err-push : goal.invariant_of-self-in_err-push
invariant_of-self-in_err-push c =
    rw c.in_err-push.ensures.err (image-kept c.self.inside.kinds c.self.inside.elements c.self.inside.index c.reserve.new.self c.self.invariant c.reserve.ensures.kept)

pub append-requires-clause-shaped : goal.append-requires-clause-shaped
append-requires-clause-shaped c =
    image-shaped c.self.inside.kinds c.self.inside.elements c.reserve.new.self
    (image-kept c.self.inside.kinds c.self.inside.elements c.self.inside.index c.reserve.new.self c.self.invariant c.reserve.ensures.kept)

pub append-requires-clause-columns : goal.append-requires-clause-columns
append-requires-clause-columns c =
    let s : State = record { kinds = c.self.inside.kinds; size = c.self.inside.size; disjoint = c.self.inside.disjoint; elements = c.self.inside.elements; next = c.self.inside.next } in
    columns-of s c.reserve.new.self c.args.element.parts c.args.columns.now
    (image-kept c.self.inside.kinds c.self.inside.elements c.self.inside.index c.reserve.new.self c.self.invariant c.reserve.ensures.kept)
    (rw (← c.self.view_is) at c.requires.columns) (rw (← c.self.view_is) at c.requires.few)

pub append-requires-clause-ready : goal.append-requires-clause-ready
append-requires-clause-ready c =
    let s : State = record { kinds = c.self.inside.kinds; size = c.self.inside.size; disjoint = c.self.inside.disjoint; elements = c.self.inside.elements; next = c.self.inside.next } in
    let O : List FieldTable → Type 0 = λ z. Built (λ f o. (t : FieldTable) → IsOther (length (of_field c.args.columns.now f)) (get_or z f t) o) c.in_ok-others.others.items (length z) in
    let others : O c.self.inside.index.fields = subst O c.as_slice.ensures c.in_ok-others.ensures in
    subst (λ z. AreReady c.reserve.new.self z c.args.columns.now) (sym c.as_mut_slice.ensures.value)
    (ready s c.self.inside.index c.reserve.new.self c.args.element.parts c.args.columns.now c.in_ok-others.others.items c.self.invariant (rw (← c.self.view_is) at c.requires.columns) others c.reserve.ensures.kept c.in_ok-reserve.ensures.room)

pub invariant_of-self-2 : goal.invariant_of-self-2
invariant_of-self-2 c =
    let s : State = record { kinds = c.self.inside.kinds; size = c.self.inside.size; disjoint = c.self.inside.disjoint; elements = c.self.inside.elements; next = c.self.inside.next } in
    let end : End = record { place = c.len.result; expiry = c.args.element.expiry } in
    let O : List FieldTable → Type 0 = λ z. Built (λ f o. (t : FieldTable) → IsOther (length (of_field c.args.columns.now f)) (get_or z f t) o) c.in_ok-others.others.items (length z) in
    let others : O c.self.inside.index.fields = subst O c.as_slice.ensures c.in_ok-others.ensures in
    let appended : IsAppended c.reserve.new.self c.append.new.self c.in_ok-others.others.items c.args.columns.now end =
    subst (λ z. IsAppended c.reserve.new.self c.append.new.self z c.args.columns.now end) c.as_mut_slice.ensures.value c.append.ensures in
    rw c.in_ok-push.ensures.ok
    (growth s c.self.inside.index c.reserve.new.self c.append.new.self c.args.element c.args.columns.now c.in_ok-others.others.items end c.self.invariant
    (rw (← c.self.view_is) at c.requires.fit) (rw (← c.self.view_is) at c.requires.columns) (rw (← c.self.view_is) at c.requires.few) others c.reserve.ensures.kept appended
    (ap (λ n. let x : End = record { place = n; expiry = c.args.element.expiry } in x) c.len.ensures))
