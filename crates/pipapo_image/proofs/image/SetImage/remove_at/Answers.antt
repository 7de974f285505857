use Rattle.std.proofs.Common.{◌<◌, ◌≤◌, List, Option, sym, ◌∙◌, ap, subst, arith, length, get_or}
use Rattle.std.proofs.lemmas.Option.{get_or_from_slice_get}
use Rattle.lookup_table.specs.declared.table.FieldTable.{FieldTable}
use Rattle.set_model.specs.declared.element.Element.{Element}
use Rattle.set_model.specs.SetState.{State}
use Rattle.set_tables.specs.declared.Span.{Span}
use Rattle.expiry_scan.proofs.PlaceLaws.{no_element}
use Rattle.pipapo_image.specs.Image.{IsImage}
use Rattle.pipapo_image.specs.Index.Runs.{AreRuns, run_at}
use Rattle.pipapo_image.specs.Index.Shrink.{AreOthersWithout, OwnsRuns, IsDroppable, IsDropped}
use Rattle.pipapo_image.proofs.ImageGrowth.{image-kept}
use Rattle.pipapo_image.proofs.Shrinking.{runs-few, droppable, shrink}
use Rattle.pipapo_image.proofs.image.SetImage.remove_at.Goals as goal

pub prepare_without-requires : goal.prepare_without-requires
prepare_without-requires c =
    let s = c.self.inside in
    let runs : AreRuns s.kinds s.elements c.args.i c.in_ok-runs.runs.items (length s.kinds) = rw (← c.self.view_is) at c.in_ok-runs.ensures in
    record {
      maps = ap length c.as_slice.ensures.value ∙ runs.one_each ∙ sym c.self.invariant.tables.maps.one_fewer;
      fields = ap length c.as_slice.ensures.value ∙ runs.one_each ∙ sym c.self.invariant.tables.fields.one_each;
      within = λ f t l.
          let few = runs-few s.kinds s.elements s.index c.args.i c.in_ok-runs.runs.items c.self.invariant.tables runs f t l in
          let is : (run_at c.in_ok-runs.runs.items f).count ≤ (get_or s.index.fields f t).rules = omega arith in
          subst (λ z. (run_at z f).count ≤ (get_or s.index.fields f t).rules) (sym c.as_slice.ensures.value) is;
    }

pub drop_element-requires : goal.drop_element-requires
drop_element-requires c =
    let s = c.self.inside in
    let index = c.prepare_without.new.self in
    let runs : AreRuns s.kinds s.elements c.args.i c.in_ok-runs.runs.items (length s.kinds) = rw (← c.self.view_is) at c.in_ok-runs.ensures in
    let h : c.args.i < length s.elements = rw (← c.self.view_is) at c.requires in
    let image = image-kept s.kinds s.elements s.index index c.self.invariant c.prepare_without.ensures.kept in
    let others = subst (λ z. AreOthersWithout c.prepare_without.new.self.fields z c.in_ok-others.others.items (length c.prepare_without.new.self.fields)) c.as_slice.ensures.value c.in_ok-others.ensures.others in
    let own = subst (λ z. OwnsRuns c.prepare_without.new.self z) c.as_slice.ensures.value c.in_ok-others.ensures.own in
    let is = droppable s.kinds s.elements index c.args.i c.in_ok-runs.runs.items c.in_ok-others.others.items image h runs others own in
    subst (λ z. IsDroppable c.prepare_without.new.self z c.as_slice-2.result.now) (sym c.as_mut_slice.ensures.value) (subst (λ z. IsDroppable c.prepare_without.new.self c.in_ok-others.others.items z) (sym c.as_slice-2.ensures.value) is)

pub invariant_of-self : goal.invariant_of-self
invariant_of-self c = image-kept c.self.inside.kinds c.self.inside.elements c.self.inside.index c.prepare_without.new.self c.self.invariant c.prepare_without.ensures.kept

pub invariant_of-self-in_err-element : goal.invariant_of-self-in_err-element
invariant_of-self-in_err-element c =
    subst (λ z. IsImage c.self.inside.kinds z c.prepare_without.new.self) (sym c.in_err-element.ensures.err)
    (image-kept c.self.inside.kinds c.self.inside.elements c.self.inside.index c.prepare_without.new.self c.self.invariant c.prepare_without.ensures.kept)

pub invariant_of-self-2 : goal.invariant_of-self-2
invariant_of-self-2 c =
    let s = c.self.inside in
    let index = c.prepare_without.new.self in
    let runs : AreRuns s.kinds s.elements c.args.i c.in_ok-runs.runs.items (length s.kinds) = rw (← c.self.view_is) at c.in_ok-runs.ensures in
    let h : c.args.i < length s.elements = rw (← c.self.view_is) at c.requires in
    let image = image-kept s.kinds s.elements s.index index c.self.invariant c.prepare_without.ensures.kept in
    let others = subst (λ z. AreOthersWithout c.prepare_without.new.self.fields z c.in_ok-others.others.items (length c.prepare_without.new.self.fields)) c.as_slice.ensures.value c.in_ok-others.ensures.others in
    let D : List (Option FieldTable) → List Span → Type 0 = λ x y. IsDropped c.prepare_without.new.self c.drop_element.new.self x y in
    let d1 : D c.in_ok-others.others.items c.as_slice-2.result.now = subst (λ z. D z c.as_slice-2.result.now) c.as_mut_slice.ensures.value c.drop_element.ensures in
    let d2 : D c.in_ok-others.others.items c.in_ok-runs.runs.items = subst (λ z. D c.in_ok-others.others.items z) c.as_slice-2.ensures.value d1 in
    subst (λ z. IsImage s.kinds z c.drop_element.new.self) (sym c.in_ok-element.ensures.ok)
    (shrink s.kinds s.elements index c.drop_element.new.self c.args.i c.in_ok-runs.runs.items c.in_ok-others.others.items image h runs others d2)

pub returns-clause-ok : goal.returns-clause-ok
returns-clause-ok c =
    let s = c.self.inside in
    let make : List Element → State = λ es. record { kinds = s.kinds; size = s.size; disjoint = s.disjoint; elements = es; next = s.next } in
    rw (← c.self.view_is) (
      ap (λ e. e.id) (sym (get_or_from_slice_get s.elements c.args.i c.in_ok-element.element no_element c.in_ok-element.ensures.item)),
      ap make c.in_ok-element.ensures.ok,
    )
