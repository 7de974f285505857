use Rattle.std.proofs.Common.{◌≡◌, ◌+◌, ◌-◌, ◌<◌, sym, ◌∙◌, ap, subst, arith, length, []}
use Rattle.std.proofs.lemmas.List.{get_or_default}
use Rattle.pipapo_image.specs.Index.Built.{Built}
use Rattle.pipapo_image.specs.Index.Standing.{IsTableOf}
use Rattle.pipapo_image.proofs.BuiltLaws.{built-none, built-more}
use Rattle.pipapo_image.proofs.Empty.{IsEmptyTable, IsEmptyMap}
use Rattle.pipapo_image.proofs.index.Index.new.Goals.{then-len-gt0+in_ok-push, else-len-gt0}
use Rattle.pipapo_image.proofs.index.Index.new.Goals as goal

pub kinds-init : goal.kinds-init
kinds-init c = record {
  fields = subst (λ z. Built (IsEmptyTable c.as_slice-kind-items.result.now) z 0) (sym c.new-fields.ensures) (built-none (IsEmptyTable c.as_slice-kind-items.result.now));
  maps = subst (λ z. Built IsEmptyMap z 0) (sym c.new-maps.ensures) (built-none IsEmptyMap);
}

pub kinds-preserved : goal.kinds-preserved
kinds-preserved c =
    let kinds = c.as_slice-kind-items.result.now in
    let long = c.kinds.invariant.fields.one_each in
    record {
      fields = subst (λ z. Built (IsEmptyTable kinds) z (c.kinds.kind-index + 1)) (sym c.in_ok-push-2.ensures.ok)
          (built-more (IsEmptyTable kinds) c.kinds.fields c.kinds.kind-index c.in_ok-empty_table.field-0 c.kinds.invariant.fields
          (λ k. subst (λ z. IsTableOf z [] c.in_ok-empty_table.field-0) (get_or_default kinds c.kinds.kind-index _ k c.kinds-test.true) c.in_ok-empty_table.ensures));
      maps = elim c.if-len-gt0.branch [
        | then-len-gt0+in_ok-push w ↦
            let e : (c.kinds.kind-index - 1) + 1 ≡ (c.kinds.kind-index + 1) - 1 = omega (arith, c.len.ensures, w.if-len-gt0.true) in
            subst (λ n. Built IsEmptyMap c.if-len-gt0.maps n) e
            (subst (λ z. Built IsEmptyMap z ((c.kinds.kind-index - 1) + 1)) (sym (w.maps-is ∙ w.in_ok-push.ensures.ok)) (built-more IsEmptyMap c.kinds.maps (c.kinds.kind-index - 1) w.new.result c.kinds.invariant.maps w.new.ensures.items))
        | else-len-gt0 w ↦
            let e : c.kinds.kind-index - 1 ≡ (c.kinds.kind-index + 1) - 1 = omega (arith, c.len.ensures, w.if-len-gt0.false) in
            subst (λ n. Built IsEmptyMap c.if-len-gt0.maps n) e (subst (λ z. Built IsEmptyMap z (c.kinds.kind-index - 1)) (sym w.maps-is) c.kinds.invariant.maps)
      ];
    }

pub returns : goal.returns
returns c =
    let e = c.as_slice-kind-items.ensures in
    let n : c.kinds.kind-index ≡ length c.args.kinds.now = omega (arith, c.kinds.auto.kind-index-end, c.kinds-test.false, ap length e) in
    let fields : Built (IsEmptyTable c.args.kinds.now) c.kinds.fields c.kinds.kind-index = subst (λ z. Built (IsEmptyTable z) c.kinds.fields c.kinds.kind-index) e c.kinds.invariant.fields in
    let m = c.kinds.invariant.maps.one_each in
    record {
      fields = record { one_each = fields.one_each ∙ n; each = λ f k t h. let l : f < c.kinds.kind-index = omega arith in fields.each f t l k };
      maps = record { one_fewer = omega (arith, c.requires); each = λ f d h. let l : f < c.kinds.kind-index - 1 = omega arith in c.kinds.invariant.maps.each f d l };
      ends = c.new-2.ensures.items;
    }
