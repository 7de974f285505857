use Rattle.std.proofs.Common.{◌≡◌, ◌∙◌, ◌+◌, ◌<◌, ◌++◌, ◌∷◌, [], ap, subst, sym, arith, length, List}
use Rattle.set_compare.proofs.RegionLaws.{AreSplit, split-some, split-same, split-all}
use Rattle.set_model.specs.declared.kind.Interval.{Interval}
use Rattle.set_compare.proofs.region.Region.subtract.Goals as goal
use Rattle.set_compare.proofs.region.Region.subtract.Goals.{in-Some+in_ok-push-in-Some, in-None}

pub fields-preserved : goal.fields-preserved
fields-preserved c =
    let l : c.fields.f < length c.args.element.now = omega arith in
    elim c.match-branch-2.branch [
      | in-Some+in_ok-push-in-Some w ↦
          let more : c.match-branch-2.rest.items ≡ c.fields.rest.items ++ w.in-Some.above ∷ [] = ap (λ v. v.items) w.rest-is ∙ w.in_ok-push-in-Some.ensures.items in
          split-some c.fields.f _ c.args.element.now c.args.self c.args.rest.now.items c.fields.self c.cut_above.new.self w.in-Some.above c.fields.rest.items c.match-branch-2.rest.items c.in_ok-above.field-0 c.fields.invariant l
          c.in_ok-above.ensures w.in-Some.is more
      | in-None w ↦
          let same : c.fields.rest.items ≡ c.match-branch-2.rest.items = ap (λ v. v.items) (sym w.rest-is) in
          let P : List (List Interval) → Type 0 = λ z. AreSplit (c.fields.f + 1) c.args.element.now c.args.self c.args.rest.now.items c.cut_above.new.self z in
          subst P same
          (split-same c.fields.f _ c.args.element.now c.args.self c.args.rest.now.items c.fields.self c.cut_above.new.self c.fields.rest.items c.in_ok-above.field-0 c.fields.invariant l c.in_ok-above.ensures w.in-None.is)
    ]

pub returns : goal.returns
returns c = split-all c.fields.f c.args.element.now c.args.self c.args.rest.now.items c.fields.self c.fields.rest.items c.fields.invariant (omega arith)
