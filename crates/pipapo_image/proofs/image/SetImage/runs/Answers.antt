use Rattle.std.proofs.Common.{◌≡◌, ◌+◌, ◌-◌, sym, ◌∙◌, ap, subst, arith, [], ◌∷◌, ◌++◌}
use Rattle.set_tables.specs.declared.Span.{Span}
use Rattle.set_tables.specs.Tables.{split}
use Rattle.expiry_scan.proofs.PlaceLaws.{no_element}
use Rattle.pipapo_image.specs.Index.Built.{Built}
use Rattle.pipapo_image.specs.Image.{IsImage}
use Rattle.pipapo_image.specs.Index.Runs.{IsElementRun}
use Rattle.pipapo_image.specs.Index.Standing.{AreMapsOf}
use Rattle.pipapo_image.proofs.BuiltLaws.{built-none, built-more}
use Rattle.pipapo_image.proofs.Items.{map-spans}
use Rattle.pipapo_image.proofs.Renewal.{rules-next}
use Rattle.pipapo_image.proofs.RunLaws.{run-inside, run-next}
use Rattle.pipapo_image.proofs.image.SetImage.runs.Goals as goal

pub overflow_sub-run : goal.overflow_sub-run
overflow_sub-run c =
    let s = c.args.self.now in
    let i : IsImage s.kinds s.elements c.self.inside.index = subst (λ z. IsImage z.kinds z.elements c.self.inside.index) c.self.view_is c.self.invariant in
    let maps = subst (λ z. AreMapsOf s.kinds s.elements z) (sym c.as_slice-maps.ensures) i.tables.maps in
    let a = c.first_rules-first.ensures s.kinds s.elements maps i.tables.ends i.fit in
    let b = c.first_rules-end.ensures s.kinds s.elements maps i.tables.ends i.fit in
    let n = rules-next (split s.kinds 0) s.elements c.args.i no_element c.requires in
    omega arith

pub maps-init : goal.maps-init
maps-init c =
    let s = c.args.self.now in
    let i : IsImage s.kinds s.elements c.self.inside.index = subst (λ z. IsImage z.kinds z.elements c.self.inside.index) c.self.view_is c.self.invariant in
    let maps = subst (λ z. AreMapsOf s.kinds s.elements z) (sym c.as_slice-maps.ensures) i.tables.maps in
    let a = c.first_rules-first.ensures s.kinds s.elements maps i.tables.ends i.fit in
    let b = c.first_rules-end.ensures s.kinds s.elements maps i.tables.ends i.fit in
    let n = rules-next (split s.kinds 0) s.elements c.args.i no_element c.requires in
    let run : Span = record { first = c.first_rules-first.result; count = c.first_rules-end.result - c.first_rules-first.result } in
    let is : IsElementRun s.kinds s.elements c.args.i 0 run = record { begins = a; ends = omega arith } in
    let P = IsElementRun s.kinds s.elements c.args.i in
    let pushed : c.push.new.self.items ≡ [] ++ run ∷ [] = c.in_ok-push.ensures.items ∙ ap (λ z. z ++ run ∷ []) c.new-runs.ensures.items in
    record { runs = subst (λ z. Built P z 1) (sym pushed) (built-more P [] 0 run (built-none P) is); run = is }

pub at-run-requires : goal.at-run-requires
at-run-requires c =
    let s = c.args.self.now in
    let i : IsImage s.kinds s.elements c.self.inside.index = subst (λ z. IsImage z.kinds z.elements c.self.inside.index) c.self.view_is c.self.invariant in
    let maps = subst (λ z. AreMapsOf s.kinds s.elements z) (sym c.as_slice-maps.ensures) i.tables.maps in
    let n = maps.one_fewer in
    run-inside s.kinds s.elements c.args.i c.maps.f c.maps.run c.index-maps-f.result c.requires i.fit (omega (arith, c.maps-test.true))
    (map-spans s.kinds s.elements c.as_slice-maps.result.now c.maps.f c.index-maps-f.result maps c.maps-test.true c.index-maps-f.is) c.maps.invariant.run

pub maps-preserved : goal.maps-preserved
maps-preserved c =
    let s = c.args.self.now in
    let i : IsImage s.kinds s.elements c.self.inside.index = subst (λ z. IsImage z.kinds z.elements c.self.inside.index) c.self.view_is c.self.invariant in
    let maps = subst (λ z. AreMapsOf s.kinds s.elements z) (sym c.as_slice-maps.ensures) i.tables.maps in
    let n = maps.one_fewer in
    let next = c.at-run.result.now in
    let is = run-next s.kinds s.elements c.args.i c.maps.f c.maps.run next c.index-maps-f.result c.requires i.fit (omega (arith, c.maps-test.true))
    (map-spans s.kinds s.elements c.as_slice-maps.result.now c.maps.f c.index-maps-f.result maps c.maps-test.true c.index-maps-f.is) c.maps.invariant.run c.at-run.ensures in
    let P = IsElementRun s.kinds s.elements c.args.i in
    record { runs = subst (λ z. Built P z (c.maps.f + 1 + 1)) (sym c.in_ok-push-2.ensures.items) (built-more P c.maps.runs.items (c.maps.f + 1) next c.maps.invariant.runs is); run = is }
