use Rattle.std.proofs.Common.{◌≡◌, ap, ◌+◌, ◌*◌, ◌/◌, length, slice_get, Some, subst, arith, length-take}
use Rattle.std.proofs.lemmas.List.Edits.{length-remove}
use Rattle.std.proofs.lemmas.Option.{slice_get_within}
use Rattle.expiry_scan.proofs.EndLaws.{ends_there, removed_below, taken}
use Rattle.expiry_scan.proofs.timed.TimedElements.remove.Goals as goal

pub invariant_of-self-2 : goal.invariant_of-self-2
invariant_of-self-2 c =
    let es = c.self.inside.items in
    let pages = c.self.inside.ends.items in
    let i = c.args.i in
    let n = c.args.i / 512 in
    let within = slice_get_within es i _ c.in_ok-element.ensures.item in
    let short = ap length c.truncate.ensures.items in
    let least = length-take n pages in
    let less = length-remove es i within in
    let removed = ap length c.in_ok-element.ensures.ok in (
      omega (arith, short, least, less, removed, within, c.self.invariant.0),
      λ page ends h.
          let kept = taken n pages page ends (subst (λ z. slice_get z page ≡ Some ends) c.truncate.ensures.items h) in
          ends_there c.self.inside.passed es c.remove.new.self page ends (λ k e l at.
          let there = subst (λ z. slice_get z (512 * page + k) ≡ Some e) c.in_ok-element.ensures.ok at in
          removed_below es i (512 * page + k) e within (omega (arith, kept.0, l)) there) (c.self.invariant.1 page ends kept.1),
    )
