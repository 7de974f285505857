use Rattle.std.proofs.Common.{rules, arith, ◌≡◌, ◌<◌, length, sym, ap, subst, slice_get, Some}
use Rattle.std.specs.Arc.{arc_value}
use Rattle.set_model.specs.Runnable.{IsFitting}
use Rattle.gen_publish.proofs.KindLaws.{seen_fits}
use Rattle.gen_publish.proofs.reader.Held.lookup.Goals as goal

pub at-requires : goal.at-requires
at-requires c =
    let fits = seen_fits (arc_value c.self.inside.tools.schema) c.self.inside.inner.seen (arc_value c.get.result.now.generation) (record { set = c.args.set; key = c.args.key.now; now = c.args.now }) c.self.invariant c.get.ensures
    (subst (λ z. IsFitting z (record { set = c.args.set; key = c.args.key.now; now = c.args.now })) (sym (ap (λ r. r.schema) c.self.view_is)) c.requires) in
    let within : c.args.set < length (arc_value c.get.result.now.generation).sets = fits.0 in
    grind (arith, within)

pub find-requires : goal.find-requires
find-requires c =
    let fits = seen_fits (arc_value c.self.inside.tools.schema) c.self.inside.inner.seen (arc_value c.get.result.now.generation) (record { set = c.args.set; key = c.args.key.now; now = c.args.now }) c.self.invariant c.get.ensures
    (subst (λ z. IsFitting z (record { set = c.args.set; key = c.args.key.now; now = c.args.now })) (sym (ap (λ r. r.schema) c.self.view_is)) c.requires) in
    let at : slice_get (arc_value c.get.result.now.generation).sets c.args.set ≡ Some c.at.result.now = search rules in
    fits.1 _ at
