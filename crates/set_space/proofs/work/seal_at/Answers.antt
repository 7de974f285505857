use Rattle.std.proofs.Common.{◌≡◌, ◌<◌, ◌^◌, ap, get_or, count_by}
use Rattle.std.specs.Arc.{arc_value}
use Rattle.std.proofs.lemmas.Result.{IfOk-weaker}
use Rattle.set_model.specs.SetState.{purged}
use Rattle.expiry_scan.specs.Expired.{is_expired}
use Rattle.set_space.specs.OpenSets.{open_state, open_states, IsSealed}
use Rattle.set_space.proofs.SetsLaws.{open-at, open-kept}
use Rattle.set_space.proofs.work.seal_at.Goals as goal

pub returns-clause-same : goal.returns-clause-same
returns-clause-same c =
    open-kept c.args.sets.now c.args.base.now.sets c.args.set (get_or c.args.sets.now c.args.set c.index-sets-set.result) c.seal.new.self (arc_value c.shared-shared.result.now)
    c.requires.within (ap (λ z. get_or c.args.sets.now c.args.set z) c.index-sets-set.is) c.shared-shared.ensures c.seal.ensures.same

pub returns-clause-sealed : goal.returns-clause-sealed
returns-clause-sealed c =
    let o = get_or c.args.sets.now c.args.set c.index-sets-set.result in
    let base = arc_value c.shared-shared.result.now in
    IfOk-weaker c.seal.result
    (λ r. (arc_value r.0 ≡ purged (open_state o base) c.args.now) × (r.1 ≡ count_by (is_expired c.args.now) (open_state o base).elements) × (r.1 < 2 ^ 32))
    (λ r. IsSealed (open_states c.args.sets.now c.args.base.now.sets) c.args.set c.args.now (arc_value r.0) r.1)
    (λ r told. record {
      state = open_state o base;
      at = open-at c.args.sets.now c.args.base.now.sets c.args.set o base c.requires.within (ap (λ z. get_or c.args.sets.now c.args.set z) c.index-sets-set.is) c.shared-shared.ensures;
      published_is = told.0;
      expired = told.1;
      few = told.2;
    })
    c.seal.ensures.sealed
