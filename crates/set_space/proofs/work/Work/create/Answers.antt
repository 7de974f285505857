use Rattle.std.proofs.Common.{arith}
use Rattle.std.specs.Arc.{arc_value}
use Rattle.std.proofs.lemmas.Result.{on_err_weaker}
use Rattle.set_model.specs.SetState.{add}
use Rattle.set_space.specs.Answers.{IsCreation}
use Rattle.set_space.proofs.Refusals.{creation_err}
use Rattle.set_space.specs.OpenSets.{open_state}
use Rattle.set_space.proofs.SetsLaws.{set-within, open-within, work-at, one-changed, none-changed}
use Rattle.set_space.proofs.work.Work.create.Goals as goal

pub set-base-requires : goal.set-base-requires
set-base-requires c = set-within (arc_value c.self.inside.base) c.deref.result.now c.self.inside.sets.items c.args.set c.args.self.now c.self.view_is c.self.invariant.0 c.deref.ensures c.requires.set

pub index_mut-requires : goal.index_mut-requires
index_mut-requires c =
    let h = open-within (arc_value c.self.inside.base) c.self.inside.sets.items c.args.set c.args.self.now c.self.view_is c.self.invariant.0 c.requires.set in
    omega (arith, h, c.self.inside.sets.ok)

pub create-requires : goal.create-requires
create-requires c =
    c.requires.fits (open_state c.index_mut.result.now c.set-base.result.now)
    (work-at (arc_value c.self.inside.base) c.deref.result.now c.self.inside.sets.items c.args.set c.index_mut.result.now c.set-base.result.now c.args.self.now
    c.self.view_is c.self.invariant.0 c.deref.ensures c.requires.set c.index_mut.ensures.value c.set-base.ensures)

pub returns-clause-change : goal.returns-clause-change
returns-clause-change c =
    one-changed (arc_value c.self.inside.base) c.deref.result.now c.self.inside.sets.items c.args.set c.index_mut.result.now c.set-base.result.now c.args.self.now
    c.self.view_is c.self.invariant.0 c.deref.ensures c.requires.set c.index_mut.ensures.value c.set-base.ensures
    (λ s t. IsCreation (add s c.args.element.now c.args.now) c.create.result s t) c.create.new.self c.create.ensures

pub returns-clause-refused : goal.returns-clause-refused
returns-clause-refused c =
    on_err_weaker c.create.result
    (none-changed (arc_value c.self.inside.base) c.deref.result.now c.self.inside.sets.items c.args.set c.index_mut.result.now c.set-base.result.now c.args.self.now
    c.self.view_is c.self.invariant.0 c.deref.ensures c.requires.set c.index_mut.ensures.value c.set-base.ensures c.create.new.self)
    (creation_err _ (open_state c.index_mut.result.now c.set-base.result.now) (open_state c.create.new.self c.set-base.result.now) c.create.result c.create.ensures)
