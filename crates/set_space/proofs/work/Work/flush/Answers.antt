use Rattle.std.proofs.Common.{arith}
use Rattle.std.specs.Arc.{arc_value}
use Rattle.std.proofs.lemmas.Result.{on_err_weaker}
use Rattle.set_space.specs.Answers.{IsFlush}
use Rattle.set_space.proofs.Refusals.{flush_of}
use Rattle.set_space.specs.OpenSets.{open_state}
use Rattle.set_space.proofs.SetsLaws.{set-within, open-within, work-at, one-changed, none-changed}
use Rattle.set_space.proofs.work.Work.flush.Goals as goal

pub set-base-requires : goal.set-base-requires
set-base-requires c = set-within (arc_value c.self.inside.base) c.deref.result.now c.self.inside.sets.items c.args.set c.args.self.now c.self.view_is c.self.invariant.0 c.deref.ensures c.requires

pub index_mut-requires : goal.index_mut-requires
index_mut-requires c =
    let h = open-within (arc_value c.self.inside.base) c.self.inside.sets.items c.args.set c.args.self.now c.self.view_is c.self.invariant.0 c.requires in
    omega (arith, h, c.self.inside.sets.ok)

pub returns-clause-change : goal.returns-clause-change
returns-clause-change c =
    one-changed (arc_value c.self.inside.base) c.deref.result.now c.self.inside.sets.items c.args.set c.index_mut.result.now c.set-base.result.now c.args.self.now
    c.self.view_is c.self.invariant.0 c.deref.ensures c.requires c.index_mut.ensures.value c.set-base.ensures
    (λ s t. IsFlush c.flush.result s t) c.flush.new.self (flush_of (open_state c.index_mut.result.now c.set-base.result.now) (open_state c.flush.new.self c.set-base.result.now) c.flush.result c.flush.ensures.ok c.flush.ensures.err)

pub returns-clause-refused : goal.returns-clause-refused
returns-clause-refused c =
    on_err_weaker c.flush.result
    (none-changed (arc_value c.self.inside.base) c.deref.result.now c.self.inside.sets.items c.args.set c.index_mut.result.now c.set-base.result.now c.args.self.now
    c.self.view_is c.self.invariant.0 c.deref.ensures c.requires c.index_mut.ensures.value c.set-base.ensures c.flush.new.self)
    c.flush.ensures.err

pub returns-clause-empty : goal.returns-clause-empty
returns-clause-empty c =
    λ none. (c.flush.ensures.empty
    (none (open_state c.index_mut.result.now c.set-base.result.now)
    (work-at (arc_value c.self.inside.base) c.deref.result.now c.self.inside.sets.items c.args.set c.index_mut.result.now c.set-base.result.now c.args.self.now
    c.self.view_is c.self.invariant.0 c.deref.ensures c.requires c.index_mut.ensures.value c.set-base.ensures))).0
