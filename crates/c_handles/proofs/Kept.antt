-- Each declared set is there.
use Rattle.std.proofs.Common.{◌≡◌, ◌<◌, ℕ, List, length, ap, subst, arith}
use Rattle.std.proofs.lemmas.List.{length-map}
use Rattle.set_model.specs.SetState.{State}
use Rattle.set_model.specs.declared.script.SetDecl.{SetDecl}
use Rattle.history_laws.specs.Histories.{EndsWith}
use Rattle.gen_publish.specs.Publish.{Steering, Grown, kinds_of, declared_kinds}
use Rattle.gen_publish.proofs.Growing.{grown_last}

pub sets_there : (sets : List State) (schema : List SetDecl) (set : ℕ) → kinds_of sets ≡ declared_kinds schema → set < length schema → set < length sets
sets_there sets schema set e h = omega (arith, h, ap length e, length-map sets (λ s. s.kinds), length-map schema (λ d. d.kinds))

-- The same in the last generation.
pub last_there : (c : Steering) (set : ℕ) → EndsWith c.committed c.work.base → Grown c.schema 0 c.committed → set < length c.schema → set < length c.work.base.sets
last_there c set ends grown h =
    let last = grown_last c.schema 0 ends.0 c.work.base (subst (Grown c.schema 0) ends.1 grown) in
    sets_there c.work.base.sets c.schema set last.1 h
