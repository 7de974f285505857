-- What follows for the control and the readers of a section.
use Rattle.std.proofs.Common.{◌≡◌, refl, subst, ℕ, zero, suc, ◌+◌, Bool, List, [], ◌∷◌, length, Some, slice_get, arith, All}
use Rattle.std.proofs.lemmas.List.{length-map}
use Rattle.history_laws.specs.Histories.{EndsWith}
use Rattle.set_model.specs.declared.report.Event.{Event}
use Rattle.set_model.specs.declared.script.SetDecl.{SetDecl}
use Rattle.set_model.specs.declared.script.Step.{Step}
use Rattle.set_model.specs.Control.{Generation, mode_of}
use Rattle.set_report.specs.Writes.{NamesSet}
use Rattle.gen_publish.specs.Publish.{Steering, Grown, kinds_of, declared_kinds}
use Rattle.gen_publish.proofs.Growing.{grown_last}
use Rattle.packet_pool.specs.Running.{Ran, control_of}
use Rattle.script_laws.proofs.ControlLaws.{section_of}

-- The events name declared sets.
pub told_named : (keep_going : Bool) (steps : List Step) (old new : Steering) (events : List Event) → EndsWith old.committed old.work.base → Grown old.schema 0 old.committed → kinds_of old.work.sets ≡ declared_kinds old.schema
    → Ran keep_going steps old new events → All (NamesSet (length old.schema)) events
told_named keep_going steps old new events ends grown kinds ran =
    let base = (grown_last old.schema 0 ends.0 old.work.base (subst (Grown old.schema 0) ends.1 grown)).1 in
    let st = ran.goes_on.stands [] (control_of old) (record { committed = refl; last = refl; sets = refl; failed = refl; told = refl }) in
    let k = section_of (declared_kinds old.schema) (mode_of keep_going) (control_of old) steps (record { work = record { base = base; open_sets = kinds }; named = λ i d lt. absurd (omega (arith, lt)) }) in
    subst (λ n. All (NamesSet n) events) (length-map old.schema (λ (d : SetDecl). d.kinds)) (subst (λ (z : List Event). All (NamesSet (length (declared_kinds old.schema))) z) st.told k.named)

-- Each generation of a grown list has the declared kinds.
pub grown_at : (schema : List SetDecl) (k : ℕ) (gs : List Generation) → Grown schema k gs → (i : ℕ) (g : Generation) → slice_get gs i ≡ Some g → kinds_of g.sets ≡ declared_kinds schema
grown_at schema k [] h i g e = absurd (cc e)
grown_at schema k (x ∷ xs) h zero g e = let same : x ≡ g = cc e in subst (λ (z : Generation). kinds_of z.sets ≡ declared_kinds schema) same h.1
grown_at schema k (x ∷ xs) h (suc i) g e = grown_at schema (k + 1) xs h.2 i g e
