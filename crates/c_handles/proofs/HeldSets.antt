-- A set of the generation that a reader holds.
use Rattle.std.proofs.Common.{◌≡◌, ℕ, List, Result, Ok, Err, Some, slice_get, subst}
use Rattle.std.specs.Prelude.{IfOk}
use Rattle.history_laws.specs.Histories.{EndsWith}
use Rattle.set_model.specs.Control.{Generation}
use Rattle.set_model.specs.SetState.{State}
use Rattle.gen_publish.specs.Publish.{ReaderView}
use Rattle.c_handles.specs.Elements.{IsHeldSet}
use Rattle.c_handles.specs.declared.fault.Fault.{Fault}

pub held_set : (h : ReaderView) (sets : List State) (set : ℕ) (r : Result State Fault)
    → ((g : Generation) → EndsWith h.seen g → sets ≡ g.sets) → IfOk r (λ s. slice_get sets set ≡ Some s) → IfOk r (λ s. IsHeldSet h set s)
held_set h sets set (Ok s) same at = λ g last. subst (λ (l : List State). slice_get l set ≡ Some s) (same g last) at
held_set h sets set (Err fault) same at = tt
