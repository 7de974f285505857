-- A desk as it is opened, and its control threads as they are made.
use Rattle.std.proofs.Common.{◌≡◌, ℕ, ◌+◌, List, [], ◌∷◌, ◌++◌, length, Some, slice_get}
use Rattle.atomic_table.specs.Seated.{TableId}
use Rattle.packet_pool.proofs.Lists.{each_push}
use Rattle.set_model.specs.declared.script.SetDecl.{SetDecl}
use Rattle.set_model.specs.Control.{Generation}
use Rattle.control_desk.specs.Turns.{Seated, newcomer}

module _ (of : TableId) (schema : List SetDecl) (base : List Generation) (threads left : ℕ) where
  -- the control threads that were made so far
  abbrev pub AreDealt : List Seated → Type 0
  AreDealt clerks = (place : ℕ) (c : Seated) → slice_get clerks place ≡ Some c → c ≡ newcomer of schema base threads (place + 1) left

  pub none_dealt : AreDealt []
  none_dealt place c at = absurd (cc at)

  pub one_dealt : (clerks : List Seated) (c : Seated) → AreDealt clerks → c ≡ newcomer of schema base threads (length clerks + 1) left → AreDealt (clerks ++ c ∷ [])
  one_dealt clerks c all is = each_push (λ place c. c ≡ newcomer of schema base threads (place + 1) left) clerks c all is
