-- Scripts whose moments never fall.
use Rattle.std.specs.Prelude.{ℕ, ◌≤◌, List, [], ◌∷◌, All}
use Rattle.std.specs.List.{flat_map}
use Rattle.set_model.specs.declared.script.SetDecl.{SetDecl}
use Rattle.set_model.specs.declared.script.Step.{Step}
use Rattle.set_model.specs.declared.script.Step.TheVariants.{Change, Flush, Commit, Abort}
use Rattle.set_model.specs.Runnable.{IsRunnableStep}
use Rattle.set_model.specs.Control.{Mode, history}
use Rattle.listing_laws.specs.Relisted.{ReadsBack}

-- the moment of a step; an abort has none, and stays at the moment before it
abbrev pub moment_after : ℕ → Step → ℕ
moment_after before (Change line set verb e now) = now
moment_after before (Flush line set now) = now
moment_after before (Commit now) = now
moment_after before Abort = before

-- No step is before the step before it. The first isn't before the first moment, and the last moment isn't before the
-- last step.
abbrev pub Rises : ℕ → List Step → ℕ → Type 0
Rises first [] last = first ≤ last
Rises first (s ∷ steps) last = (first ≤ moment_after first s) × Rises (moment_after first s) steps last

-- What the law says: each set of a script's last generation reads back, at any moment that isn't before its steps.
abbrev pub HistoryReadsBack : Type 0
HistoryReadsBack = (mode : Mode) (schema : List SetDecl) (sections : List (List Step)) (now : ℕ)
    → All (All (IsRunnableStep schema)) sections → Rises 0 (flat_map (λ steps. steps) sections) now → All (ReadsBack now) (history mode schema sections).last.sets
