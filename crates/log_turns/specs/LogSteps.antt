-- What each kind of step on the table changes.
use Rattle.std.specs.Prelude.{◌≡◌, ◌≢◌, ℕ, ◌+◌, ◌-◌, ◌≤◌, List, [], ◌∷◌, ◌++◌, All, length, Option, Some, None}
use Rattle.atomic_table.specs.Table.{Me, Step}
use Rattle.history_laws.specs.Histories.{StartsWith, longer}
use Rattle.log_turns.specs.declared.SeatView.{SeatView}
use Rattle.log_turns.specs.declared.Role.{Role}
use Rattle.log_turns.specs.declared.Role.TheVariants.{Idle, Opener, Clerk, Gatherer}
use Rattle.log_turns.specs.LogRule.{kept_of, Keeps, IsNamed}

-- one more control thread's number was given
abbrev pub one_more : Role → Role
one_more (Opener given) = Opener (given + 1)
one_more role = role

abbrev pub next_role : Role → Role
next_role (Opener given) = Clerk (given + 1)
next_role _ = Idle

module _ {B E G : Type 0} where
  -- the opener's view after a control thread's was made, and that one's, which has seen no entry
  abbrev pub given_one : SeatView B E G → SeatView B E G
  given_one d = record d { role = one_more d.role }

  abbrev pub next_clerk : SeatView B E G → SeatView B E G
  next_clerk d = record { role = next_role d.role; threads = d.threads; stage = 1; ticket = 0; seen = []; base = d.base; left = d.left; took = None; kept = [] }

  -- a seat after it has taken in another: it has the longer of both logs, keeps the logs of both, and may add nothing
  abbrev pub gathered : SeatView B E G → SeatView B E G → SeatView B E G
  gathered d e = record { role = Gatherer; threads = d.threads; stage = 1; ticket = d.ticket; seen = longer d.seen e.seen; base = d.base; left = 0; took = None; kept = kept_of d ++ kept_of e }

  -- the view of the seat that was taken in
  abbrev pub spent_view : SeatView B E G
  spent_view = record { role = Idle; threads = 0; stage = 1; ticket = 0; seen = []; base = []; left = 0; took = None; kept = [] }

  -- the seat has the ticket that it found in word 0
  abbrev pub drew : Step (Option B) → Me (Option B) (SeatView B E G) → ℕ → Me (Option B) (SeatView B E G) → Type 0
  drew st m e m' = m' ≡ (record m.0 { stage = 2; ticket = e }, m.1)

module _ {B E G : Type 0} (log : B → List E) (base : B → List G) (number : B → ℕ) (clerk : E → ℕ) where
  -- What a seat finds of the value when its turn comes. The value's log begins with what the seat had seen, and has
  -- each control thread's entries as they were kept. It names no control thread that there isn't.
  pub record Finds (bound : ℕ) (d : SeatView B E G) (v : B) : Type 0 where
    pub begins : StartsWith (log v) d.seen
    pub based : base v ≡ d.base
    pub room : number v + d.left ≤ bound
    pub keeps : All (Keeps log base number clerk d.threads v) (kept_of d)
    pub named : All (IsNamed log base number clerk d.threads) (log v)

  -- If its own ticket is served, the seat has the value. Otherwise nothing changes.
  abbrev pub looked : ℕ → Step (Option B) → Me (Option B) (SeatView B E G) → ℕ → Me (Option B) (SeatView B E G) → Type 0
  looked bound st m e m' =
      (e ≡ m.0.ticket → (v : B) × (m' ≡ (record m.0 { stage = 3; took = Some v }, (0, Some v) ∷ m.1)) × Finds bound m.0 v)
      × (e ≢ m.0.ticket → m' ≡ m)

  -- A turn may end with this value. The log has new entries at its end, all of this control thread, and not more than
  -- it had left. There is at most one state more for each entry.
  pub record MayGive (c : ℕ) (d : SeatView B E G) (v : B) : Type 0 where
    pub took : B
    pub was : d.took ≡ Some took
    pub added : List E
    pub log_is : log v ≡ log took ++ added
    pub own : All (λ e. clerk e ≡ c) added
    pub base_is : base v ≡ base took
    pub number_is : number v ≤ number took + length added
    pub enough : length added ≤ d.left

  -- After its turn the seat has seen the whole log. It has left what it hasn't added.
  abbrev pub ended_turn : Step (Option B) → Me (Option B) (SeatView B E G) → ℕ → Me (Option B) (SeatView B E G) → Type 0
  ended_turn st m e m' = (v took : B) → m.1 ≡ (0, Some v) ∷ [] → m.0.took ≡ Some took → m' ≡ (record m.0 { stage = 1; seen = log v; left = m.0.left - (length (log v) - length (log took)) }, [])
