-- What contracts see of a control, of its readers and of their notes.
use Rattle.std.specs.Prelude.{◌≡◌, ℕ, ◌+◌, ◌<◌, List, [], ◌∷◌, ◌++◌, map, length, Option, Some, slice_get}
use Rattle.atomic_table.specs.Seated.{TableId}
use Rattle.history_laws.specs.Histories.{EndsWith}
use Rattle.gen_slots.specs.SlotViews as slots
use Rattle.set_model.specs.declared.kind.Kind.{Kind}
use Rattle.set_model.specs.declared.packet.Found.{Found}
use Rattle.set_model.specs.declared.script.SetDecl.{SetDecl}
use Rattle.set_model.specs.SetState.{State}
use Rattle.set_model.specs.Control.{Generation, expired_count}
use Rattle.pipapo_image.specs.Image.Found.{found}
use Rattle.set_space.specs.Open.{Open, opened, sealed}
use Rattle.gen_publish.specs.declared.receipt.Receipt.{Receipt}

-- the kinds of sets
abbrev pub kinds_of : List State → List (List Kind)
kinds_of sets = map (λ s. s.kinds) sets

-- the kinds of the declared sets
abbrev pub declared_kinds : List SetDecl → List (List Kind)
declared_kinds schema = map (λ d. d.kinds) schema

-- A generation may follow another if it has the next number and sets of the same kinds.
abbrev pub Follows : Generation → Generation → Type 0
Follows a b = (b.number ≡ a.number + 1) × (kinds_of b.sets ≡ kinds_of a.sets)

-- The generations are numbered from k on, and each has the declared sets.
abbrev pub Grown : List SetDecl → ℕ → List Generation → Type 0
Grown schema k [] = Unit {0}
Grown schema k (g ∷ gs) = (g.number ≡ k) × (kinds_of g.sets ≡ declared_kinds schema) × Grown schema (k + 1) gs

-- A control: its start, the declared sets, how many readers it has, the committed generations, and the
-- open work.
pub record Steering : Type 0 where
  pub of : TableId
  pub schema : List SetDecl
  pub readers : ℕ
  pub committed : List Generation
  pub work : Open

-- The open work is based on the last committed generation. The generations are numbered from 0, and all
-- sets have the declared kinds.
pub record IsSteered (schema : List SetDecl) (committed : List Generation) (work : Open) : Type 0 where
  pub last : EndsWith committed work.base
  pub grown : Grown schema 0 committed
  pub open_sets : kinds_of work.sets ≡ declared_kinds schema

-- the control after a commit at a moment: one more generation, which is the open sets without what is
-- expired, and no open change
abbrev pub after_commit : Steering → ℕ → Steering
after_commit c now = let g : Generation = sealed c.work now in record c { committed = c.committed ++ g ∷ []; work = opened g }

-- A commit at a moment was made, and this is its receipt.
abbrev pub IsCommit : Steering → ℕ → Steering → Receipt → Type 0
IsCommit old now new receipt =
    (new ≡ after_commit old now) × (receipt.generation ≡ old.work.base.number + 1) × (receipt.purged ≡ expired_count old.work.sets now)

-- A reader, holding or not: its start, the declared sets, the generations that it has seen, its number,
-- and how many atomic additions it has made.
pub record ReaderView : Type 0 where
  pub of : TableId
  pub schema : List SetDecl
  pub seen : List Generation
  pub reader : ℕ
  pub moves : ℕ

-- a reader of these declared sets over a pass
abbrev pub reader_view : List SetDecl → slots.PassView Generation → ReaderView
reader_view schema p = record { of = p.of; schema = schema; seen = p.seen; reader = p.reader; moves = p.moves }

-- Some generations were seen, from generation 0 on.
pub record IsSeen (schema : List SetDecl) (seen : List Generation) : Type 0 where
  pub some : 0 < length seen
  pub grown : Grown schema 0 seen

-- A note: its start, and the generations that its giver had seen.
pub record Noted : Type 0 where
  pub of : TableId
  pub list : List Generation

-- new readers, numbered from k on
abbrev pub AllFresh : TableId → List SetDecl → List Generation → ℕ → List ReaderView → Type 0
AllFresh z schema seen k [] = Unit {0}
AllFresh z schema seen k (p ∷ ps) = (p ≡ record { of = z; schema = schema; seen = seen; reader = k; moves = 0 }) × AllFresh z schema seen (k + 1) ps

-- A lookup in a generation returns the first element of the set at a place that is live and holds the
-- key.
pub record IsLookup (g : Generation) (set : ℕ) (key : List ℕ) (now : ℕ) (answer : Option Found) : Type 0 where
  pub state : State
  pub at : slice_get g.sets set ≡ Some state
  pub first_match : answer ≡ found state key now
