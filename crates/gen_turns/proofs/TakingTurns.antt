-- Two steps keep the rule of the table: a ticket is drawn, and its seat looks whether it is served.
use Rattle.std.proofs.Common.{◌≡◌, ℕ, ◌+◌, ◌%◌, ◌^◌, ◌≤◌, List, [], ◌∷◌, ◌++◌, get_or, set, sym, refl, ◌∙◌, subst, arith, Option, Some, length-set}
use mathlib.Core.Logic.{dite}
use mathlib.Core.Option.{none}
use native.Mathlib.Decide.{ℕ_discrete}
use lib.Seq.{set-get_or}
use Rattle.atomic_table.specs.Table.{State, Me, step, keeps, takes, Allows}
use Rattle.atomic_table.proofs.Lists.{set_here, set_again}
use Rattle.history_laws.proofs.Views.{entry_read}
use Rattle.ticket_line.proofs.Lines.{draws as line_draws, takes as line_takes}
use Rattle.ticket_line.proofs.Seats.{nobody_still}
use Rattle.gen_turns.specs.declared.board.SeatView.{SeatView}
use Rattle.gen_turns.specs.declared.board.Role.{Role}
use Rattle.gen_turns.specs.declared.board.Role.TheVariants.{Idle, Reader, Keeper}
use Rattle.gen_turns.specs.TurnRule.{Entry, HasTurns, stage_of, ticket_of, IsStocked, ShowsLast, Plays, Kept}
use Rattle.gen_turns.specs.TurnSteps.{Finds, drew, looked}
use Rattle.gen_turns.proofs.SeatMoves.{seat_moves, few_out}
use Rattle.gen_turns.proofs.Stock.{are_last}

module _ {T X : Type 0} (state : T → X) (follows : X → X → Type 0) where
  abbrev St : Type 0
  St = State (Entry T) (SeatView T X)

  abbrev M : Type 0
  M = Me (Entry T) (SeatView T X)

  abbrev Rule : St → Type 0
  Rule = Kept state follows

  -- what a seat finds in the vector
  finds : (n : ℕ) (first made : List X) (given : ℕ) (last : ℕ → List X) (seen entered : List X) (ps : List (Option T)) (role : Role) → given ≤ n → Plays n first made given last seen entered role → IsStocked state n made last ps → Finds state made seen entered ps role
  finds n first made given last seen entered ps Idle most k s = tt
  finds n first made given last seen entered ps (Reader r) most k s = (let size = s.0 in let below = k.0 in omega (arith, size, below, most), λ p at. subst (λ (l : List X). ShowsLast state made l p) k.1 (s.1 r p at))
  finds n first made given last seen entered ps (Keeper q g) most k s = (sym k.2, s.0 ∙ sym k.0, are_last state made last ps s.1)

  pub draws : (slots id : ℕ) (me : M) → HasTurns me.0.role → me.0.stage ≡ 1 → Allows Rule slots id me 0 (λ x. (x + 1) % 2 ^ 64) (drew (step slots 0 1 0 none) me)
  draws slots id me turns at_one s k deep at fits =
      let e : ℕ = get_or s.words 0 0 in let next : ℕ = (e + 1) % 18446744073709551616 in let w : SeatView T X = record me.0 { stage = 2; ticket = e } in let mine = k.each_seat id me.0 at in (
        w,
        keeps,
        tt,
        seat_moves state follows s k id me.0 w at refl (set s.words 0 next) s.homes (k.line ++ id ∷ []) k.made k.last k.deep
            (line_draws stage_of ticket_of s.words s.views k.line k.queue id me.0 w at (omega (arith, at_one)) refl refl (few_out state follows s k) next refl)
            (λ away. k.home (nobody_still stage_of s.views id me.0 w at (λ z. absurd (omega (arith, z, at_one))) away)) k.chain k.starts k.ungiven
            (mine.0, mine.1, mine.2, (λ _. turns), (λ z. absurd (omega arith)), mine.5) (λ j d _ its. k.each_seat j d its),
        refl,
      )

  pub looks : (slots id : ℕ) (me : M) → HasTurns me.0.role → me.0.stage ≡ 2 → Allows Rule slots id me 1 (λ x. x) (looked state follows (step slots 1 0 0 none) me)
  looks slots id me turns at_two s k deep at fits =
      let e : ℕ = get_or s.words 1 0 in let mine = k.each_seat id me.0 at in let same_words = set-get_or s.words 1 0 in
      dite (ℕ_discrete e me.0.ticket)
      (λ hit. let taken : SeatView T X = record me.0 { stage = 3 } in
      let home = k.home (line_takes stage_of ticket_of s.words s.views k.line k.queue id me.0 taken at at_two (sym hit) (few_out state follows s k) refl refl).1 in
      let w : SeatView T X = record taken { whole = k.made; took = home.0.items } in
      let served = line_takes stage_of ticket_of s.words s.views k.line k.queue id me.0 w at at_two (sym hit) (few_out state follows s k) refl refl in (
        w,
        takes 0 (Some home.0),
        home.1,
        subst (λ (ws : List ℕ). Rule record { words = ws; homes = set s.homes 0 none; views = set s.views id w }) (sym same_words)
            (seat_moves state follows s k id me.0 w at refl s.words (set s.homes 0 none) k.line k.made k.last (length-set s.homes 0 none ∙ k.deep) served.0
            (λ away. absurd (away id w (set_here s.views id w (entry_read s.views id me.0 at).0) refl)) k.chain k.starts k.ungiven
            (mine.0, mine.1, mine.2, (λ _. turns), (λ _. (refl, home.2)), mine.5) (λ j d _ its. k.each_seat j d its)),
        (
          (λ _. (home.0, k.made, refl, mine.0, k.chain, finds k.n k.first k.made k.given k.last me.0.seen me.0.entered home.0.items me.0.role k.few.2 mine.5 home.2)),
          λ miss. absurd (miss hit),
        ),
      ))
      (λ miss. (
        me.0,
        keeps,
        tt,
        subst Rule (λ i. record { words = sym same_words i; homes = s.homes; views = sym (set_again s.views id me.0 at) i }) k,
        ((λ hit. absurd (miss hit)), λ _. refl),
      ))
