-- The end of a turn, by an enter or by a publication, keeps the rule of the table.
use Rattle.std.proofs.Common.{◌≡◌, ◌≢◌, ℕ, ◌+◌, ◌%◌, ◌<◌, ◌≤◌, List, [], ◌∷◌, ◌++◌, set, sym, refl, ap, ◌∙◌, subst, arith, Option, Some, None, length, length-set}
use mathlib.Core.Option.{none, some}
use mathlib.Core.List.{append-nil}
use lib.ListN.{get_elem?}
use Rattle.std.specs.Global.{Vec}
use Rattle.atomic_table.specs.Table.{State, Me, step, gives, stepped, Allows, rest}
use Rattle.atomic_table.proofs.Lists.{set_here}
use Rattle.history_laws.specs.Histories.{StartsWith, EndsWith, Chain}
use Rattle.history_laws.specs.States.{AllShow}
use Rattle.history_laws.proofs.Prefixes.{starts_itself, starts_through, chain_snoc}
use Rattle.history_laws.proofs.States.{all_show_same}
use Rattle.history_laws.proofs.Views.{put, put_here, put_else}
use Rattle.ticket_line.specs.Tickets.{behind_first}
use Rattle.ticket_line.proofs.Lines.{ends as line_ends}
use Rattle.ticket_line.proofs.Seats.{served_ticket, served_alone}
use Rattle.gen_turns.specs.declared.board.SeatView.{SeatView}
use Rattle.gen_turns.specs.declared.board.Role.{Role}
use Rattle.gen_turns.specs.declared.board.Role.TheVariants.{Idle, Reader, Keeper}
use Rattle.gen_turns.specs.TurnRule.{Entry, HasNumber, stage_of, ticket_of, IsStocked, Plays, Sits, Kept}
use Rattle.gen_turns.specs.TurnSteps.{entered, published}
use Rattle.gen_turns.proofs.SeatMoves.{plays, seat_moves}
use Rattle.gen_turns.proofs.Stock.{stocked_less, stocked_new}

abbrev items_of : {T : Type 0} → List (ℕ × Entry T) → List (Option T)
items_of [] = []
items_of ((j, Some u) ∷ cs) = u.items
items_of ((j, None) ∷ cs) = []

-- other seats stay as they are when the number a enters or publishes
others_play : {X : Type 0} (n : ℕ) (first made made' : List X) (given : ℕ) (last last' : ℕ → List X) (a : ℕ) → ((b : ℕ) → b ≢ a → last' b ≡ last b) → (a ≢ n → made' ≡ made) → (seen at_enter : List X) (role : Role) → ¬ (HasNumber n a role)
    → Plays n first made given last seen at_enter role → Plays n first made' given last' seen at_enter role
others_play n first made made' given last last' a same_last same_made seen at_enter Idle other k = k
others_play n first made made' given last last' a same_last same_made seen at_enter (Reader r) other k = (k.0, same_last r other ∙ k.1)
others_play n first made made' given last last' a same_last same_made seen at_enter (Keeper q g) other k = (k.0, k.1, k.2 ∙ sym (same_made (λ z. other (sym z))), k.3)

module _ {T X : Type 0} (state : T → X) (follows : X → X → Type 0) where
  abbrev St : Type 0
  St = State (Entry T) (SeatView T X)

  abbrev M : Type 0
  M = Me (Entry T) (SeatView T X)

  abbrev Rule : St → Type 0
  Rule = Kept state follows

  -- the seat with the number a gives the vector v back, and the next ticket is served
  turn_ends : (s : St) (k : Rule s) (a id new : ℕ) (made' : List X) (last' : ℕ → List X) (v : Vec (Option T)) (d w : SeatView T X) → get_elem? s.views id ≡ some d → HasNumber k.n a d.role → w.role ≡ d.role → d.stage ≡ 3 → w.stage < 2 → new ≡ (d.ticket + 1) % 18446744073709551616
      → IsStocked state k.n made' last' v.items → Chain follows made' → StartsWith made' k.made → ((b : ℕ) → b ≢ a → last' b ≡ k.last b) → (a ≢ k.n → made' ≡ k.made) → ((r : ℕ) → k.given ≤ r → r < k.n → r ≢ a)
      → Sits state k.n k.first made' k.given last' w
      → Rule record { words = set s.words 1 new; homes = set s.homes 0 (some (Some v)); views = set s.views id w }
  turn_ends s k a id new made' last' v d w at has same at_three low new_of stocked chain more same_last same_made apart sits =
      let ticket = served_ticket stage_of ticket_of s.words s.views k.line k.queue id d at at_three in let deep = k.deep in
      seat_moves state follows s k id d w at same (set s.words 1 new) (set s.homes 0 (some (Some v))) (behind_first k.line) made' last' (length-set s.homes 0 (some (Some v)) ∙ k.deep)
      (line_ends stage_of ticket_of s.words s.views k.line id d w new at k.queue at_three low (new_of ∙ ap (λ (z : ℕ). (z + 1) % 18446744073709551616) ticket))
      (λ _. (v, set_here s.homes 0 (some (Some v)) (omega (arith, deep)), stocked)) chain (starts_through made' k.made k.first more k.starts) (λ r l b. same_last r (apart r l b) ∙ k.ungiven r l b) sits
      (λ j e other its. let h = k.each_seat j e its in (
        starts_through made' k.made e.seen more h.0,
        starts_through made' k.made e.told more h.1,
        h.2,
        h.3,
        (λ three. absurd (served_alone stage_of ticket_of s.words s.views k.line k.queue id d at at_three j e other its three)),
        others_play k.n k.first k.made made' k.given k.last last' a same_last same_made e.seen e.entered e.role (λ its_a. other (k.one_each a j id e d its at its_a has)) h.5,
      ))

  pub enters : (slots id : ℕ) (me : M) (r new : ℕ) (v : Vec (Option T)) → me.0.role ≡ Reader r → me.0.stage ≡ 3 → me.1 ≡ (0, Some v) ∷ [] → v.items ≡ set me.0.took r None → new ≡ (me.0.ticket + 1) % 18446744073709551616
      → Allows Rule slots id me 1 (λ _. new) (λ _. entered (step slots 1 new 0 none) me new)
  enters slots id me r new v is at_three carried less new_of s k deep at fits =
      let kn = plays state follows s k id me.0 (Reader r) at is in let below = kn.0 in let most = k.few.2 in let mine = k.each_seat id me.0 at in let got = mine.4 at_three in
      let w : SeatView T X = record me.0 { stage = 1; seen = me.0.whole; entered = me.0.whole } in let last' : ℕ → List X = put k.last r k.made in (
        w,
        gives,
        tt,
        subst (λ (cs : List (ℕ × Entry T)). Rule (stepped s 1 new id cs w gives)) (sym carried)
            (turn_ends s k r id new k.made last' v me.0 w at (subst (HasNumber k.n r) (sym is) refl) refl at_three (omega arith) new_of
            (subst (IsStocked state k.n k.made last') (sym less) (stocked_less state k.n k.made k.last r me.0.took got.1)) k.chain (starts_itself k.made) (put_else k.last r k.made) (λ _. refl)
            (λ i l b z. omega (arith, l, below, z)) (
              ([], sym got.0 ∙ sym (append-nil me.0.whole)),
              mine.1,
              starts_itself me.0.whole,
              (λ z. absurd (omega arith)),
              (λ z. absurd (omega arith)),
              subst (Plays k.n k.first k.made k.given last' me.0.whole me.0.whole) (sym is) (below, put_here k.last r k.made ∙ sym got.0),
            )),
        (λ i. (w, rest (carried i))),
      )

  pub publishes : (slots id : ℕ) (me : M) (q g new : ℕ) (x : X) (v : Vec (Option T)) → me.0.role ≡ Keeper q g → me.0.stage ≡ 3 → me.1 ≡ (0, Some v) ∷ [] → length v.items ≡ q → AllShow state x v.items → ((y : X) → EndsWith me.0.seen y → follows y x) → new ≡ (me.0.ticket + 1) % 18446744073709551616
      → Allows Rule slots id me 1 (λ _. new) (λ _. published state follows (step slots 1 new 0 none) me new)
  publishes slots id me q g new x v is at_three carried size shows next new_of s k deep at fits =
      let kn = plays state follows s k id me.0 (Keeper q g) at is in let mine = k.each_seat id me.0 at in
      let made' : List X = k.made ++ x ∷ [] in let w : SeatView T X = record me.0 { stage = 1; seen = me.0.seen ++ x ∷ [] } in let seen_is : me.0.seen ++ x ∷ [] ≡ made' = ap (λ (z : List X). z ++ x ∷ []) kn.2 in
      let chain : Chain follows made' = chain_snoc follows k.made x (λ y e. next y (subst (λ (z : List X). EndsWith z y) (sym kn.2) e)) k.chain in let more : StartsWith made' k.made = (x ∷ [], refl) in (
        w,
        gives,
        tt,
        subst (λ (cs : List (ℕ × Entry T)). Rule (stepped s 1 new id cs w gives)) (sym carried)
            (turn_ends s k k.n id new made' k.last v me.0 w at (subst (HasNumber k.n k.n) (sym is) refl) refl at_three (omega arith) new_of
            (stocked_new state k.n x k.made k.last v.items (size ∙ kn.0) shows) chain more (λ _ _. refl) (λ other. absurd (other refl))
            (λ r l b z. omega (arith, b, z)) (
              ([], sym seen_is ∙ sym (append-nil (me.0.seen ++ x ∷ []))),
              starts_through made' k.made me.0.told more mine.1,
              starts_through (me.0.seen ++ x ∷ []) me.0.seen me.0.entered (x ∷ [], refl) mine.2,
              (λ z. absurd (omega arith)),
              (λ z. absurd (omega arith)),
              subst (Plays k.n k.first made' k.given k.last (me.0.seen ++ x ∷ []) me.0.entered) (sym is) (kn.0, kn.1, seen_is, kn.3),
            )),
        (
          subst (Chain follows) (sym seen_is) chain,
          λ y u has some shows'. let same : v.items ≡ u.items = ap (λ (cs : List (ℕ × Entry T)). items_of cs) (sym carried ∙ has) in let one : x ≡ y = all_show_same state x y v.items (let n = ap length same in omega (arith, n, some)) shows (subst (AllShow state y) (sym same) shows') in
              (λ i. (record me.0 { stage = 1; seen = me.0.seen ++ one i ∷ [] }, rest (carried i))),
        ),
      )
