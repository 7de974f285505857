-- The table at the start keeps its rule, and so does the making of a reader.
use Rattle.std.proofs.Common.{◌≡◌, ℕ, zero, suc, ◌+◌, ◌<◌, ◌≤◌, List, [], ◌∷◌, ◌++◌, length, set, replicate, sym, refl, ap, ◌∙◌, subst, ⊎_elim, arith, Option, Some, None}
use Rattle.std.proofs.lemmas.List.Sums.{sum_by-cons, sum_by-append}
use mathlib.Core.Option.{some, some-injective, some-ne-none}
use lib.ListN.{get_elem?}
use Rattle.std.specs.Global.{Vec}
use Rattle.atomic_table.specs.Table.{State, Splits, opening}
use Rattle.atomic_table.specs.Seated.{TableId}
use Rattle.atomic_table.proofs.Lists.{at_longer}
use Rattle.history_laws.proofs.Prefixes.{starts_itself}
use Rattle.history_laws.proofs.Views.{views_stay, at_end, sum_by-view_set}
use Rattle.ticket_line.proofs.Lines.{stays as line_stays, joins_none as line_joins, opens as line_opens}
use Rattle.ticket_line.proofs.Seats.{nobody_still, one_still, one_with}
use Rattle.gen_turns.specs.declared.board.SeatView.{SeatView}
use Rattle.gen_turns.specs.declared.board.Role.{Role}
use Rattle.gen_turns.specs.declared.board.Role.TheVariants.{Idle, Reader, Keeper}
use Rattle.gen_turns.specs.TurnRule.{turns_at, Entry, HasNumber, stage_of, ticket_of, turns_of, IsStocked, Plays, Sits, Kept, seat_view, starting}
use Rattle.gen_turns.specs.TurnSteps.{one_more, next_role, given_one, next_reader}
use Rattle.gen_turns.specs.TurnViews.{AllNew, PassView}
use Rattle.gen_turns.proofs.SeatMoves.{plays}
use Rattle.gen_turns.proofs.Stock.{stocked_none}

pub all_new-snoc : {X : Type 0} (z : TableId) (seen : List X) (k : ℕ) (ps : List (PassView X)) (p : PassView X) → AllNew z seen k ps → p ≡ record { of = z; seen = seen; reader = k + length ps } → AllNew z seen k (ps ++ p ∷ [])
all_new-snoc z seen k [] p a e = let zero_more : k + 0 ≡ k = omega arith in (e ∙ (λ i. record { of = z; seen = seen; reader = zero_more i }), tt)
all_new-snoc z seen k (x ∷ xs) p a e = let one_more : k + suc (length xs) ≡ k + 1 + length xs = omega arith in (a.0, all_new-snoc z seen (k + 1) xs p a.1 (e ∙ (λ i. record { of = z; seen = seen; reader = one_more i })))

lone : {A : Type 0} (v : A) (j : ℕ) (d : A) → get_elem? (v ∷ []) j ≡ some d → (j ≡ 0) × (v ≡ d)
lone v zero d e = (refl, some-injective v d e)
lone v (suc j) d e = absurd (some-ne-none d (sym e))

module _ {X : Type 0} (n : ℕ) (first made : List X) (given : ℕ) (last : ℕ → List X) (seen entered : List X) where
  -- no seat has a number that wasn't given
  nobody_has : given < n → (role : Role) → Plays n first made given last seen entered role → ¬ (HasNumber n given role)
  nobody_has below Idle k has = has
  nobody_has below (Reader r) k has = let given_then = k.0 in omega (arith, given_then, has)
  nobody_has below (Keeper q g) k has = omega (arith, below, has)

  -- one more number was given, and the seat isn't the writer's
  more_given : (role : Role) → ¬ (HasNumber n n role) → Plays n first made given last seen entered role → Plays n first made (given + 1) last seen entered role
  more_given Idle other k = k
  more_given (Reader r) other k = (let below = k.0 in omega (arith, below), k.1)
  more_given (Keeper q g) other k = absurd (other refl)

module _ {T X : Type 0} (state : T → X) (follows : X → X → Type 0) where
  abbrev Rule : State (Entry T) (SeatView T X) → Type 0
  Rule = Kept state follows

  pub starts : (n : ℕ) (x : X) (v : Vec (Option T)) → 0 < n → n ≤ 16 → v.items ≡ replicate n None → Rule (opening (0 ∷ 0 ∷ []) (Some v ∷ []) (starting n x))
  starts n x v some_readers few empty = let view : SeatView T X = starting n x in let last : ℕ → List X = (λ _. x ∷ []) in record {
    line = [];
    n = n;
    first = x ∷ [];
    made = x ∷ [];
    given = 0;
    last = last;
    few = (some_readers, few, omega arith);
    deep = refl;
    queue = line_opens stage_of ticket_of view (omega arith);
    home = λ _. (v, refl, subst (IsStocked state n (x ∷ []) last) (sym empty) (stocked_none state n (x ∷ [])));
    chain = tt;
    starts = starts_itself (x ∷ []);
    ungiven = λ r l b. refl;
    one_each = λ a i j d e at_i at_j _ _. (lone view i d at_i).0 ∙ sym (lone view j e at_j).0;
    seats = sum_by-cons turns_of view [];
    each_seat = λ j d e. subst (Sits state n (x ∷ []) (x ∷ []) 0 last) (lone view j d e).1 (starts_itself (x ∷ []), (x ∷ [], refl), starts_itself (x ∷ []), (λ z. absurd (omega arith)), (λ z. absurd (omega arith)), (refl, refl, refl, refl));
  }

  pub deals : (id : ℕ) (v : SeatView T X) (q g : ℕ) → v.role ≡ Keeper q g → g < q → Splits Rule id v (given_one v) (next_reader v)
  deals id v q g is room s k at =
      let kn = plays state follows s k id v (Keeper q g) at is in let mine = k.each_seat id v at in let size = kn.0 in let number = kn.1 in let below : k.given < k.n = omega (arith, size, number, room) in
      let left : SeatView T X = record v { role = Keeper q (g + 1) } in let right : SeatView T X = seat_view (Reader g) v.seen v.entered in let seats : List (SeatView T X) = set s.views id left in
      let Has : ℕ → SeatView T X → Type 0 = (λ a d. HasNumber k.n a d.role) in let Sat : SeatView T X → Type 0 = Sits state k.n k.first k.made (k.given + 1) k.last in
      let writers : Has k.n v = subst (HasNumber k.n k.n) (sym is) refl in
      let rule : Rule record { words = s.words; homes = s.homes; views = seats ++ right ∷ [] } = record {
        line = k.line;
        n = k.n;
        first = k.first;
        made = k.made;
        given = k.given + 1;
        last = k.last;
        few = (k.few.0, k.few.1, omega (arith, below));
        deep = k.deep;
        queue = line_joins stage_of ticket_of s.words seats k.line right (line_stays stage_of ticket_of s.words s.views k.line k.queue id v left at refl refl) (omega arith);
        home = λ away. k.home (nobody_still stage_of s.views id v left at (λ three. three) (λ j d h. away j d (at_longer seats (right ∷ []) j d h)));
        chain = k.chain;
        starts = k.starts;
        ungiven = λ r l b. k.ungiven r (omega (arith, l)) b;
        one_each = λ a. one_with (Has a) seats right (one_still (Has a) s.views id v left at (λ has. subst (HasNumber k.n a) (sym is) has) (k.one_each a))
            (views_stay (λ _ d. Has a d → ¬ (Has a right)) s.views id left (λ has new. omega (arith, has, new, number, below))
            (λ j d _ its has new. nobody_has k.n k.first k.made k.given k.last d.seen d.entered below d.role (k.each_seat j d its).5 (subst (λ (z : ℕ). HasNumber k.n z d.role) (sym new ∙ number) has)));
        seats = (let one = ap turns_at is in let sum = sum_by-view_set turns_of s.views id v left at in let more = sum_by-append turns_of seats (right ∷ []) in let count = k.seats in omega (arith, one, sum, more, count));
        each_seat = λ j d e. ⊎_elim
            (λ (t : (j < length seats) × (get_elem? seats j ≡ some d)). views_stay (λ _ x. Sat x) s.views id left
            (mine.0, mine.1, mine.2, (λ _. tt), mine.4, (kn.0, omega (arith, number), kn.2, kn.3))
            (λ i x other its. let h = k.each_seat i x its in (h.0, h.1, h.2, h.3, h.4, more_given k.n k.first k.made k.given k.last x.seen x.entered x.role (λ its_n. other (k.one_each k.n i id x v its at its_n writers)) h.5)) j d t.1)
            (λ (t : (j ≡ length seats) × (right ≡ d)). subst Sat t.1 (
              mine.0,
              (k.made, refl),
              mine.2,
              (λ z. absurd (omega arith)),
              (λ z. absurd (omega arith)),
              (omega (arith, number), k.ungiven g (omega (arith, number)) (omega (arith, number, below)) ∙ sym kn.3),
            ))
            (at_end seats right d j e);
      } in
      subst (λ (z : Role). Rule record { words = s.words; homes = s.homes; views = set s.views id (record v { role = one_more z }) ++ seat_view (next_role z) v.seen v.entered ∷ [] }) (sym is) rule
