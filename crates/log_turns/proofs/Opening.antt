-- The table keeps its rule at the start, when a control thread's seat is made, and when seats that are done join.
use Rattle.std.proofs.Common.{◌≡◌, ◌≢◌, ℕ, zero, suc, ◌+◌, ◌-◌, ◌*◌, ◌<◌, ◌≤◌, ◌==◌, cond, List, [], ◌∷◌, ◌++◌, All, length, length-append, set, sym, refl, ap, ◌∙◌, subst, ⊎_elim, arith, Option, Some}
use Rattle.std.specs.List.{sum_by}
use Rattle.std.proofs.lemmas.List.Sums.{sum_by-cons, sum_by-append}
use Rattle.std.proofs.lemmas.List.Elements.{All-nil, All-cons, All-append, All-weaker}
use mathlib.Core.Logic.{dite}
use mathlib.Core.Option.{some, some-injective, some-ne-none}
use native.Mathlib.Decide.{ℕ_discrete}
use lib.ListN.{get_elem?}
use Rattle.atomic_table.specs.Table.{State, Splits, Joins, opening}
use Rattle.atomic_table.proofs.Lists.{at_set, at_longer}
use Rattle.history_laws.proofs.Prefixes.{longer_begins}
use Rattle.history_laws.proofs.Views.{views_stay, at_end, sum_by-view_set}
use Rattle.ticket_line.proofs.Lines.{rests as line_rests, joins_none as line_joins, opens as line_opens}
use Rattle.ticket_line.proofs.Seats.{nobody_still, one_still, one_with}
use Rattle.log_turns.specs.declared.SeatView.{SeatView}
use Rattle.log_turns.specs.declared.Role.{Role}
use Rattle.log_turns.specs.declared.Role.TheVariants.{Idle, Opener, Clerk, Gatherer}
use Rattle.log_turns.specs.LogRule.{left_at, kept_at, stage_of, ticket_of, seats_of, times_of, left_of, kept_of, IsOpener, HasTurns, of_clerk, Keeps, Plays, Sits, IsNamed, Kept, opening_view}
use Rattle.log_turns.specs.LogSteps.{one_more, next_role, given_one, next_clerk, gathered, spent_view}
use Rattle.log_turns.proofs.Seats.{sums_none, times_in, once_alone, never_alone, none_above, new_entries, GivesSeats}
use Rattle.log_turns.proofs.Turns.{seated}

module _ {B E G : Type 0} (log : B → List E) (base : B → List G) (number : B → ℕ) (clerk : E → ℕ) (each bound : ℕ) where
  abbrev St : Type 0
  St = State (Option B) (SeatView B E G)

  abbrev Rule : St → Type 0
  Rule = Kept log base number clerk each bound

  abbrev PlaysAs : ℕ → ℕ → B → SeatView B E G → Role → Type 0
  PlaysAs = Plays log base number clerk each

  -- one more number was given, and this seat gives none
  more_given : (n given : ℕ) (value : B) (d : SeatView B E G) (role : Role) → ¬ (IsOpener role) → PlaysAs n given value d role → PlaysAs n (given + 1) value d role
  more_given n given value d Idle none k = k
  more_given n given value d (Opener g) none k = absurd (none tt)
  more_given n given value d (Clerk c) none k = k
  more_given n given value d Gatherer none k = k

  more_kept : (given : ℕ) (value : B) (ps : List (ℕ × List E)) → All (Keeps log base number clerk given value) ps → All (Keeps log base number clerk (given + 1) value) ps
  more_kept given value ps all = All-weaker (Keeps log base number clerk given value) (Keeps log base number clerk (given + 1) value) (λ p h. let most = h.1 in (h.0, omega (arith, most), h.2, h.3)) ps all

  one_less : (n given : ℕ) → given < n → each * (n - given) ≡ each + each * (n - (given + 1))
  one_less n given below = let m : n - given ≡ suc (n - (given + 1)) = omega (arith, below) in ap (λ z. each * z) m ∙ grind arith

  pub deals : (id : ℕ) (v : SeatView B E G) (g : ℕ) → v.role ≡ Opener g → g < v.threads → Splits Rule id v (given_one v) (next_clerk v)
  deals id v g is room s k at =
      let mine = k.each_seat id v at in let plays : PlaysAs k.n k.given k.value v (Opener g) = subst (PlaysAs k.n k.given k.value v) is mine.2 in
      let low = plays.0 in let size = plays.1 in let number_is = plays.2 in let few = k.few in let some_left : k.given < k.n = omega (arith, room, size, number_is) in
      let left : SeatView B E G = given_one v in let right : SeatView B E G = next_clerk v in
      let left_role : left.role ≡ Opener (g + 1) = ap one_more is in let right_role : right.role ≡ Clerk (g + 1) = ap next_role is in
      let none_v : kept_of v ≡ [] = ap (λ (r : Role). kept_at r v.seen v.kept) is in let none_left : kept_of left ≡ [] = ap (λ (r : Role). kept_at r v.seen v.kept) left_role in let one_right : kept_of right ≡ (g + 1, []) ∷ [] = ap (λ (r : Role). kept_at r [] []) right_role in
      let sum : (f : SeatView B E G → ℕ) → sum_by f (set s.views id left ++ right ∷ []) + f v ≡ sum_by f s.views + f left + f right =
      (λ f. let a = sum_by-view_set f s.views id v left at in let b = sum_by-append f (set s.views id left) (right ∷ []) in let c = sum_by-cons f right [] in omega (arith, a, b, c)) in
      let clerks = sum seats_of in let lefts = sum left_of in let len_v = ap length none_v in let len_left = ap length none_left in let len_right = ap length one_right in
      let zero_v : left_of v ≡ 0 = ap (λ (r : Role). left_at r v.left) is in let zero_left : left_of left ≡ 0 = ap (λ (r : Role). left_at r v.left) left_role in let all_right : left_of right ≡ each = ap (λ (r : Role). left_at r v.left) right_role ∙ plays.4 in
      let count = k.clerks in let numbers = k.numbers in let product = one_less k.n k.given some_left in
      let was_opener : IsOpener v.role = subst IsOpener (sym is) tt in record {
        line = k.line;
        n = k.n;
        given = k.given + 1;
        value = k.value;
        few = (let all = few.1 in (omega (arith, some_left), all));
        deep = k.deep;
        queue = line_joins stage_of ticket_of s.words (set s.views id left) k.line right (line_rests stage_of ticket_of s.words s.views k.line k.queue id v left at low low) (omega arith);
        home = λ away. k.home (nobody_still stage_of s.views id v left at (λ three. three) (λ j d h. away j d (at_longer (set s.views id left) (right ∷ []) j d h)));
        one_opener = one_with GivesSeats (set s.views id left) right (one_still GivesSeats s.views id v left at (λ _. was_opener) k.one_opener) (λ _ _ _ _ new. subst IsOpener right_role new);
        one_each = λ c. let t = sum (times_of c) in let one = k.one_each c in let zero_before : times_of c v ≡ 0 = ap (times_in {E = E} c) none_v in let zero_then : times_of c left ≡ 0 = ap (times_in {E = E} c) none_left in dite (ℕ_discrete (g + 1) c)
            (λ here. let none = sums_none (times_of c) s.views (λ j d at_j. none_above k.given c (kept_of d) (omega (arith, here, number_is))
            (All-weaker (Keeps log base number clerk k.given k.value) (λ p. p.0 ≤ k.given) (λ p h. h.1) (kept_of d) (k.each_seat j d at_j).3)) in
            let first : times_of c right ≡ 1 = ap (times_in {E = E} c) one_right ∙ ap (λ z. times_in {E = E} c ((z, []) ∷ [])) here ∙ once_alone {E = E} c [] in omega (arith, t, zero_before, zero_then, none, first))
            (λ other. let last : times_of c right ≡ 0 = ap (times_in {E = E} c) one_right ∙ never_alone {E = E} c (g + 1) [] other in omega (arith, t, one, zero_before, zero_then, last));
        clerks = omega (arith, clerks, len_v, len_left, len_right, count);
        named = All-weaker (IsNamed log base number clerk k.given) (IsNamed log base number clerk (k.given + 1)) (λ e h. let most = h.1 in (h.0, omega (arith, most))) (log k.value) k.named;
        numbers = omega (arith, lefts, zero_v, zero_left, all_right, numbers, product);
        each_seat = λ j d h. ⊎_elim
            (λ (t : (j < length (set s.views id left)) × (get_elem? (set s.views id left) j ≡ some d)). views_stay (λ _ e. Sits log base number clerk each k.n (k.given + 1) k.value e) s.views id left (
              mine.0,
              mine.1,
              subst (PlaysAs k.n (k.given + 1) k.value left) (sym left_role) (plays.0, plays.1, omega (arith, number_is), plays.3, plays.4),
              subst (All (Keeps log base number clerk (k.given + 1) k.value)) (sym none_left) (All-nil (Keeps log base number clerk (k.given + 1) k.value)),
            )
            (λ i e other at_i. let old = k.each_seat i e at_i in (old.0, old.1, more_given k.n k.given k.value e e.role (λ opens. other (k.one_opener i id e v at_i at opens was_opener)) old.2, more_kept k.given k.value (kept_of e) old.3))
            j d t.1)
            (λ (t : (j ≡ length (set s.views id left)) × (right ≡ d)). subst (Sits log base number clerk each k.n (k.given + 1) k.value) t.1 (
              (log k.value, refl),
              (λ z. absurd (omega arith)),
              subst (PlaysAs k.n (k.given + 1) k.value right) (sym right_role) (plays.1, plays.3),
              subst (All (Keeps log base number clerk (k.given + 1) k.value)) (sym one_right)
                  (All-cons (Keeps log base number clerk (k.given + 1) k.value) (g + 1, []) []
                  (omega arith, omega (arith, number_is), (log k.value, refl), subst (λ (m : ℕ). of_clerk log base number clerk (m + 1) (log k.value) ≡ []) (sym number_is) (new_entries clerk k.given (log k.value) k.named))
                  (All-nil (Keeps log base number clerk (k.given + 1) k.value))),
            ))
            (at_end (set s.views id left) right d j h);
      }

  pub opens : (n : ℕ) (v : B) → n ≤ 16 → log v ≡ [] → number v + each * n ≤ bound → Rule (opening (0 ∷ 0 ∷ []) (Some v ∷ []) (opening_view each n (base v)))
  opens n v few none room = let view : SeatView B E G = opening_view each n (base v) in let clerks = sum_by-cons seats_of view [] in let lefts = sum_by-cons left_of view [] in record {
    line = [];
    n = n;
    given = 0;
    value = v;
    few = (omega arith, few);
    deep = refl;
    queue = line_opens stage_of ticket_of view (omega arith);
    home = λ _. refl;
    one_opener = λ i j x y at_i at_j _ _. zero_place view i x at_i ∙ sym (zero_place view j y at_j);
    one_each = λ c. let t = sum_by-cons (times_of c) view [] in omega (arith, t);
    clerks = omega (arith, clerks);
    named = subst (All (IsNamed log base number clerk 0)) (sym none) (All-nil (IsNamed log base number clerk 0));
    numbers = (let none_given : n - 0 ≡ n = omega arith in let product = ap (λ z. each * z) none_given in omega (arith, lefts, room, product));
    each_seat = λ j d at. subst (Sits log base number clerk each n 0 v) (first_only view j d at) ((log v, refl), (λ z. absurd (omega arith)), (omega arith, refl, refl, refl, refl), All-nil (Keeps log base number clerk 0 v));
  }
    where
      first_only : (w : SeatView B E G) (j : ℕ) (d : SeatView B E G) → get_elem? (w ∷ []) j ≡ some d → w ≡ d
      first_only w zero d at = some-injective w d at
      first_only w (suc j) d at = absurd (some-ne-none d (sym at))

      zero_place : (w : SeatView B E G) (j : ℕ) (d : SeatView B E G) → get_elem? (w ∷ []) j ≡ some d → j ≡ 0
      zero_place w zero d at = refl
      zero_place w (suc j) d at = absurd (some-ne-none d (sym at))

  -- One seat takes in another.
  pub gathers : (id : ℕ) (v : SeatView B E G) (other : ℕ) (w : SeatView B E G) → HasTurns v.role → v.stage ≡ 1 → HasTurns w.role → w.stage ≡ 1 → Joins Rule id v other w (gathered v w) spent_view
  gathers id v other w turns at_one its_turns its_one s k at apart there =
      let both : SeatView B E G = gathered v w in let spent : SeatView B E G = spent_view in
      let beside : get_elem? s.views other ≡ some w = ⊎_elim (λ (t : (other ≡ id) × (both ≡ w)). absurd (apart t.0)) (λ (t : (other ≢ id) × (get_elem? s.views other ≡ some w)). t.1) (at_set s.views id other both w there) in
      let mine = k.each_seat id v at in let theirs = k.each_seat other w beside in
      let has = seated log base number clerk each bound k.n k.given k.value v v.role turns mine.2 in
      let sum : (f : SeatView B E G → ℕ) → sum_by f (set (set s.views id both) other spent) + f v + f w ≡ sum_by f s.views + f both + f spent =
      (λ f. let a = sum_by-view_set f s.views id v both at in let b = sum_by-view_set f (set s.views id both) other w spent there in omega (arith, a, b)) in
      let clerks = sum seats_of in let lefts = sum left_of in let lengths = length-append (kept_of v) (kept_of w) in let count = k.clerks in let numbers = k.numbers in
      let middle = line_rests stage_of ticket_of s.words s.views k.line k.queue id v both at (omega (arith, at_one)) (omega arith) in record {
        line = k.line;
        n = k.n;
        given = k.given;
        value = k.value;
        few = k.few;
        deep = k.deep;
        queue = line_rests stage_of ticket_of s.words (set s.views id both) k.line middle other w spent there (omega (arith, its_one)) (omega arith);
        home = λ away. k.home (nobody_still stage_of s.views id v both at (λ z. absurd (omega (arith, z, at_one)))
            (nobody_still stage_of (set s.views id both) other w spent there (λ z. absurd (omega (arith, z, its_one))) away));
        one_opener = one_still GivesSeats (set s.views id both) other w spent there (λ none. absurd none) (one_still GivesSeats s.views id v both at (λ none. absurd none) k.one_opener);
        one_each = λ c. let t = sum (times_of c) in let one = k.one_each c in let parts : times_of c both ≡ times_of c v + times_of c w = sum_by-append (λ p. cond (p.0 == c) 1 0) (kept_of v) (kept_of w) in omega (arith, t, one, parts);
        clerks = omega (arith, clerks, lengths, count);
        named = k.named;
        numbers = omega (arith, lefts, numbers);
        each_seat = views_stay (λ _ d. Sits log base number clerk each k.n k.given k.value d) (set s.views id both) other spent
            ((log k.value, refl), (λ z. absurd (omega arith)), omega arith, All-nil (Keeps log base number clerk k.given k.value))
            (λ j d _. views_stay (λ _ e. Sits log base number clerk each k.n k.given k.value e) s.views id both (
              (longer_begins (log k.value) v.seen w.seen mine.0 theirs.0).0,
              (λ z. absurd (omega arith)),
              (has.0, has.1, (let some_kept = has.2 in omega (arith, lengths, some_kept))),
              All-append (Keeps log base number clerk k.given k.value) (kept_of v) (kept_of w) mine.3 theirs.3,
            )
            (λ i e _ at_i. k.each_seat i e at_i) j d);
      }
