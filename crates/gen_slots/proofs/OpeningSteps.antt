-- The table at the start keeps its rule, and so does the making of a reader.
use Rattle.std.proofs.Common.{◌≡◌, ◌≢◌, ℕ, zero, suc, ◌+◌, ◌*◌, ◌^◌, ◌<◌, ◌≤◌, List, [], ◌∷◌, ◌++◌, length, set, replicate, sym, refl, ap, ◌∙◌, subst, ⊎_elim, arith, Option, Some, None, length-set, length-append, append_assoc}
use Rattle.std.specs.List.{sum_by, Contains}
use Rattle.std.specs.Prelude.{slice_index}
use Rattle.std.proofs.lemmas.List.Sums.{sum_by-append}
use mathlib.Core.Logic.{dite}
use mathlib.Core.Option.{some, some-injective, some-ne-none}
use native.Mathlib.Decide.{ℕ_discrete}
use lib.ListN.{get_elem?, length-map, length-replicate}
use Rattle.atomic_table.specs.Table.{State, Splits, opening}
use Rattle.atomic_table.specs.Seated.{TableId}
use Rattle.atomic_table.proofs.Lists.{at_map}
use Rattle.history_laws.specs.Histories.{StartsWith}
use Rattle.history_laws.specs.States.{AllAre}
use Rattle.history_laws.proofs.Prefixes.{starts_itself}
use Rattle.history_laws.proofs.Views.{put, put_here, put_else, views_stay, at_end, sum_by-view_set}
use Rattle.gen_slots.specs.declared.board.Plan.{Plan}
use Rattle.gen_slots.specs.declared.board.SeatView.{SeatView}
use Rattle.gen_slots.specs.declared.board.Role.{Role}
use Rattle.gen_slots.specs.declared.board.Role.TheVariants.{Idle, Out, Holds, Keeper}
use Rattle.gen_slots.specs.SlotRule.{lags, Plays, Kept, seat_view, starting, first_plan, moves_of}
use Rattle.gen_slots.specs.SlotSteps.{given_one, next_reader}
use Rattle.gen_slots.specs.SlotViews.{AllNew, PassView, laid}
use Rattle.gen_slots.proofs.Sums.{sum_below-zero, sum_below-zeros, zero_at}
use Rattle.gen_slots.proofs.Stages.{count_start, count_kept, inside_start, inside_kept, laggards_start, laggards_less, laggards_plan}
use Rattle.gen_slots.proofs.ReaderSteps.{plays}

module _ {X : Type 0} where
  pub all_new-snoc : (z : TableId) (seen : List X) (k : ℕ) (ps : List (PassView X)) (p : PassView X) → AllNew z seen k ps → p ≡ record { of = z; seen = seen; reader = k + length ps; moves = 0 } → AllNew z seen k (ps ++ p ∷ [])
  all_new-snoc z seen k [] p a e = let zero_more : k + 0 ≡ k = omega arith in (e ∙ (λ i. record { of = z; seen = seen; reader = zero_more i; moves = 0 }), tt)
  all_new-snoc z seen k (x ∷ xs) p a e = let one_more : k + suc (length xs) ≡ k + 1 + length xs = omega arith in (a.0, all_new-snoc z seen (k + 1) xs p a.1 (e ∙ (λ i. record { of = z; seen = seen; reader = one_more i; moves = 0 })))

  lags-given : (p : Plan X) (m t : ℕ) → lags (record p { given = m }) t ≡ lags p t
  lags-given p m zero = refl
  lags-given p m (suc zero) = refl
  lags-given p m (suc (suc k)) = refl

all_at : (n v i : ℕ) → i < n → slice_index (replicate n v) i ≡ v
all_at zero v i l = absurd (omega arith)
all_at (suc n) v zero l = refl
all_at (suc n) v (suc i) l = all_at n v i (omega arith)

module _ {A : Type 0} where
  skip_at : (xs ys : List A) (n i : ℕ) → n ≡ length xs + i → get_elem? (xs ++ ys) n ≡ get_elem? ys i
  skip_at [] ys n i e = let same : n ≡ i = omega arith in ap (get_elem? ys) same
  skip_at (x ∷ xs) ys zero i e = absurd (omega arith)
  skip_at (x ∷ xs) ys (suc n) i e = skip_at xs ys n i (omega arith)

  front_at : (n : ℕ) (a : A) (ys : List A) (i : ℕ) → i < n → get_elem? (replicate n a ++ ys) i ≡ some a
  front_at zero a ys i l = absurd (omega arith)
  front_at (suc n) a ys zero l = refl
  front_at (suc n) a ys (suc i) l = front_at n a ys i (omega arith)

  same_at : (n j : ℕ) (x y : A) → get_elem? (replicate n x) j ≡ some y → x ≡ y
  same_at zero j x y e = absurd (some-ne-none y (sym e))
  same_at (suc n) zero x y e = some-injective x y e
  same_at (suc n) (suc j) x y e = same_at n j x y e

  lone : (v : A) (j : ℕ) (d : A) → get_elem? (v ∷ []) j ≡ some d → (j ≡ 0) × (v ≡ d)
  lone v zero d e = (refl, some-injective v d e)
  lone v (suc j) d e = absurd (some-ne-none d (sym e))

module _ {T : Type 0} where
  pub length-laid : (vs : List T) → length (laid vs) ≡ 32 * length vs
  length-laid [] = refl
  length-laid (v ∷ vs) = let rest = length-laid vs in let empty : List (Option T) = replicate 31 None in omega (arith, rest, length-append empty (laid vs), length-replicate 31 (let a : Option T = None in a))

  pub laid-snoc : (vs : List T) (v : T) → laid (vs ++ v ∷ []) ≡ laid vs ++ Some v ∷ replicate 31 None
  laid-snoc [] v = refl
  laid-snoc (w ∷ ws) v = let empty : List (Option T) = replicate 31 None in ap (λ (z : List (Option T)). Some w ∷ z) (ap (λ (z : List (Option T)). empty ++ z) (laid-snoc ws v) ∙ sym (append_assoc empty (laid ws) (Some v ∷ empty)))

  laid_next : (v : T) (vs : List T) (n i : ℕ) → n ≡ 32 + i → get_elem? (laid (v ∷ vs)) n ≡ get_elem? (laid vs) i
  laid_next v vs zero i e = absurd (omega arith)
  laid_next v vs (suc n) i e = skip_at (replicate 31 None) (laid vs) n i (omega (arith, length-replicate 31 (let a : Option T = None in a)))

  laid_none : (first : List T) (r s n : ℕ) → n ≡ 32 * r + s → 0 < s → s < 32 → r < length first → get_elem? (laid first) n ≡ some None
  laid_none [] r s n e some_s few l = absurd (omega arith)
  laid_none (v ∷ vs) zero s zero e some_s few l = absurd (omega arith)
  laid_none (v ∷ vs) zero s (suc m) e some_s few l = front_at 31 None (laid vs) m (omega arith)
  laid_none (v ∷ vs) (suc r) s n e some_s few l = laid_next v vs n (32 * r + s) (omega arith) ∙ laid_none vs r s (32 * r + s) refl some_s few (omega arith)

module _ {T X : Type 0} (state : T → X) (follows : X → X → Type 0) (start : ℕ) where
  abbrev Rule : State (Option T) (SeatView X) → Type 0
  Rule = Kept state follows start

  laid_first : (x : X) (first : List T) (r n : ℕ) → n ≡ 32 * r → AllAre state x first → r < length first → (v : T) × (get_elem? (laid first) n ≡ some (Some v)) × (state v ≡ x)
  laid_first x [] r n e a l = absurd (omega arith)
  laid_first x (v ∷ vs) zero zero e a l = (v, refl, a.0)
  laid_first x (v ∷ vs) zero (suc n) e a l = absurd (omega arith)
  laid_first x (v ∷ vs) (suc r) n e a l = let there = laid_first x vs r (32 * r) refl a.1 (omega arith) in (there.0, laid_next v vs n (32 * r) (omega arith) ∙ there.1, there.2)

  pub starts : (n : ℕ) (x : X) (first : List T) → n ≡ length first → 0 < n → n ≤ 16 → start < 2 ^ 56 → AllAre state x first → Rule (opening (replicate (n + 3) (256 * start)) (laid first) (starting n start x))
  starts n x first size some_readers few small one_state = let slots : List (Option T) = laid first in let words : List ℕ = replicate (n + 3) (256 * start) in
      let standing_else : (j : ℕ) → j ≢ 0 → slice_index (2 ∷ replicate {A = ℕ} 17 0) j ≡ 0 = elim [ zero ↦ (λ z. absurd (z refl)) | suc j ↦ (λ _. zero_at 17 j) ] in
      let standing_first : (j : ℕ) → j ≡ 0 → slice_index (2 ∷ replicate {A = ℕ} 17 0) j ≡ 2 = λ j z. ap (slice_index (2 ∷ replicate {A = ℕ} 17 0)) z in record {
        n = n;
        plan = first_plan n start x;
        made = x ∷ [];
        writer = 0;
        stage = λ _. 0;
        owner = λ _. 0;
        leaves = λ _. 0;
        few = (some_readers, few, refl);
        wide = length-replicate (n + 3) (256 * start);
        deep = length-map slots (λ (y : Option T). some y) ∙ (length-laid first ∙ ap (λ (z : ℕ). 32 * z) (sym size));
        lists = (refl, refl, refl, refl);
        published = (omega arith, refl);
        newest = (x, refl, ([], refl));
        alone = λ j e. dite (ℕ_discrete j 0) (λ z. z) (λ other. let a = standing_else j other in absurd (omega (arith, a, e)));
        standings = λ j. dite (ℕ_discrete j 0) (λ z. let a = standing_first j z in omega (arith, a)) (λ other. let a = standing_else j other in omega (arith, a));
        of_made = λ j y used at_y. subst (Contains (x ∷ [])) (same_at 18 j x y at_y) (0, omega arith, refl);
        hand = λ j e. absurd (omega arith);
        each_slot = λ j low. let word = all_at (n + 3) (256 * start) (1 + j) (omega arith) in let first_word = all_at (n + 3) (256 * start) 0 (omega arith) in let none_there = count_start n (j + 2) (omega arith) in let count = all_at 18 (256 * start) j (omega arith) in record {
          done = omega (arith, word, small);
          live = λ here. omega (arith, word, first_word, none_there, here, small);
          retired = λ e. dite (ℕ_discrete j 0) (λ z. let a = standing_first j z in absurd (omega (arith, a, e))) (λ other. let a = standing_else j other in absurd (omega (arith, a, e)));
          free = λ _. (word ∙ sym count, none_there);
          home = λ e r below _ y at_y. dite (ℕ_discrete j 0)
              (λ z. let v = laid_first x first r (32 * r + j) (omega arith) one_state (omega arith) in (v.0, at_map some slots (32 * r + j) (Some v.0) v.1, v.2 ∙ same_at 18 j x y at_y))
              (λ other. let a = standing_else j other in absurd (omega (arith, a, e)));
          unused = λ e _ r below. dite (ℕ_discrete j 0) (λ z. let a = standing_first j z in absurd (omega (arith, a, e))) (λ other. at_map some slots (32 * r + j) None (laid_none first r j (32 * r + j) refl (omega arith) (omega arith) (omega arith)));
        };
        inside = λ r. omega arith;
        in_use = λ r j below e. absurd (omega arith);
        ungiven = λ r _. refl;
        chain = tt;
        few_fail = let a = sum_below-zeros (n + 2) 18 in let b = laggards_start n (first_plan n start x) in omega (arith, a, b);
        moved = let none_left = sum_below-zero (n + 2) (λ _. 0) (λ _ _. refl) in let none_inside = inside_start n in let none_moved : sum_by moves_of (starting n start x ∷ []) ≡ 0 = refl in omega (arith, none_left, none_inside, none_moved);
        each_seat = λ j d e. let one = lone (starting n start x) j d e in subst (λ (z : SeatView X). StartsWith (x ∷ []) z.seen × StartsWith (x ∷ []) z.told × Plays state (first_plan n start x) (x ∷ []) n 0 (λ _. 0) (λ _. 0) j z.seen z.role) one.1
            (starts_itself (x ∷ []), (x ∷ [], refl), (refl, one.0, refl));
      }

  -- a reader is made whose number no reader has
  others : (p : Plan X) (made : List X) (n writer : ℕ) (stage owner : ℕ → ℕ) (m given new j : ℕ) (seen : List X) → stage m ≡ 0 → j ≢ writer → (role : Role X) → Plays state p made n writer stage owner j seen role
      → Plays state (record p { given = given }) made n writer (put stage m 1) (put owner m new) j seen role
  others p made n writer stage owner m given new j seen fresh other Idle k = tt
  others p made n writer stage owner m given new j seen fresh other (Out r) k = let apart : r ≢ m = (λ z. let a = ap stage z in let b = k.1 in omega arith) in (k.0, put_else stage m 1 r apart ∙ k.1, put_else owner m new r apart ∙ k.2)
  others p made n writer stage owner m given new j seen fresh other (Holds r c) k = let apart : r ≢ m = (λ z. let a = ap stage z in let b = k.1 in omega arith) in (k.0, put_else stage m 1 r apart ∙ k.1, put_else owner m new r apart ∙ k.2, k.3, k.4)
  others p made n writer stage owner m given new j seen fresh other (Keeper q) k = absurd (other k.1)

  pub deals : (id : ℕ) (v : SeatView X) (p₀ : Plan X) → v.role ≡ Keeper p₀ → p₀.given < p₀.readers → Splits Rule id v (seat_view (given_one v.role) v.seen v.told v.moves) (seat_view (next_reader v.role) v.seen [] 0)
  deals id v p₀ is₀ room₀ s k at = let known = plays state follows start s k id v (Keeper p₀) at is₀ in let p : Plan X = k.plan in let is : v.role ≡ Keeper p = is₀ ∙ ap (λ (z : Plan X). Keeper z) known.0 in let mine = k.each_seat id v at in let readers = k.few.2 in let few = k.few.1 in
      let room : p.given < p.readers = subst (λ (z : Plan X). z.given < z.readers) known.0 room₀ in let m : ℕ = p.given in let p' : Plan X = record p { given = m + 1 } in let fresh = k.ungiven m (omega arith) in
      let left : SeatView X = seat_view (Keeper p') v.seen v.told v.moves in let right : SeatView X = seat_view (Out m) v.seen [] 0 in let seats : List (SeatView X) = set s.views id left in let n = length-set s.views id left in
      let stage' : ℕ → ℕ = put k.stage m 1 in let owner' : ℕ → ℕ = put k.owner m (length seats) in let Sits : ℕ → SeatView X → Type 0 = λ j d. StartsWith k.made d.seen × StartsWith k.made d.told × Plays state p' k.made k.n k.writer stage' owner' j d.seen d.role in
      let moved : (j : ℕ) (d : SeatView X) → j ≢ id → get_elem? s.views j ≡ some d → Sits j d = (λ j d other at_j. let h = k.each_seat j d at_j in (h.0, h.1, others p k.made k.n k.writer k.stage k.owner m (m + 1) (length seats) j d.seen fresh (λ z. other (z ∙ sym known.1)) d.role h.2)) in
      let rule : Rule record { words = s.words; homes = s.homes; views = seats ++ right ∷ [] } = record {
        n = k.n;
        plan = p';
        made = k.made;
        writer = k.writer;
        stage = stage';
        owner = owner';
        leaves = k.leaves;
        few = k.few;
        wide = k.wide;
        deep = k.deep;
        lists = k.lists;
        published = k.published;
        newest = k.newest;
        alone = k.alone;
        standings = k.standings;
        of_made = k.of_made;
        hand = k.hand;
        each_slot = λ j low. let ok = k.each_slot j low in let c = count_kept k.n k.stage m 1 (j + 2) (omega arith) (λ z. omega arith) (λ z. omega arith) in record {
          done = ok.done;
          live = λ z. let old = ok.live z in omega (arith, old, c);
          retired = λ z. let old = ok.retired z in omega (arith, old, c);
          free = λ z. ((ok.free z).0, c ∙ (ok.free z).1);
          home = λ z r below away. ok.home z r below (dite (ℕ_discrete r m) (λ same e. let a = ap k.stage same in omega arith) (λ other e. away (put_else k.stage m 1 r other ∙ e)));
          unused = ok.unused;
        };
        inside = λ r. dite (ℕ_discrete r m) (λ same. let a = ap stage' same ∙ put_here k.stage m 1 in omega (arith, a)) (λ other. let a = put_else k.stage m 1 r other in let b = k.inside r in omega (arith, a, b));
        in_use = λ r j below e. dite (ℕ_discrete r m) (λ same. let a = ap stage' same ∙ put_here k.stage m 1 in absurd (omega (arith, a, e))) (λ other. k.in_use r j below (sym (put_else k.stage m 1 r other) ∙ e));
        ungiven = λ r l. put_else k.stage m 1 r (λ z. omega arith) ∙ k.ungiven r (omega arith);
        chain = k.chain;
        few_fail = let a = laggards_plan k.n p p' stage' (λ r _. lags-given p (m + 1) (stage' r)) in let b = laggards_less k.n p k.stage m 1 (omega arith) refl in let f = k.few_fail in omega (arith, a, b, f);
        moved = let same = sum_by-view_set moves_of s.views id v left at in let more = sum_by-append moves_of seats (right ∷ []) in let kept = inside_kept k.n k.stage m 1 (omega arith) (omega arith) (omega arith) in let was = k.moved in
            let none_moved : sum_by moves_of (right ∷ []) ≡ 0 = refl in omega (arith, same, more, kept, was, none_moved);
        each_seat = λ j d e. ⊎_elim (λ (t : (j < length seats) × (get_elem? seats j ≡ some d)). views_stay Sits s.views id left (mine.0, mine.1, (refl, known.1, known.2)) moved j d t.1)
            (λ (t : (j ≡ length seats) × (right ≡ d)). subst (Sits j) t.1 (mine.0, (k.made, refl), (omega arith, put_here k.stage m 1, put_here k.owner m (length seats) ∙ sym t.0))) (at_end seats right d j e);
      } in
      subst (λ (z : Role X). Rule record { words = s.words; homes = s.homes; views = set s.views id (seat_view (given_one z) v.seen v.told v.moves) ++ seat_view (next_reader z) v.seen [] 0 ∷ [] }) (sym is) rule
