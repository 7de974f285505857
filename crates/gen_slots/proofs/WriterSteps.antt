-- The writer's steps keep the rule of the table.
use Rattle.std.proofs.Common.{◌≡◌, ◌≢◌, ℕ, zero, suc, ◌+◌, ◌-◌, ◌*◌, ◌%◌, ◌^◌, ◌<◌, ◌≤◌, List, [], ◌∷◌, ◌++◌, true, false, length, replicate, get_or, set, sym, refl, ap, ◌∙◌, subst, arith, Option, Some, None, eq-eqb, ne_eqb, length-set, get_or-set_other, get_or-set_same}
use Rattle.std.specs.List.{Contains}
use Rattle.std.specs.Prelude.{slice_index}
use Rattle.std.proofs.lemmas.List.Elements.{Contains-append_left, Contains-append_right}
use mathlib.Core.List.{append-nil}
use mathlib.Core.Option.{some-injective}
use mathlib.Core.Logic.{dite}
use mathlib.Core.Option.{none, some}
use mathlib.Core.Option as maybe
use native.Mathlib.Decide.{ℕ_discrete}
use lib.ListN.{get_elem?}
use lib.Seq.{set-get_or}
use Rattle.atomic_table.specs.Table.{State, Me, step, keeps, homes_after, carried_after, stepped, Allows}
use Rattle.atomic_table.proofs.Lists.{set_here, set_else}
use Rattle.history_laws.specs.Histories.{StartsWith, EndsWith, Chain}
use Rattle.history_laws.specs.States.{AllShow}
use Rattle.history_laws.proofs.Prefixes.{starts_more, chain_snoc}
use Rattle.history_laws.proofs.States.{all_show_same, show_at}
use Rattle.history_laws.proofs.Views.{views_stay, sum_by-view_set}
use Rattle.gen_slots.specs.declared.board.Plan.{Plan}
use Rattle.gen_slots.specs.declared.board.SeatView.{SeatView}
use Rattle.gen_slots.specs.declared.board.Role.{Role}
use Rattle.gen_slots.specs.declared.board.Role.TheVariants.{Idle, Out, Holds, Keeper}
use Rattle.gen_slots.specs.SlotRule.{count_at, lags, laggards, sum_below, SlotKept, Plays, Kept, seat_view, moves_of}
use Rattle.gen_slots.specs.SlotSteps.{taken_plan, tried_plan, published_at, slot_states, berths, Plans, WereStored, checked, published}
use Rattle.gen_slots.proofs.Sums.{sum_below-set, sum_below-zeros}
use Rattle.gen_slots.proofs.Stages.{count_le, count_none, laggards_le, lags-at, lags_else, laggards_plan, laggards_drop, and_both, and_second}
use Rattle.gen_slots.proofs.Takes.{Lined, take_all, shown_row, empty_row, taken_else, taken_length, take_carried, take_valid, give_all, give_valid, given_carried, given_length, given_else, given_at, berths_same}
use Rattle.gen_slots.proofs.SlotStates.{state_unused, state_used, state_set, state_retired}
use Rattle.gen_slots.proofs.ReaderSteps.{plays}

at_some : {A : Type 0} (l : List A) (i : ℕ) → i < length l → (a : A) × (get_elem? l i ≡ some a)
at_some [] i h = absurd (omega arith)
at_some (x ∷ xs) zero h = (x, refl)
at_some (x ∷ xs) (suc i) h = at_some xs i (omega arith)

module _ {T X : Type 0} (state : T → X) (follows : X → X → Type 0) (start : ℕ) where
  abbrev St : Type 0
  St = State (Option T) (SeatView X)

  abbrev M : Type 0
  M = Me (Option T) (SeatView X)

  abbrev Rule : St → Type 0
  Rule = Kept state follows start

  abbrev pub plan_or : Plan X → Role X → Plan X
  plan_or d (Keeper p) = p
  plan_or d _ = d

  -- the plan changes, and the list grows
  others_plan : (p p' : Plan X) (made made' : List X) (n writer : ℕ) (stage owner : ℕ → ℕ) (j : ℕ) (seen : List X) → j ≢ writer
      → ((r c : ℕ) → r < n → stage r ≡ c + 2 → get_elem? p'.states c ≡ get_elem? p.states c) → ((r c : ℕ) → r < n → stage r ≡ c + 2 → (c ≡ p.published → seen ≡ made) → c ≡ p'.published → seen ≡ made') → (role : Role X) → Plays state p made n writer stage owner j seen role → Plays state p' made' n writer stage owner j seen role
  others_plan p p' made made' n writer stage owner j seen other same last Idle k = tt
  others_plan p p' made made' n writer stage owner j seen other same last (Out r) k = k
  others_plan p p' made made' n writer stage owner j seen other same last (Holds r c) k = (k.0, k.1, k.2, last r c k.0 k.1 k.3, (k.4.0, same r c k.0 k.1 ∙ k.4.1, k.4.2))
  others_plan p p' made made' n writer stage owner j seen other same last (Keeper q) k = absurd (other k.1)

  plans : (m m' : M) (p p' : Plan X) (next : Plan X → Plan X → Type 0) → m.0.role ≡ Keeper p → m'.0.role ≡ Keeper p' → next p p' → Plans m m' next
  plans m m' p p' next is now h q is' = (p', now, subst (λ (z : Plan X). next z p') (ap (plan_or p) (sym is ∙ is')) h)

  -- the berths of a slot that nobody holds are at home with their values
  stored_row : (s : St) (k : Rule s) (c : ℕ) → c < k.n + 2 → get_or k.plan.standing c 0 < 2 → count_at k.n k.stage (c + 2) ≡ 0 → k.plan.hand ≡ 0 → (ys : List (Option T)) × (length ys ≡ k.n) × Lined s.homes c 0 ys × WereStored state k.made k.n (get_or (slot_states k.plan.standing k.plan.states) c None) ys
  stored_row s k c l low none_there bare = let ok = k.each_slot c l in let lists = k.lists.2 in dite (ℕ_discrete (get_or k.plan.standing c 0) 0)
      (λ z. let row = empty_row s.homes c k.n 0 (λ r below. ok.unused z (λ e. omega arith) r (omega arith)) in (replicate k.n None, row.0, row.1, subst (λ (o : Option X). WereStored state k.made k.n o (replicate k.n None)) (sym (state_unused k.plan.standing k.plan.states c z)) refl))
      (λ nz. let x = at_some k.plan.states c (let few = k.few.1 in omega (arith, lists)) in let used : 0 < get_or k.plan.standing c 0 = omega arith in
      let row = shown_row state x.0 s.homes c k.n 0 (λ r below. ok.home used r (omega arith) (count_none k.n k.stage (c + 2) r none_there (omega arith)) x.0 x.1) in
      (row.0, row.1, row.2, subst (λ (o : Option X). WereStored state k.made k.n o row.0) (sym (state_used k.plan.standing k.plan.states c x.0 used x.1)) (k.of_made c x.0 used x.1, row.3)))

  takes_slot : (s : St) (k : Rule s) (id c : ℕ) (d : SeatView X) → get_elem? s.views id ≡ some d → d.role ≡ Keeper k.plan → c < k.n + 2 → c ≢ k.plan.published → k.plan.hand ≡ 0 → get_or s.words (1 + c) 0 ≡ get_or k.plan.counts c 0 → count_at k.n k.stage (c + 2) ≡ 0
      → (ys : List (Option T)) → length ys ≡ k.n → Rule record { words = s.words; homes = homes_after s.homes [] (take_all c 0 ys); views = set s.views id (seat_view (Keeper (taken_plan k.plan c)) d.seen d.told d.moves) }
  takes_slot s k id c d at is l unpublished bare same none_there ys size = let p : Plan X = k.plan in let p' : Plan X = taken_plan p c in let few = k.few.1 in let long = k.lists.0 in let tries = k.lists.3 in let knew = plays state follows start s k id d (Keeper p) at is in let mine = k.each_seat id d at in
      let here = get_or-set_same p.standing c 0 0 (omega arith) in let stays = (λ (j : ℕ) (other : j ≢ c). get_or-set_other p.standing c j 0 0 other) in
      let apart = (λ (j r : ℕ) (other : j ≢ c) (low : j < k.n + 2). taken_else s.homes [] c 0 ys (32 * r + j) (λ i a b e. other (omega arith))) in record {
        n = k.n;
        plan = p';
        made = k.made;
        writer = k.writer;
        stage = k.stage;
        owner = k.owner;
        leaves = k.leaves;
        few = k.few;
        wide = k.wide;
        deep = taken_length s.homes [] c 0 ys ∙ k.deep;
        lists = (length-set p.standing c 0 ∙ k.lists.0, k.lists.1, k.lists.2, length-set p.tried c 0 ∙ k.lists.3);
        published = (k.published.0, stays p.published (λ e. unpublished (sym e)) ∙ k.published.1);
        newest = k.newest;
        alone = λ j e. dite (ℕ_discrete j c) (λ z. let a = ap (λ (b : ℕ). get_or p'.standing b 0) z in absurd (omega (arith, a, here, e))) (λ other. k.alone j (sym (stays j other) ∙ e));
        standings = λ j. dite (ℕ_discrete j c) (λ z. let a = ap (λ (b : ℕ). get_or p'.standing b 0) z in omega (arith, a, here)) (λ other. let a = stays j other in let b = k.standings j in omega (arith, a, b));
        of_made = λ j x used at_x. k.of_made j x (dite (ℕ_discrete j c) (λ z. let a = ap (λ (b : ℕ). get_or p'.standing b 0) z in absurd (omega (arith, a, here, used))) (λ other. let a = stays j other in omega (arith, a, used))) at_x;
        hand = λ j e. let z : c ≡ j = omega arith in (omega arith, ap (λ (b : ℕ). get_or p'.standing b 0) (sym z) ∙ here);
        each_slot = λ j low. let ok = k.each_slot j low in dite (ℕ_discrete j c)
            (λ z. let a : get_or p'.standing j 0 ≡ 0 = ap (λ (b : ℕ). get_or p'.standing b 0) z ∙ here in record {
              done = ok.done;
              live = λ e. absurd (unpublished (sym z ∙ e));
              retired = λ e. absurd (omega (arith, a, e));
              free = λ _. (ap (λ (b : ℕ). get_or s.words (1 + b) 0) z ∙ (same ∙ ap (λ (b : ℕ). get_or p.counts b 0) (sym z)), ap (λ (b : ℕ). count_at k.n k.stage (b + 2)) z ∙ none_there);
              home = λ e. absurd (omega (arith, a, e));
              unused = λ _ e. absurd (e (omega arith));
            })
            (λ other. let a = stays j other in record {
              done = ok.done;
              live = ok.live;
              retired = λ e. ok.retired (sym a ∙ e);
              free = λ e. ok.free (sym a ∙ e);
              home = λ e r below away x at_x. let there = ok.home (omega (arith, a, e)) r below away x at_x in (there.0, apart j r other low ∙ there.1, there.2);
              unused = λ e _ r below. apart j r other low ∙ ok.unused (sym a ∙ e) (λ z. omega arith) r below;
            });
        inside = k.inside;
        in_use = λ r j below e. let u = k.in_use r j below e in let b = stays j (λ z. count_none k.n k.stage (c + 2) r none_there below (e ∙ ap (λ (a : ℕ). a + 2) z)) in omega (arith, u, b);
        ungiven = k.ungiven;
        chain = k.chain;
        few_fail = let a = laggards_plan k.n p p' k.stage (λ r below. lags_else p p' c (k.stage r) (count_none k.n k.stage (c + 2) r none_there below) stays (λ j other. get_or-set_other p.tried c j 0 0 other)) in
            let b = sum_below-set (k.n + 2) p.tried c 0 l (omega arith) in let f = k.few_fail in omega (arith, a, b, f);
        moved = let total = sum_by-view_set moves_of s.views id d (seat_view (Keeper p') d.seen d.told d.moves) at in let was = k.moved in omega (arith, total, was);
        each_seat = views_stay (λ (j : ℕ) (e : SeatView X). StartsWith k.made e.seen × StartsWith k.made e.told × Plays state p' k.made k.n k.writer k.stage k.owner j e.seen e.role) s.views id (seat_view (Keeper p') d.seen d.told d.moves)
            (mine.0, mine.1, (refl, knew.1, knew.2)) (λ j e other at_j. let h = k.each_seat j e at_j in (h.0, h.1, others_plan p p' k.made k.made k.n k.writer k.stage k.owner j e.seen (λ z. other (z ∙ sym knew.1)) (λ _ _ _ _. refl) (λ _ _ _ _ whole. whole) e.role h.2));
      }

  tries_slot : (s : St) (k : Rule s) (id c : ℕ) (d : SeatView X) → get_elem? s.views id ≡ some d → d.role ≡ Keeper k.plan → c < k.n + 2 → get_or k.plan.standing c 0 ≡ 1 → 0 < count_at k.n k.stage (c + 2)
      → Rule record { words = s.words; homes = s.homes; views = set s.views id (seat_view (Keeper (tried_plan k.plan c)) d.seen d.told d.moves) } × (sum_below (k.n + 2) (slice_index (set k.plan.tried c 1)) ≤ k.n)
  tries_slot s k id c d at is l retired held = let p : Plan X = k.plan in let p' : Plan X = tried_plan p c in let few = k.few.1 in let tries = k.lists.3 in let knew = plays state follows start s k id d (Keeper p) at is in let mine = k.each_seat id d at in
      let here = get_or-set_same p.tried c 1 0 (omega arith) in let stays = (λ (j : ℕ) (other : j ≢ c). get_or-set_other p.tried c j 1 0 other) in
      let sum = sum_below-set (k.n + 2) p.tried c 1 l (omega arith) in let f = k.few_fail in
      let off : lags p' (c + 2) ≡ false = lags-at p' c ∙ (and_second _ _ (ne_eqb (get_or p'.tried c 0) 0 (λ z. omega (arith, here, z)))) in
      let else_same = (λ (t : ℕ) (other : t ≢ c + 2). lags_else p p' c t other (λ _ _. refl) stays) in
      let fails : sum_below (k.n + 2) (slice_index p'.tried) + laggards k.n p' k.stage ≤ k.n = dite (ℕ_discrete (get_or p.tried c 0) 0)
      (λ z. let on : lags p (c + 2) ≡ true = lags-at p c ∙ and_both _ _ (eq-eqb (get_or p.standing c 0) 1 retired) (eq-eqb (get_or p.tried c 0) 0 z) in let a = laggards_drop k.n p p' k.stage c on off else_same in omega (arith, a, sum, f, held, z))
      (λ nz. let on : lags p (c + 2) ≡ false = lags-at p c ∙ and_second _ _ (ne_eqb (get_or p.tried c 0) 0 nz) in
      let a = laggards_plan k.n p p' k.stage (λ r below. dite (ℕ_discrete (k.stage r) (c + 2)) (λ e. ap (lags p') e ∙ (off ∙ (sym on ∙ ap (lags p) (sym e)))) (λ other. else_same (k.stage r) other)) in omega (arith, a, sum, f, nz)) in (
        record {
          n = k.n;
          plan = p';
          made = k.made;
          writer = k.writer;
          stage = k.stage;
          owner = k.owner;
          leaves = k.leaves;
          few = k.few;
          wide = k.wide;
          deep = k.deep;
          lists = (k.lists.0, k.lists.1, k.lists.2, length-set p.tried c 1 ∙ k.lists.3);
          published = k.published;
          newest = k.newest;
          alone = k.alone;
          standings = k.standings;
          of_made = k.of_made;
          hand = k.hand;
          each_slot = λ j low. let ok = k.each_slot j low in record { done = ok.done; live = ok.live; retired = ok.retired; free = ok.free; home = ok.home; unused = ok.unused };
          inside = k.inside;
          in_use = k.in_use;
          ungiven = k.ungiven;
          chain = k.chain;
          few_fail = fails;
          moved = let total = sum_by-view_set moves_of s.views id d (seat_view (Keeper p') d.seen d.told d.moves) at in let was = k.moved in omega (arith, total, was);
          each_seat = views_stay (λ (j : ℕ) (e : SeatView X). StartsWith k.made e.seen × StartsWith k.made e.told × Plays state p' k.made k.n k.writer k.stage k.owner j e.seen e.role) s.views id (seat_view (Keeper p') d.seen d.told d.moves)
              (mine.0, mine.1, (refl, knew.1, knew.2)) (λ j e other at_j. let h = k.each_seat j e at_j in (h.0, h.1, others_plan p p' k.made k.made k.n k.writer k.stage k.owner j e.seen (λ z. other (z ∙ sym knew.1)) (λ _ _ _ _. refl) (λ _ _ _ _ whole. whole) e.role h.2));
        },
        omega (arith, fails),
      )

  pub checks : (slots id : ℕ) (me : M) (p₀ : Plan X) (c : ℕ) → me.0.role ≡ Keeper p₀ → me.1 ≡ [] → c < p₀.readers + 2 → c ≢ p₀.published → p₀.hand ≡ 0
      → Allows Rule slots id me (1 + c) (λ x. x) (checked state (step slots (1 + c) 0 0 none) me)
  checks slots id me p₀ c is₀ bare l₀ unpublished₀ free₀ s k deep at fits = let known = plays state follows start s k id me.0 (Keeper p₀) at is₀ in let p : Plan X = k.plan in let is : me.0.role ≡ Keeper p = is₀ ∙ ap (λ (z : Plan X). Keeper z) known.0 in
      let asked = subst (λ (z : Plan X). (c < z.readers + 2) × (c ≢ z.published) × (z.hand ≡ 0)) known.0 (l₀, unpublished₀, free₀) in let readers = k.few.2 in let few = k.few.1 in let asked₀ = asked.0 in let l : c < k.n + 2 = omega arith in
      let e : ℕ = get_or s.words (1 + c) 0 in let ok = k.each_slot c l in let st : ℕ = get_or p.standing c 0 in let low : st < 2 = (let a = k.standings c in dite (ℕ_discrete st 2) (λ z. absurd (asked.1 (k.alone c z))) (λ z. omega arith)) in
      let h = count_le k.n k.stage (c + 2) in
      let words_stay = set-get_or s.words (1 + c) 0 in
      dite (ℕ_discrete e (get_or p.counts c 0))
      (λ free. let none_there : count_at k.n k.stage (c + 2) ≡ 0 = dite (ℕ_discrete st 0) (λ z. (ok.free z).1) (λ nz. let r = ok.retired (omega arith) in omega (arith, r, h)) in
      let row = stored_row s k c l low none_there asked.2 in let stored : WereStored state me.0.seen p.readers (get_or (slot_states p.standing p.states) c None) row.0 = subst (λ (z : List X × ℕ). WereStored state z.0 z.1 (get_or (slot_states p.standing p.states) c None) row.0) (λ i. (sym known.2 i, sym readers i)) row.3 in let w : SeatView X = seat_view (Keeper (taken_plan p c)) me.0.seen me.0.told me.0.moves in
      let carried : carried_after me.1 (take_all c 0 row.0) ≡ berths c 0 row.0 = ap (λ (cs : List (ℕ × Option T)). carried_after cs (take_all c 0 row.0)) bare ∙ take_carried c 0 row.0 in (
        w,
        take_all c 0 row.0,
        take_valid s.homes me.1 c 0 row.0 row.2,
        subst (λ (z : List ℕ × List (ℕ × Option T)). Rule record { words = z.0; homes = homes_after s.homes z.1 (take_all c 0 row.0); views = set s.views id w }) (λ i. (sym words_stay i, sym bare i))
            (takes_slot s k id c me.0 at is l asked.1 asked.2 free none_there row.0 row.1),
        (
          refl,
          refl,
          λ j same_word. let same : c ≡ j = omega arith in subst (λ (j : ℕ). Plans me (w, carried_after me.1 (take_all c 0 row.0)) (λ p p'.
              (e ≡ get_or p.counts j 0 → (p' ≡ taken_plan p j) × ((ys : List (Option T)) × (length ys ≡ p.readers) × WereStored state me.0.seen p.readers (get_or (slot_states p.standing p.states) j None) ys × (carried_after me.1 (take_all c 0 row.0) ≡ berths j 0 ys)))
              × (e ≢ get_or p.counts j 0 → (p' ≡ tried_plan p j) × (carried_after me.1 (take_all c 0 row.0) ≡ []) × (sum_below (p.readers + 2) (slice_index p'.tried) ≤ p.readers)))) same
              (plans me (w, carried_after me.1 (take_all c 0 row.0)) p (taken_plan p c) _ is refl ((λ _. (refl, (row.0, row.1 ∙ sym readers, stored, carried))), λ busy. absurd (busy free))),
        ),
      ))
      (λ busy. let nz : st ≢ 0 = (λ z. busy (ok.free z).0) in let retired : st ≡ 1 = omega arith in let r = ok.retired retired in let held : 0 < count_at k.n k.stage (c + 2) = omega arith in
      let did = tries_slot s k id c me.0 at is l retired held in let w : SeatView X = seat_view (Keeper (tried_plan p c)) me.0.seen me.0.told me.0.moves in (
        w,
        keeps,
        tt,
        subst (λ (ws : List ℕ). Rule record { words = ws; homes = s.homes; views = set s.views id w }) (sym words_stay) did.0,
        (
          refl,
          refl,
          λ j same_word. let same : c ≡ j = omega arith in subst (λ (j : ℕ). Plans me (w, me.1) (λ p p'.
              (e ≡ get_or p.counts j 0 → (p' ≡ taken_plan p j) × ((ys : List (Option T)) × (length ys ≡ p.readers) × WereStored state me.0.seen p.readers (get_or (slot_states p.standing p.states) j None) ys × (me.1 ≡ berths j 0 ys)))
              × (e ≢ get_or p.counts j 0 → (p' ≡ tried_plan p j) × (me.1 ≡ []) × (sum_below (p.readers + 2) (slice_index p'.tried) ≤ p.readers)))) same
              (plans me (w, me.1) p (tried_plan p c) _ is refl ((λ free. absurd (busy free)), λ _. (refl, bare, subst (λ (z : ℕ). sum_below (z + 2) (slice_index (set p.tried c 1)) ≤ z) (sym readers) did.1))),
        ),
      ))

  publishes_slot : (s : St) (k : Rule s) (id c new : ℕ) (d : SeatView X) (x : X) (ys : List (Option T)) → get_elem? s.views id ≡ some d → d.role ≡ Keeper k.plan → k.plan.hand ≡ c + 1 → length ys ≡ k.n → AllShow state x ys → ((y : X) → EndsWith d.seen y → follows y x)
      → new ≡ get_or k.plan.counts c 0 + c → new < 2 ^ 64 → get_or s.words 0 0 < 2 ^ 64
      → Rule record { words = set s.words 0 new; homes = homes_after s.homes (berths c 0 ys) (give_all ys); views = set s.views id (seat_view (Keeper (published_at k.plan c (get_or s.words 0 0) x)) (d.seen ++ x ∷ []) d.told d.moves) }
  publishes_slot s k id c new d x ys at is in_hand size shows next new_is small fits = let p : Plan X = k.plan in let e : ℕ = get_or s.words 0 0 in let q : ℕ = p.published in let p' : Plan X = published_at p c e x in let made' : List X = k.made ++ x ∷ [] in let wide = k.wide in let deep = k.deep in
      let few = k.few.1 in let long = k.lists.0 in let counts = k.lists.1 in let states = k.lists.2 in let knew = plays state follows start s k id d (Keeper p) at is in let mine = k.each_seat id d at in let hand = k.hand c in_hand in let l : c < k.n + 2 = hand.0 in let free_c = hand.1 in
      let in_range = k.published.0 in let top = k.published.1 in let apart_q : c ≢ q = (λ z. let a = ap (λ (b : ℕ). get_or p.standing b 0) z in omega (arith, a, free_c, top)) in let ok_c = k.each_slot c l in let ok_q = k.each_slot q in_range in let live = ok_q.live refl in let done_q = ok_q.done in
      let none_there : count_at k.n k.stage (c + 2) ≡ 0 = (ok_c.free free_c).1 in let done_c = (ok_c.free free_c).0 in
      let mid : List ℕ = set p.standing q 1 in let mid_long = length-set p.standing q 1 in
      let at_c : get_or p'.standing c 0 ≡ 2 = get_or-set_same mid c 2 0 (omega (arith, mid_long)) in
      let at_q : get_or p'.standing q 0 ≡ 1 = get_or-set_other mid c q 2 0 (λ z. apart_q (sym z)) ∙ get_or-set_same p.standing q 1 0 (omega arith) in
      let stays = (λ (j : ℕ) (a : j ≢ c) (b : j ≢ q). get_or-set_other mid c j 2 0 a ∙ get_or-set_other p.standing q j 1 0 b) in
      let homes' : List (maybe.Option (Option T)) = homes_after s.homes (berths c 0 ys) (give_all ys) in let words_at = (λ (j : ℕ). get_or-set_other s.words 0 (1 + j) new 0 (λ z. omega arith)) in let now = get_or-set_same s.words 0 new 0 (omega arith) in
      let elsewhere = (λ (j r : ℕ) (other : j ≢ c) (low : j < k.n + 2). given_else s.homes c 0 ys (32 * r + j) (λ i a b z. other (omega arith))) in record {
        n = k.n;
        plan = p';
        made = made';
        writer = k.writer;
        stage = k.stage;
        owner = k.owner;
        leaves = k.leaves;
        few = k.few;
        wide = length-set s.words 0 new ∙ k.wide;
        deep = given_length s.homes c 0 ys ∙ k.deep;
        lists = (length-set mid c 2 ∙ (mid_long ∙ k.lists.0), length-set p.counts q (e - e % 256) ∙ k.lists.1, length-set p.states c x ∙ k.lists.2, refl);
        published = (l, at_c);
        newest = (x, set_here p.states c x (omega (arith, states)), (k.made, refl));
        alone = λ j z. dite (ℕ_discrete j c) (λ same. same) (λ a. dite (ℕ_discrete j q) (λ same. let b = ap (λ (i : ℕ). get_or p'.standing i 0) same in absurd (omega (arith, b, at_q, z))) (λ b. absurd (b (k.alone j (sym (stays j a b) ∙ z)))));
        standings = λ j. dite (ℕ_discrete j c) (λ same. let b = ap (λ (i : ℕ). get_or p'.standing i 0) same in omega (arith, b, at_c)) (λ a. dite (ℕ_discrete j q) (λ same. let b = ap (λ (i : ℕ). get_or p'.standing i 0) same in omega (arith, b, at_q)) (λ b. let z = stays j a b in let y = k.standings j in omega (arith, z, y)));
        of_made = λ j x₀ used at_x. dite (ℕ_discrete j c)
            (λ here. let same : x ≡ x₀ = some-injective x x₀ (sym (set_here p.states c x (omega (arith, states))) ∙ (ap (get_elem? p'.states) (sym here) ∙ at_x)) in subst (Contains made') same (Contains-append_right k.made (x ∷ []) x (0, omega arith, refl)))
            (λ a. Contains-append_left k.made (x ∷ []) x₀ (k.of_made j x₀
            (dite (ℕ_discrete j q) (λ same. let b = ap (λ (i : ℕ). get_or p.standing i 0) same in omega (arith, b, top)) (λ b. let z = stays j a b in omega (arith, z, used)))
            (sym (set_else p.states c j x a) ∙ at_x)));
        hand = λ j z. absurd (omega arith);
        each_slot = λ j low. let ok = k.each_slot j low in let same_word = words_at j in dite (ℕ_discrete j c)
            (λ here. subst (SlotKept state start p' k.n (set s.words 0 new) homes' k.stage k.leaves) (sym here) record {
              done = words_at c ∙ ok_c.done;
              live = λ _. let a = words_at c in omega (arith, a, now, none_there, done_c, new_is, small);
              retired = λ z. absurd (omega (arith, z, at_c));
              free = λ z. absurd (omega (arith, z, at_c));
              home = λ _ r below _ x₀ at_x. let v = show_at state x ys r None shows (omega arith) in let there = given_at s.homes c 0 ys r None (omega arith) (omega arith) in let zero : 32 * r + c ≡ 32 * (0 + r) + c = omega arith in
                  (v.0, ap (get_elem? homes') zero ∙ (there ∙ ap (λ (b : Option T). some (some b)) v.1), v.2 ∙ some-injective x x₀ (sym (set_here p.states c x (omega (arith, states))) ∙ at_x));
              unused = λ z. absurd (omega (arith, z, at_c));
            })
            (λ a. let state_j = set_else p.states c j x a in dite (ℕ_discrete j q)
            (λ here. let same_s = ap (λ (i : ℕ). get_or p'.standing i 0) here in record {
              done = same_word ∙ ok.done;
              live = λ z. absurd (a z);
              retired = λ _. let w = ap (λ (i : ℕ). get_or s.words (1 + i) 0) here in let h = ap (λ (i : ℕ). count_at k.n k.stage (i + 2)) here in let n = ap (λ (i : ℕ). get_or p'.counts i 0) here ∙ get_or-set_same p.counts q (e - e % 256) 0 (omega (arith, counts)) in
                  omega (arith, w, h, n, same_word, live, done_q, fits);
              free = λ z. absurd (omega (arith, z, same_s, at_q));
              home = λ _ r below away x₀ at_x. let t = ap (λ (i : ℕ). get_or p.standing i 0) here in let there = ok.home (omega (arith, t, top)) r below away x₀ (sym state_j ∙ at_x) in (there.0, elsewhere j r a low ∙ there.1, there.2);
              unused = λ z. absurd (omega (arith, z, same_s, at_q));
            })
            (λ b. let st = stays j a b in let n = get_or-set_other p.counts q j (e - e % 256) 0 b in record {
              done = same_word ∙ ok.done;
              live = λ z. absurd (a z);
              retired = λ z. let old = ok.retired (sym st ∙ z) in omega (arith, old, same_word, n);
              free = λ z. let old = ok.free (sym st ∙ z) in (same_word ∙ (old.0 ∙ sym n), old.1);
              home = λ z r below away x₀ at_x. let there = ok.home (omega (arith, z, st)) r below away x₀ (sym state_j ∙ at_x) in (there.0, elsewhere j r a low ∙ there.1, there.2);
              unused = λ z _ r below. elsewhere j r a low ∙ ok.unused (sym st ∙ z) (λ y. a (omega (arith, y, in_hand))) r below;
            }));
        inside = k.inside;
        in_use = λ r j below z. dite (ℕ_discrete j c) (λ same. let b = ap (λ (i : ℕ). get_or p'.standing i 0) same in omega (arith, b, at_c)) (λ a. dite (ℕ_discrete j q) (λ same. let b = ap (λ (i : ℕ). get_or p'.standing i 0) same in omega (arith, b, at_q)) (λ b. let y = k.in_use r j below z in let w = stays j a b in omega (arith, y, w)));
        ungiven = k.ungiven;
        chain = chain_snoc follows k.made x (λ y e. next y (subst (λ (z : List X). EndsWith z y) (sym knew.2) e)) k.chain;
        few_fail = let a = sum_below-zeros (k.n + 2) 18 in let b = laggards_le k.n p' k.stage in omega (arith, a, b);
        moved = let total = sum_by-view_set moves_of s.views id d (seat_view (Keeper p') (d.seen ++ x ∷ []) d.told d.moves) at in let was = k.moved in omega (arith, total, was);
        each_seat = views_stay (λ (j : ℕ) (f : SeatView X). StartsWith made' f.seen × StartsWith made' f.told × Plays state p' made' k.n k.writer k.stage k.owner j f.seen f.role) s.views id (seat_view (Keeper p') (d.seen ++ x ∷ []) d.told d.moves)
            (([], ap (λ (z : List X). z ++ x ∷ []) (sym knew.2) ∙ sym (append-nil (d.seen ++ x ∷ []))), starts_more k.made d.told (x ∷ []) mine.1, (refl, knew.1, ap (λ (z : List X). z ++ x ∷ []) knew.2))
            (λ j f other at_j. let h = k.each_seat j f at_j in (
              starts_more k.made f.seen (x ∷ []) h.0,
              starts_more k.made f.told (x ∷ []) h.1,
              others_plan p p' k.made made' k.n k.writer k.stage k.owner j f.seen (λ z. other (z ∙ sym knew.1))
                  (λ r i below z. set_else p.states c i x (λ same. count_none k.n k.stage (c + 2) r none_there below (z ∙ ap (λ (b : ℕ). b + 2) same)))
                  (λ r i below z _ same. absurd (count_none k.n k.stage (c + 2) r none_there below (z ∙ ap (λ (b : ℕ). b + 2) same))) f.role h.2,
            ));
      }

  pub publishes : (slots id : ℕ) (me : M) (p₀ : Plan X) (c new : ℕ) (x : X) (ys : List (Option T)) → me.0.role ≡ Keeper p₀ → p₀.hand ≡ c + 1 → me.1 ≡ berths c 0 ys → length ys ≡ p₀.readers → AllShow state x ys → ((y : X) → EndsWith me.0.seen y → follows y x) → new ≡ get_or p₀.counts c 0 + c → new < 2 ^ 64
      → Allows Rule slots id me 0 (λ _. new) (published state follows (step slots 0 new 0 none) me)
  publishes slots id me p₀ c new x ys is₀ hand₀ carried size₀ shows next new₀ small s k deep at fits = let known = plays state follows start s k id me.0 (Keeper p₀) at is₀ in let p : Plan X = k.plan in let is : me.0.role ≡ Keeper p = is₀ ∙ ap (λ (z : Plan X). Keeper z) known.0 in
      let asked = subst (λ (z : Plan X). (z.hand ≡ c + 1) × (length ys ≡ z.readers) × (new ≡ get_or z.counts c 0 + c)) known.0 (hand₀, size₀, new₀) in let readers = k.few.2 in let some_readers = k.few.0 in let e : ℕ = get_or s.words 0 0 in
      let hand = asked.0 in let size = asked.1 in let index : p.hand - 1 ≡ c = omega arith in
      let w : SeatView X = seat_view (Keeper (published_at p c e x)) (me.0.seen ++ x ∷ []) me.0.told me.0.moves in (
        w,
        give_all ys,
        give_valid s.homes me.1 ys,
        subst (λ (cs : List (ℕ × Option T)). Rule (stepped s 0 new id cs w (give_all ys))) (sym carried) (publishes_slot s k id c new me.0 x ys at is asked.0 (asked.1 ∙ readers) shows next asked.2 small fits),
        (
          ap (λ (cs : List (ℕ × Option T)). carried_after cs (give_all ys)) carried ∙ given_carried c 0 ys,
          chain_snoc follows me.0.seen x next (subst (Chain follows) (sym known.2) k.chain),
          refl,
          plans me (w, carried_after me.1 (give_all ys)) p (published_at p c e x) _ is refl
              (λ y zs has some shows'. let same : zs ≡ ys = berths_same c 0 zs ys (ap (λ (i : ℕ). berths i 0 zs) (sym index) ∙ (sym has ∙ carried)) in
              let one : x ≡ y = all_show_same state x y ys (omega arith) shows (subst (AllShow state y) same shows') in (
                (λ i. published_at p (sym index i) e (one i)),
                state_set (set p.standing p.published 1) p.states c x ∙ (ap (λ (z : List (Option X)). set z c (Some x)) (state_retired p.standing p.states p.published (let top = k.published.1 in omega (arith, top))) ∙ (λ i. set (slot_states p.standing p.states) (sym index i) (Some (one i)))),
                (λ i. me.0.seen ++ one i ∷ []),
              )),
        ),
      )
