-- A reader's steps keep the rule of the table.
use Rattle.std.proofs.Common.{◌≡◌, ◌≢◌, ℕ, ◌+◌, ◌*◌, ◌%◌, ◌^◌, ◌<◌, List, [], ◌∷◌, length, get_or, set, sym, refl, ap, ◌∙◌, subst, arith, Option, Some, ne_eqb, false, length-set, get_or-set_other, get_or-set_same}
use mathlib.Core.Logic.{dite}
use mathlib.Core.Option.{none, some, some-injective}
use mathlib.Core.Option as maybe
use mathlib.Core.List.{append-nil}
use native.Mathlib.Decide.{ℕ_discrete}
use lib.ListN.{get_elem?}
use Rattle.atomic_table.specs.Table.{State, Me, step, takes, gives, stepped, Allows, rest}
use Rattle.atomic_table.proofs.Lists.{set_here, set_else}
use Rattle.history_laws.specs.Histories.{StartsWith, EndsWith}
use Rattle.history_laws.proofs.Prefixes.{one_last}
use Rattle.history_laws.proofs.Views.{put, put_here, put_else, views_stay, sum_by-view_set}
use Rattle.gen_slots.specs.declared.board.Plan.{Plan}
use Rattle.gen_slots.specs.declared.board.SeatView.{SeatView}
use Rattle.gen_slots.specs.declared.board.Role.{Role}
use Rattle.gen_slots.specs.declared.board.Role.TheVariants.{Idle, Out, Holds, Keeper}
use Rattle.gen_slots.specs.SlotRule.{count_at, count_inside, sum_below, lags, SlotKept, Plays, Kept, seat_view, moves_of}
use Rattle.gen_slots.specs.SlotSteps.{entered, left}
use Rattle.gen_slots.proofs.Sums.{sum_below-at}
use Rattle.gen_slots.proofs.Stages.{count_more, count_less, count_kept, inside_more, inside_less, laggards_less, lags-at, and_first}

module _ {T X : Type 0} (state : T → X) (follows : X → X → Type 0) (start : ℕ) where
  abbrev Homes : Type 0
  Homes = List (maybe.Option (Option T))

  abbrev St : Type 0
  St = State (Option T) (SeatView X)

  abbrev M : Type 0
  M = Me (Option T) (SeatView X)

  abbrev Rule : St → Type 0
  Rule = Kept state follows start

  abbrev reader_or : ℕ → Role X → ℕ
  reader_or d (Out r) = r
  reader_or d (Holds r s) = r
  reader_or d _ = d

  abbrev slot_or : ℕ → Role X → ℕ
  slot_or d (Holds r s) = s
  slot_or d _ = d

  pub plays : (s : St) (k : Rule s) (id : ℕ) (v : SeatView X) (role : Role X) → get_elem? s.views id ≡ some v → v.role ≡ role → Plays state k.plan k.made k.n k.writer k.stage k.owner id v.seen role
  plays s k id v role at is = subst (Plays state k.plan k.made k.n k.writer k.stage k.owner id v.seen) is (k.each_seat id v at).2

  -- the reader q goes to another stage, by the seat that has it
  others_move : (p : Plan X) (made : List X) (n writer : ℕ) (stage owner : ℕ → ℕ) (q t me j : ℕ) (seen : List X) → j ≢ me → owner q ≡ me → (role : Role X)
      → Plays state p made n writer stage owner j seen role → Plays state p made n writer (put stage q t) owner j seen role
  others_move p made n writer stage owner q t me j seen other mine = go
    where
      apart : (r : ℕ) → owner r ≡ j → r ≢ q
      apart r is e = other (sym is ∙ (ap owner e ∙ mine))

      go : (role : Role X) → Plays state p made n writer stage owner j seen role → Plays state p made n writer (put stage q t) owner j seen role
      go Idle k = tt
      go (Out r) k = (k.0, put_else stage q t r (apart r k.2) ∙ k.1, k.2)
      go (Holds r i) k = (k.0, put_else stage q t r (apart r k.2) ∙ k.1, k.2, k.3, k.4)
      go (Keeper x) k = k

  -- A step of the reader r to the stage t. It sets word i to x and makes one addition.
  reader_step : (s : St) (k : Rule s) (r t i x me : ℕ) (homes' : Homes) (leaves' : ℕ → ℕ) (v w : SeatView X) → get_elem? s.views me ≡ some v → r < k.n → k.owner r ≡ me → 0 < k.stage r → t < k.n + 4 → ((j : ℕ) → t ≡ j + 2 → 0 < get_or k.plan.standing j 0)
      → lags k.plan t ≡ false → length homes' ≡ length s.homes → ((j : ℕ) → j < k.n + 2 → SlotKept state start k.plan k.n (set s.words i x) homes' (put k.stage r t) leaves' j)
      → w.moves ≡ v.moves + 1 → 2 * sum_below (k.n + 2) leaves' + count_inside k.n (put k.stage r t) ≡ 2 * sum_below (k.n + 2) k.leaves + count_inside k.n k.stage + 1
      → StartsWith k.made w.seen × StartsWith k.made w.told × Plays state k.plan k.made k.n k.writer (put k.stage r t) k.owner me w.seen w.role
      → Rule record { words = set s.words i x; homes = homes'; views = set s.views me w }
  reader_step s k r t i x me homes' leaves' v w at below mine given low usable ahead as_deep slots counts additions known = record {
    n = k.n;
    plan = k.plan;
    made = k.made;
    writer = k.writer;
    stage = put k.stage r t;
    owner = k.owner;
    leaves = leaves';
    few = k.few;
    wide = length-set s.words i x ∙ k.wide;
    deep = as_deep ∙ k.deep;
    lists = k.lists;
    published = k.published;
    newest = k.newest;
    alone = k.alone;
    standings = k.standings;
    of_made = k.of_made;
    hand = k.hand;
    each_slot = slots;
    inside = λ j. dite (ℕ_discrete j r) (λ e. let a = ap (put k.stage r t) e ∙ put_here k.stage r t in omega (arith, a)) (λ other. let a = put_else k.stage r t j other in let b = k.inside j in omega (arith, a, b));
    in_use = λ j c l e. dite (ℕ_discrete j r) (λ same. usable c (sym (ap (put k.stage r t) same ∙ put_here k.stage r t) ∙ e)) (λ other. k.in_use j c l (sym (put_else k.stage r t j other) ∙ e));
    ungiven = λ j l. dite (ℕ_discrete j r) (λ same. let z = k.ungiven r (omega arith) in absurd (omega arith)) (λ other. put_else k.stage r t j other ∙ k.ungiven j l);
    chain = k.chain;
    few_fail = let a = laggards_less k.n k.plan k.stage r t below ahead in let b = k.few_fail in omega (arith, a, b);
    moved = let total = sum_by-view_set moves_of s.views me v w at in let was = k.moved in omega (arith, total, was, counts, additions);
    each_seat = views_stay (λ (j : ℕ) (d : SeatView X). StartsWith k.made d.seen × StartsWith k.made d.told × Plays state k.plan k.made k.n k.writer (put k.stage r t) k.owner j d.seen d.role) s.views me w known
        (λ j d other at. let h = k.each_seat j d at in (h.0, h.1, others_move k.plan k.made k.n k.writer k.stage k.owner r t me j d.seen other mine d.role h.2));
  }

  pub enters : (slots id : ℕ) (me : M) (r : ℕ) → me.0.role ≡ Out r → Allows Rule slots id me 0 (λ x. (x + 256) % 2 ^ 64) (entered state follows (step slots 0 256 0 none) me)
  enters slots id me r is s k deep at fits = let known = plays s k id me.0 (Out r) at is in let below = known.0 in let was = known.1 in let p : Plan X = k.plan in let q : ℕ = p.published in let few = k.few.1 in let wide = k.wide in let deep' = k.deep in
      let in_range = k.published.0 in let shown = k.published.1 in let ok = k.each_slot q in_range in let e : ℕ = get_or s.words 0 0 in let live = ok.live refl in let done = ok.done in
      let names : e % 256 ≡ q = omega arith in let top = k.newest in let berth = ok.home (omega arith) r below (λ z. omega arith) top.0 top.1 in
      let w : SeatView X = seat_view (Holds r q) k.made me.0.told (me.0.moves + 1) in let y : ℕ = (e + 256) % 18446744073709551616 in let homes' : Homes = set s.homes (32 * r + q) none in (
        w,
        takes (32 * r + q) (Some berth.0),
        berth.1,
        reader_step s k r (q + 2) 0 y id homes' k.leaves me.0 w at below known.2 (omega arith) (omega arith) (λ j z. let same : q ≡ j = omega arith in subst (λ (c : ℕ). 0 < get_or p.standing c 0) same (omega arith)) (lags-at p q ∙ and_first _ _ (ne_eqb (get_or p.standing q 0) 1 (λ z. omega arith))) (length-set s.homes (32 * r + q) none)
            (λ j l. let old = k.each_slot j l in let stays = get_or-set_other s.words 0 (1 + j) y 0 (λ z. omega arith) in let now = get_or-set_same s.words 0 y 0 (omega arith) in record {
              done = stays ∙ old.done;
              live = λ here. let h = old.live here in let c = ap (count_at k.n (put k.stage r (q + 2))) (ap (λ (z : ℕ). z + 2) here) ∙ (count_more k.n k.stage r (q + 2) below (λ z. omega arith) ∙ ap (λ (z : ℕ). count_at k.n k.stage (z + 2) + 1) (sym here)) in omega (arith, h, c, stays, now);
              retired = λ z. let other : j ≢ q = (λ same. let a = ap (λ (c : ℕ). get_or p.standing c 0) same in omega (arith, a, shown)) in
                  let c : count_at k.n (put k.stage r (q + 2)) (j + 2) ≡ count_at k.n k.stage (j + 2) = count_kept k.n k.stage r (q + 2) (j + 2) below (λ a. omega arith) (λ a. other (omega arith)) in let h = old.retired z in omega (arith, h, c, stays);
              free = λ z. let other : j ≢ q = (λ same. let a = ap (λ (c : ℕ). get_or p.standing c 0) same in omega (arith, a, shown)) in
                  (stays ∙ (old.free z).0, count_kept k.n k.stage r (q + 2) (j + 2) below (λ a. omega arith) (λ a. other (omega arith)) ∙ (old.free z).1);
              home = λ a c low away x at_x. let was_away : k.stage c ≢ j + 2 = dite (ℕ_discrete c r) (λ same e. let b = ap k.stage same in omega arith) (λ other e. away (put_else k.stage r (q + 2) c other ∙ e)) in
                  let there = old.home a c low was_away x at_x in let elsewhere : 32 * c + j ≢ 32 * r + q = (λ z. let jq : j ≡ q = omega arith in let cr : c ≡ r = omega arith in
                  away (ap (put k.stage r (q + 2)) cr ∙ (put_here k.stage r (q + 2) ∙ ap (λ (b : ℕ). b + 2) (sym jq)))) in
                  (there.0, set_else s.homes (32 * r + q) (32 * c + j) none elsewhere ∙ there.1, there.2);
              unused = λ z apart c low. let other : j ≢ q = (λ same. let a = ap (λ (c : ℕ). get_or p.standing c 0) same in omega (arith, a, shown)) in
                  set_else s.homes (32 * r + q) (32 * c + j) none (λ b. other (omega arith)) ∙ old.unused z apart c low;
            })
            refl
            (let c = inside_more k.n k.stage r (q + 2) below (omega arith) (omega arith) in omega (arith, c))
            (([], sym (append-nil k.made)), (k.each_seat id me.0 at).1, (below, put_here k.stage r (q + 2), known.2, (λ _. refl), top)),
        λ j is'. let same : r ≡ j = ap (reader_or 0) (sym is ∙ is') in (
          omega arith,
          (λ i. Holds (same i) (sym names i)),
          refl,
          (k.each_seat id me.0 at).0,
          (berth.0, (λ i. (32 * same i + sym names i, Some berth.0) ∷ me.1), subst (EndsWith k.made) (sym berth.2) top.2),
          k.chain,
        ),
      )

  pub leaves : (slots id : ℕ) (me : M) (r c : ℕ) (v : T) → me.0.role ≡ Holds r c → me.1 ≡ (32 * r + c, Some v) ∷ [] → EndsWith me.0.seen (state v)
      → Allows Rule slots id me (1 + c) (λ x. (x + 256) % 2 ^ 64) (left (step slots (1 + c) 256 0 none) me)
  leaves slots id me r c v is carried shows s k deep at fits = let known = plays s k id me.0 (Holds r c) at is in let below = known.0 in let was = known.1 in let p : Plan X = k.plan in let few = k.few.1 in let wide = k.wide in let deep' = k.deep in
      let top = k.inside r in let in_range : c < k.n + 2 = omega arith in let used = k.in_use r c below was in let ok = k.each_slot c in_range in let e : ℕ = get_or s.words (1 + c) 0 in let done = ok.done in
      let y : ℕ = (e + 256) % 18446744073709551616 in let homes' : Homes = set s.homes (32 * r + c) (some (Some v)) in let w : SeatView X = seat_view (Out r) me.0.seen me.0.told (me.0.moves + 1) in let leaves' : ℕ → ℕ = put k.leaves c (k.leaves c + 1) in
      let same_value = one_last me.0.seen known.4.0 (state v) known.4.2 shows in let less = count_less k.n k.stage r 1 (c + 2) below was (λ z. omega arith) in
      let zero_stays = get_or-set_other s.words (1 + c) 0 y 0 (λ z. omega arith) in let now = get_or-set_same s.words (1 + c) y 0 (omega arith) in let one_left = put_here k.leaves c (k.leaves c + 1) in (
        w,
        gives,
        tt,
        subst (λ (cs : List (ℕ × Option T)). Rule (stepped s (1 + c) y id cs w gives)) (sym carried)
            (reader_step s k r 1 (1 + c) y id homes' leaves' me.0 w at below known.2 (omega arith) (omega arith) (λ j z. absurd (omega arith)) refl (length-set s.homes (32 * r + c) (some (Some v)))
            (λ j l. let old = k.each_slot j l in dite (ℕ_discrete j c)
            (λ here. subst (SlotKept state start p k.n (set s.words (1 + c) y) homes' (put k.stage r 1) leaves') (sym here) record {
              done = omega (arith, now, done, one_left);
              live = λ z. let h = ok.live z in omega (arith, h, less, now, zero_stays);
              retired = λ z. let h = ok.retired z in omega (arith, h, less, now);
              free = λ z. absurd (omega arith);
              home = λ a i low away x at_x. dite (ℕ_discrete i r)
                  (λ mine. (
                    v,
                    subst (λ (b : ℕ). get_elem? homes' (32 * b + c) ≡ some (some (Some v))) (sym mine) (set_here s.homes (32 * r + c) (some (Some v)) (omega arith)),
                    sym same_value ∙ some-injective known.4.0 x (sym known.4.1 ∙ at_x),
                  ))
                  (λ apart. let there = ok.home a i low (λ z. away (put_else k.stage r 1 i apart ∙ z)) x at_x in
                  (there.0, set_else s.homes (32 * r + c) (32 * i + c) (some (Some v)) (λ z. apart (omega arith)) ∙ there.1, there.2));
              unused = λ z. absurd (omega arith);
            })
            (λ other. let stays = get_or-set_other s.words (1 + c) (1 + j) y 0 (λ z. other (omega arith)) in let n : count_at k.n (put k.stage r 1) (j + 2) ≡ count_at k.n k.stage (j + 2) = count_kept k.n k.stage r 1 (j + 2) below (λ z. other (omega arith)) (λ z. omega arith) in record {
              done = stays ∙ (old.done ∙ ap (λ (z : ℕ). (256 * (start + z)) % 18446744073709551616) (sym (put_else k.leaves c (k.leaves c + 1) j other)));
              live = λ here. let h = old.live here in omega (arith, h, n, stays, zero_stays);
              retired = λ z. let h = old.retired z in omega (arith, h, n, stays);
              free = λ z. (stays ∙ (old.free z).0, n ∙ (old.free z).1);
              home = λ a i low away x at_x. let was_away : k.stage i ≢ j + 2 = dite (ℕ_discrete i r) (λ same z. let b = ap k.stage same in other (omega arith)) (λ apart z. away (put_else k.stage r 1 i apart ∙ z)) in
                  let there = old.home a i low was_away x at_x in (there.0, set_else s.homes (32 * r + c) (32 * i + j) (some (Some v)) (λ z. other (omega arith)) ∙ there.1, there.2);
              unused = λ z apart i low. set_else s.homes (32 * r + c) (32 * i + j) (some (Some v)) (λ b. other (omega arith)) ∙ old.unused z apart i low;
            }))
            refl
            (let one = sum_below-at (k.n + 2) k.leaves leaves' c in_range (λ j other. put_else k.leaves c (k.leaves c + 1) j other) in let out = inside_less k.n k.stage r 1 below (omega arith) (omega arith) in omega (arith, one, out, one_left))
            ((k.each_seat id me.0 at).0, (k.each_seat id me.0 at).1, (below, put_here k.stage r 1, known.2))),
        λ i z is'. (ap (λ (a : Role X). seat_view (Out (reader_or 0 a)) me.0.seen me.0.told (me.0.moves + 1)) (sym is ∙ is'), ap rest carried),
      )

  -- the same for any word that is the done word of c
  pub leaves_at : (slots id : ℕ) (me : M) (r c : ℕ) (v : T) (i : ℕ) → i ≡ 1 + c → me.0.role ≡ Holds r c → me.1 ≡ (32 * r + c, Some v) ∷ [] → EndsWith me.0.seen (state v)
      → Allows Rule slots id me i (λ x. (x + 256) % 2 ^ 64) (left (step slots i 256 0 none) me)
  leaves_at slots id me r c v i at is carried shows = subst (λ (z : ℕ). Allows Rule slots id me z (λ x. (x + 256) % 2 ^ 64) (left (step slots z 256 0 none) me)) (sym at) (leaves slots id me r c v is carried shows)
