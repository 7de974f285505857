-- Each kind of step keeps the rule of the counter.
use Rattle.std.proofs.Common.{◌≡◌, ◌≢◌, ◌⊎◌, ℕ, zero, suc, ◌+◌, ◌-◌, ◌%◌, ◌^◌, ◌<◌, ◌≤◌, ◌==◌, cond, List, [], ◌∷◌, ◌++◌, get_or, set, sym, refl, ap, ◌∙◌, subst, ⊎_elim, arith, length-set, get_or-set_same, inl, inr}
use mathlib.Core.Logic.{dite}
use native.Mathlib.Decide.{dec_lt}
use mathlib.Core.Option.{some, none, some-injective, some-ne-none}
use lib.ListN.{get_elem?}
use lib.Seq.{set-get_or}
use Rattle.std.specs.List.{sum_by}
use Rattle.std.proofs.lemmas.List.Sums.{sum_by-cons, sum_by_push, sum_by-append, get_or-le-sum_by}
use Rattle.std.proofs.lemmas.Bool.Decides.{nat_tests}
use Rattle.atomic_table.specs.Table.{State, Me, step, keeps, Allows, Splits, Joins, opening}
use Rattle.atomic_table.proofs.Lists.{at_set, at_snoc, set_again}
use Rattle.history_laws.proofs.Views.{views_stay, entry_read, sum_by-view_set}
use Rattle.packet_pool.specs.declared.counter.Hand.{Hand}
use Rattle.packet_pool.specs.Draws.{times, once_below, hand, Sits, Kept, drew, counted}

pub times-append : (x : ℕ) (ys zs : List ℕ) → times x (ys ++ zs) ≡ times x ys + times x zs
times-append x ys zs = sum_by-append (λ y. cond (y == x) 1 0) ys zs

pub times-push : (x n : ℕ) (ys : List ℕ) → times x (ys ++ n ∷ []) ≡ times x ys + cond (n == x) 1 0
times-push x n ys = sum_by_push (λ y. cond (y == x) 1 0) ys n

-- what one view has is within the sum over all
pub sum_by-at : (f : Hand → ℕ) (vs : List Hand) (j : ℕ) (v : Hand) → get_elem? vs j ≡ some v → f v ≤ sum_by f vs
sum_by-at f vs j v e = let r = entry_read vs j v e in subst (λ (z : Hand). f z ≤ sum_by f vs) r.1 (get_or-le-sum_by f vs j v r.0)

pub sums_within : (f g : Hand → ℕ) (vs : List Hand) → ((j : ℕ) (v : Hand) → get_elem? vs j ≡ some v → f v ≤ g v) → sum_by f vs ≤ sum_by g vs
sums_within f g [] h = omega arith
sums_within f g (x ∷ xs) h =
    let a = sum_by-cons f x xs in let b = sum_by-cons g x xs in let here = h 0 x refl in
    let rest = sums_within f g xs (λ j v e. h (suc j) v e) in omega (arith, a, b, here, rest)

-- If no seat represents a worker, nobody has a number that idle seats don't have.
sum_none : (f : Hand → ℕ) (vs : List Hand) → sum_by (λ u. u.workers) vs ≡ 0 → ((i : ℕ) (u : Hand) → get_elem? vs i ≡ some u → u.workers ≡ 0 → f u ≡ 0) → sum_by f vs ≡ 0
sum_none f [] nobody idle = refl
sum_none f (x ∷ xs) nobody idle =
    let a = sum_by-cons (λ (u : Hand). u.workers) x xs in let b = sum_by-cons f x xs in
    let here = idle 0 x refl (omega (arith, a, nobody)) in
    let rest = sum_none f xs (omega (arith, a, nobody)) (λ i u e. idle (suc i) u e) in omega (arith, b, here, rest)

-- The seat that represents all workers has all numbers that any seat has.
sum_whole : (f : Hand → ℕ) (vs : List Hand) (j : ℕ) (v : Hand) → get_elem? vs j ≡ some v → sum_by (λ u. u.workers) vs ≡ v.workers
    → ((i : ℕ) (u : Hand) → get_elem? vs i ≡ some u → u.workers ≡ 0 → f u ≡ 0) → sum_by f vs ≡ f v
sum_whole f [] j v e all idle = absurd (some-ne-none v (sym e))
sum_whole f (x ∷ xs) zero v e all idle =
    let same = some-injective x v e in let a = sum_by-cons (λ (u : Hand). u.workers) x xs in let b = sum_by-cons f x xs in
    let w = ap (λ (u : Hand). u.workers) same in let g = ap f same in
    let rest = sum_none f xs (omega (arith, a, w, all)) (λ i u e. idle (suc i) u e) in omega (arith, b, g, rest)
sum_whole f (x ∷ xs) (suc j) v e all idle =
    let a = sum_by-cons (λ (u : Hand). u.workers) x xs in let b = sum_by-cons f x xs in let most = sum_by-at (λ (u : Hand). u.workers) xs j v e in
    let here = idle 0 x refl (omega (arith, a, most, all)) in
    let rest = sum_whole f xs j v e (omega (arith, a, most, all)) (λ i u e. idle (suc i) u e) in omega (arith, b, here, rest)

pub below : (x n : ℕ) → 0 < once_below x n → x < n
below x n h = grind (arith, nat_tests)

one_more : (x n : ℕ) → once_below x n + cond (n == x) 1 0 ≡ once_below x (n + 1)
one_more x n = grind (arith, nat_tests)

-- the number drawn last is among those drawn
pub times_last : (n : ℕ) (xs : List ℕ) → 0 < times n (xs ++ n ∷ [])
times_last n xs = let a = times-push n n xs in let one : ◌≡◌ {A = ℕ} (cond (n == n) 1 0) 1 = grind (arith, nat_tests) in omega (arith, a, one)

-- a number that is drawn later is at least one more than the last
pub rises : (least n : ℕ) (xs : List ℕ) → (0 < least → 0 < times (least - 1) xs) → ((x : ℕ) → 0 < times x xs → x < n) → least ≤ n
rises zero n xs last later = omega arith
rises (suc k) n xs last later = let same : suc k - 1 ≡ k = omega arith in let below = later k (subst (λ x. 0 < times x xs) same (last (omega arith))) in omega (arith, below)

module _ (batches workers : ℕ) where
  abbrev Rule : State ℕ Hand → Type 0
  Rule = Kept batches workers

  -- the word is past the batches by at most the workers
  pub word_most : (s : State ℕ Hand) → Rule s → get_or s.words 0 0 ≤ batches + workers
  word_most s k = let few = k.few_past in let whole = k.whole in let less = sums_within (λ v. v.past) (λ v. v.workers) s.views (λ j v e. (k.each_seat j v e).few_past) in omega arith

  first_seat : (j : ℕ) (v : Hand) → get_elem? (hand workers batches [] 0 ∷ []) j ≡ some v → hand workers batches [] 0 ≡ v
  first_seat zero v e = some-injective _ v e
  first_seat (suc j) v e = absurd (some-ne-none v (sym e))

  -- the counter at 0
  pub opens : batches + workers < 2 ^ 64 → Rule (opening (0 ∷ []) [] (hand workers batches [] 0))
  opens room = record {
    one_word = refl;
    room = room;
    whole = omega arith;
    once = λ x. grind (arith, nat_tests);
    few_past = omega arith;
    each_seat = λ j v e. let only = first_seat j v e in subst (Sits batches) only (record { few_past = omega arith; idle = λ _. refl; told = λ _. refl });
  }

  -- how many more are past the batches
  passed : (n past : ℕ) → (p : ℕ) × (p ≤ past + 1) × (past ≤ p) × (n < batches → p ≡ past) × (n < batches ⊎ (p ≡ past + 1))
  passed n past = dite (dec_lt n batches) (λ l. (past, omega arith, omega arith, (λ _. refl), inl l)) (λ non. (past + 1, omega arith, omega arith, (λ l. absurd (non l)), inr refl))

  pub draws : (slots id : ℕ) (me : Me ℕ Hand) → me.0.past < me.0.workers → Allows Rule slots id me 0 (λ n. (n + 1) % 2 ^ 64) (drew (step slots 0 1 0 none) me)
  draws slots id me free s k deep at fits =
      let mine = k.each_seat id me.0 at in let n : ℕ = get_or s.words 0 0 in let p = passed n me.0.past in
      let w : Hand = hand me.0.workers me.0.batches (me.0.drawn ++ n ∷ []) p.0 in let now : List Hand = set s.views id w in
      let in_range = p.1 in let rises = p.4 in
      let seats : (j : ℕ) (v : Hand) → get_elem? now j ≡ some v → Sits batches v =
      views_stay (λ _. Sits batches) s.views id w (record { few_past = omega arith; idle = λ nobody. absurd (omega arith); told = mine.told }) (λ j v _. k.each_seat j v) in
      let workers_now = sum_by-view_set (λ (v : Hand). v.workers) s.views id me.0 w at in let past_now = sum_by-view_set (λ (v : Hand). v.past) s.views id me.0 w at in
      let whole = k.whole in let few = k.few_past in let room = k.room in
      let less = sums_within (λ v. v.past) (λ v. v.workers) now (λ j v e. (seats j v e).few_past) in
      let bound : n + 1 ≤ batches + sum_by (λ v. v.past) now = ⊎_elim (λ (l : n < batches). omega arith) (λ (e : p.0 ≡ me.0.past + 1). omega arith) rises in
      let next : ℕ = (n + 1) % 2 ^ 64 in
      let word : get_or (set s.words 0 next) 0 0 ≡ n + 1 = get_or-set_same s.words 0 next 0 (let o = k.one_word in omega arith) ∙ omega arith in (
        w,
        keeps,
        tt,
        record {
          one_word = length-set s.words 0 next ∙ k.one_word;
          room = k.room;
          whole = omega arith;
          once = λ x.
              let t = sum_by-view_set (λ (v : Hand). times x v.drawn) s.views id me.0 w at in let a = times-push x n me.0.drawn in let b = k.once x in let c = one_more x n in
              omega (arith, t, a, b, c) ∙ ap (once_below x) (sym word);
          few_past = omega (arith, word, bound);
          each_seat = seats;
        },
        (refl, (p.0, refl, (λ l. p.3 (subst (λ (c : ℕ). n < c) (mine.told (omega arith)) l))), (λ x l. below x n (let t = sum_by-at (λ v. times x v.drawn) s.views id me.0 at in let e = k.once x in omega (arith, t, e, l)))),
      )

  pub deals : (id : ℕ) (v : Hand) → 0 < v.workers → v.drawn ≡ [] → v.past ≡ 0 → Splits Rule id v (hand (v.workers - 1) v.batches v.drawn v.past) (hand 1 v.batches [] 0)
  deals id v some_worker blank unpast s k at =
      let mine = k.each_seat id v at in let l : Hand = hand (v.workers - 1) v.batches v.drawn v.past in let r : Hand = hand 1 v.batches [] 0 in
      let sum : (f : Hand → ℕ) → f l + f r ≡ f v → sum_by f (set s.views id l ++ r ∷ []) ≡ sum_by f s.views =
      (λ f e. let a = sum_by-view_set f s.views id v l at in let b = sum_by_push f (set s.views id l) r in omega (arith, a, b, e)) in record {
        one_word = k.one_word;
        room = k.room;
        whole = sum (λ u. u.workers) (omega arith) ∙ k.whole;
        once = λ x. sum (λ u. times x u.drawn) (omega arith) ∙ k.once x;
        few_past = let a = sum (λ u. u.past) (omega arith) in let b = k.few_past in omega (arith, a, b);
        each_seat = λ j d e. ⊎_elim
            (views_stay (λ _. Sits batches) s.views id l (record { few_past = omega arith; idle = λ _. blank; told = λ _. mine.told some_worker }) (λ i x _. k.each_seat i x) j d)
            (λ (t : r ≡ d). subst (Sits batches) t (record { few_past = omega arith; idle = λ _. refl; told = λ _. mine.told some_worker }))
            (at_snoc (set s.views id l) r d j e);
      }

  pub gathers : (id : ℕ) (v : Hand) (other : ℕ) (w : Hand) → 0 < w.workers → Joins Rule id v other w (hand (v.workers + w.workers) w.batches (v.drawn ++ w.drawn) (v.past + w.past)) (hand 0 0 [] 0)
  gathers id v other w some_worker s k at apart there =
      let mine = k.each_seat id v at in let both : Hand = hand (v.workers + w.workers) w.batches (v.drawn ++ w.drawn) (v.past + w.past) in let spent : Hand = hand 0 0 [] 0 in
      let theirs = ⊎_elim (λ (t : (other ≡ id) × (both ≡ w)). absurd (apart t.0)) (λ (t : (other ≢ id) × (get_elem? s.views other ≡ some w)). k.each_seat other w t.1) (at_set s.views id other both w there) in
      let sum : (f : Hand → ℕ) → f both + f spent ≡ f v + f w → sum_by f (set (set s.views id both) other spent) ≡ sum_by f s.views =
      (λ f e. let a = sum_by-view_set f s.views id v both at in let b = sum_by-view_set f (set s.views id both) other w spent there in omega (arith, a, b, e)) in record {
        one_word = k.one_word;
        room = k.room;
        whole = sum (λ u. u.workers) (omega arith) ∙ k.whole;
        once = λ x. sum (λ u. times x u.drawn) (let a = times-append x v.drawn w.drawn in omega (arith, a)) ∙ k.once x;
        few_past = let a = sum (λ u. u.past) (omega arith) in let b = k.few_past in omega (arith, a, b);
        each_seat = views_stay (λ _. Sits batches) (set s.views id both) other spent (record { few_past = omega arith; idle = λ _. refl; told = λ l. absurd (omega arith) })
            (λ j d _. views_stay (λ _. Sits batches) s.views id both
            (record { few_past = (let a = mine.few_past in let b = theirs.few_past in omega (arith, a, b)); idle = λ nobody. absurd (omega arith); told = λ _. theirs.told some_worker }) (λ i x _. k.each_seat i x) j d);
      }

  pub counts : (slots id : ℕ) (me : Me ℕ Hand) → me.0.workers ≡ workers → Allows Rule slots id me 0 (λ n. n) (counted (step slots 0 0 0 none) me)
  counts slots id me all s k deep at fits = (
    me.0,
    keeps,
    tt,
    subst (λ (ws : List ℕ). Rule record { words = ws; homes = s.homes; views = set s.views id me.0 }) (sym (set-get_or s.words 0 0))
        (subst (λ (vs : List Hand). Rule record { words = s.words; homes = s.homes; views = vs }) (sym (set_again s.views id me.0 at)) k),
    (λ x. sym (sum_whole (λ v. times x v.drawn) s.views id me.0 at (k.whole ∙ sym all) (λ i u e nobody. ap (times x) ((k.each_seat i u e).idle nobody))) ∙ k.once x),
  )
