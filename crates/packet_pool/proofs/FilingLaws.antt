-- The lines of all threads, in the order of their packets.
use Rattle.std.proofs.Common.{◌≡◌, ◌≢◌, ⊎_elim, ℕ, zero, suc, ◌+◌, ◌-◌, ◌*◌, ◌<◌, ◌≤◌, ◌==◌, min, cond, List, [], ◌∷◌, ◌++◌, length, length-append, length-take, length-drop, take, drop, replicate, sym, refl, ap, ◌∙◌, subst, arith, Some, slice_get, slice_index, slice_index_or, slice_set, map}
use mathlib.Core.Logic.{dite}
use native.Mathlib.Decide.{ℕ_discrete, dec_lt}
use Rattle.std.proofs.lemmas.List.{get_or-map, get_or_past, get_or-set_same, get_or-set_other}
use Rattle.std.proofs.lemmas.List.Sums.{sum_by-cons, sum_by-append}
use Rattle.std.proofs.lemmas.Option.{slice_get_within}
use Rattle.std.proofs.lemmas.Bool.Decides.{nat_tests}
use Rattle.set_model.specs.declared.report.Line.{Line}
use Rattle.packet_pool.specs.Section.{by_thread}
use Rattle.packet_pool.specs.Work.{IsSplit, IsFiled, GoesOnWith, lines_of}
use Rattle.packet_pool.proofs.Lists.{get_at, get_append, get_take, get_drop}

-- the lines of the list at a place
pub lines-at : {X : Type 0} (f : X → List Line) (lists : List X) (i : ℕ) (x : X) → i < length lists → x ≡ slice_index_or lists i x → lines_of (map f lists) i ≡ f x
lines-at f lists i x l is = get_or-map f lists i x [] l ∙ ap f (sym is)

-- a list goes on with no packet if it is at its end, or if its next line is another's
pub not_at_end : (lists : List (List Line)) (next : List ℕ) (packet i : ℕ) (lines : List Line) → lines_of lists i ≡ lines → length lines ≤ slice_index next i → GoesOnWith lists next packet i → ⊥
not_at_end lists next packet i lines is end goes = let l = slice_get_within (lines_of lists i) (slice_index next i) goes.0 goes.1 in let n = ap length is in omega (arith, l, n, end)

pub not_another : (lists : List (List Line)) (next : List ℕ) (packet i : ℕ) (lines : List Line) (x : Line) → lines_of lists i ≡ lines → slice_get lines (slice_index next i) ≡ Some x → x.packet ≢ packet → GoesOnWith lists next packet i → ⊥
not_another lists next packet i lines x is at other goes = let e = ap (λ (z : List Line). slice_get z (slice_index next i)) is in let same : x ≡ goes.0 = cc (sym at ∙ sym e ∙ goes.1) in other (ap (λ (l : Line). l.packet) same ∙ goes.2)

-- lines of one thread are that thread's
by_one : (t i : ℕ) (lines : List Line) → ((k : ℕ) (l : Line) → slice_get lines k ≡ Some l → l.thread ≡ t) → by_thread i lines ≡ cond (t == i) (length lines) 0
by_one t i [] all = grind (arith, nat_tests)
by_one t i (x ∷ xs) all =
    let cons = sum_by-cons (λ (l : Line). cond (l.thread == i) 1 0) x xs in let here = all 0 x refl in let rest = by_one t i xs (λ k l e. all (suc k) l e) in counted x.thread here cons rest
  where
    counted : (u : ℕ) → u ≡ t → by_thread i (x ∷ xs) ≡ cond (u == i) 1 0 + by_thread i xs → by_thread i xs ≡ cond (t == i) (length xs) 0 → by_thread i (x ∷ xs) ≡ cond (t == i) (suc (length xs)) 0
    counted u e cons rest = grind (arith, nat_tests)

zeros : (n i : ℕ) → slice_index (replicate {A = ℕ} n 0) i ≡ 0
zeros zero i = refl
zeros (suc n) zero = refl
zeros (suc n) (suc i) = zeros n i

module _ (first count : ℕ) (lists : List (List Line)) where
  abbrev At : ℕ → ℕ → Line → Type 0
  At i k l = slice_get (lines_of lists i) k ≡ Some l

  -- list i has a line of the packet at place q
  abbrev Owns : ℕ → ℕ → Type 0
  Owns i q = (k : ℕ) × (l : Line) × At i k l × (l.packet ≡ first + q)

  -- the first k lines of list i are those before place q
  abbrev Cursor : ℕ → ℕ → ℕ → Type 0
  Cursor i k q = (m : ℕ) (l : Line) → At i m l → (m < k → l.packet < first + q) × (k ≤ m → first + q ≤ l.packet)

  -- lines so far, and how many of each list they are
  pub record IsFiledTo (lines : List Line) (next : List ℕ) : Type 0 where
    pub names : (p : ℕ) (l : Line) → slice_get lines p ≡ Some l → l.packet ≡ first + p
    pub from : (p : ℕ) (l : Line) → slice_get lines p ≡ Some l → (i : ℕ) × (k : ℕ) × At i k l
    pub cursor : (i : ℕ) → Cursor i (slice_index next i) (length lines)
    pub within : (i : ℕ) → slice_index next i ≤ length (lines_of lists i)
    pub counts : (i : ℕ) → by_thread i lines ≡ slice_index next i

  module _ (split : IsSplit first count lists) where
    -- a list that owns the packet at its cursor has it next
    head : (i k q : ℕ) → Cursor i k q → Owns i q → (l : Line) × At i k l × (l.packet ≡ first + q)
    head i k q cursor own = go (dec_lt own.0 k) (dec_lt k own.0)
      where
        same : own.0 ≡ k → (l : Line) × At i k l × (l.packet ≡ first + q)
        same e = (own.1, subst (λ (m : ℕ). At i m own.1) e own.2, own.3)

        go : Dec (own.0 < k) → Dec (k < own.0) → (l : Line) × At i k l × (l.packet ≡ first + q)
        go (yes lt) d = let c = (cursor own.0 own.1 own.2).0 lt in let e = own.3 in absurd (omega (arith, c, e))
        go (no ge) (yes gt) =
            let there = slice_get_within (lines_of lists i) own.0 own.1 own.2 in let x = get_at (lines_of lists i) k (omega (arith, gt, there)) in
            let c = (cursor k x.0 x.1).1 (omega arith) in let r = split.rising i k own.0 x.0 own.1 gt x.1 own.2 in let e = own.3 in absurd (omega (arith, c, r, e))
        go (no ge) (no le) = same (grind arith)

    -- the cursor goes on by one
    step : (i k q : ℕ) → Cursor i k q → Owns i q → Cursor i (k + 1) (q + 1)
    step i k q cursor own m l at = let h = head i k q cursor own in let e = h.2 in (
      (λ lt. dite (ℕ_discrete m k)
          (λ same. let is : l ≡ h.0 = cc (sym at ∙ ap (slice_get (lines_of lists i)) same ∙ h.1) in let p = ap (λ (x : Line). x.packet) is in omega (arith, p, e))
          (λ other. let c = (cursor m l at).0 (omega arith) in omega (arith, c))),
      λ le. let r = split.rising i k m h.0 l (omega arith) h.1 at in omega (arith, r, e),
    )

    -- and by many
    advance : (n i k q : ℕ) → Cursor i k q → ((j : ℕ) → j < n → Owns i (q + j)) → Cursor i (k + n) (q + n)
    advance zero i k q cursor own = let a : k + 0 ≡ k = omega arith in let b : q + 0 ≡ q = omega arith in subst (λ (z : ℕ × ℕ). Cursor i z.0 z.1) (λ t. (sym a t, sym b t)) cursor
    advance (suc n) i k q cursor own =
        let here : q + 0 ≡ q = omega arith in let s = step i k q cursor (subst (Owns i) here (own 0 (omega arith))) in
        let rest = advance n i (k + 1) (q + 1) s (λ j l. let same : q + suc j ≡ q + 1 + j = omega arith in subst (Owns i) same (own (suc j) (omega arith))) in
        let a : k + 1 + n ≡ k + suc n = omega arith in let b : q + 1 + n ≡ q + suc n = omega arith in subst (λ (z : ℕ × ℕ). Cursor i z.0 z.1) (λ t. (a t, b t)) rest

    -- a list that owns none of the packets stays at its place
    skip : (n i k q : ℕ) → Cursor i k q → ((j : ℕ) → j < n → Owns i (q + j) → ⊥) → Cursor i k (q + n)
    skip n i k q cursor none m l at = let c = cursor m l at in (
      (λ lt. let b = c.0 lt in omega (arith, b)),
      λ le. let b = c.1 le in let p = split.within i m l at in let e = p.2 in
          dite (dec_lt p.0 (q + n)) (λ lt. let same : q + (p.0 - q) ≡ p.0 = omega (arith, b, e) in absurd (none (p.0 - q) (omega (arith, b, e, lt)) (m, l, at, e ∙ ap (λ z. first + z) (sym same)))) (λ ge. omega (arith, e, ge)),
    )

    -- a list with a packet is one of the lists
    owner_within : (i q : ℕ) → Owns i q → i < length lists
    owner_within i q own = dite (dec_lt i (length lists)) (λ l. l) (λ past. let none = ap (λ (z : List Line). length z) (get_or_past lists i [] (omega arith)) in let l = slice_get_within (lines_of lists i) own.0 own.1 own.2 in absurd (omega (arith, none, l)))

    -- the batch that begins at a place is one list's
    batch_of : (start : ℕ) → start < count → (i : ℕ) × Owns i start × (i < length lists)
    batch_of start l = let w = split.whole start l in let own : Owns w.0 start = (w.1, w.2, w.3, w.4) in (w.0, own, owner_within w.0 start own)

    module _ (b : ℕ) (in_count : 16 * b < count) where
      abbrev size : ℕ
      size = min 16 (count - 16 * b)

      -- each packet of a batch is that list's, and no other's
      owned : (i : ℕ) → Owns i (16 * b) → (j : ℕ) → j < size → Owns i (16 * b + j)
      owned i own j l =
          let w = split.whole (16 * b + j) (omega (arith, l)) in
          let same : i ≡ w.0 = split.together i w.0 own.0 w.1 own.1 w.2 (16 * b) (16 * b + j) own.2 w.3 own.3 w.4 (omega (arith, l)) in
          subst (λ x. Owns x (16 * b + j)) (sym same) (w.1, w.2, w.3, w.4)

      alone : (i other : ℕ) → Owns i (16 * b) → other ≢ i → (j : ℕ) → j < size → Owns other (16 * b + j) → ⊥
      alone i other own apart j l theirs = apart (split.together other i theirs.0 own.0 theirs.1 own.1 (16 * b + j) (16 * b) theirs.2 own.2 theirs.3 own.3 (omega (arith, l)))

      module _ (lines : List Line) (next : List ℕ) (filed : IsFiledTo lines next) (so_far : length lines ≡ 16 * b) where
        cursor_at : (i : ℕ) → Cursor i (slice_index next i) (16 * b)
        cursor_at i = subst (Cursor i (slice_index next i)) so_far (filed.cursor i)

        -- the batch's list goes on with its first packet
        pub goes_on : (i : ℕ) × (i < length lists) × GoesOnWith lists next (first + 16 * b) i
        goes_on = let w = batch_of (16 * b) in_count in let h = head w.0 (slice_index next w.0) (16 * b) (cursor_at w.0) w.1 in (w.0, w.2, h)

        module _ (i : ℕ) (on : GoesOnWith lists next (first + 16 * b) i) where
          own : Owns i (16 * b)
          own = (slice_index next i, on.0, on.1, on.2)

          -- its next lines are the batch's
          line : (j : ℕ) → j < size → (l : Line) × At i (slice_index next i + j) l × (l.packet ≡ first + (16 * b + j))
          line j l = head i (slice_index next i + j) (16 * b + j) (advance j i (slice_index next i) (16 * b) (cursor_at i) (λ m lt. owned i own m (omega arith))) (owned i own j l)

          -- as many are there
          pub batch_fits : slice_index next i + size ≤ length (lines_of lists i)
          batch_fits = let last = line (size - 1) (omega arith) in let l = slice_get_within (lines_of lists i) (slice_index next i + (size - 1)) last.0 last.1 in omega (arith, l)

          abbrev batch : List Line
          batch = take size (drop (slice_index next i) (lines_of lists i))

          pub batch_length : length batch ≡ size
          batch_length = let f = batch_fits in omega (arith, length-take size (drop (slice_index next i) (lines_of lists i)), length-drop (slice_index next i) (lines_of lists i), f)

          batch_line : (j : ℕ) (l : Line) → slice_get batch j ≡ Some l → (j < size) × At i (slice_index next i + j) l
          batch_line j l e = let t = get_take size (drop (slice_index next i) (lines_of lists i)) j l e in (t.0, get_drop (slice_index next i) (lines_of lists i) j l t.1)

          -- the lines with the batch after them
          pub filed_more : i < length next → IsFiledTo (lines ++ batch) (slice_set next i (slice_index next i + size))
          filed_more in_next =
              let long : length (lines ++ batch) ≡ 16 * b + size = omega (arith, length-append lines batch, batch_length, so_far) in
              let here : slice_index (slice_set next i (slice_index next i + size)) i ≡ slice_index next i + size = get_or-set_same next i (slice_index next i + size) 0 in_next in
              let there : (k : ℕ) → k ≢ i → slice_index (slice_set next i (slice_index next i + size)) k ≡ slice_index next k = λ k other. get_or-set_other next i k (slice_index next i + size) 0 other in record {
                names = λ p l e. ⊎_elim (λ (t : slice_get lines p ≡ Some l). filed.names p l t)
                    (λ (t : (j : ℕ) × (p ≡ length lines + j) × (slice_get batch j ≡ Some l)). let x = batch_line t.0 l t.2 in let y = line t.0 x.0 in
                    let same : l ≡ y.0 = cc (sym x.1 ∙ y.1) in let n = ap (λ (z : Line). z.packet) same in let m = y.2 in let at = t.1 in omega (arith, n, m, at, so_far))
                    (get_append lines batch p l e);
                from = λ p l e. ⊎_elim (λ (t : slice_get lines p ≡ Some l). filed.from p l t)
                    (λ (t : (j : ℕ) × (p ≡ length lines + j) × (slice_get batch j ≡ Some l)). (i, slice_index next i + t.0, (batch_line t.0 l t.2).1))
                    (get_append lines batch p l e);
                cursor = λ k. subst (Cursor k (slice_index (slice_set next i (slice_index next i + size)) k)) (sym long) (dite (ℕ_discrete k i)
                    (λ same. subst (λ (z : ℕ × ℕ). Cursor z.0 z.1 (16 * b + size)) (λ t. (sym same t, (sym here ∙ ap (slice_index (slice_set next i (slice_index next i + size))) (sym same)) t))
                    (advance size i (slice_index next i) (16 * b) (cursor_at i) (owned i own)))
                    (λ other. subst (λ z. Cursor k z (16 * b + size)) (sym (there k other)) (skip size k (slice_index next k) (16 * b) (cursor_at k) (alone i k own other))));
                within = λ k. dite (ℕ_discrete k i)
                    (λ same. subst (λ z. slice_index (slice_set next i (slice_index next i + size)) z ≤ length (lines_of lists z)) (sym same) (let f = batch_fits in omega (arith, here, f)))
                    (λ other. let w = filed.within k in let t = there k other in omega (arith, w, t));
                counts = λ k. let a = sum_by-append (λ (l : Line). cond (l.thread == k) 1 0) lines batch in let was = filed.counts k in
                    let one = by_one i k batch (λ j l e. let x = batch_line j l e in split.thread_is i (slice_index next i + j) l x.1) in
                    dite (ℕ_discrete k i)
                    (λ same. let mine : by_thread k batch ≡ size = one ∙ grind (arith, nat_tests, batch_length, same) in
                    a ∙ omega (arith, was, mine, ap (slice_index next) same) ∙ (sym here ∙ ap (slice_index (slice_set next i (slice_index next i + size))) (sym same)))
                    (λ other. let none : by_thread k batch ≡ 0 = one ∙ grind (arith, nat_tests, other) in omega (arith, a, was, none, there k other));
              }

    -- nothing is filed at the start
    pub filed_none : (n : ℕ) → IsFiledTo [] (replicate n 0)
    filed_none n = record {
      names = λ p l e. absurd (cc);
      from = λ p l e. absurd (cc);
      cursor = λ i m l at. let nought = zeros n i in (
        (λ lt. absurd (omega (arith, lt, nought))),
        λ le. let p = split.within i m l at in let e = p.2 in omega (arith, e),
      );
      within = λ i. let nought = zeros n i in omega (arith, nought);
      counts = λ i. sym (zeros n i);
    }

    -- at the end each list is filed whole
    pub filed_all : (lines : List Line) (next : List ℕ) → IsFiledTo lines next → length lines ≡ count → IsFiled first count lists lines
    filed_all lines next filed long = record {
      size = long;
      names = filed.names;
      from = filed.from;
      counts = λ i. let was = filed.counts i in let most = filed.within i in dite (dec_lt (slice_index next i) (length (lines_of lists i)))
          (λ l. let x = get_at (lines_of lists i) (slice_index next i) l in let late = (filed.cursor i (slice_index next i) x.0 x.1).1 (omega arith) in let p = split.within i (slice_index next i) x.0 x.1 in
          let lt = p.1 in let e = p.2 in absurd (omega (arith, late, lt, e, long)))
          (λ past. omega (arith, was, most, past));
    }
