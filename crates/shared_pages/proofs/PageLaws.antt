-- The items of whole pages, one page after another, and then the items of the last page. Who owns
-- the pages.
use Rattle.std.proofs.Common.{◌≡◌, refl, sym, ◌∙◌, ap, ℕ, zero, suc, ◌+◌, ◌-◌, ◌*◌, ◌/◌, ◌%◌, ◌<◌, ◌≤◌, List, [], ◌∷◌, ◌++◌, length, get_or, map, true, false, All, take, drop, arith, length-append, append_assoc, slice_get, Some, flat_map, ◌⊎◌, inl, inr}
use Rattle.std.specs.Prelude.{insert, remove}
use Rattle.std.proofs.lemmas.Bool.{cases_lt}
use Rattle.std.proofs.Math.ListN.{set}
use Rattle.std.proofs.lemmas.List.{get_or_append_left, get_or-append_right, set-append_left, set-append_right, take-append-le, take-append-drop}
use Rattle.std.proofs.Math.Seq.{take-append-add}
use Rattle.std.proofs.lemmas.List.Edits.{insert-append_left, insert-append_right, length-remove}
use Rattle.std.proofs.lemmas.List.Elements.{All-nil, All-cons, All-head, All-tail}
use Rattle.std.proofs.lemmas.Option.{slice_get_read, slice_get_within, get_or_from_slice_get}
use Rattle.shared_pages.specs.Paged.{PageOf, items_in, owns_of, IsWhole, IsPaged, AreOwn, AreCommon}

module _ {X : Type 0} where
  -- ---- one page first

  first : (l : PageOf X) (ls : List (PageOf X)) (last : List X) → items_in (l ∷ ls) last ≡ l.items ++ items_in ls last
  first l ls last = append_assoc l.items (flat_map (λ m. m.items) ls) last

  pub items-length : (pages : List (PageOf X)) (last : List X) → All IsWhole pages → length (items_in pages last) ≡ 512 * length pages + length last
  items-length [] last whole = omega arith
  items-length (l ∷ ls) last whole =
      let w : length l.items ≡ 512 = (All-head IsWhole l ls whole).whole in
      let h : length (items_in ls last) ≡ 512 * length ls + length last = items-length ls last (All-tail IsWhole l ls whole) in
      let e : length (items_in (l ∷ ls) last) ≡ length l.items + length (items_in ls last) = ap length (first l ls last) ∙ length-append l.items (items_in ls last) in
      omega arith

  -- a list in pages has as many items as it counts
  pub items_counted : (pages : List (PageOf X)) (last : List X) (len : ℕ) → IsPaged pages last len → length (items_in pages last) ≡ len
  items_counted pages last len paged = omega (arith, items-length pages last paged.whole, paged.counted)

  page-get : (pages : List (PageOf X)) (last : List X) (p k i : ℕ) (m : PageOf X) (d : X) → All IsWhole pages → p < length pages → k < 512 → i ≡ 512 * p + k
      → get_or (items_in pages last) i d ≡ get_or (get_or pages p m).items k d
  page-get [] last p k i m d whole h j e = absurd (omega arith)
  page-get (l ∷ ls) last zero k i m d whole h j e =
      let w : length l.items ≡ 512 = (All-head IsWhole l ls whole).whole in
      let same : i ≡ k = omega arith in
      rw same (ap (λ xs. get_or xs k d) (first l ls last) ∙ get_or_append_left l.items (items_in ls last) d k (omega arith))
  page-get (l ∷ ls) last (suc p) k i m d whole h j e =
      let w : length l.items ≡ 512 = (All-head IsWhole l ls whole).whole in
      ap (λ xs. get_or xs i d) (first l ls last) ∙ get_or-append_right l.items (items_in ls last) 512 i d w (omega arith)
      ∙ page-get ls last p k (i - 512) m d (All-tail IsWhole l ls whole) (omega arith) j (omega arith)

  page-set : (pages : List (PageOf X)) (last : List X) (p k i : ℕ) (m n : PageOf X) (x : X) → All IsWhole pages → p < length pages → k < 512 → i ≡ 512 * p + k
      → n.items ≡ set (get_or pages p m).items k x → items_in (set pages p n) last ≡ set (items_in pages last) i x
  page-set [] last p k i m n x whole h j e changed = absurd (omega arith)
  page-set (l ∷ ls) last zero k i m n x whole h j e changed =
      let w : length l.items ≡ 512 = (All-head IsWhole l ls whole).whole in
      let same : i ≡ k = omega arith in
      first n ls last ∙ ap (λ xs. xs ++ items_in ls last) changed ∙ sym (set-append_left l.items (items_in ls last) k x (omega arith))
      ∙ ap (λ j. set (l.items ++ items_in ls last) j x) (sym same) ∙ ap (λ xs. set xs i x) (sym (first l ls last))
  page-set (l ∷ ls) last (suc p) k i m n x whole h j e changed =
      let w : length l.items ≡ 512 = (All-head IsWhole l ls whole).whole in
      first l (set ls p n) last
      ∙ ap (λ xs. l.items ++ xs) (page-set ls last p k (i - 512) m n x (All-tail IsWhole l ls whole) (omega arith) j (omega arith) changed)
      ∙ sym (set-append_right l.items (items_in ls last) 512 i x w (omega arith)) ∙ ap (λ xs. set xs i x) (sym (first l ls last))

  -- ---- the last

  last-get : (pages : List (PageOf X)) (last : List X) (i : ℕ) (d : X) → All IsWhole pages → 512 * length pages ≤ i
      → get_or (items_in pages last) i d ≡ get_or last (i - 512 * length pages) d
  last-get [] last i d whole h = let e : i - 512 * length {A = PageOf X} [] ≡ i = omega arith in ap (λ j. get_or last j d) (sym e)
  last-get (l ∷ ls) last i d whole h =
      let w : length l.items ≡ 512 = (All-head IsWhole l ls whole).whole in
      let e : (i - 512) - 512 * length ls ≡ i - 512 * length (l ∷ ls) = omega arith in
      ap (λ xs. get_or xs i d) (first l ls last) ∙ get_or-append_right l.items (items_in ls last) 512 i d w (omega arith)
      ∙ last-get ls last (i - 512) d (All-tail IsWhole l ls whole) (omega arith) ∙ ap (λ j. get_or last j d) e

  pub last-set : (pages : List (PageOf X)) (last : List X) (i : ℕ) (x : X) → All IsWhole pages → 512 * length pages ≤ i
      → items_in pages (set last (i - 512 * length pages) x) ≡ set (items_in pages last) i x
  last-set [] last i x whole h = let e : i - 512 * length {A = PageOf X} [] ≡ i = omega arith in ap (λ j. set last j x) e
  last-set (l ∷ ls) last i x whole h =
      let w : length l.items ≡ 512 = (All-head IsWhole l ls whole).whole in
      let e : i - 512 * length (l ∷ ls) ≡ (i - 512) - 512 * length ls = omega arith in
      ap (λ j. items_in (l ∷ ls) (set last j x)) e ∙ first l ls (set last ((i - 512) - 512 * length ls) x)
      ∙ ap (λ xs. l.items ++ xs) (last-set ls last (i - 512) x (All-tail IsWhole l ls whole) (omega arith))
      ∙ sym (set-append_right l.items (items_in ls last) 512 i x w (omega arith)) ∙ ap (λ xs. set xs i x) (sym (first l ls last))

  -- ---- a place by its page

  pub read-page : (pages : List (PageOf X)) (last : List X) (i : ℕ) (m : PageOf X) (x : X) → All IsWhole pages → i / 512 < length pages
      → x ≡ get_or (get_or pages (i / 512) m).items (i % 512) x → slice_get (items_in pages last) i ≡ Some x
  read-page pages last i m x whole h e =
      let within : i < length (items_in pages last) = omega (arith, items-length pages last whole) in
      let split : i ≡ 512 * (i / 512) + i % 512 = omega arith in
      slice_get_read (items_in pages last) (length (items_in pages last)) i x refl within
      (e ∙ sym (page-get pages last (i / 512) (i % 512) i m x whole h (omega arith) split))

  pub read-last : (pages : List (PageOf X)) (last : List X) (i : ℕ) (x : X) → All IsWhole pages → length pages ≤ i / 512
      → slice_get last (i - 512 * length pages) ≡ Some x → slice_get (items_in pages last) i ≡ Some x
  read-last pages last i x whole h e =
      let len = items-length pages last whole in
      let inside = slice_get_within last (i - 512 * length pages) x e in
      slice_get_read (items_in pages last) (length (items_in pages last)) i x refl (omega arith)
      (sym (last-get pages last i x whole (omega arith) ∙ get_or_from_slice_get last (i - 512 * length pages) x x e))

  pub set-page : (pages : List (PageOf X)) (last : List X) (i : ℕ) (m n : PageOf X) (x : X) → All IsWhole pages → i / 512 < length pages
      → n.items ≡ set (get_or pages (i / 512) m).items (i % 512) x → items_in (set pages (i / 512) n) last ≡ set (items_in pages last) i x
  set-page pages last i m n x whole h changed =
      let split : i ≡ 512 * (i / 512) + i % 512 = omega arith in
      page-set pages last (i / 512) (i % 512) i m n x whole h (omega arith) split changed

  -- ---- a page more, and one less

  pub one-more : (pages : List (PageOf X)) (page : PageOf X) (last : List X) → items_in (pages ++ page ∷ []) last ≡ items_in pages page.items ++ last
  one-more [] page last = append_assoc page.items [] last
  one-more (l ∷ ls) page last =
      first l (ls ++ page ∷ []) last ∙ ap (λ xs. l.items ++ xs) (one-more ls page last)
      ∙ sym (append_assoc l.items (items_in ls page.items) last) ∙ ap (λ xs. xs ++ last) (sym (first l ls page.items))

  -- ---- pages once more

  pub copied : (xs ys : List (PageOf X)) (last : List X) → map (λ l. l.items) xs ≡ map (λ l. l.items) ys → items_in xs last ≡ items_in ys last
  copied [] [] last e = refl
  copied [] (y ∷ ys) last e = cc
  copied (x ∷ xs) [] last e = cc
  copied (x ∷ xs) (y ∷ ys) last e =
      let a : x.items ≡ y.items = cc in
      let b : map (λ l. l.items) xs ≡ map (λ l. l.items) ys = cc in
      first x xs last ∙ ap (λ s. s ++ items_in xs last) a ∙ ap (λ s. y.items ++ s) (copied xs ys last b) ∙ sym (first y ys last)

  pub copied-length : (xs ys : List (PageOf X)) → map (λ l. l.items) xs ≡ map (λ l. l.items) ys → length xs ≡ length ys
  copied-length [] [] e = refl
  copied-length [] (y ∷ ys) e = cc
  copied-length (x ∷ xs) [] e = cc
  copied-length (x ∷ xs) (y ∷ ys) e = let b : map (λ l. l.items) xs ≡ map (λ l. l.items) ys = cc in ap suc (copied-length xs ys b)

  pub copied-whole : (xs ys : List (PageOf X)) → map (λ l. l.items) xs ≡ map (λ l. l.items) ys → All IsWhole ys → All IsWhole xs
  copied-whole [] [] e whole = All-nil IsWhole
  copied-whole [] (y ∷ ys) e whole = cc
  copied-whole (x ∷ xs) [] e whole = cc
  copied-whole (x ∷ xs) (y ∷ ys) e whole =
      let a : x.items ≡ y.items = cc in
      let b : map (λ l. l.items) xs ≡ map (λ l. l.items) ys = cc in
      All-cons IsWhole x xs (record { whole = ap length a ∙ (All-head IsWhole y ys whole).whole }) (copied-whole xs ys b (All-tail IsWhole y ys whole))

  pub same-list : (xs ys : List (PageOf X)) (last kept : List X) → map (λ l. l.items) xs ≡ map (λ l. l.items) ys → last ≡ kept → items_in xs last ≡ items_in ys kept
  same-list xs ys last kept e f = ap (λ t. items_in xs t) f ∙ copied xs ys kept e

  pub same-paged : (xs ys : List (PageOf X)) (last kept : List X) (len : ℕ) → map (λ l. l.items) xs ≡ map (λ l. l.items) ys → last ≡ kept → IsPaged ys kept len → IsPaged xs last len
  same-paged xs ys last kept len e f paged =
      let n : length xs ≡ length ys = copied-length xs ys e in
      let m : length last ≡ length kept = ap length f in
      record {
        whole = copied-whole xs ys e paged.whole;
        within = omega (arith, paged.within);
        filled = λ z. n ∙ paged.filled (sym m ∙ z);
        counted = omega (arith, paged.counted);
      }

  pub same-items : (pages : List (PageOf X)) (p : ℕ) (m n : PageOf X) → m ≡ get_or pages p m → n.items ≡ m.items → map (λ l. l.items) (set pages p n) ≡ map (λ l. l.items) pages
  same-items [] p m n at e = refl
  same-items (l ∷ ls) zero m n at e = ap (λ xs. xs ∷ map (λ l. l.items) ls) (e ∙ ap (λ z. z.items) at)
  same-items (l ∷ ls) (suc p) m n at e = ap (λ xs. l.items ∷ xs) (same-items ls p m n at e)

  -- ---- whose the pages are

  pub kept-own : (pages : List (PageOf X)) (p : ℕ) (n : PageOf X) → n.own ≡ true → (k : ℕ) → get_or (owns_of pages) k true ≡ true → get_or (owns_of (set pages p n)) k true ≡ true
  kept-own [] p n e k h = h
  kept-own (l ∷ ls) zero n e zero h = e
  kept-own (l ∷ ls) zero n e (suc k) h = h
  kept-own (l ∷ ls) (suc p) n e zero h = h
  kept-own (l ∷ ls) (suc p) n e (suc k) h = kept-own ls p n e k h

  pub own-read : (pages : List (PageOf X)) (p : ℕ) (m : PageOf X) → p < length pages → get_or (owns_of pages) p true ≡ true → (get_or pages p m).own ≡ true
  own-read [] p m h e = absurd (omega arith)
  own-read (l ∷ ls) zero m h e = e
  own-read (l ∷ ls) (suc p) m h e = own-read ls p m (omega arith) e

  pub own-so-far : (pages : List (PageOf X)) (from p : ℕ) (n : PageOf X) → p < length pages → n.own ≡ true
      → ((j : ℕ) → from ≤ j → j < p → get_or (owns_of pages) j true ≡ true) → (j : ℕ) → from ≤ j → j < p + 1 → get_or (owns_of (set pages p n)) j true ≡ true
  own-so-far [] from p n h e before j f g = absurd (omega arith)
  own-so-far (l ∷ ls) from zero n h e before zero f g = e
  own-so-far (l ∷ ls) from zero n h e before (suc j) f g = absurd (omega arith)
  own-so-far (l ∷ ls) from (suc p) n h e before zero f g = before zero f (omega arith)
  own-so-far (l ∷ ls) from (suc p) n h e before (suc j) f g =
      own-so-far ls (from - 1) p n (omega arith) e (λ k a b. before (suc k) (omega arith) (omega arith)) j (omega arith) (omega arith)

  pub common-none : (pages : List (PageOf X)) → AreCommon 0 pages
  common-none pages = record { common = λ k h. absurd (omega arith) }

  pub common-so-far : (pages : List (PageOf X)) (p : ℕ) (n : PageOf X) → p < length pages → n.own ≡ false → AreCommon p pages → AreCommon (p + 1) (set pages p n)
  common-so-far pages p n h e before = record { common = λ k l. go pages p k h l (λ j m. before.common j m) } where
    go : (pages : List (PageOf X)) (p k : ℕ) → p < length pages → k < p + 1 → ((j : ℕ) → j < p → get_or (owns_of pages) j false ≡ false) → get_or (owns_of (set pages p n)) k false ≡ false
    go [] p k h l so_far = absurd (omega arith)
    go (m ∷ ms) zero zero h l so_far = e
    go (m ∷ ms) zero (suc k) h l so_far = absurd (omega arith)
    go (m ∷ ms) (suc p) zero h l so_far = so_far 0 (omega arith)
    go (m ∷ ms) (suc p) (suc k) h l so_far = go ms p k (omega arith) (omega arith) (λ j a. so_far (suc j) (omega arith))

  pub own-stays : (pages : List (PageOf X)) (from p : ℕ) (n : PageOf X) → n.own ≡ true → AreOwn from pages → AreOwn from (set pages p n)
  own-stays pages from p n e own = record { own = λ k h. kept-own pages p n e k (own.own k h) }

  -- ---- an item is taken out, and the later ones close up

  pub put-back : (xs : List X) (i : ℕ) (x : X) → slice_get xs i ≡ Some x → insert (remove xs i) i x ≡ xs
  put-back xs i x e = again xs i (slice_get_within xs i x e) (get_or_from_slice_get xs i x x e) where
    again : (xs : List X) (i : ℕ) → i < length xs → get_or xs i x ≡ x → insert (remove xs i) i x ≡ xs
    again [] i h e = absurd (omega arith)
    again (y ∷ ys) zero h e = ap (λ z. z ∷ ys) (sym e)
    again (y ∷ ys) (suc i) h e = ap (λ zs. y ∷ zs) (again ys i (omega arith) e)

  pub taken-out : (xs ys : List X) (i : ℕ) (x : X) → i < length ys → insert xs i x ≡ ys → xs ≡ remove ys i
  taken-out xs ys i x h e = again xs i (rw e h) ∙ ap (λ zs. remove zs i) e where
    again : (xs : List X) (i : ℕ) → i < length (insert xs i x) → xs ≡ remove (insert xs i x) i
    again xs zero h = refl
    again [] (suc i) h = absurd (omega arith)
    again (y ∷ ys) (suc i) h = ap (λ zs. y ∷ zs) (again ys i (omega arith))

  pub stood-there : (xs ys : List X) (i : ℕ) (x : X) → i < length ys → insert xs i x ≡ ys → slice_get ys i ≡ Some x
  stood-there xs ys i x h e = slice_get_read ys (length ys) i x refl h (sym (ap (λ zs. get_or zs i x) (sym e) ∙ again xs i (rw e h))) where
    again : (xs : List X) (i : ℕ) → i < length (insert xs i x) → get_or (insert xs i x) i x ≡ x
    again xs zero h = refl
    again [] (suc i) h = absurd (omega arith)
    again (y ∷ ys) (suc i) h = again ys i (omega arith)

  pub passed-on : (old new : List X) (i : ℕ) (x c : X) → slice_get old i ≡ Some x → new ≡ remove old i ++ c ∷ [] → insert new i x ≡ old ++ c ∷ []
  passed-on old new i x c e n =
      let within = slice_get_within old i x e in
      let len = length-remove old i within in
      ap (λ xs. insert xs i x) n ∙ insert-append_left (remove old i) (c ∷ []) i x (omega arith) ∙ ap (λ xs. xs ++ c ∷ []) (put-back old i x e)

  pub last-out : (pages : List (PageOf X)) (last rest : List X) (i k : ℕ) (x : X) → All IsWhole pages → i ≡ 512 * length pages + k
      → slice_get last k ≡ Some x → rest ≡ remove last k → insert (items_in pages rest) i x ≡ items_in pages last
  last-out [] last rest i k x whole h e r =
      let same : i ≡ k = omega arith in
      ap (λ j. insert rest j x) same ∙ ap (λ xs. insert xs k x) r ∙ put-back last k x e
  last-out (l ∷ ls) last rest i k x whole h e r =
      let w : length l.items ≡ 512 = (All-head IsWhole l ls whole).whole in
      ap (λ xs. insert xs i x) (first l ls rest) ∙ insert-append_right l.items (items_in ls rest) 512 i x w (omega arith)
      ∙ ap (λ xs. l.items ++ xs) (last-out ls last rest (i - 512) k x (All-tail IsWhole l ls whole) (omega arith) e r) ∙ sym (first l ls last)

  pub page-out : (pages : List (PageOf X)) (last : List X) (p k i j : ℕ) (m n : PageOf X) (c x : X) → All IsWhole pages → p < length pages
      → k < 512 → i ≡ 512 * p + k → j ≡ 512 * p + 512 → m ≡ get_or pages p m → slice_get m.items k ≡ Some x → n.items ≡ remove m.items k ++ c ∷ []
      → insert (items_in (set pages p n) last) i x ≡ insert (items_in pages last) j c
  page-out [] last p k i j m n c x whole h w f t at e r = absurd (omega arith)
  page-out (l ∷ ls) last zero k i j m n c x whole h w f t at e r =
      let len : length l.items ≡ 512 = (All-head IsWhole l ls whole).whole in
      let old : m.items ≡ l.items = ap (λ z. z.items) at in
      let within = slice_get_within m.items k x e in
      let less = length-remove m.items k within in
      let long : length n.items ≡ length (remove m.items k) + 1 = ap length r ∙ length-append (remove m.items k) (c ∷ []) in
      let full : length m.items ≡ 512 = ap length old ∙ len in
      let same : i ≡ k = omega arith in
      let start : j - 512 ≡ 0 = omega arith in
      ap (λ z. insert (items_in (n ∷ ls) last) z x) same ∙ ap (λ xs. insert xs k x) (first n ls last)
      ∙ insert-append_left n.items (items_in ls last) k x (omega arith)
      ∙ ap (λ xs. xs ++ items_in ls last) (passed-on m.items n.items k x c e r ∙ ap (λ xs. xs ++ c ∷ []) old)
      ∙ append_assoc l.items (c ∷ []) (items_in ls last)
      ∙ sym (ap (λ z. l.items ++ insert (items_in ls last) z c) start)
      ∙ sym (insert-append_right l.items (items_in ls last) 512 j c len (omega arith)) ∙ ap (λ xs. insert xs j c) (sym (first l ls last))
  page-out (l ∷ ls) last (suc p) k i j m n c x whole h w f t at e r =
      let len : length l.items ≡ 512 = (All-head IsWhole l ls whole).whole in
      ap (λ xs. insert xs i x) (first l (set ls p n) last) ∙ insert-append_right l.items (items_in (set ls p n) last) 512 i x len (omega arith)
      ∙ ap (λ xs. l.items ++ xs) (page-out ls last p k (i - 512) (j - 512) m n c x (All-tail IsWhole l ls whole) (omega arith) w (omega arith) (omega arith) at e r)
      ∙ sym (insert-append_right l.items (items_in ls last) 512 j c len (omega arith)) ∙ ap (λ xs. insert xs j c) (sym (first l ls last))

  pub still-whole : (pages : List (PageOf X)) (p k : ℕ) (m n : PageOf X) (c x : X) → All IsWhole pages → p < length pages → m ≡ get_or pages p m
      → slice_get m.items k ≡ Some x → n.items ≡ remove m.items k ++ c ∷ [] → All IsWhole (set pages p n)
  still-whole [] p k m n c x whole h at e r = absurd (omega arith)
  still-whole (l ∷ ls) zero k m n c x whole h at e r =
      let len : length m.items ≡ 512 = ap (λ z. length z.items) at ∙ (All-head IsWhole l ls whole).whole in
      let less = length-remove m.items k (slice_get_within m.items k x e) in
      let long : length n.items ≡ length (remove m.items k) + 1 = ap length r ∙ length-append (remove m.items k) (c ∷ []) in
      All-cons IsWhole n ls (record { whole = omega arith }) (All-tail IsWhole l ls whole)
  still-whole (l ∷ ls) (suc p) k m n c x whole h at e r =
      All-cons IsWhole l (set ls p n) (All-head IsWhole l ls whole) (still-whole ls p k m n c x (All-tail IsWhole l ls whole) (omega arith) at e r)

  -- ---- a page is made whole, and a part of the list is left

  pub sealed : (pages : List (PageOf X)) (page : PageOf X) (last : List X) → page.items ≡ take 512 last → items_in (pages ++ page ∷ []) (drop 512 last) ≡ items_in pages last
  sealed pages page last e =
      one-more pages page (drop 512 last) ∙ ap (λ xs. items_in pages xs ++ drop 512 last) e
      ∙ append_assoc (flat_map (λ m. m.items) pages) (take 512 last) (drop 512 last) ∙ ap (λ xs. flat_map (λ m. m.items) pages ++ xs) (take-append-drop 512 last)

  pub cut-last : (pages : List (PageOf X)) (last : List X) (n : ℕ) → All IsWhole pages → 512 * length pages ≤ n → items_in pages (take (n - 512 * length pages) last) ≡ take n (items_in pages last)
  cut-last [] last n whole h = let e : n - 512 * length {A = PageOf X} [] ≡ n = omega arith in ap (λ j. take j last) e
  cut-last (l ∷ ls) last n whole h =
      let w : length l.items ≡ 512 = (All-head IsWhole l ls whole).whole in
      let e : n - 512 * length (l ∷ ls) ≡ (n - 512) - 512 * length ls = omega arith in
      let f : length l.items + (n - 512) ≡ n = omega arith in
      ap (λ j. items_in (l ∷ ls) (take j last)) e ∙ first l ls (take ((n - 512) - 512 * length ls) last)
      ∙ ap (λ xs. l.items ++ xs) (cut-last ls last (n - 512) (All-tail IsWhole l ls whole) (omega arith))
      ∙ sym (take-append-add l.items (items_in ls last) (n - 512)) ∙ ap (λ j. take j (l.items ++ items_in ls last)) f ∙ ap (λ xs. take n xs) (sym (first l ls last))

  pub cut-page : (pages : List (PageOf X)) (last : List X) (p n : ℕ) (m : PageOf X) → All IsWhole pages → p < length pages → m ≡ get_or pages p m → n ≤ 512 * p + 512
      → take n (items_in (take p pages) m.items) ≡ take n (items_in pages last)
  cut-page [] last p n m whole h at k = absurd (omega arith)
  cut-page (l ∷ ls) last zero n m whole h at k =
      let w : length l.items ≡ 512 = (All-head IsWhole l ls whole).whole in
      ap (λ page. take n page.items) at ∙ sym (take-append-le n l.items (items_in ls last) (omega arith)) ∙ ap (λ xs. take n xs) (sym (first l ls last))
  cut-page (l ∷ ls) last (suc p) n m whole h at k = go (cut-page ls last p (n - 512) m (All-tail IsWhole l ls whole) (omega arith) at (omega arith)) (cases_lt n 512) where
    w : length l.items ≡ 512
    w = (All-head IsWhole l ls whole).whole

    go : take (n - 512) (items_in (take p ls) m.items) ≡ take (n - 512) (items_in ls last) → (n < 512) ⊎ (512 ≤ n) → take n (items_in (l ∷ take p ls) m.items) ≡ take n (items_in (l ∷ ls) last)
    go later (inl b) =
        ap (λ xs. take n xs) (first l (take p ls) m.items) ∙ take-append-le n l.items (items_in (take p ls) m.items) (omega (arith, w))
        ∙ sym (take-append-le n l.items (items_in ls last) (omega (arith, w))) ∙ ap (λ xs. take n xs) (sym (first l ls last))
    go later (inr b) =
        let f : length l.items + (n - 512) ≡ n = omega (arith, w) in
        ap (λ xs. take n xs) (first l (take p ls) m.items) ∙ ap (λ j. take j (l.items ++ items_in (take p ls) m.items)) (sym f)
        ∙ take-append-add l.items (items_in (take p ls) m.items) (n - 512)
        ∙ ap (λ xs. l.items ++ xs) later
        ∙ sym (take-append-add l.items (items_in ls last) (n - 512)) ∙ ap (λ j. take j (l.items ++ items_in ls last)) f ∙ ap (λ xs. take n xs) (sym (first l ls last))

  pub own-pushed : (pages : List (PageOf X)) (page : PageOf X) → page.own ≡ true → (k : ℕ) → get_or (owns_of pages) k true ≡ true → get_or (owns_of (pages ++ page ∷ [])) k true ≡ true
  own-pushed [] page e zero h = e
  own-pushed [] page e (suc k) h = refl
  own-pushed (l ∷ ls) page e zero h = h
  own-pushed (l ∷ ls) page e (suc k) h = own-pushed ls page e k h

  pub own-same : (pages : List (PageOf X)) (p : ℕ) (m n : PageOf X) → m ≡ get_or pages p m → n.own ≡ m.own → owns_of (set pages p n) ≡ owns_of pages
  own-same [] p m n at e = refl
  own-same (l ∷ ls) zero m n at e = ap (λ o. o ∷ owns_of ls) (e ∙ ap (λ z. z.own) at)
  own-same (l ∷ ls) (suc p) m n at e = ap (λ os. l.own ∷ os) (own-same ls p m n at e)
