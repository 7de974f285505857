-- The items of a word of 64, in the list and in the page or rest that has them.
use Rattle.std.proofs.Common.{◌≡◌, refl, sym, ◌∙◌, ap, ℕ, ◌+◌, ◌-◌, ◌*◌, ◌/◌, ◌%◌, ◌<◌, ◌≤◌, List, length, get_or, take, drop, All, arith, length-drop}
use Rattle.std.specs.Prelude.{min}
use Rattle.std.proofs.lemmas.List.{length-take, get_or-take, get_or-drop, get_or_default, same_lists, take_rest, take_min, drop_min}
use Rattle.std.proofs.lemmas.Option.{slice_get_read, get_or_from_slice_get}
use Rattle.shared_pages.specs.Paged.{PageOf, items_in, IsWhole}
use Rattle.shared_pages.proofs.PageLaws.{items-length, read-page, read-last}
use Rattle.mapping_table.specs.Spared.{word_of}

module _ {X : Type 0} where
  -- a run of up to 64 items, cut at the list's end
  pub run-cut : (items : List X) (first low many : ℕ) → low ≡ min first (length items) → many ≡ min (length (take (length items - low) (drop low items))) 64
      → take many (take (length items - low) (drop low items)) ≡ take 64 (drop first items)
  run-cut items first low many e f =
      let a = length-drop first items in
      let b = length-drop low items in
      let rest = ap length (take_rest items low) in
      let cut : many ≡ min 64 (length (drop first items)) = omega arith in
      ap (λ xs. take many xs) (take_rest items low) ∙ ap (λ n. take many (drop n items)) e ∙ ap (λ xs. take many xs) (drop_min first items)
      ∙ ap (λ n. take n (drop first items)) cut ∙ take_min 64 (drop first items)

  run-at : (items : List X) (first k : ℕ) (d : X) → k < 64 → get_or (take 64 (drop first items)) k d ≡ get_or items (first + k) d
  run-at items first k d h = get_or-take 64 (drop first items) k d h ∙ get_or-drop first items k d

  pub word-at : (items : List X) (w k : ℕ) (d : X) → k < 64 → get_or (word_of w items) k d ≡ get_or items (64 * w + k) d
  word-at items w k d h = run-at items (64 * w) k d h

  -- an item of a word that was read is the item of the list
  pub word-within : (items word : List X) (w k : ℕ) → word ≡ word_of w items → k < 64 → 64 * w + k < length items → k < length word
  word-within items word w k e h l =
      let a = length-take 64 (drop (64 * w) items) in
      let b = length-drop (64 * w) items in
      omega (arith, a, b, ap length e)

  pub word-read : (items word : List X) (w k : ℕ) (d : X) → word ≡ word_of w items → k < 64 → get_or word k d ≡ get_or items (64 * w + k) d
  word-read items word w k d e h = ap (λ xs. get_or xs k d) e ∙ word-at items w k d h

  -- a word in a whole page
  pub page-word : (pages : List (PageOf X)) (last : List X) (w : ℕ) (m : PageOf X) → All IsWhole pages → 64 * w / 512 < length pages
      → take 64 (drop (64 * w % 512) (get_or pages (64 * w / 512) m).items) ≡ word_of w (items_in pages last)
  page-word pages last w m whole h = same_lists (take 64 (drop from page)) (word_of w (items_in pages last)) long at where
    from : ℕ
    from = 64 * w % 512

    page : List X
    page = (get_or pages (64 * w / 512) m).items

    full : length page ≡ 512
    full = (whole (64 * w / 512) m h).whole

    long : length (take 64 (drop from page)) ≡ length (word_of w (items_in pages last))
    long =
        let a = length-take 64 (drop from page) in
        let b = length-drop from page in
        let c = length-take 64 (drop (64 * w) (items_in pages last)) in
        let d = length-drop (64 * w) (items_in pages last) in
        omega (arith, a, b, c, d, full, items-length pages last whole)

    at : (k : ℕ) (d : X) → k < length (take 64 (drop from page)) → get_or (take 64 (drop from page)) k d ≡ get_or (word_of w (items_in pages last)) k d
    at k d l =
        let a = length-take 64 (drop from page) in
        let low : k < 64 = omega (arith, a) in
        let x = get_or page (from + k) d in
        let p : (64 * w + k) / 512 ≡ 64 * w / 512 = omega arith in
        let q : (64 * w + k) % 512 ≡ from + k = omega arith in
        let same : x ≡ get_or page (from + k) x = get_or_default page (from + k) d x (omega (arith, full)) in
        let here : x ≡ get_or (get_or pages ((64 * w + k) / 512) m).items ((64 * w + k) % 512) x =
        same ∙ ap (λ j. get_or page j x) (sym q) ∙ ap (λ j. get_or (get_or pages j m).items ((64 * w + k) % 512) x) (sym p) in
        run-at page from k d low
        ∙ sym (get_or_from_slice_get (items_in pages last) (64 * w + k) x d (read-page pages last (64 * w + k) m x whole (omega arith) here))
        ∙ sym (word-at (items_in pages last) w k d low)

  -- a word after the whole pages
  pub last-word : (pages : List (PageOf X)) (last : List X) (w : ℕ) → All IsWhole pages → length pages ≤ 64 * w / 512
      → take 64 (drop (64 * w - 512 * length pages) last) ≡ word_of w (items_in pages last)
  last-word pages last w whole h = same_lists (take 64 (drop from last)) (word_of w (items_in pages last)) long at where
    from : ℕ
    from = 64 * w - 512 * length pages

    long : length (take 64 (drop from last)) ≡ length (word_of w (items_in pages last))
    long =
        let a = length-take 64 (drop from last) in
        let b = length-drop from last in
        let c = length-take 64 (drop (64 * w) (items_in pages last)) in
        let d = length-drop (64 * w) (items_in pages last) in
        omega (arith, a, b, c, d, items-length pages last whole)

    at : (k : ℕ) (d : X) → k < length (take 64 (drop from last)) → get_or (take 64 (drop from last)) k d ≡ get_or (word_of w (items_in pages last)) k d
    at k d l =
        let a = length-take 64 (drop from last) in
        let b = length-drop from last in
        let low : k < 64 = omega (arith, a) in
        let x = get_or last (from + k) d in
        let place : from + k ≡ 64 * w + k - 512 * length pages = omega arith in
        let within : 64 * w + k - 512 * length pages < length last = omega (arith, a, b) in
        let same : x ≡ get_or last (64 * w + k - 512 * length pages) x = get_or_default last (from + k) d x (omega (arith, a, b)) ∙ ap (λ j. get_or last j x) place in
        run-at last from k d low
        ∙ sym (get_or_from_slice_get (items_in pages last) (64 * w + k) x d (read-last pages last (64 * w + k) x whole (omega arith) (slice_get_read last (length last) (64 * w + k - 512 * length pages) x refl within same)))
        ∙ sym (word-at (items_in pages last) w k d low)
