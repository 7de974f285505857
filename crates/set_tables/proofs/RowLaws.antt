-- What matching, refilling and the search of the ends do to rows of a list of elements.
use Rattle.std.proofs.Common.{◌≡◌, refl, sym, ◌∙◌, ap, ℕ, zero, suc, ◌+◌, ◌<◌, ◌≤◌, Bool, true, false, ◌&&◌, ◌||◌, nat_lt, List, [], ◌∷◌, ◌++◌, length, map, cond, Option, Some, None, arith, length-append, zero-add, add-zero}
use Rattle.std.specs.Prelude.{replicate, not}
use Rattle.std.proofs.lemmas.List.{length-map, length-replicate, map-append, replicate-append-replicate}
use Rattle.std.specs.Prelude.{option_map, find, position}
use Rattle.std.specs.Option.{option_or}
use Rattle.std.specs.List.{zip, list_any, range_with_len, flat_map, position_or_len}
use Rattle.std.proofs.lemmas.List.Folds.{list_any-append, find-append}
use Rattle.std.proofs.lemmas.Bool.Decides.{nat_tests}
use Rattle.std.proofs.lemmas.Slice.Zip.{length-zip, get_or-zip}
use Rattle.std.proofs.lemmas.List.Quantifiers.{position-Some}
use Rattle.std.proofs.Common.{get_or}
use Rattle.std.proofs.lemmas.List.FromFn.{length-map-range_with_len}
use Rattle.set_tables.specs.Search.{of_field, row_behind}
use Rattle.set_model.specs.declared.element.Element.{Element}
use Rattle.set_model.specs.declared.block.Block.{Block}
use Rattle.set_tables.specs.declared.Span.{Span}
use Rattle.set_tables.specs.declared.End.{End}
use Rattle.set_model.specs.Expiry.{lives}
use Rattle.set_tables.specs.Core.{hits}
use Rattle.set_tables.specs.Rows.{matched, span_holds, reached, refilled, is_led, led_to}
use Rattle.set_tables.specs.Tables.{spans, ends}

-- the row of a field in which each rule has its element's mark
abbrev pub marks : (Element → List Block) → (Element → Bool) → List Element → List Bool
marks here mark es = flat_map (λ e. replicate (length (here e)) (mark e)) es

-- an element that is marked has a block that passes the test
abbrev pub passes : (Element → List Block) → (Element → Bool) → (Block → Bool) → Element → Bool
passes here mark test e = mark e && list_any test (here e)

pub zip-append : {X Y : Type 0} (xs others : List X) (ys more : List Y) → length xs ≡ length ys → zip (xs ++ others) (ys ++ more) ≡ zip xs ys ++ zip others more
zip-append [] others [] more h = refl
zip-append [] others (y ∷ ys) more h = absurd (cc h)
zip-append (x ∷ xs) others [] more h = absurd (cc h)
zip-append (x ∷ xs) others (y ∷ ys) more h = let e : length xs ≡ length ys = omega arith in ap (λ z. (x, y) ∷ z) (zip-append xs others ys more e)

-- all rules
pub marks-all : (here : Element → List Block) (es : List Element) → replicate (length (flat_map here es)) true ≡ marks here (λ _. true) es
marks-all here [] = refl
marks-all here (e ∷ es) =
    rw (length-append (here e) (flat_map here es)) (sym (replicate-append-replicate (length (here e)) (length (flat_map here es)) true) ∙ ap (λ z. replicate (length (here e)) true ++ z) (marks-all here es))

pub length-marks : (here : Element → List Block) (mark : Element → Bool) (es : List Element) → length (marks here mark es) ≡ length (flat_map here es)
length-marks here mark [] = refl
length-marks here mark (e ∷ es) = simp (length-append, length-replicate, length-marks here mark es)

pub length-hits : (here : Element → List Block) (mark : Element → Bool) (test : Block → Bool) (es : List Element) → length (hits here mark test es) ≡ length (flat_map here es)
length-hits here mark test [] = refl
length-hits here mark test (e ∷ es) = simp (length-append, length-map, length-hits here mark test es)

one-matched : (m : Bool) (test : Block → Bool) (bs : List Block) → matched test bs (replicate (length bs) m) ≡ map (λ b. m && test b) bs
one-matched m test [] = refl
one-matched m test (b ∷ bs) = ap (λ z. (m && test b) ∷ z) (one-matched m test bs)

matched-append : (test : Block → Bool) (bs others : List Block) (row more : List Bool) → length bs ≡ length row → matched test (bs ++ others) (row ++ more) ≡ matched test bs row ++ matched test others more
matched-append test bs others row more h = rw (zip-append bs others row more h) (map-append _ (zip bs row) (zip others more))

-- What a match leaves of a row of marks.
pub marks-matched : (here : Element → List Block) (mark : Element → Bool) (test : Block → Bool) (es : List Element) → matched test (flat_map here es) (marks here mark es) ≡ hits here mark test es
marks-matched here mark test [] = refl
marks-matched here mark test (e ∷ es) =
    matched-append test (here e) (flat_map here es) (replicate (length (here e)) (mark e)) (marks here mark es) (sym (length-replicate (length (here e)) (mark e)))
    ∙ ap (λ z. z ++ matched test (flat_map here es) (marks here mark es)) (one-matched (mark e) test (here e))
    ∙ ap (λ z. map (λ b. mark e && test b) (here e) ++ z) (marks-matched here mark test es)

-- ---- refill
reached-append : (ss others : List Span) (row more : List Bool) (r : ℕ) → length ss ≡ length row → reached (ss ++ others) (row ++ more) r ≡ (reached ss row r || reached others more r)
reached-append ss others row more r h = rw (zip-append ss others row more h) (list_any-append _ (zip ss row) (zip others more))

reached-one : (s : Span) (m : Bool) (test : Block → Bool) (bs : List Block) (r : ℕ)
    → reached (replicate (length bs) s) (map (λ b. m && test b) bs) r ≡ ((m && list_any test bs) && span_holds r s)
reached-one s m test [] r = none m (span_holds r s) where
  none : (m t : Bool) → false ≡ ((m && false) && t)
  none true t = refl
  none false t = refl
reached-one s m test (b ∷ bs) r =
    ap (λ z. ((m && test b) && span_holds r s) || z) (reached-one s m test bs r)
    ∙ regroup m (test b) (list_any test bs) (span_holds r s) where
      regroup : (m x y t : Bool) → (((m && x) && t) || ((m && y) && t)) ≡ ((m && (x || y)) && t)
      regroup true true true true = refl
      regroup true true true false = refl
      regroup true true false true = refl
      regroup true true false false = refl
      regroup true false y t = refl
      regroup false x y t = refl

span-below : (r first count : ℕ) → r < first → span_holds r (record { first = first; count = count }) ≡ false
span-below r first count h = grind (arith, nat_tests)

span-above : (r first count : ℕ) → first + count ≤ r → span_holds r (record { first = first; count = count }) ≡ false
span-above r first count h = grind (arith, nat_tests)

span-within : (r first count : ℕ) → first ≤ r → r < first + count → span_holds r (record { first = first; count = count }) ≡ true
span-within r first count h g = grind (arith, nat_tests)

-- Spans that begin after r don't hold it.
reached-below : (here next : Element → List Block) (mark : Element → Bool) (test : Block → Bool) (from : ℕ) (es : List Element) (r : ℕ) → r < from
    → reached (spans here next from es) (hits here mark test es) r ≡ false
reached-below here next mark test from [] r h = refl
reached-below here next mark test from (e ∷ es) r h =
    reached-append (replicate (length (here e)) (record { first = from; count = length (next e) })) (spans here next (from + length (next e)) es) (map (λ b. mark e && test b) (here e)) (hits here mark test es) r
    (length-replicate (length (here e)) _ ∙ sym (length-map (here e) _))
    ∙ ap (λ z. z || reached (spans here next (from + length (next e)) es) (hits here mark test es) r) (reached-one (record { first = from; count = length (next e) }) (mark e) test (here e) r)
    ∙ both (passes here mark test e) _ _ (span-below r from (length (next e)) h) (reached-below here next mark test (from + length (next e)) es r (omega arith)) where
      both : (p s t : Bool) → s ≡ false → t ≡ false → ((p && s) || t) ≡ false
      both true s t a b = cc
      both false s t a b = b

-- in a list with at least one element
reached-first : (here next : Element → List Block) (mark : Element → Bool) (test : Block → Bool) (from : ℕ) (e : Element) (es : List Element) (r : ℕ)
    → reached (spans here next from (e ∷ es)) (hits here mark test (e ∷ es)) r
    ≡ ((passes here mark test e && span_holds r (record { first = from; count = length (next e) })) || reached (spans here next (from + length (next e)) es) (hits here mark test es) r)
reached-first here next mark test from e es r =
    reached-append (replicate (length (here e)) (record { first = from; count = length (next e) })) (spans here next (from + length (next e)) es) (map (λ b. mark e && test b) (here e)) (hits here mark test es) r
    (length-replicate (length (here e)) _ ∙ sym (length-map (here e) _))
    ∙ ap (λ z. z || reached (spans here next (from + length (next e)) es) (hits here mark test es) r) (reached-one (record { first = from; count = length (next e) }) (mark e) test (here e) r)

range-append : (a m n : ℕ) → range_with_len a (m + n) ≡ range_with_len a m ++ range_with_len (a + m) n
range-append a zero n = rw (zero-add n, add-zero a) refl
range-append a (suc m) n =
    let more : suc m + n ≡ suc (m + n) = omega arith in
    let far : a + suc m ≡ (a + 1) + m = omega arith in
    rw (more, far) (ap (λ z. a ∷ z) (range-append (a + 1) m n))

map-constant : (f : ℕ → Bool) (b : Bool) (a n : ℕ) → ((r : ℕ) → a ≤ r → r < a + n → f r ≡ b) → map f (range_with_len a n) ≡ replicate n b
map-constant f b a zero h = refl
map-constant f b a (suc n) h = rw (h a (omega arith) (omega arith)) (ap (λ z. b ∷ z) (map-constant f b (a + 1) n (λ r g k. h r (omega arith) (omega arith))))

map-same : (f g : ℕ → Bool) (a n : ℕ) → ((r : ℕ) → a ≤ r → r < a + n → f r ≡ g r) → map f (range_with_len a n) ≡ map g (range_with_len a n)
map-same f g a zero h = refl
map-same f g a (suc n) h = rw (h a (omega arith) (omega arith)) (ap (λ z. g a ∷ z) (map-same f g (a + 1) n (λ r p k. h r (omega arith) (omega arith))))

-- After a refill each rule of the next field has its element's mark: whether the element passed.
pub hits-refilled : (here next : Element → List Block) (mark : Element → Bool) (test : Block → Bool) (from : ℕ) (es : List Element)
    → map (reached (spans here next from es) (hits here mark test es)) (range_with_len from (length (flat_map next es))) ≡ marks next (passes here mark test) es
hits-refilled here next mark test from [] = refl
hits-refilled here next mark test from (e ∷ es) =
    ap (λ n. map (reached (spans here next from (e ∷ es)) (hits here mark test (e ∷ es))) (range_with_len from n)) (length-append (next e) (flat_map next es))
    ∙ ap (map (reached (spans here next from (e ∷ es)) (hits here mark test (e ∷ es)))) (range-append from (length (next e)) (length (flat_map next es)))
    ∙ map-append _ (range_with_len from (length (next e))) (range_with_len (from + length (next e)) (length (flat_map next es)))
    ∙ ap (λ z. z ++ map (reached (spans here next from (e ∷ es)) (hits here mark test (e ∷ es))) (range_with_len (from + length (next e)) (length (flat_map next es))))
    (map-constant _ (passes here mark test e) from (length (next e)) (λ r g k. reached-first here next mark test from e es r
    ∙ mine (passes here mark test e) _ _ (span-within r from (length (next e)) g k) (reached-below here next mark test (from + length (next e)) es r k)))
    ∙ ap (λ z. replicate (length (next e)) (passes here mark test e) ++ z)
    (map-same _ (reached (spans here next (from + length (next e)) es) (hits here mark test es)) (from + length (next e)) (length (flat_map next es))
    (λ r g k. reached-first here next mark test from e es r ∙ others (passes here mark test e) _ _ (span-above r from (length (next e)) g))
    ∙ hits-refilled here next mark test (from + length (next e)) es) where
      mine : (p s t : Bool) → s ≡ true → t ≡ false → ((p && s) || t) ≡ p
      mine true s t a b = cc
      mine false s t a b = b

      others : (p s t : Bool) → s ≡ false → ((p && s) || t) ≡ t
      others true s t a = rw a refl
      others false s t a = refl

-- ---- ends
abbrev place_led : End × Bool → ℕ
place_led p = p.0.place

or-none : {X : Type 0} (o : Option X) → option_or o None ≡ o
or-none (Some x) = refl
or-none None = refl

one-led : (i : ℕ) (expiry : Option ℕ) (now : ℕ) (m : Bool) (test : Block → Bool) (bs : List Block)
    → option_map place_led (find (is_led now) (zip (replicate (length bs) (record { place = i; expiry = expiry })) (map (λ b. m && test b) bs)))
    ≡ cond (lives expiry now && (m && list_any test bs)) (Some i) None
one-led i expiry now m test [] = none (lives expiry now) m where
  none : (t m : Bool) → None ≡ cond (t && (m && false)) (Some i) None
  none true true = refl
  none true false = refl
  none false m = refl
one-led i expiry now m test (b ∷ bs) =
    head m (test b) (lives expiry now) (list_any test bs) _ (one-led i expiry now m test bs) where
      head : (m x t y : Bool) (o : Option (End × Bool)) → option_map place_led o ≡ cond (t && (m && y)) (Some i) None
          → option_map place_led (cond ((m && x) && t) (Some (record { place = i; expiry = expiry }, m && x)) o) ≡ cond (t && (m && (x || y))) (Some i) None
      head true true true y o h = refl
      head true true false y o h = h
      head true false t y o h = h
      head false x t y o h = h

map-or : {X Y : Type 0} (f : X → Y) (a b : Option X) → option_map f (option_or a b) ≡ option_or (option_map f a) (option_map f b)
map-or f (Some x) b = refl
map-or f None b = refl

first-lt : (b : ℕ) → nat_lt 0 (suc b) ≡ true
first-lt b = grind (arith, nat_tests)

next-lt : (a b : ℕ) → nat_lt (1 + a) (suc b) ≡ nat_lt a b
next-lt a b = grind (arith, nat_tests)

-- the first place, step by step
pub position-cons : {X : Type 0} (p : X → Bool) (x : X) (xs : List X) → position p (x ∷ xs) ≡ cond (p x) (Some 0) (option_map (λ i. 1 + i) (position p xs))
position-cons p x xs = go (p x) where
  inner : (t : Bool) → cond t (Some (1 + position_or_len p xs)) None ≡ option_map (λ i. 1 + i) (cond t (Some (position_or_len p xs)) None)
  inner true = refl
  inner false = refl

  go : (t : Bool) → cond (nat_lt (cond (not t) (1 + position_or_len p xs) 0) (suc (length xs))) (Some (cond (not t) (1 + position_or_len p xs) 0)) None
      ≡ cond t (Some 0) (option_map (λ i. 1 + i) (position p xs))
  go true = rw (first-lt (length xs)) refl
  go false = rw (next-lt (position_or_len p xs) (length xs)) (inner (nat_lt (position_or_len p xs) (length xs)))

shift : (i : ℕ) (o : Option ℕ) → option_map (λ k. (i + 1) + k) o ≡ option_map (λ k. i + k) (option_map (λ k. 1 + k) o)
shift i None = refl
shift i (Some k) = ap Some (omega arith)

-- In the last field the lowest matched rule with a live end belongs to the first element that passes and is live.
pub hits-led : (here : Element → List Block) (mark : Element → Bool) (test : Block → Bool) (now i : ℕ) (es : List Element)
    → led_to (ends here i es) (hits here mark test es) now ≡ option_map (λ k. i + k) (position (λ e. lives e.expiry now && passes here mark test e) es)
hits-led here mark test now i [] = refl
hits-led here mark test now i (e ∷ es) =
    ap (λ z. option_map place_led (find (is_led now) z)) (zip-append (replicate (length (here e)) (record { place = i; expiry = e.expiry })) (ends here (i + 1) es) (map (λ b. mark e && test b) (here e)) (hits here mark test es)
    (length-replicate (length (here e)) _ ∙ sym (length-map (here e) _)))
    ∙ ap (option_map place_led) (find-append (is_led now) (zip (replicate (length (here e)) (record { place = i; expiry = e.expiry })) (map (λ b. mark e && test b) (here e))) (zip (ends here (i + 1) es) (hits here mark test es)))
    ∙ map-or place_led _ _
    ∙ ap (λ z. option_or z (led_to (ends here (i + 1) es) (hits here mark test es) now)) (one-led i e.expiry now (mark e) test (here e))
    ∙ ap (λ z. option_or (cond (lives e.expiry now && passes here mark test e) (Some i) None) z) (hits-led here mark test now (i + 1) es)
    ∙ whole (lives e.expiry now && passes here mark test e) (position (λ x. lives x.expiry now && passes here mark test x) es)
    ∙ ap (option_map (λ k. i + k)) (sym (position-cons (λ x. lives x.expiry now && passes here mark test x) e es)) where
      whole : (t : Bool) (o : Option ℕ) → option_or (cond t (Some i) None) (option_map (λ k. (i + 1) + k) o) ≡ option_map (λ k. i + k) (cond t (Some 0) (option_map (λ k. 1 + k) o))
      whole true o = ap Some (sym (add-zero i))
      whole false o = shift i o

-- ---- by places
pub find-at : {X : Type 0} (p : X → Bool) (xs : List X) (i : ℕ) (d : X) → position p xs ≡ Some i → find p xs ≡ Some (get_or xs i d)
find-at p [] i d h = absurd (cc h)
find-at {X} p (x ∷ xs) i d h = go (p x) (position p xs) (λ k g. find-at p xs k d g) (sym (position-cons p x xs) ∙ h) where
  go : (t : Bool) (o : Option ℕ) → ((k : ℕ) → o ≡ Some k → find p xs ≡ Some (get_or xs k d)) → cond t (Some 0) (option_map (λ n. 1 + n) o) ≡ Some i
      → cond t (Some x) (find p xs) ≡ Some (get_or (x ∷ xs) i d)
  go true o ih e = let z : 0 ≡ i = cc e in rw (← z) refl
  go false None ih e = absurd (cc e)
  go false (Some k) ih e = let z : 1 + k ≡ i = cc e in let w : suc k ≡ i = omega arith in rw (← w) (ih k refl)

pub find-none : {X : Type 0} (p : X → Bool) (xs : List X) → position p xs ≡ None → find p xs ≡ None
find-none p [] h = refl
find-none p (x ∷ xs) h = go (p x) (position p xs) (λ g. find-none p xs g) (sym (position-cons p x xs) ∙ h) where
  go : (t : Bool) (o : Option ℕ) → (o ≡ None → find p xs ≡ None) → cond t (Some 0) (option_map (λ n. 1 + n) o) ≡ None → cond t (Some x) (find p xs) ≡ None
  go true o ih e = absurd (cc e)
  go false None ih e = ih refl
  go false (Some k) ih e = absurd (cc e)

pub led-within : (ends : List End) (row : List Bool) (now r : ℕ) → position (is_led now) (zip ends row) ≡ Some r → r < length ends
led-within ends row now r h =
    let d : End × Bool = (record { place = 0; expiry = None }, false) in
    let a = position-Some (is_led now) (zip ends row) r d h in
    let b : r < length (zip ends row) = a.0 in
    let n = length-zip ends row in
    omega arith

pub led-some : (ends : List End) (row : List Bool) (now r : ℕ) (e : End) → length row ≡ length ends → position (is_led now) (zip ends row) ≡ Some r → get_or ends r e ≡ e
    → led_to ends row now ≡ Some e.place
led-some ends row now r e g h k =
    let within = led-within ends row now r h in
    let short : r < length row = omega arith in
    ap (option_map place_led) (find-at (is_led now) (zip ends row) r (e, false) h)
    ∙ ap (λ p. Some (place_led p)) (get_or-zip ends row r (e, false) within short)
    ∙ ap (λ z. Some z.place) k

pub led-none : (ends : List End) (row : List Bool) (now : ℕ) → position (is_led now) (zip ends row) ≡ None → led_to ends row now ≡ None
led-none ends row now h = ap (option_map place_led) (find-none (is_led now) (zip ends row) h)

pub length-matched : (test : Block → Bool) (blocks : List Block) (row : List Bool) → length row ≡ length blocks → length (matched test blocks row) ≡ length blocks
length-matched test blocks row h =
    let n = length-zip blocks row in
    length-map (zip blocks row) _ ∙ (let e : length (zip blocks row) ≡ length blocks = omega arith in e)

pub length-refilled : (spans : List Span) (row : List Bool) (n : ℕ) → length (refilled spans row n) ≡ n
length-refilled spans row n = length-map-range_with_len (reached spans row) 0 n

pub length-row_behind : (tests : ℕ → Block → Bool) (rules : List (List Block)) (maps : List (List Span)) (f : ℕ) → length (row_behind tests rules maps f) ≡ length (of_field rules f)
length-row_behind tests rules maps zero = length-matched (tests 0) (of_field rules 0) (replicate (length (of_field rules 0)) true) (length-replicate (length (of_field rules 0)) true)
length-row_behind tests rules maps (suc f) =
    length-matched (tests (suc f)) (of_field rules (suc f)) (refilled (of_field maps f) (row_behind tests rules maps f) (length (of_field rules (suc f)))) (length-refilled (of_field maps f) (row_behind tests rules maps f) (length (of_field rules (suc f))))

pub position-none : {X : Type 0} (p : X → Bool) (xs : List X) (i : ℕ) (d : X) → position p xs ≡ None → i < length xs → p (get_or xs i d) ≡ false
position-none p [] i d h l = absurd (omega arith)
position-none {X} p (x ∷ xs) i d h l = go (p x) refl (position p xs) (λ k g m. position-none p xs k d g m) (sym (position-cons p x xs) ∙ h) i l where
  go : (t : Bool) → p x ≡ t → (o : Option ℕ) → ((k : ℕ) → o ≡ None → k < length xs → p (get_or xs k d) ≡ false) → cond t (Some 0) (option_map (λ n. 1 + n) o) ≡ None
      → (j : ℕ) → j < suc (length xs) → p (get_or (x ∷ xs) j d) ≡ false
  go true e o ih q j m = absurd (cc q)
  go false e (Some k) ih q j m = absurd (cc q)
  go false e None ih q zero m = e
  go false e None ih q (suc j) m = ih j refl (omega arith)
