-- The elements of a listing, added to an empty set, are all new and give the set again.
use Rattle.std.proofs.Common.{◌≡◌, refl, sym, ◌∙◌, ap, subst, ℕ, suc, ◌+◌, ◌-◌, ◌≤◌, ◌^◌, Bool, true, false, ◌&&◌, cond, nat_lt, nat_le, if◌then◌else◌, List, [], ◌∷◌, ◌++◌, length, map, fold, filter, find, position, option_map, Option, Some, None, IfSome, All, get_or, append_assoc, append-nil, length-append, arith}
use Rattle.std.specs.List.{AllPairs, position_or_len, range_with_len}
use Rattle.std.specs.Option.{option_map_or}
use Rattle.std.proofs.lemmas.Bool.{ltb-true, ltb-false, lt-ltb, le-ltb, lt-leb, ne_eqb, or_parts, or_from}
use Rattle.std.proofs.lemmas.List.Concat.{flat_map-append}
use Rattle.std.proofs.lemmas.List.Elements.{All-nil, All-cons, All-head, All-tail}
use Rattle.set_model.specs.declared.kind.Kind.{Kind}
use Rattle.set_model.specs.declared.element.Element.{Element}
use Rattle.set_model.specs.Key.{start_key, end_key}
use Rattle.set_model.specs.Expiry.{live, lives}
use Rattle.set_model.specs.SetState.{State, Addition, answers, holds, shares, place, same_at, twin_place, start_in_the_way, end_in_the_way, sharing_place, sharing_in_the_way, is_full, is_crowded, crowded_field, field_blocks, field_rules, rules_limit, add}
use Rattle.set_model.specs.SetState.Addition.{New}
use Rattle.listing_laws.specs.Relisted.{left, relisted, read_back, all_read_back, added, all_new, is_in_the_way, IsGrown, ReadsBack}

-- Tests that no item passes.
module _ {X : Type 0} (p : X → Bool) where
  position_end : (xs : List X) → All (λ x. p x ≡ false) xs → position_or_len p xs ≡ length xs
  position_end [] h = refl
  position_end (x ∷ xs) h = rw (All-head (λ y. p y ≡ false) x xs h) (omega (arith, position_end xs (All-tail (λ y. p y ≡ false) x xs h)))

  pub no_position : (xs : List X) → All (λ x. p x ≡ false) xs → position p xs ≡ None
  no_position xs h = rw (position_end xs h, le-ltb (length xs) (length xs) (omega arith)) refl

  pub no_find : (xs : List X) → ((x : X) → p x ≡ false) → find p xs ≡ None
  no_find [] h = refl
  no_find (x ∷ xs) h = rw (h x) (no_find xs h)

-- Items that are related to each later one.
module _ {X : Type 0} (R : X → X → Type 0) where
  pub pairs-head : (x : X) (xs : List X) → AllPairs R (x ∷ xs) → All (R x) xs
  pairs-head x xs h k d lt = h 0 (suc k) d (omega arith) (omega (arith, lt))

  pub pairs-tail : (x : X) (xs : List X) → AllPairs R (x ∷ xs) → AllPairs R xs
  pairs-tail x xs h i j d lt within = h (suc i) (suc j) d (omega (arith, lt)) (omega (arith, within))

all-mid : {X : Type 0} (P : X → Type 0) (xs : List X) (y : X) (ys : List X) → All P (xs ++ y ∷ ys) → P y
all-mid P [] y ys h = All-head P y ys h
all-mid P (x ∷ xs) y ys h = all-mid P xs y ys (All-tail P x (xs ++ y ∷ ys) h)

pub pairs-before : {X : Type 0} (R : X → X → Type 0) (xs : List X) (y : X) (ys : List X) → AllPairs R (xs ++ y ∷ ys) → All (λ x. R x y) xs
pairs-before R [] y ys h = All-nil (λ x. R x y)
pairs-before R (x ∷ xs) y ys h =
    All-cons (λ z. R z y) x xs (all-mid (R x) xs y ys (pairs-head R x (xs ++ y ∷ ys) h)) (pairs-before R xs y ys (pairs-tail R x (xs ++ y ∷ ys) h))

-- What an element is after its listing is read.
module _ (now : ℕ) where
  pub alive : (x : Option ℕ) → lives (left now x) 0 ≡ lives x now
  alive None = refl
  alive (Some t) = by (nat_lt now t) refl where
    by : (b : Bool) → nat_lt now t ≡ b → nat_lt 0 (t - now) ≡ b
    by true e = let lt = ltb-true now t e in lt-ltb 0 (t - now) (omega (arith, lt))
    by false e = let le = ltb-false now t e in le-ltb 0 (t - now) (omega (arith, le))

  all-back : (p : Element → Bool) (id : ℕ) (es : List Element) → All (λ e. (n : ℕ) → p (read_back now n e) ≡ false) es → All (λ e. p e ≡ false) (all_read_back now id es)
  all-back p id [] h = All-nil (λ e. p e ≡ false)
  all-back p id (e ∷ es) h =
      All-cons (λ f. p f ≡ false) (read_back now id e) (all_read_back now (id + 1) es) (All-head (λ f. (n : ℕ) → p (read_back now n f) ≡ false) e es h id)
      (all-back p (id + 1) es (All-tail (λ f. (n : ℕ) → p (read_back now n f) ≡ false) e es h))

  length-back : (id : ℕ) (es : List Element) → length (all_read_back now id es) ≡ length es
  length-back id [] = refl
  length-back id (e ∷ es) = ap suc (length-back (id + 1) es)

  back-snoc : (id : ℕ) (es : List Element) (e : Element) → all_read_back now id (es ++ e ∷ []) ≡ all_read_back now id es ++ read_back now (id + length es) e ∷ []
  back-snoc id [] e = ap (λ n. read_back now n e ∷ []) (omega arith)
  back-snoc id (x ∷ es) e =
      ap (λ r. read_back now id x ∷ r) (back-snoc (id + 1) es e ∙ ap (λ n. all_read_back now (id + 1) es ++ read_back now n e ∷ []) (omega arith))

  rules-back : (kinds : List Kind) (f id : ℕ) (es : List Element) → field_rules kinds f (all_read_back now id es) ≡ field_rules kinds f es
  rules-back kinds f id [] = refl
  rules-back kinds f id (e ∷ es) = ap (λ r. field_blocks kinds f e.parts ++ r) (rules-back kinds f (id + 1) es)

  -- what fails a test unless it is live, fails it after its listing is read
  off : (e : Element) (n : ℕ) (t : Bool) → (live e now ≡ true → t ≡ false) → (live (read_back now n e) 0 && t) ≡ false
  off e n t h = rw (alive e.expiry) (by (live e now) refl) where
    by : (b : Bool) → live e now ≡ b → (b && t) ≡ false
    by true l = h l
    by false l = refl

module _ (now : ℕ) (s : State) (grown : IsGrown now s) where
  abbrev Free : Element → Element → Type 0
  Free e f = live e now ≡ true → is_in_the_way s.disjoint e f.parts ≡ false

  -- the set after so many of its elements
  abbrev pub upto : List Element → State
  upto es = record { kinds = s.kinds; size = s.size; disjoint = s.disjoint; elements = all_read_back now 0 es; next = length es }

  module _ (before : List Element) (e : Element) (behind : List Element) (whole : s.elements ≡ before ++ e ∷ behind) where
    free : All (λ x. Free x e) before
    free = pairs-before Free before e behind (subst (λ es. AllPairs Free es) whole grown.free)

    -- A test that no live element before this one passes has no place.
    nowhere : (t : Element → Bool) → ((x : Element) → Free x e → live x now ≡ true → t x ≡ false) → ((x : Element) (n : ℕ) → t (read_back now n x) ≡ t x)
        → position (λ x. live x 0 && t x) (all_read_back now 0 before) ≡ None
    nowhere t fails same = no_position (λ x. live x 0 && t x) (all_read_back now 0 before) (all-back now (λ x. live x 0 && t x) 0 before
        (λ k d lt n. let x = get_or before k d in off now x n (t (read_back now n x)) (λ l. same x n ∙ fails x (free k d lt) l)))

    at_start : place (upto before) (start_key e.parts) 0 ≡ None
    at_start = nowhere (λ x. holds x (start_key e.parts)) (λ x h l. (or_parts (holds x (start_key e.parts)) _ (h l)).0) (λ x n. refl)

    at_end : s.disjoint ≡ false → place (upto before) (end_key e.parts) 0 ≡ None
    at_end plain = nowhere (λ x. holds x (end_key e.parts))
        (λ x h l. ap (λ b. if b then shares x e.parts else holds x (end_key e.parts)) (sym plain) ∙ (or_parts (holds x (start_key e.parts)) _ (h l)).1) (λ x n. refl)

    sharing : s.disjoint ≡ true → sharing_place (upto before) e.parts 0 ≡ None
    sharing apart = nowhere (λ x. shares x e.parts)
        (λ x h l. ap (λ b. if b then shares x e.parts else holds x (end_key e.parts)) (sym apart) ∙ (or_parts (holds x (start_key e.parts)) _ (h l)).1) (λ x n. refl)

    starts : start_in_the_way (upto before) e.parts 0 ≡ None
    starts = by s.disjoint where
      by : (b : Bool) → (if b then None else place (upto before) (start_key e.parts) 0) ≡ None
      by true = refl
      by false = at_start

    ends : end_in_the_way (upto before) e.parts 0 ≡ None
    ends = by s.disjoint refl where
      by : (b : Bool) → s.disjoint ≡ b → (if b then None else place (upto before) (end_key e.parts) 0) ≡ None
      by true h = refl
      by false h = at_end h

    shared : sharing_in_the_way (upto before) e.parts 0 ≡ None
    shared = by s.disjoint refl where
      by : (b : Bool) → s.disjoint ≡ b → (if b then sharing_place (upto before) e.parts 0 else None) ≡ None
      by true h = sharing h
      by false h = refl

    no_twin : twin_place (upto before) e.parts 0 ≡ None
    no_twin = ap (same_at (upto before) e.parts) at_start

    long : length s.elements ≡ length before + suc (length behind)
    long = ap length whole ∙ length-append before (e ∷ behind)

    not_full : is_full (upto before) ≡ false
    not_full = or_from _ _ (by s.size grown.sized) (ne_eqb (length before) (2 ^ 64 - 1) (λ same. let n = grown.numbered in absurd (omega (arith, same, n.0, n.1, long)))) where
      by : (o : Option ℕ) → IfSome o (λ size. length s.elements ≤ size) → option_map_or (λ size. nat_le size (length (all_read_back now 0 before))) o false ≡ false
      by None h = refl
      by (Some size) h = lt-leb size (length (all_read_back now 0 before)) (let l = length-back now 0 before in omega (arith, l, long, h))

    not_crowded : crowded_field (upto before) e.parts ≡ None
    not_crowded = no_find (is_crowded (upto before) e.parts) (range_with_len 0 (length s.kinds)) (λ f.
        let rules = ap length (rules-back now s.kinds f 0 before) in
        let all = ap (λ es. length (field_rules s.kinds f es)) whole ∙ ap length (flat_map-append (λ x. field_blocks s.kinds f x.parts) before (e ∷ behind)) ∙ length-append (field_rules s.kinds f before) (field_blocks s.kinds f e.parts ++ field_rules s.kinds f behind) in
        let rest = length-append (field_blocks s.kinds f e.parts) (field_rules s.kinds f behind) in
        let most = grown.short f in
        le-ltb rules_limit _ (omega (arith, rules, all, rest, most)))

    pub next : (add (upto before) (relisted now e) 0) ≡ (New (length before), upto (before ++ e ∷ []))
    next = rw (no_twin, starts, ends, shared, not_full, not_crowded)
        (let more : length before + 1 ≡ length (before ++ e ∷ []) = omega (arith, length-append before (e ∷ [])) in
        let items : all_read_back now 0 before ++ read_back now (length before) e ∷ [] ≡ all_read_back now 0 (before ++ e ∷ []) = ap (λ n. all_read_back now 0 before ++ read_back now n e ∷ []) (omega arith) ∙ sym (back-snoc now 0 before e) in
        λ i. (New (length before), record { kinds = s.kinds; size = s.size; disjoint = s.disjoint; elements = items i; next = more i }))

  all : (outcomes : List Addition) (before behind : List Element) → s.elements ≡ before ++ behind
      → fold added (outcomes, upto before) (map (relisted now) behind) ≡ (outcomes ++ all_new (length before) behind, upto (before ++ behind))
  all outcomes before [] whole = λ i. (sym (append-nil outcomes) i, upto (sym (append-nil before) i))
  all outcomes before (e ∷ behind) whole =
      let one = next before e behind whole in
      let split : before ++ e ∷ behind ≡ (before ++ e ∷ []) ++ behind = sym (append_assoc before (e ∷ []) behind) in
      let count : length (before ++ e ∷ []) ≡ length before + 1 = length-append before (e ∷ []) in
      ap (λ r. fold added (outcomes ++ r.0 ∷ [], r.1) (map (relisted now) behind)) one
      ∙ all (outcomes ++ New (length before) ∷ []) (before ++ e ∷ []) behind (whole ∙ split)
      ∙ (λ i. ((append_assoc outcomes (New (length before) ∷ []) (all_new (length (before ++ e ∷ [])) behind) ∙ ap (λ n. outcomes ++ New (length before) ∷ all_new n behind) count) i, upto (sym split i)))

  kept : (x : Option ℕ) → left 0 x ≡ x
  kept None = refl
  kept (Some t) = ap Some (omega arith)

  living : (id : ℕ) (es : List Element) → map (relisted 0) (filter (λ e. live e 0) (all_read_back now id es)) ≡ map (relisted now) (filter (λ e. live e now) es)
  living id [] = refl
  living id (e ∷ es) = rw (alive now e.expiry) (by (live e now) (living (id + 1) es)) where
    by : (b : Bool) → map (relisted 0) (filter (λ x. live x 0) (all_read_back now (id + 1) es)) ≡ map (relisted now) (filter (λ x. live x now) es)
        → map (relisted 0) (cond b (read_back now id e ∷ filter (λ x. live x 0) (all_read_back now (id + 1) es)) (filter (λ x. live x 0) (all_read_back now (id + 1) es)))
        ≡ map (relisted now) (cond b (e ∷ filter (λ x. live x now) es) (filter (λ x. live x now) es))
    by true rest = (λ i. record { parts = e.parts; expiry = kept (left now e.expiry) i; comment = e.comment } ∷ rest i)
    by false rest = rest

  -- a lookup so much later
  module _ (key : List ℕ) (more : ℕ) where
    alive-then : (x : Option ℕ) → lives (left now x) more ≡ lives x (now + more)
    alive-then None = refl
    alive-then (Some t) = by (nat_lt (now + more) t) refl where
      by : (b : Bool) → nat_lt (now + more) t ≡ b → nat_lt more (t - now) ≡ b
      by true e = let lt = ltb-true (now + more) t e in lt-ltb more (t - now) (omega (arith, lt))
      by false e = let le = ltb-false (now + more) t e in le-ltb more (t - now) (omega (arith, le))

    expired-then : (x : Option ℕ) → lives x now ≡ false → lives x (now + more) ≡ false
    expired-then None e = e
    expired-then (Some t) e = let le = ltb-false now t e in le-ltb (now + more) t (omega (arith, le))

    left-then : (x : Option ℕ) → left more (left now x) ≡ left (now + more) x
    left-then None = refl
    left-then (Some t) = ap Some (omega arith)

    abbrev others : ℕ → List Element → List Element
    others id es = filter (λ x. live x 0) (all_read_back now id es)

    finding : (id : ℕ) (es : List Element)
        → option_map (relisted more) (find (answers key more) (filter (λ e. live e 0) (all_read_back now id es))) ≡ option_map (relisted (now + more)) (find (answers key (now + more)) es)
    finding id [] = refl
    finding id (e ∷ es) = rw (alive now e.expiry) (by (live e now) refl (finding (id + 1) es)) where
      found : (b : Bool) → option_map (relisted more) (find (answers key more) (others (id + 1) es)) ≡ option_map (relisted (now + more)) (find (answers key (now + more)) es)
          → option_map (relisted more) (cond b (Some (read_back now id e)) (find (answers key more) (others (id + 1) es))) ≡ option_map (relisted (now + more)) (cond b (Some e) (find (answers key (now + more)) es))
      found true rest = λ i. Some (record { parts = e.parts; expiry = left-then e.expiry i; comment = e.comment })
      found false rest = rest

      by : (b : Bool) → live e now ≡ b → option_map (relisted more) (find (answers key more) (others (id + 1) es)) ≡ option_map (relisted (now + more)) (find (answers key (now + more)) es)
          → option_map (relisted more) (find (answers key more) (cond b (read_back now id e ∷ others (id + 1) es) (others (id + 1) es))) ≡ option_map (relisted (now + more)) (cond (live e (now + more) && holds e key) (Some e) (find (answers key (now + more)) es))
      by true q rest = rw (alive-then e.expiry) (found (live e (now + more) && holds e key) rest)
      by false q rest = rw (expired-then e.expiry q) rest

  pub reads-back : ReadsBack now s
  reads-back = record { all = all [] [] s.elements refl; lives = living 0 s.elements; finds = λ key more. finding key more 0 s.elements }

pub grown-reads-back : (now : ℕ) (s : State) → IsGrown now s → ReadsBack now s
grown-reads-back now s grown = reads-back now s grown
