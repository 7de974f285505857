-- A text is read whole exactly if it is in the form; else reading stops at the bad token.
use Rattle.std.proofs.Common.{◌≡◌, ◌⊎◌, inl, inr, refl, sym, ◌∙◌, ap, subst, List, [], ◌∷◌, ◌++◌, length, append-nil, append_assoc, arith, Bool, true, false, ◌<◌}
use Rattle.token_forms.specs.declared.token.Reason.{Reason}
use Rattle.token_forms.specs.Token.{Lexeme, is_word, is_end}
use Rattle.token_forms.specs.Form.{Form, done, ◌>>=◌}
use Rattle.token_forms.specs.Words.{the_end}
use Rattle.token_forms.specs.Reading.{Outcome, Read, Short, Bad}
use Rattle.token_forms.specs.Reasons.{reason_of}
use Rattle.token_forms.specs.Faults.{IsFault}
use Rattle.token_forms.proofs.FormLaws.{Reads, Meets, ReadsTo, Stops, NoEnd, AsksFor}
use Rattle.token_forms.proofs.ReasonLaws.{reason_is}

-- the end is the last token of a text, and no other
pub record Ends (ts : List Lexeme) : Type 0 where
  pub others : List Lexeme
  pub last : Lexeme
  pub split : ts ≡ others ++ last ∷ []
  pub is_end : is_end last.kind ≡ true
  pub inner : NoEnd others

-- a body and then the end
abbrev pub text_of : {A : Type 0} → Form A → Form A
text_of body = body >>= λ a. the_end >>= λ _. done a

no_end_last : (x : List Lexeme) (t : Lexeme) → NoEnd (x ++ t ∷ []) → is_end t.kind ≡ false
no_end_last [] t h = h.0
no_end_last (u ∷ x) t h = no_end_last x t h.1

no_end_left : (x y : List Lexeme) → NoEnd (x ++ y) → NoEnd x
no_end_left [] y h = tt
no_end_left (t ∷ x) y h = (h.0, no_end_left x y h.1)

no_end_right : (x y : List Lexeme) → NoEnd (x ++ y) → NoEnd y
no_end_right [] y h = h
no_end_right (t ∷ x) y h = no_end_right x y h.1

-- a list without an end, and the end after it: two such cuts of a list are the same
same_cut : (x y : List Lexeme) (s t : Lexeme) (r : List Lexeme) → NoEnd x → NoEnd y → is_end s.kind ≡ true → is_end t.kind ≡ true → x ++ s ∷ [] ≡ y ++ t ∷ r → (x ≡ y) × (s ≡ t) × (r ≡ [])
same_cut [] [] s t r h k i j e = (refl, cc, cc)
same_cut [] (v ∷ y) s t r h k i j e = let same : s ≡ v = cc in let a : is_end v.kind ≡ false = k.0 in let b : is_end s.kind ≡ is_end v.kind = ap (λ z. is_end z.kind) same in absurd (cc (a, b, i))
same_cut (u ∷ x) [] s t r h k i j e = let same : u ≡ t = cc in let a : is_end u.kind ≡ false = h.0 in let b : is_end u.kind ≡ is_end t.kind = ap (λ z. is_end z.kind) same in absurd (cc (a, b, j))
same_cut (u ∷ x) (v ∷ y) s t r h k i j e = let m = same_cut x y s t r h.1 k.1 i j (cc) in let same : u ≡ v = cc in let n : x ≡ y = m.0 in (cc, m.1, m.2)

-- what is whole of the text is whole of the body, and then the end
pub body_of : {A : Type 0} (body : Form A) (ts : List Lexeme) (a : A) → (text_of body).whole ts a → (x : List Lexeme) × (e : Lexeme) × (ts ≡ x ++ e ∷ []) × (is_end e.kind ≡ true) × body.whole x a
body_of {A} body ts a (b, x, y, h, w, (u, y1, y2, h2, (e, he, ie), (hd, hb))) =
    (x, e, h ∙ ap (λ z. x ++ z) (h2 ∙ ap (λ z. z ++ y2) he ∙ ap (λ z. e ∷ z) hd), ie, subst (λ c. body.whole x c) hb w)

pub text_whole : {A : Type 0} (body : Form A) (x : List Lexeme) (e : Lexeme) (a : A) → is_end e.kind ≡ true → body.whole x a → (text_of body).whole (x ++ e ∷ []) a
text_whole body x e a i w = (a, x, e ∷ [], refl, w, (tt, e ∷ [], [], refl, (e, refl, i), (refl, refl)))

-- fronts of the text: fronts of the body, or all of the text
front_cases : {A : Type 0} (body : Form A) → ((x : List Lexeme) (a : A) → body.whole x a → body.front x) → (ts : List Lexeme) → (text_of body).front ts → body.front ts ⊎ ((a : A) × (text_of body).whole ts a)
front_cases {A} body whole_front ts (inl p) = inl p
front_cases {A} body whole_front ts (inr (a, x, y, h, w, inl (inl e))) = inl (subst body.front (sym (h ∙ ap (λ z. x ++ z) e ∙ append-nil x)) (whole_front x a w))
front_cases {A} body whole_front ts (inr (a, x, y, h, w, inl (inr (t, u, e, i)))) = inr (a, (a, x, y, h, w, (tt, y, [], sym (append-nil y), (t, e, i), (refl, refl))))
front_cases {A} body whole_front ts (inr (a, x, y, h, w, inr (u, y1, y2, e, v, d))) = inr (a, (a, x, y, h, w, (tt, y1, y2, e, v, (d, refl))))

asks_cases : {A : Type 0} (body : Form A) → (ts : List Lexeme) (q : Reason) → (text_of body).asks ts q → body.asks ts q
asks_cases body ts q (inl p) = p
asks_cases body ts q (inr (a, x, y, h, w, inl i)) = absurd i.1
asks_cases body ts q (inr (a, x, y, h, w, inr (u, y1, y2, e, v, i))) = absurd i

-- the text is refused for its token t, which these tokens follow
abbrev pub IsFaultBy : {A : Type 0} → Form A → List Lexeme → Lexeme → Reason → List Lexeme → Type 0
IsFaultBy f ts t reason rest = (k : IsFault f ts t.line reason) × (k.behind ≡ rest)

-- what reading the body of a text says of the text
abbrev pub TextAnswer : {A : Type 0} → Form A → List Lexeme → Outcome A → Type 0
TextAnswer {A} body ts (Read a []) = ⊥
TextAnswer {A} body ts (Read a (t ∷ rest)) = elim (is_end t.kind) [
  | true ↦ (text_of body).whole ts a × ((b : A) → (text_of body).whole ts b → a ≡ b)
  | false ↦ IsFaultBy (text_of body) ts t (reason_of t []) rest
]
TextAnswer {A} body ts Short = ⊥
TextAnswer {A} body ts (Bad t sorts rest) = IsFaultBy (text_of body) ts t (reason_of t sorts) rest

pub text_answer : {A : Type 0} {body : Form A} {more : A → Lexeme → Bool} {r : List Lexeme → Outcome A} → Reads body more r → ((a : A) (t : Lexeme) → is_end t.kind ≡ true → more a t ≡ false)
    → (ts : List Lexeme) → Ends ts → TextAnswer body ts (r ts)
text_answer {A} {body} {more} {r} law apart ts ends = go (r ts) (law.meets ts) where
  -- a front of the body doesn't hold the end
  not_all : (x : List Lexeme) → ts ≡ x → body.front x → ⊥
  not_all x e p = let a = no_end_last ends.others ends.last (subst NoEnd (sym e ∙ ends.split) (law.inner x p)) in let b = ends.is_end in cc (a, b)

  -- the whole part of the text is all before the end
  before_end : (a : A) → (text_of body).whole ts a → body.whole ends.others a
  before_end a w =
      let k = body_of body ts a w in
      let same = same_cut ends.others k.0 ends.last k.1 [] ends.inner (law.inner k.0 (law.whole_front k.0 a k.4)) ends.is_end k.3 (sym ends.split ∙ k.2) in
      subst (λ z. body.whole z a) (sym same.0) k.4

  stops_end : (a : A) → Stops (more a) (ends.last ∷ [])
  stops_end a = apart a ends.last ends.is_end

  fault : (t : Lexeme) (sorts : List Reason) (rest x : List Lexeme) → ts ≡ x ++ t ∷ rest → body.front x → ((y others : List Lexeme) → ts ≡ y ++ others → body.front y → length rest < length others)
      → ((a : A) → (text_of body).whole ts a → ⊥) → (is_word t.kind ≡ true → AsksFor body x sorts) → IsFaultBy (text_of body) ts t (reason_of t sorts) rest
  fault t sorts rest x e p fronts none asked = (fault_of, refl) where
    whole_there : (a : A) → (text_of body).whole (x ++ t ∷ []) a → ⊥
    whole_there a w =
        let k = body_of body (x ++ t ∷ []) a w in
        let all : ts ≡ k.0 ++ k.1 ∷ rest = e ∙ sym (append_assoc x (t ∷ []) rest) ∙ ap (λ z. z ++ rest) k.2 ∙ append_assoc k.0 (k.1 ∷ []) rest in
        let same = same_cut ends.others k.0 ends.last k.1 rest ends.inner (law.inner k.0 (law.whole_front k.0 a k.4)) ends.is_end k.3 (sym ends.split ∙ all) in
        none a (subst (λ z. (text_of body).whole z a) (sym (e ∙ ap (λ z. x ++ t ∷ z) same.2)) w)

    no_front : body.front (x ++ t ∷ []) ⊎ ((a : A) × (text_of body).whole (x ++ t ∷ []) a) → ⊥
    no_front (inl q) = let l = fronts (x ++ t ∷ []) rest (e ∙ sym (append_assoc x (t ∷ []) rest)) q in omega arith
    no_front (inr (a, w)) = whole_there a w

    fault_of : IsFault (text_of body) ts t.line (reason_of t sorts)
    fault_of = record {
      outside = none;
      before = x;
      bad = t;
      behind = rest;
      split = e;
      is_bad = record { front = inl p; no_front = λ q. no_front (front_cases body law.whole_front (x ++ t ∷ []) q) };
      in_line = refl;
      is_reason = reason_is (text_of body) x t sorts (λ w. record { found = λ q i. inl ((asked w).found q i); all = λ q i. (asked w).all q (asks_cases body x q i) });
    }

  read_to : (a : A) (t : Lexeme) (rest : List Lexeme) → ReadsTo body more ts a (t ∷ rest) → (b : Bool) → is_end t.kind ≡ b
      → elim b as (λ _. Type 0) [ true ↦ (text_of body).whole ts a × ((b : A) → (text_of body).whole ts b → a ≡ b) | false ↦ IsFaultBy (text_of body) ts t (reason_of t []) rest ]
  read_to a t rest m true i =
      let same = same_cut ends.others m.x ends.last t rest ends.inner (law.inner m.x (law.whole_front m.x a m.whole)) ends.is_end i (sym ends.split ∙ m.split) in
      let e : ts ≡ m.x ++ t ∷ [] = m.split ∙ ap (λ z. m.x ++ t ∷ z) same.2 in (
        subst (λ z. (text_of body).whole z a) (sym e) (text_whole body m.x t a i m.whole),
        λ b w. (m.only b ends.others (ends.last ∷ []) ends.split (before_end b w) (stops_end b)).0,
      )
  read_to a t rest m false i = fault t [] rest m.x m.split (law.whole_front m.x a m.whole) further none (λ w. record { found = λ q k. absurd k; all = λ q k. absurd (m.quiet w q k) }) where
    none : (b : A) → (text_of body).whole ts b → ⊥
    none b w =
        let k = m.only b ends.others (ends.last ∷ []) ends.split (before_end b w) (stops_end b) in
        let same : t ≡ ends.last = cc k.1 in
        let a : is_end t.kind ≡ is_end ends.last.kind = ap (λ z. is_end z.kind) same in let b = ends.is_end in cc (a, b, i)

    further : (y others : List Lexeme) → ts ≡ y ++ others → body.front y → length rest < length others
    further y others e p = let l = m.fronts y others e p in omega arith

  go : (o : Outcome A) → Meets body more ts o → TextAnswer body ts o
  go (Read a []) m = not_all m.x (m.split ∙ append-nil m.x) (law.whole_front m.x a m.whole)
  go (Read a (t ∷ rest)) m = read_to a t rest m (is_end t.kind) refl
  go Short m = not_all ts refl m.front
  go (Bad t sorts rest) m = fault t sorts rest m.x m.split m.front m.fronts (λ a w. m.none a ends.others (ends.last ∷ []) ends.split (before_end a w) (stops_end a)) m.asked
