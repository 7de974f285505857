-- The tokens before any place of a front, or of a whole list, are a front. So a text has one bad token.
use Rattle.std.proofs.Common.{◌≡◌, ◌⊎◌, inl, inr, refl, sym, ◌∙◌, ap, subst, ◌≤◌, ℕ, List, [], ◌∷◌, ◌++◌, Bool, true, false, arith, append_assoc}
use Rattle.token_forms.specs.declared.token.Reason.{Reason}
use Rattle.token_forms.specs.Token.{Lexeme}
use Rattle.token_forms.specs.Form.{Form, one, done, nowhere, either_form, many, last, next, ◌>>=◌}
use Rattle.token_forms.specs.Words.{skip, line, lines}
use Rattle.token_forms.specs.Faults.{IsBad, IsReason, IsFault, reason_order}
use Rattle.token_forms.specs.Fronts.{IsRefusedOnce}
use Rattle.token_forms.specs.TextTokens.{text_tokens}
use Rattle.token_forms.specs.BadTokens.{HasOneBadToken, HasOneBadTokenAmong, bad_token_of}
use Rattle.token_forms.proofs.ReasonLaws.{of_rank, rank_back}

pub record Closed {A : Type 0} (f : Form A) : Type 0 where
  pub whole : (x y : List Lexeme) (a : A) → f.whole (x ++ y) a → f.front x
  pub front : (x y : List Lexeme) → f.front (x ++ y) → f.front x

none_of : (x y : List Lexeme) → x ++ y ≡ [] → x ≡ []
none_of [] y e = refl
none_of (u ∷ x) y e = absurd (cc e)

one_of : (x y : List Lexeme) (t : Lexeme) → x ++ y ≡ t ∷ [] → (x ≡ []) ⊎ (x ≡ t ∷ [])
one_of [] y t e = inl refl
one_of (u ∷ []) y t e = inr (cc e)
one_of (u ∷ v ∷ x) y t e = absurd (cc e)

-- of two cuts of a list one comes first
cut : (p q x y : List Lexeme) → p ++ q ≡ x ++ y → ((r : List Lexeme) × (x ≡ p ++ r)) ⊎ ((r : List Lexeme) × (p ≡ x ++ r) × (y ≡ r ++ q))
cut [] q x y e = inl (x, refl)
cut (t ∷ p) q [] y e = inr (t ∷ p, refl, sym e)
cut (t ∷ p) q (u ∷ x) y e = go (cut p q x y (cc e)) where
  same : t ≡ u
  same = cc e

  go : ((r : List Lexeme) × (x ≡ p ++ r)) ⊎ ((r : List Lexeme) × (p ≡ x ++ r) × (y ≡ r ++ q))
      → ((r : List Lexeme) × (u ∷ x ≡ t ∷ (p ++ r))) ⊎ ((r : List Lexeme) × (t ∷ p ≡ u ∷ (x ++ r)) × (y ≡ r ++ q))
  go (inl (r, h)) = inl (r, cc (same, h))
  go (inr (r, h, k)) = inr (r, cc (same, h), k)

pub one_closed : {A : Type 0} {Is : Lexeme → A → Type 0} (sorts : List Reason) → Closed (one sorts Is)
one_closed {A} {Is} sorts = record { whole = λ x y a w. begun x w.0 a (one_of x y w.0 w.1) w.2; front = front } where
  begun : (x : List Lexeme) (t : Lexeme) (a : A) → (x ≡ []) ⊎ (x ≡ t ∷ []) → Is t a → (one sorts Is).front x
  begun x t a (inl e) i = inl e
  begun x t a (inr e) i = inr (t, a, e, i)

  front : (x y : List Lexeme) → (one sorts Is).front (x ++ y) → (one sorts Is).front x
  front x y (inl e) = inl (none_of x y e)
  front x y (inr (t, a, e, i)) = begun x t a (one_of x y t e) i

pub done_closed : {A : Type 0} (a : A) → Closed (done a)
done_closed a = record { whole = λ x y b w. none_of x y w.0; front = none_of }

pub nowhere_closed : {A : Type 0} → Closed (nowhere {A = A})
nowhere_closed = record { whole = λ x y a w. absurd w; front = none_of }

pub either_closed : {A : Type 0} {f g : Form A} → Closed f → Closed g → Closed (either_form f g)
either_closed {A} {f} {g} k l = record { whole = whole; front = front } where
  whole : (x y : List Lexeme) (a : A) → (either_form f g).whole (x ++ y) a → (either_form f g).front x
  whole x y a (inl w) = inl (k.whole x y a w)
  whole x y a (inr w) = inr (l.whole x y a w)

  front : (x y : List Lexeme) → (either_form f g).front (x ++ y) → (either_form f g).front x
  front x y (inl p) = inl (k.front x y p)
  front x y (inr p) = inr (l.front x y p)

pub bind_closed : {A B : Type 0} {f : Form A} {g : A → Form B} → Closed f → ((a : A) → Closed (g a)) → Closed (f >>= g)
bind_closed {A} {B} {f} {g} k ks = record { whole = λ p q b w. behind w.0 p q w.1 w.2 w.3 w.4 (λ r j. (ks w.0).whole r q b (subst (λ z. (g w.0).whole z b) j w.5)); front = front } where
  behind : (a : A) (p q x y : List Lexeme) → p ++ q ≡ x ++ y → f.whole x a → ((r : List Lexeme) → y ≡ r ++ q → (g a).front r) → (f >>= g).front p
  behind a p q x y e w further = go (cut p q x y e) where
    go : ((r : List Lexeme) × (x ≡ p ++ r)) ⊎ ((r : List Lexeme) × (p ≡ x ++ r) × (y ≡ r ++ q)) → (f >>= g).front p
    go (inl (r, h)) = inl (k.whole p r a (subst (λ z. f.whole z a) h w))
    go (inr (r, h, j)) = inr (a, x, r, h, w, further r j)

  front : (p q : List Lexeme) → (f >>= g).front (p ++ q) → (f >>= g).front p
  front p q (inl i) = inl (k.front p q i)
  front p q (inr (a, x, y, e, w, v)) = behind a p q x y e w (λ r j. (ks a).front r q (subst (g a).front j v))

module _ {S : Type 0} {item : S → Form S} (laws : (s : S) → Closed (item s)) where
  -- the front ends in a whole item, or after it
  behind_item : (s s1 : S) (p q x y : List Lexeme) → p ++ q ≡ x ++ y → (item s).whole x s1 → ((r : List Lexeme) → y ≡ r ++ q → (many item s1).front r) → (many item s).front p
  behind_item s s1 p q x y e w further = go (cut p q x y e) where
    go : ((r : List Lexeme) × (x ≡ p ++ r)) ⊎ ((r : List Lexeme) × (p ≡ x ++ r) × (y ≡ r ++ q)) → (many item s).front p
    go (inl (r, h)) = last (inr ((laws s).whole p r s1 (subst (λ z. (item s).whole z s1) h w)))
    go (inr (r, h, j)) = subst (λ z. (many item s).front z) (sym h) (next w (further r j))

  many_front : (s : S) (ts p q : List Lexeme) → p ++ q ≡ ts → (many item s).front ts → (many item s).front p
  many_front s ts p q e (last (inl h)) = last (inl (none_of p q (e ∙ h)))
  many_front s ts p q e (last (inr f)) = last (inr ((laws s).front p q (subst (λ z. (item s).front z) (sym e) f)))
  many_front s ts p q e (next {s1 = s1} {x = x} {ts = y} w c) = behind_item s s1 p q x y e w (λ r j. many_front s1 y r q (sym j) c)

  many_whole : (a s : S) (ts p q : List Lexeme) → p ++ q ≡ ts → (many item s).whole ts a → (many item s).front p
  many_whole a s ts p q e (last h) = last (inl (none_of p q (e ∙ h.0)))
  many_whole a s ts p q e (next {s1 = s1} {x = x} {ts = y} w c) = behind_item s s1 p q x y e w (λ r j. many_whole a s1 y r q (sym j) c)

  pub many_closed : (s : S) → Closed (many item s)
  many_closed s = record { whole = λ x y a w. many_whole a s (x ++ y) x y refl w; front = λ x y p. many_front s (x ++ y) x y refl p }

pub skip_closed : (test : Lexeme → Bool) → Closed (skip test)
skip_closed test = many_closed (λ _. one_closed []) tt

pub line_closed : {S : Type 0} {statement : S → Form S} (test : Lexeme → Bool) → ((s : S) → Closed (statement s)) → (s : S) (b : Bool) → Closed (line test statement (s, b))
line_closed test laws s true = either_closed (bind_closed (one_closed []) (λ _. done_closed _)) (bind_closed (laws s) (λ _. done_closed _))
line_closed test laws s false = bind_closed (one_closed []) (λ _. done_closed _)

pub lines_closed : {S : Type 0} {statement : S → Form S} (test : Lexeme → Bool) → ((s : S) → Closed (statement s)) → (s : S × Bool) → Closed (lines test statement s)
lines_closed test laws s = bind_closed (many_closed (λ r. line_closed test laws r.0 r.1) s) (λ _. done_closed _)

-- two places in a list are the same, or one comes before the other
abbrev Before : List Lexeme → Lexeme → List Lexeme → Type 0
Before a t b = (r : List Lexeme) × (b ≡ a ++ t ∷ r)

abbrev Places : List Lexeme → Lexeme → List Lexeme → Lexeme → Type 0
Places a t b u = ((a ≡ b) × (t ≡ u)) ⊎ (Before a t b ⊎ Before b u a)

places : (a : List Lexeme) (t : Lexeme) (r b : List Lexeme) (u : Lexeme) (s : List Lexeme) → a ++ t ∷ r ≡ b ++ u ∷ s → Places a t b u
places [] t r [] u s e = inl (refl, cc e)
places [] t r (v ∷ b) u s e = inr (inl (b, cc e))
places (v ∷ a) t r [] u s e = inr (inr (a, cc e))
places (v ∷ a) t r (w ∷ b) u s e = go (places a t r b u s (cc e)) where
  same : v ≡ w
  same = cc e

  go : Places a t b u → Places (v ∷ a) t (w ∷ b) u
  go (inl (h, k)) = inl (cc (same, h), k)
  go (inr (inl (z, h))) = inr (inl (z, cc (same, h)))
  go (inr (inr (z, h))) = inr (inr (z, cc (same, h)))

-- no front goes past the bad token
not_past : {A : Type 0} {f : Form A} → Closed f → (a b : List Lexeme) (t : Lexeme) → IsBad f a t → f.front b → Before a t b → ⊥
not_past {A} {f} k a b t bad p (r, h) = bad.no_front (k.front (a ++ t ∷ []) r (subst (λ z. f.front z) (h ∙ sym (append_assoc a (t ∷ []) r)) p))

-- the first reason that applies is one
one_reason : {A : Type 0} {f : Form A} (a : List Lexeme) (t : Lexeme) (p q : Reason) → IsReason f a t p → IsReason f a t q → p ≡ q
one_reason a t p q i j =
    let low : reason_order p ≤ reason_order q = i.first q j.applies in
    let high : reason_order q ≤ reason_order p = j.first p i.applies in
    let same : reason_order p ≡ reason_order q = omega arith in
    sym (rank_back p) ∙ ap of_rank same ∙ rank_back q

-- tokens outside a form have one bad token
pub one_token : {A : Type 0} {f : Form A} → Closed f → (ts : List Lexeme) (line other : ℕ) (reason why : Reason) (i : IsFault f ts line reason) (j : IsFault f ts other why) → i.bad ≡ j.bad
one_token {A} {f} k ts line other reason why i j = go (places i.before i.bad i.behind j.before j.bad j.behind (sym i.split ∙ j.split)) where
  go : Places i.before i.bad j.before j.bad → i.bad ≡ j.bad
  go (inl (h, e)) = e
  go (inr (inl b)) = absurd (not_past k i.before j.before i.bad i.is_bad j.is_bad.front b)
  go (inr (inr b)) = absurd (not_past k j.before i.before j.bad j.is_bad i.is_bad.front b)

pub refused_once : {A : Type 0} {f : Form A} → Closed f → (ts : List Lexeme) → IsRefusedOnce f ts
refused_once {A} {f} k ts line other reason why i j = go (places i.before i.bad i.behind j.before j.bad j.behind (sym i.split ∙ j.split)) where
  go : Places i.before i.bad j.before j.bad → (line ≡ other) × (reason ≡ why)
  go (inl (h, e)) = (
    i.in_line ∙ ap (λ z. z.line) e ∙ sym j.in_line,
    one_reason i.before i.bad reason why i.is_reason (subst (λ z. IsReason f z i.bad why) (sym h) (subst (λ z. IsReason f j.before z why) (sym e) j.is_reason)),
  )
  go (inr (inl b)) = absurd (not_past k i.before j.before i.bad i.is_bad j.is_bad.front b)
  go (inr (inr b)) = absurd (not_past k j.before i.before j.bad j.is_bad i.is_bad.front b)

pub bad_token_one : {A : Type 0} {f : Form A} → Closed f → (ts : List Lexeme) (text : List ℕ) → HasOneBadTokenAmong f ts text
bad_token_one {A} {f} k ts text b other i j =
    let token : i.fault.bad ≡ j.fault.bad = one_token k ts b.line other.line b.reason other.reason i.fault j.fault in
    let reason : b.reason ≡ other.reason = (refused_once k ts b.line other.line b.reason other.reason i.fault j.fault).1 in
    i.placed ∙ ap (λ t. bad_token_of text t b.reason) token ∙ ap (bad_token_of text j.fault.bad) reason ∙ sym j.placed

pub bad_token_once : {A : Type 0} {f : Form A} → Closed f → (text : List ℕ) → HasOneBadToken f text
bad_token_once k text = bad_token_one k (text_tokens text) text
