-- Texts that mean a value of a form, whatever comes before and after them.
use Rattle.std.proofs.Common.{take_at, le-leb, ◌≡◌, inl, inr, refl, sym, ◌∙◌, ap, subst, ℕ, suc, ◌+◌, ◌-◌, ◌≤◌, ◌==◌, not, nat_le, List, [], ◌∷◌, ◌++◌, length, take, Bool, true, false, cond, Option, Some, slice_get, append_assoc, length-append, arith}
use Rattle.std.specs.List.{prefix_len, list_all, cons_option}
use Rattle.std.specs.Option.{option_map}
use Rattle.std.proofs.lemmas.Bool.{and_parts}
use Rattle.std.proofs.lemmas.Bool.Decides.{nat_tests}
use Rattle.std.proofs.lemmas.Slice.Eq.{bytes_eq-Decides}
use Rattle.token_forms.specs.declared.piece.Piece.{Piece}
use Rattle.token_forms.specs.declared.token.TokenKind.{TokenKind}
use Rattle.token_forms.specs.declared.token.TokenKind.TheVariants as kinds
use Rattle.token_forms.specs.declared.token.Reason.{Reason}
use Rattle.token_forms.specs.Bytes.{is_blank, is_mark_byte, is_word_byte, is_string_byte, is_line_feed}
use Rattle.token_forms.specs.Token.{Lexeme, Spelling}
use Rattle.token_forms.specs.Tokens.{token, gap, piece, next_line, tokens_from}
use Rattle.token_forms.specs.TextTokens.{linked, is_change_word}
use Rattle.listing_laws.proofs.WordTexts.{Word}
use Rattle.token_forms.specs.Form.{Form, one, done, either_form, many, last, next, ◌>>=◌, ◌>>◌}
use Rattle.token_forms.specs.Words.{text, text_value, mark, is_the_mark, if_true, word, word_by, word_is, word_value, this_word}

-- the tokens of a text's rest, in nft's language
abbrev pub lexed : Bool → ℕ → ℕ → List ℕ → List Lexeme
lexed behind line place bytes = linked false behind (tokens_from 0 line place bytes)

-- a word ends before these bytes
abbrev pub apart : List ℕ → Bool
apart [] = true
apart (b ∷ bytes) = not (is_word_byte b)

-- these bytes may follow a text: any bytes, if it is closed, and else those that don't go on with its last word
abbrev pub may_follow : Bool → List ℕ → Bool
may_follow true rest = true
may_follow false rest = apart rest

-- a text's front has these tokens, and they mean such a value
pub record Found {A : Type 0} (f : Form A) (P : A → Type 0) (text rest : List ℕ) (behind : Bool) (line place : ℕ) : Type 0 where
  pub value : A
  pub is : P value
  pub tokens : List Lexeme
  pub whole : f.whole tokens value
  pub behind_after : Bool
  pub line_after : ℕ
  pub place_after : ℕ
  pub cut : lexed behind line place (text ++ rest) ≡ tokens ++ lexed behind_after line_after place_after rest

-- wherever it is, the text has tokens that mean such a value
pub record Means {A : Type 0} (closed : Bool) (f : Form A) (text : List ℕ) (P : A → Type 0) : Type 0 where
  pub found : (behind : Bool) (line place : ℕ) (rest : List ℕ) → may_follow closed rest ≡ true → Found f P text rest behind line place

abbrev pub Is : {A : Type 0} → A → A → Type 0
Is v a = a ≡ v

-- what comes next is fit to follow
abbrev pub Goes : Bool → Bool → List ℕ → Type 0
Goes first second text = (rest : List ℕ) → may_follow second rest ≡ true → may_follow first (text ++ rest) ≡ true

pub means_done : {A : Type 0} (closed : Bool) (a : A) (P : A → Type 0) → P a → Means closed (done a) [] P
means_done closed a P p = record {
  found = λ behind line place rest h. record { value = a; is = p; tokens = []; whole = (refl, refl); behind_after = behind; line_after = line; place_after = place; cut = refl };
}

pub means_bind : {A B : Type 0} (f : Form A) (g : A → Form B) (c1 c2 : Bool) (t1 t2 : List ℕ) (P : A → Type 0) (Q : B → Type 0)
    → Means c1 f t1 P → Goes c1 c2 t2 → ((a : A) → P a → Means c2 (g a) t2 Q) → Means c2 (f >>= g) (t1 ++ t2) Q
means_bind f g c1 c2 t1 t2 P Q h goes k = record {
  found = λ behind line place rest fit.
      let x = h.found behind line place (t2 ++ rest) (goes rest fit) in
      let y = (k x.value x.is).found x.behind_after x.line_after x.place_after rest fit in
      record {
        value = y.value;
        is = y.is;
        tokens = x.tokens ++ y.tokens;
        whole = (x.value, x.tokens, y.tokens, refl, x.whole, y.whole);
        behind_after = y.behind_after;
        line_after = y.line_after;
        place_after = y.place_after;
        cut = ap (lexed behind line place) (append_assoc t1 t2 rest) ∙ x.cut ∙ ap (λ z. x.tokens ++ z) y.cut ∙ sym (append_assoc x.tokens y.tokens (lexed y.behind_after y.line_after y.place_after rest));
      };
}

pub means_weaken : {A : Type 0} (f : Form A) (c : Bool) (t : List ℕ) (P Q : A → Type 0) → ((a : A) → P a → Q a) → Means c f t P → Means c f t Q
means_weaken f c t P Q weaker h = record {
  found = λ behind line place rest fit.
      let x = h.found behind line place rest fit in
      record { value = x.value; is = weaker x.value x.is; tokens = x.tokens; whole = x.whole; behind_after = x.behind_after; line_after = x.line_after; place_after = x.place_after; cut = x.cut };
}

-- an exact value goes on
pub means_then : {A B : Type 0} (f : Form A) (g : A → Form B) (c1 c2 : Bool) (t1 t2 : List ℕ) (v : A) (Q : B → Type 0)
    → Means c1 f t1 (Is v) → Goes c1 c2 t2 → Means c2 (g v) t2 Q → Means c2 (f >>= g) (t1 ++ t2) Q
means_then f g c1 c2 t1 t2 v Q h goes k = means_bind f g c1 c2 t1 t2 (Is v) Q h goes (λ a e. subst (λ z. Means c2 (g z) t2 Q) (sym e) k)

-- what comes next doesn't depend on the value
pub means_seq : {A B : Type 0} {f : Form A} {h : Form B} {c1 c2 : Bool} {t1 t2 : List ℕ} {P : A → Type 0} {Q : B → Type 0}
    → Means c1 f t1 P → Means c2 h t2 Q → Goes c1 c2 t2 → Means c2 (f >> h) (t1 ++ t2) Q
means_seq {A} {B} {f} {h} {c1} {c2} {t1} {t2} {P} {Q} first second goes = means_bind f (λ _. h) c1 c2 t1 t2 P Q first goes (λ a p. second)

-- a closed text is fit for more than one that isn't
pub means_closed : {A : Type 0} {f : Form A} {t : List ℕ} {P : A → Type 0} → Means true f t P → Means false f t P
means_closed h = record { found = λ behind line place rest fit. h.found behind line place rest refl }

pub means_last : {S : Type 0} (item : S → Form S) (closed : Bool) (s : S) (P : S → Type 0) → P s → Means closed (many item s) [] P
means_last item closed s P p = record {
  found = λ behind line place rest h. record { value = s; is = p; tokens = []; whole = last (refl, refl); behind_after = behind; line_after = line; place_after = place; cut = refl };
}

pub means_next : {S : Type 0} (item : S → Form S) (s : S) (c1 c2 : Bool) (t1 t2 : List ℕ) (P Q : S → Type 0)
    → Means c1 (item s) t1 P → Goes c1 c2 t2 → ((s1 : S) → P s1 → Means c2 (many item s1) t2 Q) → Means c2 (many item s) (t1 ++ t2) Q
means_next item s c1 c2 t1 t2 P Q h goes k = record {
  found = λ behind line place rest fit.
      let x = h.found behind line place (t2 ++ rest) (goes rest fit) in
      let y = (k x.value x.is).found x.behind_after x.line_after x.place_after rest fit in
      record {
        value = y.value;
        is = y.is;
        tokens = x.tokens ++ y.tokens;
        whole = next x.whole y.whole;
        behind_after = y.behind_after;
        line_after = y.line_after;
        place_after = y.place_after;
        cut = ap (lexed behind line place) (append_assoc t1 t2 rest) ∙ x.cut ∙ ap (λ z. x.tokens ++ z) y.cut ∙ sym (append_assoc x.tokens y.tokens (lexed y.behind_after y.line_after y.place_after rest));
      };
}

-- an item that is exactly this, and those after it
pub means_then_next : {S : Type 0} (item : S → Form S) (s s1 : S) (c1 c2 : Bool) (t1 t2 : List ℕ) (Q : S → Type 0)
    → Means c1 (item s) t1 (Is s1) → Goes c1 c2 t2 → Means c2 (many item s1) t2 Q → Means c2 (many item s) (t1 ++ t2) Q
means_then_next item s s1 c1 c2 t1 t2 Q h goes k = means_next item s c1 c2 t1 t2 (Is s1) Q h goes (λ z e. subst (λ r. Means c2 (many item r) t2 Q) (sym e) k)

pub means_left : {A : Type 0} (f g : Form A) (c : Bool) (t : List ℕ) (P : A → Type 0) → Means c f t P → Means c (either_form f g) t P
means_left f g c t P h = record {
  found = λ behind line place rest fit.
      let x = h.found behind line place rest fit in
      record { value = x.value; is = x.is; tokens = x.tokens; whole = inl x.whole; behind_after = x.behind_after; line_after = x.line_after; place_after = x.place_after; cut = x.cut };
}

pub means_right : {A : Type 0} (f g : Form A) (c : Bool) (t : List ℕ) (P : A → Type 0) → Means c g t P → Means c (either_form f g) t P
means_right f g c t P h = record {
  found = λ behind line place rest fit.
      let x = h.found behind line place rest fit in
      record { value = x.value; is = x.is; tokens = x.tokens; whole = inr x.whole; behind_after = x.behind_after; line_after = x.line_after; place_after = x.place_after; cut = x.cut };
}

-- A blank before a text is no token.
pub means_blank : {A : Type 0} (f : Form A) (c : Bool) (b : ℕ) (t : List ℕ) (P : A → Type 0) → ((bytes : List ℕ) → piece b bytes ≡ gap 1) → Means c f t P → Means c f (b ∷ t) P
means_blank f c b t P blank h = record {
  found = λ behind line place rest fit.
      let x = h.found behind (next_line b line) (place + 1) rest fit in
      record { value = x.value; is = x.is; tokens = x.tokens; whole = x.whole; behind_after = x.behind_after; line_after = x.line_after; place_after = x.place_after; cut = rw (blank (t ++ rest)) x.cut };
}

pub means_space : {A : Type 0} {f : Form A} {c : Bool} {t : List ℕ} {P : A → Type 0} → Means c f t P → Means c f (32 ∷ t) P
means_space {A} {f} {c} {t} {P} h = means_blank f c 32 t P (λ bytes. refl) h

pub means_tab : {A : Type 0} {f : Form A} {c : Bool} {t : List ℕ} {P : A → Type 0} → Means c f t P → Means c f (9 ∷ t) P
means_tab {A} {f} {c} {t} {P} h = means_blank f c 9 t P (λ bytes. refl) h

-- a token with all that a form can see of it
abbrev pub token_at : TokenKind → List ℕ → Bool → ℕ → ℕ → Lexeme
token_at kind bytes behind line place = record { kind = kind; line = line; from = place; bytes = bytes; behind = behind; plain = false }

abbrev spelled : TokenKind → ℕ → ℕ → List ℕ → Spelling
spelled kind line place bytes = record { kind = kind; line = line; from = place; bytes = bytes }

-- the place after these bytes
skipped : (inside rest : List ℕ) (line place : ℕ) → (line_after place_after : ℕ) × (tokens_from (length inside) line place (inside ++ rest) ≡ tokens_from 0 line_after place_after rest)
skipped [] rest line place = (line, place, refl)
skipped (b ∷ inside) rest line place = skipped inside rest (next_line b line) (place + 1)

-- A text that is one token.
pub means_token : {A : Type 0} (sorts : List Reason) (Fits : Lexeme → A → Type 0) (P : A → Type 0) (closed : Bool) (kind : TokenKind) (b : ℕ) (inside : List ℕ)
    → ((rest : List ℕ) → may_follow closed rest ≡ true → piece b (inside ++ rest) ≡ token kind (suc (length inside)))
    → ((behind : Bool) (line place : ℕ) → (a : A) × P a × Fits (token_at kind (b ∷ inside) behind line place) a) → Means closed (one sorts Fits) (b ∷ inside) P
means_token sorts Fits P closed kind b inside cut fits = record {
  found = λ behind line place rest fit.
      let after = skipped inside rest (next_line b line) (place + 1) in
      let a = fits behind line place in
      let bytes : take (suc (length inside)) (b ∷ (inside ++ rest)) ≡ b ∷ inside = take_at (b ∷ inside) rest (suc (length inside)) refl in
      let less : suc (length inside) - 1 ≡ length inside = omega arith in
      let is = token_at kind (b ∷ inside) behind line place in
      record {
        value = a.0;
        is = a.1;
        tokens = is ∷ [];
        whole = (is, refl, a.2);
        behind_after = is_change_word kind (b ∷ inside);
        line_after = after.0;
        place_after = after.1;
        cut =
            ap (λ (p : Piece). linked false behind (cons_option (option_map (λ (k : TokenKind). spelled k line place (take p.size (b ∷ (inside ++ rest)))) p.kind) (tokens_from (p.size - 1) (next_line b line) (place + 1) (inside ++ rest)))) (cut rest fit)
            ∙ ap (λ (z : List ℕ). linked false behind (spelled kind line place z ∷ tokens_from (suc (length inside) - 1) (next_line b line) (place + 1) (inside ++ rest))) bytes
            ∙ ap (λ (n : ℕ). linked false behind (spelled kind line place (b ∷ inside) ∷ tokens_from n (next_line b line) (place + 1) (inside ++ rest))) less
            ∙ ap (λ (ts : List Spelling). linked false behind (spelled kind line place (b ∷ inside) ∷ ts)) after.2;
      };
}

-- A byte that is a token by itself.
pub means_byte : {A : Type 0} (sorts : List Reason) (Fits : Lexeme → A → Type 0) (kind : TokenKind) (b : ℕ) (a : A) → ((bytes : List ℕ) → piece b bytes ≡ token kind 1)
    → ((behind : Bool) (line place : ℕ) → Fits (token_at kind (b ∷ []) behind line place) a) → Means true (one sorts Fits) (b ∷ []) (Is a)
means_byte sorts Fits kind b a cut fits = means_token sorts Fits (Is a) true kind b [] (λ rest fit. cut rest) (λ behind line place. (a, refl, fits behind line place))

run : (test : ℕ → Bool) (bytes rest : List ℕ) → list_all test bytes ≡ true → prefix_len test rest ≡ 0 → prefix_len test (bytes ++ rest) ≡ length bytes
run test [] rest all stop = stop
run test (b ∷ bytes) rest all stop =
    let both = and_parts (test b) (list_all test bytes) all in
    rw both.0 (omega (arith, run test bytes rest both.1 stop))

there : (bytes rest : List ℕ) → slice_get (bytes ++ 34 ∷ rest) (length bytes) ≡ Some 34
there [] rest = refl
there (b ∷ bytes) rest = there bytes rest

word_ends : (rest : List ℕ) → apart rest ≡ true → prefix_len is_word_byte rest ≡ 0
word_ends [] h = refl
word_ends (b ∷ rest) h = go (is_word_byte b) h where
  go : (t : Bool) → not t ≡ true → cond t (1 + prefix_len is_word_byte rest) 0 ≡ 0
  go true h = absurd (cc h)
  go false h = refl

pub other_class : (b : ℕ) → is_word_byte b ≡ true → (is_blank b ≡ false) × ((b == 92) ≡ false) × ((b == 35) ≡ false) × (is_line_feed b ≡ false) × (is_mark_byte b ≡ false) × ((b == 34) ≡ false)
other_class b h = (grind (arith, nat_tests), grind (arith, nat_tests), grind (arith, nat_tests), grind (arith, nat_tests), grind (arith, nat_tests), grind (arith, nat_tests))

word_piece : (b : ℕ) (bytes : List ℕ) → is_word_byte b ≡ true → piece b bytes ≡ token kinds.Word (1 + prefix_len is_word_byte bytes)
word_piece b bytes h = let o = other_class b h in rw (o.0, o.1, o.2, o.3, o.4, o.5, h) refl

-- A word that its place gives a value.
pub means_word : {A : Type 0} (sorts : List Reason) (Fits : Lexeme → A → Type 0) (P : A → Type 0) (text : List ℕ) → Word text
    → ((behind : Bool) (line place : ℕ) → (a : A) × P a × Fits (token_at kinds.Word text behind line place) a) → Means false (one sorts Fits) text P
means_word sorts Fits P [] word fits = absurd (omega (arith, word.some))
means_word sorts Fits P (b ∷ inside) word fits = means_token sorts Fits P false kinds.Word b inside cut fits where
  cut : (rest : List ℕ) → apart rest ≡ true → piece b (inside ++ rest) ≡ token kinds.Word (suc (length inside))
  cut rest fit =
      let both = and_parts (is_word_byte b) (list_all is_word_byte inside) word.bytes.all in
      let size : 1 + prefix_len is_word_byte (inside ++ rest) ≡ suc (length inside) = omega (arith, run is_word_byte inside rest both.1 (word_ends rest fit)) in
      word_piece b (inside ++ rest) both.0 ∙ ap (token kinds.Word) size

-- A comment up to the end of its line is no token.
pub means_comment : {A : Type 0} (f : Form A) (c : Bool) (comment t : List ℕ) (P : A → Type 0) → list_all (λ b. not (is_line_feed b)) comment ≡ true → Means c f (10 ∷ t) P → Means c f (35 ∷ (comment ++ 10 ∷ t)) P
means_comment f c comment t P all h = record {
  found = λ behind line place rest fit.
      let after = skipped comment (10 ∷ (t ++ rest)) line (place + 1) in
      let x = h.found behind after.0 after.1 rest fit in
      let size : 1 + prefix_len (λ b. not (is_line_feed b)) (comment ++ 10 ∷ (t ++ rest)) ≡ suc (length comment) = omega (arith, run (λ b. not (is_line_feed b)) comment (10 ∷ (t ++ rest)) all refl) in
      let less : suc (length comment) - 1 ≡ length comment = omega arith in
      record {
        value = x.value;
        is = x.is;
        tokens = x.tokens;
        whole = x.whole;
        behind_after = x.behind_after;
        line_after = x.line_after;
        place_after = x.place_after;
        cut =
            ap (λ (z : List ℕ). lexed behind line place (35 ∷ z)) (append_assoc comment (10 ∷ t) rest)
            ∙ ap (λ (n : ℕ). linked false behind (tokens_from (n - 1) line (place + 1) (comment ++ 10 ∷ (t ++ rest)))) size
            ∙ ap (λ (n : ℕ). linked false behind (tokens_from n line (place + 1) (comment ++ 10 ∷ (t ++ rest)))) less
            ∙ ap (linked false behind) after.2
            ∙ x.cut;
      };
}

-- A string in quotes.
pub means_text : (bytes : List ℕ) → list_all is_string_byte bytes ≡ true → length bytes ≤ 128 → Means true text (34 ∷ (bytes ++ 34 ∷ [])) (Is bytes)
means_text bytes all short = means_token [] (λ t a. text_value t ≡ Some a) (Is bytes) true kinds.Text 34 (bytes ++ 34 ∷ []) cut fits where
  cut : (rest : List ℕ) → true ≡ true → piece 34 ((bytes ++ 34 ∷ []) ++ rest) ≡ token kinds.Text (suc (length (bytes ++ 34 ∷ [])))
  cut rest fit =
      let size = run is_string_byte bytes (34 ∷ rest) all refl in
      let quote : slice_get (bytes ++ 34 ∷ rest) (length bytes) ≡ Some 34 = there bytes rest in
      let short_enough : nat_le (length bytes) 128 ≡ true = le-leb (length bytes) 128 short in
      let long : length bytes + 2 ≡ suc (length (bytes ++ 34 ∷ [])) = omega (arith, length-append bytes (34 ∷ [])) in
      rw (append_assoc bytes (34 ∷ []) rest, size, short_enough, quote) (ap (token kinds.Text) long)

  fits : (behind : Bool) (line place : ℕ) → (a : List ℕ) × (a ≡ bytes) × (text_value (token_at kinds.Text (34 ∷ (bytes ++ 34 ∷ [])) behind line place) ≡ Some a)
  fits behind line place =
      let inside : length (34 ∷ (bytes ++ 34 ∷ [])) - 2 ≡ length bytes = omega (arith, length-append bytes (34 ∷ [])) in
      (bytes, refl, ap Some (ap (λ n. take n (bytes ++ 34 ∷ [])) inside ∙ take_at bytes (34 ∷ []) (length bytes) refl))

-- More bytes between two parts of a form: any text that is spelled in this way.
pub means_as : {A : Type 0} (f : Form A) (c : Bool) (t u : List ℕ) (P : A → Type 0) → t ≡ u → Means c f t P → Means c f u P
means_as f c t u P e h = subst (λ z. Means c f z P) e h

-- A word whose text means a value by a relation, or by a function.
pub means_word_is : {A : Type 0} (sorts : List Reason) (Fits : List ℕ → A → Type 0) (text : List ℕ) (a : A) → Word text → Fits text a → Means false (word_is sorts Fits) text (Is a)
means_word_is sorts Fits text a word is = means_word sorts (λ t a. (t.kind ≡ kinds.Word) × Fits t.bytes a) (Is a) text word (λ behind line place. (a, refl, (refl, is)))

pub means_word_by : {A : Type 0} (sorts : List Reason) (value : Lexeme → Option A) (text : List ℕ) (a : A) → Word text → ((behind : Bool) (line place : ℕ) → value (token_at kinds.Word text behind line place) ≡ Some a)
    → Means false (word_by sorts value) text (Is a)
means_word_by sorts value text a word is = means_word sorts (λ t a. word_value value t ≡ Some a) (Is a) text word (λ behind line place. (a, refl, is behind line place))

-- this word
pub means_literal : (b : ℕ) (inside : List ℕ) → list_all is_word_byte (b ∷ inside) ≡ true → Means false (word (b ∷ inside)) (b ∷ inside) (Is tt)
means_literal b inside all =
    means_word_by [] (this_word (b ∷ inside)) (b ∷ inside) tt (record { some = omega arith; bytes = record { all = all } })
    (λ behind line place. ap if_true ((bytes_eq-Decides (b ∷ inside) (b ∷ inside)).1 refl))

pub means_mark : (b : ℕ) → ((bytes : List ℕ) → piece b bytes ≡ token kinds.Mark 1) → Means true (mark b) (b ∷ []) (Is tt)
means_mark b cut = means_byte [] (λ t a. if_true (is_the_mark b t) ≡ Some a) kinds.Mark b tt cut (λ behind line place. ap if_true ((bytes_eq-Decides (b ∷ []) (b ∷ [])).1 refl))
