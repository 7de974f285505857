-- What reading one token gives, and passing over tokens, and lines.
use Rattle.std.proofs.Common.{◌≡◌, ◌⊎◌, inl, inr, refl, sym, ◌∙◌, ap, subst, ℕ, List, [], ◌∷◌, ◌++◌, Bool, true, false, ◌&&◌, ◌||◌, Option, Some, None, option_map, append-nil}
use Rattle.std.specs.Str.{bytes_eq}
use Rattle.std.proofs.lemmas.Slice.Eq.{bytes_eq-Decides}
use Rattle.token_forms.specs.declared.token.TokenKind.{TokenKind}
use Rattle.token_forms.specs.declared.token.TokenKind.TheVariants as kinds
use Rattle.token_forms.specs.declared.token.Reason.{Reason}
use Rattle.token_forms.specs.Token.{Lexeme, is_word, is_end, is_break, is_mark, is_text}
use Rattle.token_forms.specs.Form.{Form, done, ◌>>=◌ as ◌>>=f◌}
use Rattle.token_forms.specs.Reading.{Outcome, done_read, ◌>>=◌ as ◌>>=r◌}
use Rattle.token_forms.specs.Words as form
use Rattle.token_forms.specs.Words.{word_value, this_word, is_the_mark, if_true, text_value, any_word, separates, breaks_off}
use Rattle.token_forms.specs.WordReading as reading
use Rattle.token_forms.proofs.FormLaws.{Reads, Decides, Begins, Heads, never, one_reads, one_begins, one_heads, bind_begins, bind_definite, bind_reads, done_reads, weaken, Stops, either_test, or_left, or_right}
use Rattle.token_forms.proofs.EitherLaw.{either_reads, either_begins, widen}
use Rattle.token_forms.proofs.ManyLaw.{AreItems, many_reads, many_heads}

pub word_kind : (k : TokenKind) → is_word k ≡ true → k ≡ kinds.Word
word_kind kinds.Word h = refl
word_kind kinds.Break h = absurd (cc h)
word_kind kinds.Mark h = absurd (cc h)
word_kind kinds.Text h = absurd (cc h)
word_kind kinds.Faulty h = absurd (cc h)
word_kind kinds.End h = absurd (cc h)

pub mark_kind : (k : TokenKind) → is_mark k ≡ true → k ≡ kinds.Mark
mark_kind kinds.Mark h = refl
mark_kind kinds.Break h = absurd (cc h)
mark_kind kinds.Word h = absurd (cc h)
mark_kind kinds.Text h = absurd (cc h)
mark_kind kinds.Faulty h = absurd (cc h)
mark_kind kinds.End h = absurd (cc h)

pub break_kind : (k : TokenKind) → is_break k ≡ true → k ≡ kinds.Break
break_kind kinds.Break h = refl
break_kind kinds.Mark h = absurd (cc h)
break_kind kinds.Word h = absurd (cc h)
break_kind kinds.Text h = absurd (cc h)
break_kind kinds.Faulty h = absurd (cc h)
break_kind kinds.End h = absurd (cc h)

pub text_kind : (k : TokenKind) → is_text k ≡ true → k ≡ kinds.Text
text_kind kinds.Text h = refl
text_kind kinds.Mark h = absurd (cc h)
text_kind kinds.Word h = absurd (cc h)
text_kind kinds.Break h = absurd (cc h)
text_kind kinds.Faulty h = absurd (cc h)
text_kind kinds.End h = absurd (cc h)

pub end_kind : (k : TokenKind) → is_end k ≡ true → k ≡ kinds.End
end_kind kinds.End h = refl
end_kind kinds.Break h = absurd (cc h)
end_kind kinds.Word h = absurd (cc h)
end_kind kinds.Text h = absurd (cc h)
end_kind kinds.Faulty h = absurd (cc h)
end_kind kinds.Mark h = absurd (cc h)

pub if_true_some : (b : Bool) (a : Unit {0}) → if_true b ≡ Some a → b ≡ true
if_true_some true a h = refl
if_true_some false a h = absurd (cc h)

pub both : (a b : Bool) → (a && b) ≡ true → (a ≡ true) × (b ≡ true)
both true true h = (refl, refl)
both true false h = absurd (cc h)
both false b h = absurd (cc h)

pub either_true : (a b : Bool) → (a || b) ≡ true → (a ≡ true) ⊎ (b ≡ true)
either_true true b h = inl refl
either_true false b h = inr h

pub bytes_same : (xs ys : List ℕ) → bytes_eq xs ys ≡ true → xs ≡ ys
bytes_same xs ys h = (bytes_eq-Decides xs ys).0 h

-- words
word_some : {A : Type 0} (value : Lexeme → Option A) (t : Lexeme) (a : A) → word_value value t ≡ Some a → is_word t.kind ≡ true
word_some {A} value t a h = go (is_word t.kind) refl h where
  go : (b : Bool) → is_word t.kind ≡ b → (elim b as (λ _. Option A) [ true ↦ value t | false ↦ None ]) ≡ Some a → is_word t.kind ≡ true
  go true e h = e
  go false e h = absurd (cc h)

no_end_word : (k : TokenKind) → is_word k ≡ true → is_end k ≡ false
no_end_word k h = rw (word_kind k h) refl

word_decides : {A : Type 0} (value : Lexeme → Option A) → Decides (λ t a. word_value value t ≡ Some a) (word_value value)
word_decides value = record { sound = λ t a h. h; complete = λ t a h. h; no_end = λ t a h. no_end_word t.kind (word_some value t a h) }

pub word_by_reads : {A : Type 0} (sorts : List Reason) (value : Lexeme → Option A) → Reads (form.word_by sorts value) never (reading.word_by sorts value)
word_by_reads sorts value = one_reads sorts (word_decides value)

pub word_by_begins : {A : Type 0} (sorts : List Reason) (value : Lexeme → Option A) → Begins (form.word_by sorts value) any_word
word_by_begins sorts value = one_heads sorts any_word (λ t a h. word_some value t a h) (λ q t i w. w)

-- words whose texts mean values by a relation that a function decides
pub record TextDecides {A : Type 0} (Is : List ℕ → A → Type 0) (value : List ℕ → Option A) : Type 0 where
  pub sound : (text : List ℕ) (a : A) → value text ≡ Some a → Is text a
  pub complete : (text : List ℕ) (a : A) → Is text a → value text ≡ Some a

is_decides : {A : Type 0} {Is : List ℕ → A → Type 0} {value : List ℕ → Option A} → TextDecides Is value → Decides (λ t a. (t.kind ≡ kinds.Word) × Is t.bytes a) (word_value (λ t. value t.bytes))
is_decides {A} {Is} {value} d = record {
  sound = λ t a h. let w = word_some (λ t. value t.bytes) t a h in let k = word_kind t.kind w in (k, d.sound t.bytes a (inside t a (is_word t.kind) w h));
  complete = λ t a i. rw (i.0) (d.complete t.bytes a i.1);
  no_end = λ t a i. rw (i.0) refl;
} where
  inside : (t : Lexeme) (a : A) (b : Bool) → b ≡ true → (elim b as (λ _. Option A) [ true ↦ value t.bytes | false ↦ None ]) ≡ Some a → value t.bytes ≡ Some a
  inside t a true e h = h
  inside t a false e h = absurd (cc e)

pub word_is_reads : {A : Type 0} (sorts : List Reason) {Is : List ℕ → A → Type 0} {value : List ℕ → Option A} → TextDecides Is value → Reads (form.word_is sorts Is) never (reading.word_by sorts (λ t. value t.bytes))
word_is_reads sorts d = one_reads sorts (is_decides d)

pub word_is_begins : {A : Type 0} (sorts : List Reason) (Is : List ℕ → A → Type 0) → Begins (form.word_is sorts Is) any_word
word_is_begins sorts Is = one_heads sorts any_word (λ t a i. rw (i.0) refl) (λ q t i w. w)

-- the same with the line of the word
lined_decides : {A : Type 0} {Is : List ℕ → A → Type 0} {value : List ℕ → Option A} → TextDecides Is value
    → Decides {A = ℕ × A} (λ t a. (t.kind ≡ kinds.Word) × (a.0 ≡ t.line) × Is t.bytes a.1) (word_value (λ t. option_map (λ a. (t.line, a)) (value t.bytes)))
lined_decides {A} {Is} {value} d = record {
  sound = λ t a h. let w = word_some (λ t. option_map (λ a. (t.line, a)) (value t.bytes)) t a h in let k = word_kind t.kind w in found t a k (inside t a (is_word t.kind) w h);
  complete = λ t a i. rw (i.0) (rw (d.complete t.bytes a.1 i.2) (ap (λ z. Some (z, a.1)) (sym i.1)));
  no_end = λ t a i. rw (i.0) refl;
} where
  inside : (t : Lexeme) (a : ℕ × A) (b : Bool) → b ≡ true → (elim b as (λ _. Option (ℕ × A)) [ true ↦ option_map (λ a. (t.line, a)) (value t.bytes) | false ↦ None ]) ≡ Some a → option_map (λ a. (t.line, a)) (value t.bytes) ≡ Some a
  inside t a true e h = h
  inside t a false e h = absurd (cc e)

  found : (t : Lexeme) (a : ℕ × A) → t.kind ≡ kinds.Word → option_map (λ a. (t.line, a)) (value t.bytes) ≡ Some a → (t.kind ≡ kinds.Word) × (a.0 ≡ t.line) × Is t.bytes a.1
  found t a k h = go (value t.bytes) refl h where
    go : (v : Option A) → value t.bytes ≡ v → option_map (λ a. (t.line, a)) v ≡ Some a → (t.kind ≡ kinds.Word) × (a.0 ≡ t.line) × Is t.bytes a.1
    go None e h = absurd (cc h)
    go (Some b) e h = let same : (t.line, b) ≡ a = cc h in (k, ap (λ z. z.0) (sym same), d.sound t.bytes a.1 (e ∙ ap (λ z. Some z.1) same))

pub lined_word_is_reads : {A : Type 0} (sorts : List Reason) {Is : List ℕ → A → Type 0} {value : List ℕ → Option A} → TextDecides Is value → Reads (form.lined_word_is sorts Is) never (reading.lined_word_by sorts value)
lined_word_is_reads sorts d = one_reads sorts (lined_decides d)

pub lined_word_is_begins : {A : Type 0} (sorts : List Reason) (Is : List ℕ → A → Type 0) → Begins (form.lined_word_is sorts Is) any_word
lined_word_is_begins sorts Is = one_heads sorts any_word (λ t a i. rw (i.0) refl) (λ q t i w. w)

pub word_reads : (text : List ℕ) → Reads (form.word text) never (reading.word text)
word_reads text = word_by_reads [] (this_word text)

pub word_begins : (text : List ℕ) → Begins (form.word text) any_word
word_begins text = word_by_begins [] (this_word text)

-- this word
abbrev pub is_the_word : List ℕ → Lexeme → Bool
is_the_word text t = is_word t.kind && bytes_eq t.bytes text

pub name_reads : Reads form.name never reading.name
name_reads = word_by_reads [] form.name_value

-- tokens that pass a test
passed_decides : (test : Lexeme → Bool) → ((t : Lexeme) → test t ≡ true → is_end t.kind ≡ false) → Decides (λ t a. if_true (test t) ≡ Some a) (λ t. if_true (test t))
passed_decides test h = record { sound = λ t a i. i; complete = λ t a i. i; no_end = λ t a i. h t (if_true_some (test t) a i) }

pub passed_reads : (test : Lexeme → Bool) → ((t : Lexeme) → test t ≡ true → is_end t.kind ≡ false) → Reads (form.passed test) never (reading.passed test)
passed_reads test h = one_reads [] (passed_decides test h)

pub passed_begins : (test : Lexeme → Bool) → Begins (form.passed test) test
passed_begins test = one_begins test (λ t a i. if_true_some (test t) a i)

mark_no_end : (b : ℕ) (t : Lexeme) → is_the_mark b t ≡ true → is_end t.kind ≡ false
mark_no_end b t h = let k = both _ _ h in rw (mark_kind t.kind k.0) refl

pub mark_reads : (b : ℕ) → Reads (form.mark b) never (reading.mark b)
mark_reads b = passed_reads (is_the_mark b) (mark_no_end b)

pub mark_begins : (b : ℕ) → Begins (form.mark b) (is_the_mark b)
mark_begins b = passed_begins (is_the_mark b)

text_some : (t : Lexeme) (a : List ℕ) → text_value t ≡ Some a → is_text t.kind ≡ true
text_some t a h = go (is_text t.kind) refl h where
  go : (b : Bool) → is_text t.kind ≡ b → (elim b as (λ _. Option (List ℕ)) [ true ↦ Some (form.inside_quotes t.bytes) | false ↦ None ]) ≡ Some a → is_text t.kind ≡ true
  go true e h = e
  go false e h = absurd (cc h)

abbrev pub any_text : Lexeme → Bool
any_text t = is_text t.kind

text_no_end : (t : Lexeme) (a : List ℕ) → text_value t ≡ Some a → is_end t.kind ≡ false
text_no_end t a h = rw (text_kind t.kind (text_some t a h)) refl

pub text_reads : Reads form.text never reading.text
text_reads = one_reads [] (record { sound = λ t a h. h; complete = λ t a h. h; no_end = text_no_end })

pub text_begins : Begins form.text any_text
text_begins = one_begins any_text text_some

-- separators and breaks
pub breaks_no_end : (t : Lexeme) → breaks_off t ≡ true → is_end t.kind ≡ false
breaks_no_end t h = rw (break_kind t.kind h) refl

pub separates_no_end : (t : Lexeme) → separates t ≡ true → is_end t.kind ≡ false
separates_no_end t h = elim (either_true _ _ h) [ inl a ↦ breaks_no_end t a | inr b ↦ mark_no_end 59 t b ]

skips : (test : Lexeme → Bool) → ((t : Lexeme) → test t ≡ true → is_end t.kind ≡ false) → AreItems (λ (_ : Unit {0}). test) (λ _. never) test (λ _. form.passed test) (λ _. reading.passed test)
skips test h = record {
  laws = λ s. passed_reads test h;
  begins = λ s. passed_begins test;
  apart = λ s s1 x t w g. refl;
  starts_more = λ s t g. g;
  goes_more = λ s s1 t g. absurd (cc g);
}

pub skip_reads : (test : Lexeme → Bool) → ((t : Lexeme) → test t ≡ true → is_end t.kind ≡ false) → Reads (form.skip test) (λ _. test) (reading.skip test)
skip_reads test h = many_reads (λ _. test) (λ _. never) test (λ _. form.passed test) (λ _. reading.passed test) (skips test h) tt

pub skip_heads : (test : Lexeme → Bool) → ((t : Lexeme) → test t ≡ true → is_end t.kind ≡ false) → Heads (form.skip test) test
skip_heads test h = many_heads (λ _. test) (λ _. never) test (λ _. form.passed test) (λ _. reading.passed test) (skips test h) tt

pub breaks_reads : Reads form.breaks (λ _. breaks_off) reading.breaks
unfolding reading.breaks
breaks_reads = skip_reads breaks_off breaks_no_end

pub separators_reads : Reads form.separators (λ _. separates) reading.separators
unfolding reading.separators
separators_reads = skip_reads separates separates_no_end

-- A form, and then a value made of what it means.
pub bind_done : {A B : Type 0} {f : Form A} {more : A → Lexeme → Bool} {next : B → Lexeme → Bool} {r : List Lexeme → Outcome A} (h : A → B) → ((a : A) (t : Lexeme) → more a t ≡ true → next (h a) t ≡ true)
    → Reads f more r → Reads (f >>=f λ a. done (h a)) next (r >>=r λ a. done_read (h a))
bind_done {A} {B} {f} {more} {next} {r} h wide law = bind_reads f more r (λ a. done (h a)) next (λ a. done_read (h a)) law (λ a. weaken next (λ b t g. absurd (cc g)) (done_reads (h a))) (record {
  apart = λ x a t y w e. let no : t ∷ y ≡ [] = e in absurd (cc);
  through = through;
  silent = λ x a q t w i v. absurd i;
}) where
  narrow : (a : A) (t : Lexeme) (b : Bool) → more a t ≡ b → next (h a) t ≡ false → more a t ≡ false
  narrow a t true e s = let k = wide a t e in absurd (cc)
  narrow a t false e s = e

  stops : (a : A) (rest : List Lexeme) → Stops (next (h a)) rest → Stops (more a) rest
  stops a [] s = tt
  stops a (t ∷ rest) s = narrow a t (more a t) refl s

  through : (x : List Lexeme) (a : A) (b : B) (rest : List Lexeme) → f.whole x a → (done (h a)).whole [] b → Stops (next b) rest → Stops (more a) rest
  through x a b rest w v s = stops a rest (subst (λ c. Stops (next c) rest) (sym v.1) s)

-- the same if the tokens that could continue the form don't depend on its value
pub bind_done_same : {A B : Type 0} {f : Form A} {more : Lexeme → Bool} {r : List Lexeme → Outcome A} (h : A → B) → Reads f (λ _. more) r → Reads (f >>=f λ a. done (h a)) (λ _. more) (r >>=r λ a. done_read (h a))
bind_done_same h law = bind_done h (λ a t g. g) law

heads_done : {A B : Type 0} {f : Form A} {more : A → Lexeme → Bool} {test : Lexeme → Bool} {r : List Lexeme → Outcome A} (h : A → B) → Reads f more r → Heads f test → Heads (f >>=f λ a. done (h a)) test
heads_done {A} {B} {f} {more} {test} {r} h law k = record { heads = heads; wordy = wordy } where
  heads : (t : Lexeme) (y : List Lexeme) → (f >>=f λ a. done (h a)).front (t ∷ y) → test t ≡ true
  heads t y (inl p) = k.heads t y p
  heads t y (inr (a, x, z, e, w, d)) = heads_whole a x (e ∙ ap (λ v. x ++ v) d ∙ append-nil x) w where
    heads_whole : (a : A) (x : List Lexeme) → t ∷ y ≡ x → f.whole x a → test t ≡ true
    heads_whole a x e w = k.heads t y (law.whole_front (t ∷ y) a (subst (λ v. f.whole v a) (sym e) w))

  wordy : (q : Reason) (t : Lexeme) → (f >>=f λ a. done (h a)).asks [] q → is_word t.kind ≡ true → test t ≡ true
  wordy q t (inl i) w = k.wordy q t i w
  wordy q t (inr (a, x, y, e, v, i)) w = absurd i

-- Lines. A token that separates statements starts none and continues none. `more`: what starts or continues one.
pub record AreStatements {S : Type 0} (test starts more : Lexeme → Bool) (goes : S → S → Lexeme → Bool) (statement : S → Form S) (read : S → List Lexeme → Outcome S) : Type 0 where
  pub no_end : (t : Lexeme) → test t ≡ true → is_end t.kind ≡ false
  pub laws : (s : S) → Reads (statement s) (goes s) (read s)
  pub begins : (s : S) → Begins (statement s) starts
  pub apart : (t : Lexeme) → starts t ≡ true → test t ≡ false
  pub ends : (s s1 : S) (t : Lexeme) → test t ≡ true → goes s s1 t ≡ false
  pub starts_more : (t : Lexeme) → starts t ≡ true → more t ≡ true
  pub goes_more : (s s1 : S) (t : Lexeme) → goes s s1 t ≡ true → more t ≡ true

-- only after a statement may its own tokens go on
abbrev pub line_goes : {S : Type 0} → (S → S → Lexeme → Bool) → S × Bool → S × Bool → Lexeme → Bool
line_goes goes (s, true) (s1, false) t = goes s s1 t
line_goes goes (s, true) (s1, true) t = false
line_goes goes (s, false) s1 t = false

module _ {S : Type 0} (test starts more : Lexeme → Bool) (goes : S → S → Lexeme → Bool) (statement : S → Form S) (read : S → List Lexeme → Outcome S) (k : AreStatements test starts more goes statement read) where
  pass_law : (s : S) → Reads {A = S × Bool} (form.passed test >>=f λ _. done (s, true)) never (reading.passed test >>=r λ _. done_read (s, true))
  pass_law s = bind_definite (passed_reads test k.no_end) (λ _. done_reads {A = S × Bool} (s, true))

  pass_begins : (s : S) → Begins {A = S × Bool} (form.passed test >>=f λ _. done (s, true)) test
  pass_begins s = bind_begins (passed_reads test k.no_end) (passed_begins test)

  statement_law : (s : S) → Reads {A = S × Bool} (statement s >>=f λ s1. done (s1, false)) (line_goes goes (s, true)) (read s >>=r λ s1. done_read (s1, false))
  statement_law s = bind_done (λ s1. (s1, false)) (λ s1 t h. h) (k.laws s)

  statement_begins : (s : S) → Begins {A = S × Bool} (statement s >>=f λ s1. done (s1, false)) starts
  statement_begins s = bind_begins (k.laws s) (k.begins s)

  pub line_laws : (s : S) (b : Bool) → Reads (form.line test statement (s, b)) (line_goes goes (s, b)) (reading.line test read (s, b))
  line_laws s true = either_reads (weaken (line_goes goes (s, true)) (λ a t h. absurd (cc h)) (pass_law s)) (statement_law s) (pass_begins s) (statement_begins s) k.apart
  line_laws s false = pass_law s

  starts_true : (s : S) (t : Lexeme) → test t ≡ true → reading.line_starts test starts (s, true) t ≡ true
  starts_true s t h = rw (h, reading.is_line_start) refl

  starts_also : (s : S) (t : Lexeme) → starts t ≡ true → reading.line_starts test starts (s, true) t ≡ true
  starts_also s t h = rw (k.apart t h, reading.is_line_start) h

  pub line_begins : (s : S) (b : Bool) → Begins (form.line test statement (s, b)) (reading.line_starts test starts (s, b))
  line_begins s true = either_begins (widen (starts_true s) (pass_begins s)) (widen (starts_also s) (statement_begins s))
  line_begins s false = pass_begins s

  starts_cases : (s : S) (b : Bool) (t : Lexeme) → reading.line_starts test starts (s, b) t ≡ true → (test t ≡ true) ⊎ (starts t ≡ true)
  starts_cases s false t h = inl h
  starts_cases s true t h = go (test t) refl h where
    go : (b : Bool) → test t ≡ b → (elim b as (λ _. Bool) [ true ↦ true | false ↦ starts t ]) ≡ true → (test t ≡ true) ⊎ (starts t ≡ true)
    go true e h = inl e
    go false e h = inr h

  line_apart : (s : S) (b : Bool) (s1 : S) (b1 : Bool) (t : Lexeme) → reading.line_starts test starts (s1, b1) t ≡ true → line_goes goes (s, b) (s1, b1) t ≡ false
  line_apart s true s1 false t h = k.ends s s1 t h
  line_apart s true s1 true t h = refl
  line_apart s false s1 b1 t h = refl

  more_cases : (t : Lexeme) → (test t ≡ true) ⊎ (starts t ≡ true) → either_test test more t ≡ true
  more_cases t (inl h) = or_left (test t) (more t) h
  more_cases t (inr h) = or_right (test t) (more t) (k.starts_more t h)

  goes_cases : (s : S) (b : Bool) (s1 : S) (b1 : Bool) (t : Lexeme) → line_goes goes (s, b) (s1, b1) t ≡ true → either_test test more t ≡ true
  goes_cases s true s1 false t h = or_right (test t) (more t) (k.goes_more s s1 t h)
  goes_cases s true s1 true t h = absurd (cc h)
  goes_cases s false s1 b1 t h = absurd (cc h)

  pub are_lines : AreItems (reading.line_starts test starts) (line_goes goes) (either_test test more) (form.line test statement) (reading.line test read)
  are_lines = record {
    laws = λ s. line_laws s.0 s.1;
    begins = λ s. line_begins s.0 s.1;
    apart = λ s s1 x t w h. line_apart s.0 s.1 s1.0 s1.1 t h;
    starts_more = λ s t h. more_cases t (starts_cases s.0 s.1 t h);
    goes_more = λ s s1 t h. goes_cases s.0 s.1 s1.0 s1.1 t h;
  }

  pub lines_reads : (s : S × Bool) → Reads (form.lines test statement s) (λ _. either_test test more) (reading.lines test starts read s)
  lines_reads s = bind_done_same (λ s1. s1.0) (many_reads (reading.line_starts test starts) (line_goes goes) (either_test test more) (form.line test statement) (reading.line test read) are_lines s)

  pub lines_heads : (s : S × Bool) → Heads (form.lines test statement s) (reading.line_starts test starts s)
  lines_heads s = heads_done (λ s1. s1.0)
      (many_reads (reading.line_starts test starts) (line_goes goes) (either_test test more) (form.line test statement) (reading.line test read) are_lines s)
      (many_heads (reading.line_starts test starts) (line_goes goes) (either_test test more) (form.line test statement) (reading.line test read) are_lines s)
