-- Reading a plan gives what the table of its forms says.
use Rattle.std.proofs.Common.{◌≡◌, refl, sym, subst, ℕ, ◌<◌, List, [], ◌∷◌, ◌++◌, length, Bool, true, false, nat_lt, Option, Some, None, codes, slice_get, Result, Ok, Err, IfOk, OnOk}
use Rattle.set_model.specs.declared.kind.Kind.{Kind}
use Rattle.set_model.specs.declared.script.SetDecl.{SetDecl}
use Rattle.token_forms.specs.declared.token.Reason.{Reason}
use Rattle.token_forms.specs.declared.token.Reason.TheVariants as reasons
use Rattle.token_forms.specs.declared.error.ReadError.{ReadError}
use Rattle.token_forms.specs.declared.error.ReadError.TheVariants as errors
use Rattle.token_forms.specs.Token.{Lexeme}
use Rattle.token_forms.specs.Words.{any_word, breaks_off}
use Rattle.token_forms.specs.Gives.{Gives}
use Rattle.token_forms.specs.BadTokens.{IsPlainBadTokenOf}
use Rattle.token_forms.specs.TextTokens.{plain_tokens}
use Rattle.token_forms.proofs.BadTokenLaws.{IsRefusedAt}
use Rattle.token_forms.proofs.FormLaws.{Reads, Begins, never, weaken, bind_reads, bind_definite, bind_begins, done_reads, nowhere_reads, nowhere_begins, either_test}
use Rattle.token_forms.proofs.ManyLaw.{many_reads}
use Rattle.token_forms.proofs.ShorterLaws.{gives_shorter}
use Rattle.token_forms.proofs.WordLaws.{word_reads, word_by_reads, breaks_no_end, AreStatements, are_lines}
use Rattle.token_forms.proofs.KindLaws.{word_no_break, end_no_break_line}
use Rattle.token_forms.proofs.WholeLaws.{Ends, text_answer}
use Rattle.token_forms.proofs.EndsLaw.{plain_ends}
use Rattle.token_forms.proofs.AnswerLaws.{TextGives, text_gives, text_single}
use Rattle.set_script.proofs.ScriptLaws.{table_place_reads, table_place_begins, used_set_reads}
use Rattle.pcap_keys.specs.declared.selector.Selector.{Selector}
use Rattle.pcap_keys.specs.declared.selector.PlanLine.{PlanLine}
use Rattle.pcap_keys.specs.Plans.{most_lines}
use Rattle.pcap_keys.specs.Plans as form
use Rattle.pcap_keys.specs.PlansText.{IsPlanText}
use Rattle.pcap_keys.specs.PlansReading as reading

selector_reads : (kind : Kind) → Reads (form.selector kind) never (reading.selector kind)
selector_reads kind = word_by_reads (reasons.TypeWord ∷ []) _

more_selectors_reads : (ks : List Kind) (ss : List Selector) → Reads (form.more_selectors ks ss) never (reading.more_selectors ks ss)
unfolding reading.more_selectors
more_selectors_reads [] ss = done_reads ss
more_selectors_reads (kind ∷ ks) ss = bind_definite (word_reads (codes ".")) (λ _. bind_definite (selector_reads kind) (λ s. more_selectors_reads ks (ss ++ s ∷ [])))

all_selectors_reads : (ks : List Kind) → Reads (form.all_selectors ks) never (reading.all_selectors ks)
unfolding reading.all_selectors
all_selectors_reads [] = nowhere_reads
all_selectors_reads (kind ∷ ks) = bind_definite (selector_reads kind) (λ s. more_selectors_reads ks (s ∷ []))

line_of_reads : (plan : List PlanLine) (i : ℕ) (s : Option SetDecl) → Reads (form.line_of plan i s) never (reading.line_of plan i s)
unfolding reading.line_of
line_of_reads plan i None = nowhere_reads
line_of_reads plan i (Some s) = bind_definite (all_selectors_reads s.kinds) (λ selectors. done_reads _)

set_line_reads : (schema : List SetDecl) (plan : List PlanLine) → Reads (form.set_line schema plan) never (reading.set_line schema plan)
unfolding reading.set_line
set_line_reads schema plan = bind_definite table_place_reads (λ p. bind_definite (used_set_reads schema p) (λ i. line_of_reads plan i (slice_get schema i)))

line_if_reads : (room : Bool) (schema : List SetDecl) (plan : List PlanLine) → Reads (form.line_if room schema plan) never (reading.line_if room schema plan)
unfolding reading.line_if
line_if_reads true schema plan = set_line_reads schema plan
line_if_reads false schema plan = nowhere_reads

line_if_begins : (room : Bool) (schema : List SetDecl) (plan : List PlanLine) → Begins (form.line_if room schema plan) any_word
line_if_begins true schema plan = bind_begins table_place_reads table_place_begins
line_if_begins false schema plan = nowhere_begins any_word

-- nothing continues a line
abbrev goes : {A : Type 0} → A → A → Lexeme → Bool
goes a b = never b

are_lines_of : (schema : List SetDecl) → AreStatements breaks_off any_word any_word goes (form.plan_line schema) (reading.plan_line schema)
are_lines_of schema = record {
  no_end = breaks_no_end;
  laws = λ plan. line_if_reads (nat_lt (length plan) most_lines) schema plan;
  begins = λ plan. line_if_begins (nat_lt (length plan) most_lines) schema plan;
  apart = word_no_break;
  ends = λ s s1 t h. refl;
  starts_more = λ t h. h;
  goes_more = λ s s1 t h. absurd (cc h);
}

plan_lines_reads : (schema : List SetDecl) → Reads (form.plan_lines schema) (λ _. either_test breaks_off any_word) (reading.plan_lines schema)
plan_lines_reads schema = many_reads _ _ _ _ _ (are_lines breaks_off any_word any_word goes (form.plan_line schema) (reading.plan_line schema) (are_lines_of schema)) ([], true)

-- the tokens that could go on with a plan
abbrev more : {A : Type 0} → A → Lexeme → Bool
more a = either_test breaks_off any_word

some_lines_reads : (plan : List PlanLine) → Reads (form.some_lines plan) more (reading.some_lines plan)
unfolding reading.some_lines
some_lines_reads [] = weaken more (λ a t h. absurd (cc h)) nowhere_reads
some_lines_reads (l ∷ ls) = weaken more (λ a t h. absurd (cc h)) (done_reads (l ∷ ls))

some_lines_empty : (plan : List PlanLine) (t : Lexeme) (y : List Lexeme) → (form.some_lines plan).front (t ∷ y) → ⊥
some_lines_empty [] t y e = let k : t ∷ y ≡ [] = e in cc
some_lines_empty (l ∷ ls) t y e = let k : t ∷ y ≡ [] = e in cc

some_lines_silent : (plan : List PlanLine) (q : Reason) → (form.some_lines plan).asks [] q → ⊥
some_lines_silent [] q i = i
some_lines_silent (l ∷ ls) q i = i

body_reads : (schema : List SetDecl) → Reads (form.body schema) more (reading.body schema)
unfolding reading.body
body_reads schema = bind_reads (form.plan_lines schema) more (reading.plan_lines schema) (λ s. form.some_lines s.0) more (λ s. reading.some_lines s.0) (plan_lines_reads schema) (λ s. some_lines_reads s.0) (record {
  apart = λ x s t y w p. absurd (some_lines_empty s.0 t y p);
  through = λ x s b rest w v stops. stops;
  silent = λ x s q t w i v. absurd (some_lines_silent s.0 q i);
})

-- what reading a whole plan says of its text
schema_gives : (schema : List SetDecl) (text : List ℕ) (ts : List Lexeme) (r : Result (List PlanLine) ReadError) (new : List Lexeme) → ts ≡ plain_tokens text → Gives (λ x. x) r new (reading.plan schema ts)
    → TextGives (form.body schema) (plain_tokens text) (λ x. x) r new
unfolding reading.plan
schema_gives schema text ts r new e g =
    subst (λ z. TextGives (form.body schema) z (λ x. x) r new) e
    (text_gives (form.body schema) ts (λ x. x) r new (reading.body schema ts) (text_answer (body_reads schema) (λ _. end_no_break_line) ts (subst Ends (sym e) (plain_ends text))) g)

pub plan_gives : (schema given : List SetDecl) (text : List ℕ) (ts : List Lexeme) (r : Result (List PlanLine) ReadError) (new : List Lexeme) → given ≡ schema → ts ≡ plain_tokens text → Gives (λ x. x) r new (reading.plan given ts)
    → TextGives (form.body schema) (plain_tokens text) (λ x. x) r new
plan_gives schema given text ts r new same e g = schema_gives schema text ts r new e (subst (λ (z : List SetDecl). Gives (λ x. x) r new (reading.plan z ts)) same g)

pub plan_unrefused : (schema given : List SetDecl) (text : List ℕ) (ts : List Lexeme) (r : Result (List PlanLine) ReadError) (new : List Lexeme) → given ≡ schema → ts ≡ plain_tokens text → Gives (λ x. x) r new (reading.plan given ts)
    → (lines : List PlanLine) → r ≡ Ok lines → IsPlainBadTokenOf (form.plan schema) text None
plan_unrefused schema given text ts r new same e g lines k = (lines, subst (λ z. IfOk z ((form.plan schema).whole (plain_tokens text))) k (plan_gives schema given text ts r new same e g).found)

pub plan_refused : (schema given : List SetDecl) (text : List ℕ) (ts : List Lexeme) (r : Result (List PlanLine) ReadError) (new : List Lexeme) → given ≡ schema → ts ≡ plain_tokens text → Gives (λ x. x) r new (reading.plan given ts)
    → (line : ℕ) (reason : Reason) → r ≡ Err (errors.Bad line reason) → IsRefusedAt (form.plan schema) (plain_tokens text) line reason new
plan_refused schema given text ts r new same e g line reason k = (plan_gives schema given text ts r new same e g).bad line reason k

pub plan_single : (schema : List SetDecl) (text : List ℕ) (lines other : List PlanLine) → IsPlanText schema text lines → IsPlanText schema text other → lines ≡ other
unfolding IsPlanText
plan_single schema text lines other w v = text_single (body_reads schema) (λ _. end_no_break_line) (plain_tokens text) (plain_ends text) lines other w v

-- a line takes a token
pub line_shorter : {X : Type 0} (schema : List SetDecl) (s : List PlanLine × Bool) (view : X → List PlanLine × Bool) (result : Result X ReadError) (old new : List Lexeme)
    → Gives view result new (reading.line_or_break schema s old) → OnOk result (length new < length old)
line_shorter schema s view result old new g =
    let lines = are_lines breaks_off any_word any_word goes (form.plan_line schema) (reading.plan_line schema) (are_lines_of schema) in
    gives_shorter (lines.laws s) (lines.begins s) view result old new g
