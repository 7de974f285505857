-- Reading a rules file gives what the table of its forms says.
use Rattle.std.proofs.Common.{◌≡◌, inl, inr, refl, ap, subst, ℕ, ◌<◌, List, [], ◌∷◌, ◌++◌, length, Bool, true, false, ◌&&◌, Option, Some, None, is_some, if◌then◌else◌, nat_lt, codes, bytes_eq, Result, OnOk}
use Rattle.set_model.specs.declared.script.SetDecl.{SetDecl}
use Rattle.token_forms.specs.declared.token.Reason.{Reason}
use Rattle.token_forms.specs.declared.error.ReadError.{ReadError}
use Rattle.token_forms.specs.Token.{Lexeme, is_word}
use Rattle.token_forms.specs.Form.{Form, done, many as many_form, ◌>>=◌ as ◌>>=f◌}
use Rattle.token_forms.specs.Words.{any_word, separates, is_the_mark, word_value}
use Rattle.token_forms.proofs.FormLaws.{Reads, Begins, Heads, Filled, never, weaken, bind_reads, bind_definite, bind_apart, bind_begins, bind_heads, bind_filled, done_reads, nowhere_reads, nowhere_begins, one_begins, either_test}
use Rattle.token_forms.proofs.EitherLaw.{widen}
use Rattle.token_forms.proofs.ManyLaw.{AreItems, many_reads, many_heads}
use Rattle.token_forms.proofs.WordLaws.{word_by_reads, word_by_begins, mark_reads, mark_begins, separates_no_end, AreStatements, are_lines, lines_reads, either_true, both, bytes_same}
use Rattle.token_forms.proofs.KindLaws.{word_no_separator, closing_no_separator, mark_no_word, neither}
use Rattle.set_script.proofs.ScriptLaws.{table_place_reads, used_set_reads}
use Rattle.rule_chain.specs.declared.chains.Test.{Test}
use Rattle.rule_chain.specs.declared.chains.Rule.{Rule}
use Rattle.rule_chain.specs.declared.chains.Chain.{Chain}
use Rattle.rule_chain.specs.declared.draft.RulesDraft.{RulesDraft}
use Rattle.rule_chain.specs.declared.draft.RulesWord.{RulesWord}
use Rattle.rule_chain.specs.declared.draft.RulesWord.TheVariants as firsts
use Rattle.rule_chain.specs.declared.draft.TestWord.{TestWord}
use Rattle.rule_chain.specs.declared.draft.ActWord.{ActWord}
use Rattle.rule_chain.specs.declared.draft.ActWord.TheVariants as acts
use Rattle.rule_chain.specs.Chains.{most_tests}
use Rattle.rule_chain.specs.RuleNames.{inside_of, test_of, test_word_of, with_place, act_of}
use Rattle.rule_chain.specs.Rules.{no_rules, with_chain}
use Rattle.rule_chain.specs.Rules as form
use Rattle.rule_chain.specs.RulesReading as reading
use Rattle.rule_chain.specs.RulesReading.{starts_test}
use Rattle.token_forms.specs.Gives.{Gives}
use Rattle.token_forms.proofs.ShorterLaws.{gives_shorter}

-- tests
test_reads : (schema : List SetDecl) (tests : List Test) → Reads (form.test schema tests) never (reading.one_test schema tests)
unfolding reading.one_test
test_reads schema tests = bind_definite (word_by_reads [] _) (λ inside. bind_definite table_place_reads (λ p. bind_definite (used_set_reads schema p) (λ i. done_reads _)))

-- a word that begins a test, if a test is allowed there
abbrev begins_test : Lexeme → Bool
begins_test t = is_word t.kind && is_some (inside_of t.bytes)

some_value : {A : Type 0} (value : Lexeme → Option A) (t : Lexeme) (a : A) → word_value value t ≡ Some a → (is_word t.kind && is_some (value t)) ≡ true
some_value {A} value t a h = go (is_word t.kind) h where
  go : (b : Bool) → (elim b as (λ _. Option A) [ true ↦ value t | false ↦ None ]) ≡ Some a → (b && is_some (value t)) ≡ true
  go true h = rw h refl
  go false h = absurd (cc h)

-- a word has a place exactly if it begins a test
pub placed_some : (t : Lexeme) (o : Option Bool) (w : TestWord) → with_place t o ≡ Some w → o ≡ Some w.inside
placed_some t None w h = absurd (cc h)
placed_some t (Some inside) w h = let same : inside ≡ w.inside = cc h in ap Some same

some_word : (n : ℕ) (t : Lexeme) (w : TestWord) → word_value (test_word_of n) t ≡ Some w → (is_word t.kind && is_some (test_of n t.bytes)) ≡ true
some_word n t w h = go (is_word t.kind) h where
  go : (b : Bool) → (elim b as (λ _. Option TestWord) [ true ↦ test_word_of n t | false ↦ None ]) ≡ Some w → (b && is_some (test_of n t.bytes)) ≡ true
  go true h = ap is_some (placed_some t (test_of n t.bytes) w h)
  go false h = absurd (cc h)

test_begins : (schema : List SetDecl) (tests : List Test) → Begins (form.test schema tests) (starts_test tests)
test_begins schema tests = bind_begins (word_by_reads [] _) (one_begins (starts_test tests) (λ t a h. some_word (length tests) t a h))

starts_begins : (tests : List Test) (t : Lexeme) → starts_test tests t ≡ true → begins_test t ≡ true
starts_begins tests t h = go (nat_lt (length tests) most_tests) h where
  go : (b : Bool) → (is_word t.kind && is_some (if b then inside_of t.bytes else None)) ≡ true → begins_test t ≡ true
  go true h = h
  go false h = let k = both (is_word t.kind) false h in absurd (cc k.1)

are_tests : (schema : List SetDecl) → AreItems starts_test (λ _. never) begins_test (form.test schema) (reading.one_test schema)
are_tests schema = record {
  laws = test_reads schema;
  begins = test_begins schema;
  apart = λ s s1 x t w h. refl;
  starts_more = starts_begins;
  goes_more = λ s s1 t h. absurd (cc h);
}

all_tests_reads : (schema : List SetDecl) → Reads (many_form (form.test schema) []) (λ _. begins_test) (reading.all_tests schema)
all_tests_reads schema = many_reads starts_test (λ _. never) begins_test (form.test schema) (reading.one_test schema) (are_tests schema) []

-- acts
act_behind_reads : (chains : List Chain) (w : ActWord) → Reads (form.act_behind chains w) never (reading.act_behind chains w)
unfolding reading.act_behind
act_behind_reads chains acts.Accept = done_reads _
act_behind_reads chains acts.Drop = done_reads _
act_behind_reads chains acts.Return = done_reads _
act_behind_reads chains acts.Jump = bind_definite (word_by_reads [] _) (λ i. done_reads _)

act_reads : (chains : List Chain) → Reads (form.act chains) never (reading.act chains)
unfolding reading.act
act_reads chains = bind_definite (word_by_reads [] _) (λ w. act_behind_reads chains w)

abbrev begins_act : Lexeme → Bool
begins_act t = is_word t.kind && is_some (act_of t.bytes)

act_begins : (chains : List Chain) → Begins (form.act chains) begins_act
act_begins chains = bind_begins (word_by_reads [] _) (one_begins begins_act (λ t a h. some_value (λ t. act_of t.bytes) t a h))

-- the word of an act begins no test
act_no_test : (t : Lexeme) → begins_act t ≡ true → begins_test t ≡ false
act_no_test t h = go (begins_test t) refl where
  in_word : bytes_eq t.bytes (codes "in") ≡ true → ⊥
  in_word e = let k = both (is_word t.kind) (is_some (act_of t.bytes)) h in let same = bytes_same t.bytes (codes "in") e in let no = subst (λ (z : List ℕ). is_some (act_of z) ≡ true) same k.1 in cc no

  out_word : bytes_eq t.bytes (codes "out") ≡ true → ⊥
  out_word e = let k = both (is_word t.kind) (is_some (act_of t.bytes)) h in let same = bytes_same t.bytes (codes "out") e in let no = subst (λ (z : List ℕ). is_some (act_of z) ≡ true) same k.1 in cc no

  cases : (a b : Bool) → bytes_eq t.bytes (codes "in") ≡ a → bytes_eq t.bytes (codes "out") ≡ b → is_some (if a then Some true else if b then Some false else None) ≡ true → ⊥
  cases true b e k i = in_word e
  cases false true e k i = out_word k
  cases false false e k i = cc i

  go : (b : Bool) → begins_test t ≡ b → b ≡ false
  go false e = refl
  go true e = let k = both (is_word t.kind) (is_some (inside_of t.bytes)) e in absurd (cases (bytes_eq t.bytes (codes "in")) (bytes_eq t.bytes (codes "out")) refl refl k.1)

-- rules
abbrev rule_end : List Chain → List Rule → List Test → Form (List Rule)
rule_end chains rules tests = form.act chains >>=f λ a. done (rules ++ record { tests = tests; act = a } ∷ [])

rule_end_begins : (chains : List Chain) (rules : List Rule) (tests : List Test) → Begins (rule_end chains rules tests) begins_act
rule_end_begins chains rules tests = bind_begins (act_reads chains) (act_begins chains)

rule_reads : (schema : List SetDecl) (chains : List Chain) (rules : List Rule) → Reads (form.rule schema chains rules) never (reading.rule schema chains rules)
unfolding reading.rule
rule_reads schema chains rules = bind_apart (all_tests_reads schema) (λ tests. bind_definite (act_reads chains) (λ a. done_reads _)) (rule_end_begins chains rules) (λ _. act_no_test)

rule_begins : (schema : List SetDecl) (chains : List Chain) (rules : List Rule) → Begins (form.rule schema chains rules) any_word
rule_begins schema chains rules = widen wide (record { starts = heads; filled = λ a w. full.empty a w }) where
  heads : Heads (form.rule schema chains rules) (either_test (starts_test []) begins_act)
  heads = bind_heads (all_tests_reads schema) (many_heads starts_test (λ _. never) begins_test (form.test schema) (reading.one_test schema) (are_tests schema) []) (λ tests. (rule_end_begins chains rules tests).starts)

  full : Filled (form.rule schema chains rules)
  full = bind_filled (λ tests. record { empty = λ a w. (rule_end_begins chains rules tests).filled a w })

  wide : (t : Lexeme) → either_test (starts_test []) begins_act t ≡ true → any_word t ≡ true
  wide t h = elim (either_true (starts_test [] t) (begins_act t) h) [
    | inl k ↦ (both (is_word t.kind) (is_some (test_of 0 t.bytes)) k).0
    | inr k ↦ (both (is_word t.kind) (is_some (act_of t.bytes)) k).0
  ]

rule_if_reads : (room : Bool) (schema : List SetDecl) (chains : List Chain) (rules : List Rule) → Reads (form.rule_if room schema chains rules) never (reading.rule_if room schema chains rules)
unfolding reading.rule_if
rule_if_reads true schema chains rules = rule_reads schema chains rules
rule_if_reads false schema chains rules = nowhere_reads

rule_if_begins : (room : Bool) (schema : List SetDecl) (chains : List Chain) (rules : List Rule) → Begins (form.rule_if room schema chains rules) any_word
rule_if_begins true schema chains rules = rule_begins schema chains rules
rule_if_begins false schema chains rules = nowhere_begins any_word

abbrev rule_here : List SetDecl → RulesDraft → List Rule → Form (List Rule)
rule_here schema d rules = form.rule_if (nat_lt (length rules) d.left) schema d.chains rules

are_rules : (schema : List SetDecl) (d : RulesDraft) → AreStatements separates any_word any_word (λ _. never) (rule_here schema d) (reading.rule_here schema d)
are_rules schema d = record {
  no_end = separates_no_end;
  laws = λ rules. rule_if_reads _ schema d.chains rules;
  begins = λ rules. rule_if_begins _ schema d.chains rules;
  apart = word_no_separator;
  ends = λ s s1 t h. refl;
  starts_more = λ t h. h;
  goes_more = λ s s1 t h. absurd (cc h);
}

-- chains
abbrev lines_more : Lexeme → Bool
lines_more = either_test separates any_word

closing_no_lines : (t : Lexeme) → is_the_mark 125 t ≡ true → lines_more t ≡ false
closing_no_lines t h = neither (separates t) (any_word t) (closing_no_separator t h) (mark_no_word 125 t h)

chain_block_reads : (schema : List SetDecl) (d : RulesDraft) → Reads (form.chain_block schema d) never (reading.chain_block schema d)
unfolding reading.chain_block
chain_block_reads schema d =
    bind_definite (word_by_reads [] _) (λ name.
    bind_definite (mark_reads 123) (λ _.
    bind_apart (lines_reads separates any_word any_word (λ _. never) (rule_here schema d) (reading.rule_here schema d) (are_rules schema d) ([], true))
    (λ rules. bind_definite (mark_reads 125) (λ _. done_reads _)) (λ rules. bind_begins (mark_reads 125) (mark_begins 125)) (λ _. closing_no_lines)))

-- statements
statement_behind_reads : (schema : List SetDecl) (d : RulesDraft) (w : RulesWord) → Reads (form.statement_behind schema d w) never (reading.statement_behind schema d w)
unfolding reading.statement_behind
statement_behind_reads schema d firsts.Chain = chain_block_reads schema d
statement_behind_reads schema d firsts.Policy = bind_definite (word_by_reads [] _) (λ accept. done_reads _)

statement_reads : (schema : List SetDecl) (d : RulesDraft) → Reads (form.statement schema d) never (reading.statement schema d)
unfolding reading.statement
statement_reads schema d = bind_definite (word_by_reads [] _) (λ w. statement_behind_reads schema d w)

are_statements : (schema : List SetDecl) → AreStatements separates any_word any_word (λ _. never) (form.statement schema) (reading.statement schema)
are_statements schema = record {
  no_end = separates_no_end;
  laws = statement_reads schema;
  begins = λ d. bind_begins (word_by_reads [] _) (word_by_begins [] _);
  apart = word_no_separator;
  ends = λ s s1 t h. refl;
  starts_more = λ t h. h;
  goes_more = λ s s1 t h. absurd (cc h);
}

statements_reads : (schema : List SetDecl) → Reads (form.statements schema) (λ _. lines_more) (reading.statements schema)
statements_reads schema = many_reads _ _ _ _ _ (are_lines separates any_word any_word (λ _. never) (form.statement schema) (reading.statement schema) (are_statements schema)) (no_rules, true)

finished_reads : (chains : List Chain) (policy : Option Bool) → Reads (form.finished chains policy) (λ _. lines_more) (reading.finished chains policy)
unfolding reading.finished
finished_reads chains None = weaken (λ _. lines_more) (λ a t h. absurd (cc h)) nowhere_reads
finished_reads chains (Some accept) = weaken (λ _. lines_more) (λ a t h. absurd (cc h)) (done_reads (chains, accept))

no_front : (chains : List Chain) (policy : Option Bool) (t : Lexeme) (y : List Lexeme) → (form.finished chains policy).front (t ∷ y) → ⊥
no_front chains None t y h = cc h
no_front chains (Some accept) t y h = cc h

no_asks : (chains : List Chain) (policy : Option Bool) (q : Reason) → (form.finished chains policy).asks [] q → ⊥
no_asks chains None q h = h
no_asks chains (Some accept) q h = h

pub body_reads : (schema : List SetDecl) → Reads (form.body schema) (λ _. either_test separates any_word) (reading.body schema)
unfolding reading.body
body_reads schema = bind_reads (form.statements schema) (λ _. lines_more) (reading.statements schema) (λ s. form.finished s.0.chains s.0.policy) (λ _. lines_more) (λ s. reading.finished s.0.chains s.0.policy)
    (statements_reads schema) (λ s. finished_reads s.0.chains s.0.policy) (record {
      apart = λ x s t y w h. absurd (no_front s.0.chains s.0.policy t y h);
      through = λ x s b rest w v h. h;
      silent = λ x s q t w i v. absurd (no_asks s.0.chains s.0.policy q i);
    })

-- what takes a token at least
pub test_shorter : {X : Type 0} (schema : List SetDecl) (tests : List Test) (view : X → List Test) (result : Result X ReadError) (old new : List Lexeme)
    → Gives view result new (reading.one_test schema tests old) → OnOk result (length new < length old)
test_shorter schema tests view result old new g = gives_shorter (test_reads schema tests) (test_begins schema tests) view result old new g

pub rule_line_shorter : {X : Type 0} (schema : List SetDecl) (d : RulesDraft) (s : List Rule × Bool) (view : X → List Rule × Bool) (result : Result X ReadError) (old new : List Lexeme)
    → Gives view result new (reading.rule_line schema d s old) → OnOk result (length new < length old)
rule_line_shorter schema d s view result old new g =
    let lines = are_lines separates any_word any_word (λ _. never) (rule_here schema d) (reading.rule_here schema d) (are_rules schema d) in
    gives_shorter (lines.laws s) (lines.begins s) view result old new g

pub statement_line_shorter : {X : Type 0} (schema : List SetDecl) (s : RulesDraft × Bool) (view : X → RulesDraft × Bool) (result : Result X ReadError) (old new : List Lexeme)
    → Gives view result new (reading.statement_line schema s old) → OnOk result (length new < length old)
statement_line_shorter schema s view result old new g =
    let lines = are_lines separates any_word any_word (λ _. never) (form.statement schema) (reading.statement schema) (are_statements schema) in
    gives_shorter (lines.laws s) (lines.begins s) view result old new g
