-- The chains of a rules file are within their limits, test declared sets and jump back.
use Rattle.std.proofs.Common.{◌≡◌, refl, ap, subst, ℕ, zero, suc, ◌+◌, ◌<◌, ◌≤◌, List, [], ◌∷◌, ◌++◌, length, Bool, true, false, ◌&&◌, Option, Some, None, is_some, if◌then◌else◌, slice_get, nat_lt, bytes_eq, codes, arith, length-append, position}
use Rattle.std.specs.List.{All, position_or_len}
use Rattle.std.proofs.lemmas.Bool.{ltb-true}
use Rattle.std.proofs.lemmas.List.Elements.{All-nil, All-push}
use Rattle.std.proofs.lemmas.List.Sums.{sum_by-append, sum_by-cons}
use Rattle.std.proofs.lemmas.Option.{cond_some}
use Rattle.set_model.specs.declared.script.SetDecl.{SetDecl}
use Rattle.token_forms.specs.Token.{Lexeme}
use Rattle.token_forms.specs.Words.{separates}
use Rattle.token_forms.proofs.KeepLaws.{many_keeps, lines_keep, word_given}
use Rattle.token_forms.proofs.WordLaws.{both}
use Rattle.set_script.specs.Names.{is_set, set_place}
use Rattle.rule_chain.specs.declared.chains.Act.{Act}
use Rattle.rule_chain.specs.declared.chains.Test.{Test}
use Rattle.rule_chain.specs.declared.chains.Rule.{Rule}
use Rattle.rule_chain.specs.declared.chains.Chain.{Chain}
use Rattle.rule_chain.specs.declared.draft.RulesDraft.{RulesDraft}
use Rattle.rule_chain.specs.declared.draft.RulesWord.{RulesWord}
use Rattle.rule_chain.specs.declared.draft.RulesWord.TheVariants as firsts
use Rattle.rule_chain.specs.declared.draft.ActWord.{ActWord}
use Rattle.rule_chain.specs.declared.draft.ActWord.TheVariants as words
use Rattle.rule_chain.specs.Chains.{LeadsBack, IsRule, AreChains, rule_count, most_chains, most_rules, most_tests}
use Rattle.rule_chain.specs.RuleNames.{inside_of, test_of, test_word_of, chain_place, rules_word_of}
use Rattle.rule_chain.specs.Rules.{no_rules, test_at, with_chain}
use Rattle.rule_chain.specs.Rules as form
use Rattle.rule_chain.specs.RulesText.{IsRulesText}
use Rattle.rule_chain.proofs.RulesLaws.{placed_some}

position_within : {X : Type 0} (p : X → Bool) (xs : List X) (i : ℕ) → position p xs ≡ Some i → i < length xs
position_within p xs i h =
    let k = cond_some (nat_lt (position_or_len p xs) (length xs)) (position_or_len p xs) i h in
    subst (λ z. z < length xs) k.1 (ltb-true (position_or_len p xs) (length xs) k.0)

-- what holds of each item at its place, and of a new one, holds of all
all_places : {X : Type 0} (xs : List X) (y : X) (P : ℕ → X → Type 0) → ((i : ℕ) (x : X) → slice_get xs i ≡ Some x → P i x) → P (length xs) y
    → (i : ℕ) (x : X) → slice_get (xs ++ y ∷ []) i ≡ Some x → P i x
all_places [] y P each last zero x e = let same : y ≡ x = cc e in subst (P 0) same last
all_places [] y P each last (suc i) x e = absurd (cc e)
all_places (z ∷ xs) y P each last zero x e = each zero x e
all_places (z ∷ xs) y P each last (suc i) x e = all_places xs y (λ i x. P (suc i) x) (λ i x h. each (suc i) x h) last i x e

-- tests
record AreTests (schema : List SetDecl) (tests : List Test) : Type 0 where
  few : length tests ≤ most_tests
  declared : All (λ (t : Test). t.set < length schema) tests

room_for_one : (tests : ℕ) (t : List ℕ) (inside : Bool) → test_of tests t ≡ Some inside → tests < most_tests
room_for_one tests t inside h = go (nat_lt tests most_tests) refl h where
  go : (b : Bool) → nat_lt tests most_tests ≡ b → (if b then inside_of t else None) ≡ Some inside → tests < most_tests
  go true e h = ltb-true tests most_tests e
  go false e h = absurd (cc h)

test_keeps : (schema : List SetDecl) (tests after : List Test) (x : List Lexeme) → AreTests schema tests → (form.test schema tests).whole x after → AreTests schema after
test_keeps schema tests after x k (first, x1, y1, e1, (t, et, given), (p, x2, y2, e2, place, (i, x3, y3, e3, (u, eu, named), h))) =
    let room = room_for_one (length tests) t.bytes first.inside (placed_some t (test_of (length tests) t.bytes) first (word_given (test_word_of (length tests)) t first given)) in
    let there = position_within (is_set p.0 p.1 u.bytes) schema i (word_given (λ t. set_place schema p.0 p.1 t.bytes) u i named) in
    let l = length-append tests (test_at first i ∷ []) in
    subst (AreTests schema) h.1 (record {
      few = omega (arith, l);
      declared = All-push (λ (t : Test). t.set < length schema) tests (test_at first i) k.declared there;
    })

-- rules of the chain after these
act_back : (chains : List Chain) (w : ActWord) (a : Act) (x : List Lexeme) → (form.act_behind chains w).whole x a → LeadsBack (length chains) a
act_back chains words.Accept a x h = subst (LeadsBack (length chains)) h.1 tt
act_back chains words.Drop a x h = subst (LeadsBack (length chains)) h.1 tt
act_back chains words.Return a x h = subst (LeadsBack (length chains)) h.1 tt
act_back chains words.Jump a x (i, x1, y1, e, (t, et, given), h) =
    subst (LeadsBack (length chains)) h.1 (position_within (λ c. bytes_eq c.name t.bytes) chains i (word_given (λ t. chain_place chains t.bytes) t i given))

record AreRules (schema : List SetDecl) (d : RulesDraft) (rules : List Rule) : Type 0 where
  few : length rules ≤ d.left
  each : All (IsRule schema (length d.chains)) rules

rule_keeps : (schema : List SetDecl) (d : RulesDraft) (rules after : List Rule) (x : List Lexeme) → AreRules schema d rules → length rules < d.left → (form.rule schema d.chains rules).whole x after → AreRules schema d after
rule_keeps schema d rules after x k room (tests, x1, y1, e1, w, (a, x2, y2, e2, (aw, x3, y3, e3, given, behind), h)) =
    let sound = many_keeps (form.test schema) (AreTests schema) (λ s s1 x p w. test_keeps schema s s1 x p w) tests [] x1 (record { few = omega arith; declared = All-nil (λ (t : Test). t.set < length schema) }) w in
    let l = length-append rules (record { tests = tests; act = a } ∷ []) in
    subst (AreRules schema d) h.1 (record {
      few = omega (arith, l);
      each = All-push (IsRule schema (length d.chains)) rules (record { tests = tests; act = a }) k.each (record { few = sound.few; declared = sound.declared; back = act_back d.chains aw a y3 behind });
    })

rule_if_keeps : (schema : List SetDecl) (d : RulesDraft) (rules after : List Rule) (x : List Lexeme) (room : Bool) → nat_lt (length rules) d.left ≡ room → AreRules schema d rules → (form.rule_if room schema d.chains rules).whole x after → AreRules schema d after
rule_if_keeps schema d rules after x true e k w = rule_keeps schema d rules after x k (ltb-true (length rules) d.left e) w
rule_if_keeps schema d rules after x false e k w = absurd w

all_rules_sound : (schema : List SetDecl) (d : RulesDraft) (rules : List Rule) (x : List Lexeme) → (form.all_rules schema d).whole x rules → AreRules schema d rules
all_rules_sound schema d rules x (s, x1, y1, e, w, h) =
    subst (AreRules schema d) h.1 (lines_keep separates (λ rules. form.rule_if (nat_lt (length rules) d.left) schema d.chains rules) (AreRules schema d) (λ s s1 x p w. rule_if_keeps schema d s s1 x _ refl p w)
    ([], true) s x1 (record { few = omega arith; each = All-nil (IsRule schema (length d.chains)) }) w)

-- statements
record IsSound (schema : List SetDecl) (d : RulesDraft) : Type 0 where
  few : length d.chains ≤ most_chains
  count : rule_count d.chains + d.left ≤ most_rules
  rules : (i : ℕ) (c : Chain) → slice_get d.chains i ≡ Some c → All (IsRule schema i) c.rules
  some : is_some d.policy ≡ true → 0 < length d.chains

count_push : (chains : List Chain) (c : Chain) → rule_count (chains ++ c ∷ []) ≡ rule_count chains + length c.rules
count_push chains c =
    let all = sum_by-append (λ (c : Chain). length c.rules) chains (c ∷ []) in
    let one = sum_by-cons (λ (c : Chain). length c.rules) c [] in
    omega (arith, all, one)

with_chain_sound : (schema : List SetDecl) (d : RulesDraft) (name : List ℕ) (rules : List Rule) → IsSound schema d → length d.chains < most_chains → AreRules schema d rules → IsSound schema (with_chain d name rules)
with_chain_sound schema d name rules k room r =
    let c : Chain = record { name = name; rules = rules } in
    let l = length-append d.chains (c ∷ []) in
    let n = count_push d.chains c in
    let few = r.few in
    let count = k.count in
    record {
      few = omega (arith, l);
      count = omega (arith, n, few, count);
      rules = all_places d.chains c (λ i c. All (IsRule schema i) c.rules) k.rules r.each;
      some = λ e. omega (arith, l);
    }

record MayStand (d : RulesDraft) (w : RulesWord) : Type 0 where
  chain : w ≡ firsts.Chain → length d.chains < most_chains
  policy : w ≡ firsts.Policy → 0 < length d.chains

may_stand : (d : RulesDraft) (t : List ℕ) (w : RulesWord) → rules_word_of d t ≡ Some w → MayStand d w
may_stand d t w h = go (is_some d.policy) (bytes_eq t (codes "chain") && nat_lt (length d.chains) most_chains) (bytes_eq t (codes "policy") && nat_lt 0 (length d.chains)) refl refl h where
  go : (a b c : Bool) → (bytes_eq t (codes "chain") && nat_lt (length d.chains) most_chains) ≡ b → (bytes_eq t (codes "policy") && nat_lt 0 (length d.chains)) ≡ c
      → (if a then None else if b then Some firsts.Chain else if c then Some firsts.Policy else None) ≡ Some w → MayStand d w
  go true b c eb ec h = absurd (cc h)
  go false true c eb ec h = record { chain = λ e. ltb-true (length d.chains) most_chains (both _ _ eb).1; policy = λ e. absurd (cc (h, e)) }
  go false false true eb ec h = record { chain = λ e. absurd (cc (h, e)); policy = λ e. ltb-true 0 (length d.chains) (both _ _ ec).1 }
  go false false false eb ec h = absurd (cc h)

statement_keeps : (schema : List SetDecl) (d after : RulesDraft) (x : List Lexeme) → IsSound schema d → (form.statement schema d).whole x after → IsSound schema after
statement_keeps schema d after x k (w, x1, y1, e1, (t, et, given), behind) = go w (may_stand d t.bytes w (word_given (λ t. rules_word_of d t.bytes) t w given)) behind where
  go : (w : RulesWord) → MayStand d w → (form.statement_behind schema d w).whole y1 after → IsSound schema after
  go firsts.Chain m (name, x2, y2, e2, w2, (u, x3, y3, e3, w3, (rules, x4, y4, e4, w4, (v, x5, y5, e5, w5, h)))) =
      subst (IsSound schema) h.1 (with_chain_sound schema d name rules k (m.chain refl) (all_rules_sound schema d rules x4 w4))
  go firsts.Policy m (accept, x2, y2, e2, w2, h) = subst (IsSound schema) h.1 (record { few = k.few; count = k.count; rules = k.rules; some = λ e. m.policy refl })

finished_sound : (schema : List SetDecl) (d : RulesDraft) (rules : List Chain × Bool) (x : List Lexeme) → IsSound schema d → (policy : Option Bool) → d.policy ≡ policy → (form.finished d.chains policy).whole x rules → AreChains schema rules.0
finished_sound schema d rules x k None e h = absurd h
finished_sound schema d rules x k (Some accept) e h =
    let some = k.some (ap is_some e) in
    let count = k.count in
    let same : d.chains ≡ rules.0 = ap (λ z. z.0) h.1 in
    subst (AreChains schema) same (record { some = some; few = k.few; few_rules = omega (arith, count); rules = k.rules })

pub chains_sound : (schema : List SetDecl) (text : List ℕ) (rules : List Chain × Bool) → IsRulesText schema text rules → AreChains schema rules.0
unfolding IsRulesText
chains_sound schema text rules (read, x, y, e, (s, x1, y1, e1, w, h), (u, x2, y2, e2, w2, h2)) =
    let k = lines_keep separates (form.statement schema) (IsSound schema) (λ s s1 x p w. statement_keeps schema s s1 x p w) (no_rules, true) s x1
    (record { few = omega arith; count = omega arith; rules = λ i c e. absurd (cc e); some = λ e. absurd (cc e) }) w in
    subst (λ (z : List Chain × Bool). AreChains schema z.0) h2.1 (finished_sound schema s.0 read y1 k s.0.policy refl h)
