-- The types of keys stand for all of their sets.
use Rattle.std.proofs.Common.{◌≡◌, refl, sym, ◌∙◌, ap, ℕ, ◌+◌, ◌<◌, Bool, true, false, not, ◌&&◌, ◌||◌, if◌then◌else◌, List, [], ◌∷◌, ◌++◌, length, take, get_or, map, append_assoc, append-nil, Option, Some, None, slice_get, add-one, arith}
use Rattle.std.specs.Prelude.{◌==◌}
use Rattle.std.specs.List.{fold, list_any}
use Rattle.std.proofs.lemmas.Bool.{eqb-true}
use Rattle.std.proofs.lemmas.List.Folds.{list_any-append}
use Rattle.std.proofs.Math.Seq.{take-suc}
use Rattle.set_model.specs.declared.kind.Kind.{Kind}
use Rattle.set_model.specs.declared.packet.Packet.{Packet}
use Rattle.set_model.specs.declared.script.SetDecl.{SetDecl}
use Rattle.set_model.specs.Control.{Generation}
use Rattle.rule_chain.specs.declared.chains.Test.{Test}
use Rattle.rule_chain.specs.declared.chains.Chain.{Chain}
use Rattle.rule_chain.specs.Judged.{same_kinds, alike, as_asked, has_element, meets_test}
use Rattle.rule_chain.specs.Unmet.{sets_of, are_alike, has_key, has_no_key, of_chains, unmet, with_type, key_types}
use Rattle.rule_chain.proofs.JudgedLaws.{same_are_equal}

-- One more packet, and one more section.
fold_both : {A B : Type 0} (f : B → A → B) (b : B) (xs ys : List A) → fold f b (xs ++ ys) ≡ fold f (fold f b xs) ys
fold_both f b [] ys = refl
fold_both f b (x ∷ xs) ys = fold_both f (f b x) xs ys

map_both : {A B : Type 0} (f : A → B) (xs ys : List A) → map f (xs ++ ys) ≡ map f xs ++ map f ys
map_both f [] ys = refl
map_both f (x ∷ xs) ys = ap (λ z. f x ∷ z) (map_both f xs ys)

pub one_packet_more : (schema : List SetDecl) (types : List ℕ) (packets : List Packet) (i : ℕ) (d : Packet) → i < length packets
    → fold (with_type schema) types (map (λ (p : Packet). p.set) (take (i + 1) packets)) ≡ with_type schema (fold (with_type schema) types (map (λ (p : Packet). p.set) (take i packets))) (get_or packets i d).set
one_packet_more schema types packets i d within =
    let front : take (i + 1) packets ≡ take i packets ++ get_or packets i d ∷ [] = rw add-one (take-suc packets i d within) in
    ap (λ (ps : List Packet). fold (with_type schema) types (map (λ (p : Packet). p.set) ps)) front
    ∙ ap (λ (ss : List ℕ). fold (with_type schema) types ss) (map_both (λ (p : Packet). p.set) (take i packets) (get_or packets i d ∷ []))
    ∙ fold_both (with_type schema) types (map (λ (p : Packet). p.set) (take i packets)) ((get_or packets i d).set ∷ [])

sets_both : (keys more : List (List Packet)) → sets_of (keys ++ more) ≡ sets_of keys ++ sets_of more
sets_both [] more = refl
sets_both (ps ∷ keys) more = ap (λ z. map (λ (p : Packet). p.set) ps ++ z) (sets_both keys more) ∙ sym (append_assoc (map (λ (p : Packet). p.set) ps) (sets_of keys) (sets_of more))

pub one_section_more : (schema : List SetDecl) (types : List ℕ) (keys : List (List Packet)) (i : ℕ) (d : List Packet) → i < length keys
    → fold (with_type schema) types (sets_of (take (i + 1) keys)) ≡ fold (with_type schema) (fold (with_type schema) types (sets_of (take i keys))) (map (λ (p : Packet). p.set) (get_or keys i d))
one_section_more schema types keys i d within =
    let front : take (i + 1) keys ≡ take i keys ++ get_or keys i d ∷ [] = rw add-one (take-suc keys i d within) in
    let last : sets_of (get_or keys i d ∷ []) ≡ map (λ (p : Packet). p.set) (get_or keys i d) = append-nil (map (λ (p : Packet). p.set) (get_or keys i d)) in
    ap (λ (ps : List (List Packet)). fold (with_type schema) types (sets_of ps)) front
    ∙ ap (λ (ss : List ℕ). fold (with_type schema) types ss) (sets_both (take i keys) (get_or keys i d ∷ []) ∙ ap (λ z. sets_of (take i keys) ++ z) last)
    ∙ fold_both (with_type schema) types (sets_of (take i keys)) (map (λ (p : Packet). p.set) (get_or keys i d))

-- Two sets of the same kinds are like the same sets.
alike_same : (t a b : Option SetDecl) → alike a b ≡ true → alike t a ≡ alike t b
alike_same None a b h = refl
alike_same (Some t) (Some a) (Some b) h = ap (λ (ks : List Kind). same_kinds t.kinds ks) (same_are_equal a.kinds b.kinds h)
alike_same (Some t) (Some a) None h = absurd (cc h)
alike_same (Some t) None b h = absurd (cc h)

or_same : (a b : Bool) → a ≡ b → (r : Bool) → (a || r) || b ≡ (a || r)
or_same true b e r = refl
or_same false b e true = refl
or_same false b e false = sym e

or_in : (a r b : Bool) → (r || b) ≡ r → (a || r) || b ≡ (a || r)
or_in true r b e = refl
or_in false r b e = e

-- A set that is like one of these adds nothing.
adds_none : (schema : List SetDecl) (t s : ℕ) (types : List ℕ) → list_any (λ o. are_alike schema o s) types ≡ true → (list_any (are_alike schema t) types || are_alike schema t s) ≡ list_any (are_alike schema t) types
adds_none schema t s [] h = absurd (cc h)
adds_none schema t s (o ∷ types) h = go (are_alike schema o s) refl h (λ k. adds_none schema t s types k) where
  go : (b : Bool) → are_alike schema o s ≡ b → (b || list_any (λ o. are_alike schema o s) types) ≡ true → (list_any (λ o. are_alike schema o s) types ≡ true → (list_any (are_alike schema t) types || are_alike schema t s) ≡ list_any (are_alike schema t) types)
      → ((are_alike schema t o || list_any (are_alike schema t) types) || are_alike schema t s) ≡ (are_alike schema t o || list_any (are_alike schema t) types)
  go true e k rest = or_same (are_alike schema t o) (are_alike schema t s) (alike_same (slice_get schema t) (slice_get schema o) (slice_get schema s) e) (list_any (are_alike schema t) types)
  go false e k rest = or_in (are_alike schema t o) (list_any (are_alike schema t) types) (are_alike schema t s) (rest k)

or_false : (a : Bool) → (a || false) ≡ a
or_false true = refl
or_false false = refl

or_assoc : (a b c : Bool) → ((a || b) || c) ≡ (a || (b || c))
or_assoc true b c = refl
or_assoc false b c = refl

one_type : (schema : List SetDecl) (t s : ℕ) (types : List ℕ) → list_any (are_alike schema t) (with_type schema types s) ≡ (list_any (are_alike schema t) types || are_alike schema t s)
one_type schema t s types = go (list_any (λ o. are_alike schema o s) types) refl where
  go : (b : Bool) → list_any (λ o. are_alike schema o s) types ≡ b → list_any (are_alike schema t) (if b then types else types ++ s ∷ []) ≡ (list_any (are_alike schema t) types || are_alike schema t s)
  go true e = sym (adds_none schema t s types e)
  go false e = list_any-append (are_alike schema t) types (s ∷ []) ∙ ap (λ z. list_any (are_alike schema t) types || z) (or_false (are_alike schema t s))

all_types : (schema : List SetDecl) (t : ℕ) (types sets : List ℕ) → list_any (are_alike schema t) (fold (with_type schema) types sets) ≡ (list_any (are_alike schema t) types || list_any (are_alike schema t) sets)
all_types schema t types [] = sym (or_false (list_any (are_alike schema t) types))
all_types schema t types (s ∷ sets) =
    all_types schema t (with_type schema types s) sets ∙ ap (λ z. z || list_any (are_alike schema t) sets) (one_type schema t s types) ∙ or_assoc (list_any (are_alike schema t) types) (are_alike schema t s) (list_any (are_alike schema t) sets)

-- A test has a key among these sets exactly if it has one among their types.
pub has_type : (schema : List SetDecl) (sets : List ℕ) (t : Test) → has_key schema (key_types schema sets) t ≡ has_key schema sets t
has_type schema sets t = all_types schema t.set [] sets

-- there is no type exactly if there is no set
type_stays : (schema : List SetDecl) (o s : ℕ) (types : List ℕ) → (rest : List ℕ) × (with_type schema (o ∷ types) s ≡ o ∷ rest)
type_stays schema o s types = go (list_any (λ x. are_alike schema x s) (o ∷ types)) where
  go : (b : Bool) → (rest : List ℕ) × ((if b then o ∷ types else (o ∷ types) ++ s ∷ []) ≡ o ∷ rest)
  go true = (types, refl)
  go false = (types ++ s ∷ [], refl)

types_stay : (schema : List SetDecl) (o : ℕ) (types sets : List ℕ) → (rest : List ℕ) × (fold (with_type schema) (o ∷ types) sets ≡ o ∷ rest)
types_stay schema o types [] = (types, refl)
types_stay schema o types (s ∷ sets) =
    let one = type_stays schema o s types in
    let all = types_stay schema o one.0 sets in
    (all.0, ap (λ z. fold (with_type schema) z sets) one.1 ∙ all.1)

-- The tests that were found are those that no packet meets.
tests_same : (p q : Test → Bool) → ((t : Test) → p t ≡ q t) → (chains : List Chain) → of_chains p chains ≡ of_chains q chains
tests_same p q same chains = ap (λ (f : Test → Bool). of_chains f chains) (λ i t. same t i)

pub none_unmet : (schema : List SetDecl) (sets types : List ℕ) (chains : List Chain) → types ≡ key_types schema sets → types ≡ [] → [] ≡ unmet schema sets chains
none_unmet schema [] types chains is none = refl
none_unmet schema (s ∷ sets) types chains is none = absurd (let all = types_stay schema s [] sets in let e = sym none ∙ is ∙ all.1 in cc e)

pub all_unmet : (schema : List SetDecl) (sets types : List ℕ) (chains : List Chain) (found : List Test) → types ≡ key_types schema sets → (types ≡ [] → ⊥) → found ≡ of_chains (has_no_key schema types) chains → found ≡ unmet schema sets chains
all_unmet schema [] types chains found is some same = absurd (some is)
all_unmet schema (s ∷ sets) types chains found is some same =
    same ∙ tests_same (has_no_key schema types) (has_no_key schema (s ∷ sets)) (λ t. ap not (ap (λ ts. has_key schema ts t) is ∙ has_type schema (s ∷ sets) t)) chains

-- No packet with a key for one of these sets meets a test that has no key among them.
none_like : (schema : List SetDecl) (t s : ℕ) (sets : List ℕ) → list_any (λ o. o == s) sets ≡ true → list_any (are_alike schema t) sets ≡ false → are_alike schema t s ≡ false
none_like schema t s [] h none = absurd (cc h)
none_like schema t s (o ∷ sets) h none = go (o == s) refl (are_alike schema t o) refl h none (λ k others. none_like schema t s sets k others) where
  go : (a : Bool) → (o == s) ≡ a → (b : Bool) → are_alike schema t o ≡ b → (a || list_any (λ o. o == s) sets) ≡ true → (b || list_any (are_alike schema t) sets) ≡ false
      → (list_any (λ o. o == s) sets ≡ true → list_any (are_alike schema t) sets ≡ false → are_alike schema t s ≡ false) → are_alike schema t s ≡ false
  go a e true k h none rest = absurd (cc none)
  go true e false k h none rest = ap (are_alike schema t) (sym (eqb-true o s e)) ∙ k
  go false e false k h none rest = rest h none

pub never_met : (schema : List SetDecl) (sets : List ℕ) (t : Test) (g : Generation) (p : Packet) → list_any (λ s. s == p.set) sets ≡ true → has_key schema sets t ≡ false → meets_test schema g p t ≡ false
never_met schema sets t g p is none =
    ap (λ b. b && as_asked t.inside (has_element g t.set p.key p.now)) (none_like schema t.set p.set sets is none)

-- whether a list is empty
pub empty_list : {A : Type 0} (xs : List A) → (length xs == 0) ≡ true → xs ≡ []
empty_list [] h = refl
empty_list (x ∷ xs) h = absurd (let e = eqb-true (length (x ∷ xs)) 0 h in omega (arith, e))

pub not_empty : {A : Type 0} (xs : List A) → (length xs == 0) ≡ false → xs ≡ [] → ⊥
not_empty xs h e = let z : (length xs == 0) ≡ true = ap (λ ys. length ys == 0) e in let k = sym z ∙ h in cc k
