-- The sets of a listing, table by table: each once, and apart from each other.
use Rattle.std.proofs.Common.{◌≡◌, refl, sym, ◌∙◌, ap, ℕ, ◌+◌, ◌≤◌, ◌&&◌, not, ◌==◌, List, [], ◌∷◌, ◌++◌, length, map, flat_map, filter, bytes_eq, Bool, true, false, All, true≢false, length-append, arith, cond}
use Rattle.std.specs.List.{zip, AllPairs}
use Rattle.std.proofs.lemmas.Bool.{and_parts, and_from, eqb-true}
use Rattle.std.proofs.lemmas.List.Elements.{All-nil, All-cons, All-head, All-tail, All-append, All-filter}
use Rattle.std.proofs.lemmas.List.Kept.{AllPairs-cons, AllPairs-filter}
use Rattle.std.proofs.lemmas.Slice.Eq.{bytes_eq-Decides}
use Rattle.set_model.specs.declared.script.Family.{Family}
use Rattle.set_model.specs.declared.script.Family.TheVariants.{Ip, Ip6, Inet, Arp, Bridge, Netdev}
use Rattle.set_model.specs.declared.script.SetDecl.{SetDecl}
use Rattle.set_model.specs.SetState.{State}
use Rattle.set_model.specs.Text.{family_text}
use Rattle.set_script.specs.Names.{family_number, is_set}
use Rattle.listing_laws.proofs.RelistedLaws.{pairs-head, pairs-tail}
use Rattle.set_report.specs.ListText.{same_table, first_sets, sets_beside}
use Rattle.listing_laws.specs.Listing.{by_table, AreApart}

-- Lists.
module _ {X : Type 0} (R : X → X → Type 0) where
  pairs-append : (xs ys : List X) → AllPairs R xs → AllPairs R ys → All (λ x. All (R x) ys) xs → AllPairs R (xs ++ ys)
  pairs-append [] ys h k cross = k
  pairs-append (x ∷ xs) ys h k cross =
      AllPairs-cons R x (xs ++ ys) (All-append (R x) xs ys (pairs-head R x xs h) (All-head (λ z. All (R z) ys) x xs cross)) (pairs-append xs ys (pairs-tail R x xs h) k (All-tail (λ z. All (R z) ys) x xs cross))

pairs-nil : {X : Type 0} (R : X → X → Type 0) → AllPairs R []
pairs-nil R = λ i j d lt within. absurd (omega (arith, within))

all-map : {X Y : Type 0} (P : Y → Type 0) (f : X → Y) (xs : List X) → All (λ x. P (f x)) xs → All P (map f xs)
all-map P f [] h = All-nil P
all-map P f (x ∷ xs) h = All-cons P (f x) (map f xs) (All-head (λ z. P (f z)) x xs h) (all-map P f xs (All-tail (λ z. P (f z)) x xs h))

pairs-map : {X Y : Type 0} (R : Y → Y → Type 0) (f : X → Y) (xs : List X) → AllPairs (λ x y. R (f x) (f y)) xs → AllPairs R (map f xs)
pairs-map R f [] h = pairs-nil R
pairs-map R f (x ∷ xs) h =
    AllPairs-cons R (f x) (map f xs) (all-map (R (f x)) f xs (pairs-head (λ x y. R (f x) (f y)) x xs h)) (pairs-map R f xs (pairs-tail (λ x y. R (f x) (f y)) x xs h))

abbrev Listed : Type 0
Listed = SetDecl × State

all-zip : (P : SetDecl → Type 0) (schema : List SetDecl) (sets : List State) → All P schema → All (λ (q : Listed). P q.0) (zip schema sets)
all-zip P [] sets h = All-nil (λ (q : Listed). P q.0)
all-zip P (d ∷ schema) [] h = All-nil (λ (q : Listed). P q.0)
all-zip P (d ∷ schema) (s ∷ sets) h = All-cons (λ (q : Listed). P q.0) (d, s) (zip schema sets) (All-head P d schema h) (all-zip P schema sets (All-tail P d schema h))

Differ : Listed → Listed → Type 0
Differ p q = AreApart p.0 q.0

pairs-zip : (schema : List SetDecl) (sets : List State) → AllPairs AreApart schema → AllPairs Differ (zip schema sets)
unfolding Differ
pairs-zip [] sets h = pairs-nil Differ
pairs-zip (d ∷ schema) [] h = pairs-nil Differ
pairs-zip (d ∷ schema) (s ∷ sets) h =
    AllPairs-cons Differ (d, s) (zip schema sets) (all-zip (AreApart d) schema sets (pairs-head AreApart d schema h)) (pairs-zip schema sets (pairs-tail AreApart d schema h))

zip-short : (schema : List SetDecl) (sets : List State) → length (zip schema sets) ≤ length schema
zip-short [] sets = omega arith
zip-short (d ∷ schema) [] = omega arith
zip-short (d ∷ schema) (s ∷ sets) = omega (arith, zip-short schema sets)

-- Tables: two sets are in one table if both are in a third's.
abbrev number_text : ℕ → List ℕ
number_text n = cond (n == 0) (family_text Ip) (cond (n == 1) (family_text Ip6) (cond (n == 2) (family_text Inet) (cond (n == 3) (family_text Arp) (cond (n == 4) (family_text Bridge) (family_text Netdev)))))

numbered : (f : Family) → number_text (family_number f) ≡ family_text f
numbered Ip = refl
numbered Ip6 = refl
numbered Inet = refl
numbered Arp = refl
numbered Bridge = refl
numbered Netdev = refl

record InOne (a b : SetDecl) : Type 0 where
  family : family_text a.family ≡ family_text b.family
  table : a.table ≡ b.table

in_one : (a b : SetDecl) → same_table a b ≡ true → InOne a b
in_one a b h =
    let both = and_parts (bytes_eq (family_text a.family) (family_text b.family)) (bytes_eq a.table b.table) h in
    record { family = (bytes_eq-Decides (family_text a.family) (family_text b.family)).0 both.0; table = (bytes_eq-Decides a.table b.table).0 both.1 }

are_one : (a b : SetDecl) → InOne a b → same_table a b ≡ true
are_one a b h = and_from _ _ ((bytes_eq-Decides (family_text a.family) (family_text b.family)).1 h.family) ((bytes_eq-Decides a.table b.table).1 h.table)

namesake : (a b : SetDecl) → is_set b.family b.table b.name a ≡ true → InOne a b
namesake a b h =
    let most = (and_parts ((family_number a.family == family_number b.family) && bytes_eq a.table b.table) (bytes_eq a.name b.name) h).0 in
    let both = and_parts (family_number a.family == family_number b.family) (bytes_eq a.table b.table) most in
    record {
      family = sym (numbered a.family) ∙ ap number_text (eqb-true (family_number a.family) (family_number b.family) both.0) ∙ numbered b.family;
      table = (bytes_eq-Decides a.table b.table).0 both.1;
    }

-- of two tables
tables_apart : (d e a b : SetDecl) → same_table d e ≡ false → same_table d a ≡ true → same_table e b ≡ true → InOne a b → ⊥
tables_apart d e a b apart h k one =
    let x = in_one d a h in
    let y = in_one e b k in
    let same = are_one d e (record { family = x.family ∙ one.family ∙ sym y.family; table = x.table ∙ one.table ∙ sym y.table }) in
    true≢false (sym same ∙ apart)

sets_apart : (d e : SetDecl) (p q : Listed) → same_table d e ≡ false → same_table d p.0 ≡ true → same_table e q.0 ≡ true → Differ p q
unfolding Differ
sets_apart d e p q apart h k = go (is_set q.0.family q.0.table q.0.name p.0) refl where
  go : (b : Bool) → is_set q.0.family q.0.table q.0.name p.0 ≡ b → b ≡ false
  go false is = refl
  go true is = absurd (tables_apart d e p.0 q.0 apart h k (namesake p.0 q.0 is))

-- no two of these declarations are in one table
Excludes : List SetDecl → Type 0
Excludes [] = Unit {0}
Excludes (d ∷ ds) = All (λ e. same_table d e ≡ false) ds × Excludes ds

passes-filter : {X : Type 0} (p : X → Bool) (xs : List X) → All (λ x. p x ≡ true) (filter p xs)
passes-filter p [] = All-nil (λ x. p x ≡ true)
passes-filter p (x ∷ xs) = go (p x) refl (passes-filter p xs) where
  go : (b : Bool) → p x ≡ b → All (λ x. p x ≡ true) (filter p xs) → All (λ x. p x ≡ true) (cond b (x ∷ filter p xs) (filter p xs))
  go true e k = All-cons (λ x. p x ≡ true) x (filter p xs) e k
  go false e k = k

not_true : (b : Bool) → not b ≡ true → b ≡ false
not_true true h = absurd (cc h)
not_true false h = refl

excludes-filter : (p : SetDecl → Bool) (ds : List SetDecl) → Excludes ds → Excludes (filter p ds)
unfolding Excludes
excludes-filter p [] h = tt
excludes-filter p (d ∷ ds) h = go (p d) (excludes-filter p ds h.1) where
  go : (b : Bool) → Excludes (filter p ds) → Excludes (cond b (d ∷ filter p ds) (filter p ds))
  go true k = (All-filter p (λ e. same_table d e ≡ false) ds h.0, k)
  go false k = k

first_excludes : (schema : List SetDecl) → Excludes (first_sets schema)
unfolding Excludes
first_excludes [] = tt
first_excludes (d ∷ schema) =
    let others = λ (e : SetDecl). not (same_table d e) in
    let passed = passes-filter others (first_sets schema) in
    ((λ k i lt. not_true _ (passed k i lt)), excludes-filter others (first_sets schema) (first_excludes schema))

pub first_named : (P : SetDecl → Type 0) (schema : List SetDecl) → All P schema → All P (first_sets schema)
first_named P [] h = All-nil P
first_named P (d ∷ schema) h = All-cons P d _ (All-head P d schema h) (All-filter (λ e. not (same_table d e)) P (first_sets schema) (first_named P schema (All-tail P d schema h)))

-- The sets that a list of declarations has beside it.
module _ (sets : List Listed) where
  abbrev beside : SetDecl → List Listed
  beside d = sets_beside d sets

  later_apart : (d : SetDecl) (p : Listed) (ds : List SetDecl) → same_table d p.0 ≡ true → All (λ e. same_table d e ≡ false) ds → All (Differ p) (flat_map beside ds)
  later_apart d p [] h all = All-nil (Differ p)
  later_apart d p (e ∷ ds) h all =
      let here = passes-filter (λ (q : Listed). same_table e q.0) sets in
      let apart = All-head (λ e. same_table d e ≡ false) e ds all in
      All-append (Differ p) (beside e) (flat_map beside ds) (λ k i lt. sets_apart d e p _ apart h (here k i lt)) (later_apart d p ds h (All-tail (λ e. same_table d e ≡ false) e ds all))

  all_apart : (ds : List SetDecl) → Excludes ds → AllPairs Differ sets → AllPairs Differ (flat_map beside ds)
  unfolding Excludes
  all_apart [] ex h = pairs-nil Differ
  all_apart (d ∷ ds) ex h =
      let here = passes-filter (λ (q : Listed). same_table d q.0) sets in
      pairs-append Differ (beside d) (flat_map beside ds) (AllPairs-filter Differ (λ (q : Listed). same_table d q.0) sets h) (all_apart ds ex.1 h) (λ k i lt. later_apart d _ ds (here k i lt) ex.0)

  all_have : (P : Listed → Type 0) (ds : List SetDecl) → All P sets → All P (flat_map beside ds)
  all_have P [] h = All-nil P
  all_have P (d ∷ ds) h = All-append P (beside d) (flat_map beside ds) (All-filter (λ (q : Listed). same_table d q.0) P sets h) (all_have P ds h)

-- in how many of these tables a set is
hits : List SetDecl → Listed → ℕ
hits [] q = 0
hits (d ∷ ds) q = cond (same_table d q.0) 1 0 + hits ds q

no_hit : (d : SetDecl) (ds : List SetDecl) (q : Listed) → same_table d q.0 ≡ true → All (λ e. same_table d e ≡ false) ds → hits ds q ≡ 0
unfolding hits
no_hit d [] q h all = refl
no_hit d (e ∷ ds) q h all = go (same_table e q.0) refl (no_hit d ds q h (All-tail (λ e. same_table d e ≡ false) e ds all)) where
  go : (b : Bool) → same_table e q.0 ≡ b → hits ds q ≡ 0 → cond b 1 0 + hits ds q ≡ 0
  go true is k = absurd (tables_apart d e q.0 q.0 (All-head (λ e. same_table d e ≡ false) e ds all) h is (record { family = refl; table = refl }))
  go false is k = omega (arith, k)

one_hit : (ds : List SetDecl) (q : Listed) → Excludes ds → hits ds q ≤ 1
unfolding hits Excludes
one_hit [] q ex = omega arith
one_hit (d ∷ ds) q ex = go (same_table d q.0) refl (one_hit ds q ex.1) where
  go : (b : Bool) → same_table d q.0 ≡ b → hits ds q ≤ 1 → cond b 1 0 + hits ds q ≤ 1
  go true is k = omega (arith, no_hit d ds q is ex.0)
  go false is k = omega (arith, k)

one_more : (q : Listed) (sets : List Listed) (ds : List SetDecl) → length (flat_map (beside (q ∷ sets)) ds) ≡ hits ds q + length (flat_map (beside sets) ds)
unfolding hits
one_more q sets [] = refl
one_more q sets (d ∷ ds) = go (same_table d q.0) (one_more q sets ds) where
  go : (b : Bool) → length (flat_map (beside (q ∷ sets)) ds) ≡ hits ds q + length (flat_map (beside sets) ds)
      → length (cond b (q ∷ beside sets d) (beside sets d) ++ flat_map (beside (q ∷ sets)) ds) ≡ cond b 1 0 + hits ds q + length (beside sets d ++ flat_map (beside sets) ds)
  go true k = omega (arith, k, length-append (beside sets d) (flat_map (beside (q ∷ sets)) ds), length-append (beside sets d) (flat_map (beside sets) ds))
  go false k = omega (arith, k, length-append (beside sets d) (flat_map (beside (q ∷ sets)) ds), length-append (beside sets d) (flat_map (beside sets) ds))

none : (ds : List SetDecl) → length (flat_map (beside []) ds) ≡ 0
none [] = refl
none (d ∷ ds) = none ds

no_more : (sets : List Listed) (ds : List SetDecl) → Excludes ds → length (flat_map (beside sets) ds) ≤ length sets
no_more [] ds ex = omega (arith, none ds)
no_more (q ∷ sets) ds ex = omega (arith, one_more q sets ds, one_hit ds q ex, no_more sets ds ex)

pub by_table_short : (schema : List SetDecl) (sets : List State) → length (by_table schema sets) ≤ length schema
by_table_short schema sets = omega (arith, no_more (zip schema sets) (first_sets schema) (first_excludes schema), zip-short schema sets)

pub by_table_apart : (schema : List SetDecl) (sets : List State) → AllPairs AreApart schema → AllPairs AreApart (map (λ p. p.0) (by_table schema sets))
unfolding Differ
by_table_apart schema sets h = pairs-map AreApart (λ (p : Listed). p.0) (by_table schema sets) (all_apart (zip schema sets) (first_sets schema) (first_excludes schema) (pairs-zip schema sets h))

pub by_table_all : (P : Listed → Type 0) (schema : List SetDecl) (sets : List State) → All P (zip schema sets) → All P (by_table schema sets)
by_table_all P schema sets h = all_have (zip schema sets) P (first_sets schema) h

-- what each set has that is listed, its declaration has
pub declared_all : (P : SetDecl → Type 0) (Q : Listed → Type 0) → ((q : Listed) → Q q → P q.0) → (schema : List SetDecl) (sets : List State) → length schema ≡ length sets → All Q (zip schema sets) → All P schema
declared_all P Q each [] sets same h = All-nil P
declared_all P Q each (d ∷ schema) [] same h = absurd (omega (arith, same))
declared_all P Q each (d ∷ schema) (s ∷ sets) same h =
    All-cons P d schema (each (d, s) (All-head Q (d, s) (zip schema sets) h)) (declared_all P Q each schema sets (omega (arith, same)) (All-tail Q (d, s) (zip schema sets) h))
