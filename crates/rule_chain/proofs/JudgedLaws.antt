-- What a chain decides is the walk of its rules, in which jumps lead to what the earlier chains decide.
use Rattle.std.proofs.Common.{◌≡◌, ◌==◌, refl, sym, ◌∙◌, ap, subst, ℕ, zero, suc, ◌+◌, ◌<◌, ◌≤◌, Bool, true, false, if◌then◌else◌, List, [], ◌∷◌, ◌++◌, length, take, drop, slice_set, get_or, is_some, Option, Some, None, slice_get, arith, length-append, IsTrue}
use Rattle.std.specs.Option.{option_or}
use Rattle.std.specs.List.{All, list_all, zip}
use Rattle.std.proofs.lemmas.Bool.{eq-eqb, eqb-true}
use Rattle.std.proofs.lemmas.List.Elements.{All-head, All-tail}
use Rattle.std.proofs.lemmas.List.Sums.{sum_by-cons, sum_by-take-le}
use Rattle.set_model.specs.declared.script.SetDecl.{SetDecl}
use Rattle.token_forms.proofs.WordLaws.{both}
use Rattle.rule_chain.specs.declared.chains.Act.{Act}
use Rattle.rule_chain.specs.declared.chains.Act.TheVariants as acts
use Rattle.rule_chain.specs.declared.chains.Rule.{Rule}
use Rattle.rule_chain.specs.declared.chains.Chain.{Chain}
use Rattle.rule_chain.specs.Chains.{Rules, LeadsBack, IsRule, AreChains, rule_count}
use Rattle.set_model.specs.declared.kind.Kind.{Kind}
use Rattle.set_model.specs.declared.kind.Kind.TheVariants as kinds
use Rattle.set_model.specs.declared.packet.Packet.{Packet}
use Rattle.set_model.specs.Key.{key_fits}
use Rattle.set_model.specs.Runnable.{IsFitting}
use Rattle.rule_chain.specs.Judged.{acts_on, walk, flat, decided, decisions, kind_number, same_kinds, alike}

-- if the chains before place i decide the same, so do rules that jump only to these
same_acts : (i n : ℕ) (f g : ℕ → Option ℕ) → ((j : ℕ) → j < i → f j ≡ g j) → (a : Act) (x y : Option ℕ) → LeadsBack i a → x ≡ y → acts_on f n a x ≡ acts_on g n a y
same_acts i n f g h acts.Accept x y k e = refl
same_acts i n f g h acts.Drop x y k e = refl
same_acts i n f g h acts.Return x y k e = refl
same_acts i n f g h (acts.Jump c) x y k e = ap (λ z. option_or z x) (h c k) ∙ ap (λ z. option_or (g c) z) e

same_walk : (schema : List SetDecl) (i : ℕ) (fits : Rule → Bool) (f g : ℕ → Option ℕ) → ((j : ℕ) → j < i → f j ≡ g j) → (n : ℕ) (rules : List Rule) → All (IsRule schema i) rules → walk fits f n rules ≡ walk fits g n rules
same_walk schema i fits f g h n [] k = refl
same_walk schema i fits f g h n (r ∷ rules) k = go (fits r) (same_walk schema i fits f g h (n + 1) rules (All-tail (IsRule schema i) r rules k)) where
  go : (b : Bool) → walk fits f (n + 1) rules ≡ walk fits g (n + 1) rules
      → (if b then acts_on f n r.act (walk fits f (n + 1) rules) else walk fits f (n + 1) rules) ≡ (if b then acts_on g n r.act (walk fits g (n + 1) rules) else walk fits g (n + 1) rules)
  go true ih = same_acts i n f g h r.act _ _ (All-head (IsRule schema i) r rules k).back ih
  go false ih = ih

-- a place before the last
before_last : {X : Type 0} (xs : List X) (y : X) (j : ℕ) → j < length xs → slice_get (xs ++ y ∷ []) j ≡ slice_get xs j
before_last [] y j h = absurd (omega (arith, h))
before_last (x ∷ xs) y zero h = refl
before_last (x ∷ xs) y (suc j) h = before_last xs y j (omega (arith, h))

at_last : {X : Type 0} (xs : List X) (y : X) → slice_get (xs ++ y ∷ []) (length xs) ≡ Some y
at_last [] y = refl
at_last (x ∷ xs) y = at_last xs y

-- what is decided stays
stays : (fits : Rule → Bool) (n : ℕ) (before : List (Option ℕ)) (chains : List Chain) (j : ℕ) → j < length before → slice_get (decisions fits n before chains) j ≡ slice_get before j
stays fits n before [] j h = refl
stays fits n before (c ∷ chains) j h =
    let w = walk fits (decided before) n c.rules in
    let l = length-append before (w ∷ []) in
    stays fits (n + length c.rules) (before ++ w ∷ []) chains j (omega (arith, l, h)) ∙ before_last before w j h

later : (schema : List SetDecl) (fits : Rule → Bool) (n : ℕ) (before : List (Option ℕ)) (chains : List Chain) → ((i : ℕ) (c : Chain) → slice_get chains i ≡ Some c → All (IsRule schema (length before + i)) c.rules)
    → (i : ℕ) (c : Chain) → slice_get chains i ≡ Some c → decided (decisions fits n before chains) (length before + i) ≡ walk fits (decided (decisions fits n before chains)) (n + rule_count (take i chains)) c.rules
later schema fits n before [] sound i c e = absurd (cc e)
later schema fits n before (b ∷ chains) sound zero c e =
    let w = walk fits (decided before) n b.rules in
    let all = decisions fits (n + length b.rules) (before ++ w ∷ []) chains in
    let l = length-append before (w ∷ []) in
    let same : b ≡ c = cc e in
    let back : (j : ℕ) → j < length before → decided before j ≡ decided all j = λ j h. ap flat (sym (stays fits n before (b ∷ chains) j h)) in
    let here : slice_get all (length before) ≡ Some w = stays fits (n + length b.rules) (before ++ w ∷ []) chains (length before) (omega (arith, l)) ∙ at_last before w in
    let rules : All (IsRule schema (length before)) b.rules = subst (λ z. All (IsRule schema z) b.rules) (omega arith) (sound 0 b refl) in
    let at : decided all (length before + 0) ≡ w = ap (λ z. decided all z) (omega arith) ∙ ap flat here in
    at ∙ same_walk schema (length before) fits (decided before) (decided all) back n b.rules rules ∙ ap (λ z. walk fits (decided all) z b.rules) (omega arith) ∙ ap (λ (z : Chain). walk fits (decided all) (n + 0) z.rules) same
later schema fits n before (b ∷ chains) sound (suc i) c e =
    let w = walk fits (decided before) n b.rules in
    let all = decisions fits (n + length b.rules) (before ++ w ∷ []) chains in
    let l = length-append before (w ∷ []) in
    let shift : (k : ℕ) → length before + suc k ≡ length (before ++ w ∷ []) + k = λ k. omega (arith, l) in
    let further = later schema fits (n + length b.rules) (before ++ w ∷ []) chains (λ k d h. subst (λ z. All (IsRule schema z) d.rules) (shift k) (sound (suc k) d h)) i c e in
    ap (λ z. decided all z) (shift i) ∙ further ∙ ap (λ z. walk fits (decided all) z c.rules) (omega (arith, sum_by-cons (λ (c : Chain). length c.rules) b (take i chains)))

-- The chain at a place decides what its rules decide, numbered after those of the chains before.
pub chain_decides : (schema : List SetDecl) (fits : Rule → Bool) (chains : List Chain) → ((i : ℕ) (c : Chain) → slice_get chains i ≡ Some c → All (IsRule schema i) c.rules)
    → (i : ℕ) (c : Chain) → slice_get chains i ≡ Some c → decided (decisions fits 0 [] chains) i ≡ walk fits (decided (decisions fits 0 [] chains)) (rule_count (take i chains)) c.rules
chain_decides schema fits chains sound i c e =
    let all = decisions fits 0 [] chains in
    let same : (k : ℕ) → k ≡ 0 + k = λ k. omega arith in
    let found = later schema fits 0 [] chains (λ k d h. subst (λ z. All (IsRule schema z) d.rules) (same k) (sound k d h)) i c e in
    ap (λ z. decided all z) (same i) ∙ found ∙ ap (λ z. walk fits (decided all) z c.rules) (sym (same (rule_count (take i chains))))

-- A key fits each set that has the kinds of its own.
abbrev kind_of_number : ℕ → Kind
kind_of_number n = if n == 0 then kinds.Ipv4 else if n == 1 then kinds.Ipv6 else if n == 2 then kinds.Ether else if n == 3 then kinds.Proto else if n == 4 then kinds.Service else kinds.Mark

number_back : (k : Kind) → kind_of_number (kind_number k) ≡ k
number_back kinds.Ipv4 = refl
number_back kinds.Ipv6 = refl
number_back kinds.Ether = refl
number_back kinds.Proto = refl
number_back kinds.Service = refl
number_back kinds.Mark = refl

pub same_are_equal : (ks others : List Kind) → same_kinds ks others ≡ true → ks ≡ others
same_are_equal [] [] h = refl
same_are_equal [] (o ∷ others) h = let k = both (length {A = Kind} [] == length (o ∷ others)) (list_all (λ p. kind_number p.0 == kind_number p.1) (zip [] (o ∷ others))) h in let e = eqb-true 0 (length (o ∷ others)) k.0 in absurd (omega (arith, e))
same_are_equal (k ∷ ks) [] h = let l = both (length (k ∷ ks) == length {A = Kind} []) (list_all (λ p. kind_number p.0 == kind_number p.1) (zip (k ∷ ks) [])) h in let e = eqb-true (length (k ∷ ks)) 0 l.0 in absurd (omega (arith, e))
same_are_equal (k ∷ ks) (o ∷ others) h =
    let lengths_and_all = both (length (k ∷ ks) == length (o ∷ others)) (list_all (λ p. kind_number p.0 == kind_number p.1) (zip (k ∷ ks) (o ∷ others))) h in
    let one_and_all = both (kind_number k == kind_number o) (list_all (λ p. kind_number p.0 == kind_number p.1) (zip ks others)) lengths_and_all.1 in
    let number : kind_number k ≡ kind_number o = eqb-true (kind_number k) (kind_number o) one_and_all.0 in
    let one : k ≡ o = sym (number_back k) ∙ ap kind_of_number number ∙ number_back o in
    let size : length (k ∷ ks) ≡ length (o ∷ others) = eqb-true (length (k ∷ ks)) (length (o ∷ others)) lengths_and_all.0 in
    let same_size : (length ks == length others) ≡ true = eq-eqb (length ks) (length others) (omega (arith, size)) in
    let rest = same_are_equal ks others (rw (same_size, one_and_all.1) refl) in
    cc (one, rest)

pub fits_alike : (schema given : List SetDecl) (p : Packet) (set : ℕ) → given ≡ schema → IsFitting schema p → alike (slice_get schema set) (slice_get schema p.set) ≡ true → IsFitting given (record { set = set; key = p.key; now = p.now })
fits_alike schema given p set same k h = go (slice_get schema set) refl (rw k.declared at h) where
  go : (o : Option SetDecl) → slice_get schema set ≡ o → alike o (Some k.set) ≡ true → IsFitting given (record { set = set; key = p.key; now = p.now })
  go None e i = absurd (cc i)
  go (Some s) e i = record {
    set = s;
    declared = ap (λ (z : List SetDecl). slice_get z set) same ∙ e;
    fits = subst (λ ks. IsTrue (key_fits ks p.key)) (sym (same_are_equal s.kinds k.set.kinds i)) k.fits;
  }

-- one rule of a walk
pub not_fitting : (fits : Rule → Bool) (jumped : ℕ → Option ℕ) (n : ℕ) (r : Rule) (rules : List Rule) → fits r ≡ false → walk fits jumped n (r ∷ rules) ≡ walk fits jumped (n + 1) rules
not_fitting fits jumped n r rules h = rw h refl

pub fitting : (fits : Rule → Bool) (jumped : ℕ → Option ℕ) (n : ℕ) (r : Rule) (rules : List Rule) → fits r ≡ true → walk fits jumped n (r ∷ rules) ≡ acts_on jumped n r.act (walk fits jumped (n + 1) rules)
fitting fits jumped n r rules h = rw h refl

-- the rules from a place on
from_suc : {X : Type 0} (xs : List X) (i : ℕ) (x : X) → slice_get xs i ≡ Some x → drop i xs ≡ x ∷ drop (suc i) xs
from_suc [] i x h = absurd (cc h)
from_suc (y ∷ xs) zero x h = let same : y ≡ x = cc h in ap (λ z. z ∷ xs) same
from_suc (y ∷ xs) (suc i) x h = from_suc xs i x h

pub from_place : {X : Type 0} (xs : List X) (i : ℕ) (x : X) → slice_get xs i ≡ Some x → drop i xs ≡ x ∷ drop (i + 1) xs
from_place xs i x h = let next : suc i ≡ i + 1 = omega arith in from_suc xs i x h ∙ ap (λ z. x ∷ drop z xs) next

pub none_from : {X : Type 0} (xs : List X) (i : ℕ) → length xs ≤ i → drop i xs ≡ []
none_from [] zero h = refl
none_from [] (suc i) h = refl
none_from (y ∷ xs) zero h = absurd (omega (arith, h))
none_from (y ∷ xs) (suc i) h = none_from xs i (omega (arith, h))

-- fewer chains have no more rules
pub few_before : (chains : List Chain) (i : ℕ) → rule_count (take i chains) ≤ rule_count chains
few_before chains i = sum_by-take-le (λ (c : Chain). length c.rules) chains i

-- a chain's walk begins at its first rule
pub walk_begins : (all : Rules) (fits : Rule → Bool) (i : ℕ) (c : Chain) (first : ℕ) (rules : List Rule) → AreChains all.schema all.chains → slice_get all.chains i ≡ Some c → first ≡ rule_count (take i all.chains) → rules ≡ c.rules
    → decided (decisions fits 0 [] all.chains) i ≡ walk fits (decided (decisions fits 0 [] all.chains)) first rules
walk_begins all fits i c first rules sound at number same =
    let f = decided (decisions fits 0 [] all.chains) in
    chain_decides all.schema fits all.chains sound.rules i c at ∙ ap (λ z. walk fits f z c.rules) (sym number) ∙ ap (λ z. walk fits f first z) (sym same)

module _ (fits : Rule → Bool) (jumped : ℕ → Option ℕ) (n i : ℕ) (rules : List Rule) (r : Rule) (at : slice_get rules i ≡ Some r) where
  here : walk fits jumped n (drop i rules) ≡ walk fits jumped n (r ∷ drop (i + 1) rules)
  here = ap (λ z. walk fits jumped n z) (from_place rules i r at)

  -- a rule that a packet doesn't fit is passed over
  pub next_unfit : (d : Option ℕ) → d ≡ walk fits jumped n (drop i rules) → fits r ≡ false → d ≡ walk fits jumped (n + 1) (drop (i + 1) rules)
  next_unfit d e h = e ∙ here ∙ not_fitting fits jumped n r (drop (i + 1) rules) h

  -- after a jump to a chain that decides nothing the walk goes on
  pub next_passed : (d : Option ℕ) (chain : ℕ) → d ≡ walk fits jumped n (drop i rules) → fits r ≡ true → r.act ≡ acts.Jump chain → jumped chain ≡ None → d ≡ walk fits jumped (n + 1) (drop (i + 1) rules)
  next_passed d chain e h act none =
      let behind = walk fits jumped (n + 1) (drop (i + 1) rules) in
      e ∙ here ∙ fitting fits jumped n r (drop (i + 1) rules) h ∙ ap (λ z. acts_on jumped n z behind) act ∙ ap (λ z. option_or z behind) none

-- right marks stay right if one more chain decides nothing
pub one_more_mark : (jumped : ℕ → Option ℕ) (marks : List Bool) (chain : ℕ) → ((k : ℕ) → slice_get marks k ≡ Some true → jumped k ≡ None) → jumped chain ≡ None
    → (k : ℕ) → slice_get (slice_set marks chain true) k ≡ Some true → jumped k ≡ None
one_more_mark jumped [] chain each none k h = absurd (cc h)
one_more_mark jumped (m ∷ marks) zero each none zero h = none
one_more_mark jumped (m ∷ marks) zero each none (suc k) h = each (suc k) h
one_more_mark jumped (m ∷ marks) (suc chain) each none zero h = each zero h
one_more_mark jumped (m ∷ marks) (suc chain) each none (suc k) h = one_more_mark (λ j. jumped (suc j)) marks chain (λ j e. each (suc j) e) none k h

pub marked : (marks : List Bool) (i : ℕ) → get_or marks i false ≡ true → slice_get marks i ≡ Some true
marked [] i h = absurd (cc h)
marked (m ∷ marks) zero h = ap (λ z. Some z) h
marked (m ∷ marks) (suc i) h = marked marks i h

pub nothing_there : {X : Type 0} (o : Option X) → is_some o ≡ false → o ≡ None
nothing_there None h = refl
nothing_there (Some x) h = absurd (cc h)
