-- What chains decide is the number of a rule that accepts or drops.
use Rattle.std.proofs.Common.{◌≡◌, refl, sym, ◌∙◌, subst, ℕ, zero, suc, ◌+◌, ◌-◌, Bool, true, false, if◌then◌else◌, List, [], ◌∷◌, ◌++◌, length, Option, Some, None, slice_get, append_assoc, arith, length-append}
use Rattle.std.specs.Option.{option_or}
use Rattle.set_model.specs.declared.packet.Packet.{Packet}
use Rattle.set_model.specs.Control.{Generation}
use Rattle.rule_chain.specs.declared.chains.Act.{Act}
use Rattle.rule_chain.specs.declared.chains.Act.TheVariants as acts
use Rattle.rule_chain.specs.declared.chains.Rule.{Rule}
use Rattle.rule_chain.specs.declared.chains.Chain.{Chain}
use Rattle.rule_chain.specs.Chains.{Rules}
use Rattle.rule_chain.specs.Judged.{fits_rule, acts_on, walk, decided, decisions, decision_of, as_verdict, judged}
use Rattle.rule_chain.specs.JudgedText.{chain_rules, Decides, IsOfRules}

-- rule n of a list is one that decides
abbrev Names : List Rule → ℕ → Type 0
Names rules n = (r : Rule) × (slice_get rules n ≡ Some r) × Decides r.act

-- each decision names one
abbrev AllName : List Rule → (ℕ → Option ℕ) → Type 0
AllName rules decision = (chain n : ℕ) → decision chain ≡ Some n → Names rules n

front-at : {X : Type 0} (xs ys : List X) (i : ℕ) (x : X) → slice_get xs i ≡ Some x → slice_get (xs ++ ys) i ≡ Some x
front-at [] ys i x e = absurd (cc e)
front-at (y ∷ xs) ys zero x e = e
front-at (y ∷ xs) ys (suc i) x e = front-at xs ys i x e

behind-at : {X : Type 0} (xs ys : List X) (y : X) → slice_get (xs ++ y ∷ ys) (length xs) ≡ Some y
behind-at [] ys y = refl
behind-at (x ∷ xs) ys y = behind-at xs ys y

names-more : (rules more : List Rule) (n : ℕ) → Names rules n → Names (rules ++ more) n
names-more rules more n h = (h.0, front-at rules more n h.0 h.1, h.2)

-- a walk after the rules in front
walk-names : (fit : Rule → Bool) (jumped : ℕ → Option ℕ) (front rules : List Rule) (n m : ℕ) → n ≡ length front → AllName front jumped → walk fit jumped n rules ≡ Some m → Names (front ++ rules) m
walk-names fit jumped front [] n m long all e = absurd (cc e)
walk-names fit jumped front (r ∷ rules) n m long all e =
    let grown : length (front ++ r ∷ []) ≡ length front + 1 = length-append front (r ∷ []) in
    go (fit r) e (λ found. subst (λ (z : List Rule). Names z m) (append_assoc front (r ∷ []) rules)
    (walk-names fit jumped (front ++ r ∷ []) rules (n + 1) m (omega (arith, long, grown)) (λ chain k at. names-more front (r ∷ []) k (all chain k at)) found)) where
      here : Decides r.act → n ≡ m → Names (front ++ r ∷ rules) m
      here decides same = subst (Names (front ++ r ∷ rules)) (sym long ∙ same) (r, behind-at front rules r, decides)

      jump : (o : Option ℕ) → ((k : ℕ) → o ≡ Some k → Names front k) → option_or o (walk fit jumped (n + 1) rules) ≡ Some m → (walk fit jumped (n + 1) rules ≡ Some m → Names (front ++ r ∷ rules) m) → Names (front ++ r ∷ rules) m
      jump None names found behind = behind found
      jump (Some k) names found behind = names-more front (r ∷ rules) m (names m found)

      act : (a : Act) → r.act ≡ a → acts_on jumped n a (walk fit jumped (n + 1) rules) ≡ Some m → (walk fit jumped (n + 1) rules ≡ Some m → Names (front ++ r ∷ rules) m) → Names (front ++ r ∷ rules) m
      act acts.Accept is found behind = here (subst Decides (sym is) tt) (cc found)
      act acts.Drop is found behind = here (subst Decides (sym is) tt) (cc found)
      act acts.Return is found behind = absurd (cc found)
      act (acts.Jump chain) is found behind = jump (jumped chain) (all chain) found behind

      go : (b : Bool) → (if b then acts_on jumped n r.act (walk fit jumped (n + 1) rules) else walk fit jumped (n + 1) rules) ≡ Some m → (walk fit jumped (n + 1) rules ≡ Some m → Names (front ++ r ∷ rules) m) → Names (front ++ r ∷ rules) m
      go true found behind = act r.act refl found behind
      go false found behind = behind found

-- the decisions so far, and one more
one-more : (rules : List Rule) (before : List (Option ℕ)) (o : Option ℕ) → AllName rules (decided before) → ((n : ℕ) → o ≡ Some n → Names rules n) → AllName rules (decided (before ++ o ∷ []))
one-more rules [] o all h zero n e = h n e
one-more rules [] o all h (suc chain) n e = absurd (cc e)
one-more rules (x ∷ before) o all h zero n e = all 0 n e
one-more rules (x ∷ before) o all h (suc chain) n e = one-more rules before o (λ i k f. all (suc i) k f) h chain n e

decisions-name : (fit : Rule → Bool) (front : List Rule) (n : ℕ) (before : List (Option ℕ)) (chains : List Chain) → n ≡ length front → AllName front (decided before) → AllName (front ++ chain_rules chains) (decided (decisions fit n before chains))
decisions-name fit front n before [] long all = λ i k e. names-more front [] k (all i k e)
decisions-name fit front n before (c ∷ chains) long all =
    let w = walk fit (decided before) n c.rules in
    let grown = length-append front c.rules in
    let more : AllName (front ++ c.rules) (decided (before ++ w ∷ [])) = one-more (front ++ c.rules) before w (λ i k e. names-more front c.rules k (all i k e)) (λ k e. walk-names fit (decided before) front c.rules n k long all e) in
    subst (λ (z : List Rule). AllName z (decided (decisions fit (n + length c.rules) (before ++ w ∷ []) chains))) (append_assoc front c.rules (chain_rules chains))
    (decisions-name fit (front ++ c.rules) (n + length c.rules) (before ++ w ∷ []) chains (omega (arith, long, grown)) more)

pub judged-deciding : (rules : Rules) (g : Generation) (p : Packet) → IsOfRules rules (judged rules g p)
judged-deciding rules g p = go (decision_of rules g p (length rules.chains - 1)) refl where
  all : AllName (chain_rules rules.chains) (decided (decisions (fits_rule rules.schema g p) 0 [] rules.chains))
  all = decisions-name (fits_rule rules.schema g p) [] 0 [] rules.chains refl (λ i k e. absurd (cc e))

  go : (o : Option ℕ) → decision_of rules g p (length rules.chains - 1) ≡ o → IsOfRules rules (as_verdict o)
  go None e = tt
  go (Some n) e = all (length rules.chains - 1) n e
