-- The items of a ruleset, one after another.
use Rattle.std.proofs.Common.{◌≡◌, refl, ◌∙◌, ap, ℕ, zero, suc, ◌-◌, ◌≤◌, ◌<◌, List, [], ◌∷◌, ◌++◌, length, take, drop, arith, append_assoc}
use Rattle.ruleset_sets.specs.declared.role_token.RoleToken.{RoleToken}
use Rattle.ruleset_sets.specs.declared.item.Level.{Level}
use Rattle.ruleset_sets.specs.declared.item.Item.{Item}
use Rattle.ruleset_sets.specs.declared.skipped.Skipped.{Skipped}
use Rattle.ruleset_sets.specs.Items.{cuts_from, first_item}
use Rattle.ruleset_sets.specs.Kept.{taken_from, taken_in, notes_by, notes_in, kept_byte}
use Rattle.ruleset_sets.proofs.BlankLaws.{next-tokens}

cuts-inside : (n : ℕ) (level : Level) (ps : List RoleToken) → n ≤ length ps → cuts_from n level ps ≡ cuts_from 0 level (drop n ps)
cuts-inside zero level ps h = refl
cuts-inside (suc n) level [] h = absurd (omega arith)
cuts-inside (suc n) level (p ∷ ps) h = let below : n ≤ length ps = omega arith in cuts-inside n level ps below

-- the first item, and those after it
pub cuts-first : (level : Level) (p : RoleToken) (ps left : List RoleToken) (i : Item) → left ≡ p ∷ ps → i ≡ first_item level p ps → 0 < i.size → i.size ≤ length left
    → cuts_from 0 level left ≡ record { item = take i.size left; skipped = i.skipped } ∷ cuts_from 0 i.level (drop i.size left)
cuts-first level p ps left i e f some within = rw (e, ← f) (go i.size refl some (rw e at within)) where
  go : (n : ℕ) → i.size ≡ n → 0 < n → n ≤ length (p ∷ ps)
      → record { item = take i.size (p ∷ ps); skipped = i.skipped } ∷ cuts_from (i.size - 1) i.level ps
      ≡ record { item = take i.size (p ∷ ps); skipped = i.skipped } ∷ cuts_from 0 i.level (drop i.size (p ∷ ps))
  go zero h z w = absurd (omega arith)
  go (suc n) h z w =
      let less : suc n - 1 ≡ n = omega arith in
      let below : n ≤ length ps = omega arith in
      let inner : cuts_from (i.size - 1) i.level ps ≡ cuts_from 0 i.level (drop i.size (p ∷ ps)) = rw h (rw less (cuts-inside n i.level ps below)) in
      ap (λ cs. record { item = take i.size (p ∷ ps); skipped = i.skipped } ∷ cs) inner

-- The first item has been taken out of a text. What is left of the others is still to be taken out.
pub text-next : (level : Level) (p : RoleToken) (ps left these behind : List RoleToken) (i : Item) (k b old new : ℕ)
    → left ≡ p ∷ ps → i ≡ first_item level p ps → 0 < i.size → i.size ≤ length left → these ≡ take i.size left → behind ≡ drop i.size left
    → new ≡ kept_byte (taken_from i.skipped these) k old → kept_byte (taken_in (cuts_from 0 level left)) k old ≡ b
    → kept_byte (taken_in (cuts_from 0 i.level behind)) k new ≡ b
text-next level p ps left these behind i k b old new e f some within front back one all =
    let first = cuts-first level p ps left i e f some within in
    let whole : kept_byte (taken_from i.skipped (take i.size left) ++ taken_in (cuts_from 0 i.level (drop i.size left))) k old ≡ b = rw first at all in
    rw back (next-tokens (taken_from i.skipped (take i.size left)) (taken_in (cuts_from 0 i.level (drop i.size left))) k b old new (rw front at one) whole)

-- The notes on the first item, and then those on the others.
pub skips-next : (level : Level) (p : RoleToken) (ps left these behind : List RoleToken) (i : Item) (old new all : List Skipped)
    → left ≡ p ∷ ps → i ≡ first_item level p ps → 0 < i.size → i.size ≤ length left → these ≡ take i.size left → behind ≡ drop i.size left
    → new ≡ old ++ notes_by i.skipped these (taken_from i.skipped these) → old ++ notes_in (cuts_from 0 level left) ≡ all
    → new ++ notes_in (cuts_from 0 i.level behind) ≡ all
skips-next level p ps left these behind i old new all e f some within front back one rest =
    let first = cuts-first level p ps left i e f some within in
    let this : List Skipped = notes_by i.skipped (take i.size left) (taken_from i.skipped (take i.size left)) in
    let others : List Skipped = notes_in (cuts_from 0 i.level (drop i.size left)) in
    let whole : old ++ (this ++ others) ≡ all = rw first at rest in
    let noted : new ≡ old ++ this = rw front at one in
    rw (back, noted) (append_assoc old this others ∙ whole)
