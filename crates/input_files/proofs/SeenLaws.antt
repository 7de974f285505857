-- What a command sees of a file that was read.
use Rattle.std.proofs.Common.{refl, sym, ap, subst, ◌≡◌, ◌∙◌, ◌≤◌, ◌<◌, ℕ, Bool, true, false, ◌||◌, List, [], ◌++◌, length, Option, Some, None}
use Rattle.ruleset_sets.specs.Kept.{kept_text}
use Rattle.ruleset_sets.proofs.KeptLaws.{kept_length}
use Rattle.pip_base.specs.Whole.{size_limit}
use Rattle.input_files.specs.Seen.{AddsSkips, is_ruleset, kept_if, leaves_if, seen, seen_if, skips_if}
use Rattle.input_files.specs.declared.seen.Skips.{Skips}

-- Files that are known as before are seen as before.
pub seen_same : (rulesets : List (List ℕ)) (told other : List ℕ → Option (List ℕ)) (name : List ℕ) → told name ≡ other name → seen rulesets told name ≡ seen rulesets other name
seen_same rulesets told other name same = ap (seen_if (is_ruleset rulesets name)) same

-- What is read of a file is what is seen of it.
pub seen_text : (is : Bool) (bytes : Option (List ℕ)) (whole kept text : List ℕ) → ((t : List ℕ) → bytes ≡ Some t → whole ≡ t) → kept ≡ kept_if is whole → seen_if is bytes ≡ Some text → kept ≡ text
seen_text false bytes whole kept text known same at = same ∙ known text at
seen_text true None whole kept text known same at = absurd (cc at)
seen_text true (Some t) whole kept text known same at = same ∙ ap kept_text (known t refl) ∙ cc at

-- What is seen of a file is as long as the file.
pub seen_large : (is : Bool) (bytes : Option (List ℕ)) (text : List ℕ) → ((t : List ℕ) → bytes ≡ Some t → size_limit < length t) → seen_if is bytes ≡ Some text → size_limit < length text
seen_large false bytes text large at = large text at
seen_large true None text large at = absurd (cc at)
seen_large true (Some t) text large at = subst (λ n. size_limit < n) (sym (kept_length t) ∙ ap length (cc at)) (large t refl)

pub kept_small : (is : Bool) (whole kept : List ℕ) → length whole ≤ size_limit → kept ≡ kept_if is whole → length kept ≤ size_limit
kept_small false whole kept small same = subst (λ (t : List ℕ). length t ≤ size_limit) (sym same) small
kept_small true whole kept small same = subst (λ n. n ≤ size_limit) (sym (kept_length whole) ∙ ap length (sym same)) small

skips_none : (is : Bool) (name whole : List ℕ) → is ≡ false → (skips_if is name whole ≡ []) × (leaves_if is whole ≡ false)
skips_none false name whole e = (refl, refl)
skips_none true name whole e = absurd (cc e)

-- What isn't kept of a file that was read is what isn't kept of its bytes, if they are known.
pub adds_skips : (told : List ℕ → Option (List ℕ)) (rulesets : List (List ℕ)) (name whole : List ℕ) (old new : Skips) → ((t : List ℕ) → told name ≡ Some t → whole ≡ t)
    → new.lines.bytes.items ≡ old.lines.bytes.items ++ skips_if (is_ruleset rulesets name) name whole → new.leaves_sets_out ≡ (old.leaves_sets_out || leaves_if (is_ruleset rulesets name) whole) → AddsSkips told rulesets name old new
adds_skips told rulesets name whole old new known grown leaves = (
  skips_if (is_ruleset rulesets name) name whole,
  leaves_if (is_ruleset rulesets name) whole,
  grown,
  leaves,
  record {
    known = λ text at. (ap (skips_if (is_ruleset rulesets name) name) (known text at), ap (leaves_if (is_ruleset rulesets name)) (known text at));
    none = λ e. skips_none (is_ruleset rulesets name) name whole e;
  },
)
