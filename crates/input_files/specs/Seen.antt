-- What a command sees of its files, of which some are rulesets.
use Rattle.std.specs.Prelude.{◌≡◌, ℕ, Bool, true, false, ◌||◌, List, [], ◌∷◌, ◌++◌, bytes_eq, Option, Some, option_map}
use Rattle.std.specs.List.{list_any}
use Rattle.ruleset_sets.specs.Kept.{kept_text, notes}
use Rattle.ruleset_sets.specs.RulesetText.{leaves_out}
use Rattle.skip_notes.specs.Skips.{skips_text}
use Rattle.input_files.specs.declared.seen.Rulesets.{Rulesets}
use Rattle.input_files.specs.declared.seen.Skips.{Skips}
use Rattle.input_files.specs.declared.seen.Rulesets.TheVariants.{NoFile, OneFile, TwoFiles}

-- the names of the files that are rulesets
abbrev pub ruleset_names : Rulesets → List (List ℕ)
ruleset_names NoFile = []
ruleset_names (OneFile a) = a.now ∷ []
ruleset_names (TwoFiles a b) = a.now ∷ b.now ∷ []

abbrev pub is_ruleset : List (List ℕ) → List ℕ → Bool
is_ruleset rulesets name = list_any (λ r. bytes_eq r name) rulesets

-- what is read of a text: of a ruleset what is kept of it
abbrev pub kept_if : Bool → List ℕ → List ℕ
kept_if true text = kept_text text
kept_if false text = text

-- what is seen of a file's bytes, if they are known
abbrev pub seen_if : Bool → Option (List ℕ) → Option (List ℕ)
seen_if true bytes = option_map kept_text bytes
seen_if false bytes = bytes

-- What a command sees under a name: of a ruleset what is kept of it, and of another file its bytes.
abbrev pub seen : List (List ℕ) → (List ℕ → Option (List ℕ)) → List ℕ → Option (List ℕ)
seen rulesets told name = seen_if (is_ruleset rulesets name) (told name)

-- the lines on what isn't kept of a text, if it is a ruleset
abbrev pub skips_if : Bool → List ℕ → List ℕ → List ℕ
skips_if true name text = skips_text name text (notes text)
skips_if false name text = []

-- A set of a text, or a statement on one, is left out, if the text is a ruleset.
abbrev pub leaves_if : Bool → List ℕ → Bool
leaves_if true text = list_any (λ s. leaves_out s.why) (notes text)
leaves_if false text = false

-- Nothing is left out or skipped.
abbrev pub KeepsAll : Skips → Type 0
KeepsAll skips = (skips.lines.bytes.items ≡ []) × (skips.leaves_sets_out ≡ false)

-- These are the lines on a file, and whether it leaves a set out, if its bytes are known. On a file that is no ruleset there are no
-- lines, and it leaves none out.
pub record AreSkips (told : List ℕ → Option (List ℕ)) (rulesets : List (List ℕ)) (name lines : List ℕ) (leaves : Bool) : Type 0 where
  pub known : (text : List ℕ) → told name ≡ Some text → (lines ≡ skips_if (is_ruleset rulesets name) name text) × (leaves ≡ leaves_if (is_ruleset rulesets name) text)
  pub none : is_ruleset rulesets name ≡ false → (lines ≡ []) × (leaves ≡ false)

-- What isn't kept of these files: the lines on them, one file after the other, and whether one of them leaves a set out.
abbrev pub AreAllSkips : (List ℕ → Option (List ℕ)) → List (List ℕ) → List (List ℕ) → List ℕ → Bool → Type 0
AreAllSkips told rulesets [] note leaves = (note ≡ []) × (leaves ≡ false)
AreAllSkips told rulesets (name ∷ names) note leaves =
    (lines : List ℕ) × (others : List ℕ) × (one : Bool) × (more : Bool) × (note ≡ lines ++ others) × (leaves ≡ (one || more)) × AreSkips told rulesets name lines one × AreAllSkips told rulesets names others more

-- What isn't kept of a file was added.
abbrev pub AddsSkips : (List ℕ → Option (List ℕ)) → List (List ℕ) → List ℕ → Skips → Skips → Type 0
AddsSkips told rulesets name old new =
    (lines : List ℕ) × (leaves : Bool) × (new.lines.bytes.items ≡ old.lines.bytes.items ++ lines) × (new.leaves_sets_out ≡ (old.leaves_sets_out || leaves)) × AreSkips told rulesets name lines leaves
