-- A field's matched rules, word by word.
use Rattle.std.proofs.Common.{◌≡◌, refl, sym, ◌∙◌, ap, ℕ, zero, suc, ◌+◌, ◌*◌, ◌-◌, ◌^◌, ◌<◌, ◌≤◌, ◌⊎◌, inl, inr, Bool, true, false, ◌&&◌, List, [], ◌∷◌, length, arith}
use Rattle.std.specs.Prelude.{replicate, not}
use Rattle.std.proofs.lemmas.Bool.{cases_lt, lt-ltb}
use Rattle.std.proofs.lemmas.List.{get_or_past}
use Rattle.bit_rows.specs.Row.{at, bit, lies, IsCleared}
use Rattle.bit_rows.proofs.Bits.{bit-ones}
use Rattle.bit_rows.proofs.Tests.{and-true, and-false, lies-in, lies-above}
use Rattle.set_model.specs.declared.block.Block.{Block}
use Rattle.set_tables.specs.Rows.{matched}
use Rattle.lookup_table.specs.Table.{block_at}
use Rattle.fused_lookup.specs.declared.window.Window.{Window}
use Rattle.fused_lookup.specs.Window.{IsWindow}
use Rattle.fused_lookup.specs.Filled.{IsClear}
use Rattle.fused_lookup.specs.Words.{IsWordOf, IsLeft, IsWithinRules}

pub length-left : (test : Block → Bool) (blocks : List Block) (row : List Bool) → length blocks ≤ length row → length (matched test blocks row) ≡ length blocks
length-left test [] row h = refl
length-left test (b ∷ blocks) [] h = absurd (omega arith)
length-left test (b ∷ blocks) (x ∷ row) h = let l : length blocks ≤ length row = omega arith in ap suc (length-left test blocks row l)

-- a rule is left if it was set and its block passes
pub left-at : (test : Block → Bool) (blocks : List Block) (row : List Bool) (r : ℕ) → length blocks ≤ length row → r < length blocks → at (matched test blocks row) r ≡ (at row r && test (block_at blocks r))
left-at test [] row r h l = absurd (omega arith)
left-at test (b ∷ blocks) [] r h l = absurd (omega arith)
left-at test (b ∷ blocks) (x ∷ row) zero h l = refl
left-at test (b ∷ blocks) (x ∷ row) (suc r) h l =
    let h2 : length blocks ≤ length row = omega arith in
    let l2 : r < length blocks = omega arith in
    left-at test blocks row r h2 l2

and-left : (a b : Bool) → a ≡ false → (a && b) ≡ false
and-left a b h = ap (λ t. t && b) h

-- a rule that wasn't set isn't left
pub left-unset : (test : Block → Bool) (blocks : List Block) (row : List Bool) (r : ℕ) → length blocks ≤ length row → at row r ≡ false → at (matched test blocks row) r ≡ false
left-unset test blocks row r h unset = go (cases_lt r (length blocks)) where
  go : (r < length blocks) ⊎ (length blocks ≤ r) → at (matched test blocks row) r ≡ false
  go (inl l) = left-at test blocks row r h l ∙ and-left (at row r) (test (block_at blocks r)) unset
  go (inr l) = get_or_past (matched test blocks row) r false (let n = length-left test blocks row h in omega arith)

-- a word of the rules that are left
pub word-left : (test : Block → Bool) (blocks : List Block) (row : List Bool) (i n old word : ℕ) → length blocks ≡ n → n ≤ length row
    → IsLeft n row i old
    → ((k : ℕ) → k < 64 → 64 * i + k < n → bit word k ≡ (bit old k && test (block_at blocks (64 * i + k))))
    → ((k : ℕ) → k < 64 → n ≤ 64 * i + k → bit word k ≡ false) → IsWordOf (matched test blocks row) i word
word-left test blocks row i n old word count room was is past = record { bits = λ k h. go k h (cases_lt (64 * i + k) n) } where
  long : length blocks ≤ length row
  long = omega arith

  go : (k : ℕ) → k < 64 → (64 * i + k < n) ⊎ (n ≤ 64 * i + k) → bit word k ≡ at (matched test blocks row) (64 * i + k)
  go k h (inl l) =
      is k h l ∙ ap (λ t. t && test (block_at blocks (64 * i + k))) (was.bits k h l)
      ∙ sym (left-at test blocks row (64 * i + k) long (omega arith))
  go k h (inr l) = past k h l ∙ sym (get_or_past (matched test blocks row) (64 * i + k) false (let m = length-left test blocks row long in omega arith))

pub has-rules : (n i word : ℕ) → ((k : ℕ) → k < 64 → n ≤ 64 * i + k → bit word k ≡ false) → IsWithinRules n i word
has-rules n i word past = record { rule = λ k h set. go k h set (cases_lt (64 * i + k) n) } where
  go : (k : ℕ) → k < 64 → bit word k ≡ true → (64 * i + k < n) ⊎ (n ≤ 64 * i + k) → 64 * i + k < n
  go k h set (inl l) = l
  go k h set (inr l) = let e : false ≡ true = sym (past k h l) ∙ set in absurd (cc e)

ones-at : (n r : ℕ) → r < n → at (replicate n true) r ≡ true
ones-at zero r h = absurd (omega arith)
ones-at (suc n) zero h = refl
ones-at (suc n) (suc r) h = let l : r < n = omega arith in ones-at n r l

-- all rules
pub ones-left : (n i : ℕ) → IsLeft n (replicate n true) i (2 ^ 64 - 1)
ones-left n i = record { bits = λ k h l. bit-ones 64 k ∙ lt-ltb k 64 h ∙ sym (ones-at n (64 * i + k) l) }

-- rules before the window of a row are not left
pub left-below : (test : Block → Bool) (blocks : List Block) (row : List Bool) (w : Window) → length blocks ≤ length row → IsWindow row w → (k : ℕ) → k < 64 * w.first → at (matched test blocks row) k ≡ false
left-below test blocks row w room is k h = left-unset test blocks row k room (is.below k h)

-- the row of a walk through a window: clear before word i, and unchanged from there on
pub record IsTaken (i : ℕ) (old now : List Bool) : Type 0 where
  pub long : length now ≡ length old
  pub before : (p : ℕ) → p < 64 * i → at now p ≡ false
  pub behind : (p : ℕ) → 64 * i ≤ p → at now p ≡ at old p

pub taken-none : (row : List Bool) (w : Window) → IsWindow row w → IsTaken w.first row row
taken-none row w is = record { long = refl; before = is.below; behind = λ p h. refl }

pub taken-more : (i : ℕ) (old now next : List Bool) → IsTaken i old now → IsCleared (64 * i) (64 * (i + 1)) now next → IsTaken (i + 1) old next
taken-more i old now next so_far cleared = record {
  long = cleared.long ∙ so_far.long;
  before = λ p h. cleared.places p ∙ clear p h (cases_lt p (64 * i));
  behind = λ p h.
      cleared.places p ∙ ap (λ t. at now p && not t) (lies-above (64 * i) (64 * (i + 1)) p h) ∙ and-true (at now p) true refl ∙ so_far.behind p (omega arith);
} where
  clear : (p : ℕ) → p < 64 * (i + 1) → (p < 64 * i) ⊎ (64 * i ≤ p) → (at now p && not (lies (64 * i) (64 * (i + 1)) p)) ≡ false
  clear p h (inl l) = and-left (at now p) (not (lies (64 * i) (64 * (i + 1)) p)) (so_far.before p l)
  clear p h (inr l) = and-false (at now p) (not (lies (64 * i) (64 * (i + 1)) p)) (ap not (lies-in (64 * i) (64 * (i + 1)) p l h))

-- words in which nothing is set can be skipped
pub taken-skip : (i j : ℕ) (old now : List Bool) → i ≤ j → ((p : ℕ) → 64 * i ≤ p → p < 64 * j → at old p ≡ false) → IsTaken i old now → IsTaken j old now
taken-skip i j old now order unset taken = record { long = taken.long; before = λ p h. go p h (cases_lt p (64 * i)); behind = λ p h. taken.behind p (omega arith) } where
  go : (p : ℕ) → p < 64 * j → (p < 64 * i) ⊎ (64 * i ≤ p) → at now p ≡ false
  go p h (inl l) = taken.before p l
  go p h (inr l) = taken.behind p l ∙ unset p l h

pub taken-all : (i : ℕ) (old now : List Bool) → ((p : ℕ) → 64 * i ≤ p → at old p ≡ false) → IsTaken i old now → IsClear now
taken-all i old now unset taken = record { places = λ p. go p (cases_lt p (64 * i)) } where
  go : (p : ℕ) → (p < 64 * i) ⊎ (64 * i ≤ p) → at now p ≡ false
  go p (inl l) = taken.before p l
  go p (inr l) = taken.behind p l ∙ unset p l

-- a word that is taken out of the row
pub taken-left : (n i word : ℕ) (old now : List Bool) → IsTaken i old now → ((k : ℕ) → k < 64 → bit word k ≡ at now (64 * i + k)) → IsLeft n old i word
taken-left n i word old now taken is = record { bits = λ k h l. is k h ∙ taken.behind (64 * i + k) (omega arith) }
