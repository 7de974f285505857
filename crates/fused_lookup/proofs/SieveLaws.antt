-- What the buckets of a value's last four groups leave, and what the other groups leave of it.
use Rattle.std.proofs.Common.{◌≡◌, refl, sym, ◌∙◌, ap, ℕ, zero, suc, ◌+◌, ◌-◌, ◌*◌, ◌/◌, ◌%◌, ◌^◌, ◌<◌, ◌≤◌, ◌⊎◌, inl, inr, Bool, true, false, ◌&&◌, List, length, subst, arith}
use Rattle.std.specs.Prelude.{slice_index, replicate}
use Rattle.std.proofs.lemmas.Bool.{cases_lt, lt-ltb}
use Rattle.std.proofs.lemmas.List.{get_or_past, length-replicate}
use Rattle.std.proofs.Math.Bool.{and-true, and_comm, and_assoc}
use Rattle.bit_rows.specs.Row.{Row, at, bit}
use Rattle.bit_rows.proofs.Bits.{bit-ones, bit-zero}
use Rattle.field_groups.specs.Groups.{every}
use Rattle.field_groups.specs.LastFour.{IsGroupPlace, AreLastFour}
use Rattle.field_groups.specs.declared.places.LastFour.{LastFour}
use Rattle.set_model.specs.declared.block.Block.{Block}
use Rattle.set_model.specs.Blocks.{holds_value}
use Rattle.lookup_table.specs.declared.table.FieldTable.{FieldTable}
use Rattle.lookup_table.specs.Table.{block_at, bucket_at, cell}
use Rattle.lookup_table.specs.Lines.{IsPage}
use Rattle.lookup_table.specs.Rules.{Stands, place_of, is_rule_set}
use Rattle.lookup_table.proofs.RowsLaws.{cell-is, All-bucket}
use Rattle.lookup_table.proofs.MatchLaws.{held-by-buckets}
use Rattle.lookup_table.proofs.WordLaws.{some-group}
use Rattle.set_tables.specs.Rows.{matched}
use Rattle.fused_lookup.specs.Words.{IsWordOf}
use Rattle.fused_lookup.specs.Sieve.{HaveLines, in_all, NoneHolds}
use Rattle.fused_lookup.proofs.MatchLaws.{left-at, length-left, word-left, ones-left}

-- a bucket's place is among the rows
among : (t : FieldTable) (value g place : ℕ) → IsGroupPlace t.width t.bits value g place → place < length t.buckets.rows
among t value g place bucket = let count = t.shaped.count in let within = bucket.within in omega arith

-- a bit of a word of a page
page-bit : (t : FieldTable) (value g place i k : ℕ) (words : List ℕ) → IsPage t.buckets.rows (i / 8) words → IsGroupPlace t.width t.bits value g place → k < 64 → bit (slice_index words (place * 8 + i % 8)) k ≡ is_rule_set t value (64 * i + k) g
page-bit t value g place i k words page bucket h =
    let at : 512 * (i / 8) + 64 * (i % 8) + k ≡ 64 * i + k = omega arith in
    page.bits place (i % 8) k (among t value g place bucket) (omega arith) h ∙ ap (cell t.buckets.rows place) at ∙ ap (λ p. cell t.buckets.rows p (64 * i + k)) bucket.at

-- no rule is set past the last one
bucket-past : (t : FieldTable) (value g place r : ℕ) → IsGroupPlace t.width t.bits value g place → t.rules ≤ r → is_rule_set t value r g ≡ false
bucket-past t value g place r bucket past =
    let within : place_of t g value < length t.buckets.rows = subst (λ (p : ℕ). p < length t.buckets.rows) bucket.at (among t value g place bucket) in
    let long = All-bucket (λ (x : Row). length x.bits ≡ t.rules) t.buckets.rows (place_of t g value) t.shaped.rows within in
    cell-is t.buckets.rows (place_of t g value) r ∙ get_or_past (bucket_at t.buckets.rows (place_of t g value)).bits r false (omega arith)

pub have-lines : (t : FieldTable) (value : ℕ) (buckets : LastFour) (p : ℕ) (words : List ℕ) → AreLastFour t.width t.bits value buckets → IsPage t.buckets.rows p words → HaveLines (length words) buckets
have-lines t value buckets p words are page =
    let n = page.long in
    let a = among t value _ buckets.fourth are.four in
    let b = among t value _ buckets.third are.three in
    let c = among t value _ buckets.second are.two in
    let d = among t value _ buckets.last are.one in
    record { four = omega arith; three = omega arith; two = omega arith; one = omega arith }

-- ---- all groups are the last four and those before them

four : (e a b c d : Bool) → ((((a && b) && c) && d) && e) ≡ ((((e && a) && b) && c) && d)
four e a b c d =
    and_comm (((a && b) && c) && d) e ∙ sym (and_assoc e ((a && b) && c) d)
    ∙ ap (λ t. t && d) (sym (and_assoc e (a && b) c) ∙ ap (λ t. t && c) (sym (and_assoc e a b)))

one-four : (a : Bool) → ((((a && a) && a) && a) && true) ≡ (true && a)
one-four true = refl
one-four false = refl

two-four : (a b : Bool) → ((((a && a) && a) && b) && true) ≡ ((true && a) && b)
two-four true true = refl
two-four true false = refl
two-four false true = refl
two-four false false = refl

three-four : (a b c : Bool) → ((((a && a) && b) && c) && true) ≡ (((true && a) && b) && c)
three-four true true true = refl
three-four true true false = refl
three-four true false true = refl
three-four true false false = refl
three-four false true true = refl
three-four false true false = refl
three-four false false true = refl
three-four false false false = refl

by-places : (p : ℕ → Bool) (n a b c d e : ℕ) → n - 4 ≡ a → n - 3 ≡ b → n - 2 ≡ c → n - 1 ≡ d → n - 4 ≡ e
    → ((((p (n - 4) && p (n - 3)) && p (n - 2)) && p (n - 1)) && every p (n - 4)) ≡ ((((p a && p b) && p c) && p d) && every p e)
by-places p n a b c d e ha hb hc hd he = ap (λ x. (((p x && p (n - 3)) && p (n - 2)) && p (n - 1)) && every p (n - 4)) ha
    ∙ ap (λ x. (((p a && p x) && p (n - 2)) && p (n - 1)) && every p (n - 4)) hb
    ∙ ap (λ x. (((p a && p b) && p x) && p (n - 1)) && every p (n - 4)) hc
    ∙ ap (λ x. (((p a && p b) && p c) && p x) && every p (n - 4)) hd
    ∙ ap (λ x. (((p a && p b) && p c) && p d) && every p x) he

pub last-four : (p : ℕ → Bool) (n : ℕ) → 1 ≤ n → ((((p (n - 4) && p (n - 3)) && p (n - 2)) && p (n - 1)) && every p (n - 4)) ≡ every p n
last-four p zero h = absurd (omega arith)
last-four p (suc zero) h = by-places p 1 0 0 0 0 0 refl refl refl refl refl ∙ one-four (p 0)
last-four p (suc (suc zero)) h = by-places p 2 0 0 0 1 0 refl refl refl refl refl ∙ two-four (p 0) (p 1)
last-four p (suc (suc (suc zero))) h = by-places p 3 0 0 1 2 0 refl refl refl refl refl ∙ three-four (p 0) (p 1) (p 2)
last-four p (suc (suc (suc (suc m)))) h =
    by-places p (suc (suc (suc (suc m)))) m (suc m) (suc (suc m)) (suc (suc (suc m))) m (omega arith) (omega arith) (omega arith) (omega arith) (omega arith)
    ∙ four (every p m) (p m) (p (suc m)) (p (suc (suc m))) (p (suc (suc (suc m))))

-- ---- a word

in-four : (t : FieldTable) (value : ℕ) (buckets : LastFour) (i k : ℕ) (words : List ℕ) → AreLastFour t.width t.bits value buckets → IsPage t.buckets.rows (i / 8) words → k < 64
    → in_all words buckets (i % 8) k
    ≡ (((is_rule_set t value (64 * i + k) (t.bits / t.width - 4) && is_rule_set t value (64 * i + k) (t.bits / t.width - 3)) && is_rule_set t value (64 * i + k) (t.bits / t.width - 2))
    && is_rule_set t value (64 * i + k) (t.bits / t.width - 1))
in-four t value buckets i k words are page h =
    two (two (two (page-bit t value _ buckets.fourth i k words page are.four h) (page-bit t value _ buckets.third i k words page are.three h)) (page-bit t value _ buckets.second i k words page are.two h)) (page-bit t value _ buckets.last i k words page are.one h) where
      two : {a b c d : Bool} → a ≡ b → c ≡ d → (a && c) ≡ (b && d)
      two x y = cc

-- what is left of a rule in all groups
pub in-groups : (t : FieldTable) (value : ℕ) (buckets : LastFour) (words : List ℕ) (blocks : List Block) (i k : ℕ) → AreLastFour t.width t.bits value buckets → IsPage t.buckets.rows (i / 8) words → Stands t blocks → value < 2 ^ t.bits
    → k < 64 → 64 * i + k < t.rules → (in_all words buckets (i % 8) k && every (is_rule_set t value (64 * i + k)) (t.bits / t.width - 4)) ≡ holds_value (block_at blocks (64 * i + k)) value
in-groups t value buckets words blocks i k are page stands small h r =
    ap (λ x. x && every (is_rule_set t value (64 * i + k)) (t.bits / t.width - 4)) (in-four t value buckets i k words are page h)
    ∙ last-four (is_rule_set t value (64 * i + k)) (t.bits / t.width) (some-group t.width t.bits t.shaped.groups)
    ∙ held-by-buckets t blocks value (64 * i + k) stands small r

and-fails : (a b : Bool) → a ≡ false → (a && b) ≡ false
and-fails a b e = ap (λ x. x && b) e

-- a word of which nothing is left, and one whose field has no other groups
pub none-left : (t : FieldTable) (value i left : ℕ) → left ≡ 0 → (k : ℕ) → k < 64 → bit left k ≡ (bit left k && every (is_rule_set t value (64 * i + k)) (t.bits / t.width - 4))
none-left t value i left none k h =
    let off : bit left k ≡ false = ap (λ x. bit x k) none ∙ bit-zero k in
    off ∙ sym (and-fails (bit left k) (every (is_rule_set t value (64 * i + k)) (t.bits / t.width - 4)) off)

pub no-rest : (t : FieldTable) (value i left : ℕ) → t.bits / t.width - 4 ≡ 0 → (k : ℕ) → k < 64 → bit left k ≡ (bit left k && every (is_rule_set t value (64 * i + k)) (t.bits / t.width - 4))
no-rest t value i left none k h = sym (ap (λ m. bit left k && every (is_rule_set t value (64 * i + k)) m) none ∙ and-true (bit left k))

-- a word of the rules that hold the value
pub word-held : (t : FieldTable) (value : ℕ) (buckets : LastFour) (words : List ℕ) (blocks : List Block) (i left word : ℕ) → AreLastFour t.width t.bits value buckets → IsPage t.buckets.rows (i / 8) words → Stands t blocks → value < 2 ^ t.bits
    → ((k : ℕ) → k < 64 → bit left k ≡ in_all words buckets (i % 8) k) → ((k : ℕ) → k < 64 → bit word k ≡ (bit left k && every (is_rule_set t value (64 * i + k)) (t.bits / t.width - 4)))
    → (k : ℕ) → k < 64 → 64 * i + k < t.rules → bit word k ≡ (bit (2 ^ 64 - 1) k && holds_value (block_at blocks (64 * i + k)) value)
word-held t value buckets words blocks i left word are page stands small all rest k h r =
    rest k h ∙ ap (λ x. x && every (is_rule_set t value (64 * i + k)) (t.bits / t.width - 4)) (all k h)
    ∙ in-groups t value buckets words blocks i k are page stands small h r
    ∙ sym (ap (λ x. x && holds_value (block_at blocks (64 * i + k)) value) (bit-ones 64 k ∙ lt-ltb k 64 h))

pub word-past : (t : FieldTable) (value : ℕ) (buckets : LastFour) (words : List ℕ) (i left word : ℕ) → AreLastFour t.width t.bits value buckets → IsPage t.buckets.rows (i / 8) words
    → ((k : ℕ) → k < 64 → bit left k ≡ in_all words buckets (i % 8) k) → ((k : ℕ) → k < 64 → bit word k ≡ (bit left k && every (is_rule_set t value (64 * i + k)) (t.bits / t.width - 4)))
    → (k : ℕ) → k < 64 → t.rules ≤ 64 * i + k → bit word k ≡ false
word-past t value buckets words i left word are page all rest k h p =
    rest k h
    ∙ and-fails (bit left k) (every (is_rule_set t value (64 * i + k)) (t.bits / t.width - 4))
    (all k h ∙ in-four t value buckets i k words are page h
    ∙ and-fails _ (is_rule_set t value (64 * i + k) (t.bits / t.width - 1))
    (and-fails _ (is_rule_set t value (64 * i + k) (t.bits / t.width - 2)) (and-fails _ (is_rule_set t value (64 * i + k) (t.bits / t.width - 3)) (bucket-past t value _ buckets.fourth (64 * i + k) are.four p))))

-- ---- rows

-- a word of the row of matched rules
pub word-matched : (t : FieldTable) (test : Block → Bool) (blocks : List Block) (i word : ℕ) → Stands t blocks
    → ((k : ℕ) → k < 64 → 64 * i + k < t.rules → bit word k ≡ (bit (2 ^ 64 - 1) k && test (block_at blocks (64 * i + k))))
    → ((k : ℕ) → k < 64 → t.rules ≤ 64 * i + k → bit word k ≡ false) → IsWordOf (matched test blocks (replicate t.rules true)) i word
word-matched t test blocks i word stands held past =
    let n = length-replicate t.rules true in
    word-left test blocks (replicate t.rules true) i t.rules (2 ^ 64 - 1) word stands.one_each (omega arith) (ones-left t.rules i) held past

-- rules that don't hold the value aren't matched
pub none-matched : (t : FieldTable) (value : ℕ) (blocks : List Block) (from to : ℕ) → Stands t blocks → NoneHolds t value from to → (r : ℕ) → 64 * from ≤ r → r < 64 * to
    → at (matched (λ rule. holds_value rule value) blocks (replicate t.rules true)) r ≡ false
none-matched t value blocks from to stands none r low high = go (cases_lt r t.rules) where
  row : List Bool
  row = replicate t.rules true

  room : length blocks ≤ length row
  room = let n = length-replicate t.rules true in let m = stands.one_each in omega arith

  go : (r < t.rules) ⊎ (t.rules ≤ r) → at (matched (λ rule. holds_value rule value) blocks row) r ≡ false
  go (inl l) =
      let inside : r < length blocks = let m = stands.one_each in omega arith in
      left-at (λ rule. holds_value rule value) blocks row r room inside
      ∙ and_comm (at row r) (holds_value (block_at blocks r) value)
      ∙ and-fails (holds_value (block_at blocks r) value) (at row r) (none blocks stands r low high l)
  go (inr l) = get_or_past (matched (λ rule. holds_value rule value) blocks row) r false (let n = length-left (λ rule. holds_value rule value) blocks row room in let m = stands.one_each in omega arith)
