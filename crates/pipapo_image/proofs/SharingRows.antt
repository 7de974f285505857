-- A walk by intervals, block by block and field by field.
use Rattle.std.proofs.Common.{◌≡◌, refl, sym, ◌∙◌, ap, subst, ℕ, suc, ◌+◌, ◌-◌, ◌*◌, ◌/◌, ◌%◌, ◌<◌, ◌≤◌, ◌⊎◌, inl, inr, Bool, true, false, ◌&&◌, ◌||◌, List, ◌∷◌, length, get_or, Some, add-one, arith}
use Rattle.std.specs.Prelude.{replicate, slice_get}
use Rattle.std.proofs.lemmas.Bool.{cases_lt}
use Rattle.std.proofs.lemmas.Option.{slice_get-get_or}
use Rattle.bit_rows.specs.Row.{at, bit, IsNextSet, IsWordPut}
use Rattle.lookup_table.specs.declared.table.FieldTable.{FieldTable}
use Rattle.lookup_table.specs.Rules.{Stands, KeepsBitsWhere}
use Rattle.lookup_table.specs.Table.{block_at}
use Rattle.set_model.specs.declared.kind.Kind.{Kind}
use Rattle.set_model.specs.declared.kind.Kind.TheVariants.{Ipv4}
use Rattle.set_model.specs.declared.kind.Interval.{Interval}
use Rattle.set_model.specs.declared.element.Element.{Element}
use Rattle.set_model.specs.declared.block.Block.{Block}
use Rattle.set_model.specs.Kind.{bits_of}
use Rattle.set_model.specs.Blocks.{blocks}
use Rattle.set_model.specs.SetState.{field_rules, blocks_of}
use Rattle.field_groups.specs.Groups.{share_value}
use Rattle.set_tables.specs.declared.Span.{Span}
use Rattle.set_tables.specs.Rows.{matched, refilled}
use Rattle.set_tables.specs.Tables.{field_spans}
use Rattle.set_tables.specs.Core.{row_of}
use Rattle.set_tables.specs.Sharing.{shares_some, share_tests}
use Rattle.set_tables.proofs.MatchLaws.{matched-by}
use Rattle.set_tables.proofs.SearchLaws.{row-first, row-next}
use Rattle.range_expand.specs.Split.{IsFieldInterval}
use Rattle.set_model.specs.Key.{parts_fit}
use Rattle.pipapo_image.specs.declared.index.Index.{Index}
use Rattle.pipapo_image.specs.Index.Standing.{AreFieldsOf}
use Rattle.pipapo_image.specs.Image.{IsImage}
use Rattle.pipapo_image.specs.Index.Sharing.{AreIntervalsOf}
use Rattle.pipapo_image.proofs.ImageUse.{parts-long}
use Rattle.pipapo_image.proofs.GrowLaws.{interval-at}

or-assoc : (a b c : Bool) → ((a || b) || c) ≡ (a || (b || c))
or-assoc true b c = refl
or-assoc false b c = refl

-- one more block: what is set so far, and what the blocks that are left share
pub one-more : (rule block : Block) (left rest : List Block) (whole old one new : Bool) → left ≡ block ∷ rest → new ≡ (old || one) → one ≡ share_value rule block
    → (old || shares_some left rule) ≡ whole → (new || shares_some rest rule) ≡ whole
one-more rule block left rest whole old one new l n o w =
    ap (λ t. t || shares_some rest rule) n ∙ ap (λ t. (old || t) || shares_some rest rule) o
    ∙ or-assoc old (share_value rule block) (shares_some rest rule)
    ∙ ap (λ z. old || shares_some z rule) (sym l) ∙ w

-- the test of field f, by the table's bits
pub field-test : (kinds : List Kind) (es : List Element) (fields : List FieldTable) (parts : List Interval) (f : ℕ) (t : FieldTable) (d : Interval) → AreFieldsOf kinds es fields → length parts ≡ length fields
    → f < length fields → t ≡ get_or fields f t → shares_some (blocks (get_or parts f d).low (get_or parts f d).high t.bits) ≡ share_tests kinds parts f
field-test kinds es fields parts f t d s n h e =
    let m = s.one_each in
    let k : f < length kinds = omega arith in
    let l : f < length parts = omega arith in
    let bits : t.bits ≡ bits_of (get_or kinds f Ipv4) = ap (λ (z : FieldTable). z.bits) e ∙ (s.each f Ipv4 t k).bits in
    ap (λ b. shares_some (blocks (get_or parts f d).low (get_or parts f d).high b)) bits
    ∙ ap (λ z. shares_some (blocks_of (Some (get_or kinds f Ipv4)) z)) (sym (slice_get-get_or parts f d l))
    ∙ ap (λ z. shares_some (blocks_of z (slice_get parts f))) (sym (slice_get-get_or kinds f Ipv4 k))

pub first-shared : (kinds : List Kind) (es : List Element) (parts : List Interval) (test : Block → Bool) (n : ℕ) → test ≡ share_tests kinds parts 0 → n ≡ length (field_rules kinds 0 es)
    → matched test (field_rules kinds 0 es) (replicate n true) ≡ row_of kinds es (share_tests kinds parts) 0
first-shared kinds es parts test n t e =
    ap (λ z. matched z (field_rules kinds 0 es) (replicate n true)) t
    ∙ ap (λ k. matched (share_tests kinds parts 0) (field_rules kinds 0 es) (replicate k true)) e
    ∙ row-first kinds es (share_tests kinds parts)

pub next-shared : (kinds : List Kind) (es : List Element) (parts : List Interval) (test : Block → Bool) (f n : ℕ) (map : List Span) (row : List Bool) → test ≡ share_tests kinds parts (f + 1)
    → map ≡ field_spans kinds f es → row ≡ row_of kinds es (share_tests kinds parts) f → n ≡ length (field_rules kinds (f + 1) es)
    → matched test (field_rules kinds (f + 1) es) (refilled map row n) ≡ row_of kinds es (share_tests kinds parts) (f + 1)
next-shared kinds es parts test f n map row t m r e =
    ap (λ z. matched z (field_rules kinds (f + 1) es) (refilled map row n)) t
    ∙ ap (λ k. matched (share_tests kinds parts (f + 1)) (field_rules kinds (f + 1) es) (refilled map row k)) e
    ∙ ap (λ z. matched (share_tests kinds parts (f + 1)) (field_rules kinds (f + 1) es) (refilled z row (length (field_rules kinds (f + 1) es)))) m
    ∙ ap (λ z. matched (share_tests kinds parts (f + 1)) (field_rules kinds (f + 1) es) (refilled (field_spans kinds f es) z (length (field_rules kinds (f + 1) es)))) r
    ∙ whole (f + 1) (add-one f) where
      whole : (g : ℕ) → g ≡ suc f
          → matched (share_tests kinds parts g) (field_rules kinds g es) (refilled (field_spans kinds f es) (row_of kinds es (share_tests kinds parts) f) (length (field_rules kinds g es)))
          ≡ row_of kinds es (share_tests kinds parts) g
      whole g q = rw q (row-next kinds es (share_tests kinds parts) f)

-- the intervals of a key that fits an image's kinds
pub intervals-of : (kinds : List Kind) (es : List Element) (index : Index) (parts : List Interval) → IsImage kinds es index → parts_fit kinds parts ≡ true → AreIntervalsOf index.fields parts
intervals-of kinds es index parts i h =
    let n = parts-long kinds parts h in
    let m = i.tables.fields.one_each in
    record {
      one_each = n ∙ sym m;
      within = λ f t p l.
          let a : f < length kinds = omega arith in
          let b : f < length parts = omega arith in
          subst (λ z. IsFieldInterval (get_or parts f p).low (get_or parts f p).high z) (sym (i.tables.fields.each f Ipv4 t a).bits)
          (interval-at kinds parts f (get_or kinds f Ipv4) (get_or parts f p) h (slice_get-get_or kinds f Ipv4 a) (slice_get-get_or parts f p b));
    }

-- ---- word by word

word-regroup : (old w a b : Bool) → ((old || (w && a)) || (w && b)) ≡ (old || (w && (a || b)))
word-regroup true w a b = refl
word-regroup false true a b = refl
word-regroup false false a b = refl

-- before the first block nothing is shared
pub word-first : (old whole : Bool) → old ≡ false → (old || whole) ≡ whole
word-first old whole e = ap (λ t. t || whole) e

-- one more block of a word: what is set so far, and what the blocks that are left share
pub word-more : (rule block : Block) (left rest : List Block) (whole old one new w : Bool) → left ≡ block ∷ rest → new ≡ (old || one) → one ≡ (w && share_value rule block)
    → (old || (w && shares_some left rule)) ≡ whole → (new || (w && shares_some rest rule)) ≡ whole
word-more rule block left rest whole old one new w l n o e =
    ap (λ t. t || (w && shares_some rest rule)) n ∙ ap (λ t. (old || t) || (w && shares_some rest rule)) o
    ∙ word-regroup old w (share_value rule block) (shares_some rest rule)
    ∙ ap (λ z. old || (w && shares_some z rule)) (sym l) ∙ e

-- The places of a row below `from` are matched, and the others are as they were.
pub record IsSharedUpTo (t : FieldTable) (test : Block → Bool) (from : ℕ) (old row : List Bool) : Type 0 where
  pub long : length row ≡ length old
  pub done : (rules : List Block) → Stands t rules → (r : ℕ) → r < from → r < t.rules → at row r ≡ (at old r && test (block_at rules r))
  pub others : (r : ℕ) → from ≤ r → at row r ≡ at old r

pub shared-none : (t : FieldTable) (test : Block → Bool) (row : List Bool) → IsSharedUpTo t test 0 row row
shared-none t test row = record { long = refl; done = λ rules s r h g. absurd (omega arith); others = λ r h. refl }

-- the word of the next set place is matched
pub shared-word : (t : FieldTable) (test : Block → Bool) (from r word left : ℕ) (old row next : List Bool) → from % 64 ≡ 0 → IsNextSet row from r → length old ≡ t.rules
    → ((k : ℕ) → k < 64 → bit word k ≡ at row (64 * (r / 64) + k)) → KeepsBitsWhere t test (r / 64) word left → IsWordPut (r / 64) left row next
    → IsSharedUpTo t test from old row → IsSharedUpTo t test (64 * (r / 64 + 1)) old next
shared-word t test from r word left old row next whole is long read kept put so_far = record {
  long = put.long ∙ so_far.long;
  done = λ rules s j h g. done rules s j (cases_lt j from) (cases_lt j (64 * (r / 64))) h g;
  others = λ j h. put.others j (λ e. absurd (omega arith)) ∙ so_far.others j (let l = is.from_on in omega arith);
} where
  in_word : (rules : List Block) → Stands t rules → (j k : ℕ) → j ≡ 64 * (r / 64) + k → k < 64 → from ≤ j → j < t.rules → at next j ≡ (at old j && test (block_at rules j))
  in_word rules s j k e l f g =
      ap (at next) e ∙ put.here k l ∙ kept rules s k l (omega arith) ∙ ap (λ x. x && test (block_at rules (64 * (r / 64) + k))) (read k l ∙ so_far.others (64 * (r / 64) + k) (omega arith))
      ∙ ap (λ x. at old x && test (block_at rules x)) (sym e)

  done : (rules : List Block) → Stands t rules → (j : ℕ) → (j < from) ⊎ (from ≤ j) → (j < 64 * (r / 64)) ⊎ (64 * (r / 64) ≤ j) → j < 64 * (r / 64 + 1) → j < t.rules → at next j ≡ (at old j && test (block_at rules j))
  done rules s j (inl a) b h g = let l = is.from_on in put.others j (λ e. absurd (omega arith)) ∙ so_far.done rules s j a g
  done rules s j (inr a) (inl b) h g =
      let none : at row j ≡ false = is.least j a (omega arith) in
      let before : at old j ≡ false = sym (so_far.others j a) ∙ none in
      put.others j (λ e. absurd (omega arith)) ∙ none ∙ ap (λ x. x && test (block_at rules j)) (sym before)
  done rules s j (inr a) (inr b) h g = in_word rules s j (j - 64 * (r / 64)) (omega arith) (omega arith) a g

-- no place is set from `from` on
pub shared-all : (t : FieldTable) (test : Block → Bool) (from : ℕ) (old row : List Bool) (rules : List Block) → Stands t rules → length old ≡ t.rules → ((i : ℕ) → from ≤ i → at row i ≡ false)
    → IsSharedUpTo t test from old row → row ≡ matched test rules old
shared-all t test from old row rules s long none so_far =
    matched-by test rules old row (record { base = 0; free_bits = 0 }) (long ∙ sym s.one_each) so_far.long (λ r h. each r (cases_lt r from) (let e = s.one_each in omega arith)) where
      each : (r : ℕ) → (r < from) ⊎ (from ≤ r) → r < t.rules → at row r ≡ (at old r && test (block_at rules r))
      each r (inl a) h = so_far.done rules s r a h
      each r (inr a) h =
          let before : at old r ≡ false = sym (so_far.others r a) ∙ none r a in
          none r a ∙ ap (λ x. x && test (block_at rules r)) (sym before)
