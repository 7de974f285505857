-- Which blocks the buckets represent as rules come and go.
use Rattle.std.proofs.Common.{◌≡◌, refl, sym, ◌∙◌, ap, ℕ, ◌+◌, ◌-◌, ◌/◌, ◌^◌, ◌<◌, ◌≤◌, ◌⊎◌, [], ◌++◌, Bool, true, false, nat_lt, cond, List, length, get_or, take, drop, replicate, arith, inl, inr}
use Rattle.std.proofs.lemmas.Bool.{cases_lt, lt-ltb, le-ltb}
use Rattle.std.proofs.lemmas.List.{get_or_past, get_or_append_left, get_or-append_right, get_or-take, get_or-drop, get_or-replicate, length-take, length-drop, length-append, length-replicate}
use Rattle.std.proofs.lemmas.List.Elements.{All-append, All-take, All-drop, All-nil}
use Rattle.std.proofs.lemmas.Nat.{mul-add-lt}
use Rattle.set_model.specs.declared.block.Block.{Block}
use Rattle.set_model.specs.Blocks.{IsWithin}
use Rattle.set_model.specs.Runs.{without_run}
use Rattle.bit_rows.specs.Row.{Row, at}
use Rattle.field_groups.specs.Groups.{agrees}
use Rattle.lookup_table.specs.Table.{bucket_at, bucket_place, cell, block_at, IsShaped, StandsFor}
use Rattle.lookup_table.specs.Rows.{Each, IsRaised, IsClosedUp, IsGrown, IsSameSize, HasBlockRules}
use Rattle.lookup_table.proofs.RowsLaws.{cell-is, All-bucket, bucket-All, length-raised}

pub place-within : (width bits rules g v : ℕ) (buckets : List Row) → IsShaped width bits rules buckets → g < bits / width → v < 2 ^ width → bucket_place width g v < length buckets
place-within width bits rules g v buckets shape h k = omega (arith, shape.count, mul-add-lt g (2 ^ width) v (bits / width) h k)

long-at : (width bits rules j : ℕ) (buckets : List Row) → IsShaped width bits rules buckets → j < length buckets → length (bucket_at buckets j).bits ≡ rules
long-at width bits rules j buckets shape h = All-bucket (λ (x : Row). length x.bits ≡ rules) buckets j shape.rows h

-- a new shape: as many rows as before, and each of the new length
reshaped : (width bits rules long : ℕ) (old new : List Row) → IsShaped width bits rules old → length new ≡ length old → ((j : ℕ) → j < length old → length (bucket_at new j).bits ≡ long) → IsShaped width bits long new
reshaped width bits rules long old new shape same each = record {
  groups = shape.groups;
  count = same ∙ shape.count;
  rows = bucket-All (λ (x : Row). length x.bits ≡ long) new (λ j h. each j (omega arith));
}

-- ---- no rules

pub empty-stands : (bits : ℕ) (buckets : List Row) → StandsFor 8 bits 0 buckets []
empty-stands bits buckets = record { one_each = refl; within = All-nil (IsWithin bits); bucket = λ g v r h k l. absurd (omega arith) }

-- ---- the same bits

pub grown-shape : (width bits rules : ℕ) (old new : List Row) → IsShaped width bits rules old → Each IsGrown old new → IsShaped width bits rules new
grown-shape width bits rules old new shape grown =
    reshaped width bits rules rules old new shape grown.long (λ j h. ap length (grown.at j h).bits ∙ long-at width bits rules j old shape h)

pub grown-stands : (width bits rules : ℕ) (old new : List Row) (blocks : List Block) → IsShaped width bits rules old → Each IsGrown old new → StandsFor width bits rules old blocks → StandsFor width bits rules new blocks
grown-stands width bits rules old new blocks shape grown stands = record {
  one_each = stands.one_each;
  within = stands.within;
  bucket = λ g v r h k l.
      cell-is new (bucket_place width g v) r ∙ ap (λ xs. at xs r) (grown.at (bucket_place width g v) (place-within width bits rules g v old shape h k)).bits
      ∙ sym (cell-is old (bucket_place width g v) r) ∙ stands.bucket g v r h k l;
}

-- ---- more rules

pub raised-shape : (width bits rules n : ℕ) (old new : List Row) → IsShaped width bits rules old → Each (IsRaised n) old new → IsShaped width bits (rules + n) new
raised-shape width bits rules n old new shape raised =
    reshaped width bits rules (rules + n) old new shape raised.long
    (λ j h. ap length (raised.at j h).bits ∙ length-raised (bucket_at old j).bits n ∙ ap (λ m. m + n) (long-at width bits rules j old shape h))

-- the old rules, and no bit past them
pub raised-rules : (width bits rules n : ℕ) (old new : List Row) (blocks : List Block) → IsShaped width bits rules old → Each (IsRaised n) old new → StandsFor width bits rules old blocks → HasBlockRules width bits new blocks
raised-rules width bits rules n old new blocks shape raised stands = record {
  within = stands.within;
  bucket = λ g v r h k l.
      let j = place-within width bits rules g v old shape h k in
      let s = stands.one_each in
      let long = long-at width bits rules (bucket_place width g v) old shape j in
      read (bucket_place width g v) r j ∙ get_or_append_left (bucket_at old (bucket_place width g v)).bits (replicate n false) false r (omega arith)
      ∙ sym (cell-is old (bucket_place width g v) r) ∙ stands.bucket g v r h k (omega arith);
  rest = λ g v r h k l.
      let j = place-within width bits rules g v old shape h k in
      let s = stands.one_each in
      let long = long-at width bits rules (bucket_place width g v) old shape j in
      read (bucket_place width g v) r j ∙ get_or-append_right (bucket_at old (bucket_place width g v)).bits (replicate n false) rules r false long (omega arith) ∙ none (r - rules) (cases_lt (r - rules) n);
} where
  read : (j r : ℕ) → j < length old → cell new j r ≡ get_or ((bucket_at old j).bits ++ replicate n false) r false
  read j r h = cell-is new j r ∙ ap (λ xs. at xs r) (raised.at j h).bits

  none : (i : ℕ) → (i < n) ⊎ (n ≤ i) → get_or (replicate n false) i false ≡ false
  none i (inl h) = get_or-replicate n i false false h
  none i (inr h) = get_or_past (replicate n false) i false (omega (arith, length-replicate n false))

pub sized-shape : (width bits rules : ℕ) (old new : List Row) → IsShaped width bits rules old → IsSameSize old new → IsShaped width bits rules new
sized-shape width bits rules old new shape same =
    reshaped width bits rules rules old new shape same.long (λ j h. same.bits j ∙ long-at width bits rules j old shape h)

pub rules-stand : (width bits rules : ℕ) (buckets : List Row) (blocks : List Block) → length blocks ≡ rules → HasBlockRules width bits buckets blocks → StandsFor width bits rules buckets blocks
rules-stand width bits rules buckets blocks count has = record {
  one_each = count;
  within = has.within;
  bucket = λ g v r h k l. has.bucket g v r h k (omega arith);
}

-- ---- fewer rules

pub at-without : {A : Type 0} (d : A) (xs : List A) (first n i : ℕ) → first + n ≤ length xs → get_or (take first xs ++ drop (first + n) xs) i d ≡ get_or xs (cond (nat_lt i first) i (i + n)) d
at-without d xs first n i h = go (cases_lt i first) where
  front : length (take first xs) ≡ first
  front = omega (arith, length-take first xs)

  go : (i < first) ⊎ (first ≤ i) → get_or (take first xs ++ drop (first + n) xs) i d ≡ get_or xs (cond (nat_lt i first) i (i + n)) d
  go (inl l) =
      get_or_append_left (take first xs) (drop (first + n) xs) d i (omega (arith, front)) ∙ get_or-take first xs i d l
      ∙ sym (ap (λ t. get_or xs (cond t i (i + n)) d) (lt-ltb i first l))
  go (inr l) =
      let e : first + n + (i - first) ≡ i + n = omega arith in
      get_or-append_right (take first xs) (drop (first + n) xs) first i d front l ∙ get_or-drop (first + n) xs (i - first) d ∙ ap (λ k. get_or xs k d) e
      ∙ sym (ap (λ t. get_or xs (cond t i (i + n)) d) (le-ltb i first l))

length-without : {A : Type 0} (xs : List A) (first n : ℕ) → first + n ≤ length xs → length (take first xs ++ drop (first + n) xs) + n ≡ length xs
length-without xs first n h = omega (arith, length-append (take first xs) (drop (first + n) xs), length-take first xs, length-drop (first + n) xs)

pub closed-shape : (width bits rules first n : ℕ) (old new : List Row) → first + n ≤ rules → IsShaped width bits rules old → Each (IsClosedUp first n) old new → IsShaped width bits (rules - n) new
closed-shape width bits rules first n old new fits shape closed =
    reshaped width bits rules (rules - n) old new shape closed.long
    (λ j h. let long = long-at width bits rules j old shape h in
    ap length (closed.at j h).bits ∙ omega (arith, length-without (bucket_at old j).bits first n (omega arith)))

pub closed-stands : (width bits rules first n : ℕ) (old new : List Row) (blocks : List Block) → first + n ≤ rules → IsShaped width bits rules old → Each (IsClosedUp first n) old new
    → StandsFor width bits rules old blocks → StandsFor width bits (rules - n) new (without_run blocks first n)
closed-stands width bits rules first n old new blocks fits shape closed stands = record {
  one_each = omega (arith, length-without blocks first n (omega (arith, stands.one_each)), stands.one_each);
  within = All-append (IsWithin bits) (take first blocks) (drop (first + n) blocks) (All-take (IsWithin bits) first blocks stands.within) (All-drop (IsWithin bits) (first + n) blocks stands.within);
  bucket = λ g v r h k l. bucket g v r h k (target r l);
} where
  target : (r : ℕ) → r < rules - n → cond (nat_lt r first) r (r + n) < rules
  target r l = pick (nat_lt r first) where
    pick : (t : Bool) → cond t r (r + n) < rules
    pick true = omega arith
    pick false = omega arith

  bucket : (g v r : ℕ) → g < bits / width → v < 2 ^ width → cond (nat_lt r first) r (r + n) < rules → cell new (bucket_place width g v) r ≡ agrees width bits (block_at (without_run blocks first n) r) g v
  bucket g v r h k l =
      let within = place-within width bits rules g v old shape h k in
      let long = long-at width bits rules (bucket_place width g v) old shape within in
      cell-is new (bucket_place width g v) r ∙ ap (λ xs. at xs r) (closed.at (bucket_place width g v) within).bits ∙ at-without false (bucket_at old (bucket_place width g v)).bits first n r (omega arith)
      ∙ sym (cell-is old (bucket_place width g v) (cond (nat_lt r first) r (r + n))) ∙ stands.bucket g v (cond (nat_lt r first) r (r + n)) h k l
      ∙ ap (λ b. agrees width bits b g v) (sym (at-without (record { base = 0; free_bits = 0 }) blocks first n r (omega (arith, stands.one_each))))
