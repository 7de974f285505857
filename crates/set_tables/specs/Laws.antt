-- The laws of the tables.
use Rattle.std.specs.Prelude.{◌≡◌, ℕ, ◌≤◌, ◌<◌, ◌&&◌, nat_le, Bool, true, List, length, position, All}
use Rattle.std.specs.List.{list_any}
use Rattle.set_model.specs.declared.kind.Kind.{Kind}
use Rattle.set_model.specs.declared.kind.Interval.{Interval}
use Rattle.set_model.specs.declared.element.Element.{Element}
use Rattle.set_model.specs.declared.block.Block.{Block}
use Rattle.set_model.specs.Key.{parts_fit}
use Rattle.set_model.specs.SetState.{answers, is_sharing}
use Rattle.set_model.specs.Blocks.{blocks, holds_value}
use Rattle.set_tables.specs.Tables.{tables}
use Rattle.set_tables.specs.Search.{searched, row_behind, key_tests}
use Rattle.set_tables.specs.Core.{row_of, key_row}
use Rattle.set_tables.specs.Sharing.{shares_some, share_tests}

-- Some block of an interval's split holds a value exactly if the interval does.
abbrev pub BlocksCover : Type 0
BlocksCover = (low high bits v : ℕ) → list_any (λ b. holds_value b v) (blocks low high bits) ≡ (nat_le low v && nat_le v high)

-- After field f a walk by any tests has the rules that pass, of elements that passed all earlier
-- fields.
abbrev pub RowsHoldMarks : Type 0
RowsHoldMarks = (kinds : List Kind) (es : List Element) (tests : ℕ → Block → Bool) (f : ℕ) → f < length kinds
    → row_behind tests (tables kinds es).rules (tables kinds es).maps f ≡ row_of kinds es tests f

-- After field f a lookup has the rules whose block holds the value, of elements that hold the key
-- in all earlier fields.
abbrev pub RowsHoldCore : Type 0
RowsHoldCore = (kinds : List Kind) (es : List Element) (key : List ℕ) (f : ℕ) → f < length kinds
    → row_behind (key_tests key) (tables kinds es).rules (tables kinds es).maps f ≡ key_row kinds es key f

-- A lookup finds the place of the first live element that holds the key.
abbrev pub LookupFindsFirst : Type 0
LookupFindsFirst = (kinds : List Kind) (es : List Element) (key : List ℕ) (now : ℕ) → 1 ≤ length kinds → length key ≡ length kinds
    → All (λ e. length e.parts ≡ length kinds) es → searched (key_tests key) (tables kinds es) now ≡ position (answers key now) es

-- Take two intervals, each with a low end no higher than its high end. Some blocks of their splits
-- share a value exactly if the intervals do.
abbrev pub SplitsShare : Type 0
SplitsShare = (p q : Interval) (bits : ℕ) → p.low ≤ p.high → q.low ≤ q.high
    → list_any (shares_some (blocks q.low q.high bits)) (blocks p.low p.high bits) ≡ (nat_le p.low q.high && nat_le q.low p.high)

-- A walk by intervals finds the place of the first live element that shares a key with them.
abbrev pub WalkFindsSharing : Type 0
WalkFindsSharing = (kinds : List Kind) (es : List Element) (parts : List Interval) (now : ℕ) → 1 ≤ length kinds → parts_fit kinds parts ≡ true
    → All (λ e. parts_fit kinds e.parts ≡ true) es → searched (share_tests kinds parts) (tables kinds es) now ≡ position (is_sharing parts now) es
