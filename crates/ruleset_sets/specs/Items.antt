-- The items of a ruleset: its statements, and the items of its tables.
use Rattle.std.specs.Prelude.{ℕ, zero, suc, ◌+◌, ◌-◌, List, [], ◌∷◌, take, drop, Bool, true, false, ◌&&◌, ◌||◌, not, ◌==◌, Option, Some, None, is_some, if◌then◌else◌}
use Rattle.std.specs.List.{prefix_len, count_by}
use Rattle.ruleset_sets.specs.declared.role.Role.{Role}
use Rattle.ruleset_sets.specs.declared.role.Role.TheVariants as roles
use Rattle.ruleset_sets.specs.declared.role_token.RoleToken.{RoleToken}
use Rattle.ruleset_sets.specs.declared.sieve.SkipReason.{SkipReason}
use Rattle.ruleset_sets.specs.declared.sieve.SkipReason.TheVariants as reasons
use Rattle.ruleset_sets.specs.declared.item.Level.{Level}
use Rattle.ruleset_sets.specs.declared.item.Level.TheVariants as levels
use Rattle.ruleset_sets.specs.declared.item.Item.{Item}
use Rattle.ruleset_sets.specs.Roles.{is_separator, opens, closes, is_end, is_no_word, is_table, is_set}
use Rattle.ruleset_sets.specs.Sieve.{begins_with, left_out}
use Rattle.ruleset_sets.specs.Inner.{changes_sets, holds_item}

-- An item ends before a separator or a closing brace outside its own braces, or before the text's end.
abbrev pub ends_item : ℕ → Role → Bool
ends_item depth r = is_end r || ((depth == 0) && (is_separator r || closes r))

-- how many braces are open after a token
abbrev pub depth_behind : ℕ → Role → ℕ
depth_behind depth r = if opens r then depth + 1 else if closes r then depth - 1 else depth

-- how many of these tokens belong to an item with so many open braces
abbrev pub rest_len : ℕ → List RoleToken → ℕ
rest_len depth [] = 0
rest_len depth (p ∷ ps) = if ends_item depth p.role then 0 else 1 + rest_len (depth_behind depth p.role) ps

abbrev pub item_len : RoleToken → List RoleToken → ℕ
item_len p ps = 1 + rest_len (depth_behind 0 p.role) ps

-- A statement on sets, or one that ends a turn of the script. A script refuses what it doesn't know of these.
abbrev pub is_on_sets : Role → List RoleToken → Bool
is_on_sets roles.Turn ps = true
is_on_sets r ps = changes_sets r ps

-- The braces of an item close. Else the text ends inside them.
abbrev pub is_balanced : List RoleToken → Bool
is_balanced item = count_by (λ p. opens p.role) item == count_by (λ p. closes p.role) item

-- why an item by itself is skipped that is kept if this holds and nothing in it forbids that
abbrev pub why_alone : Bool → List RoleToken → Option SkipReason
why_alone may_stay item = if may_stay then left_out item else Some reasons.NoSet

-- The same for an item that may hold another one. No item is skipped as a part of another.
abbrev pub why_skipped : Bool → List RoleToken → Option SkipReason
why_skipped may_stay item =
    if not (is_balanced item) then Some reasons.Unclosed
    else if is_some (why_alone may_stay item) && holds_item item then Some reasons.HoldsItem
    else why_alone may_stay item

abbrev pub whole_item : Bool → Level → RoleToken → List RoleToken → Item
whole_item may_stay level p ps =
    let n = item_len p ps in
    record { size = n; skipped = why_skipped may_stay (take n (p ∷ ps)); level = level }

-- how many tokens come before the first that is a brace or ends the statement
abbrev pub head_len : List RoleToken → ℕ
head_len ps = prefix_len (λ q. not (opens q.role || ends_item 0 q.role)) ps

-- After `table`: up to the brace that opens the table's block, or a statement without a block.
abbrev pub table_head : RoleToken → List RoleToken → Item
table_head p ps =
    let n = head_len ps in
    if begins_with opens (drop n ps) then record { size = n + 2; skipped = None; level = levels.InTable }
    else whole_item false levels.Outside p ps

-- In a table's braces a script refuses each statement on sets, so none of these is skipped.
abbrev pub item_at : Level → RoleToken → List RoleToken → Item
item_at levels.InTable p ps = whole_item (is_set p.role || is_on_sets p.role ps) levels.InTable p ps
item_at levels.Outside p ps = if is_table p.role then table_head p ps else whole_item (is_on_sets p.role ps) levels.Outside p ps

-- The item that begins with this token. Each item begins with a word. A closing brace outside an item
-- closes the table, and any other token there is kept by itself.
abbrev pub first_item : Level → RoleToken → List RoleToken → Item
first_item level p ps =
    if closes p.role then record { size = 1; skipped = None; level = levels.Outside }
    else if is_no_word p.role then record { size = 1; skipped = None; level = level }
    else item_at level p ps

-- an item: its tokens, and why it is skipped, if it is
pub record Cut : Type 0 where
  pub item : List RoleToken
  pub skipped : Option SkipReason

-- The items of these tokens at a level. So many of the tokens still belong to an item that began before.
abbrev pub cuts_from : ℕ → Level → List RoleToken → List Cut
cuts_from inside level [] = []
cuts_from (suc inside) level (p ∷ ps) = cuts_from inside level ps
cuts_from zero level (p ∷ ps) =
    let i = first_item level p ps in
    record { item = take i.size (p ∷ ps); skipped = i.skipped } ∷ cuts_from (i.size - 1) i.level ps

-- the items of a ruleset
abbrev pub cuts : List RoleToken → List Cut
cuts ps = cuts_from 0 levels.Outside ps
