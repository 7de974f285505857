-- Items in the braces of another item. nft's language has none.
use Rattle.std.specs.Prelude.{ℕ, ◌+◌, List, [], ◌∷◌, length, Bool, false, ◌&&◌, ◌||◌, not, nat_lt, if◌then◌else◌}
use Rattle.ruleset_sets.specs.declared.role.Role.{Role}
use Rattle.ruleset_sets.specs.declared.role.Role.TheVariants as roles
use Rattle.ruleset_sets.specs.declared.role_token.RoleToken.{RoleToken}
use Rattle.ruleset_sets.specs.Roles.{is_separator, opens, closes, is_no_word, is_table, is_set, is_element, is_ruleset, is_block}
use Rattle.ruleset_sets.specs.Sieve.{begins_with}

-- What the first two words of a statement say: it declares a table or a set, or changes elements.
abbrev pub changes_sets : Role → List RoleToken → Bool
changes_sets roles.Add ps = begins_with (λ r. is_table r || is_set r || is_element r) ps
changes_sets roles.Change ps = begins_with (λ r. is_set r || is_element r) ps
changes_sets roles.Flush ps = begins_with (λ r. is_set r || is_ruleset r) ps
changes_sets _ ps = false

-- the head of a table's item: `set`, `map`, `chain` or `flowtable`, a name, and a brace
abbrev pub is_head : Role → List RoleToken → Bool
is_head r [] = false
is_head r (name ∷ []) = false
is_head r (name ∷ brace ∷ ps) = (is_set r || is_block r) && not (is_no_word name.role) && opens brace.role

-- No rule of a chain and no part of another item begins with these words.
abbrev pub begins_item : List RoleToken → Bool
begins_item [] = false
begins_item (p ∷ ps) = is_head p.role ps || changes_sets p.role ps

-- A statement may begin after this token.
abbrev pub is_before_statement : Role → Bool
is_before_statement r = is_separator r || opens r || closes r

-- how many tokens of an item come before the second word of an item in its braces; all if it holds none
abbrev pub before_inner : List RoleToken → ℕ
before_inner [] = 0
before_inner (p ∷ ps) = if is_before_statement p.role && begins_item ps then 2 else 1 + before_inner ps

-- An item has another one in its braces, as a chain has whose own `}` is missing.
abbrev pub holds_item : List RoleToken → Bool
holds_item item = nat_lt (before_inner item) (length item)
