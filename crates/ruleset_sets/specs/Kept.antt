-- What is kept of a ruleset's text, and what is noted of the rest.
use Rattle.std.specs.Prelude.{◌≡◌, ◌<◌, ℕ, ◌+◌, List, [], ◌∷◌, ◌++◌, length, take, drop, slice_index, Bool, true, false, ◌&&◌, ◌||◌, not, nat_le, nat_lt, Option, Some, None, if◌then◌else◌}
use Rattle.std.specs.List.{list_any, find, filter, flat_map}
use Rattle.token_forms.specs.Bytes.{is_line_feed as is_feed_byte}
use Rattle.ruleset_sets.specs.declared.role.Role.{Role}
use Rattle.ruleset_sets.specs.declared.role_token.RoleToken.{RoleToken}
use Rattle.ruleset_sets.specs.declared.sieve.SkipReason.{SkipReason}
use Rattle.ruleset_sets.specs.declared.sieve.SkipReason.TheVariants as reasons
use Rattle.ruleset_sets.specs.declared.skipped.Skipped.{Skipped}
use Rattle.ruleset_sets.specs.declared.skipped.Sort.{Sort}
use Rattle.ruleset_sets.specs.declared.skipped.Sort.TheVariants as sorts
use Rattle.ruleset_sets.specs.Roles.{is_line_feed, is_end, is_unread, opens, is_constant, is_dynamic, is_counter, is_last}
use Rattle.ruleset_sets.specs.RoleTokens.{role_tokens}
use Rattle.ruleset_sets.specs.Sieve.{dropped_parts}
use Rattle.ruleset_sets.specs.Inner.{before_inner}
use Rattle.ruleset_sets.specs.Items.{Cut, cuts}

-- Of a skipped item all goes but line feeds and what can't be skipped.
abbrev pub may_go : Role → Bool
may_go r = not (is_line_feed r || is_end r || is_unread r)

-- The same by why the item is skipped: if its braces don't close, those that open stay.
abbrev pub goes_for : SkipReason → Role → Bool
goes_for reasons.Unclosed r = may_go r && not (opens r)
goes_for _ r = may_go r

-- From the second word of an inner item on, that word stays, and each `{` after it.
abbrev pub taken_behind : List RoleToken → List RoleToken
taken_behind [] = []
taken_behind (word ∷ ps) = filter (λ p. goes_for reasons.Unclosed p.role) ps

-- So many tokens come before that word. All of these go that may go.
abbrev pub taken_around : ℕ → List RoleToken → List RoleToken
taken_around n item = filter (λ p. may_go p.role) (take n item) ++ taken_behind (drop n item)

-- The tokens of an item that are taken out of the text, by why it is skipped. If it holds another item, a script
-- refuses that one's second word.
abbrev pub taken_from : Option SkipReason → List RoleToken → List RoleToken
taken_from None item = dropped_parts item
taken_from (Some reasons.HoldsItem) item = taken_around (before_inner item) item
taken_from (Some why) item = filter (λ p. goes_for why p.role) item

abbrev pub taken_out : Cut → List RoleToken
taken_out c = taken_from c.skipped c.item

-- the name of an item: the token after its first one, unless that is a brace
abbrev pub name_of : List RoleToken → Option RoleToken
name_of [] = None
name_of (p ∷ ps) = if opens p.role then None else Some p

-- a skipped item's note
abbrev pub item_note : SkipReason → List RoleToken → List Skipped
item_note why [] = []
item_note why (p ∷ ps) = record { why = why; at = p; name = name_of ps } ∷ []

abbrev pub note_at : Option RoleToken → List Skipped
note_at None = []
note_at (Some p) = record { why = reasons.DroppedPart; at = p; name = None } ∷ []

abbrev pub is_of_sort : Sort → Role → Bool
is_of_sort sorts.Constant r = is_constant r
is_of_sort sorts.Dynamic r = is_dynamic r
is_of_sort sorts.Counter r = is_counter r
is_of_sort sorts.Last r = is_last r

-- the note on the first of the dropped parts of a sort
abbrev pub part_note : Sort → List RoleToken → List Skipped
part_note sort ps = note_at (find (λ p. is_of_sort sort p.role) ps)

-- each sort of dropped part is noted once per item
abbrev pub part_notes : List RoleToken → List Skipped
part_notes ps = part_note sorts.Constant ps ++ part_note sorts.Dynamic ps ++ part_note sorts.Counter ps ++ part_note sorts.Last ps

-- an item's notes, by why it is skipped, its tokens, and those that are taken out
abbrev pub notes_by : Option SkipReason → List RoleToken → List RoleToken → List Skipped
notes_by None item taken = part_notes taken
notes_by (Some why) item taken = item_note why item

abbrev pub notes_of : Cut → List Skipped
notes_of c = notes_by c.skipped c.item (taken_out c)

-- the tokens that are taken out of these items, and the notes on them
abbrev pub taken_in : List Cut → List RoleToken
taken_in items = flat_map taken_out items

abbrev pub notes_in : List Cut → List Skipped
notes_in items = flat_map notes_of items

-- the tokens that are taken out of a ruleset, and the notes on it
abbrev pub all_taken : List ℕ → List RoleToken
all_taken text = taken_in (cuts (role_tokens text))

abbrev pub notes : List ℕ → List Skipped
notes text = notes_in (cuts (role_tokens text))

-- whether a place is in a token
abbrev pub is_within : ℕ → RoleToken → Bool
is_within k p = nat_le p.from k && nat_lt k (p.from + p.size)

abbrev pub blank_if : Bool → ℕ → ℕ
blank_if true b = 32
blank_if false b = b

-- the byte at a place: a blank in a token that is taken out, and else the text's own
abbrev pub kept_byte : List RoleToken → ℕ → ℕ → ℕ
kept_byte taken k b = blank_if (list_any (is_within k) taken) b

-- This is kept of a text without these tokens: as many bytes, and each is a blank or the text's own.
pub record IsKept (text : List ℕ) (taken : List RoleToken) (kept : List ℕ) : Type 0 where
  pub same_length : length kept ≡ length text
  pub each : (k : ℕ) → k < length text → slice_index kept k ≡ kept_byte taken k (slice_index text k)

-- what is kept of the bytes from this place on
abbrev pub kept_from : List RoleToken → ℕ → List ℕ → List ℕ
kept_from taken k [] = []
kept_from taken k (b ∷ bytes) = kept_byte taken k b ∷ kept_from taken (k + 1) bytes

-- what is kept of a ruleset, as one text
abbrev pub kept_text : List ℕ → List ℕ
kept_text text = kept_from (all_taken text) 0 text

-- Both texts have their line feeds at the same places. So a place is in the same line and column of both.
abbrev pub HaveSameLines : List ℕ → List ℕ → Type 0
HaveSameLines text kept = (k : ℕ) → k < length text → is_feed_byte (slice_index kept k) ≡ is_feed_byte (slice_index text k)
