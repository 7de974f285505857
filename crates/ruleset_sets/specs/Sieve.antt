-- Whether a set, or a statement on one, can be kept, and which of its parts are dropped.
use Rattle.std.specs.Prelude.{List, [], ◌∷◌, drop, Bool, true, false, ◌&&◌, ◌||◌, not, Option, Some, None, if◌then◌else◌}
use Rattle.std.specs.List.{list_any, prefix_len, take_while}
use Rattle.set_script.specs.declared.expression.Expression.{Expression}
use Rattle.set_script.specs.declared.expression.Expression.TheVariants as parts
use Rattle.set_script.specs.Expressions.{grown_by}
use Rattle.ruleset_sets.specs.declared.role.Role.{Role}
use Rattle.ruleset_sets.specs.declared.role.Role.TheVariants as roles
use Rattle.ruleset_sets.specs.declared.role_token.RoleToken.{RoleToken}
use Rattle.ruleset_sets.specs.declared.sieve.SkipReason.{SkipReason}
use Rattle.ruleset_sets.specs.declared.sieve.SkipReason.TheVariants as reasons
use Rattle.ruleset_sets.specs.declared.sieve.Spot.{Spot}
use Rattle.ruleset_sets.specs.declared.sieve.Spot.TheVariants as spots
use Rattle.ruleset_sets.specs.declared.sieve.Fate.{Fate}
use Rattle.ruleset_sets.specs.declared.sieve.Fate.TheVariants as fates
use Rattle.ruleset_sets.specs.Roles.{is_separator, opens, closes, is_end, is_unread, is_comma, is_dot, is_type, is_typeof, is_flags, is_constant, is_dynamic, is_counter, is_last, is_count, is_plain_word, is_type_part, is_no_word}

-- a flag of a set that no verdict depends on
abbrev pub is_idle_flag : Role → Bool
is_idle_flag r = is_constant r || is_dynamic r

-- a counter, or the time of the last packet
abbrev pub is_tally : Role → Bool
is_tally r = is_counter r || is_last r

-- a token of this role for which a set is left out, wherever it is in the set outside expressions
abbrev pub why_left_out : Role → RoleToken → Option SkipReason
why_left_out roles.AutoMerge p = Some (reasons.AutoMerge p)
why_left_out roles.Star p = Some (reasons.CatchAll p)
why_left_out roles.Stateful p = Some (reasons.Stateful p)
why_left_out _ p = None

abbrev pub begins_with : (Role → Bool) → List RoleToken → Bool
begins_with test [] = false
begins_with test (p ∷ ps) = test p.role

-- what a list of flags is made of
abbrev pub is_flag_part : Role → Bool
is_flag_part r = is_plain_word r || is_idle_flag r || is_comma r

-- whether the list of flags at this place has one that stays
abbrev pub keeps_flag : List RoleToken → Bool
keeps_flag ps = list_any (λ p. is_plain_word p.role) (take_while (λ p. is_flag_part p.role) ps)

-- what may come after a flag
abbrev pub ends_flag : Role → Bool
ends_flag r = is_separator r || is_comma r || closes r

-- an idle flag, if it is one whole flag
abbrev pub is_whole_idle : Role → List RoleToken → Bool
is_whole_idle r ps = is_idle_flag r && begins_with ends_flag ps

abbrev pub drop_if : Bool → Fate
drop_if true = fates.Drop
drop_if false = fates.Keep

-- A word outside types and flags: a tally is dropped, and `flags` if all its flags are.
abbrev pub plain_fate : Role → List RoleToken → Fate
plain_fate r ps = drop_if (is_tally r || (is_flags r && not (keeps_flag ps)))

-- what comes between two expressions, or after the last one
abbrev pub ends_expression : Role → Bool
ends_expression r = is_dot r || is_separator r || opens r || closes r || is_unread r || is_end r

-- A token among expressions. The second argument is what has been read of an expression after it.
abbrev pub expression_fate : RoleToken → Option Expression → Fate
expression_fate p (Some part) = fates.Keep
expression_fate p None = if ends_expression p.role then fates.Keep else fates.Leave (reasons.UnknownExpression p)

-- A token at a spot, with the tokens after it. A dropped flag takes one comma with it: the comma after
-- it if no flag that stays comes before it, else the comma before it.
abbrev pub fate_at : Spot → RoleToken → List RoleToken → Fate
fate_at spots.Plain p ps = plain_fate p.role ps
fate_at spots.Types p ps = if is_type_part p.role || is_no_word p.role then fates.Keep else fates.Leave (reasons.UnknownType p)
fate_at (spots.Expressions part) p ps = expression_fate p (grown_by part p.word)
fate_at spots.Flags p ps = drop_if (is_whole_idle p.role ps)
fate_at spots.FlagDropped p ps = drop_if (is_whole_idle p.role ps || (is_comma p.role && begins_with (λ q. is_plain_word q || is_idle_flag q) ps))
fate_at spots.FlagKept p ps = drop_if (is_whole_idle p.role ps || (is_comma p.role && begins_with is_idle_flag ps))
fate_at spots.Tally p ps = if is_count p.role then fates.Drop else plain_fate p.role ps
fate_at spots.TallyValue p ps = if is_plain_word p.role then fates.Drop else plain_fate p.role ps

-- The same word of a set may have another meaning in an expression: `ct`.
abbrev pub why_at : Spot → RoleToken → Option SkipReason
why_at (spots.Expressions part) p = None
why_at _ p = why_left_out p.role p

abbrev pub fate_by : Option SkipReason → Fate → Fate
fate_by None fate = fate
fate_by (Some why) fate = fates.Leave why

abbrev pub fate : Spot → RoleToken → List RoleToken → Fate
fate spot p ps = fate_by (why_at spot p) (fate_at spot p ps)

-- the spot after a token among expressions
abbrev pub expression_spot : Option Expression → Spot
expression_spot (Some part) = spots.Expressions part
expression_spot None = spots.Plain

-- the spot among flags, if none that stays came before
abbrev pub flag_spot : Role → Spot
flag_spot r = if is_idle_flag r then spots.FlagDropped else if is_plain_word r then spots.FlagKept else spots.Flags

-- the spot after a token that begins no item
abbrev pub spot_inside : Spot → RoleToken → Spot
spot_inside spots.Plain p = spots.Plain
spot_inside spots.Types p = if is_type_part p.role then spots.Types else spots.Plain
spot_inside (spots.Expressions part) p = if is_dot p.role then spots.Expressions parts.Empty else expression_spot (grown_by part p.word)
spot_inside spots.Flags p = flag_spot p.role
spot_inside spots.FlagDropped p = flag_spot p.role
spot_inside spots.FlagKept p = spots.FlagKept
spot_inside spots.Tally p = if is_count p.role then spots.TallyValue else spots.Plain
spot_inside spots.TallyValue p = if is_plain_word p.role then spots.Tally else spots.Plain

-- the spot after a token
abbrev pub spot_behind : Spot → RoleToken → Spot
spot_behind spot p =
    if is_separator p.role || opens p.role || closes p.role then spots.Plain
    else if is_type p.role then spots.Types
    else if is_typeof p.role then spots.Expressions parts.Empty
    else if is_flags p.role then spots.Flags
    else if is_tally p.role then spots.Tally
    else spot_inside spot p

abbrev pub reason_or : Fate → Option SkipReason → Option SkipReason
reason_or (fates.Leave why) later = Some why
reason_or fates.Keep later = later
reason_or fates.Drop later = later

-- The first reason for which these tokens can't be kept. It has the first token that can't.
abbrev pub first_reason : Spot → List RoleToken → Option SkipReason
first_reason spot [] = None
first_reason spot (p ∷ ps) = reason_or (fate spot p ps) (first_reason (spot_behind spot p) ps)

abbrev pub is_dropped : Fate → Bool
is_dropped fates.Drop = true
is_dropped fates.Keep = false
is_dropped (fates.Leave why) = false

-- the tokens among these that are dropped
abbrev pub dropped_among : Spot → List RoleToken → List RoleToken
dropped_among spot [] = []
dropped_among spot (p ∷ ps) =
    if is_dropped (fate spot p ps) then p ∷ dropped_among (spot_behind spot p) ps
    else dropped_among (spot_behind spot p) ps

-- the tokens of an item from its first brace on
abbrev pub body : List RoleToken → List RoleToken
body item = drop (prefix_len (λ p. not (opens p.role)) item) item

-- why an item can't be kept
abbrev pub left_out : List RoleToken → Option SkipReason
left_out item = first_reason spots.Plain (body item)

-- the parts of an item that are dropped
abbrev pub dropped_parts : List RoleToken → List RoleToken
dropped_parts item = dropped_among spots.Plain (body item)
