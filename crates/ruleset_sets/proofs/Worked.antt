-- Worked examples of the definitions. They compute, so the proof check refuses a wrong byte.
use Rattle.std.specs.Prelude.{◌≡◌, refl, ℕ, ◌+◌, List, [], ◌∷◌, ◌++◌, map, codes}
use Rattle.ruleset_sets.specs.declared.sieve.SkipReason.{SkipReason}
use Rattle.ruleset_sets.specs.declared.sieve.SkipReason.TheVariants as skip_reasons
use Rattle.ruleset_sets.specs.declared.role_token.RoleToken.{RoleToken}
use Rattle.ruleset_sets.specs.Kept.{all_taken, notes, kept_byte}

abbrev kept_from : List RoleToken → ℕ → List ℕ → List ℕ
kept_from taken k [] = []
kept_from taken k (b ∷ bytes) = kept_byte taken k b ∷ kept_from taken (k + 1) bytes

abbrev kept_of : List ℕ → List ℕ
kept_of text = kept_from (all_taken text) 0 text

-- a reason, with the place of the token that is the reason
data Why : Type 0 where
  no_set : Why
  unknown_type : ℕ → Why
  unknown_expression : ℕ → Why
  auto_merge : ℕ → Why
  catch_all : ℕ → Why
  stateful : ℕ → Why
  unclosed : Why
  holds_item : Why
  dropped_part : Why

abbrev why_of : SkipReason → Why
why_of skip_reasons.NoSet = no_set
why_of (skip_reasons.UnknownType p) = unknown_type p.from
why_of (skip_reasons.UnknownExpression p) = unknown_expression p.from
why_of (skip_reasons.AutoMerge p) = auto_merge p.from
why_of (skip_reasons.CatchAll p) = catch_all p.from
why_of (skip_reasons.Stateful p) = stateful p.from
why_of skip_reasons.Unclosed = unclosed
why_of skip_reasons.HoldsItem = holds_item
why_of skip_reasons.DroppedPart = dropped_part

-- the reason, the line and the place of each note
abbrev noted : List ℕ → List (Why × ℕ × ℕ)
noted text = map (λ s. (why_of s.why, s.at.line, s.at.from)) (notes text)

-- A brace in a string ends no chain, and a counter of a kept set is dropped.
abbrev a_brace_in_a_string : List ℕ
a_brace_in_a_string = codes "table ip t{chain c{log " ++ 34 ∷ codes "}" ++ 34 ∷ codes "}" ++ 10 ∷ codes "set s{type mark;counter;}}"

a_brace_in_a_string-kept : kept_of a_brace_in_a_string ≡ codes "table ip t{                " ++ 10 ∷ codes "set s{type mark;       ;}}"
a_brace_in_a_string-kept = refl

a_brace_in_a_string-noted : noted a_brace_in_a_string ≡ (no_set, 1, 11) ∷ (dropped_part, 2, 44) ∷ []
a_brace_in_a_string-noted = refl

-- A brace in a comment ends no chain.
abbrev a_brace_in_a_comment : List ℕ
a_brace_in_a_comment = codes "table ip t{chain c{#}" ++ 10 ∷ codes "}" ++ 10 ∷ codes "}"

a_brace_in_a_comment-kept : kept_of a_brace_in_a_comment ≡ codes "table ip t{        #}" ++ 10 ∷ codes " " ++ 10 ∷ codes "}"
a_brace_in_a_comment-kept = refl

a_brace_in_a_comment-noted : noted a_brace_in_a_comment ≡ (no_set, 1, 11) ∷ []
a_brace_in_a_comment-noted = refl

-- A set with auto-merge is left out as a whole, and the next one is kept.
abbrev a_set_left_out : List ℕ
a_set_left_out = codes "table ip t{set a{type mark;auto-merge;}" ++ 10 ∷ codes "set b{type mark;}}"

a_set_left_out-kept : kept_of a_set_left_out ≡ codes "table ip t{                            " ++ 10 ∷ codes "set b{type mark;}}"
a_set_left_out-kept = refl

a_set_left_out-noted : noted a_set_left_out ≡ (auto_merge 27, 1, 11) ∷ []
a_set_left_out-noted = refl

-- A rule is skipped to its end, with sets in it. An element keeps its comment and loses its counter.
abbrev a_rule : List ℕ
a_rule = codes "add rule ip t c tcp dport {80,{443}} accept" ++ 10 ∷ codes "add element ip t b{1 counter packets 2 bytes 3 comment " ++ 34 ∷ codes "x" ++ 34 ∷ codes "}"

a_rule-kept : kept_of a_rule ≡ codes "                                           " ++ 10 ∷ codes "add element ip t b{1                           comment " ++ 34 ∷ codes "x" ++ 34 ∷ codes "}"
a_rule-kept = refl

a_rule-noted : noted a_rule ≡ (no_set, 1, 0) ∷ (dropped_part, 2, 65) ∷ []
a_rule-noted = refl

-- A chain whose brace is missing holds the set after it. The set's name stays, and a script refuses it.
abbrev a_missing_brace : List ℕ
a_missing_brace = codes "table ip t{chain c{" ++ 10 ∷ codes "set s{type mark;}}"

a_missing_brace-kept : kept_of a_missing_brace ≡ codes "table ip t{        " ++ 10 ∷ codes "    s{            "
a_missing_brace-kept = refl

a_missing_brace-noted : noted a_missing_brace ≡ (holds_item, 1, 11) ∷ []
a_missing_brace-noted = refl

-- The same if one more brace at the end balances the text.
abbrev a_moved_brace : List ℕ
a_moved_brace = codes "table ip t{chain c{" ++ 10 ∷ codes "set s{type mark;}}}"

a_moved_brace-kept : kept_of a_moved_brace ≡ codes "table ip t{        " ++ 10 ∷ codes "    s{            }"
a_moved_brace-kept = refl

-- A statement on elements is held in the same way. The word after `add` stays.
abbrev a_held_change : List ℕ
a_held_change = codes "add chain ip t c{" ++ 10 ∷ codes "add element ip t s{5}}"

a_held_change-kept : kept_of a_held_change ≡ codes "                 " ++ 10 ∷ codes "    element       {   "
a_held_change-kept = refl

-- A statement on elements in a table's braces stays, and a script refuses it.
abbrev a_change_in_a_table : List ℕ
a_change_in_a_table = codes "table ip t{" ++ 10 ∷ codes "add element ip t s{5}}"

a_change_in_a_table-kept : kept_of a_change_in_a_table ≡ a_change_in_a_table
a_change_in_a_table-kept = refl

-- A set that would be left out holds the next one.
abbrev a_set_in_a_set : List ℕ
a_set_in_a_set = codes "table ip t{set a{type mark;auto-merge" ++ 10 ∷ codes "set b{type mark;}}}"

a_set_in_a_set-kept : kept_of a_set_in_a_set ≡ codes "table ip t{                          " ++ 10 ∷ codes "    b{            }"
a_set_in_a_set-kept = refl

-- Rules use `set`, `add` and `map` in other ways.
abbrev rules_on_sets : List ℕ
rules_on_sets = codes "table ip t{chain c{set update ip saddr @s" ++ 10 ∷ codes "add @s{ip saddr};meta mark set mark map{1:2}" ++ 10 ∷ codes "}}"

rules_on_sets-kept : kept_of rules_on_sets ≡ codes "table ip t{                              " ++ 10 ∷ codes "                                            " ++ 10 ∷ codes " }"
rules_on_sets-kept = refl

rules_on_sets-noted : noted rules_on_sets ≡ (no_set, 1, 11) ∷ []
rules_on_sets-noted = refl

-- A dropped flag takes one comma with it.
abbrev dropped_flags : List ℕ
dropped_flags = codes "add set ip t s{type mark;flags constant,interval,dynamic;}"

dropped_flags-kept : kept_of dropped_flags ≡ codes "add set ip t s{type mark;flags          interval        ;}"
dropped_flags-kept = refl

dropped_flags-noted : noted dropped_flags ≡ (dropped_part, 1, 31) ∷ (dropped_part, 1, 49) ∷ []
dropped_flags-noted = refl

-- A type that is not known, a catch-all element, and a map.
abbrev reasons : List ℕ
reasons = codes "table ip t{set a{type ifname;}" ++ 10 ∷ codes "set b{type mark;elements={*}}" ++ 10 ∷ codes "map m{type mark:mark;}}"

reasons-kept : kept_of reasons ≡ codes "table ip t{                   " ++ 10 ∷ codes "                             " ++ 10 ∷ codes "                      }"
reasons-kept = refl

reasons-noted : noted reasons ≡ (unknown_type 22, 1, 11) ∷ (catch_all 57, 2, 31) ∷ (no_set, 3, 61) ∷ []
reasons-noted = refl

-- A set by an expression whose type is known is kept, and `ct` counts no connections in it. An expression of another type
-- leaves its set out.
abbrev expressions : List ℕ
expressions = codes "table ip t{set a{typeof ct original ip saddr . th dport;}" ++ 10 ∷ codes "set b{typeof ip saddr . iifname;}}"

expressions-kept : kept_of expressions ≡ codes "table ip t{set a{typeof ct original ip saddr . th dport;}" ++ 10 ∷ codes "                                 }"
expressions-kept = refl

expressions-noted : noted expressions ≡ (unknown_expression 82, 2, 58) ∷ []
expressions-noted = refl

-- The first of several reasons counts. Of an expression that isn't known, the reason is the first word with which no known one
-- goes on.
abbrev several_reasons : List ℕ
several_reasons = codes "table ip t{set a{type mark;elements={*};auto-merge;}" ++ 10 ∷ codes "set b{typeof ct mark . tcp flags;quota over 1 mbytes;}" ++ 10 ∷ codes "set c{type ifname . inet_proto;ct count over 1;}}"

several_reasons-kept : kept_of several_reasons ≡ codes "table ip t{                                         " ++ 10 ∷ codes "                                                      " ++ 10 ∷ codes "                                                }"
several_reasons-kept = refl

several_reasons-noted : noted several_reasons ≡ (catch_all 37, 1, 11) ∷ (unknown_expression 80, 2, 53) ∷ (unknown_type 119, 3, 108) ∷ []
several_reasons-noted = refl

-- A state that decides is a reason.
abbrev a_limit : List ℕ
a_limit = codes "add set ip t s{type mark;limit rate 1/second;}"

a_limit-noted : noted a_limit ≡ (stateful 25, 1, 0) ∷ []
a_limit-noted = refl

-- A quote that begins no string stays, and a script with it is refused.
abbrev an_open_quote : List ℕ
an_open_quote = codes "chain c {" ++ 34 ∷ codes "x" ++ 10 ∷ codes "}"

an_open_quote-kept : kept_of an_open_quote ≡ codes "         " ++ 34 ∷ codes " " ++ 10 ∷ codes " "
an_open_quote-kept = refl

an_open_quote-noted : noted an_open_quote ≡ (no_set, 1, 0) ∷ []
an_open_quote-noted = refl

-- A statement whose braces don't close keeps those that open.
abbrev an_open_brace : List ℕ
an_open_brace = codes "add chain ip t c{" ++ 10 ∷ codes "add set ip t s{type mark;}"

an_open_brace-kept : kept_of an_open_brace ≡ codes "                {" ++ 10 ∷ codes "              {           "
an_open_brace-kept = refl

an_open_brace-noted : noted an_open_brace ≡ (unclosed, 1, 0) ∷ []
an_open_brace-noted = refl
