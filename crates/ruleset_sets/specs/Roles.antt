-- What a token is to a ruleset, by its kind and its bytes.
use Rattle.std.specs.Prelude.{ℕ, List, [], ◌∷◌, Bool, true, false, ◌||◌, ◌==◌, nat_lt, Option, Some, None, is_some, codes, bytes_eq, if◌then◌else◌}
use Rattle.token_forms.specs.declared.token.TokenKind.TheVariants as kinds
use Rattle.token_forms.specs.Token.{Lexeme}
use Rattle.token_forms.specs.Words.{is_name}
use Rattle.set_script.specs.Names.{kind_of}
use Rattle.ruleset_sets.specs.declared.role.Role.{Role}
use Rattle.ruleset_sets.specs.declared.role.Role.TheVariants as roles

-- a word that begins a statement, or follows its first word
abbrev pub statement_word : List ℕ → Option Role
statement_word t =
    if bytes_eq t (codes "table") then Some roles.Table
    else if bytes_eq t (codes "set") then Some roles.Set
    else if bytes_eq t (codes "element") then Some roles.Element
    else if bytes_eq t (codes "ruleset") then Some roles.Ruleset
    else if bytes_eq t (codes "map") || bytes_eq t (codes "chain") || bytes_eq t (codes "flowtable") then Some roles.Block
    else if bytes_eq t (codes "add") then Some roles.Add
    else if bytes_eq t (codes "create") || bytes_eq t (codes "delete") || bytes_eq t (codes "destroy") then Some roles.Change
    else if bytes_eq t (codes "flush") then Some roles.Flush
    else if bytes_eq t (codes "at") || bytes_eq t (codes "commit") || bytes_eq t (codes "abort") || bytes_eq t (codes "round") then Some roles.Turn
    else None

-- a word of a set or of an element
abbrev pub set_word : List ℕ → Option Role
set_word t =
    if bytes_eq t (codes "type") then Some roles.TypeItem
    else if bytes_eq t (codes "flags") then Some roles.FlagsItem
    else if bytes_eq t (codes "constant") then Some roles.Constant
    else if bytes_eq t (codes "dynamic") then Some roles.Dynamic
    else if bytes_eq t (codes "counter") then Some roles.Counter
    else if bytes_eq t (codes "last") then Some roles.Last
    else if bytes_eq t (codes "packets") || bytes_eq t (codes "bytes") || bytes_eq t (codes "used") then Some roles.Count
    else if bytes_eq t (codes "typeof") then Some roles.Typeof
    else if bytes_eq t (codes "auto-merge") then Some roles.AutoMerge
    else if bytes_eq t (codes "quota") || bytes_eq t (codes "limit") || bytes_eq t (codes "ct") then Some roles.Stateful
    else if is_some (kind_of t) then Some roles.Kind
    else None

abbrev pub or_word : Option Role → Role
or_word None = roles.Word
or_word (Some r) = r

abbrev pub either_role : Option Role → Option Role → Option Role
either_role None other = other
either_role (Some r) other = Some r

-- a word by its bytes: only names have a meaning here, and `.`
abbrev pub word_role : List ℕ → Role
word_role t =
    if bytes_eq t (codes ".") then roles.Dot
    else if is_name t then or_word (either_role (statement_word t) (set_word t))
    else roles.Word

abbrev pub mark_role : List ℕ → Role
mark_role t =
    if bytes_eq t (codes "{") then roles.OpenBrace
    else if bytes_eq t (codes "}") then roles.CloseBrace
    else if bytes_eq t (codes ",") then roles.Comma
    else if bytes_eq t (codes ";") then roles.Semicolon
    else if bytes_eq t (codes "*") then roles.Star
    else roles.Other

-- A faulty token. A quote that begins no string, and a control character, can't be skipped.
abbrev pub faulty_role : List ℕ → Role
faulty_role [] = roles.Other
faulty_role (b ∷ bytes) = if (b == 34) || nat_lt b 32 then roles.Unread else roles.Other

abbrev pub role_of : Lexeme → Role
role_of t = elim (t.kind) [
  | kinds.Break ↦ roles.LineFeed
  | kinds.Mark ↦ mark_role t.bytes
  | kinds.Text ↦ roles.Other
  | kinds.Word ↦ word_role t.bytes
  | kinds.Faulty ↦ faulty_role t.bytes
  | kinds.End ↦ roles.End
]

-- Groups of roles.
abbrev pub is_separator : Role → Bool
is_separator roles.LineFeed = true
is_separator roles.Semicolon = true
is_separator _ = false

abbrev pub opens : Role → Bool
opens roles.OpenBrace = true
opens _ = false

abbrev pub closes : Role → Bool
closes roles.CloseBrace = true
closes _ = false

abbrev pub is_end : Role → Bool
is_end roles.End = true
is_end _ = false

abbrev pub is_unread : Role → Bool
is_unread roles.Unread = true
is_unread _ = false

abbrev pub is_line_feed : Role → Bool
is_line_feed roles.LineFeed = true
is_line_feed _ = false

abbrev pub is_comma : Role → Bool
is_comma roles.Comma = true
is_comma _ = false

abbrev pub is_table : Role → Bool
is_table roles.Table = true
is_table _ = false

abbrev pub is_set : Role → Bool
is_set roles.Set = true
is_set _ = false

abbrev pub is_element : Role → Bool
is_element roles.Element = true
is_element _ = false

abbrev pub is_ruleset : Role → Bool
is_ruleset roles.Ruleset = true
is_ruleset _ = false

abbrev pub is_block : Role → Bool
is_block roles.Block = true
is_block _ = false

abbrev pub is_type : Role → Bool
is_type roles.TypeItem = true
is_type _ = false

abbrev pub is_typeof : Role → Bool
is_typeof roles.Typeof = true
is_typeof _ = false

abbrev pub is_flags : Role → Bool
is_flags roles.FlagsItem = true
is_flags _ = false

abbrev pub is_constant : Role → Bool
is_constant roles.Constant = true
is_constant _ = false

abbrev pub is_dynamic : Role → Bool
is_dynamic roles.Dynamic = true
is_dynamic _ = false

abbrev pub is_counter : Role → Bool
is_counter roles.Counter = true
is_counter _ = false

abbrev pub is_last : Role → Bool
is_last roles.Last = true
is_last _ = false

abbrev pub is_count : Role → Bool
is_count roles.Count = true
is_count _ = false

abbrev pub is_plain_word : Role → Bool
is_plain_word roles.Word = true
is_plain_word _ = false

abbrev pub is_dot : Role → Bool
is_dot roles.Dot = true
is_dot _ = false

-- a known type, or the `.` between two
abbrev pub is_type_part : Role → Bool
is_type_part roles.Kind = true
is_type_part roles.Dot = true
is_type_part _ = false

-- what isn't a word
abbrev pub is_no_word : Role → Bool
is_no_word roles.LineFeed = true
is_no_word roles.Semicolon = true
is_no_word roles.OpenBrace = true
is_no_word roles.CloseBrace = true
is_no_word roles.Comma = true
is_no_word roles.Star = true
is_no_word roles.Unread = true
is_no_word roles.Other = true
is_no_word roles.End = true
is_no_word _ = false
