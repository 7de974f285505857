-- Reading a script from left to right, along the table of its forms.
use Rattle.std.specs.Prelude.{ℕ, List, [], ◌∷◌, ◌++◌, Bool, true, false, ◌||◌, Option, Some, None, codes, slice_get}
use Rattle.set_model.specs.declared.kind.Kind.{Kind}
use Rattle.set_model.specs.declared.kind.Interval.{Interval}
use Rattle.set_model.specs.declared.script.Family.{Family}
use Rattle.set_model.specs.declared.script.Family.TheVariants as families
use Rattle.set_model.specs.declared.script.SetDecl.{SetDecl}
use Rattle.set_model.specs.declared.script.Step.{Step}
use Rattle.set_model.specs.declared.script.Script.{Script}
use Rattle.set_script.specs.declared.draft.Draft.{Draft}
use Rattle.set_script.specs.declared.draft.Declaration.{Declaration}
use Rattle.set_script.specs.declared.draft.Target.{Target}
use Rattle.set_script.specs.declared.draft.Options.{Options}
use Rattle.set_script.specs.declared.words.FirstWord.{FirstWord}
use Rattle.set_script.specs.declared.words.FirstWord.TheVariants as firsts
use Rattle.set_script.specs.declared.words.AddWord.{AddWord}
use Rattle.set_script.specs.declared.words.AddWord.TheVariants as adds
use Rattle.set_script.specs.declared.words.FlushWord.{FlushWord}
use Rattle.set_script.specs.declared.words.FlushWord.TheVariants as flushes
use Rattle.set_script.specs.declared.words.ItemWord.{ItemWord}
use Rattle.set_script.specs.declared.words.ItemWord.TheVariants as items
use Rattle.set_script.specs.declared.words.Flag.{Flag}
use Rattle.set_script.specs.declared.words.TypeWord.{TypeWord}
use Rattle.set_script.specs.declared.words.TypeWord.TheVariants as types
use Rattle.set_script.specs.declared.expression.Expression.{Expression}
use Rattle.set_script.specs.declared.expression.Expression.TheVariants as parts
use Rattle.set_script.specs.declared.words.OptionWord.{OptionWord}
use Rattle.set_script.specs.declared.words.OptionWord.TheVariants as options
use Rattle.set_model.specs.declared.script.Verb.{Verb}
use Rattle.set_model.specs.declared.script.Verb.TheVariants as verbs
use Rattle.token_forms.specs.declared.token.Reason.TheVariants as reasons
use Rattle.token_forms.specs.Token.{Lexeme}
use Rattle.token_forms.specs.Reading.{done_read as done, nowhere_read as nowhere, either_read, ◌>>=◌, ◌>>◌}
use Rattle.token_forms.specs.Words.{if_true, any_word, breaks_off, separates, is_the_mark}
use Rattle.token_forms.specs.WordReading.{Reading, word, word_by, lined_word_by, name, mark, text, the_end, breaks, separators, passed, line, line_starts, lines, many}
use Rattle.addr_text.specs.TimesRead.{time_of}
use Rattle.set_script.specs.Values.{part_of, life_of, moment_of, size_of}
use Rattle.set_script.specs.Expressions.{kind_of_whole, expression_behind}
use Rattle.set_script.specs.Names.{first_of, add_of, flush_of, family_of, type_word_of, kind_of, kind_behind, set_place, new_name, item_of, flag_of, is_policy, option_of}
use Rattle.set_script.specs.Changes.{empty, no_options, declaration, with_flag, with_timeout, with_size, with_gc_interval, with_policy, with_comment, with_elements, change, with_steps, flush, declared, begun, at_moment, commit, abort, round, finished_script}

-- what starts one more
abbrev pub starts_element : List Step × Bool → Lexeme → Bool
starts_element (before, true) t = any_word t
starts_element (before, false) t = is_the_mark 44 t

abbrev pub starts_option : Options → Lexeme → Bool
starts_option o t = breaks_off t || any_word t

abbrev pub starts_flag : Declaration → Lexeme → Bool
starts_flag b t = is_the_mark 44 t

abbrev pub starts_kind : List Kind → Lexeme → Bool
starts_kind ks t = any_word t

unfoldable pub table_behind : List ℕ → Option Family → Reading (Family × List ℕ)
table_behind w None = done (families.Ip, w)
table_behind w (Some family) = do
  table ← name
  done (family, table)

unfoldable pub table_place : Reading (Family × List ℕ)
table_place = do
  w ← name
  table_behind w (family_of w)

abbrev pub used_set : List SetDecl → Family × List ℕ → Reading ℕ
used_set schema p = word_by (reasons.Set ∷ []) (λ t. set_place schema p.0 p.1 t.bytes)

abbrev pub new_set : Draft → Family × List ℕ → Reading (List ℕ)
new_set d p = word_by (reasons.Set ∷ []) (λ t. new_name d p.0 p.1 t.bytes)

abbrev pub first_part : Bool → Kind → Reading (ℕ × Interval)
first_part wide kind = lined_word_by (reasons.Value ∷ []) (part_of wide kind)

abbrev pub part : Bool → Kind → Reading Interval
part wide kind = word_by (reasons.Value ∷ []) (λ t. part_of wide kind t.bytes)

unfoldable pub more_parts : Bool → List Kind → List Interval → Reading (List Interval)
more_parts wide [] parts = done parts
more_parts wide (kind ∷ kinds) parts = do
  breaks
  word (codes ".")
  breaks
  p ← part wide kind
  more_parts wide kinds (parts ++ p ∷ [])

abbrev pub some_parts : Bool → Kind → List Kind → Reading (ℕ × List Interval)
some_parts wide kind kinds = do
  p ← first_part wide kind
  parts ← more_parts wide kinds (p.1 ∷ [])
  done (p.0, parts)

unfoldable pub all_parts : Bool → List Kind → Reading (ℕ × List Interval)
all_parts wide [] = nowhere
all_parts wide (kind ∷ kinds) = some_parts wide kind kinds

abbrev pub time : Reading ℕ
time = word_by (reasons.Time ∷ []) (λ t. time_of t.bytes)

abbrev pub life_word : Reading ℕ
life_word = word_by (reasons.Time ∷ []) (λ t. life_of t.bytes)

unfoldable pub option_behind : Options → OptionWord → Reading Options
option_behind o options.Timeout = do
  breaks
  t ← life_word
  done (record o { timeout = Some t })
option_behind o options.Expires = do
  breaks
  t ← time
  done (record o { expires = Some t })
option_behind o options.Comment = do
  breaks
  c ← text
  done (record o { comment = Some c })

abbrev pub option_word : Bool → Options → Reading OptionWord
option_word timed o = word_by [] (λ t. option_of timed o t.bytes)

unfoldable pub option : Bool → Options → Reading Options
option timed o = do
  w ← option_word timed o
  option_behind o w

unfoldable pub option_or_break : Bool → Options → Reading Options
option_or_break timed o = either_read breaks_off (passed breaks_off >> done o) (option timed o)

abbrev pub all_options : Bool → Reading Options
all_options timed = many starts_option (option_or_break timed) no_options

unfoldable pub element : Target → SetDecl → List Step → Reading (List Step)
element target s before = do
  p ← all_parts s.interval s.kinds
  o ← all_options s.timed
  done (before ++ change target s p.0 p.1 o ∷ [])

unfoldable pub list_item : Target → SetDecl → List Step × Bool → Reading (List Step × Bool)
list_item target s (before, true) = do
  behind ← element target s before
  done (behind, false)
list_item target s (before, false) = do
  mark 44
  breaks
  done (before, true)

abbrev pub list_items : Target → SetDecl → List Step × Bool → Reading (List Step × Bool)
list_items target s = many starts_element (list_item target s)

unfoldable pub list : Target → SetDecl → List Step → Reading (List Step)
list target s before = do
  mark 123
  breaks
  r ← list_items target s (before, true)
  mark 125
  done r.0

abbrev pub kind_word : List Kind → Reading Kind
kind_word ks = word_by (reasons.TypeWord ∷ []) (λ t. kind_behind ks (kind_of t.bytes))

abbrev pub expression_word : List Kind → Expression → Reading Expression
expression_word ks part = word_by (reasons.TypeWord ∷ []) (λ t. expression_behind ks part t.bytes)

unfoldable pub rest_word : List Kind → Expression → Option Kind → Reading Expression
rest_word ks part None = expression_word ks part
rest_word ks part (Some kind) = done part

unfoldable pub whole_kind : Option Kind → Reading Kind
whole_kind None = nowhere
whole_kind (Some kind) = done kind

unfoldable pub expression : List Kind → Reading Kind
expression ks = do
  first ← expression_word ks parts.Empty
  second ← rest_word ks first (kind_of_whole first)
  third ← rest_word ks second (kind_of_whole second)
  fourth ← rest_word ks third (kind_of_whole third)
  whole_kind (kind_of_whole fourth)

unfoldable pub kind_by : TypeWord → List Kind → Reading Kind
kind_by types.Names ks = kind_word ks
kind_by types.Expressions ks = expression ks

unfoldable pub more_kinds : TypeWord → List Kind → Reading (List Kind)
more_kinds w ks = do
  word (codes ".")
  k ← kind_by w ks
  done (ks ++ k ∷ [])

abbrev pub kinds_behind : TypeWord → List Kind → Reading (List Kind)
kinds_behind w = many starts_kind (more_kinds w)

abbrev pub type_word : Reading TypeWord
type_word = word_by [] (λ t. type_word_of t.bytes)

unfoldable pub type_item : Reading (List Kind)
type_item = do
  w ← type_word
  k ← kind_by w []
  kinds_behind w (k ∷ [])

abbrev pub flag_word : Declaration → Reading Flag
flag_word b = word_by [] (λ t. flag_of b t.bytes)

unfoldable pub flag : Declaration → Reading Declaration
flag b = do
  f ← flag_word b
  done (with_flag b f)

unfoldable pub more_flags : Declaration → Reading Declaration
more_flags b = do
  mark 44
  flag b

abbrev pub flags_behind : Declaration → Reading Declaration
flags_behind = many starts_flag more_flags

abbrev pub size_word : Reading ℕ
size_word = word_by (reasons.Number ∷ []) (λ t. size_of t.bytes)

abbrev pub policy : Reading (Unit {0})
policy = word_by [] (λ t. if_true (is_policy t.bytes))

abbrev pub elements_item : Declaration × List Step → Reading (Declaration × List Step)
elements_item (b, steps) = do
  mark 61
  behind ← list b.target b.decl steps
  done (with_elements b, behind)

unfoldable pub item_behind : Declaration × List Step → ItemWord → Reading (Declaration × List Step)
item_behind (b, steps) items.Flags = do
  b1 ← flag b
  b2 ← flags_behind b1
  done (b2, steps)
item_behind (b, steps) items.Timeout = do
  t ← time
  done (with_timeout b t, steps)
item_behind (b, steps) items.Size = do
  n ← size_word
  done (with_size b n, steps)
item_behind (b, steps) items.GcInterval = do
  time
  done (with_gc_interval b, steps)
item_behind (b, steps) items.Policy = do
  policy
  done (with_policy b, steps)
item_behind (b, steps) items.Comment = do
  text
  done (with_comment b, steps)
item_behind (b, steps) items.Elements = elements_item (b, steps)

abbrev pub item_word : Declaration → Reading ItemWord
item_word b = word_by [] (λ t. item_of b t.bytes)

unfoldable pub item : Declaration × List Step → Reading (Declaration × List Step)
item s = do
  w ← item_word s.0
  item_behind s w

abbrev pub item_line : (Declaration × List Step) × Bool → Reading ((Declaration × List Step) × Bool)
item_line = line separates item

abbrev pub item_lines : (Declaration × List Step) × Bool → Reading ((Declaration × List Step) × Bool)
item_lines = many (line_starts separates any_word) item_line

abbrev pub all_items : Declaration × List Step → Reading (Declaration × List Step)
all_items s = lines separates any_word item (s, false)

unfoldable pub set_body : Draft → Family × List ℕ → List ℕ → Reading Draft
set_body d p n = do
  mark 123
  separators
  ks ← type_item
  s ← all_items (declaration d p.0 p.1 n ks, d.steps)
  mark 125
  done (declared s.0 s.1 d)

unfoldable pub set_block : Family × List ℕ → Draft → Reading Draft
set_block p d = do
  word (codes "set")
  n ← new_set d p
  set_body d p n

abbrev pub block_line : Family × List ℕ → Draft × Bool → Reading (Draft × Bool)
block_line p = line separates (set_block p)

abbrev pub block_lines : Family × List ℕ → Draft × Bool → Reading (Draft × Bool)
block_lines p = many (line_starts separates any_word) (block_line p)

abbrev pub all_blocks : Family × List ℕ → Draft → Reading Draft
all_blocks p d = lines separates any_word (set_block p) (d, true)

unfoldable pub list_of : Target → Option SetDecl → List Step → Reading (List Step)
list_of target None before = nowhere
list_of target (Some s) before = list target s before

abbrev pub list_at : Target → List SetDecl → List Step → Reading (List Step)
list_at target schema before = list_of target (slice_get schema target.set) before

unfoldable pub changes : Draft → Verb → Reading Draft
changes d verb = do
  p ← table_place
  i ← used_set d.schema p
  behind ← list_at (record { set = i; verb = verb; now = d.moment }) d.schema d.steps
  done (with_steps d behind)

unfoldable pub add_behind : Draft → AddWord → Reading Draft
add_behind d adds.Table = do
  table_place
  done d
add_behind d adds.Set = do
  p ← table_place
  n ← new_set d p
  set_body d p n
add_behind d adds.Element = changes d verbs.Add

unfoldable pub element_changes : Draft → Verb → Reading Draft
element_changes d verb = do
  word (codes "element")
  changes d verb

unfoldable pub flush_behind : ℕ → Draft → FlushWord → Reading Draft
flush_behind line d flushes.Set = do
  p ← table_place
  i ← used_set d.schema p
  done (flush d line i)
flush_behind line d flushes.Ruleset = done d

unfoldable pub table_block : Draft → Reading Draft
table_block d = do
  p ← table_place
  mark 123
  d1 ← all_blocks p d
  mark 125
  done d1

abbrev pub add_word : Reading AddWord
add_word = word_by [] (λ t. add_of t.bytes)

abbrev pub flush_word : Bool → Reading FlushWord
flush_word begun = word_by [] (λ t. flush_of begun t.bytes)

abbrev pub moment_word : ℕ → Reading ℕ
moment_word before = word_by (reasons.Moment ∷ []) (λ t. moment_of before t.bytes)

unfoldable pub statement_behind : ℕ → Draft → FirstWord → Reading Draft
statement_behind line d firsts.Add = do
  w ← add_word
  add_behind d w
statement_behind line d firsts.Table = table_block d
statement_behind line d firsts.Create = element_changes d verbs.Create
statement_behind line d firsts.Delete = element_changes d verbs.Delete
statement_behind line d firsts.Destroy = element_changes d verbs.Destroy
statement_behind line d firsts.Flush = do
  w ← flush_word d.begun
  flush_behind line d w
statement_behind line d firsts.At = do
  n ← moment_word d.moment
  done (at_moment d n)
statement_behind line d firsts.Commit = done (commit d)
statement_behind line d firsts.Abort = done (abort d)
statement_behind line d firsts.Round = done (round d)

abbrev pub first_word : Reading (ℕ × FirstWord)
first_word = lined_word_by [] first_of

unfoldable pub statement : Draft → Reading Draft
statement d = do
  w ← first_word
  d1 ← statement_behind w.0 d w.1
  done (begun d1)

abbrev pub statement_line : Draft × Bool → Reading (Draft × Bool)
statement_line = line separates statement

abbrev pub statements : Reading (Draft × Bool)
statements = many (line_starts separates any_word) statement_line (empty, true)

unfoldable pub body : Reading Script
body = do
  d ← statements
  done (finished_script d.0)

unfoldable pub script : Reading Script
script = do
  s ← body
  the_end
  done s
