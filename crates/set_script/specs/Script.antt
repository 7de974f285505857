-- The script: the table of its forms, as nft(8) writes its statements. Marks are named by their bytes: 44 is `,`, 61 `=`, 123 `{`, 125 `}`.
use Rattle.std.specs.Prelude.{ℕ, List, [], ◌∷◌, ◌++◌, Bool, true, false, Option, Some, None, option_map, codes, slice_get}
use Rattle.set_model.specs.declared.kind.Kind.{Kind}
use Rattle.set_model.specs.declared.kind.Interval.{Interval}
use Rattle.set_model.specs.declared.script.Family.{Family}
use Rattle.set_model.specs.declared.script.Family.TheVariants as families
use Rattle.set_model.specs.declared.script.SetDecl.{SetDecl}
use Rattle.set_model.specs.declared.script.Step.{Step}
use Rattle.set_model.specs.declared.script.Script.{Script}
use Rattle.set_script.specs.declared.draft.Draft.{Draft}
use Rattle.set_script.specs.declared.draft.Declaration.{Declaration}
use Rattle.set_script.specs.declared.draft.Target.{Target}
use Rattle.set_script.specs.declared.draft.Options.{Options}
use Rattle.set_script.specs.declared.words.FirstWord.{FirstWord}
use Rattle.set_script.specs.declared.words.FirstWord.TheVariants as firsts
use Rattle.set_script.specs.declared.words.AddWord.{AddWord}
use Rattle.set_script.specs.declared.words.AddWord.TheVariants as adds
use Rattle.set_script.specs.declared.words.FlushWord.{FlushWord}
use Rattle.set_script.specs.declared.words.FlushWord.TheVariants as flushes
use Rattle.set_script.specs.declared.words.TypeWord.{TypeWord}
use Rattle.set_script.specs.declared.words.TypeWord.TheVariants as types
use Rattle.set_script.specs.declared.expression.Expression.{Expression}
use Rattle.set_script.specs.declared.expression.Expression.TheVariants as parts
use Rattle.set_script.specs.declared.words.ItemWord.{ItemWord}
use Rattle.set_script.specs.declared.words.ItemWord.TheVariants as items
use Rattle.set_script.specs.declared.words.OptionWord.{OptionWord}
use Rattle.set_script.specs.declared.words.OptionWord.TheVariants as options
use Rattle.set_model.specs.declared.script.Verb.{Verb}
use Rattle.set_model.specs.declared.script.Verb.TheVariants as verbs
use Rattle.token_forms.specs.declared.token.Reason.TheVariants as reasons
use Rattle.token_forms.specs.Form.{Form, done, nowhere, either_form, many, ◌>>=◌, ◌>>◌}
use Rattle.token_forms.specs.Words.{if_true, word, word_by, word_is, lined_word_is, name, mark, text, the_end, breaks, breaks_off, separators, separates, passed, line, lines}
use Rattle.addr_text.specs.Times.{IsTime}
use Rattle.set_script.specs.Values.{IsPart, IsLife, IsMoment, IsSize}
use Rattle.set_script.specs.Expressions.{kind_of_whole, expression_behind}
use Rattle.set_script.specs.Names.{first_of, add_of, flush_of, family_of, type_word_of, kind_of, kind_behind, set_place, new_name, item_of, flag_of, is_policy, option_of}
use Rattle.set_script.specs.Changes.{empty, no_options, declaration, with_flag, with_timeout, with_size, with_gc_interval, with_policy, with_comment, with_elements, change, with_steps, flush, declared, begun, at_moment, commit, abort, round, finished_script}

-- The family and the table. If the first word names a family, it is the family; else the family is
-- `ip`.
abbrev pub table_behind : List ℕ → Option Family → Form (Family × List ℕ)
table_behind w None = done (families.Ip, w)
table_behind w (Some family) = do
  table ← name
  done (family, table)

abbrev pub table_place : Form (Family × List ℕ)
table_place = do
  w ← name
  table_behind w (family_of w)

-- the name of a declared set, which gives its place among the declared sets
abbrev pub used_set : List SetDecl → Family × List ℕ → Form ℕ
used_set schema p = word_by (reasons.Set ∷ []) (λ t. set_place schema p.0 p.1 t.bytes)

-- the name of a set that may be declared
abbrev pub new_set : Draft → Family × List ℕ → Form (List ℕ)
new_set d p = word_by (reasons.Set ∷ []) (λ t. new_name d p.0 p.1 t.bytes)

-- Elements: the first interval, with its line.
abbrev pub first_part : Bool → Kind → Form (ℕ × Interval)
first_part wide kind = lined_word_is (reasons.Value ∷ []) (IsPart wide kind)

abbrev pub part : Bool → Kind → Form Interval
part wide kind = word_is (reasons.Value ∷ []) (IsPart wide kind)

-- the word `.` and the next interval, for each of these kinds
abbrev pub more_parts : Bool → List Kind → List Interval → Form (List Interval)
more_parts wide [] parts = done parts
more_parts wide (kind ∷ kinds) parts = do
  breaks
  word (codes ".")
  breaks
  p ← part wide kind
  more_parts wide kinds (parts ++ p ∷ [])

-- one interval for each kind, and the line of the first
abbrev pub all_parts : Bool → List Kind → Form (ℕ × List Interval)
all_parts wide [] = nowhere
all_parts wide (kind ∷ kinds) = do
  p ← first_part wide kind
  parts ← more_parts wide kinds (p.1 ∷ [])
  done (p.0, parts)

abbrev pub time : Form ℕ
time = word_is (reasons.Time ∷ []) IsTime

-- Options of an element: `timeout` and a life, `expires` and a time, `comment` and a string.
abbrev pub option_behind : Options → OptionWord → Form Options
option_behind o options.Timeout = do
  breaks
  t ← word_is (reasons.Time ∷ []) IsLife
  done (record o { timeout = Some t })
option_behind o options.Expires = do
  breaks
  t ← time
  done (record o { expires = Some t })
option_behind o options.Comment = do
  breaks
  c ← text
  done (record o { comment = Some c })

abbrev pub option : Bool → Options → Form Options
option timed o = do
  w ← word_by [] (λ t. option_of timed o t.bytes)
  option_behind o w

-- an option, or a break
abbrev pub option_or_break : Bool → Options → Form Options
option_or_break timed o = either_form (passed breaks_off >> done o) (option timed o)

-- One more element: its intervals, and then options in any order.
abbrev pub element : Target → SetDecl → List Step → Form (List Step)
element target s before = do
  p ← all_parts s.interval s.kinds
  o ← many (option_or_break s.timed) no_options
  done (before ++ change target s p.0 p.1 o ∷ [])

-- An element if one may come next, or a `,`.
abbrev pub list_item : Target → SetDecl → List Step × Bool → Form (List Step × Bool)
list_item target s (before, true) = do
  behind ← element target s before
  done (behind, false)
list_item target s (before, false) = do
  mark 44
  breaks
  done (before, true)

-- Elements in braces, with `,` between them and maybe after the last. Breaks are blanks there.
abbrev pub list : Target → SetDecl → List Step → Form (List Step)
list target s before = do
  mark 123
  breaks
  r ← many (list_item target s) (before, true)
  mark 125
  done r.0

-- Sets: a kind.
abbrev pub kind_word : List Kind → Form Kind
kind_word ks = word_by (reasons.TypeWord ∷ []) (λ t. kind_behind ks (kind_of t.bytes))

-- an expression's next word
abbrev pub expression_word : List Kind → Expression → Form Expression
expression_word ks part = word_by (reasons.TypeWord ∷ []) (λ t. expression_behind ks part t.bytes)

-- the same, unless all of the expression has been read
abbrev pub rest_word : List Kind → Expression → Option Kind → Form Expression
rest_word ks part None = expression_word ks part
rest_word ks part (Some kind) = done part

-- the kind of a whole expression
abbrev pub whole_kind : Option Kind → Form Kind
whole_kind None = nowhere
whole_kind (Some kind) = done kind

-- an expression, which has one to four words
abbrev pub expression : List Kind → Form Kind
expression ks = do
  first ← expression_word ks parts.Empty
  second ← rest_word ks first (kind_of_whole first)
  third ← rest_word ks second (kind_of_whole second)
  fourth ← rest_word ks third (kind_of_whole third)
  whole_kind (kind_of_whole fourth)

-- a kind by its name, or by an expression
abbrev pub kind_by : TypeWord → List Kind → Form Kind
kind_by types.Names ks = kind_word ks
kind_by types.Expressions ks = expression ks

abbrev pub more_kinds : TypeWord → List Kind → Form (List Kind)
more_kinds w ks = do
  word (codes ".")
  k ← kind_by w ks
  done (ks ++ k ∷ [])

-- `type` and one or more names of kinds, or `typeof` and one or more expressions, with `.` between them
abbrev pub type_item : Form (List Kind)
type_item = do
  w ← word_by [] (λ t. type_word_of t.bytes)
  k ← kind_by w []
  many (more_kinds w) (k ∷ [])

-- a flag
abbrev pub flag : Declaration → Form Declaration
flag b = do
  f ← word_by [] (λ t. flag_of b t.bytes)
  done (with_flag b f)

abbrev pub more_flags : Declaration → Form Declaration
more_flags b = do
  mark 44
  flag b

-- `performance` or `memory`
abbrev pub policy : Form (Unit {0})
policy = word_by [] (λ t. if_true (is_policy t.bytes))

-- An item, by its first word: `flags` and flags, `timeout` and a time, `size` and a number,
-- `gc-interval` and a time, `policy` and a policy, `comment` and a string, or `elements` with `=` and a
-- list. The state: the set, and the steps so far.
abbrev pub item_behind : Declaration × List Step → ItemWord → Form (Declaration × List Step)
item_behind (b, steps) items.Flags = do
  b1 ← flag b
  b2 ← many more_flags b1
  done (b2, steps)
item_behind (b, steps) items.Timeout = do
  t ← time
  done (with_timeout b t, steps)
item_behind (b, steps) items.Size = do
  n ← word_is (reasons.Number ∷ []) IsSize
  done (with_size b n, steps)
item_behind (b, steps) items.GcInterval = do
  time
  done (with_gc_interval b, steps)
item_behind (b, steps) items.Policy = do
  policy
  done (with_policy b, steps)
item_behind (b, steps) items.Comment = do
  text
  done (with_comment b, steps)
item_behind (b, steps) items.Elements = do
  mark 61
  behind ← list b.target b.decl steps
  done (with_elements b, behind)

abbrev pub item : Declaration × List Step → Form (Declaration × List Step)
item s = do
  w ← word_by [] (λ t. item_of s.0 t.bytes)
  item_behind s w

-- the items of a set in braces, its type first
abbrev pub set_body : Draft → Family × List ℕ → List ℕ → Form Draft
set_body d p n = do
  mark 123
  separators
  ks ← type_item
  s ← lines separates item ((declaration d p.0 p.1 n ks, d.steps), false)
  mark 125
  done (declared s.0 s.1 d)

-- `set`, its name, and its items
abbrev pub set_block : Family × List ℕ → Draft → Form Draft
set_block p d = do
  word (codes "set")
  n ← new_set d p
  set_body d p n

-- Statements: the list of a set that has this declaration.
abbrev pub list_of : Target → Option SetDecl → List Step → Form (List Step)
list_of target None before = nowhere
list_of target (Some s) before = list target s before

-- the name of a declared set, and the changes of a list
abbrev pub changes : Draft → Verb → Form Draft
changes d verb = do
  p ← table_place
  i ← used_set d.schema p
  behind ← list_of (record { set = i; verb = verb; now = d.moment }) (slice_get d.schema i) d.steps
  done (with_steps d behind)

-- After `add`: `table` with its family and name, which adds nothing; `set`, its table, its name and its
-- items; `element` and changes.
abbrev pub add_behind : Draft → AddWord → Form Draft
add_behind d adds.Table = do
  table_place
  done d
add_behind d adds.Set = do
  p ← table_place
  n ← new_set d p
  set_body d p n
add_behind d adds.Element = changes d verbs.Add

-- the word `element`, and the changes of a list
abbrev pub element_changes : Draft → Verb → Form Draft
element_changes d verb = do
  word (codes "element")
  changes d verb

-- After `flush`: `set` and a declared set, which is one change; or `ruleset`, which is empty yet.
abbrev pub flush_behind : ℕ → Draft → FlushWord → Form Draft
flush_behind line d flushes.Set = do
  p ← table_place
  i ← used_set d.schema p
  done (flush d line i)
flush_behind line d flushes.Ruleset = done d

-- after `table`: its family and name, and any number of set blocks in braces
abbrev pub table_block : Draft → Form Draft
table_block d = do
  p ← table_place
  mark 123
  d1 ← lines separates (set_block p) (d, true)
  mark 125
  done d1

-- The rest of a statement after its first word, by that word and its line.
abbrev pub statement_behind : ℕ → Draft → FirstWord → Form Draft
statement_behind line d firsts.Add = do
  w ← word_by [] (λ t. add_of t.bytes)
  add_behind d w
statement_behind line d firsts.Table = table_block d
statement_behind line d firsts.Create = element_changes d verbs.Create
statement_behind line d firsts.Delete = element_changes d verbs.Delete
statement_behind line d firsts.Destroy = element_changes d verbs.Destroy
statement_behind line d firsts.Flush = do
  w ← word_by [] (λ t. flush_of d.begun t.bytes)
  flush_behind line d w
statement_behind line d firsts.At = do
  n ← word_is (reasons.Moment ∷ []) (IsMoment d.moment)
  done (at_moment d n)
statement_behind line d firsts.Commit = done (commit d)
statement_behind line d firsts.Abort = done (abort d)
statement_behind line d firsts.Round = done (round d)

abbrev pub first_word : Form (ℕ × FirstWord)
first_word = word_by [] (λ t. option_map (λ w. (t.line, w)) (first_of t.bytes))

-- one statement
abbrev pub statement : Draft → Form Draft
statement d = do
  w ← first_word
  d1 ← statement_behind w.0 d w.1
  done (begun d1)

-- statements with separators between them, and any number of separators before the first and after the last
abbrev pub statements : Form (Draft × Bool)
statements = many (line separates statement) (empty, true)

-- all before the end of the text
abbrev pub body : Form Script
body = do
  d ← statements
  done (finished_script d.0)

-- a script, and then the end of the text
abbrev pub script : Form Script
script = do
  s ← body
  the_end
  done s
