-- The tokens before any place of a front of a script are a front, form by form.
use Rattle.std.specs.Prelude.{ℕ, List, [], ◌∷◌, Bool, true, false, Option, Some, None, slice_get}
use Rattle.set_model.specs.declared.kind.Kind.{Kind}
use Rattle.set_model.specs.declared.kind.Interval.{Interval}
use Rattle.set_model.specs.declared.script.Family.{Family}
use Rattle.set_model.specs.declared.script.SetDecl.{SetDecl}
use Rattle.set_model.specs.declared.script.Step.{Step}
use Rattle.set_model.specs.declared.script.Verb.{Verb}
use Rattle.set_model.specs.declared.script.Verb.TheVariants as verbs
use Rattle.token_forms.specs.declared.token.Reason.TheVariants as reasons
use Rattle.token_forms.specs.Words as words
use Rattle.token_forms.specs.Words.{breaks_off, separates}
use Rattle.token_forms.proofs.FrontLaws.{Closed, one_closed, done_closed, nowhere_closed, either_closed, bind_closed, many_closed, skip_closed, lines_closed, line_closed}
use Rattle.set_script.specs.declared.draft.Draft.{Draft}
use Rattle.set_script.specs.declared.draft.Declaration.{Declaration}
use Rattle.set_script.specs.declared.draft.Target.{Target}
use Rattle.set_script.specs.declared.draft.Options.{Options}
use Rattle.set_script.specs.declared.words.TypeWord.{TypeWord}
use Rattle.set_script.specs.declared.words.TypeWord.TheVariants as types
use Rattle.set_script.specs.declared.expression.Expression.{Expression}
use Rattle.set_script.specs.declared.words.FirstWord.{FirstWord}
use Rattle.set_script.specs.declared.words.FirstWord.TheVariants as firsts
use Rattle.set_script.specs.declared.words.AddWord.{AddWord}
use Rattle.set_script.specs.declared.words.AddWord.TheVariants as adds
use Rattle.set_script.specs.declared.words.FlushWord.{FlushWord}
use Rattle.set_script.specs.declared.words.FlushWord.TheVariants as flushes
use Rattle.set_script.specs.declared.words.ItemWord.{ItemWord}
use Rattle.set_script.specs.declared.words.ItemWord.TheVariants as items
use Rattle.set_script.specs.declared.words.OptionWord.{OptionWord}
use Rattle.set_script.specs.declared.words.OptionWord.TheVariants as options
use Rattle.set_script.specs.Expressions.{kind_of_whole}
use Rattle.set_script.specs.Script as form

-- places
breaks_closed : Closed words.breaks
breaks_closed = skip_closed breaks_off

table_behind_closed : (w : List ℕ) (o : Option Family) → Closed (form.table_behind w o)
table_behind_closed w None = done_closed _
table_behind_closed w (Some family) = bind_closed (one_closed []) (λ _. done_closed _)

table_place_closed : Closed form.table_place
table_place_closed = bind_closed (one_closed []) (λ w. table_behind_closed w _)

-- elements
more_parts_closed : (wide : Bool) (kinds : List Kind) (parts : List Interval) → Closed (form.more_parts wide kinds parts)
more_parts_closed wide [] parts = done_closed _
more_parts_closed wide (kind ∷ kinds) parts =
    bind_closed breaks_closed (λ _. bind_closed (one_closed []) (λ _. bind_closed breaks_closed (λ _. bind_closed (one_closed (reasons.Value ∷ [])) (λ p. more_parts_closed wide kinds _))))

all_parts_closed : (wide : Bool) (kinds : List Kind) → Closed (form.all_parts wide kinds)
all_parts_closed wide [] = nowhere_closed
all_parts_closed wide (kind ∷ kinds) = bind_closed (one_closed (reasons.Value ∷ [])) (λ p. bind_closed (more_parts_closed wide kinds _) (λ _. done_closed _))

option_behind_closed : (o : Options) (w : OptionWord) → Closed (form.option_behind o w)
option_behind_closed o options.Timeout = bind_closed breaks_closed (λ _. bind_closed (one_closed (reasons.Time ∷ [])) (λ _. done_closed _))
option_behind_closed o options.Expires = bind_closed breaks_closed (λ _. bind_closed (one_closed (reasons.Time ∷ [])) (λ _. done_closed _))
option_behind_closed o options.Comment = bind_closed breaks_closed (λ _. bind_closed (one_closed []) (λ _. done_closed _))

option_or_break_closed : (timed : Bool) (o : Options) → Closed (form.option_or_break timed o)
option_or_break_closed timed o = either_closed (bind_closed (one_closed []) (λ _. done_closed _)) (bind_closed (one_closed []) (λ w. option_behind_closed o w))

element_closed : (target : Target) (s : SetDecl) (before : List Step) → Closed (form.element target s before)
element_closed target s before = bind_closed (all_parts_closed s.interval s.kinds) (λ p. bind_closed (many_closed (option_or_break_closed s.timed) _) (λ _. done_closed _))

list_item_closed : (target : Target) (s : SetDecl) (before : List Step) (b : Bool) → Closed (form.list_item target s (before, b))
list_item_closed target s before true = bind_closed (element_closed target s before) (λ _. done_closed _)
list_item_closed target s before false = bind_closed (one_closed []) (λ _. bind_closed breaks_closed (λ _. done_closed _))

list_closed : (target : Target) (s : SetDecl) (before : List Step) → Closed (form.list target s before)
list_closed target s before =
    bind_closed (one_closed []) (λ _. bind_closed breaks_closed (λ _. bind_closed (many_closed (λ r. list_item_closed target s r.0 r.1) _) (λ _. bind_closed (one_closed []) (λ _. done_closed _))))

-- sets
rest_word_closed : (ks : List Kind) (part : Expression) (kind : Option Kind) → Closed (form.rest_word ks part kind)
rest_word_closed ks part None = one_closed (reasons.TypeWord ∷ [])
rest_word_closed ks part (Some kind) = done_closed part

whole_kind_closed : (kind : Option Kind) → Closed (form.whole_kind kind)
whole_kind_closed None = nowhere_closed
whole_kind_closed (Some kind) = done_closed kind

expression_closed : (ks : List Kind) → Closed (form.expression ks)
expression_closed ks =
    bind_closed (one_closed (reasons.TypeWord ∷ [])) (λ first.
    bind_closed (rest_word_closed ks first (kind_of_whole first)) (λ second.
    bind_closed (rest_word_closed ks second (kind_of_whole second)) (λ third.
    bind_closed (rest_word_closed ks third (kind_of_whole third)) (λ fourth.
    whole_kind_closed (kind_of_whole fourth)))))

kind_by_closed : (w : TypeWord) (ks : List Kind) → Closed (form.kind_by w ks)
kind_by_closed types.Names ks = one_closed (reasons.TypeWord ∷ [])
kind_by_closed types.Expressions ks = expression_closed ks

more_kinds_closed : (w : TypeWord) (ks : List Kind) → Closed (form.more_kinds w ks)
more_kinds_closed w ks = bind_closed (one_closed []) (λ _. bind_closed (kind_by_closed w ks) (λ _. done_closed _))

type_item_closed : Closed form.type_item
type_item_closed = bind_closed (one_closed []) (λ w. bind_closed (kind_by_closed w []) (λ k. many_closed (more_kinds_closed w) _))

flag_closed : (b : Declaration) → Closed (form.flag b)
flag_closed b = bind_closed (one_closed []) (λ _. done_closed _)

more_flags_closed : (b : Declaration) → Closed (form.more_flags b)
more_flags_closed b = bind_closed (one_closed []) (λ _. flag_closed b)

item_behind_closed : (b : Declaration) (steps : List Step) (w : ItemWord) → Closed (form.item_behind (b, steps) w)
item_behind_closed b steps items.Flags = bind_closed (flag_closed b) (λ b1. bind_closed (many_closed more_flags_closed b1) (λ _. done_closed _))
item_behind_closed b steps items.Timeout = bind_closed (one_closed (reasons.Time ∷ [])) (λ _. done_closed _)
item_behind_closed b steps items.Size = bind_closed (one_closed (reasons.Number ∷ [])) (λ _. done_closed _)
item_behind_closed b steps items.GcInterval = bind_closed (one_closed (reasons.Time ∷ [])) (λ _. done_closed _)
item_behind_closed b steps items.Policy = bind_closed (one_closed []) (λ _. done_closed _)
item_behind_closed b steps items.Comment = bind_closed (one_closed []) (λ _. done_closed _)
item_behind_closed b steps items.Elements = bind_closed (one_closed []) (λ _. bind_closed (list_closed b.target b.decl steps) (λ _. done_closed _))

item_closed : (s : Declaration × List Step) → Closed (form.item s)
item_closed (b, steps) = bind_closed (one_closed []) (λ w. item_behind_closed b steps w)

set_body_closed : (d : Draft) (p : Family × List ℕ) (n : List ℕ) → Closed (form.set_body d p n)
set_body_closed d p n =
    bind_closed (one_closed []) (λ _.
    bind_closed (skip_closed separates) (λ _.
    bind_closed type_item_closed (λ ks. bind_closed (lines_closed separates item_closed _) (λ s. bind_closed (one_closed []) (λ _. done_closed _)))))

set_block_closed : (p : Family × List ℕ) (d : Draft) → Closed (form.set_block p d)
set_block_closed p d = bind_closed (one_closed []) (λ _. bind_closed (one_closed (reasons.Set ∷ [])) (λ n. set_body_closed d p n))

-- statements
list_of_closed : (target : Target) (s : Option SetDecl) (before : List Step) → Closed (form.list_of target s before)
list_of_closed target None before = nowhere_closed
list_of_closed target (Some s) before = list_closed target s before

changes_closed : (d : Draft) (verb : Verb) → Closed (form.changes d verb)
changes_closed d verb = bind_closed table_place_closed (λ p. bind_closed (one_closed (reasons.Set ∷ [])) (λ i. bind_closed (list_of_closed _ (slice_get d.schema i) d.steps) (λ _. done_closed _)))

add_behind_closed : (d : Draft) (w : AddWord) → Closed (form.add_behind d w)
add_behind_closed d adds.Table = bind_closed table_place_closed (λ _. done_closed _)
add_behind_closed d adds.Set = bind_closed table_place_closed (λ p. bind_closed (one_closed (reasons.Set ∷ [])) (λ n. set_body_closed d p n))
add_behind_closed d adds.Element = changes_closed d verbs.Add

element_changes_closed : (d : Draft) (verb : Verb) → Closed (form.element_changes d verb)
element_changes_closed d verb = bind_closed (one_closed []) (λ _. changes_closed d verb)

flush_behind_closed : (line : ℕ) (d : Draft) (w : FlushWord) → Closed (form.flush_behind line d w)
flush_behind_closed line d flushes.Set = bind_closed table_place_closed (λ p. bind_closed (one_closed (reasons.Set ∷ [])) (λ _. done_closed _))
flush_behind_closed line d flushes.Ruleset = done_closed _

table_block_closed : (d : Draft) → Closed (form.table_block d)
table_block_closed d = bind_closed table_place_closed (λ p. bind_closed (one_closed []) (λ _. bind_closed (lines_closed separates (set_block_closed p) _) (λ _. bind_closed (one_closed []) (λ _. done_closed _))))

statement_behind_closed : (line : ℕ) (d : Draft) (w : FirstWord) → Closed (form.statement_behind line d w)
statement_behind_closed line d firsts.Add = bind_closed (one_closed []) (λ w. add_behind_closed d w)
statement_behind_closed line d firsts.Table = table_block_closed d
statement_behind_closed line d firsts.Create = element_changes_closed d verbs.Create
statement_behind_closed line d firsts.Delete = element_changes_closed d verbs.Delete
statement_behind_closed line d firsts.Destroy = element_changes_closed d verbs.Destroy
statement_behind_closed line d firsts.Flush = bind_closed (one_closed []) (λ w. flush_behind_closed line d w)
statement_behind_closed line d firsts.At = bind_closed (one_closed (reasons.Moment ∷ [])) (λ _. done_closed _)
statement_behind_closed line d firsts.Commit = done_closed _
statement_behind_closed line d firsts.Abort = done_closed _
statement_behind_closed line d firsts.Round = done_closed _

statement_closed : (d : Draft) → Closed (form.statement d)
statement_closed d = bind_closed (one_closed []) (λ w. bind_closed (statement_behind_closed w.0 d w.1) (λ _. done_closed _))

body_closed : Closed form.body
body_closed = bind_closed (many_closed (λ r. line_closed separates statement_closed r.0 r.1) _) (λ _. done_closed _)

pub script_closed : Closed form.script
script_closed = bind_closed body_closed (λ _. bind_closed (one_closed []) (λ _. done_closed _))
