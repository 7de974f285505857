-- Reading a script gives what the table of its forms says.
use Rattle.std.proofs.Common.{◌≡◌, refl, ap, ℕ, ◌<◌, List, [], ◌∷◌, ◌++◌, length, Bool, true, false, ◌||◌, Option, Some, None, codes, slice_get, Result, OnOk, ◌⊎◌, inl, inr}
use Rattle.set_model.specs.declared.kind.Kind.{Kind}
use Rattle.set_model.specs.declared.kind.Interval.{Interval}
use Rattle.set_model.specs.declared.script.Family.{Family}
use Rattle.set_model.specs.declared.script.Family.TheVariants as families
use Rattle.set_model.specs.declared.script.SetDecl.{SetDecl}
use Rattle.set_model.specs.declared.script.Step.{Step}
use Rattle.token_forms.specs.declared.token.Reason.TheVariants as reasons
use Rattle.token_forms.specs.declared.error.ReadError.{ReadError}
use Rattle.token_forms.specs.Token.{Lexeme}
use Rattle.token_forms.specs.Form.{Form, done, many as many_form, ◌>>◌ as ◌>>f◌, ◌>>=◌ as ◌>>=f◌}
use Rattle.token_forms.specs.Reading.{Outcome, done_read, ◌>>◌ as ◌>>r◌, ◌>>=◌ as ◌>>=r◌}
use Rattle.token_forms.specs.Words as words
use Rattle.token_forms.specs.Words.{any_word, breaks_off, separates, is_the_mark}
use Rattle.token_forms.specs.WordReading as wreading
use Rattle.token_forms.specs.Gives.{Gives}
use Rattle.token_forms.proofs.FormLaws.{Reads, Begins, Heads, Filled, never, weaken, bind_definite, bind_apart, bind_begins, bind_heads, bind_filled, done_reads, nowhere_reads, nowhere_begins, either_test, or_left, or_right}
use Rattle.token_forms.proofs.EitherLaw.{either_reads, either_begins, widen}
use Rattle.token_forms.proofs.ManyLaw.{AreItems, many_reads, many_heads}
use Rattle.token_forms.proofs.WordLaws.{word_by_reads, word_by_begins, word_is_reads, word_is_begins, lined_word_is_reads, lined_word_is_begins, word_reads, word_begins, name_reads, mark_reads, mark_begins, breaks_reads, separators_reads, separates_no_end, bind_done_same, AreStatements, are_lines, lines_reads, lines_heads, either_true, text_reads, text_begins, passed_reads, passed_begins, breaks_no_end}
use Rattle.token_forms.proofs.KindLaws.{word_no_break, word_no_separator, mark_no_break, mark_no_word, closing_no_comma, closing_no_separator, neither, word_or_closing_no_break, separator_or_closing_no_word, text_no_break, separator_no_comma}
use Rattle.token_forms.proofs.ShorterLaws.{gives_shorter}
use Rattle.set_script.specs.declared.draft.Draft.{Draft}
use Rattle.set_script.specs.declared.draft.Declaration.{Declaration}
use Rattle.set_model.specs.declared.script.Verb.{Verb}
use Rattle.set_model.specs.declared.script.Verb.TheVariants as verbs
use Rattle.addr_text.specs.Times.{IsTime}
use Rattle.set_script.specs.declared.draft.Target.{Target}
use Rattle.set_script.specs.declared.draft.Options.{Options}
use Rattle.set_script.specs.declared.words.OptionWord.{OptionWord}
use Rattle.set_script.specs.declared.words.OptionWord.TheVariants as options
use Rattle.set_script.specs.declared.words.TypeWord.{TypeWord}
use Rattle.set_script.specs.declared.words.TypeWord.TheVariants as types
use Rattle.set_script.specs.declared.expression.Expression.{Expression}
use Rattle.set_script.specs.declared.expression.Expression.TheVariants as parts
use Rattle.set_script.specs.declared.words.FirstWord.{FirstWord}
use Rattle.set_script.specs.declared.words.FirstWord.TheVariants as firsts
use Rattle.set_script.specs.declared.words.AddWord.{AddWord}
use Rattle.set_script.specs.declared.words.AddWord.TheVariants as adds
use Rattle.set_script.specs.declared.words.FlushWord.{FlushWord}
use Rattle.set_script.specs.declared.words.FlushWord.TheVariants as flushes
use Rattle.set_script.specs.declared.words.ItemWord.{ItemWord}
use Rattle.set_script.specs.declared.words.ItemWord.TheVariants as items
use Rattle.set_script.specs.Values.{IsPart, IsLife}
use Rattle.set_script.specs.Expressions.{kind_of_whole}
use Rattle.set_script.specs.Names.{family_of}
use Rattle.set_script.specs.Changes.{empty, no_options, declaration, declared, finished_script}
use Rattle.set_script.specs.Script as form
use Rattle.set_script.specs.ScriptReading as reading
use Rattle.set_script.specs.ScriptReading.{starts_element, starts_kind, starts_option, starts_flag}
use Rattle.set_script.proofs.ValueDecides.{part_decides, time_decides, life_decides, moment_decides, size_decides}

-- places
table_behind_reads : (w : List ℕ) (f : Option Family) → Reads (form.table_behind w f) never (reading.table_behind w f)
unfolding reading.table_behind
table_behind_reads w None = done_reads (families.Ip, w)
table_behind_reads w (Some family) = bind_definite name_reads (λ table. done_reads _)

pub table_place_reads : Reads form.table_place never reading.table_place
unfolding reading.table_place
table_place_reads = bind_definite name_reads (λ w. table_behind_reads w (family_of w))

pub table_place_begins : Begins form.table_place any_word
table_place_begins = bind_begins name_reads (word_by_begins [] words.name_value)

pub used_set_reads : (schema : List SetDecl) (p : Family × List ℕ) → Reads (form.used_set schema p) never (reading.used_set schema p)
used_set_reads schema p = word_by_reads (reasons.Set ∷ []) _

new_set_reads : (d : Draft) (p : Family × List ℕ) → Reads (form.new_set d p) never (reading.new_set d p)
new_set_reads d p = word_by_reads (reasons.Set ∷ []) _

-- elements
part_reads : (wide : Bool) (kind : Kind) → Reads (form.part wide kind) never (reading.part wide kind)
part_reads wide kind = word_is_reads (reasons.Value ∷ []) (part_decides wide kind)

part_begins : (wide : Bool) (kind : Kind) → Begins (form.part wide kind) any_word
part_begins wide kind = word_is_begins (reasons.Value ∷ []) (IsPart wide kind)

first_part_reads : (wide : Bool) (kind : Kind) → Reads (form.first_part wide kind) never (reading.first_part wide kind)
first_part_reads wide kind = lined_word_is_reads (reasons.Value ∷ []) (part_decides wide kind)

first_part_begins : (wide : Bool) (kind : Kind) → Begins (form.first_part wide kind) any_word
first_part_begins wide kind = lined_word_is_begins (reasons.Value ∷ []) (IsPart wide kind)

more_parts_reads : (wide : Bool) (ks : List Kind) (parts : List Interval) → Reads (form.more_parts wide ks parts) never (reading.more_parts wide ks parts)
unfolding reading.more_parts
more_parts_reads wide [] parts = done_reads parts
more_parts_reads wide (kind ∷ ks) parts =
    bind_apart breaks_reads (λ _.
    bind_definite (word_reads (codes ".")) (λ _.
    bind_apart breaks_reads (λ _.
    bind_definite (part_reads wide kind) (λ p.
    more_parts_reads wide ks (parts ++ p ∷ []))) (λ _. bind_begins (part_reads wide kind) (part_begins wide kind)) (λ _. word_no_break)))
    (λ _. bind_begins (word_reads (codes ".")) (word_begins (codes "."))) (λ _. word_no_break)

all_parts_reads : (wide : Bool) (ks : List Kind) → Reads (form.all_parts wide ks) never (reading.all_parts wide ks)
unfolding reading.all_parts
all_parts_reads wide [] = nowhere_reads
all_parts_reads wide (kind ∷ ks) = bind_definite (first_part_reads wide kind) (λ p. bind_definite (more_parts_reads wide ks (p.1 ∷ [])) (λ parts. done_reads _))

all_parts_begins : (wide : Bool) (ks : List Kind) → Begins (form.all_parts wide ks) any_word
all_parts_begins wide [] = nowhere_begins any_word
all_parts_begins wide (kind ∷ ks) = bind_begins (first_part_reads wide kind) (first_part_begins wide kind)

-- options
time_reads : Reads form.time never reading.time
time_reads = word_is_reads (reasons.Time ∷ []) time_decides

life_reads : Reads (words.word_is (reasons.Time ∷ []) IsLife) never reading.life_word
life_reads = word_is_reads (reasons.Time ∷ []) life_decides

option_behind_reads : (o : Options) (w : OptionWord) → Reads (form.option_behind o w) never (reading.option_behind o w)
unfolding reading.option_behind
option_behind_reads o options.Timeout =
    bind_apart breaks_reads (λ _. bind_definite life_reads (λ t. done_reads _)) (λ _. bind_begins life_reads (word_is_begins (reasons.Time ∷ []) IsLife)) (λ _. word_no_break)
option_behind_reads o options.Expires =
    bind_apart breaks_reads (λ _. bind_definite time_reads (λ t. done_reads _)) (λ _. bind_begins time_reads (word_is_begins (reasons.Time ∷ []) IsTime)) (λ _. word_no_break)
option_behind_reads o options.Comment =
    bind_apart breaks_reads (λ _. bind_definite text_reads (λ c. done_reads _)) (λ _. bind_begins text_reads text_begins) (λ _. text_no_break)

option_reads : (timed : Bool) (o : Options) → Reads (form.option timed o) never (reading.option timed o)
unfolding reading.option
option_reads timed o = bind_definite (word_by_reads [] _) (λ w. option_behind_reads o w)

option_begins : (timed : Bool) (o : Options) → Begins (form.option timed o) any_word
option_begins timed o = bind_begins (word_by_reads [] _) (word_by_begins [] _)

skip_one_reads : (o : Options) → Reads (words.passed breaks_off >>f done o) never (wreading.passed breaks_off >>r done_read o)
skip_one_reads o = bind_definite (passed_reads breaks_off breaks_no_end) (λ _. done_reads o)

skip_one_begins : (o : Options) → Begins (words.passed breaks_off >>f done o) breaks_off
skip_one_begins o = bind_begins (passed_reads breaks_off breaks_no_end) (passed_begins breaks_off)

option_or_break_reads : (timed : Bool) (o : Options) → Reads (form.option_or_break timed o) never (reading.option_or_break timed o)
unfolding reading.option_or_break
option_or_break_reads timed o = either_reads (skip_one_reads o) (option_reads timed o) (skip_one_begins o) (option_begins timed o) word_no_break

-- breaks and words may follow an element
abbrev behind_element : Lexeme → Bool
behind_element t = breaks_off t || any_word t

option_or_break_begins : (timed : Bool) (o : Options) → Begins (form.option_or_break timed o) (starts_option o)
option_or_break_begins timed o =
    either_begins (widen (λ t h. or_left (breaks_off t) (any_word t) h) (skip_one_begins o)) (widen (λ t h. or_right (breaks_off t) (any_word t) h) (option_begins timed o))

are_options : (timed : Bool) → AreItems starts_option (λ _. never) behind_element (form.option_or_break timed) (reading.option_or_break timed)
are_options timed = record {
  laws = option_or_break_reads timed;
  begins = option_or_break_begins timed;
  apart = λ o o1 x t w h. refl;
  starts_more = λ o t h. h;
  goes_more = λ o o1 t h. absurd (cc h);
}

options_reads : (timed : Bool) → Reads (many_form (form.option_or_break timed) no_options) (λ _. behind_element) (reading.all_options timed)
options_reads timed = many_reads starts_option (λ _. never) behind_element (form.option_or_break timed) (reading.option_or_break timed) (are_options timed) no_options

element_reads : (target : Target) (s : SetDecl) (before : List Step) → Reads (form.element target s before) (λ _. behind_element) (reading.element target s before)
unfolding reading.element
element_reads target s before = bind_definite (all_parts_reads s.interval s.kinds) (λ p. bind_done_same _ (options_reads s.timed))

element_begins : (target : Target) (s : SetDecl) (before : List Step) → Begins (form.element target s before) any_word
element_begins target s before = bind_begins (all_parts_reads s.interval s.kinds) (all_parts_begins s.interval s.kinds)

comma_no_option : (t : Lexeme) → is_the_mark 44 t ≡ true → behind_element t ≡ false
comma_no_option t h = neither (breaks_off t) (any_word t) (mark_no_break 44 t h) (mark_no_word 44 t h)

-- lists
abbrev list_goes : List Step × Bool → List Step × Bool → Lexeme → Bool
list_goes (before, true) behind t = behind_element t
list_goes (before, false) behind t = breaks_off t

abbrev list_more : Lexeme → Bool
list_more t = breaks_off t || (any_word t || is_the_mark 44 t)

list_item_laws : (target : Target) (s : SetDecl) (before : List Step) (b : Bool) → Reads (form.list_item target s (before, b)) (list_goes (before, b)) (reading.list_item target s (before, b))
unfolding reading.list_item
list_item_laws target s before true = bind_done_same _ (element_reads target s before)
list_item_laws target s before false = bind_definite (mark_reads 44) (λ _. bind_done_same _ breaks_reads)

list_item_begins : (target : Target) (s : SetDecl) (before : List Step) (b : Bool) → Begins (form.list_item target s (before, b)) (starts_element (before, b))
list_item_begins target s before true = bind_begins (element_reads target s before) (element_begins target s before)
list_item_begins target s before false = bind_begins (mark_reads 44) (mark_begins 44)

-- a comma follows an element, and an element follows a comma
list_apart : (target : Target) (s : SetDecl) (before : List Step) (b : Bool) (behind : List Step × Bool) (x : List Lexeme) (t : Lexeme)
    → (form.list_item target s (before, b)).whole x behind → starts_element behind t ≡ true → list_goes (before, b) behind t ≡ false
list_apart target s before true (behind, c) x t w h = go c (ap (λ (z : List Step × Bool). z.1) w.5.1) h where
  go : (c : Bool) → false ≡ c → starts_element (behind, c) t ≡ true → behind_element t ≡ false
  go true e h = absurd (cc e)
  go false e h = comma_no_option t h
list_apart target s before false (behind, c) x t w h = go c (ap (λ (z : List Step × Bool). z.1) w.5.5.1) h where
  go : (c : Bool) → true ≡ c → starts_element (behind, c) t ≡ true → breaks_off t ≡ false
  go true e h = word_no_break t h
  go false e h = absurd (cc e)

starts_in_list : (before : List Step) (b : Bool) (t : Lexeme) → starts_element (before, b) t ≡ true → list_more t ≡ true
starts_in_list before true t h = or_right (breaks_off t) (any_word t || is_the_mark 44 t) (or_left (any_word t) (is_the_mark 44 t) h)
starts_in_list before false t h = or_right (breaks_off t) (any_word t || is_the_mark 44 t) (or_right (any_word t) (is_the_mark 44 t) h)

goes_in_list : (before : List Step) (b : Bool) (behind : List Step × Bool) (t : Lexeme) → list_goes (before, b) behind t ≡ true → list_more t ≡ true
goes_in_list before true behind t h = go (either_true (breaks_off t) (any_word t) h) where
  go : (breaks_off t ≡ true) ⊎ (any_word t ≡ true) → list_more t ≡ true
  go (inl k) = or_left (breaks_off t) (any_word t || is_the_mark 44 t) k
  go (inr k) = or_right (breaks_off t) (any_word t || is_the_mark 44 t) (or_left (any_word t) (is_the_mark 44 t) k)
goes_in_list before false behind t h = or_left (breaks_off t) (any_word t || is_the_mark 44 t) h

are_elements : (target : Target) (s : SetDecl) → AreItems starts_element list_goes list_more (form.list_item target s) (reading.list_item target s)
are_elements target s = record {
  laws = λ r. list_item_laws target s r.0 r.1;
  begins = λ r. list_item_begins target s r.0 r.1;
  apart = λ r r1 x t w h. list_apart target s r.0 r.1 r1 x t w h;
  starts_more = λ r t h. starts_in_list r.0 r.1 t h;
  goes_more = λ r r1 t h. goes_in_list r.0 r.1 r1 t h;
}

elements_reads : (target : Target) (s : SetDecl) (r : List Step × Bool) → Reads (many_form (form.list_item target s) r) (λ _. list_more) (reading.list_items target s r)
elements_reads target s r = many_reads starts_element list_goes list_more (form.list_item target s) (reading.list_item target s) (are_elements target s) r

closing_no_list : (t : Lexeme) → is_the_mark 125 t ≡ true → list_more t ≡ false
closing_no_list t h = neither (breaks_off t) (any_word t || is_the_mark 44 t) (mark_no_break 125 t h) (neither (any_word t) (is_the_mark 44 t) (mark_no_word 125 t h) (closing_no_comma t h))

-- `}` and then a value
abbrev closed : {A : Type 0} → A → Form A
closed a = words.mark 125 >>f done a

closed_reads : {A : Type 0} (a : A) → Reads (closed a) never (wreading.mark 125 >>r done_read a)
closed_reads a = bind_definite (mark_reads 125) (λ _. done_reads a)

closed_begins : {A : Type 0} (a : A) → Begins (closed a) (is_the_mark 125)
closed_begins a = bind_begins (mark_reads 125) (mark_begins 125)

-- the elements and the closing brace
abbrev list_end : Target → SetDecl → List Step → Form (List Step)
list_end target s before = many_form (form.list_item target s) (before, true) >>=f λ r. closed r.0

list_end_reads : (target : Target) (s : SetDecl) (before : List Step) → Reads (list_end target s before) never (reading.list_items target s (before, true) >>=r λ r. wreading.mark 125 >>r done_read r.0)
list_end_reads target s before = bind_apart (elements_reads target s (before, true)) (λ r. closed_reads r.0) (λ r. closed_begins r.0) (λ _. closing_no_list)

list_end_begins : (target : Target) (s : SetDecl) (before : List Step) → Begins (list_end target s before) (either_test any_word (is_the_mark 125))
list_end_begins target s before = record { starts = heads; filled = λ a w. full.empty a w } where
  heads : Heads (list_end target s before) (either_test any_word (is_the_mark 125))
  heads = bind_heads (elements_reads target s (before, true))
      (many_heads starts_element list_goes list_more (form.list_item target s) (reading.list_item target s) (are_elements target s) (before, true)) (λ r. (closed_begins r.0).starts)

  full : Filled (list_end target s before)
  full = bind_filled (λ r. record { empty = λ a w. (closed_begins r.0).filled a w })

list_reads : (target : Target) (s : SetDecl) (before : List Step) → Reads (form.list target s before) never (reading.list target s before)
unfolding reading.list
list_reads target s before =
    bind_definite (mark_reads 123) (λ _.
    bind_apart breaks_reads (λ _. list_end_reads target s before) (λ _. list_end_begins target s before) (λ _. word_or_closing_no_break))

-- kinds
kind_word_reads : (ks : List Kind) → Reads (form.kind_word ks) never (reading.kind_word ks)
kind_word_reads ks = word_by_reads (reasons.TypeWord ∷ []) _

expression_word_reads : (ks : List Kind) (part : Expression) → Reads (form.expression_word ks part) never (reading.expression_word ks part)
expression_word_reads ks part = word_by_reads (reasons.TypeWord ∷ []) _

rest_word_reads : (ks : List Kind) (part : Expression) (kind : Option Kind) → Reads (form.rest_word ks part kind) never (reading.rest_word ks part kind)
unfolding reading.rest_word
rest_word_reads ks part None = expression_word_reads ks part
rest_word_reads ks part (Some kind) = done_reads part

whole_kind_reads : (kind : Option Kind) → Reads (form.whole_kind kind) never (reading.whole_kind kind)
unfolding reading.whole_kind
whole_kind_reads None = nowhere_reads
whole_kind_reads (Some kind) = done_reads kind

expression_reads : (ks : List Kind) → Reads (form.expression ks) never (reading.expression ks)
unfolding reading.expression
expression_reads ks =
    bind_definite (expression_word_reads ks parts.Empty) (λ first.
    bind_definite (rest_word_reads ks first (kind_of_whole first)) (λ second.
    bind_definite (rest_word_reads ks second (kind_of_whole second)) (λ third.
    bind_definite (rest_word_reads ks third (kind_of_whole third)) (λ fourth.
    whole_kind_reads (kind_of_whole fourth)))))

kind_by_reads : (w : TypeWord) (ks : List Kind) → Reads (form.kind_by w ks) never (reading.kind_by w ks)
unfolding reading.kind_by
kind_by_reads types.Names ks = kind_word_reads ks
kind_by_reads types.Expressions ks = expression_reads ks

more_kinds_reads : (w : TypeWord) (ks : List Kind) → Reads (form.more_kinds w ks) never (reading.more_kinds w ks)
unfolding reading.more_kinds
more_kinds_reads w ks = bind_definite (word_reads (codes ".")) (λ _. bind_definite (kind_by_reads w ks) (λ k. done_reads _))

are_kinds : (w : TypeWord) → AreItems starts_kind (λ _. never) any_word (form.more_kinds w) (reading.more_kinds w)
are_kinds w = record {
  laws = more_kinds_reads w;
  begins = λ ks. bind_begins (word_reads (codes ".")) (word_begins (codes "."));
  apart = λ s s1 x t w h. refl;
  starts_more = λ s t h. h;
  goes_more = λ s s1 t h. absurd (cc h);
}

type_item_reads : Reads form.type_item (λ _. any_word) reading.type_item
unfolding reading.type_item
type_item_reads =
    bind_definite (word_by_reads [] _) (λ w.
    bind_definite (kind_by_reads w []) (λ k.
    many_reads starts_kind (λ _. never) any_word (form.more_kinds w) (reading.more_kinds w) (are_kinds w) (k ∷ [])))

-- items
flag_reads : (b : Declaration) → Reads (form.flag b) never (reading.flag b)
unfolding reading.flag
flag_reads b = bind_definite (word_by_reads [] _) (λ f. done_reads _)

more_flags_reads : (b : Declaration) → Reads (form.more_flags b) never (reading.more_flags b)
unfolding reading.more_flags
more_flags_reads b = bind_definite (mark_reads 44) (λ _. flag_reads b)

are_flags : AreItems starts_flag (λ _. never) (is_the_mark 44) form.more_flags reading.more_flags
are_flags = record {
  laws = more_flags_reads;
  begins = λ b. bind_begins (mark_reads 44) (mark_begins 44);
  apart = λ b b1 x t w h. refl;
  starts_more = λ b t h. h;
  goes_more = λ b b1 t h. absurd (cc h);
}

comma : {A : Type 0} {f : Form A} {r : List Lexeme → Outcome A} → Reads f never r → Reads f (λ _. is_the_mark 44) r
comma law = weaken (λ _. is_the_mark 44) (λ a t h. absurd (cc h)) law

item_behind_reads : (b : Declaration) (steps : List Step) (w : ItemWord) → Reads (form.item_behind (b, steps) w) (λ _. is_the_mark 44) (reading.item_behind (b, steps) w)
unfolding reading.item_behind
item_behind_reads b steps items.Flags =
    bind_definite (flag_reads b) (λ b1. bind_done_same _ (many_reads starts_flag (λ _. never) (is_the_mark 44) form.more_flags reading.more_flags are_flags b1))
item_behind_reads b steps items.Timeout = comma (bind_definite time_reads (λ t. done_reads _))
item_behind_reads b steps items.Size = comma (bind_definite (word_is_reads (reasons.Number ∷ []) size_decides) (λ n. done_reads _))
item_behind_reads b steps items.GcInterval = comma (bind_definite time_reads (λ _. done_reads _))
item_behind_reads b steps items.Policy = comma (bind_definite (word_by_reads [] _) (λ _. done_reads _))
item_behind_reads b steps items.Comment = comma (bind_definite text_reads (λ _. done_reads _))
item_behind_reads b steps items.Elements = comma (bind_definite (mark_reads 61) (λ _. bind_definite (list_reads b.target b.decl steps) (λ behind. done_reads _)))

item_reads : (b : Declaration) (steps : List Step) → Reads (form.item (b, steps)) (λ _. is_the_mark 44) (reading.item (b, steps))
unfolding reading.item
item_reads b steps = bind_definite (word_by_reads [] _) (λ w. item_behind_reads b steps w)

-- a word begins an item, and a comma may go on with it
abbrev item_more : Lexeme → Bool
item_more t = any_word t || is_the_mark 44 t

abbrev item_goes : Declaration × List Step → Declaration × List Step → Lexeme → Bool
item_goes s s1 t = is_the_mark 44 t

are_items : AreStatements separates any_word item_more item_goes form.item reading.item
are_items = record {
  no_end = separates_no_end;
  laws = λ s. item_reads s.0 s.1;
  begins = λ s. bind_begins (word_by_reads [] _) (word_by_begins [] _);
  apart = word_no_separator;
  ends = λ s s1 t h. separator_no_comma t h;
  starts_more = λ t h. or_left (any_word t) (is_the_mark 44 t) h;
  goes_more = λ s s1 t h. or_right (any_word t) (is_the_mark 44 t) h;
}

abbrev items_more : Lexeme → Bool
items_more = either_test separates item_more

closing_no_items : (t : Lexeme) → is_the_mark 125 t ≡ true → items_more t ≡ false
closing_no_items t h = neither (separates t) (item_more t) (closing_no_separator t h) (neither (any_word t) (is_the_mark 44 t) (mark_no_word 125 t h) (closing_no_comma t h))

abbrev lines_more : Lexeme → Bool
lines_more = either_test separates any_word

closing_no_lines : (t : Lexeme) → is_the_mark 125 t ≡ true → lines_more t ≡ false
closing_no_lines t h = neither (separates t) (any_word t) (closing_no_separator t h) (mark_no_word 125 t h)

-- the items after the kinds, and the closing brace
abbrev items_end : Draft → Declaration × List Step → Form Draft
items_end d s = words.lines separates form.item (s, false) >>=f λ s1. closed (declared s1.0 s1.1 d)

items_end_reads : (d : Draft) (s : Declaration × List Step) → Reads (items_end d s) never (reading.all_items s >>=r λ s1. wreading.mark 125 >>r done_read (declared s1.0 s1.1 d))
items_end_reads d s = bind_apart (lines_reads separates any_word item_more item_goes form.item reading.item are_items (s, false)) (λ s1. closed_reads (declared s1.0 s1.1 d)) (λ s1. closed_begins (declared s1.0 s1.1 d)) (λ _. closing_no_items)

items_end_begins : (d : Draft) (s : Declaration × List Step) → Begins (items_end d s) (either_test separates (is_the_mark 125))
items_end_begins d s = record { starts = heads; filled = λ a w. full.empty a w } where
  heads : Heads (items_end d s) (either_test separates (is_the_mark 125))
  heads = bind_heads (lines_reads separates any_word item_more item_goes form.item reading.item are_items (s, false))
      (lines_heads separates any_word item_more item_goes form.item reading.item are_items (s, false)) (λ s1. (closed_begins (declared s1.0 s1.1 d)).starts)

  full : Filled (items_end d s)
  full = bind_filled (λ s1. record { empty = λ a w. (closed_begins (declared s1.0 s1.1 d)).filled a w })

set_body_reads : (d : Draft) (p : Family × List ℕ) (n : List ℕ) → Reads (form.set_body d p n) never (reading.set_body d p n)
unfolding reading.set_body
set_body_reads d p n =
    bind_definite (mark_reads 123) (λ _.
    bind_apart separators_reads (λ _.
    bind_apart type_item_reads (λ ks. items_end_reads d (declaration d p.0 p.1 n ks, d.steps)) (λ ks. items_end_begins d (declaration d p.0 p.1 n ks, d.steps)) (λ _. separator_or_closing_no_word))
    (λ _. bind_begins type_item_reads (bind_begins (word_by_reads [] _) (word_by_begins [] _))) (λ _. word_no_separator))

set_block_reads : (p : Family × List ℕ) (d : Draft) → Reads (form.set_block p d) never (reading.set_block p d)
unfolding reading.set_block
set_block_reads p d = bind_definite (word_reads (codes "set")) (λ _. bind_definite (new_set_reads d p) (λ n. set_body_reads d p n))

are_blocks : (p : Family × List ℕ) → AreStatements separates any_word any_word (λ _. never) (form.set_block p) (reading.set_block p)
are_blocks p = record {
  no_end = separates_no_end;
  laws = set_block_reads p;
  begins = λ d. bind_begins (word_reads (codes "set")) (word_begins (codes "set"));
  apart = word_no_separator;
  ends = λ s s1 t h. refl;
  starts_more = λ t h. h;
  goes_more = λ s s1 t h. absurd (cc h);
}

-- statements
list_of_reads : (target : Target) (s : Option SetDecl) (before : List Step) → Reads (form.list_of target s before) never (reading.list_of target s before)
unfolding reading.list_of
list_of_reads target None before = nowhere_reads
list_of_reads target (Some s) before = list_reads target s before

changes_reads : (d : Draft) (verb : Verb) → Reads (form.changes d verb) never (reading.changes d verb)
unfolding reading.changes
changes_reads d verb =
    bind_definite table_place_reads (λ p.
    bind_definite (used_set_reads d.schema p) (λ i.
    bind_definite (list_of_reads (record { set = i; verb = verb; now = d.moment }) (slice_get d.schema i) d.steps) (λ behind. done_reads _)))

add_behind_reads : (d : Draft) (w : AddWord) → Reads (form.add_behind d w) never (reading.add_behind d w)
unfolding reading.add_behind
add_behind_reads d adds.Table = bind_definite table_place_reads (λ _. done_reads d)
add_behind_reads d adds.Set = bind_definite table_place_reads (λ p. bind_definite (new_set_reads d p) (λ n. set_body_reads d p n))
add_behind_reads d adds.Element = changes_reads d verbs.Add

element_changes_reads : (d : Draft) (verb : Verb) → Reads (form.element_changes d verb) never (reading.element_changes d verb)
unfolding reading.element_changes
element_changes_reads d verb = bind_definite (word_reads (codes "element")) (λ _. changes_reads d verb)

flush_behind_reads : (line : ℕ) (d : Draft) (w : FlushWord) → Reads (form.flush_behind line d w) never (reading.flush_behind line d w)
unfolding reading.flush_behind
flush_behind_reads line d flushes.Set = bind_definite table_place_reads (λ p. bind_definite (used_set_reads d.schema p) (λ i. done_reads _))
flush_behind_reads line d flushes.Ruleset = done_reads d

table_block_reads : (d : Draft) → Reads (form.table_block d) never (reading.table_block d)
unfolding reading.table_block
table_block_reads d =
    bind_definite table_place_reads (λ p.
    bind_definite (mark_reads 123) (λ _.
    bind_apart (lines_reads separates any_word any_word (λ _. never) (form.set_block p) (reading.set_block p) (are_blocks p) (d, true)) (λ d1. closed_reads d1) (λ d1. closed_begins d1) (λ _. closing_no_lines)))

statement_behind_reads : (line : ℕ) (d : Draft) (w : FirstWord) → Reads (form.statement_behind line d w) never (reading.statement_behind line d w)
unfolding reading.statement_behind
statement_behind_reads line d firsts.Add = bind_definite (word_by_reads [] _) (λ w. add_behind_reads d w)
statement_behind_reads line d firsts.Table = table_block_reads d
statement_behind_reads line d firsts.Create = element_changes_reads d verbs.Create
statement_behind_reads line d firsts.Delete = element_changes_reads d verbs.Delete
statement_behind_reads line d firsts.Destroy = element_changes_reads d verbs.Destroy
statement_behind_reads line d firsts.Flush = bind_definite (word_by_reads [] _) (λ w. flush_behind_reads line d w)
statement_behind_reads line d firsts.At = bind_definite (word_is_reads (reasons.Moment ∷ []) (moment_decides d.moment)) (λ n. done_reads _)
statement_behind_reads line d firsts.Commit = done_reads _
statement_behind_reads line d firsts.Abort = done_reads _
statement_behind_reads line d firsts.Round = done_reads _

first_word_reads : Reads form.first_word never reading.first_word
first_word_reads = word_by_reads [] _

statement_reads : (d : Draft) → Reads (form.statement d) never (reading.statement d)
unfolding reading.statement
statement_reads d = bind_definite first_word_reads (λ w. bind_definite (statement_behind_reads w.0 d w.1) (λ d1. done_reads _))

are_statements : AreStatements separates any_word any_word (λ _. never) form.statement reading.statement
are_statements = record {
  no_end = separates_no_end;
  laws = statement_reads;
  begins = λ d. bind_begins first_word_reads (word_by_begins [] _);
  apart = word_no_separator;
  ends = λ d d1 t h. refl;
  starts_more = λ t h. h;
  goes_more = λ d d1 t h. absurd (cc h);
}

statements_reads : Reads form.statements (λ _. lines_more) reading.statements
statements_reads = many_reads _ _ _ _ _ (are_lines separates any_word any_word (λ _. never) form.statement reading.statement are_statements) (empty, true)

pub body_reads : Reads form.body (λ _. either_test separates any_word) reading.body
unfolding reading.body
body_reads = bind_done_same (λ d. finished_script d.0) statements_reads

-- what takes a token at least
pub list_item_shorter : {X : Type 0} (target : Target) (s : SetDecl) (r : List Step × Bool) (view : X → List Step × Bool) (result : Result X ReadError) (old new : List Lexeme)
    → Gives view result new (reading.list_item target s r old) → OnOk result (length new < length old)
list_item_shorter target s r view result old new g = gives_shorter (list_item_laws target s r.0 r.1) (list_item_begins target s r.0 r.1) view result old new g

pub more_kinds_shorter : {X : Type 0} (w : TypeWord) (ks : List Kind) (view : X → List Kind) (result : Result X ReadError) (old new : List Lexeme) → Gives view result new (reading.more_kinds w ks old) → OnOk result (length new < length old)
more_kinds_shorter w ks view result old new g = gives_shorter (more_kinds_reads w ks) ((are_kinds w).begins ks) view result old new g

pub item_line_shorter : {X : Type 0} (s : (Declaration × List Step) × Bool) (view : X → (Declaration × List Step) × Bool) (result : Result X ReadError) (old new : List Lexeme)
    → Gives view result new (reading.item_line s old) → OnOk result (length new < length old)
item_line_shorter s view result old new g =
    let lines = are_lines separates any_word item_more item_goes form.item reading.item are_items in
    gives_shorter (lines.laws s) (lines.begins s) view result old new g

pub block_line_shorter : {X : Type 0} (p : Family × List ℕ) (s : Draft × Bool) (view : X → Draft × Bool) (result : Result X ReadError) (old new : List Lexeme)
    → Gives view result new (reading.block_line p s old) → OnOk result (length new < length old)
block_line_shorter p s view result old new g =
    let lines = are_lines separates any_word any_word (λ _. never) (form.set_block p) (reading.set_block p) (are_blocks p) in
    gives_shorter (lines.laws s) (lines.begins s) view result old new g

pub statement_line_shorter : {X : Type 0} (s : Draft × Bool) (view : X → Draft × Bool) (result : Result X ReadError) (old new : List Lexeme)
    → Gives view result new (reading.statement_line s old) → OnOk result (length new < length old)
statement_line_shorter s view result old new g =
    let lines = are_lines separates any_word any_word (λ _. never) form.statement reading.statement are_statements in
    gives_shorter (lines.laws s) (lines.begins s) view result old new g

pub option_or_break_shorter : {X : Type 0} (timed : Bool) (o : Options) (view : X → Options) (result : Result X ReadError) (old new : List Lexeme)
    → Gives view result new (reading.option_or_break timed o old) → OnOk result (length new < length old)
option_or_break_shorter timed o view result old new g = gives_shorter (option_or_break_reads timed o) (option_or_break_begins timed o) view result old new g

pub more_flags_shorter : {X : Type 0} (b : Declaration) (view : X → Declaration) (result : Result X ReadError) (old new : List Lexeme)
    → Gives view result new (reading.more_flags b old) → OnOk result (length new < length old)
more_flags_shorter b view result old new g = gives_shorter (more_flags_reads b) (are_flags.begins b) view result old new g
