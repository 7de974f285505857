-- How the words of a command are read: word by word by their shape, and then by the ids of their values.
use Rattle.std.specs.Prelude.{◌≡◌, ◌≢◌, ℕ, ◌+◌, Bool, true, false, ◌==◌, ◌&&◌, ◌||◌, not, List, fold, nat_le, nat_lt, if◌then◌else◌, codes, bytes_eq, is_some, Option, Some, None, slice_get, length, ◌≤◌, IfSome, IsTrue, option_map, map}
use Rattle.std.specs.String.{string_bytes}
use Rattle.std.specs.Bool.{then_some}
use Rattle.std.specs.List.{count_by}
use Rattle.clap.specs.Matches.{first_value, one_text}
use Rattle.clap.specs.declared.parser.matches.Found.{Found}
use Rattle.command_words.specs.declared.shape.Verb.{Verb}
use Rattle.command_words.specs.declared.shape.Verb.TheVariants as verbs
use Rattle.command_words.specs.declared.shape.Shape.{Shape}
use Rattle.command_words.specs.declared.words.Arguments.{Arguments}
use Rattle.command_words.specs.declared.words.Task.{Task}
use Rattle.command_words.specs.declared.words.Task.TheVariants as tasks
use Rattle.command_words.specs.declared.words.Command.{Command as Asked}
use Rattle.command_words.specs.declared.words.Command.TheVariants as asked
use Rattle.command_words.specs.declared.page.Page.{Page}
use Rattle.command_words.specs.declared.page.Page.TheVariants as pages
use Rattle.command_words.specs.declared.help.TheConstants.{PROGRAM, RUN, LIST, DUMP, DRILL, JUDGE, CAPTURE, DESK, GET, VERSION, COMPARE, EXPLAIN, STAT, SETS}
use Rattle.command_words.specs.Fronts.{after_front}
use Rattle.command_words.specs.Numbers.{number_within}
use Rattle.command_words.specs.GetWords.{asked, is_file_name, keep_going_word}
use Rattle.command_words.specs.Words.{Command, run, list, dump, drill, judge, judge_capture, capture, desk, get, IsCommand, is_stdin, threads_word, threads_front, last_seed, most_drill_elements, most_threads, compare, explain, stat, sets_of}

-- The most names that a command has. The words of `get` have a reading of their own, and no shape.
abbrev pub most_names : Verb → ℕ
most_names verbs.Run = 2
most_names verbs.List = 1
most_names verbs.Dump = 1
most_names verbs.Stat = 1
most_names verbs.Drill = 2
most_names verbs.Judge = 4
most_names verbs.Capture = 3
most_names verbs.Desk = 1
most_names verbs.Get = 1
most_names verbs.Compare = 2
most_names verbs.Explain = 2
most_names verbs.Sets = 1

-- So many names are all that a command has. A `judge` has a key file, or a plan and a capture.
abbrev pub has_all : Verb → ℕ → Bool
has_all verbs.Run names = names == most_names verbs.Run
has_all verbs.List names = names == most_names verbs.List
has_all verbs.Dump names = names == most_names verbs.Dump
has_all verbs.Stat names = names == most_names verbs.Stat
has_all verbs.Drill names = names == most_names verbs.Drill
has_all verbs.Judge names = (names == 3) || (names == 4)
has_all verbs.Capture names = names == most_names verbs.Capture
has_all verbs.Desk names = names == most_names verbs.Desk
has_all verbs.Get names = names == most_names verbs.Get
has_all verbs.Compare names = names == most_names verbs.Compare
has_all verbs.Explain names = names == most_names verbs.Explain
has_all verbs.Sets names = names == most_names verbs.Sets

-- A command may have packet threads.
abbrev pub takes_threads : Verb → Bool
takes_threads verbs.Run = true
takes_threads verbs.List = false
takes_threads verbs.Dump = false
takes_threads verbs.Stat = false
takes_threads verbs.Drill = true
takes_threads verbs.Judge = true
takes_threads verbs.Capture = true
takes_threads verbs.Desk = false
takes_threads verbs.Get = false
takes_threads verbs.Compare = false
takes_threads verbs.Explain = false
takes_threads verbs.Sets = false

-- A command may keep going after a refused change.
abbrev pub takes_mark : Verb → Bool
takes_mark verbs.Run = true
takes_mark verbs.List = true
takes_mark verbs.Dump = true
takes_mark verbs.Stat = true
takes_mark verbs.Drill = false
takes_mark verbs.Judge = true
takes_mark verbs.Capture = true
takes_mark verbs.Desk = true
takes_mark verbs.Get = false
takes_mark verbs.Compare = true
takes_mark verbs.Explain = true
takes_mark verbs.Sets = false

-- the number at a place of a drill: first the seed, and then the number of elements
abbrev pub drill_number : ℕ → List ℕ → Option ℕ
drill_number place word = if place == 0 then number_within 0 last_seed word else number_within 1 most_drill_elements word

-- A word may be the name at a place.
abbrev pub is_name_of : Verb → ℕ → List ℕ → Bool
is_name_of verbs.Run place word = is_file_name word
is_name_of verbs.List place word = is_file_name word
is_name_of verbs.Dump place word = is_file_name word
is_name_of verbs.Stat place word = is_file_name word
is_name_of verbs.Drill place word = is_some (drill_number place word)
is_name_of verbs.Judge place word = is_file_name word
is_name_of verbs.Capture place word = is_file_name word
is_name_of verbs.Desk place word = is_file_name word
is_name_of verbs.Get place word = false
is_name_of verbs.Compare place word = is_file_name word
is_name_of verbs.Explain place word = is_file_name word
is_name_of verbs.Sets place word = is_file_name word

abbrev pub takes_name : Verb → ℕ → List ℕ → Bool
takes_name verb place word = nat_lt place (most_names verb) && is_name_of verb place word

-- the shape with the number of packet threads
abbrev pub with_threads : Shape → List ℕ → Option Shape
with_threads s word = then_some (is_some (number_within 1 most_threads word)) (record s { waiting = false })

-- the shape with a word that begins with `--threads=`, whose number this is, or with a name
abbrev pub with_joined : Verb → Shape → List ℕ → Option (List ℕ) → Option Shape
with_joined verb s word None = then_some (takes_name verb s.names word) (record s { names = s.names + 1 })
with_joined verb s word (Some count) = then_some ((takes_threads verb && not s.threads) && is_some (number_within 1 most_threads count)) (record s { threads = true })

-- the shape with a word that is no such number
abbrev pub with_argument : Verb → Shape → List ℕ → Option Shape
with_argument verb s word =
    if bytes_eq word threads_word then then_some (takes_threads verb && not s.threads) (record s { threads = true; waiting = true })
    else (if bytes_eq word keep_going_word then then_some (takes_mark verb && not s.keep_going) (record s { keep_going = true })
    else with_joined verb s word (after_front threads_front word))

abbrev pub with_word : Verb → Shape → List ℕ → Option Shape
with_word verb s word = if s.waiting then with_threads s word else with_argument verb s word

abbrev pub shape_after : Verb → Option Shape → List ℕ → Option Shape
shape_after verb None word = None
shape_after verb (Some s) word = with_word verb s word

abbrev pub empty_shape : Shape
empty_shape = record { names = 0; threads = false; keep_going = false; waiting = false }

abbrev pub is_whole_shape : Verb → Option Shape → Bool
is_whole_shape verb None = false
is_whole_shape verb (Some s) = not s.waiting && has_all verb s.names

-- The words after a command's word have its shape.
abbrev pub has_shape : Verb → List (List ℕ) → Bool
has_shape verb rest = is_whole_shape verb (fold (shape_after verb) (Some empty_shape) rest)

-- The standard input is named at most once.
abbrev pub stdin_once : List (List ℕ) → Bool
stdin_once rest = nat_le (count_by is_stdin rest) 1

-- The words may follow the command's word.
abbrev pub fits : Verb → List (List ℕ) → Bool
fits verb rest = has_shape verb rest && stdin_once rest

-- The words may follow the word of this command.
abbrev pub accepts : Verb → List (List ℕ) → Bool
accepts verbs.Run rest = fits verbs.Run rest
accepts verbs.List rest = fits verbs.List rest
accepts verbs.Dump rest = fits verbs.Dump rest
accepts verbs.Stat rest = fits verbs.Stat rest
accepts verbs.Drill rest = fits verbs.Drill rest
accepts verbs.Judge rest = fits verbs.Judge rest
accepts verbs.Capture rest = fits verbs.Capture rest
accepts verbs.Desk rest = fits verbs.Desk rest
accepts verbs.Get rest = is_some (asked rest)
accepts verbs.Compare rest = fits verbs.Compare rest
accepts verbs.Explain rest = fits verbs.Explain rest
accepts verbs.Sets rest = fits verbs.Sets rest

abbrev pub verb_of : Command → Verb
verb_of (run script keys threads keep_going) = verbs.Run
verb_of (list script keep_going) = verbs.List
verb_of (dump script keep_going) = verbs.Dump
verb_of (stat script keep_going) = verbs.Stat
verb_of (drill seed count threads) = verbs.Drill
verb_of (judge script rules keys threads keep_going) = verbs.Judge
verb_of (judge_capture script rules plan packets threads keep_going) = verbs.Judge
verb_of (capture script plan packets threads keep_going) = verbs.Capture
verb_of (desk script keep_going) = verbs.Desk
verb_of (get script key moment keep_going) = verbs.Get
verb_of (compare first second keep_going) = verbs.Compare
verb_of (explain script keys keep_going) = verbs.Explain
verb_of (sets_of file) = verbs.Sets

-- A command whose words have a shape.
abbrev pub HasShape : Verb → Type 0
HasShape verb = verb ≢ verbs.Get

-- The words are a command that does this.
abbrev pub HasVerb : List (List ℕ) → Verb → Type 0
HasVerb words verb = (c : Command) × IsCommand words c × (verb_of c ≡ verb)

-- the text of a page
abbrev pub page_text : Page → List ℕ
page_text pages.Program = PROGRAM.now
page_text (pages.Command verbs.Run) = RUN.now
page_text (pages.Command verbs.List) = LIST.now
page_text (pages.Command verbs.Dump) = DUMP.now
page_text (pages.Command verbs.Stat) = STAT.now
page_text (pages.Command verbs.Drill) = DRILL.now
page_text (pages.Command verbs.Judge) = JUDGE.now
page_text (pages.Command verbs.Capture) = CAPTURE.now
page_text (pages.Command verbs.Desk) = DESK.now
page_text (pages.Command verbs.Get) = GET.now
page_text (pages.Command verbs.Compare) = COMPARE.now
page_text (pages.Command verbs.Explain) = EXPLAIN.now
page_text (pages.Command verbs.Sets) = SETS.now
page_text pages.Version = VERSION.now

-- the command that the code's command is
abbrev pub plain_task : List ℕ → Task → Bool → Command
plain_task script (tasks.Run keys threads) keep_going = run script keys.now threads keep_going
plain_task script tasks.List keep_going = list script keep_going
plain_task script tasks.Dump keep_going = dump script keep_going
plain_task script tasks.Stat keep_going = stat script keep_going
plain_task script (tasks.Judge rules keys threads) keep_going = judge script rules.now keys.now threads keep_going
plain_task script (tasks.JudgeCapture rules plan packets threads) keep_going = judge_capture script rules.now plan.now packets.now threads keep_going
plain_task script (tasks.Capture plan packets threads) keep_going = capture script plan.now packets.now threads keep_going
plain_task script tasks.Desk keep_going = desk script keep_going
plain_task script (tasks.Get key moment) keep_going = get script (map string_bytes key.now) moment keep_going
plain_task script (tasks.Explain keys) keep_going = explain script keys.now keep_going

abbrev pub plain : Asked → Command
plain (asked.Script script task keep_going) = plain_task script.now task keep_going
plain (asked.Drill seed count threads) = drill seed count threads
plain (asked.Compare first second keep_going) = compare first.now second.now keep_going
plain (asked.Sets file) = sets_of file.now

-- At most four names, and a word after `--threads` that doesn't begin with a dash.
pub record ArePlain (names : List (List ℕ)) (threads : Option (List ℕ)) : Type 0 where
  pub few : length names ≤ 4
  pub no_dash : IfSome threads (λ word. IsTrue (is_file_name word))

-- The values that were found by their ids are these arguments.
pub record HasFoundValues (found : Found) (names : List (List ℕ)) (threads : Option (List ℕ)) (keep_going : Bool) : Type 0 where
  pub first : first_value found (codes "first") ≡ slice_get names 0
  pub second : first_value found (codes "second") ≡ slice_get names 1
  pub third : first_value found (codes "third") ≡ slice_get names 2
  pub fourth : first_value found (codes "fourth") ≡ slice_get names 3
  pub threads_are : first_value found (codes "threads") ≡ threads
  pub mark : one_text found (codes "keep-going") ≡ Some (if keep_going then codes "true" else codes "false")

-- The code's arguments are these.
pub record HasArguments (a : Arguments) (names : List (List ℕ)) (threads : Option (List ℕ)) (keep_going : Bool) : Type 0 where
  pub first : option_map (λ w. w.now) a.first ≡ slice_get names 0
  pub second : option_map (λ w. w.now) a.second ≡ slice_get names 1
  pub third : option_map (λ w. w.now) a.third ≡ slice_get names 2
  pub fourth : option_map (λ w. w.now) a.fourth ≡ slice_get names 3
  pub threads_are : option_map (λ w. w.now) a.threads ≡ threads
  pub mark : a.keep_going ≡ keep_going
