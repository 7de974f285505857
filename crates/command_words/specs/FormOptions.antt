-- The options of forms: `--sets` says in which form a command's scripts are given, and `--elements` and `--json` in which form its
-- answer is written. They are no part of a command, and are taken out of its words.
use Rattle.std.specs.Prelude.{ℕ, suc, Bool, true, false, ◌&&◌, ◌||◌, not, if◌then◌else◌, List, [], ◌∷◌, codes, bytes_eq, Option, Some, None, option_map}
use Rattle.std.specs.List.{remove}
use Rattle.std.specs.Option.{is_some}
use Rattle.command_words.specs.GetWords.{at_word}
use Rattle.command_words.specs.Words.{Command, run, list, dump, drill, judge, capture, desk, get, compare, explain, stat, judge_capture, sets_of, threads_word}
use Rattle.command_words.specs.declared.form.AnswerForm.{AnswerForm}
use Rattle.command_words.specs.declared.form.FormOption.{FormOption}
use Rattle.command_words.specs.declared.form.FormOption.TheVariants as options
use Rattle.command_words.specs.declared.form.Forms.{Forms}
use Rattle.command_words.specs.declared.form.ScriptForm.{ScriptForm}
use Rattle.command_words.specs.declared.form.ScriptForm.TheVariants as forms

-- the word of an option
abbrev pub option_word : FormOption → List ℕ
option_word options.Sets = codes "--sets"
option_word options.Elements = codes "--elements"
option_word options.Json = codes "--json"

-- A first word asks for a page.
abbrev pub is_page_word : List ℕ → Bool
is_page_word word = bytes_eq word (codes "help") || bytes_eq word (codes "--help") || bytes_eq word (codes "-h") || bytes_eq word (codes "--version") || bytes_eq word (codes "-V")

-- A command has scripts, unless its word is one of these.
abbrev pub has_scripts : List ℕ → Bool
has_scripts word = not (bytes_eq word (codes "drill") || bytes_eq word (codes "sets") || is_page_word word)

-- A command with this word prints a line for each packet that it looks up.
abbrev pub has_lookups : List ℕ → Bool
has_lookups word = bytes_eq word (codes "run") || bytes_eq word (codes "capture")

-- A command with this word can write its answer as JSON.
abbrev pub has_json : List ℕ → Bool
has_json word = bytes_eq word (codes "list")

-- A command with this word takes an option: `--sets` if it has scripts, `--elements` if it looks packets up, and `--json` if it can
-- write JSON.
abbrev pub takes : FormOption → List ℕ → Bool
takes options.Sets word = has_scripts word
takes options.Elements word = has_lookups word
takes options.Json word = has_json word

-- The word after this one is its value.
abbrev pub has_value : List ℕ → Bool
has_value word = bytes_eq word threads_word || bytes_eq word at_word

-- The place of an option among words: its first word that isn't the value of the word before it. The first of these words may be
-- such a value.
abbrev pub place_among : FormOption → Bool → List (List ℕ) → Option ℕ
place_among o is_value [] = None
place_among o is_value (word ∷ words) =
    if not is_value && bytes_eq word (option_word o) then Some 0
    else option_map suc (place_among o (not is_value && has_value word) words)

-- The place of an option in the words of a command that takes it: anywhere after the command's word.
abbrev pub option_place : FormOption → List (List ℕ) → Option ℕ
option_place o [] = None
option_place o (first ∷ words) = if takes o first then option_map suc (place_among o false words) else None

-- the words have an option
abbrev pub has_option : FormOption → List (List ℕ) → Bool
has_option o words = is_some (option_place o words)

abbrev pub without : Option ℕ → List (List ℕ) → List (List ℕ)
without None words = words
without (Some place) words = remove words place

-- the words without an option
abbrev pub without_option : FormOption → List (List ℕ) → List (List ℕ)
without_option o words = without (option_place o words) words

-- With `--sets` the scripts are rulesets.
abbrev pub form_by : Bool → ScriptForm
form_by false = forms.Script
form_by true = forms.Ruleset

abbrev pub script_form : List (List ℕ) → ScriptForm
script_form words = form_by (has_option options.Sets words)

-- The form of the answer, by the words without `--sets`.
abbrev pub answer_form : List (List ℕ) → AnswerForm
answer_form words = record { has_elements = has_option options.Elements words; is_json = has_option options.Json (without_option options.Elements words) }

-- the forms that the words ask for
abbrev pub forms_of : List (List ℕ) → Forms
forms_of words = record { scripts = script_form words; answer = answer_form (without_option options.Sets words) }

-- the words without the options of forms
abbrev pub without_options : List (List ℕ) → List (List ℕ)
without_options words = without_option options.Json (without_option options.Elements (without_option options.Sets words))

-- the names of a command's scripts
abbrev pub scripts_of : Command → List (List ℕ)
scripts_of (run script keys threads keep_going) = script ∷ []
scripts_of (list script keep_going) = script ∷ []
scripts_of (dump script keep_going) = script ∷ []
scripts_of (stat script keep_going) = script ∷ []
scripts_of (drill seed count threads) = []
scripts_of (judge script rules keys threads keep_going) = script ∷ []
scripts_of (judge_capture script rules plan packets threads keep_going) = script ∷ []
scripts_of (capture script plan packets threads keep_going) = script ∷ []
scripts_of (desk script keep_going) = script ∷ []
scripts_of (get script key moment keep_going) = script ∷ []
scripts_of (compare first second keep_going) = first ∷ second ∷ []
scripts_of (explain script keys keep_going) = script ∷ []
scripts_of (sets_of file) = []

-- the names of those that are rulesets
abbrev pub rulesets_of : ScriptForm → Command → List (List ℕ)
rulesets_of forms.Script c = []
rulesets_of forms.Ruleset c = scripts_of c
