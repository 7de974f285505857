-- Worked examples of words.
use Rattle.std.proofs.Common.{◌≡◌, refl, false, true, [], ◌∷◌, codes, Some, arith, inr}
use Rattle.std.specs.Fmt.{digits}
use Rattle.command_words.specs.declared.shape.Verb.TheVariants.{Run}
use Rattle.command_words.specs.declared.page.Page.TheVariants.{Version}
use Rattle.command_words.specs.Numbers.{number_within}
use Rattle.command_words.specs.GetWords.{asked}
use Rattle.command_words.specs.Words.{no_words, name_and, threads_with, IsCommand, run, AsksFor}
use Rattle.command_words.specs.WordForms.{accepts}
use Rattle.command_words.specs.declared.form.FormOption.TheVariants.{Sets}
use Rattle.command_words.specs.declared.form.ScriptForm.TheVariants.{Ruleset, Script}
use Rattle.command_words.specs.FormOptions.{forms_of, option_place, script_form, without_option, without_options}

-- `run a b --threads=4` is a run of a beside b with 4 packet threads.
four-threads : IsCommand (codes "run" ∷ codes "a" ∷ codes "b" ∷ codes "--threads=4" ∷ []) (run (codes "a") (codes "b") 4 false)
unfolding digits
four-threads =
    (Some (codes "4"), record { rest = codes "a" ∷ codes "b" ∷ codes "--threads=4" ∷ []; words_are = refl; arguments = name_and refl (name_and refl (threads_with no_words)) }, (refl, omega arith, omega arith), omega arith)

-- Of more than 16 threads it is no command.
many-threads : accepts Run (codes "a" ∷ codes "b" ∷ codes "--threads=17" ∷ []) ≡ false
unfolding digits number_within
many-threads = refl

-- `--at=5` asks at moment 5.
at-five : asked (codes "--at=5" ∷ codes "a" ∷ codes "t" ∷ []) ≡ Some (record { script = codes "a"; key = codes "t" ∷ []; moment = Some 5; keep_going = false })
unfolding digits asked number_within
at-five = refl

-- `-V` asks for the version.
version-letter : AsksFor (codes "-V" ∷ []) Version
version-letter = inr refl

-- `list r --sets` is `list r` of a ruleset.
sets-last : without_option Sets (codes "list" ∷ codes "r" ∷ codes "--sets" ∷ []) ≡ codes "list" ∷ codes "r" ∷ []
sets-last = refl

-- `--threads` takes the next word, whatever that is. Then the option is the word after it.
sets-after-value : option_place Sets (codes "run" ∷ codes "--threads" ∷ codes "--sets" ∷ codes "--sets" ∷ []) ≡ Some 3
sets-after-value = refl

-- A drill has no scripts.
no-sets-of-drill : script_form (codes "drill" ∷ codes "--sets" ∷ codes "1" ∷ codes "2" ∷ []) ≡ Script
no-sets-of-drill = refl

-- `--version --sets` keeps its words, and is no command.
no-sets-of-version : without_option Sets (codes "--version" ∷ codes "--sets" ∷ []) ≡ codes "--version" ∷ codes "--sets" ∷ []
no-sets-of-version = refl

-- `run --elements r --sets k` is `run r k` of a ruleset, and its answer has the elements.
both-of-run : forms_of (codes "run" ∷ codes "--elements" ∷ codes "r" ∷ codes "--sets" ∷ codes "k" ∷ []) ≡ record { scripts = Ruleset; answer = record { has_elements = true; is_json = false } }
both-of-run = refl

words-of-run : without_options (codes "run" ∷ codes "--elements" ∷ codes "r" ∷ codes "--sets" ∷ codes "k" ∷ []) ≡ codes "run" ∷ codes "r" ∷ codes "k" ∷ []
words-of-run = refl

-- A listing has no lines of packets: `list r --elements` keeps its words, and is no command.
no-elements-of-list : without_options (codes "list" ∷ codes "r" ∷ codes "--elements" ∷ []) ≡ codes "list" ∷ codes "r" ∷ codes "--elements" ∷ []
no-elements-of-list = refl

-- `list --json r` is `list r`, and its answer is JSON.
json-of-list : forms_of (codes "list" ∷ codes "--json" ∷ codes "r" ∷ []) ≡ record { scripts = Script; answer = record { has_elements = false; is_json = true } }
json-of-list = refl

words-of-list : without_options (codes "list" ∷ codes "--json" ∷ codes "r" ∷ []) ≡ codes "list" ∷ codes "r" ∷ []
words-of-list = refl

-- A second `--elements` stays in the words.
elements-twice : without_options (codes "run" ∷ codes "--elements" ∷ codes "--elements" ∷ []) ≡ codes "run" ∷ codes "--elements" ∷ []
elements-twice = refl
