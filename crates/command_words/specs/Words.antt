-- The words of a command, and of help.
use Rattle.std.specs.Prelude.{◌≡◌, ◌≤◌, ◌⊎◌, ℕ, Bool, true, false, List, [], ◌∷◌, ◌++◌, codes, bytes_eq, decimal, Option, Some, None, slice_get, IsTrue}
use Rattle.std.specs.List.{count_by}
use Rattle.command_words.specs.declared.shape.Verb.{Verb}
use Rattle.command_words.specs.declared.shape.Verb.TheVariants as verbs
use Rattle.command_words.specs.declared.page.Page.{Page}
use Rattle.command_words.specs.declared.page.Page.TheVariants as pages
use Rattle.command_words.specs.GetWords.{Asked, asked, is_file_name, keep_going_word}

-- the name of the standard input
abbrev pub stdin_name : List ℕ
stdin_name = codes "-"

abbrev pub is_stdin : List ℕ → Bool
is_stdin word = bytes_eq word stdin_name

-- the word of a command
abbrev pub verb_word : Verb → List ℕ
verb_word verbs.Run = codes "run"
verb_word verbs.List = codes "list"
verb_word verbs.Dump = codes "dump"
verb_word verbs.Stat = codes "stat"
verb_word verbs.Drill = codes "drill"
verb_word verbs.Judge = codes "judge"
verb_word verbs.Capture = codes "capture"
verb_word verbs.Desk = codes "desk"
verb_word verbs.Get = codes "get"
verb_word verbs.Compare = codes "compare"
verb_word verbs.Explain = codes "explain"
verb_word verbs.Sets = codes "sets"

abbrev pub threads_word : List ℕ
threads_word = codes "--threads"

-- what the count of threads follows in one word
abbrev pub threads_front : List ℕ
threads_front = codes "--threads="

-- The words that may follow a command's word, in any order: names; at most once `--threads` and the
-- word after it, whatever that is, or both in one word with `=` between them; at most once `--keep-going`.
pub data AreArguments : List (List ℕ) → List (List ℕ) → Option (List ℕ) → Bool → Type 0 where
  no_words : AreArguments [] [] None false
  name_and : {word : List ℕ} {rest names : List (List ℕ)} {threads : Option (List ℕ)} {keep_going : Bool} → IsTrue (is_file_name word) → AreArguments rest names threads keep_going
      → AreArguments (word ∷ rest) (word ∷ names) threads keep_going
  threads_and : {count : List ℕ} {rest names : List (List ℕ)} {keep_going : Bool} → AreArguments rest names None keep_going → AreArguments (threads_word ∷ count ∷ rest) names (Some count) keep_going
  threads_with : {count : List ℕ} {rest names : List (List ℕ)} {keep_going : Bool} → AreArguments rest names None keep_going → AreArguments ((threads_front ++ count) ∷ rest) names (Some count) keep_going
  mark_and : {rest names : List (List ℕ)} {threads : Option (List ℕ)} → AreArguments rest names threads false → AreArguments (keep_going_word ∷ rest) names threads true

-- The words are this one and these arguments.
pub record AreWords (words : List (List ℕ)) (first : List ℕ) (names : List (List ℕ)) (threads : Option (List ℕ)) (keep_going : Bool) : Type 0 where
  pub rest : List (List ℕ)
  pub words_are : words ≡ first ∷ rest
  pub arguments : AreArguments rest names threads keep_going

-- A word is a number within bounds, in plain digits without a sign or a leading zero.
abbrev pub IsNumber : ℕ → ℕ → List ℕ → ℕ → Type 0
IsNumber low high word n = (word ≡ decimal n) × (low ≤ n) × (n ≤ high)

abbrev pub last_seed : ℕ
last_seed = 18446744073709551615

-- the most elements of a drill
abbrev pub most_drill_elements : ℕ
most_drill_elements = 20000

-- the most packet threads
abbrev pub most_threads : ℕ
most_threads = 16

-- how many packet threads there are, 1 to 16; 1 without the option
abbrev pub AreThreads : Option (List ℕ) → ℕ → Type 0
AreThreads None n = n ≡ 1
AreThreads (Some word) n = IsNumber 1 most_threads word n

-- A command: the names of its files or the numbers of a drill, how many packet threads it has, and
-- whether it keeps going after a refused change.
pub data Command : Type 0 where
  run : (script keys : List ℕ) (threads : ℕ) (keep_going : Bool) → Command
  list : (script : List ℕ) (keep_going : Bool) → Command
  dump : (script : List ℕ) (keep_going : Bool) → Command
  stat : (script : List ℕ) (keep_going : Bool) → Command
  drill : (seed count threads : ℕ) → Command
  judge : (script rules keys : List ℕ) (threads : ℕ) (keep_going : Bool) → Command
  judge_capture : (script rules plan packets : List ℕ) (threads : ℕ) (keep_going : Bool) → Command
  capture : (script plan packets : List ℕ) (threads : ℕ) (keep_going : Bool) → Command
  desk : (script : List ℕ) (keep_going : Bool) → Command
  get : (script : List ℕ) (key : List (List ℕ)) (moment : Option ℕ) (keep_going : Bool) → Command
  compare : (first second : List ℕ) (keep_going : Bool) → Command
  explain : (script keys : List ℕ) (keep_going : Bool) → Command
  sets_of : (file : List ℕ) → Command

-- At most one of the names is the standard input.
abbrev pub NameStdinOnce : List (List ℕ) → Type 0
NameStdinOnce names = count_by is_stdin names ≤ 1

-- The words are this one, the names of a script and of its other files, and options. So many threads
-- look packets up.
abbrev pub ArePacketWords : List (List ℕ) → List ℕ → List (List ℕ) → ℕ → Bool → Type 0
ArePacketWords words first names n keep_going = (threads : Option (List ℕ)) × AreWords words first names threads keep_going × AreThreads threads n × NameStdinOnce names

-- The words are this one, the names of files, and perhaps `--keep-going`.
abbrev pub AreFileWords : List (List ℕ) → List ℕ → List (List ℕ) → Bool → Type 0
AreFileWords words first names keep_going = AreWords words first names None keep_going × NameStdinOnce names

-- The words are `get` and what it asks.
pub record AreGetWords (words : List (List ℕ)) (asks : Asked) : Type 0 where
  pub rest : List (List ℕ)
  pub words_are : words ≡ codes "get" ∷ rest
  pub asks_are : asked rest ≡ Some asks

-- The words are this command.
abbrev pub IsCommand : List (List ℕ) → Command → Type 0
IsCommand words (run script keys n keep_going) = ArePacketWords words (codes "run") (script ∷ keys ∷ []) n keep_going
IsCommand words (list script keep_going) = AreWords words (codes "list") (script ∷ []) None keep_going
IsCommand words (dump script keep_going) = AreWords words (codes "dump") (script ∷ []) None keep_going
IsCommand words (stat script keep_going) = AreWords words (codes "stat") (script ∷ []) None keep_going
IsCommand words (drill seed count n) = (threads : Option (List ℕ)) × (seed_word : List ℕ) × (count_word : List ℕ)
    × AreWords words (codes "drill") (seed_word ∷ count_word ∷ []) threads false × IsNumber 0 last_seed seed_word seed × IsNumber 1 most_drill_elements count_word count × AreThreads threads n
IsCommand words (judge script rules keys n keep_going) = ArePacketWords words (codes "judge") (script ∷ rules ∷ keys ∷ []) n keep_going
IsCommand words (judge_capture script rules plan packets n keep_going) = ArePacketWords words (codes "judge") (script ∷ rules ∷ plan ∷ packets ∷ []) n keep_going
IsCommand words (capture script plan packets n keep_going) = ArePacketWords words (codes "capture") (script ∷ plan ∷ packets ∷ []) n keep_going
IsCommand words (desk script keep_going) = AreWords words (codes "desk") (script ∷ []) None keep_going
IsCommand words (compare first second keep_going) = AreFileWords words (codes "compare") (first ∷ second ∷ []) keep_going
IsCommand words (explain script keys keep_going) = AreFileWords words (codes "explain") (script ∷ keys ∷ []) keep_going
IsCommand words (sets_of file) = AreWords words (codes "sets") (file ∷ []) None false
IsCommand words (get script key moment keep_going) = AreGetWords words (record { script = script; key = key; moment = moment; keep_going = keep_going })

-- The words ask for a text about the program: help on it or on one of its commands, or its version.
abbrev pub AsksFor : List (List ℕ) → Page → Type 0
AsksFor words pages.Program = (words ≡ codes "help" ∷ []) ⊎ (words ≡ codes "--help" ∷ []) ⊎ (words ≡ codes "-h" ∷ [])
AsksFor words (pages.Command verb) = (words ≡ codes "help" ∷ verb_word verb ∷ []) ⊎ (words ≡ verb_word verb ∷ codes "--help" ∷ []) ⊎ (words ≡ verb_word verb ∷ codes "-h" ∷ [])
AsksFor words pages.Version = (words ≡ codes "--version" ∷ []) ⊎ (words ≡ codes "-V" ∷ [])

-- The words are no command, and ask for no such text.
pub record IsNoCommand (words : List (List ℕ)) : Type 0 where
  pub no_work : (c : Command) → IsCommand words c → ⊥
  pub no_page : (page : Page) → AsksFor words page → ⊥

-- The words are a command of one of these sorts: a run of a script beside a key file, a listing of a
-- script, a dump of its tables or their figures; a drill; a run whose packets a rules file judges, or whose packets a
-- plan takes from a capture, or both; or a script by several control threads; or a question for a key; or an explanation of the
-- answers to the packets of a key file; or a comparison of two scripts; or the sets of a ruleset.
abbrev pub IsRunCommand : List (List ℕ) → List ℕ → List ℕ → ℕ → Bool → Type 0
IsRunCommand words script keys threads keep_going = IsCommand words (run script keys threads keep_going)

abbrev pub IsListCommand : List (List ℕ) → List ℕ → Bool → Type 0
IsListCommand words script keep_going = IsCommand words (list script keep_going)

abbrev pub IsDumpCommand : List (List ℕ) → List ℕ → Bool → Type 0
IsDumpCommand words script keep_going = IsCommand words (dump script keep_going)

abbrev pub IsStatCommand : List (List ℕ) → List ℕ → Bool → Type 0
IsStatCommand words script keep_going = IsCommand words (stat script keep_going)

abbrev pub IsDrillCommand : List (List ℕ) → ℕ → ℕ → ℕ → Type 0
IsDrillCommand words seed count threads = IsCommand words (drill seed count threads)

abbrev pub IsJudgeCommand : List (List ℕ) → List ℕ → List ℕ → List ℕ → ℕ → Bool → Type 0
IsJudgeCommand words script rules keys threads keep_going = IsCommand words (judge script rules keys threads keep_going)

abbrev pub IsJudgeCaptureCommand : List (List ℕ) → List ℕ → List ℕ → List ℕ → List ℕ → ℕ → Bool → Type 0
IsJudgeCaptureCommand words script rules plan packets threads keep_going = IsCommand words (judge_capture script rules plan packets threads keep_going)

abbrev pub IsCaptureCommand : List (List ℕ) → List ℕ → List ℕ → List ℕ → ℕ → Bool → Type 0
IsCaptureCommand words script plan packets threads keep_going = IsCommand words (capture script plan packets threads keep_going)

abbrev pub IsDeskCommand : List (List ℕ) → List ℕ → Bool → Type 0
IsDeskCommand words script keep_going = IsCommand words (desk script keep_going)

abbrev pub IsGetCommand : List (List ℕ) → List ℕ → List (List ℕ) → Option ℕ → Bool → Type 0
IsGetCommand words script key moment keep_going = IsCommand words (get script key moment keep_going)

abbrev pub IsCompareCommand : List (List ℕ) → List ℕ → List ℕ → Bool → Type 0
IsCompareCommand words first second keep_going = IsCommand words (compare first second keep_going)

abbrev pub IsExplainCommand : List (List ℕ) → List ℕ → List ℕ → Bool → Type 0
IsExplainCommand words script keys keep_going = IsCommand words (explain script keys keep_going)

abbrev pub IsSetsCommand : List (List ℕ) → List ℕ → Type 0
IsSetsCommand words file = IsCommand words (sets_of file)

-- the names of the files that a command reads, in their order
abbrev pub file_names : Command → List (List ℕ)
file_names (run script keys threads keep_going) = script ∷ keys ∷ []
file_names (list script keep_going) = script ∷ []
file_names (dump script keep_going) = script ∷ []
file_names (stat script keep_going) = script ∷ []
file_names (drill seed count threads) = []
file_names (judge script rules keys threads keep_going) = script ∷ rules ∷ keys ∷ []
file_names (judge_capture script rules plan packets threads keep_going) = script ∷ rules ∷ plan ∷ packets ∷ []
file_names (capture script plan packets threads keep_going) = script ∷ plan ∷ packets ∷ []
file_names (desk script keep_going) = script ∷ []
file_names (get script key moment keep_going) = script ∷ []
file_names (compare first second keep_going) = first ∷ second ∷ []
file_names (explain script keys keep_going) = script ∷ keys ∷ []
file_names (sets_of file) = file ∷ []

-- The first file of a command is its script.
abbrev pub IsScriptOf : Command → List ℕ → Type 0
IsScriptOf c name = slice_get (file_names c) 0 ≡ Some name
