-- The words of `get`: options, then the name of a script, and then the words of a key.
use Rattle.std.specs.Prelude.{ℕ, Bool, true, false, ◌&&◌, not, ◌==◌, if◌then◌else◌, List, [], ◌∷◌, codes, bytes_eq, Option, Some, None, option_map}
use Rattle.std.specs.Bool.{then_some}
use Rattle.std.specs.List.{list_all}
use Rattle.command_words.specs.Fronts.{after_front}
use Rattle.command_words.specs.Numbers.{number_within}

-- A name isn't empty and doesn't begin with a dash. The exception is `-` itself, the standard input.
abbrev pub is_file_name : List ℕ → Bool
is_file_name [] = false
is_file_name (b ∷ []) = true
is_file_name (b ∷ c ∷ bytes) = not (b == 45)

abbrev pub keep_going_word : List ℕ
keep_going_word = codes "--keep-going"

abbrev pub at_word : List ℕ
at_word = codes "--at"

-- what the moment follows in one word
abbrev pub at_front : List ℕ
at_front = codes "--at="

-- the latest moment, in milliseconds
abbrev pub last_moment : ℕ
last_moment = 1000000000000000

-- What a `get` asks: the script's name, the words of the key, the moment if one is given, and whether it keeps going
-- after a refused change.
pub record Asked : Type 0 where
  pub script : List ℕ
  pub key : List (List ℕ)
  pub moment : Option ℕ
  pub keep_going : Bool

-- Whether `--keep-going` comes first, and the words after it.
abbrev pub after_mark : List (List ℕ) → Bool × List (List ℕ)
after_mark [] = (false, [])
after_mark (word ∷ rest) = if bytes_eq word keep_going_word then (true, rest) else (false, word ∷ rest)

-- the moment that a word is, and the words after it
abbrev pub moment_before : List ℕ → List (List ℕ) → Option (Option ℕ × List (List ℕ))
moment_before word rest = option_map (λ n. (Some n, rest)) (number_within 0 last_moment word)

-- the moment at the front of words, and the words after it
abbrev pub after_number : List (List ℕ) → Option (Option ℕ × List (List ℕ))
after_number [] = None
after_number (word ∷ rest) = moment_before word rest

-- The moment that follows `--at=` in the first of the words, and the words after it. If there is none, the words stay.
abbrev pub after_joined : Option (List ℕ) → List (List ℕ) → List (List ℕ) → Option (Option ℕ × List (List ℕ))
after_joined None words rest = Some (None, words)
after_joined (Some number) words rest = moment_before number rest

-- The moment if `--at` or `--at=` comes first, and the words after it. If what follows is no moment, there is none.
abbrev pub after_at : List (List ℕ) → Option (Option ℕ × List (List ℕ))
after_at [] = Some (None, [])
after_at (word ∷ rest) = if bytes_eq word at_word then after_number rest else after_joined (after_front at_front word) (word ∷ rest) rest

-- The script and the key: a name, and one or more words of which none begins with a dash.
abbrev pub question : Bool → Option ℕ → List ℕ → List (List ℕ) → Option Asked
question keep_going moment script [] = None
question keep_going moment script (word ∷ key) = then_some (is_file_name script && list_all is_file_name (word ∷ key)) (record { script = script; key = word ∷ key; moment = moment; keep_going = keep_going })

abbrev pub named : Bool → Option ℕ → List (List ℕ) → Option Asked
named keep_going moment [] = None
named keep_going moment (script ∷ key) = question keep_going moment script key

-- The mark may also come after the moment.
abbrev pub marked : Bool → Option ℕ → List (List ℕ) → Option Asked
marked true moment rest = named true moment rest
marked false moment rest = let m = after_mark rest in named m.0 moment m.1

abbrev pub timed : Bool → Option (Option ℕ × List (List ℕ)) → Option Asked
timed keep_going None = None
timed keep_going (Some found) = marked keep_going found.0 found.1

-- what the words after `get` ask, if they ask something
unfoldable pub asked : List (List ℕ) → Option Asked
asked words = let m = after_mark words in timed m.0 (after_at m.1)
