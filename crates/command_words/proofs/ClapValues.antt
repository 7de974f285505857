-- What the words of a command are to `clap`.
use Rattle.std.proofs.Common.{◌≡◌, refl, sym, ◌∙◌, ap, subst, ℕ, ◌+◌, ◌≤◌, ◌==◌, Bool, true, false, not, cond, ◌||◌, ◌&&◌, List, [], ◌∷◌, ◌++◌, fold, find, slice_get, length, codes, Option, Some, None, is_some, true≢false, arith, append-nil}
use Rattle.std.specs.Prelude.{IfSome, bytes_eq, option_map, option_and_then}
use Rattle.std.specs.List.{list_any}
use Rattle.clap.specs.declared.builder.value_parser.Reading.{Reading}
use Rattle.clap.specs.declared.parser.matches.ValueSource.{ValueSource}
use Rattle.clap.specs.declared.parser.matches.ValueSource.TheVariants.{DefaultValue, CommandLine}
use Rattle.clap.specs.Walk.{reading_by, Row, Rule, Text, Held, Walk, idle, option, walked, to_positional, arg_by_index, first_of, one_of, nothing_held, finished, reacted, settled, rows_of, at_row, more_values, is_pending, pushed, with_values, without, has_row, row_text}
use Rattle.clap.specs.Simple.{App, HasMatchesOf, built, filled, with_index, is_simple, matches_of, new_app, new_rule, on_top, with_rule}
use Rattle.clap.specs.declared.builder.action.ArgAction.TheVariants.{SetTrue}
use Rattle.clap.proofs.OnLiterals.{clap_on_literals}
use Rattle.clap.proofs.WalkLemmas.{first_value-rows, one_text-rows}
use Rattle.clap.specs.Matches.{found_of}
use Rattle.clap.specs.declared.parser.matches.ArgMatches.{ArgMatches}
use Rattle.command_words.specs.WordForms.{ArePlain, HasFoundValues}
use Rattle.command_words.specs.GetWords.{is_file_name, keep_going_word}
use Rattle.command_words.specs.Words.{threads_word, threads_front, AreArguments, no_words, name_and, threads_and, threads_with, mark_and, AreWords}

abbrev pub first : Rule
first = new_rule (codes "first")

abbrev pub second : Rule
second = new_rule (codes "second")

abbrev pub third : Rule
third = new_rule (codes "third")

abbrev pub fourth : Rule
fourth = new_rule (codes "fourth")

abbrev pub threads_rule : Rule
threads_rule = record (new_rule (codes "threads")) { long = Some (codes "threads") }

abbrev pub keep_going_rule : Rule
keep_going_rule = record (new_rule (codes "keep-going")) { long = Some (codes "keep-going"); action = Some SetTrue }

abbrev pub program : App
program = with_rule (with_rule (with_rule (with_rule (with_rule (with_rule (on_top (λ s. record s { disable_help_flag = true }) (new_app (codes "pipapo"))) first) second) third) fourth) threads_rule) keep_going_rule

abbrev pub rules : List Rule
rules = (built program).top.rules

pub simple : is_simple program ≡ true
unfolding clap_on_literals
simple = refl

-- between two words, if no option waits for a value
abbrev pub between : Held → ℕ → Walk
between h position = record { held = h; waiting = idle; position = position; is_trailing = false; stopped = None }

-- a name goes to the next position
pub name-step : (w : Text) (h : Held) (position : ℕ) → is_file_name w ≡ true → walked rules [] (between h position) w ≡ to_positional rules (arg_by_index rules position) w (between h position) h
unfolding walked
name-step [] h position e = absurd (true≢false (sym e))
name-step (b ∷ []) h position e = go (b == 45) refl where
  go : (t : Bool) → (b == 45) ≡ t → walked rules [] (between h position) (b ∷ []) ≡ to_positional rules (arg_by_index rules position) (b ∷ []) (between h position) h
  go true eq = rw (eq, eq) refl
  go false eq = rw (eq, eq) refl
name-step (b ∷ c ∷ bs) h position e = go (b == 45) refl e where
  go : (t : Bool) → (b == 45) ≡ t → not t ≡ true → walked rules [] (between h position) (b ∷ c ∷ bs) ≡ to_positional rules (arg_by_index rules position) (b ∷ c ∷ bs) (between h position) h
  go true eq f = absurd (true≢false (sym f))
  go false eq f = rw (eq, eq) refl

-- `--threads` waits for its value
abbrev pub waiting-for : Held → ℕ → Walk
waiting-for h position = record (between (record (settled rules h) { pending = Some (codes "threads", []) }) position) { waiting = option (codes "threads") }

pub threads-step : (h : Held) (position : ℕ) → walked rules [] (between h position) threads_word ≡ waiting-for h position
unfolding clap_on_literals
threads-step h position = refl

-- and takes the next word, which begins with no dash
abbrev pub counted : Held → Text → Held
counted h w = record (settled rules h) { pending = Some (codes "threads", w ∷ []) }

pub count-step : (w : Text) (h : Held) (position : ℕ) → is_file_name w ≡ true → walked rules [] (waiting-for h position) w ≡ between (counted h w) position
unfolding walked
count-step [] h position e = absurd (true≢false (sym e))
count-step (b ∷ []) h position e = go (b == 45) refl where
  go : (t : Bool) → (b == 45) ≡ t → walked rules [] (waiting-for h position) (b ∷ []) ≡ between (counted h (b ∷ [])) position
  go true eq = rw (eq, eq) refl
  go false eq = rw (eq, eq) refl
count-step (b ∷ c ∷ bs) h position e = go (b == 45) refl e where
  go : (t : Bool) → (b == 45) ≡ t → not t ≡ true → walked rules [] (waiting-for h position) (b ∷ c ∷ bs) ≡ between (counted h (b ∷ c ∷ bs)) position
  go true eq f = absurd (true≢false (sym f))
  go false eq f = rw (eq, eq) refl

-- `--threads=` and its value are one word.
abbrev pub joined : Held → Text → Held
joined h w = reacted rules (with_index 5 (filled threads_rule)) (w ∷ []) h

pub joined-step : (w : Text) (h : Held) (position : ℕ) → walked rules [] (between h position) (threads_front ++ w) ≡ between (joined h w) position
unfolding clap_on_literals
joined-step w h position = refl

abbrev pub marked : Held → Held
marked h = reacted rules (with_index 5 (filled keep_going_rule)) [] h

pub mark-step : (h : Held) (position : ℕ) → walked rules [] (between h position) keep_going_word ≡ between (marked h) position
unfolding clap_on_literals
mark-step h position = refl

-- Rows: the first of an id, and one more at the end.
abbrev pub is_of : Text → Row → Bool
is_of id r = bytes_eq r.id id

module _ {X : Type 0} (p : X → Bool) where
  -- the tail's first, if the head is none of them
  behind : (x : X) (xs : List X) → find p (x ∷ xs) ≡ None → (p x ≡ false) × (find p xs ≡ None)
  behind x xs none = go (p x) refl none where
    go : (b : Bool) → p x ≡ b → cond b (Some x) (find p xs) ≡ None → (p x ≡ false) × (find p xs ≡ None)
    go true is e = absurd (cc e)
    go false is e = (is, e)

  found-new : (xs : List X) (x : X) → find p xs ≡ None → p x ≡ true → find p (xs ++ x ∷ []) ≡ Some x
  found-new [] x none here = rw here refl
  found-new (y ∷ xs) x none here = let k = behind y xs none in rw k.0 (found-new xs x k.1 here)

  found-old : (xs : List X) (x : X) → p x ≡ false → find p (xs ++ x ∷ []) ≡ find p xs
  found-old [] x not_here = rw not_here refl
  found-old (y ∷ xs) x not_here = ap (λ o. cond (p y) (Some y) o) (found-old xs x not_here)

  pub any-found : (xs : List X) → list_any p xs ≡ is_some (find p xs)
  any-found [] = refl
  any-found (x ∷ xs) = ap (λ b. p x || b) (any-found xs) ∙ go (p x) where
    go : (b : Bool) → (b || is_some (find p xs)) ≡ is_some (cond b (Some x) (find p xs))
    go true = refl
    go false = refl

at-end : (id : Text) (change : Row → List Row) (missing rows : List Row) → find (is_of id) rows ≡ None → at_row id change missing rows ≡ rows ++ missing
at-end id change missing [] none = refl
at-end id change missing (r ∷ rows) none = let k = behind (is_of id) r rows none in rw k.0 (ap (λ rs. r ∷ rs) (at-end id change missing rows k.1))

abbrev new_row : Text → Reading → ValueSource → List Text → Row
new_row id how source values = record { id = id; values = values; count = None; source = Some source; reading = how }

-- An argument that is used for the first time has its row at the end.
first-use : (id : Text) (how : Reading) (source : ValueSource) (values : List Text) (rows : List Row) → find (is_of id) rows ≡ None
    → with_values id how source values (without id rows) ≡ rows ++ new_row id how source values ∷ []
first-use id how source values rows none = ap (with_values id how source values) (at-end id (λ _. []) [] rows none ∙ append-nil rows) ∙ at-end id (more_values source values) (new_row id how source values ∷ []) rows none

abbrev name_row : Rule → Text → Row
name_row a w = new_row a.id (reading_by (filled a)) CommandLine (w ∷ [])

abbrev mark_row : Row
mark_row = new_row (codes "keep-going") (reading_by (filled keep_going_rule)) CommandLine (codes "true" ∷ [])

abbrev mark_found : Bool → Option Row
mark_found true = Some mark_row
mark_found false = None

-- The rows are those of these arguments.
pub record Finds (rows : List Row) (names : List Text) (threads : Option Text) (keep_going : Bool) : Type 0 where
  pub first_is : find (is_of (codes "first")) rows ≡ option_map (name_row first) (slice_get names 0)
  pub second_is : find (is_of (codes "second")) rows ≡ option_map (name_row second) (slice_get names 1)
  pub third_is : find (is_of (codes "third")) rows ≡ option_map (name_row third) (slice_get names 2)
  pub fourth_is : find (is_of (codes "fourth")) rows ≡ option_map (name_row fourth) (slice_get names 3)
  pub threads_are : find (is_of (codes "threads")) rows ≡ option_map (name_row threads_rule) threads
  pub mark_is : find (is_of (codes "keep-going")) rows ≡ mark_found keep_going

abbrev pub held_rows : Held → List Row
held_rows h = (settled rules h).rows

abbrev pub taken : Text → Held → Text → Held
taken id h w = record (settled rules h) { pending = Some (id, w ∷ []) }

-- A name's word is held for its position.
pub first-taken : (h : Held) (w : Text) → to_positional rules (arg_by_index rules 1) w (between h 1) h ≡ between (taken (codes "first") h w) 2
first-taken h w = go (is_pending (with_index 1 (filled first)) h.pending) where
  go : (b : Bool) → between (pushed (codes "first") w (cond (b && false) h (settled rules h))) 2 ≡ between (taken (codes "first") h w) 2
  go true = refl
  go false = refl

pub second-taken : (h : Held) (w : Text) → to_positional rules (arg_by_index rules 2) w (between h 2) h ≡ between (taken (codes "second") h w) 3
second-taken h w = go (is_pending (with_index 2 (filled second)) h.pending) where
  go : (b : Bool) → between (pushed (codes "second") w (cond (b && false) h (settled rules h))) 3 ≡ between (taken (codes "second") h w) 3
  go true = refl
  go false = refl

pub third-taken : (h : Held) (w : Text) → to_positional rules (arg_by_index rules 3) w (between h 3) h ≡ between (taken (codes "third") h w) 4
third-taken h w = go (is_pending (with_index 3 (filled third)) h.pending) where
  go : (b : Bool) → between (pushed (codes "third") w (cond (b && false) h (settled rules h))) 4 ≡ between (taken (codes "third") h w) 4
  go true = refl
  go false = refl

pub fourth-taken : (h : Held) (w : Text) → to_positional rules (arg_by_index rules 4) w (between h 4) h ≡ between (taken (codes "fourth") h w) 5
fourth-taken h w = go (is_pending (with_index 4 (filled fourth)) h.pending) where
  go : (b : Bool) → between (pushed (codes "fourth") w (cond (b && false) h (settled rules h))) 5 ≡ between (taken (codes "fourth") h w) 5
  go true = refl
  go false = refl

-- The rows with one argument more.
module _ (rows : List Row) where
  finds-first : (w : Text) (threads : Option Text) (goes : Bool) → Finds rows [] threads goes → Finds (rows ++ name_row first w ∷ []) (w ∷ []) threads goes
  finds-first w threads goes f = record {
    first_is = found-new _ rows _ f.first_is refl;
    second_is = found-old _ rows _ refl ∙ f.second_is;
    third_is = found-old _ rows _ refl ∙ f.third_is;
    fourth_is = found-old _ rows _ refl ∙ f.fourth_is;
    threads_are = found-old _ rows _ refl ∙ f.threads_are;
    mark_is = found-old _ rows _ refl ∙ f.mark_is;
  }

  finds-second : (v w : Text) (threads : Option Text) (goes : Bool) → Finds rows (v ∷ []) threads goes → Finds (rows ++ name_row second w ∷ []) (v ∷ w ∷ []) threads goes
  finds-second v w threads goes f = record {
    first_is = found-old _ rows _ refl ∙ f.first_is;
    second_is = found-new _ rows _ f.second_is refl;
    third_is = found-old _ rows _ refl ∙ f.third_is;
    fourth_is = found-old _ rows _ refl ∙ f.fourth_is;
    threads_are = found-old _ rows _ refl ∙ f.threads_are;
    mark_is = found-old _ rows _ refl ∙ f.mark_is;
  }

  finds-third : (u v w : Text) (threads : Option Text) (goes : Bool) → Finds rows (u ∷ v ∷ []) threads goes → Finds (rows ++ name_row third w ∷ []) (u ∷ v ∷ w ∷ []) threads goes
  finds-third u v w threads goes f = record {
    first_is = found-old _ rows _ refl ∙ f.first_is;
    second_is = found-old _ rows _ refl ∙ f.second_is;
    third_is = found-new _ rows _ f.third_is refl;
    fourth_is = found-old _ rows _ refl ∙ f.fourth_is;
    threads_are = found-old _ rows _ refl ∙ f.threads_are;
    mark_is = found-old _ rows _ refl ∙ f.mark_is;
  }

  finds-fourth : (t u v w : Text) (threads : Option Text) (goes : Bool) → Finds rows (t ∷ u ∷ v ∷ []) threads goes → Finds (rows ++ name_row fourth w ∷ []) (t ∷ u ∷ v ∷ w ∷ []) threads goes
  finds-fourth t u v w threads goes f = record {
    first_is = found-old _ rows _ refl ∙ f.first_is;
    second_is = found-old _ rows _ refl ∙ f.second_is;
    third_is = found-old _ rows _ refl ∙ f.third_is;
    fourth_is = found-new _ rows _ f.fourth_is refl;
    threads_are = found-old _ rows _ refl ∙ f.threads_are;
    mark_is = found-old _ rows _ refl ∙ f.mark_is;
  }

  finds-threads : (names : List Text) (w : Text) (goes : Bool) → Finds rows names None goes → Finds (rows ++ name_row threads_rule w ∷ []) names (Some w) goes
  finds-threads names w goes f = record {
    first_is = found-old _ rows _ refl ∙ f.first_is;
    second_is = found-old _ rows _ refl ∙ f.second_is;
    third_is = found-old _ rows _ refl ∙ f.third_is;
    fourth_is = found-old _ rows _ refl ∙ f.fourth_is;
    threads_are = found-new _ rows _ f.threads_are refl;
    mark_is = found-old _ rows _ refl ∙ f.mark_is;
  }

  finds-mark : (names : List Text) (threads : Option Text) → Finds rows names threads false → Finds (rows ++ mark_row ∷ []) names threads true
  finds-mark names threads f = record {
    first_is = found-old _ rows _ refl ∙ f.first_is;
    second_is = found-old _ rows _ refl ∙ f.second_is;
    third_is = found-old _ rows _ refl ∙ f.third_is;
    fourth_is = found-old _ rows _ refl ∙ f.fourth_is;
    threads_are = found-old _ rows _ refl ∙ f.threads_are;
    mark_is = found-new _ rows _ f.mark_is refl;
  }

finds-of : (rows now : List Row) (names : List Text) (threads : Option Text) (goes : Bool) → now ≡ rows → Finds rows names threads goes → Finds now names threads goes
finds-of rows now names threads goes same f = subst (λ (r : List Row). Finds r names threads goes) (sym same) f

-- What is held with one argument more.
module _ (h : Held) (t : Option Text) (g : Bool) where
  pub first-held : (w : Text) → Finds (held_rows h) [] t g → Finds (held_rows (taken (codes "first") h w)) (w ∷ []) t g
  first-held w f = finds-of _ _ (w ∷ []) t g (first-use (codes "first") (reading_by (filled first)) CommandLine (w ∷ []) (held_rows h) f.first_is) (finds-first (held_rows h) w t g f)

  pub second-held : (v w : Text) → Finds (held_rows h) (v ∷ []) t g → Finds (held_rows (taken (codes "second") h w)) (v ∷ w ∷ []) t g
  second-held v w f = finds-of _ _ (v ∷ w ∷ []) t g (first-use (codes "second") (reading_by (filled second)) CommandLine (w ∷ []) (held_rows h) f.second_is) (finds-second (held_rows h) v w t g f)

  pub third-held : (u v w : Text) → Finds (held_rows h) (u ∷ v ∷ []) t g → Finds (held_rows (taken (codes "third") h w)) (u ∷ v ∷ w ∷ []) t g
  third-held u v w f = finds-of _ _ (u ∷ v ∷ w ∷ []) t g (first-use (codes "third") (reading_by (filled third)) CommandLine (w ∷ []) (held_rows h) f.third_is) (finds-third (held_rows h) u v w t g f)

  pub fourth-held : (s u v w : Text) → Finds (held_rows h) (s ∷ u ∷ v ∷ []) t g → Finds (held_rows (taken (codes "fourth") h w)) (s ∷ u ∷ v ∷ w ∷ []) t g
  fourth-held s u v w f = finds-of _ _ (s ∷ u ∷ v ∷ w ∷ []) t g (first-use (codes "fourth") (reading_by (filled fourth)) CommandLine (w ∷ []) (held_rows h) f.fourth_is) (finds-fourth (held_rows h) s u v w t g f)

pub threads-held : (h : Held) (names : List Text) (w : Text) (g : Bool) → Finds (held_rows h) names None g → Finds (held_rows (counted h w)) names (Some w) g
threads-held h names w g f = finds-of _ _ names (Some w) g (first-use (codes "threads") (reading_by (filled threads_rule)) CommandLine (w ∷ []) (held_rows h) f.threads_are) (finds-threads (held_rows h) names w g f)

pub joined-held : (h : Held) (names : List Text) (w : Text) (g : Bool) → Finds (held_rows h) names None g → Finds (held_rows (joined h w)) names (Some w) g
joined-held h names w g f = finds-of _ _ names (Some w) g (first-use (codes "threads") (reading_by (filled threads_rule)) CommandLine (w ∷ []) (held_rows h) f.threads_are) (finds-threads (held_rows h) names w g f)

pub mark-held : (h : Held) (names : List Text) (t : Option Text) → Finds (held_rows h) names t false → Finds (held_rows (marked h)) names t true
mark-held h names t f = finds-of _ _ names t true (first-use (codes "keep-going") (reading_by (filled keep_going_rule)) CommandLine (codes "true" ∷ []) (held_rows h) f.mark_is) (finds-mark (held_rows h) names t f)

-- The walk is between two words, and holds these arguments.
pub record Holds (at : Walk) (names : List Text) (threads : Option Text) (goes : Bool) : Type 0 where
  pub held : Held
  pub position : ℕ
  pub at_is : at ≡ between held position
  pub finds : Finds (held_rows held) names threads goes

abbrev pub Plain : Option Text → Type 0
Plain threads = IfSome threads (λ w. is_file_name w ≡ true)

abbrev either : Option Text → Option Text → Option Text
either None t = t
either (Some w) t = Some w

either-none : (t : Option Text) → either t None ≡ t
either-none None = refl
either-none (Some w) = refl

or-false : (g : Bool) → (g || false) ≡ g
or-false true = refl
or-false false = refl

-- a step of the walk, and then the rest
onward : (rest names : List Text) (threads : Option Text) (goes : Bool) (p q : Walk) → p ≡ q → Holds (fold (walked rules []) q rest) names threads goes → Holds (fold (walked rules []) p rest) names threads goes
onward rest names threads goes p q same h = subst (λ (at : Walk). Holds (fold (walked rules []) at rest) names threads goes) (sym same) h

-- The walk over arguments holds them, after those that it held before.
through : (ws names : List Text) (threads : Option Text) (goes : Bool) → AreArguments ws names threads goes → (before : List Text) (t : Option Text) (g : Bool) (h : Held)
    → length before + length names ≤ 4 → Plain threads → (is_some threads ≡ true → t ≡ None) → (goes ≡ true → g ≡ false) → Finds (held_rows h) before t g
    → Holds (fold (walked rules []) (between h (1 + length before)) ws) (before ++ names) (either t threads) (g || goes)
through ws names threads goes no_words before t g h few plain once mark f = record {
  held = h;
  position = 1 + length before;
  at_is = refl;
  finds = rw (append-nil before, either-none t, or-false g) f;
}
through ws names threads goes (name_and {word = word} {rest = rest} {names = more} e a) [] t g h few plain once mark f =
    onward rest (word ∷ more) (either t threads) (g || goes) _ (between (taken (codes "first") h word) 2) (name-step word h 1 e ∙ first-taken h word)
    (through rest more threads goes a (word ∷ []) t g (taken (codes "first") h word) (omega (arith, few)) plain once mark (first-held h t g word f))
through ws names threads goes (name_and {word = word} {rest = rest} {names = more} e a) (v ∷ []) t g h few plain once mark f =
    onward rest (v ∷ word ∷ more) (either t threads) (g || goes) _ (between (taken (codes "second") h word) 3) (name-step word h 2 e ∙ second-taken h word)
    (through rest more threads goes a (v ∷ word ∷ []) t g (taken (codes "second") h word) (omega (arith, few)) plain once mark (second-held h t g v word f))
through ws names threads goes (name_and {word = word} {rest = rest} {names = more} e a) (u ∷ v ∷ []) t g h few plain once mark f =
    onward rest (u ∷ v ∷ word ∷ more) (either t threads) (g || goes) _ (between (taken (codes "third") h word) 4) (name-step word h 3 e ∙ third-taken h word)
    (through rest more threads goes a (u ∷ v ∷ word ∷ []) t g (taken (codes "third") h word) (omega (arith, few)) plain once mark (third-held h t g u v word f))
through ws names threads goes (name_and {word = word} {rest = rest} {names = more} e a) (s ∷ u ∷ v ∷ []) t g h few plain once mark f =
    onward rest (s ∷ u ∷ v ∷ word ∷ more) (either t threads) (g || goes) _ (between (taken (codes "fourth") h word) 5) (name-step word h 4 e ∙ fourth-taken h word)
    (through rest more threads goes a (s ∷ u ∷ v ∷ word ∷ []) t g (taken (codes "fourth") h word) (omega (arith, few)) plain once mark (fourth-held h t g s u v word f))
through ws names threads goes (name_and e a) (s ∷ u ∷ v ∷ w ∷ before) t g h few plain once mark f = absurd (omega (arith, few))
through ws names threads goes (threads_and {count = count} {rest = rest} a) before None g h few plain once mark f =
    onward rest (before ++ names) (Some count) (g || goes) _ (between (counted h count) (1 + length before)) (ap (λ (at : Walk). walked rules [] at count) (threads-step h (1 + length before)) ∙ count-step count h (1 + length before) plain)
    (through rest names None goes a before (Some count) g (counted h count) few tt (λ e. absurd (true≢false (sym e))) mark (threads-held h before count g f))
through ws names threads goes (threads_and a) before (Some w) g h few plain once mark f = absurd (cc (once refl))
through ws names threads goes (threads_with {count = count} {rest = rest} a) before None g h few plain once mark f =
    onward rest (before ++ names) (Some count) (g || goes) _ (between (joined h count) (1 + length before)) (joined-step count h (1 + length before))
    (through rest names None goes a before (Some count) g (joined h count) few tt (λ e. absurd (true≢false (sym e))) mark (joined-held h before count g f))
through ws names threads goes (threads_with a) before (Some w) g h few plain once mark f = absurd (cc (once refl))
through ws names threads goes (mark_and {rest = rest} a) before t false h few plain once mark f =
    onward rest (before ++ names) (either t threads) true _ (between (marked h) (1 + length before)) (mark-step h (1 + length before))
    (through rest names threads false a before t true (marked h) few plain once (λ e. absurd (true≢false (sym e))) (mark-held h before t f))
through ws names threads goes (mark_and a) before t true h few plain once mark f = absurd (cc (mark refl))

-- what `clap` gives by the ids
record GivesRows (rows : List Row) (names : List Text) (threads : Option Text) (goes : Bool) : Type 0 where
  first_is : first_of (codes "first") rows ≡ slice_get names 0
  second_is : first_of (codes "second") rows ≡ slice_get names 1
  third_is : first_of (codes "third") rows ≡ slice_get names 2
  fourth_is : first_of (codes "fourth") rows ≡ slice_get names 3
  threads_are : first_of (codes "threads") rows ≡ threads
  mark_is : one_of (codes "keep-going") rows ≡ Some (cond goes (codes "true") (codes "false"))

no-default : (b : Bool) (rows : List Row) → cond b rows rows ≡ rows
no-default true rows = refl
no-default false rows = refl

value-of : (a : Rule) (o : Option Text) → option_and_then (λ (r : Row). slice_get r.values 0) (option_map (name_row a) o) ≡ o
value-of a None = refl
value-of a (Some w) = refl

abbrev default_row : Row
default_row = new_row (codes "keep-going") (reading_by (filled keep_going_rule)) DefaultValue (codes "false" ∷ [])

-- At the end of the walk a mark that wasn't used has its default.
with-default : (rows : List Row) (names : List Text) (threads : Option Text) (goes : Bool) → Finds rows names threads goes
    → GivesRows (cond (has_row (codes "keep-going") rows) rows (with_values (codes "keep-going") (reading_by (filled keep_going_rule)) DefaultValue (codes "false" ∷ []) rows)) names threads goes
with-default rows names threads goes f = go goes f (any-found (is_of (codes "keep-going")) rows) where
  go : (g : Bool) → Finds rows names threads g → has_row (codes "keep-going") rows ≡ is_some (find (is_of (codes "keep-going")) rows)
      → GivesRows (cond (has_row (codes "keep-going") rows) rows (with_values (codes "keep-going") (reading_by (filled keep_going_rule)) DefaultValue (codes "false" ∷ []) rows)) names threads g
  go true f has =
      let there : has_row (codes "keep-going") rows ≡ true = has ∙ ap is_some f.mark_is in
      rw there (record {
        first_is = ap (option_and_then (λ (r : Row). slice_get r.values 0)) f.first_is ∙ value-of first (slice_get names 0);
        second_is = ap (option_and_then (λ (r : Row). slice_get r.values 0)) f.second_is ∙ value-of second (slice_get names 1);
        third_is = ap (option_and_then (λ (r : Row). slice_get r.values 0)) f.third_is ∙ value-of third (slice_get names 2);
        fourth_is = ap (option_and_then (λ (r : Row). slice_get r.values 0)) f.fourth_is ∙ value-of fourth (slice_get names 3);
        threads_are = ap (option_and_then (λ (r : Row). slice_get r.values 0)) f.threads_are ∙ value-of threads_rule threads;
        mark_is = ap (option_and_then row_text) f.mark_is;
      })
  go false f has =
      let missing : has_row (codes "keep-going") rows ≡ false = has ∙ ap is_some f.mark_is in
      let more : with_values (codes "keep-going") (reading_by (filled keep_going_rule)) DefaultValue (codes "false" ∷ []) rows ≡ rows ++ default_row ∷ [] = at-end (codes "keep-going") (more_values DefaultValue (codes "false" ∷ [])) (default_row ∷ []) rows f.mark_is in
      rw (missing, more) (record {
        first_is = ap (option_and_then (λ (r : Row). slice_get r.values 0)) (found-old _ rows default_row refl ∙ f.first_is) ∙ value-of first (slice_get names 0);
        second_is = ap (option_and_then (λ (r : Row). slice_get r.values 0)) (found-old _ rows default_row refl ∙ f.second_is) ∙ value-of second (slice_get names 1);
        third_is = ap (option_and_then (λ (r : Row). slice_get r.values 0)) (found-old _ rows default_row refl ∙ f.third_is) ∙ value-of third (slice_get names 2);
        fourth_is = ap (option_and_then (λ (r : Row). slice_get r.values 0)) (found-old _ rows default_row refl ∙ f.fourth_is) ∙ value-of fourth (slice_get names 3);
        threads_are = ap (option_and_then (λ (r : Row). slice_get r.values 0)) (found-old _ rows default_row refl ∙ f.threads_are) ∙ value-of threads_rule threads;
        mark_is = ap (option_and_then row_text) (found-new _ rows default_row f.mark_is refl);
      })

ends : (h : Held) (names : List Text) (threads : Option Text) (goes : Bool) → Finds (held_rows h) names threads goes → GivesRows (finished rules h) names threads goes
ends h names threads goes f =
    let one = no-default (has_row (codes "first") (held_rows h)) (held_rows h) in
    let two = no-default (has_row (codes "second") (held_rows h)) (held_rows h) in
    let three = no-default (has_row (codes "third") (held_rows h)) (held_rows h) in
    let four = no-default (has_row (codes "fourth") (held_rows h)) (held_rows h) in
    let five = no-default (has_row (codes "threads") (held_rows h)) (held_rows h) in
    rw (one, two, three, four, five) (with-default (held_rows h) names threads goes f)

pub nothing-found : Finds [] [] None false
nothing-found = record { first_is = refl; second_is = refl; third_is = refl; fourth_is = refl; threads_are = refl; mark_is = refl }

-- The walk over the arguments of a command's words holds them.
pub walk-holds : (words : List Text) (word : Text) (names : List Text) (threads : Option Text) (goes : Bool) → ArePlain names threads → (said : AreWords words word names threads goes)
    → Holds (fold (walked rules []) (between nothing_held 1) said.rest) names threads goes
walk-holds words word names threads goes plain said = let few = plain.few in through said.rest names threads goes said.arguments [] None false nothing_held (omega (arith, few)) plain.no_dash (λ e. refl) (λ e. refl) nothing-found

-- Of the words of a command `clap` gives its values.
pub gives-values : (words : List Text) (word : Text) (names : List Text) (threads : Option Text) (goes : Bool) (m : ArgMatches) → HasMatchesOf program words m → AreWords words word names threads goes → ArePlain names threads → HasFoundValues (found_of m) names threads goes
gives-values words word names threads goes m matches said plain =
    let held = walk-holds words word names threads goes plain said in
    let found : rows_of (found_of m) ≡ finished rules held.held = (matches simple).0 ∙ ap (matches_of program) said.words_are ∙ ap (λ (at : Walk). finished rules at.held) held.at_is in
    let given = subst (λ (r : List Row). GivesRows r names threads goes) (sym found) (ends held.held names threads goes held.finds) in record {
      first = first_value-rows (found_of m) (codes "first") ∙ given.first_is;
      second = first_value-rows (found_of m) (codes "second") ∙ given.second_is;
      third = first_value-rows (found_of m) (codes "third") ∙ given.third_is;
      fourth = first_value-rows (found_of m) (codes "fourth") ∙ given.fourth_is;
      threads_are = first_value-rows (found_of m) (codes "threads") ∙ given.threads_are;
      mark = one_text-rows (found_of m) (codes "keep-going") ∙ given.mark_is;
    }
