-- That `clap` takes the words of a command: each word passes, since no argument is used twice.
use Rattle.std.proofs.Common.{◌≡◌, refl, sym, ◌∙◌, ap, ℕ, ◌+◌, ◌≤◌, ◌==◌, Bool, true, false, not, ◌||◌, ◌&&◌, List, [], ◌∷◌, ◌++◌, fold, find, length, codes, Option, Some, None, is_some, true≢false, arith}
use Rattle.clap.specs.Walk.{Row, Text, Held, Walk, value, walked, nothing_held, is_pending, has_row}
use Rattle.clap.specs.Simple.{Shape, built, filled, with_index}
use Rattle.clap.specs.Takes.{settle_passes, step_passes, turn_passes, walk_passes, built_takes, takes}
use Rattle.clap.proofs.OnLiterals.{clap_on_literals}
use Rattle.command_words.specs.WordForms.{ArePlain}
use Rattle.command_words.specs.GetWords.{is_file_name, keep_going_word}
use Rattle.command_words.specs.Words.{threads_word, threads_front, AreArguments, no_words, name_and, threads_and, threads_with, mark_and, AreWords}
use Rattle.command_words.proofs.ClapValues.{program, rules, simple, first, second, third, fourth, between, waiting-for, taken, counted, joined, marked, is_of, any-found, held_rows, Finds, Plain, name-step, first-taken, second-taken, third-taken, fourth-taken, threads-step, count-step, joined-step, mark-step, first-held, second-held, third-held, fourth-held, threads-held, joined-held, mark-held, nothing-found, walk-holds}

abbrev shape : Shape
shape = (built program).top

both : (a b : Bool) → a ≡ true → b ≡ true → (a && b) ≡ true
both a b e f = rw (e, f) refl

no-row : (id : Text) (rows : List Row) → find (is_of id) rows ≡ None → has_row id rows ≡ false
no-row id rows none = any-found (is_of id) rows ∙ ap is_some none

-- What waits to be used can be.
abbrev Settles : Held → Type 0
Settles h = settle_passes rules false h ≡ true

-- A name passes if what was held before it can be used,
name-passes : (w : Text) (h : Held) (position : ℕ) → is_file_name w ≡ true → turn_passes shape [] (between h position) w ≡ step_passes shape position h value
name-passes [] h position e = absurd (true≢false (sym e))
name-passes (b ∷ []) h position e = go (b == 45) refl where
  go : (t : Bool) → (b == 45) ≡ t → turn_passes shape [] (between h position) (b ∷ []) ≡ step_passes shape position h value
  go true eq = rw (eq, eq) refl
  go false eq = rw (eq, eq) refl
name-passes (b ∷ c ∷ bs) h position e = go (b == 45) refl e where
  go : (t : Bool) → (b == 45) ≡ t → not t ≡ true → turn_passes shape [] (between h position) (b ∷ c ∷ bs) ≡ step_passes shape position h value
  go true eq f = absurd (true≢false (sym f))
  go false eq f = rw (eq, eq) refl

-- at each of the four positions, none of which takes a second word.
begun : (pending settles : Bool) → settles ≡ true → (pending && false || settles) ≡ true
begun true settles e = e
begun false settles e = e

first-passes : (h : Held) → Settles h → step_passes shape 1 h value ≡ true
first-passes h s = begun (is_pending (with_index 1 (filled first)) h.pending) (settle_passes rules false h) s

second-passes : (h : Held) → Settles h → step_passes shape 2 h value ≡ true
second-passes h s = begun (is_pending (with_index 2 (filled second)) h.pending) (settle_passes rules false h) s

third-passes : (h : Held) → Settles h → step_passes shape 3 h value ≡ true
third-passes h s = begun (is_pending (with_index 3 (filled third)) h.pending) (settle_passes rules false h) s

fourth-passes : (h : Held) → Settles h → step_passes shape 4 h value ≡ true
fourth-passes h s = begun (is_pending (with_index 4 (filled fourth)) h.pending) (settle_passes rules false h) s

-- So does `--threads`, and the word after it whatever is held.
threads-passes : (h : Held) (position : ℕ) → Settles h → turn_passes shape [] (between h position) threads_word ≡ true
unfolding clap_on_literals
threads-passes h position s = both (settle_passes rules false h) true s refl

count-passes : (w : Text) (h : Held) (position : ℕ) → is_file_name w ≡ true → turn_passes shape [] (waiting-for h position) w ≡ true
count-passes [] h position e = absurd (true≢false (sym e))
count-passes (b ∷ []) h position e = go (b == 45) refl where
  go : (t : Bool) → (b == 45) ≡ t → turn_passes shape [] (waiting-for h position) (b ∷ []) ≡ true
  go true eq = rw (eq, eq) refl
  go false eq = rw (eq, eq) refl
count-passes (b ∷ c ∷ bs) h position e = go (b == 45) refl e where
  go : (t : Bool) → (b == 45) ≡ t → not t ≡ true → turn_passes shape [] (waiting-for h position) (b ∷ c ∷ bs) ≡ true
  go true eq f = absurd (true≢false (sym f))
  go false eq f = rw (eq, eq) refl

-- `--threads=` with its value is used at once, for which `--threads` may have no row yet.
joined-passes : (w : Text) (h : Held) (position : ℕ) → Settles h → has_row (codes "threads") (held_rows h) ≡ false → turn_passes shape [] (between h position) (threads_front ++ w) ≡ true
unfolding clap_on_literals
joined-passes w h position s none = rw (s, none) refl

-- `--keep-going` is used at once, for which it may have no row yet.
mark-passes : (h : Held) (position : ℕ) → Settles h → has_row (codes "keep-going") (held_rows h) ≡ false → turn_passes shape [] (between h position) keep_going_word ≡ true
unfolding clap_on_literals
mark-passes h position s none = rw (s, none) refl

-- The value of an argument that has no row yet can be used.
first-settles : (h : Held) (w : Text) → has_row (codes "first") (held_rows h) ≡ false → Settles (taken (codes "first") h w)
first-settles h w none = rw none refl

second-settles : (h : Held) (w : Text) → has_row (codes "second") (held_rows h) ≡ false → Settles (taken (codes "second") h w)
second-settles h w none = rw none refl

third-settles : (h : Held) (w : Text) → has_row (codes "third") (held_rows h) ≡ false → Settles (taken (codes "third") h w)
third-settles h w none = rw none refl

fourth-settles : (h : Held) (w : Text) → has_row (codes "fourth") (held_rows h) ≡ false → Settles (taken (codes "fourth") h w)
fourth-settles h w none = rw none refl

threads-settle : (h : Held) (w : Text) → has_row (codes "threads") (held_rows h) ≡ false → Settles (counted h w)
threads-settle h w none = rw none refl

-- From here on each word passes, and what waits at the end can be used.
record Passes (at : Walk) (ws : List Text) : Type 0 where
  walks : walk_passes shape [] at ws ≡ true
  settles : Settles (fold (walked rules []) at ws).held

-- a word that passes, and then the rest
onward : (p q : Walk) (w : Text) (ws : List Text) → walked rules [] p w ≡ q → turn_passes shape [] p w ≡ true → Passes q ws → Passes p (w ∷ ws)
unfolding walk_passes
onward p q w ws is passes rest = record {
  walks = both (turn_passes shape [] p w) (walk_passes shape [] (walked rules [] p w) ws) passes (ap (λ (at : Walk). walk_passes shape [] at ws) is ∙ rest.walks);
  settles = ap (λ (at : Walk). settle_passes rules false (fold (walked rules []) at ws).held) is ∙ rest.settles;
}

-- Arguments pass, after others that are held.
through : (ws names : List Text) (threads : Option Text) (goes : Bool) → AreArguments ws names threads goes → (before : List Text) (t : Option Text) (g : Bool) (h : Held)
    → length before + length names ≤ 4 → Plain threads → (is_some threads ≡ true → t ≡ None) → (goes ≡ true → g ≡ false) → Finds (held_rows h) before t g → Settles h
    → Passes (between h (1 + length before)) ws
unfolding walk_passes
through ws names threads goes no_words before t g h few plain once mark f s = record { walks = refl; settles = s }
through ws names threads goes (name_and {word = word} {rest = rest} {names = more} e a) [] t g h few plain once mark f s =
    let next = first-settles h word (no-row (codes "first") (held_rows h) f.first_is) in
    onward (between h 1) (between (taken (codes "first") h word) 2) word rest (name-step word h 1 e ∙ first-taken h word) (name-passes word h 1 e ∙ first-passes h s)
    (through rest more threads goes a (word ∷ []) t g (taken (codes "first") h word) (omega (arith, few)) plain once mark (first-held h t g word f) next)
through ws names threads goes (name_and {word = word} {rest = rest} {names = more} e a) (v ∷ []) t g h few plain once mark f s =
    let next = second-settles h word (no-row (codes "second") (held_rows h) f.second_is) in
    onward (between h 2) (between (taken (codes "second") h word) 3) word rest (name-step word h 2 e ∙ second-taken h word) (name-passes word h 2 e ∙ second-passes h s)
    (through rest more threads goes a (v ∷ word ∷ []) t g (taken (codes "second") h word) (omega (arith, few)) plain once mark (second-held h t g v word f) next)
through ws names threads goes (name_and {word = word} {rest = rest} {names = more} e a) (u ∷ v ∷ []) t g h few plain once mark f s =
    let next = third-settles h word (no-row (codes "third") (held_rows h) f.third_is) in
    onward (between h 3) (between (taken (codes "third") h word) 4) word rest (name-step word h 3 e ∙ third-taken h word) (name-passes word h 3 e ∙ third-passes h s)
    (through rest more threads goes a (u ∷ v ∷ word ∷ []) t g (taken (codes "third") h word) (omega (arith, few)) plain once mark (third-held h t g u v word f) next)
through ws names threads goes (name_and {word = word} {rest = rest} {names = more} e a) (z ∷ u ∷ v ∷ []) t g h few plain once mark f s =
    let next = fourth-settles h word (no-row (codes "fourth") (held_rows h) f.fourth_is) in
    onward (between h 4) (between (taken (codes "fourth") h word) 5) word rest (name-step word h 4 e ∙ fourth-taken h word) (name-passes word h 4 e ∙ fourth-passes h s)
    (through rest more threads goes a (z ∷ u ∷ v ∷ word ∷ []) t g (taken (codes "fourth") h word) (omega (arith, few)) plain once mark (fourth-held h t g z u v word f) next)
through ws names threads goes (name_and e a) (z ∷ u ∷ v ∷ w ∷ before) t g h few plain once mark f s = absurd (omega (arith, few))
through ws names threads goes (threads_and {count = count} {rest = rest} a) before None g h few plain once mark f s =
    let next = threads-settle h count (no-row (codes "threads") (held_rows h) f.threads_are) in
    onward (between h (1 + length before)) (waiting-for h (1 + length before)) threads_word (count ∷ rest) (threads-step h (1 + length before)) (threads-passes h (1 + length before) s)
    (onward (waiting-for h (1 + length before)) (between (counted h count) (1 + length before)) count rest (count-step count h (1 + length before) plain) (count-passes count h (1 + length before) plain)
    (through rest names None goes a before (Some count) g (counted h count) few tt (λ e. absurd (true≢false (sym e))) mark (threads-held h before count g f) next))
through ws names threads goes (threads_and a) before (Some w) g h few plain once mark f s = absurd (cc (once refl))
through ws names threads goes (threads_with {count = count} {rest = rest} a) before None g h few plain once mark f s =
    let passes = joined-passes count h (1 + length before) s (no-row (codes "threads") (held_rows h) f.threads_are) in
    onward (between h (1 + length before)) (between (joined h count) (1 + length before)) (threads_front ++ count) rest (joined-step count h (1 + length before)) passes
    (through rest names None goes a before (Some count) g (joined h count) few tt (λ e. absurd (true≢false (sym e))) mark (joined-held h before count g f) refl)
through ws names threads goes (threads_with a) before (Some w) g h few plain once mark f s = absurd (cc (once refl))
through ws names threads goes (mark_and {rest = rest} a) before t false h few plain once mark f s =
    let passes = mark-passes h (1 + length before) s (no-row (codes "keep-going") (held_rows h) f.mark_is) in
    onward (between h (1 + length before)) (between (marked h) (1 + length before)) keep_going_word rest (mark-step h (1 + length before)) passes
    (through rest names threads false a before t true (marked h) few plain once (λ e. absurd (true≢false (sym e))) (mark-held h before t f) refl)
through ws names threads goes (mark_and a) before t true h few plain once mark f s = absurd (cc (mark refl))

-- The words pass that end between two words.
passes : (ws : List Text) (h : Held) (position : ℕ) → fold (walked rules []) (between nothing_held 1) ws ≡ between h position → Passes (between nothing_held 1) ws → built_takes (built program) nothing_held ws ≡ true
passes ws h position end p =
    let settles : Settles h = ap (λ (at : Walk). settle_passes rules false at.held) (sym end) ∙ p.settles in
    rw (p.walks, end, settles) refl

-- `clap` takes the words of a command.
pub takes-words : (words : List Text) (word : Text) (names : List Text) (threads : Option Text) (goes : Bool) → AreWords words word names threads goes → ArePlain names threads → takes program words ≡ true
takes-words words word names threads goes said plain =
    let few = plain.few in
    let walk = through said.rest names threads goes said.arguments [] None false nothing_held (omega (arith, few)) plain.no_dash (λ e. refl) (λ e. refl) nothing-found refl in
    let held = walk-holds words word names threads goes plain said in
    ap (takes program) said.words_are ∙ both _ _ simple (passes said.rest held.held held.position held.at_is walk)
