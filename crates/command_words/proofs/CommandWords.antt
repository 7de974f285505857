-- The shape of a command's words, and that the words are one command at most.
use Rattle.std.proofs.Common.{◌≡◌, refl, sym, ◌∙◌, ap, subst, ℕ, suc, ◌+◌, ◌<◌, ◌≤◌, ◌^◌, Bool, true, false, not, cond, ◌&&◌, ◌||◌, List, [], ◌∷◌, ◌++◌, length, fold, map, drop, codes, decimal, Option, Some, None, Result, Ok, is_some, arith, true≢false, ne_eqb, get_or, le-leb, leb-true, eqb-true, inl, inr}
use Rattle.std.specs.Prelude.{◌⊎◌, nat_le, nat_lt, bytes_eq, ◌==◌, IfSome}
use Rattle.std.specs.Bool.{then_some}
use Rattle.std.specs.List.{count_by}
use Rattle.std.specs.Str.Parse.{digits_value, ParsesUnsigned}
use Rattle.std.proofs.lemmas.Fmt.{decimal_is_IsNumeral, decimal_nonempty, decimal_injective, parse-decimal}
use Rattle.std.proofs.Math.Seq.{drop-cons}
use Rattle.std.proofs.lemmas.List.Sums.{sum_by-cons}
use Rattle.std.proofs.lemmas.Slice.Eq.{bytes_eq-Decides}
use Rattle.std.proofs.lemmas.Str.Parse.{digit_at}
use Rattle.command_words.specs.declared.shape.Verb.{Verb}
use Rattle.command_words.specs.declared.shape.Verb.TheVariants.{Run, List as Lists, Dump, Drill, Judge, Capture, Desk, Get, Compare, Explain, Stat, Sets}
use Rattle.command_words.specs.declared.shape.Shape.{Shape}
use Rattle.command_words.specs.GetWords.{Asked, asked, is_file_name, keep_going_word}
use Rattle.command_words.specs.Words.{stdin_name, is_stdin, verb_word, IsNumber, AreThreads, AreWords, ArePacketWords, Command, run, list, dump, drill, judge, capture, desk, get, stat, IsCommand, AreArguments, no_words, name_and, threads_and, threads_with, mark_and, threads_word, threads_front, last_seed, most_drill_elements, AreFileWords, compare, explain, judge_capture, sets_of}
use Rattle.command_words.specs.Fronts.{after_front}
use Rattle.command_words.specs.Numbers.{number_within}
use Rattle.command_words.specs.WordForms.{verb_of, most_names, has_all, is_whole_shape, empty_shape, stdin_once, fits, accepts, HasVerb, takes_name, takes_threads, takes_mark, with_threads, with_joined, with_argument, with_word, shape_after}
use Rattle.command_words.proofs.FrontLaws.{front-found}

both : (a b : Bool) → (a && b) ≡ true → (a ≡ true) × (b ≡ true)
both true b e = (refl, e)
both false b e = absurd (true≢false (sym e))

pub same-bytes : (a b : List ℕ) → bytes_eq a b ≡ true → a ≡ b
same-bytes a b e = (bytes_eq-Decides a b).0 e

pub bytes-same : (a : List ℕ) → bytes_eq a a ≡ true
bytes-same a = (bytes_eq-Decides a a).1 refl

-- A test that is passed.
then_some-some : {X : Type 0} (test : Bool) (x y : X) → then_some test x ≡ Some y → (test ≡ true) × (x ≡ y)
then_some-some true x y e = (refl, cc e)
then_some-some false x y e = absurd (cc e)

pub number-sound : (low high : ℕ) (word : List ℕ) (n : ℕ) → number_within low high word ≡ Some n → IsNumber low high word n
unfolding number_within
number-sound low high word n e =
    let k = then_some-some _ (digits_value 10 word) n e in
    let a = both _ _ k.0 in
    let b = both _ _ a.1 in
    let same = k.1 in
    (same-bytes word _ a.0 ∙ ap decimal same, subst (λ m. low ≤ m) same (leb-true _ _ b.0), subst (λ m. m ≤ high) same (leb-true _ _ b.1))

pub number-complete : (low high : ℕ) (word : List ℕ) (n : ℕ) → high < 2 ^ 64 → IsNumber low high word n → number_within low high word ≡ Some n
unfolding number_within
number-complete low high word n small h =
    let fits : n < 2 ^ 64 = omega (arith, h.2, small) in
    let value : digits_value 10 word ≡ n = ap (digits_value 10) h.0 ∙ (decimal_is_IsNumeral n fits).1 in
    rw (value, h.0, bytes-same (decimal n), le-leb _ _ h.1, le-leb _ _ h.2) refl

-- A word writes no number if it is parsed as none that fits.
pub number-none : {E : Type 0} (low high : ℕ) (word : List ℕ) (r : Result ℕ E) → high < 2 ^ 64 → ParsesUnsigned 64 10 word r → ((n : ℕ) → r ≡ Ok n → IsNumber low high word n → ⊥) → None ≡ number_within low high word
number-none low high word r small parsed never = go (number_within low high word) refl where
  go : (o : Option ℕ) → number_within low high word ≡ o → None ≡ o
  go None e = refl
  go (Some n) e = let h = number-sound low high word n e in absurd (never n (parse-decimal 64 n word r (omega (arith, h.2, small)) (omega (arith, h.2, small)) h.0 parsed) h)

-- a name is no option
name-no-option : (option word : List ℕ) → is_file_name option ≡ false → is_file_name word ≡ true → bytes_eq word option ≡ false
name-no-option option word dash e = go (bytes_eq word option) refl where
  go : (t : Bool) → bytes_eq word option ≡ t → t ≡ false
  go true same = absurd (true≢false (sym e ∙ ap is_file_name (same-bytes word option same) ∙ dash))
  go false same = refl

name-not-joined : (word : List ℕ) → is_file_name word ≡ true → after_front threads_front word ≡ None
name-not-joined [] e = refl
name-not-joined (b ∷ []) e = go (45 == b) where
  go : (t : Bool) → cond t (after_front (codes "-threads=") []) None ≡ None
  go true = refl
  go false = refl
name-not-joined (b ∷ c ∷ word) e = go (45 == b) refl e where
  go : (t : Bool) → (45 == b) ≡ t → is_file_name (b ∷ c ∷ word) ≡ true → cond t (after_front (codes "-threads=") (c ∷ word)) None ≡ None
  go true is f = let dash : 45 ≡ b = eqb-true 45 b is in absurd (true≢false (sym f ∙ ap (λ n. is_file_name (n ∷ c ∷ word)) (sym dash)))
  go false is f = refl

-- the names from a place on are those of a command
abbrev NamesFit : Verb → ℕ → List (List ℕ) → Type 0
NamesFit verb place [] = Unit {0}
NamesFit verb place (word ∷ names) = (takes_name verb place word ≡ true) × NamesFit verb (place + 1) names

-- `--threads` is allowed, and its word is a number of packet threads
abbrev ThreadsFit : Verb → Bool → Option (List ℕ) → Type 0
ThreadsFit verb stood None = Unit {0}
ThreadsFit verb stood (Some word) = (takes_threads verb ≡ true) × (stood ≡ false) × (is_some (number_within 1 16 word) ≡ true)

abbrev MarkFits : Verb → Bool → Bool → Type 0
MarkFits verb stood keep_going = keep_going ≡ true → (takes_mark verb ≡ true) × (stood ≡ false)

abbrev shape : ℕ → Bool → Bool → Bool → Shape
shape names threads keep_going waiting = record { names = names; threads = threads; keep_going = keep_going; waiting = waiting }

-- The words after a shape are these arguments.
record Fits (verb : Verb) (n : ℕ) (t g : Bool) (rest names : List (List ℕ)) (threads : Option (List ℕ)) (keep_going : Bool) : Type 0 where
  arguments : AreArguments rest names threads keep_going
  names_fit : NamesFit verb n names
  threads_fit : ThreadsFit verb t threads
  mark_fits : MarkFits verb g keep_going

and-true : (a b : Bool) → a ≡ true → b ≡ true → (a && b) ≡ true
and-true a b e f = rw (e, f) refl

not-false : (b : Bool) → b ≡ false → not b ≡ true
not-false b e = rw e refl

-- A shape goes through the arguments that fit it, and has all names.
goes-through : (verb : Verb) (rest names : List (List ℕ)) (threads : Option (List ℕ)) (keep_going : Bool) → AreArguments rest names threads keep_going
    → (n : ℕ) (t g : Bool) → NamesFit verb n names → ThreadsFit verb t threads → MarkFits verb g keep_going
    → (s : Shape) × (fold (shape_after verb) (Some (shape n t g false)) rest ≡ Some s) × (s.waiting ≡ false) × (s.names ≡ n + length names)
goes-through verb rest names threads keep_going no_words n t g ns ts gs = (shape n t g false, refl, refl, omega arith)
goes-through verb rest names threads keep_going (name_and {word = word} {rest = ws} {names = ms} e more) n t g ns ts gs =
    let r = goes-through verb ws ms threads keep_going more (n + 1) t g ns.1 ts gs in
    let long = r.3 in
    (r.0, rw (name-no-option threads_word word refl e, name-no-option keep_going_word word refl e, name-not-joined word e, ns.0) r.1, r.2, omega (arith, long))
goes-through verb rest names threads keep_going (threads_and {count = count} {rest = ws} more) n t g ns ts gs =
    let r = goes-through verb ws names None keep_going more n true g ns tt gs in
    (r.0, rw (and-true _ _ ts.0 (not-false t ts.1), ts.2) r.1, r.2, r.3)
goes-through verb rest names threads keep_going (threads_with {count = count} {rest = ws} more) n t g ns ts gs =
    let r = goes-through verb ws names None keep_going more n true g ns tt gs in
    (r.0, rw (and-true _ _ (and-true _ _ ts.0 (not-false t ts.1)) ts.2) r.1, r.2, r.3)
goes-through verb rest names threads keep_going (mark_and {rest = ws} more) n t g ns ts gs =
    let h = gs refl in
    let r = goes-through verb ws names threads false more n t true ns ts (λ e. absurd (true≢false (sym e))) in
    (r.0, rw (and-true _ _ h.0 (not-false g h.1)) r.1, r.2, r.3)

none-stays : (verb : Verb) (words : List (List ℕ)) → fold (shape_after verb) None words ≡ None
none-stays verb [] = refl
none-stays verb (w ∷ words) = none-stays verb words

is-false : (b : Bool) → not b ≡ true → b ≡ false
is-false true e = absurd (true≢false (sym e))
is-false false e = refl

-- What a number is written by is a name.
digit-first : (n : ℕ) → n < 2 ^ 64 → is_file_name (decimal n) ≡ true
digit-first n small = go (decimal n) (decimal_nonempty n small) (digit_at (decimal n) 0 (decimal_is_IsNumeral n small).0.1 (decimal_nonempty n small)).0 where
  go : (word : List ℕ) → 0 < length word → 48 ≤ get_or word 0 0 → is_file_name word ≡ true
  go [] some high = absurd (omega (arith, some))
  go (b ∷ []) some high = refl
  go (b ∷ c ∷ word) some high = ap not (ne_eqb b 45 (λ e. omega (arith, high, e)))

number-name : (low high : ℕ) (word : List ℕ) → high < 2 ^ 64 → is_some (number_within low high word) ≡ true → is_file_name word ≡ true
number-name low high word small e = go (number_within low high word) refl e where
  go : (o : Option ℕ) → number_within low high word ≡ o → is_some o ≡ true → is_file_name word ≡ true
  go None is f = absurd (true≢false (sym f))
  go (Some n) is f = let h = number-sound low high word n is in ap is_file_name h.0 ∙ digit-first n (omega (arith, h.2, small))

no-name : (b : Bool) → (b && false) ≡ true → ⊥
no-name true e = true≢false (sym e)
no-name false e = true≢false (sym e)

name-of-command : (verb : Verb) (place : ℕ) (word : List ℕ) → takes_name verb place word ≡ true → is_file_name word ≡ true
name-of-command Run place word e = (both _ _ e).1
name-of-command Lists place word e = (both _ _ e).1
name-of-command Dump place word e = (both _ _ e).1
name-of-command Stat place word e = (both _ _ e).1
name-of-command Judge place word e = (both _ _ e).1
name-of-command Capture place word e = (both _ _ e).1
name-of-command Desk place word e = (both _ _ e).1
name-of-command Compare place word e = (both _ _ e).1
name-of-command Explain place word e = (both _ _ e).1
name-of-command Sets place word e = (both _ _ e).1
name-of-command Get place word e = absurd (no-name (nat_lt place 1) e)
name-of-command Drill place word e = go (place == 0) (both _ _ e).1 where
  go : (b : Bool) → is_some (cond b (number_within 0 last_seed word) (number_within 1 most_drill_elements word)) ≡ true → is_file_name word ≡ true
  go true f = number-name 0 last_seed word (omega arith) f
  go false f = number-name 1 most_drill_elements word (omega arith) f

-- What a shape came through are arguments that fit it.
record Read (verb : Verb) (n : ℕ) (t g : Bool) (rest : List (List ℕ)) (s : Shape) : Type 0 where
  names : List (List ℕ)
  threads : Option (List ℕ)
  keep_going : Bool
  arguments : AreArguments rest names threads keep_going
  names_fit : NamesFit verb n names
  threads_fit : ThreadsFit verb t threads
  mark_fits : MarkFits verb g keep_going
  count : s.names ≡ n + length names

module _ (verb : Verb) (s : Shape) (ended : s.waiting ≡ false) where
  abbrev Through : ℕ → Bool → Bool → Bool → List (List ℕ) → Type 0
  Through n t g w rest = fold (shape_after verb) (Some (shape n t g w)) rest ≡ Some s

  stopped : {X : Type 0} (words : List (List ℕ)) → fold (shape_after verb) None words ≡ Some s → X
  stopped words e = absurd (cc (none-stays verb words, e))

  no-threads-again : (o : Option (List ℕ)) → ThreadsFit verb true o → o ≡ None
  no-threads-again None h = refl
  no-threads-again (Some w) h = absurd (true≢false h.1)

  -- after `--threads`
  read-threads : (n : ℕ) (g : Bool) (count : List ℕ) (rest : List (List ℕ)) (t : Bool) → (takes_threads verb ≡ true) × (t ≡ false)
      → fold (shape_after verb) (with_threads (shape n true g true) count) rest ≡ Some s → (Through n true g false rest → Read verb n true g rest s) → Read verb n t g (threads_word ∷ count ∷ rest) s
  read-threads n g count rest t allowed e onward = go (is_some (number_within 1 16 count)) refl e where
    go : (b : Bool) → is_some (number_within 1 16 count) ≡ b → fold (shape_after verb) (then_some b (shape n true g false)) rest ≡ Some s → Read verb n t g (threads_word ∷ count ∷ rest) s
    go false is e = stopped rest e
    go true is e =
        let r = onward e in
        let none : r.threads ≡ None = no-threads-again r.threads r.threads_fit in record {
          names = r.names;
          threads = Some count;
          keep_going = r.keep_going;
          arguments = threads_and (subst (λ (o : Option (List ℕ)). AreArguments rest r.names o r.keep_going) none r.arguments);
          names_fit = r.names_fit;
          threads_fit = (allowed.0, allowed.1, is);
          mark_fits = r.mark_fits;
          count = r.count;
        }

  -- a word that begins with `--threads=`
  read-joined : (n : ℕ) (t g : Bool) (count : List ℕ) (rest : List (List ℕ)) → fold (shape_after verb) (then_some ((takes_threads verb && not t) && is_some (number_within 1 16 count)) (shape n true g false)) rest ≡ Some s
      → (Through n true g false rest → Read verb n true g rest s) → Read verb n t g ((threads_front ++ count) ∷ rest) s
  read-joined n t g count rest e onward = go ((takes_threads verb && not t) && is_some (number_within 1 16 count)) refl e where
    go : (b : Bool) → ((takes_threads verb && not t) && is_some (number_within 1 16 count)) ≡ b → fold (shape_after verb) (then_some b (shape n true g false)) rest ≡ Some s → Read verb n t g ((threads_front ++ count) ∷ rest) s
    go false is e = stopped rest e
    go true is e =
        let r = onward e in
        let k = both _ _ is in
        let allowed = both _ _ k.0 in
        let none : r.threads ≡ None = no-threads-again r.threads r.threads_fit in record {
          names = r.names;
          threads = Some count;
          keep_going = r.keep_going;
          arguments = threads_with (subst (λ (o : Option (List ℕ)). AreArguments rest r.names o r.keep_going) none r.arguments);
          names_fit = r.names_fit;
          threads_fit = (allowed.0, is-false t allowed.1, k.1);
          mark_fits = r.mark_fits;
          count = r.count;
        }

  read-mark : (n : ℕ) (t g : Bool) (rest : List (List ℕ)) → fold (shape_after verb) (then_some (takes_mark verb && not g) (shape n t true false)) rest ≡ Some s
      → (Through n t true false rest → Read verb n t true rest s) → Read verb n t g (keep_going_word ∷ rest) s
  read-mark n t g rest e onward = go (takes_mark verb && not g) refl e where
    unstood : (b : Bool) → MarkFits verb true b → b ≡ false
    unstood true h = absurd (true≢false (h refl).1)
    unstood false h = refl

    go : (b : Bool) → (takes_mark verb && not g) ≡ b → fold (shape_after verb) (then_some b (shape n t true false)) rest ≡ Some s → Read verb n t g (keep_going_word ∷ rest) s
    go false is e = stopped rest e
    go true is e =
        let r = onward e in
        let k = both _ _ is in
        let unmarked : r.keep_going ≡ false = unstood r.keep_going r.mark_fits in record {
          names = r.names;
          threads = r.threads;
          keep_going = true;
          arguments = mark_and (subst (λ (b : Bool). AreArguments rest r.names r.threads b) unmarked r.arguments);
          names_fit = r.names_fit;
          threads_fit = r.threads_fit;
          mark_fits = λ _. (k.0, is-false g k.1);
          count = r.count;
        }

  read-name : (n : ℕ) (t g : Bool) (word : List ℕ) (rest : List (List ℕ)) → fold (shape_after verb) (then_some (takes_name verb n word) (shape (n + 1) t g false)) rest ≡ Some s
      → (Through (n + 1) t g false rest → Read verb (n + 1) t g rest s) → Read verb n t g (word ∷ rest) s
  read-name n t g word rest e onward = go (takes_name verb n word) refl e where
    go : (b : Bool) → takes_name verb n word ≡ b → fold (shape_after verb) (then_some b (shape (n + 1) t g false)) rest ≡ Some s → Read verb n t g (word ∷ rest) s
    go false is e = stopped rest e
    go true is e =
        let r = onward e in
        let long = r.count in record {
          names = word ∷ r.names;
          threads = r.threads;
          keep_going = r.keep_going;
          arguments = name_and (name-of-command verb n word is) r.arguments;
          names_fit = (is, r.names_fit);
          threads_fit = r.threads_fit;
          mark_fits = r.mark_fits;
          count = omega (arith, long);
        }

  -- the four forms of a word
  by-word : (n : ℕ) (t g : Bool) (word : List ℕ) (rest : List (List ℕ)) → fold (shape_after verb) (with_argument verb (shape n t g false) word) rest ≡ Some s
      → (fold (shape_after verb) (then_some (takes_threads verb && not t) (shape n true g true)) rest ≡ Some s → Read verb n t g (threads_word ∷ rest) s)
      → (Through n t true false rest → Read verb n t true rest s) → (Through n true g false rest → Read verb n true g rest s) → (Through (n + 1) t g false rest → Read verb (n + 1) t g rest s) → Read verb n t g (word ∷ rest) s
  by-word n t g word rest e counted marked joined named = go (bytes_eq word threads_word) (bytes_eq word keep_going_word) (after_front threads_front word) refl refl refl e where
    go : (a b : Bool) (o : Option (List ℕ)) → bytes_eq word threads_word ≡ a → bytes_eq word keep_going_word ≡ b → after_front threads_front word ≡ o
        → fold (shape_after verb) (cond a (then_some (takes_threads verb && not t) (shape n true g true)) (cond b (then_some (takes_mark verb && not g) (shape n t true false)) (with_joined verb (shape n t g false) word o))) rest ≡ Some s
        → Read verb n t g (word ∷ rest) s
    go true b o is other front e = subst (λ (w : List ℕ). Read verb n t g (w ∷ rest) s) (sym (same-bytes word threads_word is)) (counted e)
    go false true o is other front e = subst (λ (w : List ℕ). Read verb n t g (w ∷ rest) s) (sym (same-bytes word keep_going_word other)) (read-mark n t g rest e marked)
    go false false (Some count) is other front e = subst (λ (w : List ℕ). Read verb n t g (w ∷ rest) s) (sym (front-found threads_front word count front)) (read-joined n t g count rest e joined)
    go false false None is other front e = read-name n t g word rest e named

  -- a shape that waits isn't whole
  no-end : (n : ℕ) (t g : Bool) → fold (shape_after verb) (then_some (takes_threads verb && not t) (shape n true g true)) [] ≡ Some s → Read verb n t g (threads_word ∷ []) s
  no-end n t g e = let same = (then_some-some _ (shape n true g true) s e).1 in absurd (true≢false (ap (λ (z : Shape). z.waiting) same ∙ ended))

  counted-on : (n : ℕ) (t g : Bool) (count : List ℕ) (rest : List (List ℕ)) → fold (shape_after verb) (then_some (takes_threads verb && not t) (shape n true g true)) (count ∷ rest) ≡ Some s
      → (Through n true g false rest → Read verb n true g rest s) → Read verb n t g (threads_word ∷ count ∷ rest) s
  counted-on n t g count rest e onward = go (takes_threads verb && not t) refl e where
    go : (b : Bool) → (takes_threads verb && not t) ≡ b → fold (shape_after verb) (then_some b (shape n true g true)) (count ∷ rest) ≡ Some s → Read verb n t g (threads_word ∷ count ∷ rest) s
    go false is e = stopped rest e
    go true is e = let k = both _ _ is in read-threads n g count rest t (k.0, is-false t k.1) e onward

  read : (n : ℕ) (t g : Bool) (rest : List (List ℕ)) → Through n t g false rest → Read verb n t g rest s
  read n t g [] e =
      let same : shape n t g false ≡ s = cc e in
      record { names = []; threads = None; keep_going = false; arguments = no_words; names_fit = tt; threads_fit = tt; mark_fits = λ f. absurd (true≢false (sym f)); count = ap (λ (z : Shape). z.names) (sym same) ∙ omega arith }
  read n t g (word ∷ []) e = by-word n t g word [] e (no-end n t g) (λ f. read n t true [] f) (λ f. read n true g [] f) (λ f. read (n + 1) t g [] f)
  read n t g (word ∷ next ∷ rest) e = by-word n t g word (next ∷ rest) e (λ f. counted-on n t g next rest f (λ h. read n true g rest h)) (λ f. read n t true (next ∷ rest) f) (λ f. read n true g (next ∷ rest) f) (λ f. read (n + 1) t g (next ∷ rest) f)

-- how many packet threads the word after `--threads` says
count-of : (threads : Option (List ℕ)) (verb : Verb) (stood : Bool) → ThreadsFit verb stood threads → (n : ℕ) × AreThreads threads n
count-of None verb stood h = (1, refl)
count-of (Some word) verb stood h = go (number_within 1 16 word) refl h.2 where
  go : (o : Option ℕ) → number_within 1 16 word ≡ o → is_some o ≡ true → (n : ℕ) × IsNumber 1 16 word n
  go None is e = absurd (true≢false (sym e))
  go (Some n) is e = (n, number-sound 1 16 word n is)

number-of : (low high : ℕ) (word : List ℕ) → is_some (number_within low high word) ≡ true → (n : ℕ) × IsNumber low high word n
number-of low high word e = go (number_within low high word) refl e where
  go : (o : Option ℕ) → number_within low high word ≡ o → is_some o ≡ true → (n : ℕ) × IsNumber low high word n
  go None is e = absurd (true≢false (sym e))
  go (Some n) is e = (n, number-sound low high word n is)

-- A number isn't the standard input.
number-no-stdin : (low high : ℕ) (word : List ℕ) (n : ℕ) → high < 2 ^ 64 → IsNumber low high word n → is_stdin word ≡ false
number-no-stdin low high word n small h = go (is_stdin word) refl where
  go : (t : Bool) → is_stdin word ≡ t → t ≡ false
  go false e = refl
  go true e =
      let fits : n < 2 ^ 64 = omega (arith, h.2, small) in
      let same : decimal n ≡ stdin_name = sym h.0 ∙ same-bytes word stdin_name e in
      let digit : 48 ≤ get_or (decimal n) 0 0 = (digit_at (decimal n) 0 (decimal_is_IsNumeral n fits).0.1 (decimal_nonempty n fits)).0 in
      let dash : get_or (decimal n) 0 0 ≡ 45 = ap (λ w. get_or w 0 0) same in
      absurd (omega (arith, digit, dash))

abbrev NoStdin : Option (List ℕ) → Type 0
NoStdin threads = IfSome threads (λ word. is_stdin word ≡ false)

threads-no-stdin : (threads : Option (List ℕ)) (n : ℕ) → AreThreads threads n → NoStdin threads
threads-no-stdin None n h = tt
threads-no-stdin (Some word) n h = number-no-stdin 1 16 word n (omega arith) h

one-more : (word : List ℕ) (ws : List (List ℕ)) → count_by is_stdin (word ∷ ws) ≡ cond (is_stdin word) 1 0 + count_by is_stdin ws
one-more word ws = sum_by-cons (λ w. cond (is_stdin w) 1 0) word ws

no-more : (word : List ℕ) (ws : List (List ℕ)) → is_stdin word ≡ false → count_by is_stdin (word ∷ ws) ≡ count_by is_stdin ws
no-more word ws e = let k = one-more word ws ∙ ap (λ t. cond t 1 0 + count_by is_stdin ws) e in omega (arith, k)

-- The standard input is named among the arguments as often as among the names.
stdin-of-arguments : (rest names : List (List ℕ)) (threads : Option (List ℕ)) (keep_going : Bool) → AreArguments rest names threads keep_going → NoStdin threads → count_by is_stdin rest ≡ count_by is_stdin names
stdin-of-arguments rest names threads keep_going no_words plain = refl
stdin-of-arguments rest names threads keep_going (name_and {word = word} {rest = ws} {names = ms} e more) plain = one-more word ws ∙ ap (λ n. cond (is_stdin word) 1 0 + n) (stdin-of-arguments ws ms threads keep_going more plain) ∙ sym (one-more word ms)
stdin-of-arguments rest names threads keep_going (threads_and {count = count} {rest = ws} more) plain = no-more threads_word (count ∷ ws) refl ∙ no-more count ws plain ∙ stdin-of-arguments ws names None keep_going more tt
stdin-of-arguments rest names threads keep_going (threads_with {count = count} {rest = ws} more) plain = no-more (threads_front ++ count) ws refl ∙ stdin-of-arguments ws names None keep_going more tt
stdin-of-arguments rest names threads keep_going (mark_and {rest = ws} more) plain = no-more keep_going_word ws refl ∙ stdin-of-arguments ws names threads false more plain

one-once : (a : List ℕ) → stdin_once (a ∷ []) ≡ true
one-once a = go (is_stdin a) refl where
  go : (x : Bool) → is_stdin a ≡ x → stdin_once (a ∷ []) ≡ true
  go true e = rw e refl
  go false e = rw e refl

numbers-once : (low high k m : ℕ) (a b : List ℕ) (x y : ℕ) → high < 2 ^ 64 → m < 2 ^ 64 → IsNumber low high a x → IsNumber k m b y → stdin_once (a ∷ b ∷ []) ≡ true
numbers-once low high k m a b x y small little h j = rw (number-no-stdin low high a x small h, number-no-stdin k m b y little j) refl

-- A list, a dump, a stat, a desk, an explain and a comparison have no packet threads, and a drill no mark.
no-threads : (verb : Verb) (threads : Option (List ℕ)) → takes_threads verb ≡ false → ThreadsFit verb false threads → threads ≡ None
no-threads verb None e h = refl
no-threads verb (Some word) e h = absurd (true≢false (sym h.0 ∙ e))

no-mark : (verb : Verb) (keep_going : Bool) → takes_mark verb ≡ false → MarkFits verb false keep_going → keep_going ≡ false
no-mark verb true e h = absurd (true≢false (sym (h refl).0 ∙ e))
no-mark verb false e h = refl

-- A number of names that is all of a command's: one number, or two of a `judge`.
abbrev IsAll : Verb → ℕ → Type 0
IsAll Judge n = (n ≡ 3) ⊎ (n ≡ 4)
IsAll verb n = n ≡ most_names verb

all-of : (verb : Verb) (n : ℕ) → has_all verb n ≡ true → IsAll verb n
all-of Run n e = eqb-true _ _ e
all-of Lists n e = eqb-true _ _ e
all-of Dump n e = eqb-true _ _ e
all-of Stat n e = eqb-true _ _ e
all-of Drill n e = eqb-true _ _ e
all-of Capture n e = eqb-true _ _ e
all-of Desk n e = eqb-true _ _ e
all-of Get n e = eqb-true _ _ e
all-of Compare n e = eqb-true _ _ e
all-of Explain n e = eqb-true _ _ e
all-of Sets n e = eqb-true _ _ e
all-of Judge n e = go (n == 3) refl e where
  go : (t : Bool) → (n == 3) ≡ t → (t || (n == 4)) ≡ true → (n ≡ 3) ⊎ (n ≡ 4)
  go true is f = inl (eqb-true _ _ is)
  go false is f = inr (eqb-true _ _ f)

module _ (rest : List (List ℕ)) (threads : Option (List ℕ)) (keep_going : Bool) where
  said : (first : List ℕ) (names : List (List ℕ)) → AreArguments rest names threads keep_going → AreWords (first ∷ rest) first names threads keep_going
  said first names a = record { rest = rest; words_are = refl; arguments = a }

  -- arguments with packet threads
  packet-words : (verb : Verb) (names : List (List ℕ)) → AreArguments rest names threads keep_going → ThreadsFit verb false threads → stdin_once rest ≡ true → (n : ℕ) × ArePacketWords (verb_word verb ∷ rest) (verb_word verb) names n keep_going
  packet-words verb names a ts once =
      let n = count-of threads verb false ts in
      let same = stdin-of-arguments rest names threads keep_going a (threads-no-stdin threads n.0 n.1) in
      (n.0, (threads, said (verb_word verb) names a, n.1, leb-true _ _ (ap (λ k. nat_le k 1) (sym same) ∙ once)))

  -- arguments without
  lone-words : (verb : Verb) (names : List (List ℕ)) → takes_threads verb ≡ false → AreArguments rest names threads keep_going → ThreadsFit verb false threads → AreWords (verb_word verb ∷ rest) (verb_word verb) names None keep_going
  lone-words verb names none a ts = subst (λ (o : Option (List ℕ)). AreWords (verb_word verb ∷ rest) (verb_word verb) names o keep_going) (no-threads verb threads none ts) (said (verb_word verb) names a)

  -- arguments without, of more than one file
  file-words : (verb : Verb) (names : List (List ℕ)) → takes_threads verb ≡ false → AreArguments rest names threads keep_going → ThreadsFit verb false threads → stdin_once rest ≡ true → AreFileWords (verb_word verb ∷ rest) (verb_word verb) names keep_going
  file-words verb names none a ts once =
      let no : threads ≡ None = no-threads verb threads none ts in
      let same = stdin-of-arguments rest names threads keep_going a (subst (λ (o : Option (List ℕ)). NoStdin o) (sym no) tt) in
      (lone-words verb names none a ts, leb-true _ _ (ap (λ k. nat_le k 1) (sym same) ∙ once))

  -- the command of arguments that fit a verb
  by-verb : (verb : Verb) (names : List (List ℕ)) → AreArguments rest names threads keep_going → NamesFit verb 0 names → ThreadsFit verb false threads → MarkFits verb false keep_going → IsAll verb (length names) → stdin_once rest ≡ true → HasVerb (verb_word verb ∷ rest) verb
  by-verb Run (script ∷ keys ∷ []) a ns ts gs count once = let k = packet-words Run (script ∷ keys ∷ []) a ts once in (run script keys k.0 keep_going, k.1, refl)
  by-verb Lists (script ∷ []) a ns ts gs count once = (list script keep_going, lone-words Lists (script ∷ []) refl a ts, refl)
  by-verb Dump (script ∷ []) a ns ts gs count once = (dump script keep_going, lone-words Dump (script ∷ []) refl a ts, refl)
  by-verb Stat (script ∷ []) a ns ts gs count once = (stat script keep_going, lone-words Stat (script ∷ []) refl a ts, refl)
  by-verb Desk (script ∷ []) a ns ts gs count once = (desk script keep_going, lone-words Desk (script ∷ []) refl a ts, refl)
  by-verb Drill (seed ∷ count ∷ []) a ns ts gs _ once =
      let s = number-of 0 last_seed seed ns.0 in
      let c = number-of 1 most_drill_elements count ns.1.0 in
      let n = count-of threads Drill false ts in
      (drill s.0 c.0 n.0, (threads, seed, count, subst (λ (b : Bool). AreWords (codes "drill" ∷ rest) (codes "drill") (seed ∷ count ∷ []) threads b) (no-mark Drill keep_going refl gs) (said (codes "drill") (seed ∷ count ∷ []) a), s.1, c.1, n.1), refl)
  by-verb Judge (script ∷ rules ∷ keys ∷ []) a ns ts gs count once = let k = packet-words Judge (script ∷ rules ∷ keys ∷ []) a ts once in (judge script rules keys k.0 keep_going, k.1, refl)
  by-verb Judge (script ∷ rules ∷ plan ∷ packets ∷ []) a ns ts gs count once = let k = packet-words Judge (script ∷ rules ∷ plan ∷ packets ∷ []) a ts once in (judge_capture script rules plan packets k.0 keep_going, k.1, refl)
  by-verb Capture (script ∷ plan ∷ packets ∷ []) a ns ts gs count once = let k = packet-words Capture (script ∷ plan ∷ packets ∷ []) a ts once in (capture script plan packets k.0 keep_going, k.1, refl)
  by-verb Compare (first ∷ second ∷ []) a ns ts gs count once = (compare first second keep_going, file-words Compare (first ∷ second ∷ []) refl a ts once, refl)
  by-verb Explain (script ∷ keys ∷ []) a ns ts gs count once = (explain script keys keep_going, file-words Explain (script ∷ keys ∷ []) refl a ts once, refl)
  by-verb Sets (file ∷ []) a ns ts gs count once =
      (sets_of file, subst (λ (b : Bool). AreWords (codes "sets" ∷ rest) (codes "sets") (file ∷ []) None b) (no-mark Sets keep_going refl gs) (lone-words Sets (file ∷ []) refl a ts), refl)
  by-verb Get (word ∷ names) a ns ts gs count once = absurd (no-name (nat_lt 0 1) ns.0)
  by-verb Judge names a ns ts gs (inl count) once = absurd (omega (arith, count))
  by-verb Judge names a ns ts gs (inr count) once = absurd (omega (arith, count))
  by-verb verb names a ns ts gs count once = absurd (omega (arith, count))

-- Words of a command's shape are a command.
shape-command : (verb : Verb) (rest : List (List ℕ)) → fits verb rest ≡ true → HasVerb (verb_word verb ∷ rest) verb
shape-command verb rest h = go (fold (shape_after verb) (Some empty_shape) rest) refl (both _ _ h).0 where
  go : (o : Option Shape) → fold (shape_after verb) (Some empty_shape) rest ≡ o → is_whole_shape verb o ≡ true → HasVerb (verb_word verb ∷ rest) verb
  go None e w = absurd (true≢false (sym w))
  go (Some s) e w =
      let k = both _ _ w in
      let r = read verb s (is-false s.waiting k.0) 0 false false rest e in
      by-verb rest r.threads r.keep_going verb r.names r.arguments r.names_fit r.threads_fit r.mark_fits (all-of verb (length r.names) (ap (has_all verb) (let c = r.count in let same : length r.names ≡ s.names = omega (arith, c) in same) ∙ k.1)) (both _ _ h).1

-- Each command but `get` accepts the words that fit it.
pub accepts-shape : (verb : Verb) → (verb ≡ Get → ⊥) → (rest : List (List ℕ)) → accepts verb rest ≡ fits verb rest
accepts-shape Run other rest = refl
accepts-shape Lists other rest = refl
accepts-shape Dump other rest = refl
accepts-shape Stat other rest = refl
accepts-shape Drill other rest = refl
accepts-shape Judge other rest = refl
accepts-shape Capture other rest = refl
accepts-shape Desk other rest = refl
accepts-shape Compare other rest = refl
accepts-shape Explain other rest = refl
accepts-shape Sets other rest = refl
accepts-shape Get other rest = absurd (other refl)

-- Words that ask something are a `get`.
get-command : (rest : List (List ℕ)) → is_some (asked rest) ≡ true → HasVerb (codes "get" ∷ rest) Get
get-command rest e = go (asked rest) refl e where
  go : (o : Option Asked) → asked rest ≡ o → is_some o ≡ true → HasVerb (codes "get" ∷ rest) Get
  go None is f = absurd (true≢false (sym f))
  go (Some a) is f = (get a.script a.key a.moment a.keep_going, record { rest = rest; words_are = refl; asks_are = is }, refl)

-- Words that a command accepts after its word are a command.
pub command-of-shape : (verb : Verb) (rest : List (List ℕ)) → accepts verb rest ≡ true → HasVerb (verb_word verb ∷ rest) verb
command-of-shape Run rest h = shape-command Run rest h
command-of-shape Lists rest h = shape-command Lists rest h
command-of-shape Dump rest h = shape-command Dump rest h
command-of-shape Stat rest h = shape-command Stat rest h
command-of-shape Drill rest h = shape-command Drill rest h
command-of-shape Judge rest h = shape-command Judge rest h
command-of-shape Capture rest h = shape-command Capture rest h
command-of-shape Desk rest h = shape-command Desk rest h
command-of-shape Compare rest h = shape-command Compare rest h
command-of-shape Explain rest h = shape-command Explain rest h
command-of-shape Sets rest h = shape-command Sets rest h
command-of-shape Get rest h = get-command rest h

-- a number that a word writes
writes : (low high : ℕ) (word : List ℕ) (n : ℕ) → high < 2 ^ 64 → IsNumber low high word n → is_some (number_within low high word) ≡ true
writes low high word n small h = ap is_some (number-complete low high word n small h)

threads-fit : (verb : Verb) (threads : Option (List ℕ)) (n : ℕ) → takes_threads verb ≡ true → AreThreads threads n → ThreadsFit verb false threads
threads-fit verb None n takes h = tt
threads-fit verb (Some word) n takes h = (takes, refl, writes 1 16 word n (omega arith) h)

module _ (word : List ℕ) (ws names : List (List ℕ)) (threads : Option (List ℕ)) (keep_going : Bool) (verb : Verb) (a : AreWords (word ∷ ws) (verb_word verb) names threads keep_going) where
  -- A command's arguments have its shape.
  shaped : NamesFit verb 0 names → ThreadsFit verb false threads → MarkFits verb false keep_going → has_all verb (length names) ≡ true → NoStdin threads → stdin_once names ≡ true → (word ≡ verb_word verb) × (fits verb ws ≡ true)
  shaped ns ts gs count plain once =
      let first : word ≡ verb_word verb = cc a.words_are in
      let behind : a.rest ≡ ws = cc a.words_are in
      let given = subst (λ (w : List (List ℕ)). AreArguments w names threads keep_going) behind a.arguments in
      let r = goes-through verb ws names threads keep_going given 0 false false ns ts gs in
      let all : r.0.names ≡ length names = (let c = r.3 in omega (arith, c)) in
      (first, and-true _ _ (ap (is_whole_shape verb) r.1 ∙ and-true _ _ (not-false r.0.waiting r.2) (ap (has_all verb) all ∙ count)) (ap (λ n. nat_le n 1) (stdin-of-arguments ws names threads keep_going given plain) ∙ once))

abbrev AllNames : List (List ℕ) → Type 0
AllNames [] = Unit {0}
AllNames (word ∷ names) = (is_file_name word ≡ true) × AllNames names

-- The names among arguments are names.
pub all-names : (rest names : List (List ℕ)) (threads : Option (List ℕ)) (keep_going : Bool) → AreArguments rest names threads keep_going → AllNames names
all-names rest names threads keep_going no_words = tt
all-names rest names threads keep_going (name_and {rest = ws} {names = ms} e more) = (e, all-names ws ms threads keep_going more)
all-names rest names threads keep_going (threads_and {rest = ws} more) = all-names ws names None keep_going more
all-names rest names threads keep_going (threads_with {rest = ws} more) = all-names ws names None keep_going more
all-names rest names threads keep_going (mark_and {rest = ws} more) = all-names ws names threads false more

names-of : {words names : List (List ℕ)} {first : List ℕ} {threads : Option (List ℕ)} {keep_going : Bool} → AreWords words first names threads keep_going → AllNames names
names-of {names = names} {threads = threads} {keep_going = keep_going} a = all-names a.rest names threads keep_going a.arguments

-- The words of a command have its shape, with packet threads and without.
packet-shape : (word : List ℕ) (ws names : List (List ℕ)) (n : ℕ) (keep_going : Bool) (verb : Verb) → takes_threads verb ≡ true → takes_mark verb ≡ true → (AllNames names → NamesFit verb 0 names) → has_all verb (length names) ≡ true
    → ArePacketWords (word ∷ ws) (verb_word verb) names n keep_going → (word ≡ verb_word verb) × (fits verb ws ≡ true)
packet-shape word ws names n keep_going verb threads mark fit count h =
    shaped word ws names h.0 keep_going verb h.1 (fit (names-of h.1)) (threads-fit verb h.0 n threads h.2) (λ _. (mark, refl)) count (threads-no-stdin h.0 n h.2) (le-leb _ _ h.3)

lone-shape : (word : List ℕ) (ws : List (List ℕ)) (script : List ℕ) (keep_going : Bool) (verb : Verb) → takes_mark verb ≡ true → (AllNames (script ∷ []) → NamesFit verb 0 (script ∷ [])) → has_all verb 1 ≡ true
    → AreWords (word ∷ ws) (verb_word verb) (script ∷ []) None keep_going → (word ≡ verb_word verb) × (fits verb ws ≡ true)
lone-shape word ws script keep_going verb mark fit count h = shaped word ws (script ∷ []) None keep_going verb h (fit (names-of h)) tt (λ _. (mark, refl)) count tt (one-once script)

-- A command accepts its words.
pub shape-of-command : (word : List ℕ) (ws : List (List ℕ)) (c : Command) → IsCommand (word ∷ ws) c → (word ≡ verb_word (verb_of c)) × (accepts (verb_of c) ws ≡ true)
shape-of-command word ws (run script keys n keep_going) h = packet-shape word ws (script ∷ keys ∷ []) n keep_going Run refl refl (λ all. all) refl h
shape-of-command word ws (list script keep_going) h = lone-shape word ws script keep_going Lists refl (λ all. all) refl h
shape-of-command word ws (dump script keep_going) h = lone-shape word ws script keep_going Dump refl (λ all. all) refl h
shape-of-command word ws (stat script keep_going) h = lone-shape word ws script keep_going Stat refl (λ all. all) refl h
shape-of-command word ws (drill seed count n) h = shaped word ws _ h.0 false Drill h.3 (writes 0 last_seed h.1 seed (omega arith) h.4, (writes 1 most_drill_elements h.2 count (omega arith) h.5, tt)) (threads-fit Drill h.0 n refl h.6) (λ e. absurd (true≢false (sym e))) refl (threads-no-stdin h.0 n h.6) (numbers-once 0 last_seed 1 most_drill_elements h.1 h.2 seed count (omega arith) (omega arith) h.4 h.5)
shape-of-command word ws (judge script rules keys n keep_going) h = packet-shape word ws (script ∷ rules ∷ keys ∷ []) n keep_going Judge refl refl (λ all. all) refl h
shape-of-command word ws (judge_capture script rules plan packets n keep_going) h = packet-shape word ws (script ∷ rules ∷ plan ∷ packets ∷ []) n keep_going Judge refl refl (λ all. all) refl h
shape-of-command word ws (capture script plan packets n keep_going) h = packet-shape word ws (script ∷ plan ∷ packets ∷ []) n keep_going Capture refl refl (λ all. all) refl h
shape-of-command word ws (desk script keep_going) h = lone-shape word ws script keep_going Desk refl (λ all. all) refl h
shape-of-command word ws (compare first second keep_going) h = shaped word ws (first ∷ second ∷ []) None keep_going Compare h.0 (names-of h.0) tt (λ _. (refl, refl)) refl tt (le-leb _ _ h.1)
shape-of-command word ws (explain script keys keep_going) h = shaped word ws (script ∷ keys ∷ []) None keep_going Explain h.0 (names-of h.0) tt (λ _. (refl, refl)) refl tt (le-leb _ _ h.1)
shape-of-command word ws (sets_of file) h = shaped word ws (file ∷ []) None false Sets h (names-of h) tt (λ e. absurd (true≢false (sym e))) refl tt (one-once file)
shape-of-command word ws (get script key moment keep_going) h =
    let first : word ≡ codes "get" = cc h.words_are in
    let behind : ws ≡ h.rest = cc h.words_are in
    (first, ap (λ r. is_some (asked r)) behind ∙ ap is_some h.asks_are)

-- what the first of a command's arguments is
pub data Leads (word : List ℕ) (ws names : List (List ℕ)) (threads : Option (List ℕ)) (keep_going : Bool) : Type 0 where
  by_name : (more : List (List ℕ)) → is_file_name word ≡ true → names ≡ word ∷ more → AreArguments ws more threads keep_going → Leads word ws names threads keep_going
  by_threads : (count : List ℕ) (rest : List (List ℕ)) → word ≡ threads_word → ws ≡ count ∷ rest → threads ≡ Some count → AreArguments rest names None keep_going → Leads word ws names threads keep_going
  by_joined : (count : List ℕ) → word ≡ threads_front ++ count → threads ≡ Some count → AreArguments ws names None keep_going → Leads word ws names threads keep_going
  by_mark : word ≡ keep_going_word → keep_going ≡ true → AreArguments ws names threads false → Leads word ws names threads keep_going

pub leads : (word : List ℕ) (ws names : List (List ℕ)) (threads : Option (List ℕ)) (keep_going : Bool) → AreArguments (word ∷ ws) names threads keep_going → Leads word ws names threads keep_going
leads word ws names threads keep_going (name_and {names = more} e a) = by_name more e refl a
leads word ws names threads keep_going (threads_and {count = count} {rest = rest} a) = by_threads count rest refl refl refl a
leads word ws names threads keep_going (threads_with {count = count} a) = by_joined count refl refl a
leads word ws names threads keep_going (mark_and a) = by_mark refl refl a

abbrev Same : List (List ℕ) → List (List ℕ) → Option (List ℕ) → Option (List ℕ) → Bool → Bool → Type 0
Same names ms threads t keep_going g = (names ≡ ms) × (threads ≡ t) × (keep_going ≡ g)

-- Words are one list of arguments at most.
same-arguments : (ws names ms : List (List ℕ)) (threads t : Option (List ℕ)) (keep_going g : Bool) → AreArguments ws names threads keep_going → AreArguments ws ms t g → Same names ms threads t keep_going g
same-arguments ws names ms threads t keep_going g no_words no_words = (refl, refl, refl)
same-arguments ws names ms threads t keep_going g (name_and {word = word} {rest = rest} {names = more} e a) b = go (leads word rest ms t g b) (λ others c. same-arguments rest more others threads t keep_going g a c) where
  go : Leads word rest ms t g → ((others : List (List ℕ)) → AreArguments rest others t g → Same more others threads t keep_going g) → Same (word ∷ more) ms threads t keep_going g
  go (by_name others f is c) onward = let r = onward others c in (ap (λ z. word ∷ z) r.0 ∙ sym is, r.1, r.2)
  go (by_threads count behind is f h c) onward = absurd (true≢false (sym e ∙ ap is_file_name is))
  go (by_joined count is f c) onward = absurd (true≢false (sym e ∙ ap is_file_name is))
  go (by_mark is f c) onward = absurd (true≢false (sym e ∙ ap is_file_name is))
same-arguments ws names ms threads t keep_going g (threads_and {count = count} {rest = rest} a) b = go (leads threads_word (count ∷ rest) ms t g b) (λ c. same-arguments rest names ms None None keep_going g a c) where
  go : Leads threads_word (count ∷ rest) ms t g → (AreArguments rest ms None g → Same names ms None None keep_going g) → Same names ms (Some count) t keep_going g
  go (by_name others f is c) onward = absurd (true≢false (sym f))
  go (by_threads other behind is f h c) onward =
      let tail : behind ≡ rest = cc f in
      let head : count ≡ other = cc f in
      let r = onward (subst (λ (w : List (List ℕ)). AreArguments w ms None g) tail c) in (r.0, ap Some head ∙ sym h, r.2)
  go (by_joined other is f c) onward = absurd (true≢false (ap (bytes_eq threads_word) is))
  go (by_mark is f c) onward = absurd (true≢false (ap (bytes_eq threads_word) is))
same-arguments ws names ms threads t keep_going g (threads_with {count = count} {rest = rest} a) b = go (leads (threads_front ++ count) rest ms t g b) (λ c. same-arguments rest names ms None None keep_going g a c) where
  go : Leads (threads_front ++ count) rest ms t g → (AreArguments rest ms None g → Same names ms None None keep_going g) → Same names ms (Some count) t keep_going g
  go (by_name others f is c) onward = absurd (true≢false (sym f))
  go (by_threads other behind is f h c) onward = absurd (true≢false (sym (ap (λ w. bytes_eq w threads_word) is)))
  go (by_joined other is h c) onward =
      let same : Some count ≡ Some other = ap (after_front threads_front) is in
      let r = onward c in (r.0, same ∙ sym h, r.2)
  go (by_mark is f c) onward = absurd (true≢false (sym (ap (λ w. bytes_eq w keep_going_word) is)))
same-arguments ws names ms threads t keep_going g (mark_and {rest = rest} a) b = go (leads keep_going_word rest ms t g b) (λ c. same-arguments rest names ms threads t false false a c) where
  go : Leads keep_going_word rest ms t g → (AreArguments rest ms t false → Same names ms threads t false false) → Same names ms threads t true g
  go (by_name others f is c) onward = absurd (true≢false (sym f))
  go (by_threads other behind is f h c) onward = absurd (true≢false (ap (bytes_eq keep_going_word) is))
  go (by_joined other is f c) onward = absurd (true≢false (ap (bytes_eq keep_going_word) is))
  go (by_mark is f c) onward = let r = onward c in (r.0, r.1, sym f)

same-words : (words : List (List ℕ)) (first other : List ℕ) (names ms : List (List ℕ)) (threads t : Option (List ℕ)) (keep_going g : Bool) → AreWords words first names threads keep_going → AreWords words other ms t g → (first ≡ other) × (names ≡ ms) × (threads ≡ t) × (keep_going ≡ g)
same-words words first other names ms threads t keep_going g a b =
    let same : first ∷ a.rest ≡ other ∷ b.rest = sym a.words_are ∙ b.words_are in
    let behind : b.rest ≡ a.rest = cc same in
    let r = same-arguments a.rest names ms threads t keep_going g a.arguments (subst (λ (w : List (List ℕ)). AreArguments w ms t g) behind b.arguments) in
    (cc same, r.0, r.1, r.2)

same-number : (low high : ℕ) (v w : List ℕ) (m n : ℕ) → high < 2 ^ 64 → v ≡ w → IsNumber low high v m → IsNumber low high w n → m ≡ n
same-number low high v w m n small same h k = decimal_injective m n (omega (arith, h.2, small)) (omega (arith, k.2, small)) (sym h.0 ∙ same ∙ k.0)

same-threads : (s t : Option (List ℕ)) (m n : ℕ) → s ≡ t → AreThreads s m → AreThreads t n → m ≡ n
same-threads None None m n e h k = h ∙ sym k
same-threads None (Some w) m n e h k = absurd (cc e)
same-threads (Some v) None m n e h k = absurd (cc e)
same-threads (Some v) (Some w) m n e h k = same-number 1 16 v w m n (omega arith) (cc e) h k

-- the verb of a word
verb_named : List ℕ → Verb
verb_named word = cond (bytes_eq word (codes "run")) Run (cond (bytes_eq word (codes "list")) Lists (cond (bytes_eq word (codes "dump")) Dump (cond (bytes_eq word (codes "drill")) Drill
    (cond (bytes_eq word (codes "judge")) Judge (cond (bytes_eq word (codes "capture")) Capture (cond (bytes_eq word (codes "desk")) Desk (cond (bytes_eq word (codes "compare")) Compare (cond (bytes_eq word (codes "stat")) Stat (cond (bytes_eq word (codes "sets")) Sets (cond (bytes_eq word (codes "explain")) Explain Get))))))))))

named-verb : (verb : Verb) → verb_named (verb_word verb) ≡ verb
unfolding verb_named
named-verb Run = refl
named-verb Lists = refl
named-verb Dump = refl
named-verb Stat = refl
named-verb Drill = refl
named-verb Judge = refl
named-verb Capture = refl
named-verb Desk = refl
named-verb Get = refl
named-verb Compare = refl
named-verb Explain = refl
named-verb Sets = refl

pub first-word : (words : List (List ℕ)) (c : Command) → IsCommand words c → (rest : List (List ℕ)) × (words ≡ verb_word (verb_of c) ∷ rest)
first-word words (run script keys n g) h = (h.1.rest, h.1.words_are)
first-word words (list script g) h = (h.rest, h.words_are)
first-word words (dump script g) h = (h.rest, h.words_are)
first-word words (stat script g) h = (h.rest, h.words_are)
first-word words (drill seed count n) h = (h.3.rest, h.3.words_are)
first-word words (judge script rules keys n g) h = (h.1.rest, h.1.words_are)
first-word words (judge_capture script rules plan packets n g) h = (h.1.rest, h.1.words_are)
first-word words (capture script plan packets n g) h = (h.1.rest, h.1.words_are)
first-word words (desk script g) h = (h.rest, h.words_are)
first-word words (get script key moment g) h = (h.rest, h.words_are)
first-word words (compare first second g) h = (h.0.rest, h.0.words_are)
first-word words (explain script keys g) h = (h.0.rest, h.0.words_are)
first-word words (sets_of file) h = (h.rest, h.words_are)

same-packet-words : (words : List (List ℕ)) (first other : List ℕ) (names ms : List (List ℕ)) (n m : ℕ) (keep_going g : Bool) → ArePacketWords words first names n keep_going → ArePacketWords words other ms m g → (names ≡ ms) × (n ≡ m) × (keep_going ≡ g)
same-packet-words words first other names ms n m keep_going g h j =
    let r = same-words words first other names ms h.0 j.0 keep_going g h.1 j.1 in
    (r.1, same-threads h.0 j.0 n m r.2 h.2 j.2, r.3)

-- The words are one command at most.
pub one-command : (words : List (List ℕ)) (c d : Command) → IsCommand words c → IsCommand words d → c ≡ d
one-command words c d h j = one c d verb h j where
  verb : verb_of c ≡ verb_of d
  verb = let same : verb_word (verb_of c) ≡ verb_word (verb_of d) = cc ((first-word words c h).1, (first-word words d j).1) in sym (named-verb (verb_of c)) ∙ ap verb_named same ∙ named-verb (verb_of d)

  one : (c d : Command) → verb_of c ≡ verb_of d → IsCommand words c → IsCommand words d → c ≡ d
  one (run s k n g) (run s' k' n' g') e h j =
      let r = same-packet-words words _ _ _ _ n n' g g' h j in
      let script : s ≡ s' = cc r.0 in
      let keys : k ≡ k' = cc r.0 in
      cc (script, keys, r.1, r.2)
  one (judge s f k n g) (judge s' f' k' n' g') e h j =
      let r = same-packet-words words _ _ _ _ n n' g g' h j in
      let script : s ≡ s' = cc r.0 in
      let rules : f ≡ f' = cc r.0 in
      let keys : k ≡ k' = cc r.0 in
      cc (script, rules, keys, r.1, r.2)
  one (judge_capture s f l p n g) (judge_capture s' f' l' p' n' g') e h j =
      let r = same-packet-words words _ _ _ _ n n' g g' h j in
      let script : s ≡ s' = cc r.0 in
      let rules : f ≡ f' = cc r.0 in
      let plan : l ≡ l' = cc r.0 in
      let packets : p ≡ p' = cc r.0 in
      cc (script, rules, plan, packets, r.1, r.2)
  one (judge s f k n g) (judge_capture s' f' l' p' n' g') e h j = absurd (let r = same-packet-words words _ _ _ _ n n' g g' h j in let names = r.0 in cc names)
  one (judge_capture s f l p n g) (judge s' f' k' n' g') e h j = absurd (let r = same-packet-words words _ _ _ _ n n' g g' h j in let names = r.0 in cc names)
  one (capture s l p n g) (capture s' l' p' n' g') e h j =
      let r = same-packet-words words _ _ _ _ n n' g g' h j in
      let script : s ≡ s' = cc r.0 in
      let plan : l ≡ l' = cc r.0 in
      let packets : p ≡ p' = cc r.0 in
      cc (script, plan, packets, r.1, r.2)
  one (list s g) (list s' g') e h j = let r = same-words words _ _ _ _ _ _ _ _ h j in let script : s ≡ s' = cc r.1 in cc (script, r.3)
  one (dump s g) (dump s' g') e h j = let r = same-words words _ _ _ _ _ _ _ _ h j in let script : s ≡ s' = cc r.1 in cc (script, r.3)
  one (stat s g) (stat s' g') e h j = let r = same-words words _ _ _ _ _ _ _ _ h j in let script : s ≡ s' = cc r.1 in cc (script, r.3)
  one (desk s g) (desk s' g') e h j = let r = same-words words _ _ _ _ _ _ _ _ h j in let script : s ≡ s' = cc r.1 in cc (script, r.3)
  one (sets_of s) (sets_of s') e h j = let r = same-words words _ _ _ _ _ _ _ _ h j in let file : s ≡ s' = cc r.1 in cc file
  one (compare s k g) (compare s' k' g') e h j =
      let r = same-words words _ _ _ _ _ _ _ _ h.0 j.0 in
      let first : s ≡ s' = cc r.1 in
      let second : k ≡ k' = cc r.1 in
      cc (first, second, r.3)
  one (explain s k g) (explain s' k' g') e h j =
      let r = same-words words _ _ _ _ _ _ _ _ h.0 j.0 in
      let script : s ≡ s' = cc r.1 in
      let keys : k ≡ k' = cc r.1 in
      cc (script, keys, r.3)
  one (get s k m g) (get s' k' m' g') e h j =
      let words_are : codes "get" ∷ h.rest ≡ codes "get" ∷ j.rest = sym h.words_are ∙ j.words_are in
      let behind : h.rest ≡ j.rest = cc words_are in
      let mine : Asked = record { script = s; key = k; moment = m; keep_going = g } in
      let theirs : Asked = record { script = s'; key = k'; moment = m'; keep_going = g' } in
      let some : Some mine ≡ Some theirs = sym h.asks_are ∙ ap asked behind ∙ j.asks_are in
      let same : mine ≡ theirs = cc some in
      let script : s ≡ s' = ap (λ (x : Asked). x.script) same in
      let key : k ≡ k' = ap (λ (x : Asked). x.key) same in
      let moment : m ≡ m' = ap (λ (x : Asked). x.moment) same in
      let goes : g ≡ g' = ap (λ (x : Asked). x.keep_going) same in
      cc (script, key, moment, goes)
  one (drill s k n) (drill s' k' n') e h j =
      let r = same-words words _ _ _ _ _ _ _ _ h.3 j.3 in
      let first : h.1 ≡ j.1 = cc r.1 in
      let second : h.2 ≡ j.2 = cc r.1 in
      let seed : s ≡ s' = same-number 0 last_seed h.1 j.1 s s' (omega arith) first h.4 j.4 in
      let count : k ≡ k' = same-number 1 most_drill_elements h.2 j.2 k k' (omega arith) second h.5 j.5 in
      let threads : n ≡ n' = same-threads h.0 j.0 n n' r.2 h.6 j.6 in
      cc (seed, count, threads)
  one c d e h j = absurd (cc e)

-- A word further, what is left decides the same.
pub goes-on : {X : Type 0} (f : X → List ℕ) (verb : Verb) (s : Shape) (next : Option Shape) (xs : List X) (i : ℕ) (x : X) (whole : Bool) → i < length xs → x ≡ get_or xs i x → next ≡ with_word verb s (f x)
    → is_whole_shape verb (fold (shape_after verb) (Some s) (map f (drop i xs))) ≡ whole → is_whole_shape verb (fold (shape_after verb) next (map f (drop (i + 1) xs))) ≡ whole
goes-on f verb s next xs i x whole within here is h =
    let more : suc i ≡ i + 1 = omega arith in
    let left : map f (drop i xs) ≡ f x ∷ map f (drop (i + 1) xs) = ap (map f) (drop-cons xs i x within ∙ ap (λ y. y ∷ drop (suc i) xs) (sym here) ∙ ap (λ n. x ∷ drop n xs) more) in
    ap (λ (o : Option Shape). is_whole_shape verb (fold (shape_after verb) o (map f (drop (i + 1) xs)))) is ∙ ap (λ (ws : List (List ℕ)). is_whole_shape verb (fold (shape_after verb) (Some s) ws)) (sym left) ∙ h

-- After a word that fits no shape nothing does.
pub nothing-fits : (verb : Verb) (words : List (List ℕ)) (whole : Bool) → is_whole_shape verb (fold (shape_after verb) None words) ≡ whole → false ≡ whole
nothing-fits verb words whole h = ap (is_whole_shape verb) (sym (none-stays verb words)) ∙ h

-- A word that writes a number isn't read as none.
pub number-there : (low high : ℕ) (word : List ℕ) (n : ℕ) → high < 2 ^ 64 → IsNumber low high word n → None ≡ number_within low high word → ⊥
number-there low high word n small h none = let some = number-complete low high word n small h in cc (none, some)

pub number-is-name : (low high : ℕ) (word : List ℕ) (n : ℕ) → high < 2 ^ 64 → IsNumber low high word n → is_file_name word ≡ true
number-is-name low high word n small h = ap is_file_name h.0 ∙ digit-first n (omega (arith, h.2, small))
