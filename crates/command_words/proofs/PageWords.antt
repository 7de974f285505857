-- Which words ask for a page, and that they are no command.
use Rattle.std.proofs.Common.{◌≡◌, refl, sym, ◌∙◌, ap, subst, ℕ, Bool, false, cond, ◌||◌, List, [], ◌∷◌, codes, Option, Some, None, true≢false, inl, inr}
use Rattle.std.specs.Prelude.{bytes_eq, option_map, if◌then◌else◌}
use Rattle.command_words.specs.declared.shape.Verb.{Verb}
use Rattle.command_words.specs.declared.shape.Verb.TheVariants.{Run, List as Lists, Dump, Drill, Judge, Capture, Desk, Get, Compare, Explain, Stat, Sets}
use Rattle.command_words.specs.declared.page.Page.{Page}
use Rattle.command_words.specs.declared.page.Page.TheVariants.{Program, Command as On, Version}
use Rattle.command_words.specs.GetWords.{Asked, asked, is_file_name, keep_going_word}
use Rattle.command_words.specs.Fronts.{after_front}
use Rattle.command_words.specs.Words.{AreWords, AreGetWords, AreArguments, AsksFor, Command, run, list, dump, drill, judge, capture, desk, get, IsCommand, verb_word, threads_word, threads_front, compare, explain, stat, judge_capture, sets_of}
use Rattle.command_words.specs.WordForms.{verb_of}
use Rattle.command_words.proofs.CommandWords.{leads, Leads, by_name, by_threads, by_joined, by_mark}

-- the verb that a word names
named : List ℕ → Option Verb
named word = cond (bytes_eq word (codes "run")) (Some Run) (cond (bytes_eq word (codes "list")) (Some Lists) (cond (bytes_eq word (codes "dump")) (Some Dump) (cond (bytes_eq word (codes "drill")) (Some Drill)
    (cond (bytes_eq word (codes "judge")) (Some Judge) (cond (bytes_eq word (codes "capture")) (Some Capture) (cond (bytes_eq word (codes "desk")) (Some Desk) (cond (bytes_eq word (codes "get")) (Some Get)
    (cond (bytes_eq word (codes "compare")) (Some Compare) (cond (bytes_eq word (codes "stat")) (Some Stat) (cond (bytes_eq word (codes "sets")) (Some Sets)
    (cond (bytes_eq word (codes "explain")) (Some Explain) None)))))))))))

named-verb : (verb : Verb) → named (verb_word verb) ≡ Some verb
unfolding named
named-verb Run = refl
named-verb Lists = refl
named-verb Dump = refl
named-verb Stat = refl
named-verb Drill = refl
named-verb Judge = refl
named-verb Capture = refl
named-verb Desk = refl
named-verb Get = refl
named-verb Compare = refl
named-verb Explain = refl
named-verb Sets = refl

no-verb : (verb : Verb) (word : List ℕ) → named word ≡ None → verb_word verb ≡ word → ⊥
no-verb verb word none same = let there = sym (named-verb verb) ∙ ap named same ∙ none in cc there

no-help : (verb : Verb) → bytes_eq (verb_word verb) (codes "help") ≡ false
no-help Run = refl
no-help Lists = refl
no-help Dump = refl
no-help Stat = refl
no-help Drill = refl
no-help Judge = refl
no-help Capture = refl
no-help Desk = refl
no-help Get = refl
no-help Compare = refl
no-help Explain = refl
no-help Sets = refl

-- the page that words ask for, if they do
page_named : List (List ℕ) → Option Page
page_named [] = None
page_named (word ∷ []) = if bytes_eq word (codes "--version") || bytes_eq word (codes "-V") then Some Version else Some Program
page_named (first ∷ second ∷ rest) = option_map On (if bytes_eq first (codes "help") then named second else named first)

asked-page : (words : List (List ℕ)) (page : Page) → AsksFor words page → page_named words ≡ Some page
unfolding page_named
asked-page words Program (inl e) = rw e refl
asked-page words Program (inr (inl e)) = rw e refl
asked-page words Program (inr (inr e)) = rw e refl
asked-page words (On verb) (inl e) = rw (e, named-verb verb) refl
asked-page words (On verb) (inr (inl e)) = rw (e, no-help verb, named-verb verb) refl
asked-page words (On verb) (inr (inr e)) = rw (e, no-help verb, named-verb verb) refl
asked-page words Version (inl e) = rw e refl
asked-page words Version (inr e) = rw e refl

-- The words of a page ask for no other.
pub one-page : (words : List (List ℕ)) (p q : Page) → AsksFor words p → AsksFor words q → p ≡ q
one-page words p q a b = let both : Some p ≡ Some q = sym (asked-page words p a) ∙ asked-page words q b in cc both

-- the words after a command's word
record Behind (words : List (List ℕ)) (verb : Verb) : Type 0 where
  rest : List (List ℕ)
  names : List (List ℕ)
  threads : Option (List ℕ)
  keep_going : Bool
  words_are : words ≡ verb_word verb ∷ rest
  arguments : AreArguments rest names threads keep_going

behind : (words names : List (List ℕ)) (verb : Verb) (threads : Option (List ℕ)) (keep_going : Bool) → AreWords words (verb_word verb) names threads keep_going → Behind words verb
behind words names verb threads keep_going a = record { rest = a.rest; names = names; threads = threads; keep_going = keep_going; words_are = a.words_are; arguments = a.arguments }

-- Another word with a dash is no argument.
no-argument : (word : List ℕ) (ws names : List (List ℕ)) (threads : Option (List ℕ)) (keep_going : Bool) → is_file_name word ≡ false → bytes_eq word threads_word ≡ false → after_front threads_front word ≡ None → bytes_eq word keep_going_word ≡ false
    → AreArguments (word ∷ ws) names threads keep_going → ⊥
no-argument word ws names threads keep_going dash other alone another a = go (leads word ws names threads keep_going a) where
  go : Leads word ws names threads keep_going → ⊥
  go (by_name more e is b) = true≢false (sym e ∙ dash)
  go (by_threads count rest is f h b) = true≢false (sym (ap (λ w. bytes_eq w threads_word) is) ∙ other)
  go (by_joined count is f b) = let some : Some count ≡ None = sym (ap (after_front threads_front) is) ∙ alone in cc some
  go (by_mark is f b) = true≢false (sym (ap (λ w. bytes_eq w keep_going_word) is) ∙ another)

module _ (words : List (List ℕ)) (c : Command) (b : Behind words (verb_of c)) where
  other-first : (word : List ℕ) (ws : List (List ℕ)) → named word ≡ None → words ≡ word ∷ ws → ⊥
  other-first word ws none e = let both : verb_word (verb_of c) ∷ b.rest ≡ word ∷ ws = sym b.words_are ∙ e in no-verb (verb_of c) word none (cc both)

  other-second : (first word : List ℕ) → is_file_name word ≡ false → bytes_eq word threads_word ≡ false → after_front threads_front word ≡ None → bytes_eq word keep_going_word ≡ false → words ≡ first ∷ word ∷ [] → ⊥
  other-second first word dash other alone another e =
      let both : verb_word (verb_of c) ∷ b.rest ≡ first ∷ word ∷ [] = sym b.words_are ∙ e in
      let rest : b.rest ≡ word ∷ [] = cc both in
      no-argument word [] b.names b.threads b.keep_going dash other alone another (subst (λ (ws : List (List ℕ)). AreArguments ws b.names b.threads b.keep_going) rest b.arguments)

  no-page : (page : Page) → AsksFor words page → ⊥
  unfolding named
  no-page Program (inl e) = other-first (codes "help") [] refl e
  no-page Program (inr (inl e)) = other-first (codes "--help") [] refl e
  no-page Program (inr (inr e)) = other-first (codes "-h") [] refl e
  no-page (On verb) (inl e) = other-first (codes "help") (verb_word verb ∷ []) refl e
  no-page (On verb) (inr (inl e)) = other-second (verb_word verb) (codes "--help") refl refl refl refl e
  no-page (On verb) (inr (inr e)) = other-second (verb_word verb) (codes "-h") refl refl refl refl e
  no-page Version (inl e) = other-first (codes "--version") [] refl e
  no-page Version (inr e) = other-first (codes "-V") [] refl e

module _ (words : List (List ℕ)) (asks : Asked) (h : AreGetWords words asks) where
  get-first : (word : List ℕ) (ws : List (List ℕ)) → named word ≡ None → words ≡ word ∷ ws → ⊥
  get-first word ws none e = let both : codes "get" ∷ h.rest ≡ word ∷ ws = sym h.words_are ∙ e in no-verb Get word none (cc both)

  get-second : (first word : List ℕ) → asked (word ∷ []) ≡ None → words ≡ first ∷ word ∷ [] → ⊥
  get-second first word none e =
      let both : codes "get" ∷ h.rest ≡ first ∷ word ∷ [] = sym h.words_are ∙ e in
      let rest : h.rest ≡ word ∷ [] = cc both in
      let some : Some asks ≡ None = sym h.asks_are ∙ ap asked rest ∙ none in
      cc some

  no-page-of-get : (page : Page) → AsksFor words page → ⊥
  unfolding named asked
  no-page-of-get Program (inl e) = get-first (codes "help") [] refl e
  no-page-of-get Program (inr (inl e)) = get-first (codes "--help") [] refl e
  no-page-of-get Program (inr (inr e)) = get-first (codes "-h") [] refl e
  no-page-of-get (On verb) (inl e) = get-first (codes "help") (verb_word verb ∷ []) refl e
  no-page-of-get (On verb) (inr (inl e)) = get-second (verb_word verb) (codes "--help") refl e
  no-page-of-get (On verb) (inr (inr e)) = get-second (verb_word verb) (codes "-h") refl e
  no-page-of-get Version (inl e) = get-first (codes "--version") [] refl e
  no-page-of-get Version (inr e) = get-first (codes "-V") [] refl e

-- Words that ask for a page are no command.
pub page-no-command : (words : List (List ℕ)) (page : Page) (c : Command) → AsksFor words page → IsCommand words c → ⊥
page-no-command words page (run script keys n g) asks h = no-page words (run script keys n g) (behind words (script ∷ keys ∷ []) Run h.0 g h.1) page asks
page-no-command words page (list script g) asks h = no-page words (list script g) (behind words (script ∷ []) Lists None g h) page asks
page-no-command words page (dump script g) asks h = no-page words (dump script g) (behind words (script ∷ []) Dump None g h) page asks
page-no-command words page (stat script g) asks h = no-page words (stat script g) (behind words (script ∷ []) Stat None g h) page asks
page-no-command words page (drill seed count n) asks h = no-page words (drill seed count n) (behind words (h.1 ∷ h.2 ∷ []) Drill h.0 false h.3) page asks
page-no-command words page (judge script rules keys n g) asks h = no-page words (judge script rules keys n g) (behind words (script ∷ rules ∷ keys ∷ []) Judge h.0 g h.1) page asks
page-no-command words page (judge_capture script rules plan packets n g) asks h = no-page words (judge_capture script rules plan packets n g) (behind words (script ∷ rules ∷ plan ∷ packets ∷ []) Judge h.0 g h.1) page asks
page-no-command words page (capture script plan packets n g) asks h = no-page words (capture script plan packets n g) (behind words (script ∷ plan ∷ packets ∷ []) Capture h.0 g h.1) page asks
page-no-command words page (desk script g) asks h = no-page words (desk script g) (behind words (script ∷ []) Desk None g h) page asks
page-no-command words page (compare first second g) asks h = no-page words (compare first second g) (behind words (first ∷ second ∷ []) Compare None g h.0) page asks
page-no-command words page (explain script keys g) asks h = no-page words (explain script keys g) (behind words (script ∷ keys ∷ []) Explain None g h.0) page asks
page-no-command words page (sets_of file) asks h = no-page words (sets_of file) (behind words (file ∷ []) Sets None false h) page asks
page-no-command words page (get script key moment g) asks h = no-page-of-get words (record { script = script; key = key; moment = moment; keep_going = g }) h page asks
