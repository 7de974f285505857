-- Steps on lines of their own, and the steps of all sections.
use Rattle.std.proofs.Common.{◌≡◌, refl, sym, ◌∙◌, ap, subst, ℕ, ◌+◌, ◌-◌, ◌<◌, false, List, [], ◌∷◌, ◌++◌, length, map, take, get_or, All, Option, Some, None, slice_get, ◌⊎◌, inl, inr, arith, add-one}
use Rattle.std.specs.List.{enumerate_from}
use Rattle.std.proofs.lemmas.List.{map-append, length-map, length-append}
use Rattle.std.proofs.lemmas.Option.{slice_get_within}
use Rattle.std.proofs.Math.Seq.{take-suc}
use Rattle.set_model.specs.declared.script.Script.{Script}
use Rattle.set_model.specs.declared.script.SetDecl.{SetDecl}
use Rattle.set_model.specs.declared.script.Step.{Step}
use Rattle.set_model.specs.declared.script.Step.TheVariants.{Change, Flush, Commit, Abort}
use Rattle.set_model.specs.Runnable.{EndsClosed, IsRunnable, IsRunnableStep, opens}
use Rattle.script_laws.proofs.Lists.{All-head, All-tail, All-snoc, append-either, each-item, enumerate-snoc, length-enumerate, numbered, of-item}
use Rattle.element_lines.specs.Additions.{all_of, on_line, one_a_line}

-- the step of a number on the line of this number
abbrev on_own : ℕ × Step → Step
on_own n = on_line n.0 n.1

apart-long : (steps : List Step) → length (one_a_line steps) ≡ length steps
apart-long steps = length-map (enumerate_from 0 steps) on_own ∙ length-enumerate 0 steps

-- One step more.
pub apart-more : (steps : List Step) (i line : ℕ) (s : Step) (apart more : List Step) → i < length steps → s ≡ get_or steps i s → apart ≡ one_a_line (take i steps) → line ≡ length apart → more ≡ apart ++ on_line line s ∷ [] → more ≡ one_a_line (take (i + 1) steps)
apart-more steps i line s apart more within is so_far last step =
    let few = take i steps in
    let next : take (i + 1) steps ≡ few ++ s ∷ [] = rw add-one (take-suc steps i s within ∙ ap (λ y. few ++ y ∷ []) (sym is)) in
    let number : line ≡ 0 + length few = let long = ap (λ (z : List Step). length z) so_far ∙ apart-long few in omega (arith, last, long) in
    step
    ∙ ap (λ (z : List Step). z ++ on_line line s ∷ []) so_far
    ∙ ap (λ n. one_a_line few ++ on_line n s ∷ []) number
    ∙ sym (map-append on_own (enumerate_from 0 few) ((0 + length few, s) ∷ []))
    ∙ ap (map on_own) (sym (enumerate-snoc 0 few s))
    ∙ ap one_a_line (sym next)

-- A step can run on any line, and leaves its transaction open or not as it did.
line-runs : (schema : List SetDecl) (line : ℕ) (s : Step) → IsRunnableStep schema s → IsRunnableStep schema (on_line line s)
line-runs schema line (Change old set verb e now) h = h
line-runs schema line (Flush old set now) h = h
line-runs schema line (Commit now) h = h
line-runs schema line Abort h = h

line-opens : (line : ℕ) (s : Step) → opens (Some (on_line line s)) ≡ opens (Some s)
line-opens line (Change old set verb e now) = refl
line-opens line (Flush old set now) = refl
line-opens line (Commit now) = refl
line-opens line Abort = refl

apart-runs : (schema : List SetDecl) (steps : List Step) → All (IsRunnableStep schema) steps → All (IsRunnableStep schema) (one_a_line steps)
apart-runs schema steps all = each-item (IsRunnableStep schema) (one_a_line steps) each where
  each : (i : ℕ) (s : Step) → slice_get (one_a_line steps) i ≡ Some s → IsRunnableStep schema s
  each i s at =
      let old = numbered on_own steps i s at in
      subst (IsRunnableStep schema) old.2 (line-runs schema i old.0 (of-item (IsRunnableStep schema) steps i old.0 all old.1))

apart-closed : (steps : List Step) → EndsClosed steps → EndsClosed (one_a_line steps)
apart-closed steps closed = go (slice_get (one_a_line steps) (length (one_a_line steps) - 1)) refl where
  go : (o : Option Step) → slice_get (one_a_line steps) (length (one_a_line steps) - 1) ≡ o → opens o ≡ false
  go None at = refl
  go (Some s) at =
      let last = length (one_a_line steps) - 1 in
      let old = numbered on_own steps last s at in
      let same : slice_get steps (length steps - 1) ≡ Some old.0 = ap (λ n. slice_get steps (n - 1)) (sym (apart-long steps)) ∙ old.1 in
      ap (λ (z : Step). opens (Some z)) (sym old.2) ∙ line-opens last old.0 ∙ ap opens (sym same) ∙ closed

one : {X : Type 0} (P : X → Type 0) (x : X) → P x → All P (x ∷ [])
one P x h = All-snoc P [] x (λ k d lt. absurd (omega (arith, lt))) h

-- the script of one section
abbrev alone : List SetDecl → List Step → Script
alone schema steps = record { schema = schema; sections = steps ∷ []; last = 0 }

-- If steps can run, they can run on lines of their own.
pub apart-runnable : (schema other : List SetDecl) (steps : List Step) (sections : List (List Step)) → other ≡ schema → sections ≡ one_a_line steps ∷ [] → IsRunnable (alone schema steps) → IsRunnable (record { schema = other; sections = sections; last = 0 })
apart-runnable schema other steps sections same is h =
    subst (λ (z : List SetDecl × List (List Step)). IsRunnable (record { schema = z.0; sections = z.1; last = 0 })) (λ i. (sym same i, sym is i))
    (record {
      sets = h.sets;
      few_sets = h.few_sets;
      steps = one (All (IsRunnableStep schema)) (one_a_line steps) (apart-runs schema steps (All-head (All (IsRunnableStep schema)) steps [] h.steps));
      closed = one EndsClosed (one_a_line steps) (apart-closed steps (All-head EndsClosed steps [] h.closed));
    })

-- What holds of each item of each section holds of all items.
pub all-of : {X : Type 0} (P : X → Type 0) (sections : List (List X)) → All (All P) sections → All P (all_of sections)
all-of P [] h = λ k d lt. absurd (omega (arith, lt))
all-of {X} P (items ∷ sections) h = each-item P (items ++ all_of sections) (λ i x at. go i x (all-of P sections (All-tail (All P) items sections h)) (append-either items (all_of sections) i x at)) where
  go : (i : ℕ) (x : X) → All P (all_of sections) → (slice_get items i ≡ Some x) ⊎ ((q : ℕ) × (slice_get (all_of sections) q ≡ Some x) × (i ≡ length items + q)) → P x
  go i x rest (inl k) = of-item P items i x (All-head (All P) items sections h) k
  go i x rest (inr k) = of-item P (all_of sections) k.0 x rest k.1

closed-both : (a b : List Step) → EndsClosed a → EndsClosed b → EndsClosed (a ++ b)
closed-both a b first second = go (slice_get (a ++ b) (length (a ++ b) - 1)) refl where
  go : (o : Option Step) → slice_get (a ++ b) (length (a ++ b) - 1) ≡ o → opens o ≡ false
  go None at = refl
  go (Some s) at = last (append-either a b (length (a ++ b) - 1) s at) where
    long : length (a ++ b) ≡ length a + length b
    long = length-append a b

    last : (slice_get a (length (a ++ b) - 1) ≡ Some s) ⊎ ((q : ℕ) × (slice_get b q ≡ Some s) × (length (a ++ b) - 1 ≡ length a + q)) → opens (Some s) ≡ false
    last (inl k) =
        let within = slice_get_within a (length (a ++ b) - 1) s k in
        let place : length (a ++ b) - 1 ≡ length a - 1 = omega (arith, within, long) in
        ap opens (sym k ∙ ap (slice_get a) place) ∙ first
    last (inr k) =
        let within = slice_get_within b k.0 s k.1 in
        let is = k.2 in
        let place : k.0 ≡ length b - 1 = omega (arith, within, long, is) in
        ap opens (sym k.1 ∙ ap (slice_get b) place) ∙ second

closed-all : (sections : List (List Step)) → All EndsClosed sections → EndsClosed (all_of sections)
closed-all [] h = refl
closed-all (steps ∷ sections) h = closed-both steps (all_of sections) (All-head EndsClosed steps sections h) (closed-all sections (All-tail EndsClosed steps sections h))

-- A script that can run can run as one section.
pub one-section : (s : Script) (steps : List Step) → steps ≡ all_of s.sections → IsRunnable s → IsRunnable (alone s.schema steps)
one-section s steps is h =
    subst (λ (z : List Step). IsRunnable (alone s.schema z)) (sym is)
    (record {
      sets = h.sets;
      few_sets = h.few_sets;
      steps = one (All (IsRunnableStep s.schema)) (all_of s.sections) (all-of (IsRunnableStep s.schema) s.sections h.steps);
      closed = one EndsClosed (all_of s.sections) (closed-all s.sections h.closed);
    })

-- All its steps can run.
pub steps-run : (s : Script) (schema : List SetDecl) (steps : List Step) → schema ≡ s.schema → steps ≡ all_of s.sections → IsRunnable s → All (IsRunnableStep schema) steps
steps-run s schema steps same is h = subst (λ (z : List SetDecl × List Step). All (IsRunnableStep z.0) z.1) (λ i. (sym same i, sym is i)) (all-of (IsRunnableStep s.schema) s.sections h.steps)
