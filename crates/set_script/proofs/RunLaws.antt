-- A text means scripts that can be run.
use Rattle.std.proofs.Common.{◌≡◌, refl, sym, ◌∙◌, ap, subst, ℕ, zero, suc, ◌+◌, ◌≤◌, ◌<◌, List, [], ◌∷◌, ◌++◌, length, map, Bool, true, false, ◌&&◌, cond, Option, Some, None, option_map, slice_get, nat_lt, nat_le, arith, length-append, append_assoc, append-nil, sum_by, ◌==◌}
use Rattle.std.specs.List.{All, position_or_len}
use Rattle.std.proofs.lemmas.Bool.{ltb-true, eq-eqb}
use Rattle.std.proofs.lemmas.List.{length-map}
use Rattle.std.proofs.lemmas.List.Elements.{All-nil, All-push}
use Rattle.std.proofs.lemmas.Option.{slice_get-map, cond_some}
use Rattle.set_model.specs.declared.kind.Kind.{Kind}
use Rattle.set_model.specs.declared.kind.Interval.{Interval}
use Rattle.set_model.specs.declared.script.Family.{Family}
use Rattle.set_model.specs.declared.script.SetDecl.{SetDecl}
use Rattle.set_model.specs.declared.script.Step.{Step}
use Rattle.set_model.specs.declared.script.Step.TheVariants.{Change, Flush, Commit, Abort}
use Rattle.set_model.specs.declared.script.Verb.{Verb}
use Rattle.set_model.specs.declared.script.Verb.TheVariants as verbs
use Rattle.set_model.specs.declared.script.Script.{Script}
use Rattle.set_model.specs.Key.{intervals_fit}
use Rattle.addr_text.proofs.IntervalLaws.{IsInterval-good}
use Rattle.token_forms.specs.Token.{Lexeme}
use Rattle.token_forms.specs.Words.{separates, word_value}
use Rattle.token_forms.proofs.KeepLaws.{many_keeps, lines_keep, word_given}
use Rattle.token_forms.proofs.WordLaws.{both}
use Rattle.set_script.specs.declared.draft.Draft.{Draft}
use Rattle.set_script.specs.declared.draft.Declaration.{Declaration}
use Rattle.set_script.specs.declared.draft.Target.{Target}
use Rattle.set_script.specs.declared.draft.Options.{Options}
use Rattle.set_script.specs.declared.words.Flag.{Flag}
use Rattle.set_script.specs.declared.words.Flag.TheVariants as flags
use Rattle.set_script.specs.declared.words.TypeWord.{TypeWord}
use Rattle.set_script.specs.declared.words.FirstWord.{FirstWord}
use Rattle.set_script.specs.declared.words.FirstWord.TheVariants as firsts
use Rattle.set_script.specs.declared.words.AddWord.{AddWord}
use Rattle.set_script.specs.declared.words.AddWord.TheVariants as adds
use Rattle.set_script.specs.declared.words.FlushWord.{FlushWord}
use Rattle.set_script.specs.declared.words.FlushWord.TheVariants as flushes
use Rattle.set_script.specs.declared.words.ItemWord.{ItemWord}
use Rattle.set_script.specs.declared.words.ItemWord.TheVariants as items
use Rattle.set_script.specs.Values.{IsPart}
use Rattle.set_script.specs.Limits.{most_sets}
use Rattle.set_script.specs.Names.{is_set, set_place, may_declare, new_name, has_room, key_bytes}
use Rattle.set_script.specs.Changes.{empty, declaration, declared, with_flag, change, with_commit, ended}
use Rattle.set_script.specs.Script as form
use Rattle.set_script.specs.ScriptText.{IsScriptText}
use Rattle.set_script.proofs.ExpressionLaws.{kind_by_has}
use Rattle.set_model.specs.Runnable.{HasFields, IsRunnableStep, is_open, EndsClosed, IsRunnable}
use Rattle.set_model.proofs.ClosedLaws.{closed-behind}

-- intervals that fit these kinds, one for each
record AreParts (ks : List Kind) (parts : List Interval) : Type 0 where
  lengths : length ks ≡ length parts
  fit : intervals_fit ks parts ≡ true

one_more : (wide : Bool) (kind : Kind) (ks : List Kind) (text : List ℕ) (part : Interval) (parts : List Interval) → IsPart wide kind text part → AreParts ks parts → AreParts (kind ∷ ks) (part ∷ parts)
one_more wide kind ks text part parts w k =
    let fits = k.fit in
    record { lengths = ap suc k.lengths; fit = rw (IsInterval-good kind text part w.0) fits }

more_are : (wide : Bool) (ks : List Kind) (before : List Interval) (ts : List Lexeme) (parts : List Interval) → (form.more_parts wide ks before).whole ts parts → (rest : List Interval) × (parts ≡ before ++ rest) × AreParts ks rest
more_are wide [] before ts parts w = ([], sym w.1 ∙ sym (append-nil before), record { lengths = refl; fit = refl })
more_are wide (kind ∷ ks) before ts parts (u1, x1, y1, e1, w1, (u2, x2, y2, e2, w2, (u3, x3, y3, e3, w3, (part, x4, y4, e4, (t, e5, given), w5)))) =
    let k = more_are wide ks (before ++ part ∷ []) y4 parts w5 in
    (part ∷ k.0, k.1 ∙ append_assoc before (part ∷ []) k.0, one_more wide kind ks t.bytes part k.0 given.1 k.2)

all_are : (wide : Bool) (ks : List Kind) (ts : List Lexeme) (p : ℕ × List Interval) → (form.all_parts wide ks).whole ts p → AreParts ks p.1
all_are wide [] ts p w = absurd w
all_are wide (kind ∷ ks) ts p (first, x, y, e, (t, et, given), (parts, x2, y2, e2, w2, h)) =
    let k = more_are wide ks (first.1 ∷ []) x2 parts w2 in
    let same : first.1 ∷ k.0 ≡ p.1 = sym k.1 ∙ ap (λ (q : ℕ × List Interval). q.1) h.1 in
    subst (λ (z : List Interval). AreParts (kind ∷ ks) z) same (one_more wide kind ks t.bytes first.1 k.0 given.2 k.2)

-- A step of sets of these kinds: a change or a flush is of one of them.
IsOf : List (List Kind) → Step → Type 0
IsOf sets (Change line set verb e now) = (ks : List Kind) × (slice_get sets set ≡ Some ks) × AreParts ks e.parts
IsOf sets (Flush line set now) = (ks : List Kind) × (slice_get sets set ≡ Some ks)
IsOf sets (Commit now) = Unit {0}
IsOf sets Abort = Unit {0}

abbrev AreOf : List (List Kind) → List Step → Type 0
AreOf sets steps = All (IsOf sets) steps

-- what is declared stays
still_there : {A : Type 0} (xs : List A) (y : A) (i : ℕ) (x : A) → slice_get xs i ≡ Some x → slice_get (xs ++ y ∷ []) i ≡ Some x
still_there [] y i x h = absurd (cc h)
still_there (a ∷ xs) y zero x h = h
still_there (a ∷ xs) y (suc i) x h = still_there xs y i x h

last_there : {A : Type 0} (xs : List A) (y : A) → slice_get (xs ++ y ∷ []) (length xs) ≡ Some y
last_there [] y = refl
last_there (a ∷ xs) y = last_there xs y

step_stays : (sets : List (List Kind)) (ks : List Kind) (s : Step) → IsOf sets s → IsOf (sets ++ ks ∷ []) s
unfolding IsOf
step_stays sets ks (Change line set verb e now) k = (k.0, still_there sets ks set k.0 k.1, k.2)
step_stays sets ks (Flush line set now) k = (k.0, still_there sets ks set k.0 k.1)
step_stays sets ks (Commit now) k = tt
step_stays sets ks Abort k = tt

steps_stay : (sets : List (List Kind)) (ks : List Kind) (steps : List Step) → AreOf sets steps → AreOf (sets ++ ks ∷ []) steps
steps_stay sets ks steps all = λ i d lt. step_stays sets ks _ (all i d lt)

sections_stay : (sets : List (List Kind)) (ks : List Kind) (sections : List (List Step)) → All (AreOf sets) sections → All (AreOf (sets ++ ks ∷ [])) sections
sections_stay sets ks sections all = λ i d lt. steps_stay sets ks _ (all i d lt)

-- lists
module _ (sets : List (List Kind)) (target : Target) (s : SetDecl) (at : slice_get sets target.set ≡ Some s.kinds) where
  made : (line : ℕ) (parts : List Interval) (o : Options) → AreParts s.kinds parts → IsOf sets (change target s line parts o)
  unfolding IsOf
  made line parts o k = (s.kinds, at, k)

  element_keeps : (before behind : List Step) (x : List Lexeme) → AreOf sets before → (form.element target s before).whole x behind → AreOf sets behind
  element_keeps before behind x k (p, x1, y1, e1, w1, (o, x2, y2, e2, w2, h)) =
      subst (AreOf sets) h.1 (All-push (IsOf sets) before (change target s p.0 p.1 o) k (made p.0 p.1 o (all_are s.interval s.kinds x1 p w1)))

  list_item_keeps : (before : List Step) (b : Bool) (behind : List Step × Bool) (x : List Lexeme) → AreOf sets before → (form.list_item target s (before, b)).whole x behind → AreOf sets behind.0
  list_item_keeps before true behind x k (steps, x1, y1, e1, w1, h) = subst (λ (r : List Step × Bool). AreOf sets r.0) h.1 (element_keeps before steps x1 k w1)
  list_item_keeps before false behind x k (u1, x1, y1, e1, w1, (u2, x2, y2, e2, w2, h)) = subst (λ (r : List Step × Bool). AreOf sets r.0) h.1 k

  list_keeps : (before behind : List Step) (x : List Lexeme) → AreOf sets before → (form.list target s before).whole x behind → AreOf sets behind
  list_keeps before behind x k (u1, x1, y1, e1, w1, (u2, x2, y2, e2, w2, (r, x3, y3, e3, w3, (u4, x4, y4, e4, w4, h)))) =
      subst (AreOf sets) h.1
      (many_keeps (form.list_item target s) (λ (r : List Step × Bool). AreOf sets r.0) (λ r r1 x k w. list_item_keeps r.0 r.1 r1 x k w) r (before, true) x3 k w3)

-- kinds
record AreKinds (ks : List Kind) : Type 0 where
  some : 0 < length ks
  few : length ks ≤ 16

room_few : (ks : List Kind) (kind : Kind) → has_room ks kind ≡ true → length ks < 16
room_few ks kind h = ltb-true (length ks) 16 (both (nat_lt (length ks) 16) (nat_le (sum_by key_bytes ks + key_bytes kind) 64) h).0

one_kind_more : (ks : List Kind) (kind : Kind) → length ks < 16 → AreKinds (ks ++ kind ∷ [])
one_kind_more ks kind room = let l = length-append ks (kind ∷ []) in record { some = omega arith; few = omega arith }

more_kinds_keeps : (w : TypeWord) (ks behind : List Kind) (x : List Lexeme) → AreKinds ks → (form.more_kinds w ks).whole x behind → AreKinds behind
more_kinds_keeps w ks behind x k (u, x1, y1, e1, w1, (kind, x2, y2, e2, w2, h)) = subst AreKinds h.1 (one_kind_more ks kind (room_few ks kind (kind_by_has w ks x2 kind w2)))

type_kinds : (x : List Lexeme) (ks : List Kind) → form.type_item.whole x ks → AreKinds ks
type_kinds x ks (w, x1, y1, e1, w1, (kind, x2, y2, e2, w2, w3)) = many_keeps (form.more_kinds w) AreKinds (more_kinds_keeps w) ks (kind ∷ []) y2 (one_kind_more [] kind (omega arith)) w3

abbrev kinds_of : List SetDecl → List (List Kind)
kinds_of schema = map (λ (s : SetDecl). s.kinds) schema

kinds_append : (schema : List SetDecl) (s : SetDecl) → kinds_of (schema ++ s ∷ []) ≡ kinds_of schema ++ s.kinds ∷ []
kinds_append [] s = refl
kinds_append (a ∷ schema) s = ap (λ z. a.kinds ∷ z) (kinds_append schema s)

-- a set that is being declared after these, with its changes
record Declares (schema : List SetDecl) (ks : List Kind) (s : Declaration × List Step) : Type 0 where
  place : s.0.target.set ≡ length schema
  kinds : s.0.decl.kinds ≡ ks
  steps : AreOf (kinds_of schema ++ ks ∷ []) s.1

flag_keeps : (schema : List SetDecl) (ks : List Kind) (steps : List Step) (b : Declaration) (f : Flag) → Declares schema ks (b, steps) → Declares schema ks (with_flag b f, steps)
flag_keeps schema ks steps b flags.Interval k = record { place = k.place; kinds = k.kinds; steps = k.steps }
flag_keeps schema ks steps b flags.Timeout k = record { place = k.place; kinds = k.kinds; steps = k.steps }
flag_keeps schema ks steps b flags.Disjoint k = record { place = k.place; kinds = k.kinds; steps = k.steps }

one_flag_keeps : (schema : List SetDecl) (ks : List Kind) (steps : List Step) (b b1 : Declaration) (x : List Lexeme) → Declares schema ks (b, steps) → (form.flag b).whole x b1 → Declares schema ks (b1, steps)
one_flag_keeps schema ks steps b b1 x k (f, x1, y1, e1, w1, h) = subst (λ (c : Declaration). Declares schema ks (c, steps)) h.1 (flag_keeps schema ks steps b f k)

item_keeps : (schema : List SetDecl) (ks : List Kind) (s s1 : Declaration × List Step) (x : List Lexeme) → Declares schema ks s → (form.item s).whole x s1 → Declares schema ks s1
item_keeps schema ks (b, steps) s1 x k (w, x1, y1, e1, w1, behind) = go w behind where
  at : slice_get (kinds_of schema ++ ks ∷ []) b.target.set ≡ Some b.decl.kinds
  at = ap (slice_get (kinds_of schema ++ ks ∷ [])) (k.place ∙ sym (length-map schema (λ (s : SetDecl). s.kinds))) ∙ last_there (kinds_of schema) ks ∙ ap Some (sym k.kinds)

  go : (w : ItemWord) → (form.item_behind (b, steps) w).whole y1 s1 → Declares schema ks s1
  go items.Flags (b1, x2, y2, e2, w2, (b2, x3, y3, e3, w3, h)) =
      subst (Declares schema ks) h.1
      (many_keeps form.more_flags (λ (c : Declaration). Declares schema ks (c, steps)) (λ c c1 x k w. one_flag_keeps schema ks steps c c1 w.2 k w.5) b2 b1 x3 (one_flag_keeps schema ks steps b b1 x2 k w2) w3)
  go items.Timeout (t, x2, y2, e2, w2, h) = subst (Declares schema ks) h.1 (record { place = k.place; kinds = k.kinds; steps = k.steps })
  go items.Size (n, x2, y2, e2, w2, h) = subst (Declares schema ks) h.1 (record { place = k.place; kinds = k.kinds; steps = k.steps })
  go items.GcInterval (t, x2, y2, e2, w2, h) = subst (Declares schema ks) h.1 (record { place = k.place; kinds = k.kinds; steps = k.steps })
  go items.Policy (u, x2, y2, e2, w2, h) = subst (Declares schema ks) h.1 (record { place = k.place; kinds = k.kinds; steps = k.steps })
  go items.Comment (c, x2, y2, e2, w2, h) = subst (Declares schema ks) h.1 (record { place = k.place; kinds = k.kinds; steps = k.steps })
  go items.Elements (u, x2, y2, e2, w2, (after, x3, y3, e3, w3, h)) = subst (Declares schema ks) h.1 (record {
    place = k.place;
    kinds = k.kinds;
    steps = list_keeps (kinds_of schema ++ ks ∷ []) b.target b.decl at steps after x3 k.steps w3;
  })

-- what every statement keeps
record IsRunDraft (d : Draft) : Type 0 where
  steps : AreOf (kinds_of d.schema) d.steps
  sections : All (AreOf (kinds_of d.schema)) d.sections
  fields : All HasFields d.schema
  few_sets : length d.schema ≤ most_sets
  closed : All EndsClosed d.sections

-- There is a new name if one more set may be declared.
room_for_set : (d : Draft) (p : Family × List ℕ) (t : Lexeme) (n : List ℕ) → word_value (λ t. new_name d p.0 p.1 t.bytes) t ≡ Some n → length d.schema < most_sets
room_for_set d p t n h =
    let given = word_given (λ t. new_name d p.0 p.1 t.bytes) t n h in
    let may = (cond_some (may_declare d p.0 p.1 t.bytes) t.bytes n given).0 in
    ltb-true (length d.schema) most_sets (both _ _ (both _ _ may).0).1

with_set : (d : Draft) (ks : List Kind) (s : Declaration × List Step) → IsRunDraft d → AreKinds ks → length d.schema < most_sets → Declares d.schema ks s → IsRunDraft (declared s.0 s.1 d)
with_set d ks s k are room made =
    let same : kinds_of d.schema ++ ks ∷ [] ≡ kinds_of (d.schema ++ s.0.decl ∷ []) = ap (λ z. kinds_of d.schema ++ z ∷ []) (sym made.kinds) ∙ sym (kinds_append d.schema s.0.decl) in
    record {
      steps = subst (λ z. AreOf z s.1) same made.steps;
      sections = subst (λ z. All (AreOf z) d.sections) same (sections_stay (kinds_of d.schema) ks d.sections k.sections);
      fields = All-push HasFields d.schema s.0.decl k.fields (record { some = subst (λ (z : List Kind). 0 < length z) (sym made.kinds) are.some; few = subst (λ (z : List Kind). length z ≤ 16) (sym made.kinds) are.few });
      few_sets = let l = length-append d.schema (s.0.decl ∷ []) in omega arith;
      closed = k.closed;
    }

set_body_keeps : (p : Family × List ℕ) (n : List ℕ) (d d1 : Draft) (x : List Lexeme) → IsRunDraft d → length d.schema < most_sets → (form.set_body d p n).whole x d1 → IsRunDraft d1
set_body_keeps p n d d1 x k room (u1, x1, y1, e1, w1, (u2, x2, y2, e2, w2, (ks, x3, y3, e3, w3, (s, x4, y4, e4, (r, x5, y5, e5, w5, h5), (u6, x6, y6, e6, w6, h))))) =
    let begun : Declares d.schema ks (declaration d p.0 p.1 n ks, d.steps) = record {
      place = refl;
      kinds = refl;
      steps = steps_stay (kinds_of d.schema) ks d.steps k.steps;
    } in
    let made : Declares d.schema ks r.0 = lines_keep separates form.item (Declares d.schema ks) (item_keeps d.schema ks) ((declaration d p.0 p.1 n ks, d.steps), false) r x5 begun w5 in
    subst IsRunDraft h.1 (with_set d ks s k (type_kinds x3 ks w3) room (subst (Declares d.schema ks) h5.1 made))

set_block_keeps : (p : Family × List ℕ) (d d1 : Draft) (x : List Lexeme) → IsRunDraft d → (form.set_block p d).whole x d1 → IsRunDraft d1
set_block_keeps p d d1 x k (u1, x1, y1, e1, w1, (n, x2, y2, e2, (t, et, given), w3)) = set_body_keeps p n d d1 y2 k (room_for_set d p t n given) w3

kinds_at : (schema : List SetDecl) (i : ℕ) (s : SetDecl) → slice_get schema i ≡ Some s → slice_get (kinds_of schema) i ≡ Some s.kinds
kinds_at schema i s e = slice_get-map (λ (s : SetDecl). s.kinds) schema i ∙ ap (option_map (λ (s : SetDecl). s.kinds)) e

list_of_keeps : (sets : List (List Kind)) (target : Target) (s : Option SetDecl) → ((decl : SetDecl) → s ≡ Some decl → slice_get sets target.set ≡ Some decl.kinds)
    → (before behind : List Step) (x : List Lexeme) → AreOf sets before → (form.list_of target s before).whole x behind → AreOf sets behind
list_of_keeps sets target None at before behind x k w = absurd w
list_of_keeps sets target (Some s) at before behind x k w = list_keeps sets target s (at s refl) before behind x k w

-- steps of declared sets in place of others
with_others : (d : Draft) (steps : List Step) → IsRunDraft d → AreOf (kinds_of d.schema) steps → IsRunDraft (record d { steps = steps })
with_others d steps k of = record { steps = of; sections = k.sections; fields = k.fields; few_sets = k.few_sets; closed = k.closed }

changes_keep : (d d1 : Draft) (verb : Verb) (x : List Lexeme) → IsRunDraft d → (form.changes d verb).whole x d1 → IsRunDraft d1
changes_keep d d1 verb x k (p, x1, y1, e1, w1, (i, x2, y2, e2, w2, (behind, x3, y3, e3, w3, h))) =
    subst IsRunDraft h.1
    (with_others d behind k (list_of_keeps (kinds_of d.schema) (record { set = i; verb = verb; now = d.moment }) (slice_get d.schema i) (λ decl e. kinds_at d.schema i decl e) d.steps behind x3 k.steps w3))

element_changes_keep : (d d1 : Draft) (verb : Verb) (x : List Lexeme) → IsRunDraft d → (form.element_changes d verb).whole x d1 → IsRunDraft d1
element_changes_keep d d1 verb x k (u, x1, y1, e1, w1, after) = changes_keep d d1 verb y1 k after

-- a set that is used is declared
used_there : (schema : List SetDecl) (family : Family) (table text : List ℕ) (i : ℕ) → set_place schema family table text ≡ Some i → (s : SetDecl) × (slice_get schema i ≡ Some s)
used_there schema family table text i h =
    let k = cond_some (nat_lt (position_or_len (is_set family table text) schema) (length schema)) (position_or_len (is_set family table text) schema) i h in
    inside schema i (subst (λ z. z < length schema) k.1 (ltb-true (position_or_len (is_set family table text) schema) (length schema) k.0)) where
      inside : (schema : List SetDecl) (i : ℕ) → i < length schema → (s : SetDecl) × (slice_get schema i ≡ Some s)
      inside [] i lt = absurd (omega (arith, lt))
      inside (s ∷ schema) zero lt = (s, refl)
      inside (s ∷ schema) (suc i) lt = inside schema i (omega (arith, lt))

flush_keeps : (line : ℕ) (d d1 : Draft) (w : FlushWord) (x : List Lexeme) → IsRunDraft d → (form.flush_behind line d w).whole x d1 → IsRunDraft d1
unfolding IsOf
flush_keeps line d d1 flushes.Set x k (p, x2, y2, e2, w2, (i, x3, y3, e3, (t, et, given), h)) =
    let s = used_there d.schema p.0 p.1 t.bytes i (word_given (λ t. set_place d.schema p.0 p.1 t.bytes) t i given) in
    subst IsRunDraft h.1
    (with_others d (d.steps ++ Flush line i d.moment ∷ []) k (All-push (IsOf (kinds_of d.schema)) d.steps (Flush line i d.moment) k.steps (s.0.kinds, kinds_at d.schema i s.0 s.1)))
flush_keeps line d d1 flushes.Ruleset x k h = subst IsRunDraft h.1 k

table_keeps : (d d1 : Draft) (x : List Lexeme) → IsRunDraft d → (form.table_block d).whole x d1 → IsRunDraft d1
table_keeps d d1 x k (p, x1, y1, e1, w1, (u2, x2, y2, e2, w2, (d2, x3, y3, e3, (r, x4, y4, e4, w4, h4), (u5, x5, y5, e5, w5, h)))) =
    subst IsRunDraft (h4.1 ∙ h.1) (lines_keep separates (form.set_block p) IsRunDraft (set_block_keeps p) (d, true) r x4 k w4)

add_keeps : (d d1 : Draft) (w : AddWord) (x : List Lexeme) → IsRunDraft d → (form.add_behind d w).whole x d1 → IsRunDraft d1
add_keeps d d1 adds.Table x k (p, x1, y1, e1, w1, h) = subst IsRunDraft h.1 k
add_keeps d d1 adds.Set x k (p, x1, y1, e1, w1, (n, x2, y2, e2, (t, et, given), w3)) = set_body_keeps p n d d1 y2 k (room_for_set d p t n given) w3
add_keeps d d1 adds.Element x k w = changes_keep d d1 verbs.Add x k w

-- the end of a section
ended_keeps : (sets : List (List Kind)) (now : ℕ) (steps : List Step) → AreOf sets steps → AreOf sets (with_commit now steps)
unfolding IsOf
ended_keeps sets now steps k = go (is_open steps) where
  go : (b : Bool) → AreOf sets (cond b (steps ++ Commit now ∷ []) steps)
  go true = All-push (IsOf sets) steps (Commit now) k tt
  go false = k

ended_sections : (d : Draft) → IsRunDraft d → All (AreOf (kinds_of d.schema)) (ended d)
ended_sections d k = All-push (AreOf (kinds_of d.schema)) d.sections (with_commit d.moment d.steps) k.sections (ended_keeps (kinds_of d.schema) d.moment d.steps k.steps)

-- An open transaction is committed at the end of its section.
committed_closed : (now : ℕ) (steps : List Step) → EndsClosed (with_commit now steps)
committed_closed now steps = go (is_open steps) refl where
  go : (b : Bool) → is_open steps ≡ b → EndsClosed (cond b (steps ++ Commit now ∷ []) steps)
  go true e = closed-behind steps (Commit now) refl
  go false e = e

ended_closed : (d : Draft) → IsRunDraft d → All EndsClosed (ended d)
ended_closed d k = All-push EndsClosed d.sections (with_commit d.moment d.steps) k.closed (committed_closed d.moment d.steps)

behind_keeps : (line : ℕ) (d d1 : Draft) (w : FirstWord) (x : List Lexeme) → IsRunDraft d → (form.statement_behind line d w).whole x d1 → IsRunDraft d1
unfolding IsOf
behind_keeps line d d1 firsts.Add x k (w, x1, y1, e1, w1, after) = add_keeps d d1 w y1 k after
behind_keeps line d d1 firsts.Table x k after = table_keeps d d1 x k after
behind_keeps line d d1 firsts.Create x k after = element_changes_keep d d1 verbs.Create x k after
behind_keeps line d d1 firsts.Delete x k after = element_changes_keep d d1 verbs.Delete x k after
behind_keeps line d d1 firsts.Destroy x k after = element_changes_keep d d1 verbs.Destroy x k after
behind_keeps line d d1 firsts.Flush x k (w, x1, y1, e1, w1, after) = flush_keeps line d d1 w y1 k after
behind_keeps line d d1 firsts.At x k (n, x1, y1, e1, w1, h) = subst IsRunDraft h.1 (record { steps = k.steps; sections = k.sections; fields = k.fields; few_sets = k.few_sets; closed = k.closed })
behind_keeps line d d1 firsts.Commit x k h = subst IsRunDraft h.1 (record {
  steps = All-push (IsOf (kinds_of d.schema)) d.steps (Commit d.moment) k.steps tt;
  sections = k.sections;
  fields = k.fields;
  few_sets = k.few_sets;
  closed = k.closed;
})
behind_keeps line d d1 firsts.Abort x k h = subst IsRunDraft h.1 (record {
  steps = All-push (IsOf (kinds_of d.schema)) d.steps Abort k.steps tt;
  sections = k.sections;
  fields = k.fields;
  few_sets = k.few_sets;
  closed = k.closed;
})
behind_keeps line d d1 firsts.Round x k h = subst IsRunDraft h.1 (record {
  steps = All-nil (IsOf (kinds_of d.schema));
  sections = ended_sections d k;
  fields = k.fields;
  few_sets = k.few_sets;
  closed = ended_closed d k;
})

statement_keeps : (d d1 : Draft) (x : List Lexeme) → IsRunDraft d → (form.statement d).whole x d1 → IsRunDraft d1
statement_keeps d d1 x k (word, x1, y1, e1, w1, (d2, x2, y2, e2, w2, h)) =
    let then = behind_keeps word.0 d d2 word.1 x2 k w2 in
    subst IsRunDraft h.1 (record { steps = then.steps; sections = then.sections; fields = then.fields; few_sets = then.few_sets; closed = then.closed })

empty_runs : IsRunDraft empty
empty_runs = record {
  steps = All-nil (IsOf []);
  sections = All-nil (AreOf []);
  fields = All-nil HasFields;
  few_sets = omega arith;
  closed = All-nil EndsClosed;
}

-- a set among the declared ones, by its kinds
set_of_kinds : (schema : List SetDecl) (i : ℕ) (ks : List Kind) → slice_get (kinds_of schema) i ≡ Some ks → (s : SetDecl) × (slice_get schema i ≡ Some s) × (s.kinds ≡ ks)
set_of_kinds schema i ks h = go (slice_get schema i) refl where
  go : (o : Option SetDecl) → slice_get schema i ≡ o → (s : SetDecl) × (slice_get schema i ≡ Some s) × (s.kinds ≡ ks)
  go None e = let none : None ≡ Some ks = ap (option_map (λ (s : SetDecl). s.kinds)) (sym e) ∙ sym (slice_get-map (λ (s : SetDecl). s.kinds) schema i) ∙ h in absurd (cc none)
  go (Some s) e = (s, e, let same : Some s.kinds ≡ Some ks = ap (option_map (λ (s : SetDecl). s.kinds)) (sym e) ∙ sym (slice_get-map (λ (s : SetDecl). s.kinds) schema i) ∙ h in cc same)

fits_set : (ks : List Kind) (parts : List Interval) → AreParts ks parts → ((length ks == length parts) && intervals_fit ks parts) ≡ true
fits_set ks parts k = let e = eq-eqb _ _ k.lengths in let f = k.fit in rw (e, f) refl

runs : (schema : List SetDecl) (s : Step) → IsOf (kinds_of schema) s → IsRunnableStep schema s
unfolding IsOf
runs schema (Change line set verb e now) k =
    let found = set_of_kinds schema set k.0 k.1 in
    (found.0, found.1, fits_set found.0.kinds e.parts (subst (λ (z : List Kind). AreParts z e.parts) (sym found.2) k.2))
runs schema (Flush line set now) k = let found = set_of_kinds schema set k.0 k.1 in (found.0, found.1)
runs schema (Commit now) k = tt
runs schema Abort k = tt

all_run : (schema : List SetDecl) (sections : List (List Step)) → All (AreOf (kinds_of schema)) sections → All (All (IsRunnableStep schema)) sections
all_run schema sections all = λ i s lt. λ j a le. runs schema _ (all i s lt j a le)

pub script_is_read : (text : List ℕ) (s : Script) → IsScriptText text s → IsRunnable s
unfolding IsScriptText
script_is_read text s (read, x, y, e, (d, x1, y1, e1, w, h), (u, x2, y2, e2, w2, h2)) =
    let k = lines_keep separates form.statement IsRunDraft statement_keeps (empty, true) d x1 empty_runs w in
    subst IsRunnable (h.1 ∙ h2.1) (record { sets = k.fields; few_sets = k.few_sets; steps = all_run d.0.schema (ended d.0) (ended_sections d.0 k); closed = ended_closed d.0 k })
