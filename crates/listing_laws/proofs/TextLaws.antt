-- The moments of a script that a text means never fall.
use Rattle.std.proofs.Common.{◌≡◌, refl, sym, ◌∙◌, ap, subst, ℕ, ◌≤◌, Bool, true, false, cond, List, [], ◌∷◌, ◌++◌, flat_map, Option, Some, None, All, slice_get, append_assoc, append-nil, arith}
use Rattle.std.proofs.lemmas.List.Concat.{flat_map-append}
use Rattle.set_model.specs.declared.kind.Interval.{Interval}
use Rattle.set_model.specs.declared.script.Family.{Family}
use Rattle.set_model.specs.declared.script.SetDecl.{SetDecl}
use Rattle.set_model.specs.declared.script.Step.{Step}
use Rattle.set_model.specs.declared.script.Step.TheVariants.{Flush, Commit, Abort}
use Rattle.set_model.specs.declared.script.Verb.{Verb}
use Rattle.set_model.specs.declared.script.Verb.TheVariants as verbs
use Rattle.set_model.specs.declared.script.Script.{Script}
use Rattle.set_model.specs.Control.{Mode, history}
use Rattle.set_model.specs.Runnable.{is_open}
use Rattle.token_forms.specs.Token.{Lexeme}
use Rattle.token_forms.specs.Words.{separates}
use Rattle.token_forms.proofs.KeepLaws.{many_keeps, lines_keep}
use Rattle.set_script.specs.declared.draft.Draft.{Draft}
use Rattle.set_script.specs.declared.draft.Declaration.{Declaration}
use Rattle.set_script.specs.declared.draft.Target.{Target}
use Rattle.set_script.specs.declared.draft.Options.{Options}
use Rattle.set_script.specs.declared.words.Flag.{Flag}
use Rattle.set_script.specs.declared.words.Flag.TheVariants as flags
use Rattle.set_script.specs.declared.words.FirstWord.{FirstWord}
use Rattle.set_script.specs.declared.words.FirstWord.TheVariants as firsts
use Rattle.set_script.specs.declared.words.AddWord.{AddWord}
use Rattle.set_script.specs.declared.words.AddWord.TheVariants as adds
use Rattle.set_script.specs.declared.words.FlushWord.{FlushWord}
use Rattle.set_script.specs.declared.words.FlushWord.TheVariants as flushes
use Rattle.set_script.specs.declared.words.ItemWord.{ItemWord}
use Rattle.set_script.specs.declared.words.ItemWord.TheVariants as items
use Rattle.set_script.specs.Changes.{empty, declaration, with_flag, change, with_commit, ended}
use Rattle.set_script.specs.Script as form
use Rattle.set_script.specs.ScriptText.{IsScriptText}
use Rattle.set_script.proofs.RunLaws.{script_is_read}
use Rattle.listing_laws.specs.Relisted.{ReadsBack}
use Rattle.listing_laws.specs.Rising.{moment_after, Rises}
use Rattle.listing_laws.proofs.RisingLaws.{history-reads-back}

rises-later : (steps : List Step) (first m n : ℕ) → m ≤ n → Rises first steps m → Rises first steps n
rises-later [] first m n le h = omega (arith, le, h)
rises-later (s ∷ steps) first m n le h = (h.0, rises-later steps (moment_after first s) m n le h.1)

-- after any moment up to this one, the step is between them
IsAt : ℕ → Step → Type 0
IsAt m s = (x : ℕ) → x ≤ m → (x ≤ moment_after x s) × (moment_after x s ≤ m)

rises-push : (steps : List Step) (first m : ℕ) (s : Step) → IsAt m s → Rises first steps m → Rises first (steps ++ s ∷ []) m
unfolding IsAt
rises-push [] first m s at h = at first h
rises-push (t ∷ steps) first m s at h = (h.0, rises-push steps (moment_after first t) m s at h.1)

change-at : (target : Target) (s : SetDecl) (line : ℕ) (parts : List Interval) (o : Options) (m : ℕ) → target.now ≡ m → IsAt m (change target s line parts o)
unfolding IsAt
change-at target s line parts o m at = λ x le. (omega (arith, le, at), omega (arith, at))

flush-at : (line set m : ℕ) → IsAt m (Flush line set m)
unfolding IsAt
flush-at line set m = λ x le. (le, omega arith)

commit-at : (m : ℕ) → IsAt m (Commit m)
unfolding IsAt
commit-at m = λ x le. (le, omega arith)

abort-at : (m : ℕ) → IsAt m Abort
unfolding IsAt
abort-at m = λ x le. (omega arith, le)

abbrev flat : List (List Step) → List Step
flat sections = flat_map (λ (steps : List Step). steps) sections

-- a set that is being declared, with its changes after these steps
record Declares (front : List Step) (m : ℕ) (s : Declaration × List Step) : Type 0 where
  now : s.0.target.now ≡ m
  steps : Rises 0 (front ++ s.1) m

-- steps after those of the sections before
module _ (front : List Step) (m : ℕ) where
  abbrev Goes : List Step → Type 0
  Goes steps = Rises 0 (front ++ steps) m

  goes-push : (steps : List Step) (s : Step) → IsAt m s → Goes steps → Goes (steps ++ s ∷ [])
  goes-push steps s at h = subst (λ (z : List Step). Rises 0 z m) (append_assoc front steps (s ∷ [])) (rises-push (front ++ steps) 0 m s at h)

  module _ (target : Target) (s : SetDecl) (at : target.now ≡ m) where
    element_keeps : (before behind : List Step) (x : List Lexeme) → Goes before → (form.element target s before).whole x behind → Goes behind
    element_keeps before behind x k (p, x1, y1, e1, w1, (o, x2, y2, e2, w2, h)) =
        subst (λ (z : List Step). Goes z) h.1 (goes-push before (change target s p.0 p.1 o) (change-at target s p.0 p.1 o m at) k)

    list_item_keeps : (before : List Step) (b : Bool) (behind : List Step × Bool) (x : List Lexeme) → Goes before → (form.list_item target s (before, b)).whole x behind → Goes behind.0
    list_item_keeps before true behind x k (steps, x1, y1, e1, w1, h) = subst (λ (r : List Step × Bool). Goes r.0) h.1 (element_keeps before steps x1 k w1)
    list_item_keeps before false behind x k (u1, x1, y1, e1, w1, (u2, x2, y2, e2, w2, h)) = subst (λ (r : List Step × Bool). Goes r.0) h.1 k

    list_keeps : (before behind : List Step) (x : List Lexeme) → Goes before → (form.list target s before).whole x behind → Goes behind
    list_keeps before behind x k (u1, x1, y1, e1, w1, (u2, x2, y2, e2, w2, (r, x3, y3, e3, w3, (u4, x4, y4, e4, w4, h)))) =
        subst (λ (z : List Step). Goes z) h.1
        (many_keeps (form.list_item target s) (λ (r : List Step × Bool). Goes r.0) (λ r r1 x k w. list_item_keeps r.0 r.1 r1 x k w) r (before, true) x3 k w3)

  list_of_keeps : (target : Target) (s : Option SetDecl) → target.now ≡ m → (before behind : List Step) (x : List Lexeme) → Goes before → (form.list_of target s before).whole x behind → Goes behind
  list_of_keeps target None at before behind x k w = absurd w
  list_of_keeps target (Some s) at before behind x k w = list_keeps target s at before behind x k w

  flag_keeps : (steps : List Step) (b : Declaration) (f : Flag) → Declares front m (b, steps) → Declares front m (with_flag b f, steps)
  flag_keeps steps b flags.Interval k = record { now = k.now; steps = k.steps }
  flag_keeps steps b flags.Timeout k = record { now = k.now; steps = k.steps }
  flag_keeps steps b flags.Disjoint k = record { now = k.now; steps = k.steps }

  one_flag_keeps : (steps : List Step) (b b1 : Declaration) (x : List Lexeme) → Declares front m (b, steps) → (form.flag b).whole x b1 → Declares front m (b1, steps)
  one_flag_keeps steps b b1 x k (f, x1, y1, e1, w1, h) = subst (λ (c : Declaration). Declares front m (c, steps)) h.1 (flag_keeps steps b f k)

  item_keeps : (s s1 : Declaration × List Step) (x : List Lexeme) → Declares front m s → (form.item s).whole x s1 → Declares front m s1
  item_keeps (b, steps) s1 x k (w, x1, y1, e1, w1, behind) = go w behind where
    go : (w : ItemWord) → (form.item_behind (b, steps) w).whole y1 s1 → Declares front m s1
    go items.Flags (b1, x2, y2, e2, w2, (b2, x3, y3, e3, w3, h)) =
        subst (Declares front m) h.1
        (many_keeps form.more_flags (λ (c : Declaration). Declares front m (c, steps)) (λ c c1 x k w. one_flag_keeps steps c c1 w.2 k w.5) b2 b1 x3 (one_flag_keeps steps b b1 x2 k w2) w3)
    go items.Timeout (t, x2, y2, e2, w2, h) = subst (Declares front m) h.1 (record { now = k.now; steps = k.steps })
    go items.Size (n, x2, y2, e2, w2, h) = subst (Declares front m) h.1 (record { now = k.now; steps = k.steps })
    go items.GcInterval (t, x2, y2, e2, w2, h) = subst (Declares front m) h.1 (record { now = k.now; steps = k.steps })
    go items.Policy (u, x2, y2, e2, w2, h) = subst (Declares front m) h.1 (record { now = k.now; steps = k.steps })
    go items.Comment (c, x2, y2, e2, w2, h) = subst (Declares front m) h.1 (record { now = k.now; steps = k.steps })
    go items.Elements (u, x2, y2, e2, w2, (after, x3, y3, e3, w3, h)) = subst (Declares front m) h.1 (record { now = k.now; steps = list_keeps b.target b.decl k.now steps after x3 k.steps w3 })

-- The steps so far never fall, and none is after the moment of what comes next.
abbrev IsRising : Draft → Type 0
IsRising d = Rises 0 (flat d.sections ++ d.steps) d.moment

set_body_keeps : (p : Family × List ℕ) (n : List ℕ) (d d1 : Draft) (x : List Lexeme) → IsRising d → (form.set_body d p n).whole x d1 → IsRising d1
set_body_keeps p n d d1 x k (u1, x1, y1, e1, w1, (u2, x2, y2, e2, w2, (ks, x3, y3, e3, w3, (s, x4, y4, e4, (r, x5, y5, e5, w5, h5), (u6, x6, y6, e6, w6, h))))) =
    let begun : Declares (flat d.sections) d.moment (declaration d p.0 p.1 n ks, d.steps) = record { now = refl; steps = k } in
    let made : Declares (flat d.sections) d.moment r.0 = lines_keep separates form.item (Declares (flat d.sections) d.moment) (item_keeps (flat d.sections) d.moment) ((declaration d p.0 p.1 n ks, d.steps), false) r x5 begun w5 in
    let last : Declares (flat d.sections) d.moment s = subst (Declares (flat d.sections) d.moment) h5.1 made in
    subst (λ (z : Draft). IsRising z) h.1 last.steps

set_block_keeps : (p : Family × List ℕ) (d d1 : Draft) (x : List Lexeme) → IsRising d → (form.set_block p d).whole x d1 → IsRising d1
set_block_keeps p d d1 x k (u1, x1, y1, e1, w1, (n, x2, y2, e2, w2, w3)) = set_body_keeps p n d d1 y2 k w3

changes_keep : (d d1 : Draft) (verb : Verb) (x : List Lexeme) → IsRising d → (form.changes d verb).whole x d1 → IsRising d1
changes_keep d d1 verb x k (p, x1, y1, e1, w1, (i, x2, y2, e2, w2, (behind, x3, y3, e3, w3, h))) =
    subst (λ (z : Draft). IsRising z) h.1 (list_of_keeps (flat d.sections) d.moment (record { set = i; verb = verb; now = d.moment }) (slice_get d.schema i) refl d.steps behind x3 k w3)

element_changes_keep : (d d1 : Draft) (verb : Verb) (x : List Lexeme) → IsRising d → (form.element_changes d verb).whole x d1 → IsRising d1
element_changes_keep d d1 verb x k (u, x1, y1, e1, w1, after) = changes_keep d d1 verb y1 k after

flush_keeps : (line : ℕ) (d d1 : Draft) (w : FlushWord) (x : List Lexeme) → IsRising d → (form.flush_behind line d w).whole x d1 → IsRising d1
flush_keeps line d d1 flushes.Set x k (p, x2, y2, e2, w2, (i, x3, y3, e3, w3, h)) = subst (λ (z : Draft). IsRising z) h.1 (goes-push (flat d.sections) d.moment d.steps (Flush line i d.moment) (flush-at line i d.moment) k)
flush_keeps line d d1 flushes.Ruleset x k h = subst (λ (z : Draft). IsRising z) h.1 k

table_keeps : (d d1 : Draft) (x : List Lexeme) → IsRising d → (form.table_block d).whole x d1 → IsRising d1
table_keeps d d1 x k (p, x1, y1, e1, w1, (u2, x2, y2, e2, w2, (d2, x3, y3, e3, (r, x4, y4, e4, w4, h4), (u5, x5, y5, e5, w5, h)))) =
    subst (λ (z : Draft). IsRising z) (h4.1 ∙ h.1) (lines_keep separates (form.set_block p) (λ (z : Draft). IsRising z) (set_block_keeps p) (d, true) r x4 k w4)

add_keeps : (d d1 : Draft) (w : AddWord) (x : List Lexeme) → IsRising d → (form.add_behind d w).whole x d1 → IsRising d1
add_keeps d d1 adds.Table x k (p, x1, y1, e1, w1, h) = subst (λ (z : Draft). IsRising z) h.1 k
add_keeps d d1 adds.Set x k (p, x1, y1, e1, w1, (n, x2, y2, e2, w2, w3)) = set_body_keeps p n d d1 y2 k w3
add_keeps d d1 adds.Element x k w = changes_keep d d1 verbs.Add x k w

-- the end of a section
closed_goes : (front steps : List Step) (m : ℕ) → Rises 0 (front ++ steps) m → Rises 0 (front ++ with_commit m steps) m
closed_goes front steps m k = go (is_open steps) where
  go : (b : Bool) → Rises 0 (front ++ cond b (steps ++ Commit m ∷ []) steps) m
  go true = goes-push front m steps (Commit m) (commit-at m) k
  go false = k

ended_goes : (d : Draft) → IsRising d → Rises 0 (flat (ended d)) d.moment
ended_goes d k =
    let last = with_commit d.moment d.steps in
    let same : flat (ended d) ≡ flat d.sections ++ last = flat_map-append (λ (steps : List Step). steps) d.sections (last ∷ []) ∙ ap (λ z. flat d.sections ++ z) (append-nil last) in
    subst (λ (z : List Step). Rises 0 z d.moment) (sym same) (closed_goes (flat d.sections) d.steps d.moment k)

behind_keeps : (line : ℕ) (d d1 : Draft) (w : FirstWord) (x : List Lexeme) → IsRising d → (form.statement_behind line d w).whole x d1 → IsRising d1
behind_keeps line d d1 firsts.Add x k (w, x1, y1, e1, w1, after) = add_keeps d d1 w y1 k after
behind_keeps line d d1 firsts.Table x k after = table_keeps d d1 x k after
behind_keeps line d d1 firsts.Create x k after = element_changes_keep d d1 verbs.Create x k after
behind_keeps line d d1 firsts.Delete x k after = element_changes_keep d d1 verbs.Delete x k after
behind_keeps line d d1 firsts.Destroy x k after = element_changes_keep d d1 verbs.Destroy x k after
behind_keeps line d d1 firsts.Flush x k (w, x1, y1, e1, w1, after) = flush_keeps line d d1 w y1 k after
behind_keeps line d d1 firsts.At x k (n, x1, y1, e1, (t, et, (kind, (value, later))), h) = subst (λ (z : Draft). IsRising z) h.1 (rises-later (flat d.sections ++ d.steps) 0 d.moment n later k)
behind_keeps line d d1 firsts.Commit x k h = subst (λ (z : Draft). IsRising z) h.1 (goes-push (flat d.sections) d.moment d.steps (Commit d.moment) (commit-at d.moment) k)
behind_keeps line d d1 firsts.Abort x k h = subst (λ (z : Draft). IsRising z) h.1 (goes-push (flat d.sections) d.moment d.steps Abort (abort-at d.moment) k)
behind_keeps line d d1 firsts.Round x k h = subst (λ (z : Draft). IsRising z) h.1 (subst (λ (z : List Step). Rises 0 z d.moment) (sym (append-nil (flat (ended d)))) (ended_goes d k))

statement_keeps : (d d1 : Draft) (x : List Lexeme) → IsRising d → (form.statement d).whole x d1 → IsRising d1
statement_keeps d d1 x k (word, x1, y1, e1, w1, (d2, x2, y2, e2, w2, h)) = subst (λ (z : Draft). IsRising z) h.1 (behind_keeps word.0 d d2 word.1 x2 k w2)

empty_rises : IsRising empty
empty_rises = omega arith

pub moments-rise : (text : List ℕ) (s : Script) → IsScriptText text s → Rises 0 (flat s.sections) s.last
unfolding IsScriptText
moments-rise text s (read, x, y, e, (d, x1, y1, e1, w, h), (u, x2, y2, e2, w2, h2)) =
    let k = lines_keep separates form.statement (λ (z : Draft). IsRising z) statement_keeps (empty, true) d x1 empty_rises w in
    subst (λ (z : Script). Rises 0 (flat z.sections) z.last) (h.1 ∙ h2.1) (ended_goes d.0 k)

pub text-reads-back : (mode : Mode) (text : List ℕ) (s : Script) → IsScriptText text s → All (ReadsBack s.last) (history mode s.schema s.sections).last.sets
text-reads-back mode text s means = history-reads-back mode s.schema s.sections s.last (script_is_read text s means).steps (moments-rise text s means)
