-- The text of a listing means its sets, table by table.
use Rattle.std.proofs.Common.{◌≡◌, refl, sym, ◌∙◌, ap, subst, ℕ, ◌+◌, ◌<◌, not, List, [], ◌∷◌, ◌++◌, length, map, flat_map, Bool, true, false, Option, Some, None, is_some, option_map, codes, append_assoc, append-nil, length-append, arith, cond}
use Rattle.std.specs.List.{join_by}
use Rattle.std.proofs.lemmas.Bool.{and_from, lt-ltb}
use Rattle.set_model.specs.declared.script.Family.{Family}
use Rattle.set_model.specs.declared.script.Family.TheVariants.{Ip, Ip6, Inet, Arp, Bridge, Netdev}
use Rattle.set_model.specs.declared.script.SetDecl.{SetDecl}
use Rattle.set_model.specs.declared.script.Step.{Step}
use Rattle.set_model.specs.SetState.{State}
use Rattle.set_model.specs.Text.{family_text}
use Rattle.token_forms.specs.Form.{Form, many, done, ◌>>=◌, ◌>>◌}
use Rattle.token_forms.specs.Words.{is_name, name, name_value, word_value, mark, separates, line, lines}
use Rattle.set_script.specs.declared.draft.Draft.{Draft}
use Rattle.set_script.specs.declared.words.FirstWord.{FirstWord}
use Rattle.set_script.specs.declared.words.FirstWord.TheVariants as firsts
use Rattle.set_script.specs.Limits.{most_sets}
use Rattle.set_script.specs.Names.{family_of, first_of, set_place, may_declare}
use Rattle.set_script.specs.Changes.{begun}
use Rattle.set_script.specs.Script as form
use Rattle.set_report.specs.ListText.{items_text, listed_set}
use Rattle.listing_laws.specs.Listing.{unlined, addition, all_additions, IsListableSet, IsNameWord}
use Rattle.listing_laws.proofs.WordTexts.{Word}
use Rattle.listing_laws.proofs.SetTexts.{Rest, break_next, item_line, name_word, drafted, Lists, block_text, block_means}
use Rattle.listing_laws.proofs.Means.{Means, Is, means_done, means_bind, means_then, means_seq, means_last, means_weaken, means_space, means_tab, means_closed, means_word, means_word_by, means_mark, means_as}

-- These sets may be declared after others, one after another.
unfoldable pub Declarable : ℕ → List SetDecl → List (SetDecl × State) → Type 0
Declarable now schema [] = Unit {0}
Declarable now schema ((d, s) ∷ sets) = IsListableSet now d s × (length schema < most_sets) × (set_place schema d.family d.table d.name ≡ None) × Declarable now (schema ++ d ∷ []) sets

abbrev pub decls : List (SetDecl × State) → List SetDecl
decls sets = map (λ p. p.0) sets

-- The draft after more sets.
abbrev pub Further : ℕ → Bool → List SetDecl → List Step → List (SetDecl × State) → Draft → Type 0
Further now begun schema steps sets = Lists begun (schema ++ decls sets) (map unlined steps ++ all_additions now (length schema) sets)

pub further-last : (now : ℕ) (begun : Bool) (schema : List SetDecl) (steps : List Step) → Further now begun schema steps [] (drafted begun schema steps)
further-last now begun schema steps = (steps, ap (λ (z : List SetDecl). drafted begun z steps) (sym (append-nil schema)), sym (append-nil (map unlined steps)))

-- one set, and then others
further-next : (now : ℕ) (begun : Bool) (schema : List SetDecl) (steps later : List Step) (d : SetDecl) (s : State) (sets : List (SetDecl × State)) (x : Draft)
    → map unlined later ≡ map unlined steps ++ map (addition now (length schema)) s.elements → Further now begun (schema ++ d ∷ []) later sets x → Further now begun schema steps ((d, s) ∷ sets) x
further-next now begun schema steps later d s sets x same (last, is, adds) =
    let number : length (schema ++ d ∷ []) ≡ length schema + 1 = length-append schema (d ∷ []) in (
      last,
      is ∙ ap (λ (z : List SetDecl). drafted begun z last) (append_assoc schema (d ∷ []) (decls sets)),
      adds ∙ ap (λ (n : ℕ). map unlined later ++ all_additions now n sets) number ∙ ap (λ (z : List Step). z ++ all_additions now (length schema + 1) sets) same
          ∙ append_assoc (map unlined steps) (map (addition now (length schema)) s.elements) (all_additions now (length schema + 1) sets),
    )

module _ (now : ℕ) (p : Family × List ℕ) where
  abbrev Block : Draft → Form Draft
  Block = form.set_block p

  -- a set of this table, with its line's end
  set_next : (begun : Bool) (schema : List SetDecl) (steps : List Step) (d : SetDecl) (s : State) (rest : List ℕ) (Q : Draft × Bool → Type 0)
      → (d.family, d.table) ≡ p → IsListableSet now d s → length schema < most_sets → set_place schema d.family d.table d.name ≡ None
      → ((steps1 : List Step) → map unlined steps1 ≡ map unlined steps ++ map (addition now (length schema)) s.elements → Rest Block true rest (drafted begun (schema ++ d ∷ []) steps1, true) Q)
      → Rest Block true (listed_set now (d, s) ++ rest) (drafted begun schema steps, true) Q
  set_next begun schema steps d s rest Q here is room new k =
      let may : may_declare (drafted begun schema steps) d.family d.table d.name ≡ true = and_from _ _ (and_from _ _ (and_from _ _ is.name.named refl) (lt-ltb (length schema) most_sets room)) (ap (λ (o : Option ℕ). not (is_some o)) new) in
      let text = block_text now d s (length schema) is begun schema steps refl in
      let block = subst (λ (q : Family × List ℕ). Means false (form.set_block q (drafted begun schema steps)) text (Lists begun (schema ++ d ∷ []) (map unlined steps ++ map (addition now (length schema)) s.elements))) here
      (means_closed (block_means now d s (length schema) is begun schema steps refl may)) in
      means_as _ true (9 ∷ (text ++ 10 ∷ rest)) (listed_set now (d, s) ++ rest) Q (spelled (items_text now d s) rest)
      (means_tab (item_line Block (drafted begun schema steps) true text rest _ Q block
      (λ x lists. subst (λ (z : Draft). Rest Block true rest (z, true) Q) (sym lists.1) (k lists.0 lists.2))))
    where
      spelled : (items rest : List ℕ) → 9 ∷ ((codes "set " ++ (d.name ++ (codes " {\n" ++ (items ++ codes "\t}")))) ++ 10 ∷ rest) ≡ (codes "\tset " ++ d.name ++ codes " {\n" ++ items ++ codes "\t}\n") ++ rest
      spelled items rest =
          ap (λ (z : List ℕ). codes "\tset " ++ z)
          (append_assoc d.name (codes " {\n" ++ (items ++ codes "\t}")) (10 ∷ rest)
          ∙ ap (λ (z : List ℕ). d.name ++ (codes " {\n" ++ z)) (append_assoc items (codes "\t}") (10 ∷ rest))
          ∙ sym (append_assoc (d.name ++ codes " {\n" ++ items) (codes "\t}\n") rest ∙ append_assoc (d.name ++ codes " {\n") items (codes "\t}\n" ++ rest) ∙ append_assoc d.name (codes " {\n") (items ++ (codes "\t}\n" ++ rest))))

  abbrev next_set : SetDecl × State → List ℕ
  next_set q = codes "\n" ++ listed_set now q

  unfoldable pub AreHere : List (SetDecl × State) → Type 0
  AreHere [] = Unit {0}
  AreHere (q ∷ sets) = ((q.0.family, q.0.table) ≡ p) × AreHere sets

  -- the sets after the first, each after an empty line
  more_sets : (sets : List (SetDecl × State)) (begun : Bool) (schema : List SetDecl) (steps : List Step) → AreHere sets → Declarable now schema sets
      → Rest Block true (flat_map next_set sets) (drafted begun schema steps, true) (λ r. Further now begun schema steps sets r.0)
  unfolding AreHere Declarable
  more_sets [] begun schema steps here may = means_last (line separates Block) true (drafted begun schema steps, true) (λ r. Further now begun schema steps [] r.0) (further-last now begun schema steps)
  more_sets ((d, s) ∷ sets) begun schema steps here may =
      break_next Block (drafted begun schema steps) true true (listed_set now (d, s) ++ flat_map next_set sets) (λ r. Further now begun schema steps ((d, s) ∷ sets) r.0)
      (set_next begun schema steps d s (flat_map next_set sets) (λ r. Further now begun schema steps ((d, s) ∷ sets) r.0) here.0 may.0 may.1 may.2
      (λ later same. means_weaken _ true _ (λ r. Further now begun (schema ++ d ∷ []) later sets r.0) (λ r. Further now begun schema steps ((d, s) ∷ sets) r.0) (λ r f. further-next now begun schema steps later d s sets r.0 same f)
      (more_sets sets begun (schema ++ d ∷ []) later here.1 may.3)))

  -- all sets of a table
  sets_mean : (sets : List (SetDecl × State)) (begun : Bool) (schema : List SetDecl) (steps : List Step) → AreHere sets → Declarable now schema sets
      → Rest Block true (join_by (listed_set now) (codes "\n") sets) (drafted begun schema steps, true) (λ r. Further now begun schema steps sets r.0)
  unfolding AreHere Declarable
  sets_mean [] begun schema steps here may = means_last (line separates Block) true (drafted begun schema steps, true) (λ r. Further now begun schema steps [] r.0) (further-last now begun schema steps)
  sets_mean ((d, s) ∷ sets) begun schema steps here may =
      set_next begun schema steps d s (flat_map next_set sets) (λ r. Further now begun schema steps ((d, s) ∷ sets) r.0) here.0 may.0 may.1 may.2
      (λ later same. means_weaken _ true _ (λ r. Further now begun (schema ++ d ∷ []) later sets r.0) (λ r. Further now begun schema steps ((d, s) ∷ sets) r.0) (λ r f. further-next now begun schema steps later d s sets r.0 same f)
      (more_sets sets begun (schema ++ d ∷ []) later here.1 may.3))

-- Tables.
name_means : (w : List ℕ) → Word w → is_name w ≡ true → Means false name w (Is w)
name_means w word named = means_word_by [] name_value w w word (λ behind line place. ap (λ (b : Bool). cond b (Some w) None) named)

pub family_word : (f : Family) → Word (family_text f) × (is_name (family_text f) ≡ true) × (family_of (family_text f) ≡ Some f)
family_word Ip = (record { some = omega arith; bytes = record { all = refl } }, refl, refl)
family_word Ip6 = (record { some = omega arith; bytes = record { all = refl } }, refl, refl)
family_word Inet = (record { some = omega arith; bytes = record { all = refl } }, refl, refl)
family_word Arp = (record { some = omega arith; bytes = record { all = refl } }, refl, refl)
family_word Bridge = (record { some = omega arith; bytes = record { all = refl } }, refl, refl)
family_word Netdev = (record { some = omega arith; bytes = record { all = refl } }, refl, refl)

place_means : (f : Family) (table : List ℕ) → IsNameWord table → Means false form.table_place (family_text f ++ (32 ∷ table)) (Is (f, table))
place_means f table is =
    let w = family_word f in
    let known = means_as _ false (table ++ []) table (Is (f, table)) (append-nil table)
    (means_then name (λ (t : List ℕ). done (f, t)) false false table [] table (Is (f, table)) (name_means table (name_word table is) is.named) (λ rest fit. fit) (means_done false (f, table) (Is (f, table)) refl)) in
    means_then name (λ (v : List ℕ). form.table_behind v (family_of v)) false false (family_text f) (32 ∷ table) (family_text f) (Is (f, table)) (name_means (family_text f) w.0 w.1) (λ rest fit. refl)
    (subst (λ (o : Option Family). Means false (form.table_behind (family_text f) o) (32 ∷ table) (Is (f, table))) (sym w.2) (means_space known))

-- A table adds its sets.
module _ (now : ℕ) (begun_before : Bool) (schema : List SetDecl) (steps : List Step) (d : SetDecl) (named : IsNameWord d.table) (sets : List (SetDecl × State)) (here : AreHere now (d.family, d.table) sets) (may : Declarable now schema sets) where
  abbrev start : Draft
  start = drafted begun_before schema steps

  abbrev inside : List ℕ
  inside = join_by (listed_set now) (codes "\n") sets

  abbrev tail : Family × List ℕ → Form Draft
  tail p = mark 123 >> (lines separates (form.set_block p) (start, true) >>= λ (d1 : Draft). mark 125 >> done d1)

  braces_mean : Means true (tail (d.family, d.table)) (codes " {\n" ++ (inside ++ codes "}")) (Further now begun_before schema steps sets)
  braces_mean =
      let block = form.set_block (d.family, d.table) in
      let all = break_next block start true true inside (λ r. Further now begun_before schema steps sets r.0) (sets_mean now (d.family, d.table) sets begun_before schema steps here may) in
      let read = means_as _ true ((10 ∷ inside) ++ []) (10 ∷ inside) _ (append-nil (10 ∷ inside))
      (means_bind (many (line separates block) (start, true)) (λ (r : Draft × Bool). done r.0) true true (10 ∷ inside) [] (λ r. Further now begun_before schema steps sets r.0) (Further now begun_before schema steps sets) all (λ rest fit. refl)
      (λ r f. means_done true r.0 (Further now begun_before schema steps sets) f)) in
      let closed = means_bind (lines separates block (start, true)) (λ (d1 : Draft). mark 125 >> done d1) true true (10 ∷ inside) (codes "}") (Further now begun_before schema steps sets) (Further now begun_before schema steps sets) read (λ rest fit. refl)
      (λ x f. means_seq (means_mark 125 (λ bytes. refl)) (means_done true x (Further now begun_before schema steps sets) f) (λ rest fit. refl)) in
      means_space (means_seq (means_mark 123 (λ bytes. refl)) closed (λ rest fit. refl))

  abbrev pub table_text : List ℕ
  table_text = codes "table " ++ ((family_text d.family ++ (32 ∷ d.table)) ++ (codes " {\n" ++ (inside ++ codes "}")))

  abbrev Then : Draft → Type 0
  Then = Further now true schema steps sets

  pub table_means : Means true (form.statement start) table_text Then
  table_means =
      let block = means_then form.table_place tail false true (family_text d.family ++ (32 ∷ d.table)) (codes " {\n" ++ (inside ++ codes "}")) (d.family, d.table) (Further now begun_before schema steps sets) (place_means d.family d.table named) (λ rest fit. refl) braces_mean in
      let behind = 32 ∷ ((family_text d.family ++ (32 ∷ d.table)) ++ (codes " {\n" ++ (inside ++ codes "}"))) in
      let begin : (x : Draft) → Further now begun_before schema steps sets x → Then (begun x) = λ x f. (f.0, ap begun f.1, f.2) in
      let whole = means_as _ true (behind ++ []) behind Then (append-nil behind)
      (means_bind (form.table_block start) (λ (x : Draft). done (begun x)) true true behind [] (Further now begun_before schema steps sets) Then (means_space block) (λ rest fit. refl) (λ x f. means_done true (begun x) Then (begin x f))) in
      means_bind form.first_word (λ (w : ℕ × FirstWord). form.statement_behind w.0 start w.1 >>= λ (x : Draft). done (begun x)) false true (codes "table") behind (λ w. w.1 ≡ firsts.Table) Then
      (means_word [] (λ t (w : ℕ × FirstWord). word_value (λ t. option_map (λ w. (t.line, w)) (first_of t.bytes)) t ≡ Some w) (λ w. w.1 ≡ firsts.Table) (codes "table") (record { some = omega arith; bytes = record { all = refl } }) (λ behind line place. ((line, firsts.Table), refl, refl)))
      (λ rest fit. refl)
      (λ w is. subst (λ (z : FirstWord). Means true (form.statement_behind w.0 start z >>= λ (x : Draft). done (begun x)) behind Then) (sym is) whole)
