-- The text of a whole listing is a script's.
use Rattle.std.proofs.Common.{◌≡◌, refl, sym, ◌∙◌, ap, subst, ℕ, ◌+◌, ◌-◌, ◌≤◌, List, [], ◌∷◌, ◌++◌, length, map, flat_map, bytes_eq, Bool, true, false, Option, Some, None, option_map, slice_get, codes, All, append_assoc, append-nil, length-append, arith, cond}
use Rattle.std.specs.List.{join_by, zip, AllPairs}
use Rattle.std.proofs.lemmas.Bool.{and_parts}
use Rattle.std.proofs.lemmas.List.{map-append, length-map}
use Rattle.std.proofs.lemmas.List.Elements.{All-head, All-tail}
use Rattle.std.proofs.lemmas.Option.{slice_get-map, same_Some}
use Rattle.std.proofs.lemmas.Slice.Eq.{bytes_eq-Decides}
use Rattle.set_model.specs.declared.report.Event.{Event}
use Rattle.set_model.specs.declared.script.Family.{Family}
use Rattle.set_model.specs.declared.script.SetDecl.{SetDecl}
use Rattle.set_model.specs.declared.script.Script.{Script}
use Rattle.set_model.specs.declared.script.Step.{Step}
use Rattle.set_model.specs.declared.script.Step.TheVariants.{Change, Flush, Commit, Abort}
use Rattle.set_model.specs.Runnable.{opens, is_open}
use Rattle.set_model.specs.SetState.{State}
use Rattle.set_model.specs.Text.{family_text}
use Rattle.token_forms.specs.declared.token.TokenKind.TheVariants as kinds
use Rattle.token_forms.specs.Form.{done}
use Rattle.token_forms.specs.TextTokens.{text_tokens}
use Rattle.token_forms.specs.Words.{separates, line}
use Rattle.set_script.specs.declared.draft.Draft.{Draft}
use Rattle.set_script.specs.Limits.{most_sets}
use Rattle.set_script.specs.Names.{family_of, is_set}
use Rattle.set_script.specs.Changes.{empty, with_commit, finished_script}
use Rattle.set_script.specs.Script as form
use Rattle.set_script.specs.ScriptText.{IsScriptText}
use Rattle.listing_laws.proofs.RelistedLaws.{no_position, pairs-before}
use Rattle.set_report.specs.Remarks.{remarks_text}
use Rattle.set_report.specs.ListText.{listed_set, listed_table, sets_beside, same_table, first_sets, list_text}
use Rattle.listing_laws.specs.Listing.{unlined, addition, all_additions, by_table, AreApart, IsListableSet, IsNameWord, IsListing, ListingMeans}
use Rattle.listing_laws.proofs.ByTable.{by_table_short, by_table_apart, by_table_all, declared_all, first_named}
use Rattle.listing_laws.proofs.RemarkLaws.{HasNames, remark, remark_quiet, remark_spelled}
use Rattle.listing_laws.proofs.SetTexts.{Rest, break_next, item_line, drafted}
use Rattle.listing_laws.proofs.TableTexts.{Declarable, AreHere, decls, Further, further-last, family_word, table_text, table_means}
use Rattle.listing_laws.proofs.Means.{Means, token_at, means_done, means_bind, means_last, means_weaken, means_closed, means_comment, means_as}

-- The additions of sets after others.
additions-append : (now : ℕ) (xs ys : List (SetDecl × State)) (set : ℕ) → all_additions now set (xs ++ ys) ≡ all_additions now set xs ++ all_additions now (set + length xs) ys
additions-append now [] ys set = let same : set ≡ set + 0 = omega arith in ap (λ (n : ℕ). all_additions now n ys) same
additions-append now ((d, s) ∷ xs) ys set =
    let next : set + 1 + length xs ≡ set + length ((d, s) ∷ xs) = omega arith in
    ap (λ (z : List Step). map (addition now set) s.elements ++ z) (additions-append now xs ys (set + 1) ∙ ap (λ (n : ℕ). all_additions now (set + 1) xs ++ all_additions now n ys) next)
    ∙ sym (append_assoc (map (addition now set) s.elements) (all_additions now (set + 1) xs) (all_additions now (set + length ((d, s) ∷ xs)) ys))

further-append : (now : ℕ) (c : Bool) (schema : List SetDecl) (steps later : List Step) (xs ys : List (SetDecl × State)) (x : Draft)
    → map unlined later ≡ map unlined steps ++ all_additions now (length schema) xs → Further now c (schema ++ decls xs) later ys x → Further now c schema steps (xs ++ ys) x
further-append now c schema steps later xs ys x same (last, is, adds) =
    let names = map-append (λ (p : SetDecl × State). p.0) xs ys in
    let number : length (schema ++ decls xs) ≡ length schema + length xs = length-append schema (decls xs) ∙ ap (λ (n : ℕ). length schema + n) (length-map xs (λ (p : SetDecl × State). p.0)) in (
      last,
      is ∙ ap (λ (z : List SetDecl). drafted c z last) (append_assoc schema (decls xs) (decls ys) ∙ ap (λ (z : List SetDecl). schema ++ z) (sym names)),
      adds ∙ ap (λ (n : ℕ). map unlined later ++ all_additions now n ys) number ∙ ap (λ (z : List Step). z ++ all_additions now (length schema + length xs) ys) same
          ∙ append_assoc (map unlined steps) (all_additions now (length schema) xs) (all_additions now (length schema + length xs) ys) ∙ ap (λ (z : List Step). map unlined steps ++ z) (sym (additions-append now xs ys (length schema))),
    )

declarable-split : (now : ℕ) (xs ys : List (SetDecl × State)) (schema : List SetDecl) → Declarable now schema (xs ++ ys) → Declarable now schema xs × Declarable now (schema ++ decls xs) ys
unfolding Declarable
declarable-split now [] ys schema h = (tt, subst (λ (z : List SetDecl). Declarable now z ys) (sym (append-nil schema)) h)
declarable-split now ((d, s) ∷ xs) ys schema h =
    let k = declarable-split now xs ys (schema ++ d ∷ []) h.3 in
    ((h.0, h.1, h.2, k.0), subst (λ (z : List SetDecl). Declarable now z ys) (append_assoc schema (d ∷ []) (decls xs)) k.1)

declarable : (now : ℕ) (sets : List (SetDecl × State)) (schema : List SetDecl) → All (λ p. IsListableSet now p.0 p.1) sets → length (schema ++ decls sets) ≤ most_sets → AllPairs AreApart (schema ++ decls sets) → Declarable now schema sets
unfolding Declarable
declarable now [] schema each few apart = tt
declarable now ((d, s) ∷ sets) schema each few apart =
    let same = append_assoc schema (d ∷ []) (decls sets) in
    let count = length-append schema (d ∷ decls sets) in (
      All-head (λ p. IsListableSet now p.0 p.1) (d, s) sets each,
      omega (arith, few, count),
      no_position (is_set d.family d.table d.name) schema (pairs-before AreApart schema d (decls sets) apart),
      declarable now sets (schema ++ d ∷ []) (All-tail (λ p. IsListableSet now p.0 p.1) (d, s) sets each) (subst (λ (z : List SetDecl). length z ≤ most_sets) (sym same) few) (subst (λ (z : List SetDecl). AllPairs AreApart z) (sym same) apart),
    )

-- The sets beside a set are of its table.
same_place : (a b : SetDecl) → same_table a b ≡ true → ◌≡◌ {A = Family × List ℕ} (b.family, b.table) (a.family, a.table)
same_place a b h =
    let both = and_parts (bytes_eq (family_text a.family) (family_text b.family)) (bytes_eq a.table b.table) h in
    let texts = (bytes_eq-Decides (family_text a.family) (family_text b.family)).0 both.0 in
    let family : b.family ≡ a.family = same_Some b.family a.family (sym (family_word b.family).2 ∙ ap family_of (sym texts) ∙ (family_word a.family).2) in
    let table : b.table ≡ a.table = sym ((bytes_eq-Decides a.table b.table).0 both.1) in
    λ i. (family i, table i)

are_here : (now : ℕ) (d : SetDecl) (sets : List (SetDecl × State)) → AreHere now (d.family, d.table) (sets_beside d sets)
unfolding AreHere
are_here now d [] = tt
are_here now d (q ∷ sets) = go (same_table d q.0) refl (are_here now d sets) where
  go : (b : Bool) → same_table d q.0 ≡ b → AreHere now (d.family, d.table) (sets_beside d sets) → AreHere now (d.family, d.table) (cond b (q ∷ sets_beside d sets) (sets_beside d sets))
  go true e k = (same_place d q.0 e, k)
  go false e k = k

-- Tables one after another.
module _ (now : ℕ) (sets : List (SetDecl × State)) where
  abbrev beside : SetDecl → List (SetDecl × State)
  beside d = sets_beside d sets

  Named : List SetDecl → Type 0
  Named [] = Unit {0}
  Named (d ∷ ds) = IsNameWord d.table × Named ds

  abbrev Furthers : List SetDecl → List Step → List (SetDecl × State) → Draft × Bool → Type 0
  Furthers schema steps more r = (b : Bool) × Further now b schema steps more r.0

  abbrev next_table : SetDecl → List ℕ
  next_table d = codes "\n" ++ listed_table sets now d

  table_next : (b : Bool) (schema : List SetDecl) (steps : List Step) (d : SetDecl) (rest : List ℕ) (Q : Draft × Bool → Type 0) → IsNameWord d.table → Declarable now schema (beside d)
      → ((later : List Step) → map unlined later ≡ map unlined steps ++ all_additions now (length schema) (beside d) → Rest form.statement true rest (drafted true (schema ++ decls (beside d)) later, true) Q)
      → Rest form.statement true (listed_table sets now d ++ rest) (drafted b schema steps, true) Q
  table_next b schema steps d rest Q named may k =
      let here = are_here now d sets in
      let text = table_text now b schema steps d named (beside d) here may in
      means_as _ true (text ++ 10 ∷ rest) (listed_table sets now d ++ rest) Q (spelled (family_text d.family) d.table (join_by (listed_set now) (codes "\n") (beside d)))
      (item_line form.statement (drafted b schema steps) true text rest (Further now true schema steps (beside d)) Q (means_closed (table_means now b schema steps d named (beside d) here may))
      (λ x f. subst (λ (z : Draft). Rest form.statement true rest (z, true) Q) (sym f.1) (k f.0 f.2)))
    where
      spelled : (f t i : List ℕ) → (codes "table " ++ ((f ++ (32 ∷ t)) ++ (codes " {\n" ++ (i ++ codes "}")))) ++ 10 ∷ rest ≡ (codes "table " ++ f ++ codes " " ++ t ++ codes " {\n" ++ i ++ codes "}\n") ++ rest
      spelled f t i =
          ap (λ (z : List ℕ). codes "table " ++ z)
          (append_assoc (f ++ (32 ∷ t)) (codes " {\n" ++ (i ++ codes "}")) (10 ∷ rest) ∙ append_assoc f (32 ∷ t) ((codes " {\n" ++ (i ++ codes "}")) ++ 10 ∷ rest)
          ∙ ap (λ (z : List ℕ). f ++ (32 ∷ (t ++ (codes " {\n" ++ z)))) (append_assoc i (codes "}") (10 ∷ rest))
          ∙ sym (append_assoc (f ++ codes " " ++ t ++ codes " {\n" ++ i) (codes "}\n") rest ∙ append_assoc (f ++ codes " " ++ t ++ codes " {\n") i (codes "}\n" ++ rest)
          ∙ append_assoc (f ++ codes " " ++ t) (codes " {\n") (i ++ (codes "}\n" ++ rest)) ∙ append_assoc (f ++ codes " ") t (codes " {\n" ++ (i ++ (codes "}\n" ++ rest)))
          ∙ append_assoc f (codes " ") (t ++ (codes " {\n" ++ (i ++ (codes "}\n" ++ rest))))))

  further : (b : Bool) (schema : List SetDecl) (steps later : List Step) (d : SetDecl) (ds : List SetDecl) (r : Draft × Bool) → map unlined later ≡ map unlined steps ++ all_additions now (length schema) (beside d)
      → Furthers (schema ++ decls (beside d)) later (flat_map beside ds) r → Furthers schema steps (flat_map beside (d ∷ ds)) r
  further b schema steps later d ds r same f = (f.0, further-append now f.0 schema steps later (beside d) (flat_map beside ds) r.0 same f.1)

  more_tables : (ds : List SetDecl) (b : Bool) (schema : List SetDecl) (steps : List Step) → Named ds → Declarable now schema (flat_map beside ds)
      → Rest form.statement true (flat_map next_table ds) (drafted b schema steps, true) (Furthers schema steps (flat_map beside ds))
  unfolding Named
  more_tables [] b schema steps named may = means_last (line separates form.statement) true (drafted b schema steps, true) (Furthers schema steps []) (b, further-last now b schema steps)
  more_tables (d ∷ ds) b schema steps named may =
      let split = declarable-split now (beside d) (flat_map beside ds) schema may in
      break_next form.statement (drafted b schema steps) true true (listed_table sets now d ++ flat_map next_table ds) (Furthers schema steps (flat_map beside (d ∷ ds)))
      (table_next b schema steps d (flat_map next_table ds) (Furthers schema steps (flat_map beside (d ∷ ds))) named.0 split.0
      (λ later same. means_weaken _ true _ (Furthers (schema ++ decls (beside d)) later (flat_map beside ds)) (Furthers schema steps (flat_map beside (d ∷ ds))) (λ r f. further b schema steps later d ds r same f)
      (more_tables ds true (schema ++ decls (beside d)) later named.1 split.1)))

  tables_mean : (ds : List SetDecl) → Named ds → Declarable now [] (flat_map beside ds) → Rest form.statement true (join_by (listed_table sets now) (codes "\n") ds) (empty, true) (Furthers [] [] (flat_map beside ds))
  unfolding Named
  tables_mean [] named may = means_last (line separates form.statement) true (empty, true) (Furthers [] [] []) (false, further-last now false [] [])
  tables_mean (d ∷ ds) named may =
      let split = declarable-split now (beside d) (flat_map beside ds) [] may in
      table_next false [] [] d (flat_map next_table ds) (Furthers [] [] (flat_map beside (d ∷ ds))) named.0 split.0
      (λ later same. means_weaken _ true _ (Furthers (decls (beside d)) later (flat_map beside ds)) (Furthers [] [] (flat_map beside (d ∷ ds))) (λ r f. further false [] [] later d ds r same f)
      (more_tables ds true (decls (beside d)) later named.1 split.1))

-- the end of the only section
open_same : (o : Option Step) → opens (option_map unlined o) ≡ opens o
open_same None = refl
open_same (Some (Change line set verb e now)) = refl
open_same (Some (Flush line set now)) = refl
open_same (Some (Commit now)) = refl
open_same (Some Abort) = refl

is_open_same : (steps : List Step) → is_open (map unlined steps) ≡ is_open steps
is_open_same steps =
    ap (λ (n : ℕ). opens (slice_get (map unlined steps) (n - 1))) (length-map steps unlined) ∙ ap opens (slice_get-map unlined steps (length steps - 1)) ∙ open_same (slice_get steps (length steps - 1))

commit_same : (now : ℕ) (steps : List Step) → map unlined (with_commit now steps) ≡ with_commit now (map unlined steps)
commit_same now steps = go (is_open steps) (is_open (map unlined steps)) (is_open_same steps) where
  go : (b c : Bool) → c ≡ b → map unlined (cond b (steps ++ Commit now ∷ []) steps) ≡ cond c (map unlined steps ++ Commit now ∷ []) (map unlined steps)
  go true true e = map-append unlined steps (Commit now ∷ [])
  go true false e = absurd (cc e)
  go false true e = absurd (cc e)
  go false false e = refl

finished : (now : ℕ) (b : Bool) (sets : List (SetDecl × State)) (x : Draft) → Further now b [] [] sets x → IsListing now sets (finished_script x)
finished now b sets x (steps, is, adds) =
    subst (λ (z : Draft). IsListing now sets (finished_script z)) (sym is) (record {
      schema = refl;
      sections = ap (λ (z : List Step). z ∷ []) (commit_same 0 steps ∙ ap (with_commit 0) adds);
      last = refl;
    })

-- a text that means a body is a script's text
script_of : (text : List ℕ) (P : Script → Type 0) → Means true form.body text P → (script : Script) × IsScriptText text script × P script
unfolding IsScriptText
script_of text P h =
    let x = h.found false 1 0 [] refl in
    let last_token = token_at kinds.End [] x.behind_after x.line_after x.place_after in
    let tokens : text_tokens text ≡ x.tokens ++ last_token ∷ [] = ap text_tokens (sym (append-nil text)) ∙ x.cut in
    (x.value, (x.value, x.tokens, last_token ∷ [], tokens, x.whole, (tt, last_token ∷ [], [], refl, (last_token, refl, refl), (refl, refl))), x.is)

tables_named : (now : ℕ) (sets : List (SetDecl × State)) (ds : List SetDecl) → All (λ (d : SetDecl). IsNameWord d.table) ds → Named now sets ds
unfolding Named
tables_named now sets [] h = tt
tables_named now sets (d ∷ ds) h = (All-head (λ (e : SetDecl). IsNameWord e.table) d ds h, tables_named now sets ds (All-tail (λ (e : SetDecl). IsNameWord e.table) d ds h))

-- the events before the first statement
events_pass : (schema : List SetDecl) (named : All HasNames schema) (events : List Event) (t : List ℕ) (Q : Draft × Bool → Type 0)
    → Rest form.statement true t (empty, true) Q → Rest form.statement true (remarks_text schema events ++ t) (empty, true) Q
events_pass schema named [] t Q k = k
events_pass schema named (event ∷ events) t Q k =
    let says = remark schema named event in
    let others = remarks_text schema events in
    let spelled : 35 ∷ (says ++ 10 ∷ (others ++ t)) ≡ remarks_text schema (event ∷ events) ++ t =
    ap (λ (z : List ℕ). 35 ∷ z) (sym (append_assoc (says ++ 10 ∷ []) others t ∙ append_assoc says (10 ∷ []) (others ++ t)))
    ∙ ap (λ (z : List ℕ). z ++ others ++ t) (remark_spelled schema named event) in
    means_as form.statements true (35 ∷ (says ++ 10 ∷ (others ++ t))) (remarks_text schema (event ∷ events) ++ t) Q spelled
    (means_comment form.statements true says (others ++ t) Q (remark_quiet schema named event).all (break_next form.statement empty true true (others ++ t) Q (events_pass schema named events t Q k)))

pub listing_means : ListingMeans
listing_means schema events sets now are =
    let all = zip schema sets in
    let listed = by_table schema sets in
    let text = remarks_text schema events ++ list_text schema sets now in
    let each = by_table_all (λ (p : SetDecl × State). IsListableSet now p.0 p.1) schema sets are.each in
    let named = declared_all (λ (d : SetDecl). IsNameWord d.table) (λ (p : SetDecl × State). IsListableSet now p.0 p.1) (λ p is. is.table) schema sets are.states are.each in
    let few : length (decls listed) ≤ most_sets = omega (arith, are.few, by_table_short schema sets, length-map listed (λ (p : SetDecl × State). p.0)) in
    let may = declarable now listed [] each few (by_table_apart schema sets are.apart) in
    let tables = tables_mean now all (first_sets schema) (tables_named now all (first_sets schema) (first_named (λ (d : SetDecl). IsNameWord d.table) schema named)) may in
    let names = declared_all HasNames (λ (p : SetDecl × State). IsListableSet now p.0 p.1) (λ p is. record { table = is.table; name = is.name }) schema sets are.states are.each in
    let whole = events_pass schema names events (list_text schema sets now) (Furthers now all [] [] listed) tables in
    let body = means_as form.body true (text ++ []) text (IsListing now listed) (append-nil text)
    (means_bind form.statements (λ (d : Draft × Bool). done (finished_script d.0)) true true text [] (Furthers now all [] [] listed) (IsListing now listed) whole (λ rest fit. refl)
    (λ r f. means_done true (finished_script r.0) (IsListing now listed) (finished now f.0 listed r.0 f.1))) in
    script_of text (IsListing now listed) body
