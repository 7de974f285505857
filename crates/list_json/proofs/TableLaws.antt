-- The sets of a table, and the tables, one more at a time.
use Rattle.std.proofs.Common.{◌≡◌, refl, sym, ◌∙◌, ap, ℕ, ◌+◌, List, [], ◌∷◌, ◌++◌, length, take, map, flat_map, filter, Bool, true, false, not, ◌||◌, if◌then◌else◌, Some, None, slice_get, get_or, append-nil, append_assoc, arith}
use Rattle.std.specs.List.{list_any, zip}
use Rattle.std.proofs.lemmas.Grind.{flat_map-append}
use Rattle.std.proofs.lemmas.List.{map-append}
use Rattle.std.proofs.lemmas.List.Elements.{filter-append}
use Rattle.std.proofs.lemmas.Option.{slice_get_within, slice_get-get_or}
use Rattle.serde_json.specs.Data.{Data}
use Rattle.serde_json.specs.View.{view}
use Rattle.serde_json.specs.declared.value.Value.{Value}
use Rattle.set_model.specs.declared.script.SetDecl.{SetDecl}
use Rattle.set_model.specs.SetState.{State, empty_set}
use Rattle.element_text.proofs.JoinLaws.{take-get, zip-get}
use Rattle.set_report.specs.ListText.{same_table, sets_beside, first_sets}
use Rattle.list_json.specs.JsonSets.{set_data, table_and_sets}
use Rattle.list_json.proofs.PushLaws.{one-more}

-- The sets of a table: one set more is one of them if it is in the table.
beside-one : (first d : SetDecl) (s : State) (schema : List SetDecl) (sets : List State) (i : ℕ) → slice_get schema i ≡ Some d → slice_get sets i ≡ Some s → same_table first d ≡ true
    → sets_beside first (take (i + 1) (zip schema sets)) ≡ sets_beside first (take i (zip schema sets)) ++ (d, s) ∷ []
beside-one first d s schema sets i h k same =
    ap (sets_beside first) (take-get (zip schema sets) i (d, s) (zip-get schema sets i d s h k))
    ∙ filter-append (λ (p : SetDecl × State). same_table first p.0) (take i (zip schema sets)) ((d, s) ∷ [])
    ∙ ap (λ b. sets_beside first (take i (zip schema sets)) ++ (if b then ((d, s) ∷ []) else [])) same

pub beside-other : (first d : SetDecl) (schema : List SetDecl) (sets : List State) (i : ℕ) → length sets ≡ length schema → slice_get schema i ≡ Some d → same_table first d ≡ false
    → sets_beside first (take (i + 1) (zip schema sets)) ≡ sets_beside first (take i (zip schema sets))
beside-other first d schema sets i long h other =
    let within = slice_get_within schema i d h in
    let s = get_or sets i (empty_set [] None false) in
    let k : slice_get sets i ≡ Some s = slice_get-get_or sets i (empty_set [] None false) (omega (arith, within, long)) in
    ap (sets_beside first) (take-get (zip schema sets) i (d, s) (zip-get schema sets i d s h k))
    ∙ filter-append (λ (p : SetDecl × State). same_table first p.0) (take i (zip schema sets)) ((d, s) ∷ [])
    ∙ ap (λ b. sets_beside first (take i (zip schema sets)) ++ (if b then ((d, s) ∷ []) else [])) other
    ∙ append-nil (sets_beside first (take i (zip schema sets)))

-- One set more, which is in the table.
pub set-more : (now : ℕ) (first d : SetDecl) (s : State) (schema : List SetDecl) (sets : List State) (i : ℕ) (vs new : List Value) (v : Value) (old : List Data) → slice_get schema i ≡ Some d → slice_get sets i ≡ Some s
    → same_table first d ≡ true → map view vs ≡ old ++ map (set_data now) (sets_beside first (take i (zip schema sets))) → new ≡ vs ++ v ∷ [] → view v ≡ set_data now (d, s)
    → map view new ≡ old ++ map (set_data now) (sets_beside first (take (i + 1) (zip schema sets)))
set-more now first d s schema sets i vs new v old at there same so_far pushed is =
    let before = sets_beside first (take i (zip schema sets)) in
    one-more vs new v (old ++ map (set_data now) before) (set_data now (d, s)) so_far pushed is
    ∙ append_assoc old (map (set_data now) before) (set_data now (d, s) ∷ [])
    ∙ ap (λ ds. old ++ ds) (sym (map-append (set_data now) before ((d, s) ∷ [])) ∙ ap (map (set_data now)) (sym (beside-one first d s schema sets i at there same)))

-- The first sets of tables: one more set is one of them if no set of its table comes before it.
abbrev fresh : Bool → SetDecl → List SetDecl
fresh true y = []
fresh false y = y ∷ []

abbrev of_others : SetDecl → SetDecl → Bool
of_others x z = not (same_table x z)

first_more : (xs : List SetDecl) (y : SetDecl) → first_sets (xs ++ y ∷ []) ≡ first_sets xs ++ fresh (list_any (λ x. same_table x y) xs) y
first_more [] y = refl
first_more (x ∷ xs) y =
    ap (λ zs. x ∷ filter (of_others x) zs) (first_more xs y)
    ∙ ap (λ zs. x ∷ zs) (filter-append (of_others x) (first_sets xs) (fresh (list_any (λ z. same_table z y) xs) y))
    ∙ go (list_any (λ z. same_table z y) xs) (same_table x y) refl where
      go : (b a : Bool) → same_table x y ≡ a → x ∷ (filter (of_others x) (first_sets xs) ++ filter (of_others x) (fresh b y)) ≡ (x ∷ filter (of_others x) (first_sets xs)) ++ fresh (same_table x y || b) y
      go true true e = rw e refl
      go true false e = rw e refl
      go false true e = rw e refl
      go false false e = rw e refl

-- One set more, whose table has a set before it.
pub table-known : (f : SetDecl → List Data) (schema : List SetDecl) (i : ℕ) (d : SetDecl) → slice_get schema i ≡ Some d → list_any (λ x. same_table x d) (take i schema) ≡ true
    → flat_map f (first_sets (take i schema)) ≡ flat_map f (first_sets (take (i + 1) schema))
table-known f schema i d at known =
    ap (flat_map f) (sym (ap first_sets (take-get schema i d at) ∙ first_more (take i schema) d ∙ ap (λ b. first_sets (take i schema) ++ fresh b d) known ∙ append-nil (first_sets (take i schema))))

-- One set more, which is the first of its table.
pub table-more : (f : SetDecl → List Data) (schema : List SetDecl) (i : ℕ) (d : SetDecl) (old mid new : List Data) → slice_get schema i ≡ Some d → list_any (λ x. same_table x d) (take i schema) ≡ false
    → mid ≡ old ++ flat_map f (first_sets (take i schema)) → new ≡ mid ++ f d → new ≡ old ++ flat_map f (first_sets (take (i + 1) schema))
table-more f schema i d old mid new at fresh_one so_far more =
    let firsts = first_sets (take i schema) in
    let all : first_sets (take (i + 1) schema) ≡ firsts ++ d ∷ [] = ap first_sets (take-get schema i d at) ∙ first_more (take i schema) d ∙ ap (λ b. firsts ++ fresh b d) fresh_one in
    more ∙ ap (λ ds. ds ++ f d) so_far ∙ append_assoc old (flat_map f firsts) (f d)
    ∙ ap (λ ds. old ++ ds) (ap (λ ds. flat_map f firsts ++ ds) (sym (append-nil (f d))) ∙ sym (flat_map-append f firsts (d ∷ [])) ∙ ap (flat_map f) (sym all))
