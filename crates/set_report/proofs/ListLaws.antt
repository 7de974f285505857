-- A listing, item by item.
use Rattle.std.proofs.Common.{◌≡◌, refl, sym, ◌∙◌, ap, subst, ℕ, zero, suc, ◌+◌, ◌<◌, ◌≤◌, List, [], ◌∷◌, ◌++◌, length, take, get_or, flat_map, Bool, true, false, not, ◌&&◌, ◌||◌, if◌then◌else◌, codes, Option, Some, None, option_map, slice_get, filter, append_assoc, append-nil, arith, Result, Ok, Err, OnOk, OnErr}
use Rattle.std.specs.List.{join_by, list_any, list_all, zip}
use Rattle.std.specs.Option.{option_map_or}
use Rattle.std.proofs.Math.Seq.{take-append_seam}
use Rattle.std.proofs.lemmas.Bool.{eqb-true}
use Rattle.std.proofs.lemmas.Grind.{flat_map-append}
use Rattle.std.proofs.lemmas.List.{take_more, take_all}
use Rattle.std.proofs.lemmas.List.Elements.{filter-append}
use Rattle.std.proofs.lemmas.Option.{slice_get_within, get_or_from_slice_get, slice_get-get_or}
use Rattle.std.proofs.lemmas.Slice.Zip.{length-zip}
use Rattle.set_model.specs.declared.kind.Kind.{Kind}
use Rattle.set_model.specs.declared.kind.Kind.TheVariants.{Ipv4}
use Rattle.set_model.specs.declared.kind.Interval.{Interval}
use Rattle.set_model.specs.declared.element.Element.{Element}
use Rattle.set_model.specs.declared.script.SetDecl.{SetDecl}
use Rattle.set_model.specs.Key.{is_good, parts_fit}
use Rattle.set_model.specs.SetState.{State, empty_set}
use Rattle.element_text.specs.Kept.{KeepsBytes}
use Rattle.element_text.proofs.JoinLaws.{Joins, joins_one, take-get, zip-get}
use Rattle.set_report.specs.ListText.{element_text, elements_line, same_table, sets_beside, first_sets}
use Rattle.text_pieces.specs.Appends.{AppendsPart}
use Rattle.text_pieces.proofs.PartLaws.{none_part}

-- The sets of a table.
pub beside_one : (first d : SetDecl) (s : State) (schema : List SetDecl) (sets : List State) (i : ℕ) → slice_get schema i ≡ Some d → slice_get sets i ≡ Some s → same_table first d ≡ true
    → sets_beside first (take (i + 1) (zip schema sets)) ≡ sets_beside first (take i (zip schema sets)) ++ (d, s) ∷ []
beside_one first d s schema sets i h k same =
    ap (sets_beside first) (take-get (zip schema sets) i (d, s) (zip-get schema sets i d s h k))
    ∙ filter-append (λ (p : SetDecl × State). same_table first p.0) (take i (zip schema sets)) ((d, s) ∷ [])
    ∙ ap (λ b. sets_beside first (take i (zip schema sets)) ++ (if b then ((d, s) ∷ []) else [])) same

pub beside_other : (first d : SetDecl) (schema : List SetDecl) (sets : List State) (i : ℕ) → length sets ≡ length schema → slice_get schema i ≡ Some d → same_table first d ≡ false
    → sets_beside first (take (i + 1) (zip schema sets)) ≡ sets_beside first (take i (zip schema sets))
beside_other first d schema sets i long h other =
    let within = slice_get_within schema i d h in
    let s = get_or sets i (empty_set [] None false) in
    let k : slice_get sets i ≡ Some s = slice_get-get_or sets i (empty_set [] None false) (omega (arith, within, long)) in
    ap (sets_beside first) (take-get (zip schema sets) i (d, s) (zip-get schema sets i d s h k))
    ∙ filter-append (λ (p : SetDecl × State). same_table first p.0) (take i (zip schema sets)) ((d, s) ∷ [])
    ∙ ap (λ b. sets_beside first (take i (zip schema sets)) ++ (if b then ((d, s) ∷ []) else [])) other
    ∙ append-nil (sets_beside first (take i (zip schema sets)))

pub joins_set : (f : SetDecl × State → List ℕ) (separator : List ℕ) (first d : SetDecl) (s : State) (schema : List SetDecl) (sets : List State) (i : ℕ) (old mid new next : List ℕ)
    → slice_get schema i ≡ Some d → slice_get sets i ≡ Some s → same_table first d ≡ true
    → Joins f separator (sets_beside first (take i (zip schema sets))) old mid next → new ≡ mid ++ (next ++ f (d, s))
    → Joins f separator (sets_beside first (take (i + 1) (zip schema sets))) old new separator
joins_set f separator first d s schema sets i old mid new next h k same j e =
    subst (λ zs. Joins f separator zs old new separator) (sym (beside_one first d s schema sets i h k same)) (joins_one f separator (sets_beside first (take i (zip schema sets))) (d, s) old mid new next j e)

-- The first sets of tables: one more set is one of them if no set of its table comes before it.
abbrev fresh : Bool → SetDecl → List SetDecl
fresh true y = []
fresh false y = y ∷ []

abbrev of_others : SetDecl → SetDecl → Bool
of_others x z = not (same_table x z)

first_more : (xs : List SetDecl) (y : SetDecl) → first_sets (xs ++ y ∷ []) ≡ first_sets xs ++ fresh (list_any (λ x. same_table x y) xs) y
first_more [] y = refl
first_more (x ∷ xs) y =
    ap (λ zs. x ∷ filter (of_others x) zs) (first_more xs y)
    ∙ ap (λ zs. x ∷ zs) (filter-append (of_others x) (first_sets xs) (fresh (list_any (λ z. same_table z y) xs) y))
    ∙ go (list_any (λ z. same_table z y) xs) (same_table x y) refl where
      go : (b a : Bool) → same_table x y ≡ a → x ∷ (filter (of_others x) (first_sets xs) ++ filter (of_others x) (fresh b y)) ≡ (x ∷ filter (of_others x) (first_sets xs)) ++ fresh (same_table x y || b) y
      go true true e = rw e refl
      go true false e = rw e refl
      go false true e = rw e refl
      go false false e = rw e refl

first_known : (xs : List SetDecl) (y : SetDecl) → list_any (λ x. same_table x y) xs ≡ true → first_sets (xs ++ y ∷ []) ≡ first_sets xs
first_known xs y h = first_more xs y ∙ ap (λ b. first_sets xs ++ fresh b y) h ∙ append-nil (first_sets xs)

first_new : (xs : List SetDecl) (y : SetDecl) → list_any (λ x. same_table x y) xs ≡ false → first_sets (xs ++ y ∷ []) ≡ first_sets xs ++ y ∷ []
first_new xs y h = first_more xs y ∙ ap (λ b. first_sets xs ++ fresh b y) h

pub joins_known : (f : SetDecl → List ℕ) (separator : List ℕ) (schema : List SetDecl) (i : ℕ) (d : SetDecl) (old new next : List ℕ) → slice_get schema i ≡ Some d
    → list_any (λ x. same_table x d) (take i schema) ≡ true → Joins f separator (first_sets (take i schema)) old new next → Joins f separator (first_sets (take (i + 1) schema)) old new next
joins_known f separator schema i d old new next h known j =
    subst (λ zs. Joins f separator zs old new next) (sym (ap first_sets (take-get schema i d h) ∙ first_known (take i schema) d known)) j

pub joins_table : (f : SetDecl → List ℕ) (separator : List ℕ) (schema : List SetDecl) (i : ℕ) (d : SetDecl) (old mid new next : List ℕ) → slice_get schema i ≡ Some d
    → list_any (λ x. same_table x d) (take i schema) ≡ false → Joins f separator (first_sets (take i schema)) old mid next → new ≡ mid ++ (next ++ f d)
    → Joins f separator (first_sets (take (i + 1) schema)) old new separator
joins_table f separator schema i d old mid new next h fresh j e =
    subst (λ zs. Joins f separator zs old new separator) (sym (ap first_sets (take-get schema i d h) ∙ first_new (take i schema) d fresh)) (joins_one f separator (first_sets (take i schema)) d old mid new next j e)

-- If memory ran out, what was appended is cut off.
pub cut : (old mid new text : List ℕ) (n : ℕ) → KeepsBytes old mid → n ≡ length old → new ≡ take n mid → AppendsPart old new text
cut old mid new text n k all e = none_part old new text (e ∙ ap (λ m. take m mid) all ∙ ap (take (length old)) k.appended ∙ take-append_seam old k.behind)

-- Parts of a text, one after the other.
pub on_ok : {T E P Q : Type 0} (r : Result T E) → (P → Q) → OnOk r P → OnOk r Q
on_ok (Ok v) f p = f p
on_ok (Err e) f p = tt

in_turn : (old mid new text more : List ℕ) → mid ≡ old ++ text → new ≡ mid ++ more → new ≡ old ++ (text ++ more)
in_turn old mid new text more e d = d ∙ ap (λ m. m ++ more) e ∙ append_assoc old text more

pub five_parts : (old m1 m2 m3 m4 new a b c d e : List ℕ) → m1 ≡ old ++ a → m2 ≡ m1 ++ b → m3 ≡ m2 ++ c → m4 ≡ m3 ++ d → new ≡ m4 ++ e → new ≡ old ++ (a ++ b ++ c ++ d ++ e)
five_parts old m1 m2 m3 m4 new a b c d e h1 h2 h3 h4 h5 =
    in_turn old m4 new (a ++ b ++ c ++ d) e (in_turn old m3 m4 (a ++ b ++ c) d (in_turn old m2 m3 (a ++ b) c (in_turn old m1 m2 a b h1 h2) h3) h4) h5

-- the item of elements, if there are any
pub elements_parts : (d : SetDecl) (now : ℕ) (es : List Element) (old mid between new : List ℕ) → 1 ≤ length es → mid ≡ old ++ codes "\t\telements = { "
    → between ≡ mid ++ join_by (element_text d now) (codes ",\n\t\t\t     ") es → new ≡ between ++ codes " }\n" → new ≡ old ++ elements_line d now es
elements_parts d now [] old mid between new some h1 h2 h3 = absurd (omega (arith, some))
elements_parts d now (e ∷ es) old mid between new some h1 h2 h3 =
    let all = join_by (element_text d now) (codes ",\n\t\t\t     ") (e ∷ es) in
    in_turn old mid new (codes "\t\telements = { ") (all ++ codes " }\n") h1 (in_turn mid between new all (codes " }\n") h2 h3)
    ∙ ap (λ t. old ++ (codes "\t\telements = { " ++ t)) (sym (append_assoc all (codes " }") (codes "\n")))
