-- An image whose element gets another expiry is an image.
use Rattle.std.proofs.Common.{◌≡◌, refl, sym, ◌∙◌, ap, subst, ℕ, zero, suc, ◌+◌, ◌-◌, ◌<◌, ◌≤◌, true, List, [], ◌∷◌, ◌++◌, length, take, drop, get_or, Option, arith, flat_map, length-append, append-nil, add-one}
use Rattle.std.specs.Prelude.{All}
use Rattle.std.proofs.lemmas.List.{set_split, take-append-drop, drop_more}
use Rattle.std.proofs.lemmas.List.Elements.{All-set, All-get_or}
use Rattle.std.proofs.lemmas.Option.{slice_get-get_or}
use Rattle.mapping_table.specs.Spared.{Spared}
use Rattle.set_model.specs.declared.block.Block.{Block}
use Rattle.set_model.specs.declared.kind.Kind.{Kind}
use Rattle.set_model.specs.declared.element.Element.{Element}
use Rattle.set_model.specs.Expiry.{renewed_at, renewed_element}
use Rattle.set_model.specs.Key.{parts_fit}
use Rattle.set_model.specs.SetState.{field_rules}
use Rattle.set_tables.specs.declared.End.{End}
use Rattle.set_tables.specs.Rows.{ends_renewed}
use Rattle.set_tables.specs.Tables.{split, field_spans, last_ends}
use Rattle.set_tables.proofs.UpdateLaws.{with_expiry, rules-renewed, spans-renewed, ends-renewed}
use Rattle.expiry_scan.proofs.PlaceLaws.{no_element}
use Rattle.pipapo_image.specs.declared.index.Index.{Index}
use Rattle.pipapo_image.specs.Index.Standing.{IsTableOf}
use Rattle.pipapo_image.specs.Image.{IsImage}

-- the list before, the element, and the list after it
pub apart : (es : List Element) (i : ℕ) (d : Element) → i < length es → es ≡ take i es ++ get_or es i d ∷ drop (suc i) es
apart es i d h = sym (take-append-drop i es) ∙ ap (λ z. take i es ++ z) (drop_more es i d h ∙ ap (λ n. get_or es i d ∷ drop n es) (add-one i))

renewed-list : (es : List Element) (i : ℕ) (x : Option ℕ) → i < length es → renewed_at es i x ≡ take i es ++ with_expiry x (get_or es i no_element) ∷ drop (suc i) es
renewed-list es i x h = ap (renewed_element es i x) (slice_get-get_or es i no_element h) ∙ set_split es i (with_expiry x (get_or es i no_element)) h

pub rules-next : (here : Element → List Block) (es : List Element) (i : ℕ) (d : Element) → i < length es → length (flat_map here (take (i + 1) es)) ≡ length (flat_map here (take i es)) + length (here (get_or es i d))
rules-next here [] i d h = absurd (omega arith)
rules-next here (e ∷ es) zero d h = let a = ap length (append-nil (here e)) in omega arith
rules-next here (e ∷ es) (suc i) d h =
    let ih = rules-next here es i d (omega arith) in
    let a = length-append (here e) (flat_map here (take (i + 1) es)) in
    let b = length-append (here e) (flat_map here (take i es)) in
    let f : length (here e ++ flat_map here (take (i + 1) es)) ≡ length (here e ++ flat_map here (take i es)) + length (here (get_or es i d)) = omega arith in
    let n : suc i + 1 ≡ suc (i + 1) = omega arith in
    rw n f

pub renewal : (kinds : List Kind) (es : List Element) (index : Index) (i first n : ℕ) (x : Option ℕ) (ends' : Spared End) → IsImage kinds es index → i < length es
    → first ≡ length (field_rules kinds (length kinds - 1) (take i es)) → first + n ≡ length (field_rules kinds (length kinds - 1) (take (i + 1) es))
    → ends'.items ≡ ends_renewed index.ends.items first n x → IsImage kinds (renewed_at es i x) (record index { ends = ends' })
renewal kinds es index i first n x ends' image h at up changed =
    let e = get_or es i no_element in
    let before = take i es in
    let after = drop (suc i) es in
    let whole = apart es i no_element h in
    let new = renewed-list es i x h in
    let last = length kinds - 1 in
    let many : n ≡ length (split kinds last e) = let r = rules-next (split kinds last) es i no_element h in omega arith in
    let rules : (f : ℕ) → field_rules kinds f (renewed_at es i x) ≡ field_rules kinds f es =
    λ f. ap (field_rules kinds f) new ∙ rules-renewed (split kinds f) before after e x refl ∙ ap (field_rules kinds f) (sym whole) in
    let P : Element → Type 0 = λ z. parts_fit kinds z.parts ≡ true in
    record {
      some = image.some;
      few_kinds = image.few_kinds;
      fit = subst (λ z. All P z) (sym (ap (renewed_element es i x) (slice_get-get_or es i no_element h))) (All-set P es i (with_expiry x e) (All-get_or P es i no_element h image.fit) image.fit);
      tables = record {
        fields = record {
          one_each = image.tables.fields.one_each;
          each = λ f k t l. subst (λ z. IsTableOf (get_or kinds f k) z (get_or index.fields f t)) (sym (rules f)) (image.tables.fields.each f k t l);
        };
        maps = record {
          one_fewer = image.tables.maps.one_fewer;
          each = λ f m l.
              image.tables.maps.each f m l ∙ ap (field_spans kinds f) whole ∙ sym (spans-renewed (split kinds f) (split kinds (suc f)) before after e x refl refl) ∙ ap (field_spans kinds f) (sym new);
        };
        ends =
            changed ∙ ap (λ z. ends_renewed z first n x) (image.tables.ends ∙ ap (last_ends kinds) whole)
            ∙ ap (λ z. ends_renewed (last_ends kinds (before ++ e ∷ after)) z n x) at
            ∙ ap (λ z. ends_renewed (last_ends kinds (before ++ e ∷ after)) (length (field_rules kinds last before)) z x) many
            ∙ ends-renewed (split kinds last) before after e x refl
            ∙ ap (last_ends kinds) (sym new);
      };
      few_rules = λ f l. subst (λ z. length z ≤ 1048576) (sym (rules f)) (image.few_rules f l);
    }
