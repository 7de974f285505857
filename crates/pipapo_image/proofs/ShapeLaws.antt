-- The shape of an image's tables: each span is in the next field's rules, and neighbouring rules lead
-- to neighbouring rules.
use Rattle.std.proofs.Common.{◌≡◌, sym, ◌∙◌, ap, subst, ℕ, suc, ◌+◌, ◌-◌, ◌<◌, ◌≤◌, ◌⊎◌, inl, inr, List, [], ◌∷◌, ◌++◌, length, get_or, arith, add-one, length-append}
use Rattle.std.specs.Prelude.{All, replicate}
use Rattle.std.proofs.lemmas.Bool.{cases_lt}
use Rattle.std.proofs.lemmas.List.{length-replicate, get_or_append_left, get_or-append_right, get_or-replicate}
use Rattle.std.proofs.lemmas.List.Elements.{All-head, All-tail}
use Rattle.fused_lookup.specs.Filled.{AreChained}
use Rattle.set_model.specs.declared.kind.Kind.{Kind}
use Rattle.set_model.specs.declared.element.Element.{Element}
use Rattle.set_model.specs.declared.block.Block.{Block}
use Rattle.set_model.specs.SetState.{field_rules, rules_limit}
use Rattle.set_tables.specs.declared.Span.{Span}
use Rattle.set_tables.specs.Tables.{split, spans}
use Rattle.set_tables.proofs.UpdateLaws.{length-spans, length-ends}
use Rattle.set_tables.proofs.SearchLaws.{spans-inside}
use Rattle.pipapo_image.specs.declared.index.Index.{Index}
use Rattle.pipapo_image.specs.Index.{IsShapedIndex}
use Rattle.pipapo_image.specs.Image.{IsImage}
use Rattle.pipapo_image.proofs.ImageUse.{field-rules}
use Rattle.pipapo_image.proofs.RunLaws.{all-some}

-- ---- neighbouring spans

-- A span begins in the one before it, or right after it, and ends no earlier.
record IsLink (a b : Span) : Type 0 where
  pub low : a.first ≤ b.first
  pub near : b.first ≤ a.first + a.count
  pub high : a.first + a.count ≤ b.first + b.count

link-same : (a : Span) → IsLink a a
link-same a = record { low = omega arith; near = omega arith; high = omega arith }

link-next : (from n : ℕ) (b : Span) → b.first ≡ from + n → IsLink (record { first = from; count = n }) b
link-next from n b e = record { low = omega arith; near = omega arith; high = omega arith }

link-by : (a b c d : Span) → a ≡ c → b ≡ d → IsLink c d → IsLink a b
link-by a b c d p q l = subst (λ z. IsLink z b) (sym p) (subst (λ z. IsLink c z) (sym q) l)

-- the first span begins at `from`
first-span : (here next : Element → List Block) (from : ℕ) (es : List Element) (s : Span) → All (λ e. 1 ≤ length (here e)) es → 0 < length (spans here next from es) → (get_or (spans here next from es) 0 s).first ≡ from
first-span here next from [] s some h = absurd (omega arith)
first-span here next from (e ∷ es) s some h =
    let one : 1 ≤ length (here e) = All-head (λ e. 1 ≤ length (here e)) e es some in
    let x : Span = record { first = from; count = length (next e) } in
    let n = length-replicate (length (here e)) x in
    ap (λ z. z.first) (get_or_append_left (replicate (length (here e)) x) (spans here next (from + length (next e)) es) s 0 (omega arith) ∙ get_or-replicate (length (here e)) 0 x s (omega arith))

link : (here next : Element → List Block) (from : ℕ) (es : List Element) (r : ℕ) (s : Span) → All (λ e. 1 ≤ length (here e)) es → r + 1 < length (spans here next from es)
    → IsLink (get_or (spans here next from es) r s) (get_or (spans here next from es) (r + 1) s)
link here next from [] r s some h = absurd (omega arith)
link here next from (e ∷ es) r s some h =
    go (cases_lt (r + 1) (length (here e))) (cases_lt r (length (here e))) (λ q k. link here next (from + length (next e)) es q s (All-tail (λ e. 1 ≤ length (here e)) e es some) k) where
      mine : List Span
      mine = replicate (length (here e)) (record { first = from; count = length (next e) })

      rest : List Span
      rest = spans here next (from + length (next e)) es

      n : length mine ≡ length (here e)
      n = length-replicate (length (here e)) (let x : Span = record { first = from; count = length (next e) } in x)

      in-mine : (k : ℕ) → k < length (here e) → get_or (mine ++ rest) k s ≡ record { first = from; count = length (next e) }
      in-mine k l = get_or_append_left mine rest s k (let m = n in omega arith) ∙ get_or-replicate (length (here e)) k (record { first = from; count = length (next e) }) s l

      in-rest : (k : ℕ) → length (here e) ≤ k → get_or (mine ++ rest) k s ≡ get_or rest (k - length (here e)) s
      in-rest k l = get_or-append_right mine rest (length (here e)) k s n l

      total : r + 1 < length (here e) + length rest
      total = let t = length-append mine rest in let m = n in let h2 : r + 1 < length (mine ++ rest) = h in omega arith

      go : (r + 1 < length (here e)) ⊎ (length (here e) ≤ r + 1) → (r < length (here e)) ⊎ (length (here e) ≤ r) → ((q : ℕ) → q + 1 < length rest → IsLink (get_or rest q s) (get_or rest (q + 1) s))
          → IsLink (get_or (mine ++ rest) r s) (get_or (mine ++ rest) (r + 1) s)
      go (inl a) b later = link-by _ _ _ _ (in-mine r (omega arith)) (in-mine (r + 1) a) (link-same (record { first = from; count = length (next e) }))
      go (inr a) (inl b) later =
          let t = total in
          let zeroth : r + 1 - length (here e) ≡ 0 = omega arith in
          let first = first-span here next (from + length (next e)) es s (All-tail (λ e. 1 ≤ length (here e)) e es some) (omega arith) in
          link-by _ _ _ (get_or rest 0 s) (in-mine r b) (in-rest (r + 1) a ∙ ap (λ k. get_or rest k s) zeroth) (link-next from (length (next e)) (get_or rest 0 s) first)
      go (inr a) (inr b) later =
          let t = total in
          let next_one : r + 1 - length (here e) ≡ (r - length (here e)) + 1 = omega arith in
          link-by _ _ (get_or rest (r - length (here e)) s) (get_or rest ((r - length (here e)) + 1) s) (in-rest r b) (in-rest (r + 1) a ∙ ap (λ k. get_or rest k s) next_one) (later (r - length (here e)) (omega arith))

pub spans-chained : (here next : Element → List Block) (from : ℕ) (es : List Element) → All (λ e. 1 ≤ length (here e)) es → AreChained (spans here next from es)
spans-chained here next from es some = record {
  low = λ r s h. (link here next from es r s some h).low;
  near = λ r s h. (link here next from es r s some h).near;
  high = λ r s h. (link here next from es r s some h).high;
}

-- ---- an image's index

pub image-shaped : (kinds : List Kind) (es : List Element) (index : Index) → IsImage kinds es index → IsShapedIndex index
image-shaped kinds es index i =
    let n = i.tables.fields.one_each in
    let m = i.tables.maps.one_fewer in
    record {
      walk = record {
        one_fewer = m ∙ sym n;
        few = λ f t h. let l : f < length kinds = omega arith in subst (λ z. z ≤ rules_limit) (field-rules kinds es index f t i.tables l) (i.few_rules f l);
        one_each = λ f t d h.
            let l : f < length kinds = omega arith in
            ap length (i.tables.maps.each f d h) ∙ length-spans (split kinds f) (split kinds (suc f)) 0 es ∙ field-rules kinds es index f t i.tables l;
        inside = λ f t d h.
            let l : f + 1 < length kinds = omega arith in
            let e = field-rules kinds es index (f + 1) t i.tables l in
            let a : length (field_rules kinds (suc f) es) ≡ (get_or index.fields (f + 1) t).rules = ap (λ z. length (field_rules kinds z es)) (sym (add-one f)) ∙ e in
            subst (λ z. All (λ s. s.first + s.count ≤ (get_or index.fields (f + 1) t).rules) z) (sym (i.tables.maps.each f d h))
            (spans-inside (split kinds f) (split kinds (suc f)) 0 (get_or index.fields (f + 1) t).rules es (omega arith));
        chained = λ f d h.
            let l : f < length kinds = omega arith in
            subst (λ z. AreChained z) (sym (i.tables.maps.each f d h)) (spans-chained (split kinds f) (split kinds (suc f)) 0 es (all-some kinds es f i.fit l));
      };
      one_end_each = λ t.
          let l : length kinds - 1 < length kinds = omega (arith, i.some) in
          ap length i.tables.ends ∙ length-ends (split kinds (length kinds - 1)) 0 es ∙ field-rules kinds es index (length kinds - 1) t i.tables l
          ∙ ap (λ z. (get_or index.fields (z - 1) t).rules) (sym n);
    }
