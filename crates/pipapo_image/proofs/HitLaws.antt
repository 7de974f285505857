-- The rules that a key leads to, and the elements that hold it.
use Rattle.std.proofs.Common.{◌≡◌, refl, sym, ◌∙◌, ap, subst, zero-add, ℕ, zero, suc, ◌+◌, ◌-◌, ◌<◌, ◌≤◌, Bool, true, false, ◌&&◌, ◌||◌, List, [], ◌∷◌, ◌++◌, length, map, get_or, arith, length-append}
use Rattle.std.specs.Prelude.{replicate, All}
use Rattle.std.specs.List.{list_any}
use Rattle.std.proofs.lemmas.Bool.{and_parts}
use Rattle.std.proofs.lemmas.List.{length-map, length-replicate, get_or_append_left, get_or-append_right, get_or-replicate}
use Rattle.std.proofs.lemmas.List.Elements.{All-get_or}
use Rattle.bit_rows.specs.Row.{at}
use Rattle.set_model.specs.declared.kind.Kind.{Kind}
use Rattle.set_model.specs.declared.element.Element.{Element}
use Rattle.set_model.specs.declared.block.Block.{Block}
use Rattle.set_model.specs.Expiry.{live}
use Rattle.set_model.specs.SetState.{answers, holds}
use Rattle.set_tables.specs.declared.End.{End}
use Rattle.set_tables.specs.Core.{hits, row_of, passes_fields}
use Rattle.set_tables.specs.Search.{key_tests}
use Rattle.set_tables.specs.Tables.{split, ends, last_ends}
use Rattle.set_tables.proofs.SearchLaws.{passed-held, held-all}
use Rattle.pipapo_image.specs.Image.Among.{IsHit}
use Rattle.pipapo_image.specs.Index.Narrow.{last_row}
use Rattle.pipapo_image.proofs.EndLaws.{before-place, not-before-place}

record IsPassed (test : Block → Bool) (bs : List Block) : Type 0 where
  pub at : ℕ
  pub within : at < length bs
  pub passes : (m : Bool) (d : Bool) → m ≡ true → get_or (map (λ b. m && test b) bs) at d ≡ true

some-passes : (test : Block → Bool) (bs : List Block) → list_any test bs ≡ true → IsPassed test bs
some-passes test [] h = absurd (cc h)
some-passes test (b ∷ bs) h = go (test b) refl (λ rest. some-passes test bs rest) where
  go : (t : Bool) → test b ≡ t → (list_any test bs ≡ true → IsPassed test bs) → IsPassed test (b ∷ bs)
  go true e later = record { at = 0; within = omega arith; passes = λ m d on. ap (λ x. x && test b) on ∙ e }
  go false e later =
      let rest : list_any test bs ≡ true = sym (ap (λ t. t || list_any test bs) e) ∙ h in
      let p = later rest in
      let w = p.within in
      record { at = suc p.at; within = omega arith; passes = λ m d on. p.passes m d on }

-- an element that passes has a rule that is set
hit-at : (here : Element → List Block) (mark : Element → Bool) (test : Block → Bool) (i : ℕ) (es : List Element) (k : ℕ) (d : Element) → k < length es
    → (mark (get_or es k d) && list_any test (here (get_or es k d))) ≡ true → IsHit (ends here i es) (hits here mark test es) (i + k)
hit-at here mark test i [] k d h p = absurd (omega arith)
hit-at here mark test i (e ∷ es) zero d h p =
    let x : End = record { place = i; expiry = e.expiry } in
    let both = and_parts (mark e) (list_any test (here e)) p in
    let one = some-passes test (here e) both.1 in
    let mine = map (λ b. mark e && test b) (here e) in
    let n = length-map (here e) (λ b. mark e && test b) in
    let m = length-replicate (length (here e)) x in
    let t = length-append (replicate (length (here e)) x) (ends here (i + 1) es) in
    let w = one.within in
    let inside : one.at < length (replicate (length (here e)) x ++ ends here (i + 1) es) = omega arith in
    record {
      rule = one.at;
      within = inside;
      set = get_or_append_left mine (hits here mark test es) false one.at (omega arith) ∙ one.passes (mark e) false both.0;
      leads = λ z. ap (λ y. y.place) (get_or_append_left (replicate (length (here e)) x) (ends here (i + 1) es) z one.at (omega arith) ∙ get_or-replicate (length (here e)) one.at x z w) ∙ omega arith;
    }
hit-at here mark test i (e ∷ es) (suc k) d h p =
    let x : End = record { place = i; expiry = e.expiry } in
    let later = hit-at here mark test (i + 1) es k d (omega arith) p in
    let mine = map (λ b. mark e && test b) (here e) in
    let n = length-map (here e) (λ b. mark e && test b) in
    let m = length-replicate (length (here e)) x in
    let t = length-append (replicate (length (here e)) x) (ends here (i + 1) es) in
    let w = later.within in
    let back : length (here e) + later.rule - length (here e) ≡ later.rule = omega arith in
    let inside : length (here e) + later.rule < length (replicate (length (here e)) x ++ ends here (i + 1) es) = omega arith in
    record {
      rule = length (here e) + later.rule;
      within = inside;
      set = get_or-append_right mine (hits here mark test es) (length (here e)) (length (here e) + later.rule) false n (omega arith) ∙ ap (at (hits here mark test es)) back ∙ later.set;
      leads = λ z. ap (λ y. y.place)
          (get_or-append_right (replicate (length (here e)) x) (ends here (i + 1) es) (length (here e)) (length (here e) + later.rule) z m (omega arith) ∙ ap (λ r. get_or (ends here (i + 1) es) r z) back)
          ∙ later.leads z ∙ omega arith;
    }

-- an element that holds the key has a rule to which the key leads
pub key-hit : (kinds : List Kind) (es : List Element) (key : List ℕ) (now : ℕ) (list : List End) (row : List Bool) (k : ℕ) (d : Element) → 1 ≤ length kinds → length key ≡ length kinds → All (λ e. length e.parts ≡ length kinds) es
    → list ≡ last_ends kinds es → row ≡ row_of kinds es (key_tests key) (length kinds - 1) → k < length es → answers key now (get_or es k d) ≡ true → IsHit list row k
key-hit kinds es key now list row k d some long all led is h holding =
    let e = get_or es k d in
    let held : holds e key ≡ true = (and_parts (live e now) (holds e key) holding).1 in
    let parts : length e.parts ≡ length kinds = All-get_or (λ x. length x.parts ≡ length kinds) es k d h all in
    let n : suc (length kinds - 1) ≡ length kinds = omega arith in
    let passes : passes_fields kinds (key_tests key) (suc (length kinds - 1)) e ≡ true =
    ap (λ z. passes_fields kinds (key_tests key) z e) n ∙ passed-held kinds key (length kinds) e (omega arith) ∙ held-all e key (length kinds) parts long ∙ held in
    let hit = hit-at (split kinds (length kinds - 1)) (passes_fields kinds (key_tests key) (length kinds - 1)) (key_tests key (length kinds - 1)) 0 es k d h passes in
    record {
      rule = hit.rule;
      within = let w = hit.within in omega (arith, ap length led);
      set = ap (λ z. at z hit.rule) is ∙ hit.set;
      leads = λ z. ap (λ y. (get_or y hit.rule z).place) led ∙ hit.leads z ∙ omega arith;
    }

-- an element that passes in the last field has a rule that passes there
pub last-hit : (kinds : List Kind) (es : List Element) (tests : ℕ → Block → Bool) (k : ℕ) (d : Element) → k < length es
    → list_any (tests (length kinds - 1)) (split kinds (length kinds - 1) (get_or es k d)) ≡ true → IsHit (last_ends kinds es) (last_row kinds es tests) k
last-hit kinds es tests k d h passes =
    let hit = hit-at (split kinds (length kinds - 1)) (λ e. true) (tests (length kinds - 1)) 0 es k d h passes in
    subst (λ i. IsHit (last_ends kinds es) (last_row kinds es tests) i) (zero-add k) hit

-- a rule of an earlier place comes first
pub place-order : (kinds : List Kind) (es : List Element) (list : List End) (a b : ℕ) (d : End) → list ≡ last_ends kinds es → a < length list → (get_or list a d).place < (get_or list b d).place → a < b
place-order kinds es list a b d led h less =
    let low = before-place kinds es list (get_or list b d).place a d led h less in
    let high = not-before-place kinds es list (get_or list b d).place b d led (omega arith) in
    omega arith
