-- One field further in a walk.
use Rattle.std.proofs.Common.{◌≡◌, ◌∙◌, ap, ℕ, suc, ◌+◌, List, length, add-one, true}
use Rattle.std.specs.Prelude.{slice_index, replicate}
use Rattle.set_model.specs.declared.kind.Kind.{Kind}
use Rattle.set_model.specs.declared.element.Element.{Element}
use Rattle.set_model.specs.Blocks.{holds_value}
use Rattle.set_model.specs.SetState.{field_rules}
use Rattle.set_tables.specs.declared.Span.{Span}
use Rattle.set_tables.specs.Rows.{matched, refilled}
use Rattle.set_tables.specs.Tables.{field_spans}
use Rattle.set_tables.specs.Core.{row_of}
use Rattle.set_tables.specs.Search.{key_tests}
use Rattle.set_tables.proofs.SearchLaws.{row-first, row-next}
use Rattle.std.proofs.Common.{Bool}

pub first-row : (kinds : List Kind) (es : List Element) (key : List ℕ) (n : ℕ) → n ≡ length (field_rules kinds 0 es)
    → matched (λ b. holds_value b (slice_index key 0)) (field_rules kinds 0 es) (replicate n true) ≡ row_of kinds es (key_tests key) 0
first-row kinds es key n e = ap (λ k. matched (key_tests key 0) (field_rules kinds 0 es) (replicate k true)) e ∙ row-first kinds es (key_tests key)

pub next-row : (kinds : List Kind) (es : List Element) (key : List ℕ) (f n : ℕ) (map : List Span) (row : List Bool) → map ≡ field_spans kinds f es → row ≡ row_of kinds es (key_tests key) f
    → n ≡ length (field_rules kinds (f + 1) es)
    → matched (λ b. holds_value b (slice_index key (f + 1))) (field_rules kinds (f + 1) es) (refilled map row n) ≡ row_of kinds es (key_tests key) (f + 1)
next-row kinds es key f n map row m r e =
    ap (λ k. matched (key_tests key (f + 1)) (field_rules kinds (f + 1) es) (refilled map row k)) e
    ∙ ap (λ z. matched (key_tests key (f + 1)) (field_rules kinds (f + 1) es) (refilled z row (length (field_rules kinds (f + 1) es)))) m
    ∙ ap (λ z. matched (key_tests key (f + 1)) (field_rules kinds (f + 1) es) (refilled (field_spans kinds f es) z (length (field_rules kinds (f + 1) es)))) r
    ∙ whole (f + 1) (add-one f) where
      whole : (g : ℕ) → g ≡ suc f
          → matched (key_tests key g) (field_rules kinds g es) (refilled (field_spans kinds f es) (row_of kinds es (key_tests key) f) (length (field_rules kinds g es))) ≡ row_of kinds es (key_tests key) g
      whole g q = rw q (row-next kinds es (key_tests key) f)
