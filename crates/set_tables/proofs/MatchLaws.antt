-- A match, place by place.
use Rattle.std.proofs.Common.{◌≡◌, refl, sym, ◌∙◌, ℕ, zero, suc, ◌<◌, Bool, false, ◌&&◌, List, [], ◌∷◌, length, get_or, arith}
use Rattle.std.proofs.lemmas.List.{ext_get_or}
use Rattle.set_model.specs.declared.block.Block.{Block}
use Rattle.set_tables.specs.Rows.{matched}
use Rattle.set_tables.proofs.RowLaws.{length-matched}

pub matched-at : (test : Block → Bool) (blocks : List Block) (row : List Bool) (i : ℕ) (d : Block) → i < length blocks → length row ≡ length blocks
    → get_or (matched test blocks row) i false ≡ (get_or row i false && test (get_or blocks i d))
matched-at test [] row i d h g = absurd (omega arith)
matched-at test (b ∷ blocks) [] i d h g = absurd (cc g)
matched-at test (b ∷ blocks) (x ∷ row) zero d h g = refl
matched-at test (b ∷ blocks) (x ∷ row) (suc i) d h g =
    let h2 : i < length blocks = omega arith in
    let g2 : length row ≡ length blocks = omega arith in
    matched-at test blocks row i d h2 g2

-- a row that keeps each place whose block passes
pub matched-by : (test : Block → Bool) (blocks : List Block) (row new : List Bool) (d : Block) → length row ≡ length blocks → length new ≡ length row
    → ((i : ℕ) → i < length blocks → get_or new i false ≡ (get_or row i false && test (get_or blocks i d))) → new ≡ matched test blocks row
matched-by test blocks row new d g n each =
    ext_get_or false new (matched test blocks row) (n ∙ g ∙ sym (length-matched test blocks row g))
    (λ i h. let l : i < length blocks = omega arith in each i l ∙ sym (matched-at test blocks row i d l g))
