use Rattle.std.proofs.Common.{◌≡◌, ℕ, ◌+◌, ◌*◌, ◌++◌, ◌∷◌, [], Some, slice_get, ◌∙◌, ap, subst, length, length-append, ◌⊎◌, inl, inr, arith}
use Rattle.bit_rows.specs.Words.{first_bits}
use Rattle.bit_rows.specs.Ranked.{rank}
use Rattle.bit_rows.proofs.Ranks.{pushed}
use Rattle.bit_rows.proofs.ranked.RankedBits.of_words.Goals as goal

pub pages-preserved : goal.pages-preserved
pages-preserved c =
    let words = c.args.words.items in
    let page = c.pages.page in
    let bits = first_bits words c.args.len in
    let ranks = c.pages.ranks.items in
    let more = c.pages.rank + c.ones_in-rank.result in
    let now : c.push.new.self.items ≡ ranks ++ more ∷ [] = c.in_ok-push.ensures.items in
    let at = ap (λ z. rank (first_bits z c.args.len) (64 * (8 * page))) c.as_slice.ensures.value in
    let to = ap (λ z. rank (first_bits z c.args.len) (64 * (8 * page + 8))) c.as_slice.ensures.value in
    let counted = c.ones_in-rank.ensures.counted c.args.len (omega arith) in
    let start : 64 * (8 * page) ≡ 512 * page = omega arith in
    let end : 64 * (8 * page + 8) ≡ 512 * page + 512 = omega arith in
    let here : more ≡ rank bits (512 * page + 512) = omega (arith, at, to, counted, ap (rank bits) start, ap (rank bits) end, c.pages.invariant.here) in
    let on : 512 * page + 512 ≡ 512 * (page + 1) = omega arith in
    let each : (p r : ℕ) → (slice_get ranks p ≡ Some r) ⊎ ((p ≡ length ranks) × (r ≡ more)) → r ≡ rank bits (512 * p + 512) = λ p r. elim [
      | inl old ↦ c.pages.invariant.each p r old
      | inr last ↦ last.1 ∙ here ∙ ap (λ (n : ℕ). rank bits (512 * n + 512)) (omega (arith, last.0, c.pages.invariant.long))
    ] in
    record {
      long = omega (arith, ap length now, length-append ranks (more ∷ []), c.pages.invariant.long);
      here = here ∙ ap (rank bits) on;
      each = λ p r h. each p r (pushed ranks more p r (subst (λ z. slice_get z p ≡ Some r) now h));
    }
