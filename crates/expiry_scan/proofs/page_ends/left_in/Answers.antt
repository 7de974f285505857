use Rattle.std.proofs.Common.{◌≡◌, ℕ, ◌+◌, ◌*◌, ◌/◌, ◌%◌, ◌<◌, ◌≤◌, sym, ◌∙◌, ap, subst, not, Some, get_or, slice_get, length-set, ◌⊎◌, inl, inr, arith}
use Rattle.std.proofs.Math.ListN.{set}
use Rattle.std.proofs.lemmas.Bool.{cases_lt}
use Rattle.std.proofs.lemmas.List.{get_or-set_same, get_or-set_other}
use Rattle.set_model.specs.declared.element.Element.{Element}
use Rattle.bit_rows.specs.Row.{bit}
use Rattle.bit_rows.specs.Words.{bit_in}
use Rattle.bit_rows.proofs.Bits.{place-is}
use Rattle.expiry_scan.specs.Expired.{stays}
use Rattle.expiry_scan.proofs.page_ends.left_in.Goals as goal

pub words-preserved : goal.words-preserved
words-preserved c =
    let es = c.args.elements.now in
    let words = c.words.words in
    let w = c.words.w in
    let word = c.left_word.result in
    let new = set words w word in
    let marked : (k : ℕ) (e : Element) → (k < 64 * w) ⊎ (64 * w ≤ k) → k < 64 * (w + 1) → slice_get es (512 * c.args.page + k) ≡ Some e → bit_in new k ≡ not (stays c.args.passed e) = λ k e. elim [
      | inl low ↦ λ l at. place-is new k ∙ ap (λ x. bit x (k % 64)) (get_or-set_other words w (k / 64) word 0 (λ same. absurd (omega (arith, low, same)))) ∙ sym (place-is words k) ∙ c.words.invariant.1 k e low at
      | inr high ↦ λ l at.
          let here : k / 64 ≡ w = omega (arith, high, l) in
          let there : 512 * c.args.page + k ≡ c.places_of-from.result.0 + 64 * w + k % 64 = omega (arith, here, c.places_of-from.ensures.first) in
          place-is new k ∙ ap (λ n. bit (get_or new n 0) (k % 64)) here ∙ ap (λ x. bit x (k % 64)) (get_or-set_same words w word 0 (omega (arith, c.words.invariant.0, c.words-test.true)))
          ∙ c.left_word.ensures (k % 64) e (omega arith) (subst (λ n. slice_get es n ≡ Some e) there at)
    ] in
    (length-set words w word ∙ c.words.invariant.0, λ k e l at. marked k e (cases_lt k (64 * w)) l at)
