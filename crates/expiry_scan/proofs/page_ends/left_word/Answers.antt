use Rattle.std.proofs.Common.{◌≡◌, ℕ, ◌+◌, ◌<◌, Bool, sym, ◌∙◌, ap, not, arith}
use Rattle.std.proofs.lemmas.Option.{get_or_from_slice_get, slice_get_within}
use Rattle.bit_rows.specs.Row.{bit}
use Rattle.bit_rows.proofs.Marked.{marks-none, marks-below, marks-on, marks-off}
use Rattle.expiry_scan.specs.Expired.{stays}
use Rattle.expiry_scan.proofs.PlaceLaws.{left_at, no_element}
use Rattle.expiry_scan.proofs.page_ends.left_word.Goals.{then-not-stays, else-not-stays}
use Rattle.expiry_scan.proofs.page_ends.left_word.Goals as goal

pub elements-init : goal.elements-init
elements-init c = λ j h. marks-none (left_at c.args.passed c.args.elements.now c.args.from) 0 j

pub elements-preserved : goal.elements-preserved
elements-preserved c =
    let passed = c.args.passed in
    let es = c.args.elements.now in
    let left : ℕ → Bool = left_at passed es c.args.from in
    let k = c.elements.k in
    let is : left k ≡ not c.stays.result = ap (λ z. not (stays passed z)) (get_or_from_slice_get es (c.args.from + k) c.at.result.now no_element c.at.ensures) ∙ ap not (sym c.stays.ensures) in
    elim c.if-not-stays.branch [
      | then-not-stays w ↦ λ j h. ap (λ x. bit x j) w.word-is ∙ marks-on left c.elements.word 0 k j (omega arith) h (is ∙ ap not w.if-not-stays.true) (c.elements.invariant j h)
      | else-not-stays w ↦ λ j h. ap (λ x. bit x j) w.word-is ∙ marks-off left c.elements.word 0 k j (is ∙ ap not w.if-not-stays.false) (c.elements.invariant j h)
    ]

pub returns : goal.returns
returns c = λ k e h at.
    let passed = c.args.passed in
    let es = c.args.elements.now in
    let within = slice_get_within es (c.args.from + k) e at in
    let before : k < c.elements.k = omega (arith, within, h, c.elements-test.false, c.min-k-end.ensures, c.saturating_sub.ensures, c.len.ensures) in
    c.elements.invariant k h ∙ marks-below (left_at passed es c.args.from) c.elements.k k before ∙ ap (λ z. not (stays passed z)) (get_or_from_slice_get es (c.args.from + k) e no_element at)
