use Rattle.std.proofs.Common.{◌≡◌, ℕ, ◌+◌, ◌*◌, ◌<◌, ◌∙◌, ap, length, Some, slice_get, arith}
use Rattle.std.proofs.lemmas.Option.{slice_get_within}
use Rattle.set_model.specs.declared.element.Element.{Element}
use Rattle.bit_rows.specs.Words.{bit_in}
use Rattle.expiry_scan.specs.Soonest.{AreEndsOf}
use Rattle.expiry_scan.proofs.EndLaws.{none-left}
use Rattle.expiry_scan.proofs.page_ends.page_ends.Goals as goal

pub returns-else-ends-unwrap_or : goal.returns-else-ends-unwrap_or
returns-else-ends-unwrap_or c =
    let ends : (k : ℕ) (e : Element) → k < 512 → slice_get c.args.elements.now (512 * c.args.page + k) ≡ Some e → AreEndsOf c.args.passed e c.elements.ends = λ k e l at.
    let within = slice_get_within c.args.elements.now (512 * c.args.page + k) e at in
    c.elements.invariant.ends k e (omega (arith, within, l, c.elements-test.false, c.places_of-from.ensures.end)) at in
    record {
      moments = ends;
      marks = λ some. (
        ap length c.elements.invariant.marks,
        λ k e l at.
            ap (λ z. bit_in z k) c.elements.invariant.marks ∙ none-left c.args.passed e k c.elements.ends.all (omega (arith, c.if-ends-unwrap_or.false, c.unwrap_or.ensures)) (ends k e l at).0,
      );
    }
