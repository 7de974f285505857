use Rattle.std.proofs.Common.{◌≡◌, ℕ, ◌+◌, ◌-◌, ◌*◌, ◌<◌, ◌≤◌, ◌++◌, sym, ◌∙◌, ap, subst, Some, map, get_or, slice_get, length, length-append, ◌⊎◌, inl, inr, false, arith}
use Rattle.std.proofs.lemmas.Bool.{cases_lt}
use Rattle.std.proofs.lemmas.List.{length-map, get_or-map}
use Rattle.std.proofs.lemmas.Option.{slice_get-get_or}
use Rattle.std.proofs.lemmas.Result.{IfOk-weaker}
use Rattle.bit_rows.specs.Words.{bit_in, first_bits}
use Rattle.bit_rows.proofs.Bits.{place-append_low, place-append_high, bits-same}
use Rattle.set_model.specs.declared.element.Element.{Element}
use Rattle.expiry_scan.specs.Expired.{is_expired}
use Rattle.expiry_scan.proofs.PlaceLaws.{no_element}
use Rattle.expiry_scan.proofs.timed.TimedElements.expired_marks.Goals as goal

pub pages-preserved : goal.pages-preserved
pages-preserved c =
    let now = c.args.now in
    let es = c.args.self.now in
    let page = c.pages.page in
    let words = c.pages.words.items in
    let more = c.marks_of.result in
    let grown : c.extend_from_slice.new.self.items ≡ words ++ more = c.in_ok-extend_from_slice.ensures.items in
    let marked : (k : ℕ) (e : Element) → (k < 512 * page) ⊎ (512 * page ≤ k) → k < 512 * (page + 1) → slice_get es k ≡ Some e → bit_in (words ++ more) k ≡ is_expired now e = λ k e. elim [
      | inl low ↦ λ l at. place-append_low words more k (omega (arith, low, c.pages.invariant.long)) ∙ c.pages.invariant.marks k e low at
      | inr high ↦ λ l at.
          let here : k - 64 * length words ≡ k - 512 * page = omega (arith, c.pages.invariant.long) in
          let there : k ≡ 512 * page + (k - 512 * page) = omega (arith, high) in
          place-append_high words more k (omega (arith, high, c.pages.invariant.long)) ∙ ap (bit_in more) here ∙ c.marks_of.ensures.1 (k - 512 * page) e (omega (arith, l, high)) (subst (λ n. slice_get es n ≡ Some e) there at)
    ] in
    record {
      long = omega (arith, ap length grown, length-append words more, c.pages.invariant.long, c.marks_of.ensures.0);
      marks = λ k e l at. ap (λ z. bit_in z k) grown ∙ marked k e (cases_lt k (512 * page)) l at;
    }

pub returns : goal.returns
returns c =
    let now = c.args.now in
    let es = c.args.self.now in
    let words = c.pages.words.items in
    let long = ap length c.self.view_is in
    let same = bits-same words c.len.result (map (is_expired now) es) (length-map es (is_expired now) ∙ omega (arith, long, c.len.ensures)) (λ i l.
    let within : i < length es = omega (arith, long, c.len.ensures, l) in
    c.pages.invariant.marks i (get_or es i no_element) (omega (arith, l, c.len.ensures, c.pages-test.false, c.pages_of-page-end.ensures.all)) (slice_get-get_or es i no_element within)
    ∙ sym (get_or-map (is_expired now) es i no_element false within)) in
    IfOk-weaker c.of_words.result (λ marks. marks ≡ first_bits words c.len.result) (λ marks. marks ≡ map (is_expired now) es) (λ marks is. is ∙ same) c.of_words.ensures
