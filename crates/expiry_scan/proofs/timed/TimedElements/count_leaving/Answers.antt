use Rattle.std.proofs.Common.{◌≡◌, ℕ, sym, ◌∙◌, ap, ◌+◌, ◌*◌, take, count_by, length-take, arith}
use Rattle.std.proofs.lemmas.List.Sums.{count_by-le-length}
use Rattle.expiry_scan.specs.Expired.{is_leaving}
use Rattle.expiry_scan.proofs.PlaceLaws.{count_quiet}
use Rattle.expiry_scan.proofs.timed.TimedElements.count_leaving.Goals.{then-not-is_quiet, else-not-is_quiet}
use Rattle.expiry_scan.proofs.timed.TimedElements.count_leaving.Goals as goal

pub overflow_add-count : goal.overflow_add-count
overflow_add-count c =
    let p = is_leaving c.args.passed c.args.now in
    let es = c.self.inside.items in
    let before : c.pages.count ≡ count_by p (take (512 * c.pages.page) es) = c.pages.invariant ∙ ap (λ z. count_by p (take (512 * c.pages.page) z)) (sym c.self.view_is) in
    let most = count_by-le-length p (take (512 * c.pages.page + 512) es) in
    let long = length-take (512 * c.pages.page + 512) es in
    omega (arith, before, most, long, c.count_in-count.ensures, c.pages_of-page-end.ensures.fit)

pub pages-preserved : goal.pages-preserved
pages-preserved c =
    let p = is_leaving c.args.passed c.args.now in
    let page = c.pages.page in
    let on : 512 * (page + 1) ≡ 512 * page + 512 = omega arith in
    elim c.if-not-is_quiet.branch [
      | then-not-is_quiet w ↦ (let view = λ (n : ℕ). ap (λ z. count_by p (take n z)) c.self.view_is in
          omega (arith, w.count-is, w.count_in-count.ensures, view (512 * page), view (512 * page + 512), c.pages.invariant, ap (λ n. count_by p (take n c.args.self.now)) on))
      | else-not-is_quiet w ↦ (let none = count_quiet p c.args.self.now (512 * page) 512 (c.is_quiet.ensures w.if-not-is_quiet.false) in
          w.count-is ∙ c.pages.invariant ∙ sym none ∙ ap (λ n. count_by p (take n c.args.self.now)) (sym on))
    ]
