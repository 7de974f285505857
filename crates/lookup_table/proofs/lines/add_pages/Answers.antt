use Rattle.std.proofs.Common.{ℕ, sym, ◌+◌, ◌≡◌, ◌<◌, ◌≤◌, ◌*◌, ◌^◌, ◌∙◌, ◌⊎◌, inl, inr, ap, length, subst, arith, ◌++◌, ◌∷◌, []}
use Rattle.std.proofs.lemmas.Bool.{cases_lt}
use Rattle.std.proofs.lemmas.List.{length_push}
use Rattle.lookup_table.specs.Lines.{AreOwned}
use Rattle.lookup_table.proofs.LineLaws.{owned-none, more-none, more-both, more-page, owned-push}
use Rattle.lookup_table.proofs.lines.add_pages.Goals as goal

pub pages-init : goal.pages-init
pages-init c =
    let long : length c.args.pages.now.items ≡ c.len-p.result = omega (arith, c.len-p.ensures) in
    record { full = c.requires.full; more = more-none _ _; long = long; none = λ h. sym long; own = subst (λ (n : ℕ). AreOwned (length c.args.pages.now.items) n c.args.pages.now.items) long (owned-none _ _) }

pub pages-preserved : goal.pages-preserved
pages-preserved c =
    let made = c.push_reserved.ensures.items ∙ ap (λ pages. pages ++ c.in_ok-page.page ∷ []) c.in_ok-reserve_exact.ensures.items in
    let longer : length (c.pages.pages.items ++ c.in_ok-page.page ∷ []) ≡ length c.pages.pages.items + 1 = length_push c.pages.pages.items c.in_ok-page.page in
    rw made (record {
      full = omega (arith, c.push_reserved.ensures.capacity, c.in_ok-reserve_exact.ensures.capacity_exact, c.pages.invariant.full, longer);
      more = more-both _ _ _ _ c.pages.invariant.more (more-page c.args.count c.pages.pages.items c.in_ok-page.page c.in_ok-page.ensures.words);
      long = length_push c.pages.pages.items c.in_ok-page.page ∙ ap (λ n. n + 1) c.pages.invariant.long;
      none = λ h. let same = c.pages.invariant.none h in absurd (omega (arith, c.pages-test.true));
      own = owned-push c.pages.pages.items _ c.pages.p c.in_ok-page.page c.pages.invariant.long c.in_ok-page.ensures.own c.pages.invariant.own;
    })

pub returns-clause-small : goal.returns-clause-small
returns-clause-small c = λ few. go few (cases_lt (length c.args.pages.now.items) c.args.n) where
  go : 512 * length c.args.pages.now.items < 2 ^ 32 → (length c.args.pages.now.items < c.args.n) ⊎ (c.args.n ≤ length c.args.pages.now.items) → 512 * length c.pages.pages.items < 2 ^ 32
  go few (inl h) = omega (arith, few, h, c.requires.most, c.pages.invariant.long, c.len-p.ensures, c.pages.auto.p-end (omega (arith, c.len-p.ensures)))
  go few (inr h) = let e = c.pages.invariant.none h in omega (arith, few, c.pages.invariant.long)
