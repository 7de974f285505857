use Rattle.std.proofs.Common.{◌≡◌, ◌∙◌, ◌*◌, ◌+◌, ◌++◌, ◌∷◌, [], ap, sym, length, arith, vec_capacity}
use Rattle.std.proofs.lemmas.List.{length_push}
use Rattle.lookup_table.specs.Summary.{AreRenewed}
use Rattle.lookup_table.proofs.TopLaws.{top-added, pages-pushed, pages-renewed}
use Rattle.lookup_table.proofs.tops.add_tops.Goals as goal

pub returns-in_err-reserve_exact-clause-kept : goal.returns-in_err-reserve_exact-clause-kept
returns-in_err-reserve_exact-clause-kept c =
    λ width buckets summed topped. rw c.reserve_exact.ensures.items (c.tops.invariant.kept width buckets summed topped)

pub tops-preserved : goal.tops-preserved
tops-preserved c =
    let count : length c.tops.tops.items ≡ c.tops.q = c.tops.invariant.long (omega arith) in
    let made : c.push_reserved.new.self.items ≡ c.tops.tops.items ++ c.in_ok-top.top ∷ [] = c.push_reserved.ensures.items ∙ ap (λ tops. tops ++ c.in_ok-top.top ∷ []) c.in_ok-reserve_exact.ensures.items in
    let empty = c.in_ok-top.ensures.lines in
    let renewed : AreRenewed (64 * length c.tops.tops.items) c.max.result c.args.pages.now (c.tops.tops.items ++ c.in_ok-top.top ∷ []) c.renew_tops.new.tops.items = rw (count, sym made) c.renew_tops.ensures.renewed in
    let pushed : length c.push_reserved.new.self.items ≡ length c.tops.tops.items + 1 = ap length made ∙ length_push c.tops.tops.items c.in_ok-top.top in
    let full : vec_capacity c.renew_tops.new.tops ≡ length c.push_reserved.new.self.items = omega (arith, c.renew_tops.ensures.room, c.push_reserved.ensures.capacity, c.in_ok-reserve_exact.ensures.capacity_exact, c.tops.invariant.full) in
    record {
      full = full ∙ ap length made ∙ sym renewed.long;
      long = λ some. renewed.long ∙ length_push c.tops.tops.items c.in_ok-top.top ∙ ap (λ n. n + 1) count;
      tops = pages-renewed c.args.bits _ _ _ _ _ renewed (pages-pushed c.args.bits c.tops.tops.items c.in_ok-top.top empty c.tops.invariant.tops);
      kept = λ width buckets summed topped.
          top-added width c.args.bits c.args.rules c.max.result buckets c.args.pages.now c.tops.tops.items c.renew_tops.new.tops.items c.in_ok-top.top (omega (arith, c.div_ceil-to.ensures, c.max.ensures)) (omega (arith, c.requires.few))
          empty renewed summed (c.tops.invariant.kept width buckets summed topped);
    }
