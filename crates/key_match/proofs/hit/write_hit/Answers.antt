use Rattle.std.proofs.Common.{◌≡◌, ◌∙◌, ◌-◌, ap, ◌++◌, ℕ, length, sym, arith}
use Rattle.std.proofs.lemmas.Result.{on_ok_weaker}
use Rattle.std.proofs.lemmas.List.{length-drop}
use Rattle.key_match.specs.Holders.{holders}
use Rattle.key_match.specs.Matched.{plain, others, more_line}
use Rattle.key_match.proofs.ListLaws.{three-parts}
use Rattle.key_match.proofs.hit.write_hit.Goals as goal

pub returns : goal.returns
returns c =
    let q = plain c.args.asked.now in
    let all = holders q.key q.now q.elements in
    let rest : c.saturating_sub.result ≡ length (others q) - 8 =
    let dropped = length-drop 1 all in let count = c.in_ok-count.ensures.count in let less = c.saturating_sub.ensures in omega (arith, dropped, count, less) in
    on_ok_weaker c.write_more.result
    (λ last. three-parts c.args.out.now.items c.write_answer.new.out.items c.write_others.new.out.items _ _ _ _ c.in_ok-write_answer.ensures c.in_ok-count.ensures.text (last ∙ ap (λ n. c.write_others.new.out.items ++ more_line n) rest))
    c.write_more.ensures
