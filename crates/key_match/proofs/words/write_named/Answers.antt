use Rattle.std.proofs.lemmas.Result.{on_ok_weaker}
use Rattle.key_match.proofs.ListLaws.{two-parts}
use Rattle.key_match.proofs.words.write_named.Goals as goal

pub returns : goal.returns
returns c = on_ok_weaker c.write_line.result (λ wrote. two-parts c.args.out.now.items c.write_front.new.out.items _ _ _ c.in_ok-write_front.ensures wrote) c.write_line.ensures.ok
