use Rattle.std.proofs.lemmas.Result.{on_ok_weaker}
use Rattle.key_match.proofs.ListLaws.{three-parts}
use Rattle.key_match.proofs.miss.write_counts.Goals as goal

pub returns : goal.returns
returns c = on_ok_weaker c.append_pieces-2.result (λ last. three-parts c.args.out.now.items c.append_pieces.new.out.items c.write_each_count.new.out.items _ _ _ _ c.in_ok-append_pieces.ensures.ok c.in_ok-write_each_count.ensures last) c.append_pieces-2.ensures.ok
