use Rattle.std.proofs.lemmas.Result.{on_ok_weaker}
use Rattle.key_match.proofs.ListLaws.{three-parts}
use Rattle.key_match.proofs.miss.write_expired_line.Goals as goal

pub returns : goal.returns
returns c = on_ok_weaker c.write_moment.result (λ last. three-parts c.args.out.now.items c.append_pieces.new.out.items c.write_named.new.out.items _ _ _ _ c.in_ok-append_pieces.ensures.ok c.in_ok-write_named.ensures last) c.write_moment.ensures
