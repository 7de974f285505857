use Rattle.std.proofs.Common.{◌∙◌, sym}
use Rattle.compare_answer.specs.Plain.{plain_set}
use Rattle.compare_answer.proofs.VerdictLaws.{lack-fits, say-same, say-differ}
use Rattle.compare_answer.proofs.verdict.write_difference.Goals as goal

pub write_if_any-requires : goal.write_if_any-requires
write_if_any-requires c =
    let s = plain_set c.args.first.now in let t = plain_set c.args.second.now in
    lack-fits s.state s.at t.state t.at c.args.difference.now.in_first c.requires.differences.in_first

pub write_if_any-requires-2 : goal.write_if_any-requires-2
write_if_any-requires-2 c =
    let s = plain_set c.args.first.now in let t = plain_set c.args.second.now in
    lack-fits t.state t.at s.state s.at c.args.difference.now.in_second c.requires.differences.in_second

pub returns-then-is_none : goal.returns-then-is_none
returns-then-is_none c =
    say-same (plain_set c.args.first.now) (plain_set c.args.second.now) c.args.out.now.items _ c.requires.kinds (c.requires.alike.0 (sym c.is_none.ensures ∙ c.if-is_none.true)) c.in_ok-append_pieces.ensures.ok

pub returns : goal.returns
returns c =
    say-differ (plain_set c.args.first.now) (plain_set c.args.second.now) c.args.difference.now c.args.out.now.items _ _ c.requires.kinds c.requires.differences (sym c.is_none.ensures ∙ c.if-is_none.false) c.in_ok-write_if_any.ensures c.in_ok-write_if_any-2.ensures
