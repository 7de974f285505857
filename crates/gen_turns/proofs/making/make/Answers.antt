use Rattle.std.proofs.Common.{rules, ◌≡◌, [], ◌∷◌, length, sym, subst, arith}
use Rattle.atomic_table.specs.Table.{opening}
use Rattle.gen_turns.specs.TurnRule.{Kept, starting}
use Rattle.gen_turns.proofs.OpeningSteps.{starts}
use Rattle.gen_turns.proofs.making.make.Goals as goal

pub new-made-requires : goal.new-made-requires
new-made-requires g c = let entry = c.in_ok-entry.ensures in let count = c.requires.count in let readers : c.len-readers.result ≡ length c.args.first.items = search rules in
    subst (λ z. Kept g.T.Version.state g.T.Version.follows (opening (0 ∷ 0 ∷ []) z (starting c.len-readers.result (g.T.Version.state c.of.result.value)))) (sym entry.1)
    (starts g.T.Version.state g.T.Version.follows c.len-readers.result (g.T.Version.state c.of.result.value) entry.0 (omega (arith, readers, count)) (omega (arith, readers, count)) entry.2)
