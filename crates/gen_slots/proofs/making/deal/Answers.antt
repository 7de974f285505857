use Rattle.std.proofs.Common.{rules, ap, ◌≡◌, ◌∙◌, sym, subst, arith, ◌+◌, ◌++◌, ◌∷◌, [], length}
use Rattle.gen_slots.specs.SlotSteps.{given_one}
use Rattle.gen_slots.specs.SlotViews.{AllNew}
use Rattle.gen_slots.proofs.OpeningSteps.{deals, all_new-snoc}
use Rattle.gen_slots.proofs.making.deal.Goals as goal

pub split_seat-seat-requires : goal.split_seat-seat-requires
split_seat-seat-requires g c = let i = c.loop-reader.invariant in let pl = c.requires.plan in let role = i.planned pl.0 pl.1 in let n = pl.3 in let far = c.loop-reader-test.true in (search rules, search rules, deals g.T.Version.state g.T.Version.follows _ _ _ (record pl.0 { given = c.loop-reader.reader }) role (omega arith))

pub loop-reader-preserved : goal.loop-reader-preserved
loop-reader-preserved g c = let i = c.loop-reader.invariant in let did = c.split_seat-seat.ensures in let pl = c.requires.plan in let role = i.planned pl.0 pl.1 in let size = i.size in let number : c.loop-reader.reader ≡ 0 + length c.loop-reader.passes.items = omega arith in record {
  table = did.0 ∙ i.table;
  bare = ap (λ m. m.1) did.2 ∙ i.bare;
  seen = ap (λ m. m.0.seen) did.2 ∙ i.seen;
  planned = λ p is. ap (λ m. m.0.role) did.2 ∙ ap given_one (i.planned p is);
  size = let n = i.size in search rules;
  passes = let item : c.seated.result ≡ record { of = c.args.place.now.table_id; seen = c.args.place.now.me.0.seen; reader = 0 + length c.loop-reader.passes.items; moves = 0 } =
      c.seated.ensures ∙ (λ j. record { of = (did.3 ∙ i.table) j; seen = (ap (λ m. m.0.seen) did.4 ∙ i.seen) j; reader = number j; moves = ap (λ m. m.0.moves) did.4 j }) in
      let items : c.push.new.self.items ≡ c.loop-reader.passes.items ++ c.seated.result ∷ [] = search rules in
      subst (AllNew c.args.place.now.table_id c.args.place.now.me.0.seen 0) (sym items) (all_new-snoc _ _ _ _ _ i.passes item);
}
