use Rattle.std.proofs.Common.{rules, ap, ◌≡◌, ◌∙◌, sym, subst, arith, ◌+◌, ◌++◌, ◌∷◌, [], length, length-append, append_assoc}
use Rattle.history_laws.specs.Histories.{EndsWith}
use Rattle.history_laws.specs.States.{AllAre}
use Rattle.history_laws.proofs.States.{one_state}
use Rattle.gen_turns.specs.declared.board.Role.TheVariants.{Keeper}
use Rattle.gen_turns.specs.TurnSteps.{given_one, next_reader}
use Rattle.gen_turns.specs.TurnViews.{AllNew}
use Rattle.gen_turns.proofs.OpeningSteps.{deals, all_new-snoc}
use Rattle.gen_turns.proofs.making.deal.Goals as goal

pub loop-value-init : goal.loop-value-init
loop-value-init g c = let was = c.requires.seat in record {
  table = search rules;
  seat = λ i. (record c.args.place.now.me.0 { role = was.0 i }, was.2 i);
  all = search rules;
  size = search rules;
  passes = search rules;
}

pub split_seat-seat-requires : goal.split_seat-seat-requires
split_seat-seat-requires g c = let i = c.loop-value.invariant in let now = c.in-Some.ensures.steps.0 in let size = ap length i.all in let more = ap length now in let both = length-append c.loop-value.yielded c.loop-value.value-iterator.rest.items in
    (search rules, search rules, deals g.T.Version.state g.T.Version.follows _ _ (length c.args.first.items) (length c.loop-value.yielded) (ap (λ m. m.0.role) i.seat) (omega (arith, size, more, both)))

pub seated-requires-clause-seat : goal.seated-requires-clause-seat
seated-requires-clause-seat g c = let i = c.loop-value.invariant in let told = c.split_seat-seat.ensures.4 in let size = i.size in
    let is : c.split_seat-seat.result.me ≡ (next_reader (record c.args.place.now.me.0 { role = Keeper (length c.args.first.items) (length c.loop-value.yielded) }), []) = told ∙ (λ j. (next_reader (i.seat j).0, [])) in
    (ap (λ m. m.0.role) is ∙ search rules, ap (λ m. m.0.stage) is, ap (λ m. m.1) is, search rules)

pub seated-requires-clause-value : goal.seated-requires-clause-value
seated-requires-clause-value g c = let i = c.loop-value.invariant in let asked = c.requires.values in let now = c.in-Some.ensures.steps.0 in
    let same = one_state g.T.Version.state asked.0 c.loop-value.yielded c.in-Some.value c.next.new.self.rest.items (subst (λ z. AllAre g.T.Version.state asked.0 z) (sym (ap (λ z. c.loop-value.yielded ++ z) (sym now) ∙ i.all)) asked.1) in
    subst (λ z. EndsWith z (g.T.Version.state c.in-Some.value)) (sym (ap (λ m. m.0.entered) c.split_seat-seat.ensures.4 ∙ ap (λ m. m.0.entered) i.seat)) (subst (λ z. EndsWith c.args.place.now.me.0.entered z) (sym same) asked.2)

pub loop-value-preserved : goal.loop-value-preserved
loop-value-preserved g c = let i = c.loop-value.invariant in let did = c.split_seat-seat.ensures in let now = c.in-Some.ensures.steps.0 in let size = i.size in let number : c.len-reader.result ≡ 0 + length c.loop-value.passes.items = search rules in
    let items : c.push.new.self.items ≡ c.loop-value.passes.items ++ c.seated.result ∷ [] = search rules in let more = length-append c.loop-value.yielded (c.in-Some.value ∷ []) in let longer : length c.loop-value.yielded + 1 ≡ length (c.loop-value.yielded ++ c.in-Some.value ∷ []) = omega (arith, more) in record {
      table = search rules;
      seat = did.2 ∙ ((λ j. (given_one (i.seat j).0, (i.seat j).1)) ∙ (λ j. (record c.args.place.now.me.0 { role = Keeper (length c.args.first.items) (longer j) }, [])));
      all = append_assoc c.loop-value.yielded (c.in-Some.value ∷ []) c.next.new.self.rest.items ∙ (ap (λ z. c.loop-value.yielded ++ z) (sym now) ∙ i.all);
      size = let one = ap length items in let two = length-append c.loop-value.passes.items (c.seated.result ∷ []) in omega (arith, one, two, longer, size);
      passes = let item : c.seated.result ≡ record { of = c.args.place.now.table_id; seen = c.args.place.now.me.0.seen; reader = 0 + length c.loop-value.passes.items } =
          c.seated.ensures ∙ (λ j. record { of = (did.3 ∙ i.table) j; seen = (ap (λ m. m.0.seen) did.4 ∙ ap (λ m. m.0.seen) i.seat) j; reader = number j }) in
          subst (AllNew c.args.place.now.table_id c.args.place.now.me.0.seen 0) (sym items) (all_new-snoc _ _ _ _ _ i.passes item);
    }
