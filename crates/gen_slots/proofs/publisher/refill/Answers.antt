use Rattle.std.proofs.Common.{rules, ap, ◌∙◌, sym, ◌<◌, arith, length, length-set, get_or, None}
use Rattle.gen_slots.proofs.Rows.{row_first, row_found, row_next, same_drop, same_drop_set, same_take_set}
use Rattle.gen_slots.proofs.publisher.refill.Goals as goal

pub exchange-requires : goal.exchange-requires
exchange-requires g c = let inv = c.loop-reader.invariant in let far : c.loop-reader.reader < length c.args.values.now.items = search rules in let row = inv.taken in
    (search rules, row_first _ _ row.0 c.args.values.now.items c.args.place.now.me.0 c.loop-reader.place.me (let n = row.1 in omega (arith, far, n)) row.3)

pub loop-reader-preserved : goal.loop-reader-preserved
loop-reader-preserved g c = let took = c.take-value.ensures.value in let inv = c.loop-reader.invariant in let row = inv.taken in let far : c.loop-reader.reader < length c.args.values.now.items = search rules in
    let far' : c.loop-reader.reader < length c.loop-reader.values.items = search rules in let in_row : c.loop-reader.reader < length row.0 = (let n = row.1 in omega (arith, far, n)) in
    let found = row_found _ _ row.0 c.args.values.now.items c.args.place.now.me.0 c.loop-reader.place.me c.exchange.result in_row row.3 (search rules) in record {
      table = search rules;
      seat = search rules;
      size = length-set _ _ _ ∙ (length-set _ _ _ ∙ inv.size);
      room = inv.room;
      left = same_drop_set _ _ _ _ _ c.take-value.result far' far inv.left;
      taken = (
        row.0,
        row.1,
        row.2,
        row_next _ _ row.0 c.args.values.now.items c.args.place.now.me.0 c.loop-reader.place.me c.exchange.new.seat.me c.turn.new.self.me c.take-value.result c.take-value.result in_row far row.3 (search rules) (search rules)
            (took ∙ (c.index_mut.ensures.value ∙ (ap (get_or c.loop-reader.values.items c.loop-reader.reader) (sym took) ∙ (same_drop _ _ _ c.take-value.result far' far inv.left).0))),
        same_take_set _ row.0 _ _ _ None (let n = length-set c.loop-reader.values.items c.loop-reader.reader None in search rules) in_row row.4 found,
      );
    }
