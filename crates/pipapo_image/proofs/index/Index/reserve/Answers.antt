use Rattle.std.proofs.Common.{◌≡◌, ◌-◌, ◌<◌, sym, ◌∙◌, ap, arith, length}
use Rattle.set_tables.specs.Search.{of_field}
use Rattle.pipapo_image.proofs.Items.{a-table}
use Rattle.pipapo_image.proofs.GrowLaws.{list-at}
use Rattle.pipapo_image.proofs.index.Index.reserve.Goals as goal

pub reserve_spans-requires-clause-few : goal.reserve_spans-requires-clause-few
reserve_spans-requires-clause-few c = λ f m h.
    let o = c.requires.shaped.walk.one_fewer in
    let t = a-table c.args.self.now.fields (omega arith) in
    let few = c.requires.columns.few f t (omega arith) in
    let same = c.requires.shaped.walk.one_each f t m h in
    omega arith

pub reserve-requires : goal.reserve-requires
reserve-requires c =
    let o = c.requires.shaped.walk.one_fewer in
    let t = a-table c.args.self.now.fields (omega arith) in
    let g : length c.args.columns.now - 1 < length c.args.columns.now = omega (arith, c.requires.columns.one_each) in
    let l : length c.args.self.now.fields - 1 < length c.args.self.now.fields = omega arith in
    let few = c.requires.shaped.walk.few (length c.args.self.now.fields - 1) t l in
    let narrow = c.requires.columns.narrow (length c.args.columns.now - 1) g in
    let last = c.len-last.ensures ∙ sym (ap length (list-at c.args.columns.now (length c.args.columns.now - 1) c.index-columns-columns.result g c.index-columns-columns.is)) in
    let ends = c.requires.shaped.one_end_each t in
    omega arith

pub returns-clause-room : goal.returns-clause-room
returns-clause-room c =
    let o = c.requires.shaped.walk.one_fewer in
    let a = c.in_ok-reserve_columns.ensures.kept.len in
    let b = c.in_ok-reserve_spans.ensures.kept.len in
    let g : length c.args.columns.now - 1 < length c.args.columns.now = omega (arith, c.requires.columns.one_each) in
    let last : c.len-last.result ≡ length (of_field c.args.columns.now (length c.args.columns.now - 1)) =
    c.len-last.ensures ∙ sym (ap length (list-at c.args.columns.now (length c.args.columns.now - 1) c.index-columns-columns.result g c.index-columns-columns.is)) in
    record {
      fields = λ f t h. c.in_ok-reserve_columns.ensures.room f t (omega arith);
      maps = λ f m h. c.in_ok-reserve_spans.ensures.room f m (omega arith);
      ends = omega (arith, c.in_ok-reserve.ensures.ok);
    }
