use Rattle.std.proofs.Common.{rules, ◌≡◌, ◌∙◌, ap, ◌+◌, ◌≤◌, ◌*◌, ◌/◌, ◌++◌, take, drop, arith, sym, length}
use Rattle.std.proofs.lemmas.List.{take-append-drop, length-map}
use Rattle.lookup_table.specs.Rows.{IsClosedUp, Each}
use Rattle.lookup_table.proofs.RowsLaws.{closed-rooms}
use Rattle.lookup_table.proofs.RuleLaws.{closed-shape, closed-stands}
use Rattle.lookup_table.proofs.MarkLaws.{cells-fewer}
use Rattle.lookup_table.proofs.SummaryLaws.{buckets-some, first-long, closed-room, own-words, summed-kept, summed-weaker, summed-pages, cells-closed}
use Rattle.lookup_table.proofs.TopLaws.{own-tops, summed-renewed}
use Rattle.lookup_table.proofs.table.FieldTable.drop_rules.Goals as goal

pub returns-then-n-eq0-clause-stands : goal.returns-then-n-eq0-clause-stands
returns-then-n-eq0-clause-stands c = λ blocks stands.
    let none : c.args.first + c.args.n ≡ c.args.first = omega (arith, c.if-n-eq0.true) in
    let same : take c.args.first blocks ++ drop (c.args.first + c.args.n) blocks ≡ blocks = ap (λ k. take c.args.first blocks ++ drop k blocks) none ∙ take-append-drop c.args.first blocks in
    rw same stands

pub close_up-requires-clause-some : goal.close_up-requires-clause-some
close_up-requires-clause-some c = buckets-some _ _ _ c.args.self.now.shaped.groups c.args.self.now.shaped.count

pub close_up-requires-clause-own : goal.close_up-requires-clause-own
close_up-requires-clause-own c = record { each = λ r a b. c.requires.own.rows r a (omega (arith, first-long _ _ _ _ c.args.self.now.shaped)) }

pub renew_pages-requires-clause-words : goal.renew_pages-requires-clause-words
renew_pages-requires-clause-words c = λ q h. closed-room _ _ _ _ _ (512 * q) _ _ c.args.self.now.shaped c.close_up.ensures.rows (omega (arith, c.div_ceil-end.ensures))

pub renew_pages-requires-clause-own : goal.renew_pages-requires-clause-own
renew_pages-requires-clause-own c = λ q a b. own-words c.args.self.now.pages.items c.args.first c.args.self.now.rules q c.requires.own.marks (omega (arith, c.requires.within, c.if-n-eq0.false)) a (omega (arith, c.div_ceil-end.ensures))

pub renew_pages-requires-clause-summed : goal.renew_pages-requires-clause-summed
renew_pages-requires-clause-summed c =
    let before : 512 * (c.args.first / 512) ≤ c.args.first = omega arith in
    let within : 512 * (c.args.first / 512) ≤ c.args.self.now.rules = omega (arith, c.requires.within) in
    summed-kept _ _ _ _ _ _ _ _ within (cells-fewer _ _ _ _ before (cells-closed _ _ _ _ _ _ _ c.requires.within c.args.self.now.shaped c.close_up.ensures.rows)) c.args.self.now.summed

pub renew_tops-requires-clause-order : goal.renew_tops-requires-clause-order
renew_tops-requires-clause-order c = omega (arith, c.div_ceil-end.ensures, c.div_ceil.ensures, c.requires.within, c.if-n-eq0.false)

pub renew_tops-requires-clause-pages : goal.renew_tops-requires-clause-pages
renew_tops-requires-clause-pages c = rw c.as_slice.ensures.value (summed-pages _ _ _ _ _ _ c.renew_pages.ensures.summed)

pub renew_tops-requires-clause-tops : goal.renew_tops-requires-clause-tops
renew_tops-requires-clause-tops c = summed-pages _ _ _ _ _ _ c.args.self.now.topped

pub renew_tops-requires-clause-own : goal.renew_tops-requires-clause-own
renew_tops-requires-clause-own c = λ p a b. own-tops c.args.self.now.tops.items c.args.first c.args.self.now.rules p c.requires.own.tops (omega (arith, c.requires.within, c.if-n-eq0.false)) a (omega (arith, c.div_ceil-end.ensures, c.div_ceil.ensures))

pub invariant_of-self : goal.invariant_of-self
invariant_of-self c = record {
  shaped = closed-shape _ _ _ _ _ _ _ c.requires.within c.args.self.now.shaped c.close_up.ensures.rows;
  summed = summed-weaker _ _ _ _ _ _ _ (omega (arith, c.div_ceil-end.ensures)) c.renew_pages.ensures.summed;
  topped =
      let before : 4096 * (c.args.first / 4096) ≤ c.args.first = omega arith in
      let within : 4096 * (c.args.first / 4096) ≤ c.args.self.now.rules = omega (arith, c.requires.within) in
      summed-renewed _ _ _ (4096 * (c.args.first / 4096)) _ _ _ _ _ _ (omega (arith, c.div_ceil-end.ensures, c.div_ceil.ensures)) (λ r h l. omega arith) (summed-weaker _ _ _ _ _ _ _ (omega (arith, c.div_ceil-end.ensures)) c.renew_pages.ensures.summed)
      (summed-kept _ _ _ _ _ _ _ _ within (cells-fewer _ _ _ _ before (cells-closed _ _ _ _ _ _ _ c.requires.within c.args.self.now.shaped c.close_up.ensures.rows)) c.args.self.now.topped) (rw c.as_slice.ensures.value at c.renew_tops.ensures.renewed);
  full =
      let long : length c.renew_pages.new.pages.items ≡ length c.args.self.now.pages.items =
      sym (length-map c.renew_pages.new.pages.items (λ page. page.own)) ∙ ap length c.renew_pages.ensures.own ∙ length-map c.args.self.now.pages.items (λ page. page.own) in
      omega (arith, c.renew_pages.ensures.room, c.args.self.now.full, long);
  full_tops = omega (arith, c.renew_tops.ensures.room, c.args.self.now.full_tops, c.renew_tops.ensures.renewed.long);
}

pub returns-clause-room : goal.returns-clause-room
returns-clause-room c = closed-rooms _ _ _ _ c.close_up.ensures.rows

pub returns-clause-stands : goal.returns-clause-stands
returns-clause-stands c = λ blocks stands.
    let closed : Each (IsClosedUp c.args.first c.args.n) c.args.self.now.buckets.rows c.close_up.new.self.rows = search (rules, c.close_up.ensures.rows) in
    search (rules, closed-stands c.args.self.now.width c.args.self.now.bits c.args.self.now.rules c.args.first c.args.n c.args.self.now.buckets.rows c.close_up.new.self.rows blocks c.requires.within c.args.self.now.shaped closed stands)
