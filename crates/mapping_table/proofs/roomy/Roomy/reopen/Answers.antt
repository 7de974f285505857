use Rattle.std.proofs.Common.{◌≡◌, ◌∙◌, ap, sym, ◌+◌, ◌/◌, length, take, arith}
use Rattle.shared_pages.proofs.PageLaws.{items-length, cut-page}
use Rattle.std.proofs.lemmas.List.{take-set, take-map, length-take, length-map}
use Rattle.std.proofs.lemmas.List.Elements.{All-take}
use Rattle.shared_pages.specs.Paged.{items_in, owns_of, IsWhole}
use Rattle.mapping_table.proofs.roomy.Roomy.reopen.Goals as goal

pub returns-clause-items : goal.returns-clause-items
returns-clause-items g c =
    let count = c.args.len / 512 in
    let front : c.truncate.new.self.items ≡ take (c.args.len / 512) c.self.inside.whole.items = c.truncate.ensures.items ∙ take-set c.self.inside.whole.items count _ in
    let last : c.into_vec.result.items ≡ c.index_mut-page.result.now.items = c.into_vec.ensures.items ∙ ap (λ page. page.items) c.replace-open.ensures.value in
    ap (λ pages. take c.args.len (items_in pages c.into_vec.result.items)) front ∙ ap (λ t. take c.args.len (items_in (take count c.self.inside.whole.items) t)) last
    ∙ cut-page c.self.inside.whole.items c.self.inside.rest.items count c.args.len c.index_mut-page.result.now c.self.invariant.whole (omega arith) c.index_mut-page.ensures.value (omega arith)
    ∙ ap (λ v. take c.args.len v.items) c.self.view_is

pub returns-clause-room : goal.returns-clause-room
returns-clause-room g c =
    let count = c.args.len / 512 in
    let page = c.index_mut-page.result.now in
    let front : c.truncate.new.self.items ≡ take (c.args.len / 512) c.self.inside.whole.items = c.truncate.ensures.items ∙ take-set c.self.inside.whole.items count _ in
    let last : c.into_vec.result.items ≡ page.items = c.into_vec.ensures.items ∙ ap (λ page. page.items) c.replace-open.ensures.value in
    let whole : length page.items ≡ 512 = ap (λ page. length page.items) c.index_mut-page.ensures.value ∙ (c.self.invariant.whole count page (omega arith)).whole in
    let before = items-length c.self.inside.whole.items c.self.inside.rest.items c.self.invariant.whole in
    let after = items-length (take count c.self.inside.whole.items) c.into_vec.result.items (All-take IsWhole count c.self.inside.whole.items c.self.invariant.whole) in
    let fewer = length-take count c.self.inside.whole.items in
    let stood = ap (λ v. length v.items + v.spare) c.self.view_is in
    let same = ap (λ pages. length (items_in pages c.into_vec.result.items)) front in
    omega (arith, ap length last)

pub returns-clause-taken : goal.returns-clause-taken
returns-clause-taken g c =
    let count = c.args.len / 512 in
    let front : c.truncate.new.self.items ≡ take (c.args.len / 512) c.self.inside.whole.items = c.truncate.ensures.items ∙ take-set c.self.inside.whole.items count _ in
    record {
      own = ap owns_of front ∙ sym (take-map (λ page. page.own) count c.self.inside.whole.items) ∙ ap (λ v. take count v.own) c.self.view_is;
      others = grind arith;
      all = λ most. absurd (omega (arith, most, ap (λ v. length v.own) c.self.view_is, length-map c.self.inside.whole.items (λ page. page.own)));
      opened = grind arith;
    }
