use Rattle.std.proofs.Common.{◌≡◌, ◌<◌, ◌∙◌, ap, length, sym, ℕ}
use Rattle.std.proofs.lemmas.List.{get_or_default}
use Rattle.shared_pages.specs.Paged.{PageOf}
use Rattle.lookup_table.specs.Lines.{words_at}
use Rattle.lookup_table.proofs.TopLaws.{page-renewed}
use Rattle.lookup_table.proofs.tops.mark_from.Goals as goal

pub returns-in-Some-clause-renewed : goal.returns-in-Some-clause-renewed
returns-in-Some-clause-renewed c =
    let read = c.in-Some.ensures.lookup.3 in
    let inside : c.args.p < length c.args.pages.now = read.0 in
    let is : c.as_slice.result.now ≡ words_at c.args.pages.now c.args.p =
    c.as_slice.ensures ∙ ap (λ (m : PageOf ℕ). m.items) (read.1 c.in-Some.page.now ∙ get_or_default c.args.pages.now c.args.p c.in-Some.page.now _ inside) in
    page-renewed c.args.p c.args.pages.now c.as_slice.result.now c.args.top.now.items c.mark_page.new.top.items inside is (ap length is ∙ (c.requires.pages.each c.args.p inside).long ∙ sym c.requires.top.long) c.mark_page.ensures.marked
