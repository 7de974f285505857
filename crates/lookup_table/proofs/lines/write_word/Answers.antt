use Rattle.std.proofs.Common.{◌∙◌, ap, sym, length, subst, ◌<◌, ℕ}
use Rattle.std.proofs.lemmas.List.{get_or_default}
use Rattle.shared_pages.specs.Paged.{PageOf}
use Rattle.lookup_table.proofs.WriteLaws.{written, own-page}
use Rattle.lookup_table.proofs.lines.write_word.Goals as goal

pub returns-clause-written : goal.returns-clause-written
returns-clause-written c =
    written c.args.pages.now.items c.args.p c.args.x c.args.word c.index_mut-page.result.now c.put.new.self c.requires.page c.index_mut-page.ensures.value
    (own-page c.args.pages.now.items c.args.p c.index_mut-page.result.now c.requires.page c.index_mut-page.ensures.value c.requires.own)
    (subst (λ (n : ℕ). c.args.x < n) (sym (ap (λ (m : PageOf ℕ). length m.items) (c.index_mut-page.ensures.value ∙ get_or_default c.args.pages.now.items c.args.p c.index_mut-page.result.now _ c.requires.page))) c.requires.word)
    c.put.ensures.items c.put.ensures.own
