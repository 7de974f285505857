use Rattle.std.proofs.Common.{◌≡◌, ◌<◌, ◌∙◌, sym, ap, Err, List, [], ◌∷◌, ◌++◌, ℕ, length, Some}
use Rattle.pip_base.specs.Whole.{size_limit}
use Rattle.input_files.specs.Seen.{is_ruleset, ruleset_names}
use Rattle.fault_notes.proofs.ToldLaws.{may_tell}
use Rattle.input_files.proofs.SeenLaws.{seen_large}
use Rattle.input_files.proofs.files.text_of.Goals as goal

pub returns-in-Err-TooLarge-clause-cause : goal.returns-in-Err-TooLarge-clause-cause
returns-in-Err-TooLarge-clause-cause g c = λ sets i same.
    let told = g.F.Shelf.told c.args.shelf.now in
    let read = c.in-Err-TooLarge.ensures in
    let failed = ap Err c.in-Err-TooLarge.field-0-is in
    let large : (t : List ℕ) → told i.name ≡ Some t → size_limit < length t = λ t at. read.too_large failed t (sym (ap told same) ∙ at) in (
      read.asked (λ e. absurd (let k = sym failed ∙ e in cc k)) ∙ ap (λ n. g.F.Shelf.asked c.args.shelf.now ++ n ∷ []) (sym same),
      sym same,
      read.no_fault (λ e. absurd (let k = sym failed ∙ e in cc k)),
      λ text at. seen_large (is_ruleset (ruleset_names c.args.rulesets) i.name) (told i.name) text large at,
    )

pub returns-in-Err-Fault-clause-noted : goal.returns-in-Err-Fault-clause-noted
returns-in-Err-Fault-clause-noted g c = λ sets. may_tell c.tell_read_fault.ensures

pub returns-in-Err-TooLarge-clause-noted : goal.returns-in-Err-TooLarge-clause-noted
returns-in-Err-TooLarge-clause-noted g c = λ sets. may_tell c.tell_too_large.ensures
