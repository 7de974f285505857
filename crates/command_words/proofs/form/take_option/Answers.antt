use Rattle.std.proofs.Common.{◌≡◌, sym, ◌∙◌, ap, Some, map}
use Rattle.std.specs.String.{string_bytes}
use Rattle.command_words.specs.FormOptions as forms
use Rattle.command_words.proofs.FormLaws.{map-remove}
use Rattle.command_words.proofs.form.take_option.Goals as goal

pub returns-in-Some-clause-words : goal.returns-in-Some-clause-words
returns-in-Some-clause-words c =
    let option = c.args.option in
    let words = map string_bytes c.args.words.now.items in
    let at : forms.option_place option words ≡ Some c.in-Some.place = sym (ap (λ xs. forms.option_place option (map string_bytes xs)) c.as_slice.ensures.value) ∙ sym c.place_of.ensures.place ∙ c.in-Some.is in
    ap (map string_bytes) c.remove.ensures.items ∙ map-remove string_bytes c.args.words.now.items c.in-Some.place ∙ ap (λ o. forms.without o words) (sym at)
