use Rattle.std.proofs.Common.{rules, ◌≡◌, ◌++◌, ◌∷◌, [], Some, sym, ap, ◌∙◌}
use Rattle.std.proofs.lemmas.List.{map-append}
use Rattle.script_run.proofs.telling.at_places.Goals as goal

pub loop-reader-preserved : goal.loop-reader-preserved
loop-reader-preserved c =
    let items : c.push.new.self.items ≡ c.loop-reader.all.items ++ Some c.in-Some.reader ∷ [] = search rules in
    items ∙ ap (λ z. z ++ Some c.in-Some.reader ∷ []) c.loop-reader.invariant ∙ sym (map-append Some c.loop-reader.yielded (c.in-Some.reader ∷ []))
