use Rattle.std.proofs.Common.{◌≡◌, sym, ◌∙◌, ap, subst, ℕ, List, ◌∷◌, Some, None, true, false}
use Rattle.std.proofs.lemmas.List.Elements.{All-tail}
use Rattle.set_model.specs.declared.kind.Interval.{Interval}
use Rattle.set_model.specs.Key.{key_fits, parts_fit, start_key}
use Rattle.pipapo_image.proofs.AddLaws.{start-fits}
use Rattle.set_model.specs.SetState.{place}
use Rattle.set_compare.specs.Search.{is_reached, IsSearched}
use Rattle.set_compare.proofs.CutLaws.{fit-proper, fit-long}
use Rattle.set_compare.proofs.HoldLaws.{found-holder, found-nowhere, element-long}
use Rattle.set_compare.proofs.SearchLaws.{searched-reached, searched-witness, searched-cut, fewer-by-one}
use Rattle.set_compare.proofs.search.Search.examine.Goals as goal

pub returns-then-reaches-clause-searched : goal.returns-then-reaches-clause-searched
returns-then-reaches-clause-searched c =
    let reach : is_reached c.args.self.now.least (start_key c.args.region) ≡ true = ap (is_reached c.args.self.now.least) (sym c.in_ok-key.ensures) ∙ sym c.reaches.ensures ∙ c.if-reaches.true in
    searched-reached c.args.other.now c.args.now c.args.self.now.least c.args.region c.args.self.now.rest.items c.requires.fit reach

pub returns-then-reaches-clause-fit : goal.returns-then-reaches-clause-fit
returns-then-reaches-clause-fit c = λ kinds all.
    let Q : List Interval → Type 0 = λ r. parts_fit kinds r ≡ true in All-tail Q c.args.region c.args.self.now.rest.items all

pub returns-then-reaches-clause-fewer : goal.returns-then-reaches-clause-fewer
returns-then-reaches-clause-fewer c = fewer-by-one c.args.other.now.kinds c.args.region c.args.self.now.rest.items c.requires.fit

pub find-requires : goal.find-requires
find-requires c = ap (key_fits c.args.other.now.kinds) c.in_ok-key.ensures ∙ start-fits c.args.other.now.kinds c.args.region c.requires.fit

pub subtract-requires-clause-same : goal.subtract-requires-clause-same
subtract-requires-clause-same c =
    sym (fit-long c.args.other.now.kinds c.args.region c.requires.fit)
    ∙ element-long c.args.other.now.kinds c.args.other.now.elements c.elements.result.now c.in-Some.found.place c.at-element.result.now c.as_slice.result.now c.elements.ensures.fit c.elements.ensures.same c.at-element.ensures
    c.as_slice.ensures

pub subtract-requires-clause-proper : goal.subtract-requires-clause-proper
subtract-requires-clause-proper c = fit-proper c.args.other.now.kinds c.args.region c.requires.fit

pub subtract-requires-clause-starts : goal.subtract-requires-clause-starts
subtract-requires-clause-starts c =
    (found-holder c.args.other.now c.in_ok-key.key (start_key c.args.region) c.args.now c.find.result c.in-Some.found c.elements.result.now c.at-element.result.now c.as_slice.result.now c.find.ensures c.in-Some.is
    c.elements.ensures.same c.at-element.ensures c.as_slice.ensures c.in_ok-key.ensures).holds

pub returns-in_ok-subtract-in-Some-clause-searched : goal.returns-in_ok-subtract-in-Some-clause-searched
returns-in_ok-subtract-in-Some-clause-searched c =
    searched-cut c.args.other.now c.args.now c.args.self.now.least (start_key c.args.region) c.as_slice.result.now _ _
    (found-holder c.args.other.now c.in_ok-key.key (start_key c.args.region) c.args.now c.find.result c.in-Some.found c.elements.result.now c.at-element.result.now c.as_slice.result.now c.find.ensures c.in-Some.is
    c.elements.ensures.same c.at-element.ensures c.as_slice.ensures c.in_ok-key.ensures) c.in_ok-subtract-in-Some.ensures

pub returns-in-None-clause-searched : goal.returns-in-None-clause-searched
returns-in-None-clause-searched c =
    let far : is_reached c.args.self.now.least (start_key c.args.region) ≡ false = ap (is_reached c.args.self.now.least) (sym c.in_ok-key.ensures) ∙ sym c.reaches.ensures ∙ c.if-reaches.false in
    let none : None ≡ place c.args.other.now (start_key c.args.region) c.args.now =
    found-nowhere c.args.other.now c.in_ok-key.key (start_key c.args.region) c.args.now c.find.result c.find.ensures c.in-None.is c.in_ok-key.ensures in
    let P : List ℕ → Type 0 = λ z. IsSearched c.args.other.now c.args.now c.args.self.now.least (c.args.region ∷ c.args.self.now.rest.items) (Some z) c.args.self.now.rest.items in
    subst P (sym c.in_ok-key.ensures) (searched-witness c.args.other.now c.args.now c.args.self.now.least c.args.region c.args.self.now.rest.items c.requires.fit far none)

pub returns-in-None-clause-fit : goal.returns-in-None-clause-fit
returns-in-None-clause-fit c = λ kinds all.
    let Q : List Interval → Type 0 = λ r. parts_fit kinds r ≡ true in All-tail Q c.args.region c.args.self.now.rest.items all

pub returns-in-None-clause-fewer : goal.returns-in-None-clause-fewer
returns-in-None-clause-fewer c = fewer-by-one c.args.other.now.kinds c.args.region c.args.self.now.rest.items c.requires.fit
