use Rattle.std.proofs.Common.{◌≤◌, ◌^◌, sym, ◌∙◌, ap, subst, List, [], ◌∷◌, length, All}
use Rattle.set_model.specs.declared.script.SetDecl.{SetDecl}
use Rattle.set_model.specs.Control.{first_generation}
use Rattle.set_space.specs.Open.{CanBeBuilt, opened}
use Rattle.gen_publish.specs.Publish.{AllFresh}
use Rattle.script_laws.proofs.RunLaws.{ok-as}
use Rattle.script_laws.proofs.begin.start_run.Goals as goal

pub start-requires-clause-sets : goal.start-requires-clause-sets
start-requires-clause-sets c = subst (All CanBeBuilt) (sym c.in_ok-declared.ensures) c.requires.sets

pub start-requires-clause-few_sets : goal.start-requires-clause-few_sets
start-requires-clause-few_sets c = subst (λ (s : List SetDecl). length s ≤ 2 ^ 32) (sym c.in_ok-declared.ensures) c.requires.few_sets

pub returns-clause-control : goal.returns-clause-control
returns-clause-control c =
    let same = c.in_ok-declared.ensures in
    ok-as c.start.result (λ r is. (is.0 ∙ same, is.1, is.2 ∙ ap (λ (s : List SetDecl). first_generation s ∷ []) same, is.3 ∙ ap (λ (s : List SetDecl). opened (first_generation s)) same)) c.start.ensures.control

pub returns-clause-readers : goal.returns-clause-readers
returns-clause-readers c =
    ok-as c.start.result (λ r are. (are.0, subst (λ (s : List SetDecl). AllFresh r.0.of s (first_generation s ∷ []) 0 r.1.items) c.in_ok-declared.ensures are.1)) c.start.ensures.readers
