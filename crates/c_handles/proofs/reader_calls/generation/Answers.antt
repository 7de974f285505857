use Rattle.std.proofs.Common.{rules, ◌≡◌, Option, subst}
use Rattle.history_laws.specs.Histories.{EndsWith}
use Rattle.c_handles.specs.declared.object.Object.{Object}
use Rattle.c_handles.specs.Calls.{seen_of, seen_by}
use Rattle.c_handles.proofs.reader_calls.generation.Goals as goal

pub returns-in-Ok-clause-done : goal.returns-in-Ok-clause-done
returns-in-Ok-clause-done c = λ _ g e.
    let same : c.in-Some.boxed.value ≡ c.deref.result.now = search rules in
    c.in-Ok.ensures.ok g (subst (λ (x : Object). EndsWith (seen_of x) g) same (subst (λ (h : Option Object). EndsWith (seen_by h) g) c.in-Some.ensures.old e))
