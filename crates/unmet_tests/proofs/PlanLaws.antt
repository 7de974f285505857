-- One more line of a plan.
use Rattle.std.proofs.Common.{◌≡◌, refl, ◌∙◌, ap, ℕ, ◌+◌, ◌<◌, List, [], ◌∷◌, ◌++◌, length, take, get_or, add-one}
use Rattle.std.specs.List.{fold}
use Rattle.std.proofs.Math.Seq.{take-suc}
use Rattle.set_model.specs.declared.script.SetDecl.{SetDecl}
use Rattle.pcap_keys.specs.declared.selector.PlanLine.{PlanLine}
use Rattle.rule_chain.specs.Unmet.{key_types, with_type}
use Rattle.unmet_tests.specs.UnmetText.{plan_sets}

fold_last : {A B : Type 0} (f : B → A → B) (b : B) (xs : List A) (x : A) → fold f b (xs ++ x ∷ []) ≡ f (fold f b xs) x
fold_last f b [] x = refl
fold_last f b (y ∷ xs) x = fold_last f (f b y) xs x

sets_last : (plan : List PlanLine) (l : PlanLine) → plan_sets (plan ++ l ∷ []) ≡ plan_sets plan ++ l.set ∷ []
sets_last [] l = refl
sets_last (o ∷ plan) l = ap (λ z. o.set ∷ z) (sets_last plan l)

pub one_line_more : (schema : List SetDecl) (plan : List PlanLine) (i : ℕ) (d : PlanLine) → i < length plan → key_types schema (plan_sets (take (i + 1) plan)) ≡ with_type schema (key_types schema (plan_sets (take i plan))) (get_or plan i d).set
one_line_more schema plan i d within =
    let front : take (i + 1) plan ≡ take i plan ++ get_or plan i d ∷ [] = rw add-one (take-suc plan i d within) in
    ap (λ (ls : List PlanLine). key_types schema (plan_sets ls)) front ∙ ap (key_types schema) (sets_last (take i plan) (get_or plan i d)) ∙ fold_last (with_type schema) [] (plan_sets (take i plan)) (get_or plan i d).set
