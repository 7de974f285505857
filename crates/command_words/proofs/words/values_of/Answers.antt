use Rattle.std.proofs.Common.{rules, ◌≡◌, ◌∙◌, ap, ap₂, subst, codes, map, true}
use Rattle.std.specs.String.{string_bytes}
use Rattle.std.proofs.lemmas.Result.{IfOk-weaker, IfErr-weaker, err_from_is_err_and}
use Rattle.clap.specs.Walk.{rule_of}
use Rattle.clap.specs.Simple.{App, HasMatchesOf, app_of, app_of_fields, new_app, new_rule, on_top, with_rule}
use Rattle.clap.specs.Takes.{takes}
use Rattle.command_words.proofs.ClapPasses.{takes-words}
use Rattle.command_words.proofs.ClapValues.{program, threads_rule, keep_going_rule, gives-values}
use Rattle.command_words.proofs.words.values_of.Goals as goal

pub returns : goal.returns
returns c =
    let first_is : rule_of c.new-first.result ≡ new_rule (codes "first") = search rules in
    let second_is : rule_of c.new-second.result ≡ new_rule (codes "second") = search rules in
    let third_is : rule_of c.new-third.result ≡ new_rule (codes "third") = search rules in
    let fourth_is : rule_of c.new-fourth.result ≡ new_rule (codes "fourth") = search rules in
    let threads_are : rule_of c.long-threads.result ≡ threads_rule = search rules in
    let keep_is : rule_of c.action-keep_going.result ≡ keep_going_rule = search rules in
    let begun : app_of c.disable_help_flag.result ≡ on_top (λ s. record s { disable_help_flag = true }) (new_app (codes "pipapo")) =
    ap app_of_fields c.disable_help_flag.ensures ∙ ap (on_top (λ s. record s { disable_help_flag = true })) c.new-3.ensures.app in
    let with_first = c.in_ok-arg.ensures.shape c.new-first.ensures.optional.1 ∙ ap₂ with_rule begun first_is in
    let with_second = c.in_ok-arg-2.ensures.shape c.new-second.ensures.optional.1 ∙ ap₂ with_rule with_first second_is in
    let with_third = c.in_ok-arg-3.ensures.shape c.new-third.ensures.optional.1 ∙ ap₂ with_rule with_second third_is in
    let with_fourth = c.in_ok-arg-4.ensures.shape c.new-fourth.ensures.optional.1 ∙ ap₂ with_rule with_third fourth_is in
    let with_threads = c.in_ok-arg-5.ensures.shape (search rules) ∙ ap₂ with_rule with_fourth threads_are in
    let whole : app_of c.in_ok-arg-6.field-0 ≡ program = c.in_ok-arg-6.ensures.shape (search rules) ∙ ap₂ with_rule with_threads keep_is in
    let words = map string_bytes c.args.words.now in record {
      found = IfOk-weaker c.try_get_matches_from.result _ _ (λ m h word names threads goes said plain. gives-values words word names threads goes m (subst (λ (a : App). HasMatchesOf a words m) whole h) said plain) c.try_get_matches_from.ensures.matches;
      memory = IfErr-weaker c.try_get_matches_from.result _ _ (λ e h word names threads goes said plain. h (ap (λ (a : App). takes a words) whole ∙ takes-words words word names threads goes said plain)) c.try_get_matches_from.ensures.passes;
    }

-- if no memory is left for the fourth and for the fifth argument
pub returns-in_err-arg-4-clause-memory : goal.returns-in_err-arg-4-clause-memory
returns-in_err-arg-4-clause-memory c =
    let k = err_from_is_err_and c.from_residual-in_err-arg-4.result c.from_residual-in_err-arg-4.ensures.1 in
    rw k.1 (λ word names threads goes said plain. k.2)

pub returns-in_err-arg-5-clause-memory : goal.returns-in_err-arg-5-clause-memory
returns-in_err-arg-5-clause-memory c =
    let k = err_from_is_err_and c.from_residual-in_err-arg-5.result c.from_residual-in_err-arg-5.ensures.1 in
    rw k.1 (λ word names threads goes said plain. k.2)
