use Rattle.std.proofs.Common.{◌≡◌, Err, ap, subst}
use Rattle.token_forms.specs.declared.error.ReadError.TheVariants.{Bad}
use Rattle.rule_chain.specs.RulesText.{IsBadRules}
use Rattle.rule_chain.proofs.file.read_rules.Goals as goal

pub returns-in-Err-clause-bad : goal.returns-in-Err-clause-bad
returns-in-Err-clause-bad c = λ line reason e.
    let same : c.in-Err.e ≡ Bad line reason = cc e in
    subst (λ schema. IsBadRules schema c.args.text.now line reason) c.as_slice.ensures (c.in-Err.ensures.bad line reason (ap (λ z. Err z) same))
