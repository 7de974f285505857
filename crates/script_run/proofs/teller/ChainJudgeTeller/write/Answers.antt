use Rattle.std.proofs.Common.{sym, subst}
use Rattle.rule_chain.specs.JudgedText.{IsOfRules}
use Rattle.rule_chain.proofs.DecidingLaws.{judged-deciding}
use Rattle.script_run.proofs.teller.ChainJudgeTeller.write.Goals as goal

pub write_judged-requires : goal.write_judged-requires
write_judged-requires c = λ k d within.
    let line = c.requires k d within in
    subst (IsOfRules c.args.self.now.chains) (sym line.2) (judged-deciding c.args.self.now.chains line.0 line.1)
