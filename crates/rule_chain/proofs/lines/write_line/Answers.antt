use Rattle.std.proofs.Common.{◌≡◌, sym, subst, ◌++◌, OnOk, OnErr}
use Rattle.text_pieces.specs.Appends.{AppendsPart}
use Rattle.rule_chain.proofs.LineLaws.{policy_line, rule_line}
use Rattle.rule_chain.proofs.lines.write_line.Goals as goal

pub returns-in-None-clause-ok : goal.returns-in-None-clause-ok
returns-in-None-clause-ok c =
    subst (λ t. OnOk c.append_pieces.result (c.append_pieces.new.out.items ≡ c.args.out.now.items ++ t))
    (sym (policy_line c.args.chains.now c.args.line.now c.policy_word.result.now c.in-None.is c.policy_word.ensures)) c.append_pieces.ensures.ok

pub returns-in-None-clause-err : goal.returns-in-None-clause-err
returns-in-None-clause-err c =
    subst (λ t. OnErr c.append_pieces.result (AppendsPart c.args.out.now.items c.append_pieces.new.out.items t))
    (sym (policy_line c.args.chains.now c.args.line.now c.policy_word.result.now c.in-None.is c.policy_word.ensures)) c.append_pieces.ensures.err

pub returns-in-Element-clause-ok : goal.returns-in-Element-clause-ok
returns-in-Element-clause-ok c =
    subst (λ t. OnOk c.append_pieces-in-Element.result (c.append_pieces-in-Element.new.out.items ≡ c.args.out.now.items ++ t))
    (sym (rule_line c.args.chains.now c.args.line.now c.in-Element.id c.rule_word.result.now c.in-Element.is c.rule_word.ensures)) c.append_pieces-in-Element.ensures.ok

pub returns-in-Element-clause-err : goal.returns-in-Element-clause-err
returns-in-Element-clause-err c =
    subst (λ t. OnErr c.append_pieces-in-Element.result (AppendsPart c.args.out.now.items c.append_pieces-in-Element.new.out.items t))
    (sym (rule_line c.args.chains.now c.args.line.now c.in-Element.id c.rule_word.result.now c.in-Element.is c.rule_word.ensures)) c.append_pieces-in-Element.ensures.err
