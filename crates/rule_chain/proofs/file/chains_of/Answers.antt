use Rattle.std.proofs.Common.{refl}
use Rattle.rule_chain.specs.RulesText.{IsRulesText}
use Rattle.rule_chain.proofs.FileLaws.{rules_gives, rules_sound}
use Rattle.rule_chain.proofs.file.chains_of.Goals as goal

pub returns-clause-found : goal.returns-clause-found
unfolding IsRulesText
returns-clause-found c = (rules_gives c.args.schema.now _ c.args.text.now _ _ c.whole.result _ refl c.plain-reader.ensures c.whole.ensures).found

pub returns-clause-only : goal.returns-clause-only
unfolding IsRulesText
returns-clause-only c = (rules_gives c.args.schema.now _ c.args.text.now _ _ c.whole.result _ refl c.plain-reader.ensures c.whole.ensures).only

pub returns-clause-bad : goal.returns-clause-bad
returns-clause-bad c = λ line reason e. ((rules_gives c.args.schema.now _ c.args.text.now _ _ c.whole.result _ refl c.plain-reader.ensures c.whole.ensures).bad line reason e).0

pub returns-clause-sound : goal.returns-clause-sound
unfolding IsRulesText
returns-clause-sound c = rules_sound c.args.schema.now c.args.text.now _ c.whole.result (rules_gives c.args.schema.now _ c.args.text.now _ _ c.whole.result _ refl c.plain-reader.ensures c.whole.ensures).found
