use Rattle.std.specs.Borrow.{Bor}
use Rattle.std.proofs.Common.{refl, sym, ap, ◌∙◌, ℕ, List, [], ◌∷◌}
use Rattle.command_words.specs.WordForms.{plain}
use Rattle.command_words.specs.Words.{judge, judge_capture}
use Rattle.command_words.specs.declared.words.Command.TheVariants as asked
use Rattle.input_files.specs.Seen.{ruleset_names, seen}
use Rattle.input_files.specs.Inputs.{script, second, rules_of_nft, keys, rules, plan, capture, inputs}
use Rattle.input_files.proofs.Reading.{up-to-none, up-to-more, as-script, as-other, as-ruleset, as-keys, as-rules, as-plan, as-capture, stops, has-read, script-first}
use Rattle.input_files.proofs.RulesFiles.{read-after, rules-file}
use Rattle.input_files.proofs.work.work_of.Goals as goal

pub returns-in-Err-clause-stops : goal.returns-in-Err-clause-stops
returns-in-Err-clause-stops g c =
    let first = script-first c.in-Script.script c.in-Script.task c.in-Script.keep_going in
    stops (plain c.args.command) (record { name = c.in-Script.script.now; form = script }) first.0 c.in-Err.fault (ap (λ x. inputs (plain x)) c.in-Script.is ∙ first.1) (up-to-none (ruleset_names c.args.rulesets) (g.F.Shelf.told c.args.shelf.now) (g.F.Shelf.asked c.args.shelf.now) (g.F.Shelf.faults c.args.shelf.now) (g.F.Shelf.is_picked c.args.shelf.now) (g.F.Shelf.left c.args.shelf.now) [] _ _ c.requires.nothing c.requires.fresh) c.in-Err.ensures.kept (c.in-Err.ensures.cause []) refl (c.in-Err.ensures.noted [])

pub returns-in-Ok-keys_of-clause-all : goal.returns-in-Ok-keys_of-clause-all
returns-in-Ok-keys_of-clause-all g c =
    has-read (plain c.args.command) (ap (λ x. inputs (plain x)) c.in-Script.is ∙ ap (λ t. inputs (plain (asked.Script c.in-Script.script t c.in-Script.keep_going))) c.in-Run.is)
    (up-to-more (record { name = c.in-Run.keys.now; form = keys }) (up-to-more (record { name = c.in-Script.script.now; form = script }) (up-to-none (ruleset_names c.args.rulesets) (g.F.Shelf.told c.args.shelf.now) (g.F.Shelf.asked c.args.shelf.now) (g.F.Shelf.faults c.args.shelf.now) (g.F.Shelf.is_picked c.args.shelf.now) (g.F.Shelf.left c.args.shelf.now) c.in-Ok.script.schema _ _ c.requires.nothing c.requires.fresh)
    (as-script (seen (ruleset_names c.args.rulesets) (g.F.Shelf.told c.args.shelf.now)) c.in-Script.script.now c.in-Ok.script c.in-Ok.ensures.read) c.in-Ok.ensures.quiet c.in-Ok.ensures.whole c.in-Ok.ensures.kept c.in-Ok.ensures.told c.in-Ok.ensures.seen c.in-Ok.ensures.skips)
    (as-keys (seen (ruleset_names c.args.rulesets) (g.F.Shelf.told c.script_of.new.shelf)) c.in-Run.keys.now c.in-Ok.script.schema c.in-Ok-keys_of.keys c.in-Ok-keys_of.ensures.read) c.in-Ok-keys_of.ensures.quiet c.in-Ok-keys_of.ensures.whole c.in-Ok-keys_of.ensures.kept c.in-Ok-keys_of.ensures.told c.in-Ok-keys_of.ensures.seen c.in-Ok-keys_of.ensures.skips)

pub returns-in-Run-clause-stops : goal.returns-in-Run-clause-stops
returns-in-Run-clause-stops g c =
    stops (plain c.args.command) (record { name = c.in-Run.keys.now; form = keys }) [] c.in-Err-keys_of.fault (ap (λ x. inputs (plain x)) c.in-Script.is ∙ ap (λ t. inputs (plain (asked.Script c.in-Script.script t c.in-Script.keep_going))) c.in-Run.is)
    (up-to-more (record { name = c.in-Script.script.now; form = script }) (up-to-none (ruleset_names c.args.rulesets) (g.F.Shelf.told c.args.shelf.now) (g.F.Shelf.asked c.args.shelf.now) (g.F.Shelf.faults c.args.shelf.now) (g.F.Shelf.is_picked c.args.shelf.now) (g.F.Shelf.left c.args.shelf.now) c.in-Ok.script.schema _ _ c.requires.nothing c.requires.fresh)
    (as-script (seen (ruleset_names c.args.rulesets) (g.F.Shelf.told c.args.shelf.now)) c.in-Script.script.now c.in-Ok.script c.in-Ok.ensures.read) c.in-Ok.ensures.quiet c.in-Ok.ensures.whole c.in-Ok.ensures.kept c.in-Ok.ensures.told c.in-Ok.ensures.seen c.in-Ok.ensures.skips) c.in-Err-keys_of.ensures.kept c.in-Err-keys_of.ensures.cause c.in-Ok.ensures.silent c.in-Err-keys_of.ensures.noted

pub returns-in-List-clause-all : goal.returns-in-List-clause-all
returns-in-List-clause-all g c =
    has-read (plain c.args.command) (ap (λ x. inputs (plain x)) c.in-Script.is ∙ ap (λ t. inputs (plain (asked.Script c.in-Script.script t c.in-Script.keep_going))) c.in-List.is)
    (up-to-more (record { name = c.in-Script.script.now; form = script }) (up-to-none (ruleset_names c.args.rulesets) (g.F.Shelf.told c.args.shelf.now) (g.F.Shelf.asked c.args.shelf.now) (g.F.Shelf.faults c.args.shelf.now) (g.F.Shelf.is_picked c.args.shelf.now) (g.F.Shelf.left c.args.shelf.now) c.in-Ok.script.schema _ _ c.requires.nothing c.requires.fresh)
    (as-script (seen (ruleset_names c.args.rulesets) (g.F.Shelf.told c.args.shelf.now)) c.in-Script.script.now c.in-Ok.script c.in-Ok.ensures.read) c.in-Ok.ensures.quiet c.in-Ok.ensures.whole c.in-Ok.ensures.kept c.in-Ok.ensures.told c.in-Ok.ensures.seen c.in-Ok.ensures.skips)

pub returns-in-Dump-clause-all : goal.returns-in-Dump-clause-all
returns-in-Dump-clause-all g c =
    has-read (plain c.args.command) (ap (λ x. inputs (plain x)) c.in-Script.is ∙ ap (λ t. inputs (plain (asked.Script c.in-Script.script t c.in-Script.keep_going))) c.in-Dump.is)
    (up-to-more (record { name = c.in-Script.script.now; form = script }) (up-to-none (ruleset_names c.args.rulesets) (g.F.Shelf.told c.args.shelf.now) (g.F.Shelf.asked c.args.shelf.now) (g.F.Shelf.faults c.args.shelf.now) (g.F.Shelf.is_picked c.args.shelf.now) (g.F.Shelf.left c.args.shelf.now) c.in-Ok.script.schema _ _ c.requires.nothing c.requires.fresh)
    (as-script (seen (ruleset_names c.args.rulesets) (g.F.Shelf.told c.args.shelf.now)) c.in-Script.script.now c.in-Ok.script c.in-Ok.ensures.read) c.in-Ok.ensures.quiet c.in-Ok.ensures.whole c.in-Ok.ensures.kept c.in-Ok.ensures.told c.in-Ok.ensures.seen c.in-Ok.ensures.skips)

pub returns-in-Stat-clause-all : goal.returns-in-Stat-clause-all
returns-in-Stat-clause-all g c =
    has-read (plain c.args.command) (ap (λ x. inputs (plain x)) c.in-Script.is ∙ ap (λ t. inputs (plain (asked.Script c.in-Script.script t c.in-Script.keep_going))) c.in-Stat.is)
    (up-to-more (record { name = c.in-Script.script.now; form = script }) (up-to-none (ruleset_names c.args.rulesets) (g.F.Shelf.told c.args.shelf.now) (g.F.Shelf.asked c.args.shelf.now) (g.F.Shelf.faults c.args.shelf.now) (g.F.Shelf.is_picked c.args.shelf.now) (g.F.Shelf.left c.args.shelf.now) c.in-Ok.script.schema _ _ c.requires.nothing c.requires.fresh)
    (as-script (seen (ruleset_names c.args.rulesets) (g.F.Shelf.told c.args.shelf.now)) c.in-Script.script.now c.in-Ok.script c.in-Ok.ensures.read) c.in-Ok.ensures.quiet c.in-Ok.ensures.whole c.in-Ok.ensures.kept c.in-Ok.ensures.told c.in-Ok.ensures.seen c.in-Ok.ensures.skips)

pub returns-in-Desk-clause-all : goal.returns-in-Desk-clause-all
returns-in-Desk-clause-all g c =
    has-read (plain c.args.command) (ap (λ x. inputs (plain x)) c.in-Script.is ∙ ap (λ t. inputs (plain (asked.Script c.in-Script.script t c.in-Script.keep_going))) c.in-Desk.is)
    (up-to-more (record { name = c.in-Script.script.now; form = script }) (up-to-none (ruleset_names c.args.rulesets) (g.F.Shelf.told c.args.shelf.now) (g.F.Shelf.asked c.args.shelf.now) (g.F.Shelf.faults c.args.shelf.now) (g.F.Shelf.is_picked c.args.shelf.now) (g.F.Shelf.left c.args.shelf.now) c.in-Ok.script.schema _ _ c.requires.nothing c.requires.fresh)
    (as-script (seen (ruleset_names c.args.rulesets) (g.F.Shelf.told c.args.shelf.now)) c.in-Script.script.now c.in-Ok.script c.in-Ok.ensures.read) c.in-Ok.ensures.quiet c.in-Ok.ensures.whole c.in-Ok.ensures.kept c.in-Ok.ensures.told c.in-Ok.ensures.seen c.in-Ok.ensures.skips)

pub returns-in-Get-clause-all : goal.returns-in-Get-clause-all
returns-in-Get-clause-all g c =
    has-read (plain c.args.command) (ap (λ x. inputs (plain x)) c.in-Script.is ∙ ap (λ t. inputs (plain (asked.Script c.in-Script.script t c.in-Script.keep_going))) c.in-Get.is)
    (up-to-more (record { name = c.in-Script.script.now; form = script }) (up-to-none (ruleset_names c.args.rulesets) (g.F.Shelf.told c.args.shelf.now) (g.F.Shelf.asked c.args.shelf.now) (g.F.Shelf.faults c.args.shelf.now) (g.F.Shelf.is_picked c.args.shelf.now) (g.F.Shelf.left c.args.shelf.now) c.in-Ok.script.schema _ _ c.requires.nothing c.requires.fresh)
    (as-script (seen (ruleset_names c.args.rulesets) (g.F.Shelf.told c.args.shelf.now)) c.in-Script.script.now c.in-Ok.script c.in-Ok.ensures.read) c.in-Ok.ensures.quiet c.in-Ok.ensures.whole c.in-Ok.ensures.kept c.in-Ok.ensures.told c.in-Ok.ensures.seen c.in-Ok.ensures.skips)

pub returns-in-Err-rules_of-clause-stops : goal.returns-in-Err-rules_of-clause-stops
returns-in-Err-rules_of-clause-stops g c =
    stops (plain c.args.command) (record { name = c.in-Judge.rules.now; form = rules }) (record { name = c.in-Judge.keys.now; form = keys } ∷ []) c.in-Err-rules_of.fault (ap (λ x. inputs (plain x)) c.in-Script.is ∙ ap (λ t. inputs (plain (asked.Script c.in-Script.script t c.in-Script.keep_going))) c.in-Judge.is)
    (up-to-more (record { name = c.in-Script.script.now; form = script }) (up-to-none (ruleset_names c.args.rulesets) (g.F.Shelf.told c.args.shelf.now) (g.F.Shelf.asked c.args.shelf.now) (g.F.Shelf.faults c.args.shelf.now) (g.F.Shelf.is_picked c.args.shelf.now) (g.F.Shelf.left c.args.shelf.now) c.in-Ok.script.schema _ _ c.requires.nothing c.requires.fresh)
    (as-script (seen (ruleset_names c.args.rulesets) (g.F.Shelf.told c.args.shelf.now)) c.in-Script.script.now c.in-Ok.script c.in-Ok.ensures.read) c.in-Ok.ensures.quiet c.in-Ok.ensures.whole c.in-Ok.ensures.kept c.in-Ok.ensures.told c.in-Ok.ensures.seen c.in-Ok.ensures.skips) c.in-Err-rules_of.ensures.kept c.in-Err-rules_of.ensures.cause c.in-Ok.ensures.silent c.in-Err-rules_of.ensures.noted

pub returns-in-Ok-keys_of-2-clause-all : goal.returns-in-Ok-keys_of-2-clause-all
returns-in-Ok-keys_of-2-clause-all g c =
    has-read (plain c.args.command) (ap (λ x. inputs (plain x)) c.in-Script.is ∙ ap (λ t. inputs (plain (asked.Script c.in-Script.script t c.in-Script.keep_going))) c.in-Judge.is)
    (up-to-more (record { name = c.in-Judge.keys.now; form = keys }) (up-to-more (record { name = c.in-Judge.rules.now; form = rules }) (up-to-more (record { name = c.in-Script.script.now; form = script }) (up-to-none (ruleset_names c.args.rulesets) (g.F.Shelf.told c.args.shelf.now) (g.F.Shelf.asked c.args.shelf.now) (g.F.Shelf.faults c.args.shelf.now) (g.F.Shelf.is_picked c.args.shelf.now) (g.F.Shelf.left c.args.shelf.now) c.in-Ok.script.schema _ _ c.requires.nothing c.requires.fresh)
    (as-script (seen (ruleset_names c.args.rulesets) (g.F.Shelf.told c.args.shelf.now)) c.in-Script.script.now c.in-Ok.script c.in-Ok.ensures.read) c.in-Ok.ensures.quiet c.in-Ok.ensures.whole c.in-Ok.ensures.kept c.in-Ok.ensures.told c.in-Ok.ensures.seen c.in-Ok.ensures.skips)
    (as-rules (seen (ruleset_names c.args.rulesets) (g.F.Shelf.told c.script_of.new.shelf)) c.in-Judge.rules.now c.in-Ok.script.schema (c.in-Ok-rules_of.file.chains.chains, c.in-Ok-rules_of.file.chains.accept) c.in-Ok-rules_of.ensures.read) c.in-Ok-rules_of.ensures.quiet c.in-Ok-rules_of.ensures.whole c.in-Ok-rules_of.ensures.kept c.in-Ok-rules_of.ensures.told c.in-Ok-rules_of.ensures.seen c.in-Ok-rules_of.ensures.skips)
    (as-keys (seen (ruleset_names c.args.rulesets) (g.F.Shelf.told c.rules_of.new.shelf)) c.in-Judge.keys.now c.in-Ok.script.schema c.in-Ok-keys_of-2.keys c.in-Ok-keys_of-2.ensures.read) c.in-Ok-keys_of-2.ensures.quiet c.in-Ok-keys_of-2.ensures.whole c.in-Ok-keys_of-2.ensures.kept c.in-Ok-keys_of-2.ensures.told c.in-Ok-keys_of-2.ensures.seen c.in-Ok-keys_of-2.ensures.skips)

pub returns-in-Judge-clause-stops : goal.returns-in-Judge-clause-stops
returns-in-Judge-clause-stops g c =
    stops (plain c.args.command) (record { name = c.in-Judge.keys.now; form = keys }) [] c.in-Err-keys_of-2.fault (ap (λ x. inputs (plain x)) c.in-Script.is ∙ ap (λ t. inputs (plain (asked.Script c.in-Script.script t c.in-Script.keep_going))) c.in-Judge.is)
    (up-to-more (record { name = c.in-Judge.rules.now; form = rules }) (up-to-more (record { name = c.in-Script.script.now; form = script }) (up-to-none (ruleset_names c.args.rulesets) (g.F.Shelf.told c.args.shelf.now) (g.F.Shelf.asked c.args.shelf.now) (g.F.Shelf.faults c.args.shelf.now) (g.F.Shelf.is_picked c.args.shelf.now) (g.F.Shelf.left c.args.shelf.now) c.in-Ok.script.schema _ _ c.requires.nothing c.requires.fresh)
    (as-script (seen (ruleset_names c.args.rulesets) (g.F.Shelf.told c.args.shelf.now)) c.in-Script.script.now c.in-Ok.script c.in-Ok.ensures.read) c.in-Ok.ensures.quiet c.in-Ok.ensures.whole c.in-Ok.ensures.kept c.in-Ok.ensures.told c.in-Ok.ensures.seen c.in-Ok.ensures.skips)
    (as-rules (seen (ruleset_names c.args.rulesets) (g.F.Shelf.told c.script_of.new.shelf)) c.in-Judge.rules.now c.in-Ok.script.schema (c.in-Ok-rules_of.file.chains.chains, c.in-Ok-rules_of.file.chains.accept) c.in-Ok-rules_of.ensures.read) c.in-Ok-rules_of.ensures.quiet c.in-Ok-rules_of.ensures.whole c.in-Ok-rules_of.ensures.kept c.in-Ok-rules_of.ensures.told c.in-Ok-rules_of.ensures.seen c.in-Ok-rules_of.ensures.skips) c.in-Err-keys_of-2.ensures.kept c.in-Err-keys_of-2.ensures.cause (c.in-Ok-rules_of.ensures.silent ∙ c.in-Ok.ensures.silent) c.in-Err-keys_of-2.ensures.noted

pub returns-in-Ok-keys_of-3-clause-all : goal.returns-in-Ok-keys_of-3-clause-all
returns-in-Ok-keys_of-3-clause-all g c =
    has-read (plain c.args.command) (ap (λ x. inputs (plain x)) c.in-Script.is ∙ ap (λ t. inputs (plain (asked.Script c.in-Script.script t c.in-Script.keep_going))) c.in-Explain.is)
    (up-to-more (record { name = c.in-Explain.keys.now; form = keys }) (up-to-more (record { name = c.in-Script.script.now; form = script }) (up-to-none (ruleset_names c.args.rulesets) (g.F.Shelf.told c.args.shelf.now) (g.F.Shelf.asked c.args.shelf.now) (g.F.Shelf.faults c.args.shelf.now) (g.F.Shelf.is_picked c.args.shelf.now) (g.F.Shelf.left c.args.shelf.now) c.in-Ok.script.schema _ _ c.requires.nothing c.requires.fresh)
    (as-script (seen (ruleset_names c.args.rulesets) (g.F.Shelf.told c.args.shelf.now)) c.in-Script.script.now c.in-Ok.script c.in-Ok.ensures.read) c.in-Ok.ensures.quiet c.in-Ok.ensures.whole c.in-Ok.ensures.kept c.in-Ok.ensures.told c.in-Ok.ensures.seen c.in-Ok.ensures.skips)
    (as-keys (seen (ruleset_names c.args.rulesets) (g.F.Shelf.told c.script_of.new.shelf)) c.in-Explain.keys.now c.in-Ok.script.schema c.in-Ok-keys_of-3.keys c.in-Ok-keys_of-3.ensures.read) c.in-Ok-keys_of-3.ensures.quiet c.in-Ok-keys_of-3.ensures.whole c.in-Ok-keys_of-3.ensures.kept c.in-Ok-keys_of-3.ensures.told c.in-Ok-keys_of-3.ensures.seen c.in-Ok-keys_of-3.ensures.skips)

pub returns-in-Explain-clause-stops : goal.returns-in-Explain-clause-stops
returns-in-Explain-clause-stops g c =
    stops (plain c.args.command) (record { name = c.in-Explain.keys.now; form = keys }) [] c.in-Err-keys_of-3.fault (ap (λ x. inputs (plain x)) c.in-Script.is ∙ ap (λ t. inputs (plain (asked.Script c.in-Script.script t c.in-Script.keep_going))) c.in-Explain.is)
    (up-to-more (record { name = c.in-Script.script.now; form = script }) (up-to-none (ruleset_names c.args.rulesets) (g.F.Shelf.told c.args.shelf.now) (g.F.Shelf.asked c.args.shelf.now) (g.F.Shelf.faults c.args.shelf.now) (g.F.Shelf.is_picked c.args.shelf.now) (g.F.Shelf.left c.args.shelf.now) c.in-Ok.script.schema _ _ c.requires.nothing c.requires.fresh)
    (as-script (seen (ruleset_names c.args.rulesets) (g.F.Shelf.told c.args.shelf.now)) c.in-Script.script.now c.in-Ok.script c.in-Ok.ensures.read) c.in-Ok.ensures.quiet c.in-Ok.ensures.whole c.in-Ok.ensures.kept c.in-Ok.ensures.told c.in-Ok.ensures.seen c.in-Ok.ensures.skips) c.in-Err-keys_of-3.ensures.kept c.in-Err-keys_of-3.ensures.cause c.in-Ok.ensures.silent c.in-Err-keys_of-3.ensures.noted

pub returns-in-Err-plan_of-clause-stops : goal.returns-in-Err-plan_of-clause-stops
returns-in-Err-plan_of-clause-stops g c =
    stops (plain c.args.command) (record { name = c.in-Capture.plan.now; form = plan }) (record { name = c.in-Capture.packets.now; form = capture } ∷ []) c.in-Err-plan_of.fault (ap (λ x. inputs (plain x)) c.in-Script.is ∙ ap (λ t. inputs (plain (asked.Script c.in-Script.script t c.in-Script.keep_going))) c.in-Capture.is)
    (up-to-more (record { name = c.in-Script.script.now; form = script }) (up-to-none (ruleset_names c.args.rulesets) (g.F.Shelf.told c.args.shelf.now) (g.F.Shelf.asked c.args.shelf.now) (g.F.Shelf.faults c.args.shelf.now) (g.F.Shelf.is_picked c.args.shelf.now) (g.F.Shelf.left c.args.shelf.now) c.in-Ok.script.schema _ _ c.requires.nothing c.requires.fresh)
    (as-script (seen (ruleset_names c.args.rulesets) (g.F.Shelf.told c.args.shelf.now)) c.in-Script.script.now c.in-Ok.script c.in-Ok.ensures.read) c.in-Ok.ensures.quiet c.in-Ok.ensures.whole c.in-Ok.ensures.kept c.in-Ok.ensures.told c.in-Ok.ensures.seen c.in-Ok.ensures.skips) c.in-Err-plan_of.ensures.kept c.in-Err-plan_of.ensures.cause c.in-Ok.ensures.silent c.in-Err-plan_of.ensures.noted

pub returns-in-Ok-capture_of-clause-all : goal.returns-in-Ok-capture_of-clause-all
returns-in-Ok-capture_of-clause-all g c =
    has-read (plain c.args.command) (ap (λ x. inputs (plain x)) c.in-Script.is ∙ ap (λ t. inputs (plain (asked.Script c.in-Script.script t c.in-Script.keep_going))) c.in-Capture.is)
    (up-to-more (record { name = c.in-Capture.packets.now; form = capture }) (up-to-more (record { name = c.in-Capture.plan.now; form = plan }) (up-to-more (record { name = c.in-Script.script.now; form = script }) (up-to-none (ruleset_names c.args.rulesets) (g.F.Shelf.told c.args.shelf.now) (g.F.Shelf.asked c.args.shelf.now) (g.F.Shelf.faults c.args.shelf.now) (g.F.Shelf.is_picked c.args.shelf.now) (g.F.Shelf.left c.args.shelf.now) c.in-Ok.script.schema _ _ c.requires.nothing c.requires.fresh)
    (as-script (seen (ruleset_names c.args.rulesets) (g.F.Shelf.told c.args.shelf.now)) c.in-Script.script.now c.in-Ok.script c.in-Ok.ensures.read) c.in-Ok.ensures.quiet c.in-Ok.ensures.whole c.in-Ok.ensures.kept c.in-Ok.ensures.told c.in-Ok.ensures.seen c.in-Ok.ensures.skips)
    (as-plan (seen (ruleset_names c.args.rulesets) (g.F.Shelf.told c.script_of.new.shelf)) c.in-Capture.plan.now c.in-Ok.script.schema c.in-Ok-plan_of.plan c.in-Ok-plan_of.ensures.read) c.in-Ok-plan_of.ensures.quiet c.in-Ok-plan_of.ensures.whole c.in-Ok-plan_of.ensures.kept c.in-Ok-plan_of.ensures.told c.in-Ok-plan_of.ensures.seen c.in-Ok-plan_of.ensures.skips)
    (as-capture (seen (ruleset_names c.args.rulesets) (g.F.Shelf.told c.plan_of.new.shelf)) c.in-Capture.packets.now c.in-Ok.script.schema c.in-Ok-capture_of.frames c.in-Ok-capture_of.ensures.read) c.in-Ok-capture_of.ensures.quiet c.in-Ok-capture_of.ensures.whole c.in-Ok-capture_of.ensures.kept c.in-Ok-capture_of.ensures.told c.in-Ok-capture_of.ensures.seen c.in-Ok-capture_of.ensures.skips)

pub returns-in-Capture-clause-stops : goal.returns-in-Capture-clause-stops
returns-in-Capture-clause-stops g c =
    stops (plain c.args.command) (record { name = c.in-Capture.packets.now; form = capture }) [] c.in-Err-capture_of.fault (ap (λ x. inputs (plain x)) c.in-Script.is ∙ ap (λ t. inputs (plain (asked.Script c.in-Script.script t c.in-Script.keep_going))) c.in-Capture.is)
    (up-to-more (record { name = c.in-Capture.plan.now; form = plan }) (up-to-more (record { name = c.in-Script.script.now; form = script }) (up-to-none (ruleset_names c.args.rulesets) (g.F.Shelf.told c.args.shelf.now) (g.F.Shelf.asked c.args.shelf.now) (g.F.Shelf.faults c.args.shelf.now) (g.F.Shelf.is_picked c.args.shelf.now) (g.F.Shelf.left c.args.shelf.now) c.in-Ok.script.schema _ _ c.requires.nothing c.requires.fresh)
    (as-script (seen (ruleset_names c.args.rulesets) (g.F.Shelf.told c.args.shelf.now)) c.in-Script.script.now c.in-Ok.script c.in-Ok.ensures.read) c.in-Ok.ensures.quiet c.in-Ok.ensures.whole c.in-Ok.ensures.kept c.in-Ok.ensures.told c.in-Ok.ensures.seen c.in-Ok.ensures.skips)
    (as-plan (seen (ruleset_names c.args.rulesets) (g.F.Shelf.told c.script_of.new.shelf)) c.in-Capture.plan.now c.in-Ok.script.schema c.in-Ok-plan_of.plan c.in-Ok-plan_of.ensures.read) c.in-Ok-plan_of.ensures.quiet c.in-Ok-plan_of.ensures.whole c.in-Ok-plan_of.ensures.kept c.in-Ok-plan_of.ensures.told c.in-Ok-plan_of.ensures.seen c.in-Ok-plan_of.ensures.skips) c.in-Err-capture_of.ensures.kept (c.in-Err-capture_of.ensures.cause c.in-Ok.script.schema) (c.in-Ok-plan_of.ensures.silent ∙ c.in-Ok.ensures.silent) (c.in-Err-capture_of.ensures.noted c.in-Ok.script.schema)

pub returns-in-Err-rules_of-2-clause-stops : goal.returns-in-Err-rules_of-2-clause-stops
returns-in-Err-rules_of-2-clause-stops g c =
    stops (plain c.args.command) (record { name = c.in-JudgeCapture.rules.now; form = rules }) (record { name = c.in-JudgeCapture.plan.now; form = plan } ∷ record { name = c.in-JudgeCapture.packets.now; form = capture } ∷ []) c.in-Err-rules_of-2.fault (ap (λ x. inputs (plain x)) c.in-Script.is ∙ ap (λ t. inputs (plain (asked.Script c.in-Script.script t c.in-Script.keep_going))) c.in-JudgeCapture.is)
    (up-to-more (record { name = c.in-Script.script.now; form = script }) (up-to-none (ruleset_names c.args.rulesets) (g.F.Shelf.told c.args.shelf.now) (g.F.Shelf.asked c.args.shelf.now) (g.F.Shelf.faults c.args.shelf.now) (g.F.Shelf.is_picked c.args.shelf.now) (g.F.Shelf.left c.args.shelf.now) c.in-Ok.script.schema _ _ c.requires.nothing c.requires.fresh)
    (as-script (seen (ruleset_names c.args.rulesets) (g.F.Shelf.told c.args.shelf.now)) c.in-Script.script.now c.in-Ok.script c.in-Ok.ensures.read) c.in-Ok.ensures.quiet c.in-Ok.ensures.whole c.in-Ok.ensures.kept c.in-Ok.ensures.told c.in-Ok.ensures.seen c.in-Ok.ensures.skips) c.in-Err-rules_of-2.ensures.kept c.in-Err-rules_of-2.ensures.cause c.in-Ok.ensures.silent c.in-Err-rules_of-2.ensures.noted

pub returns-in-Err-plan_of-2-clause-stops : goal.returns-in-Err-plan_of-2-clause-stops
returns-in-Err-plan_of-2-clause-stops g c =
    stops (plain c.args.command) (record { name = c.in-JudgeCapture.plan.now; form = plan }) (record { name = c.in-JudgeCapture.packets.now; form = capture } ∷ []) c.in-Err-plan_of-2.fault (ap (λ x. inputs (plain x)) c.in-Script.is ∙ ap (λ t. inputs (plain (asked.Script c.in-Script.script t c.in-Script.keep_going))) c.in-JudgeCapture.is)
    (up-to-more (record { name = c.in-JudgeCapture.rules.now; form = rules }) (up-to-more (record { name = c.in-Script.script.now; form = script }) (up-to-none (ruleset_names c.args.rulesets) (g.F.Shelf.told c.args.shelf.now) (g.F.Shelf.asked c.args.shelf.now) (g.F.Shelf.faults c.args.shelf.now) (g.F.Shelf.is_picked c.args.shelf.now) (g.F.Shelf.left c.args.shelf.now) c.in-Ok.script.schema _ _ c.requires.nothing c.requires.fresh)
    (as-script (seen (ruleset_names c.args.rulesets) (g.F.Shelf.told c.args.shelf.now)) c.in-Script.script.now c.in-Ok.script c.in-Ok.ensures.read) c.in-Ok.ensures.quiet c.in-Ok.ensures.whole c.in-Ok.ensures.kept c.in-Ok.ensures.told c.in-Ok.ensures.seen c.in-Ok.ensures.skips)
    (as-rules (seen (ruleset_names c.args.rulesets) (g.F.Shelf.told c.script_of.new.shelf)) c.in-JudgeCapture.rules.now c.in-Ok.script.schema (c.in-Ok-rules_of-2.file.chains.chains, c.in-Ok-rules_of-2.file.chains.accept) c.in-Ok-rules_of-2.ensures.read) c.in-Ok-rules_of-2.ensures.quiet c.in-Ok-rules_of-2.ensures.whole c.in-Ok-rules_of-2.ensures.kept c.in-Ok-rules_of-2.ensures.told c.in-Ok-rules_of-2.ensures.seen c.in-Ok-rules_of-2.ensures.skips) c.in-Err-plan_of-2.ensures.kept c.in-Err-plan_of-2.ensures.cause (c.in-Ok-rules_of-2.ensures.silent ∙ c.in-Ok.ensures.silent) c.in-Err-plan_of-2.ensures.noted

pub returns-in-Ok-capture_of-2-clause-all : goal.returns-in-Ok-capture_of-2-clause-all
returns-in-Ok-capture_of-2-clause-all g c =
    has-read (plain c.args.command) (ap (λ x. inputs (plain x)) c.in-Script.is ∙ ap (λ t. inputs (plain (asked.Script c.in-Script.script t c.in-Script.keep_going))) c.in-JudgeCapture.is)
    (up-to-more (record { name = c.in-JudgeCapture.packets.now; form = capture }) (up-to-more (record { name = c.in-JudgeCapture.plan.now; form = plan }) (up-to-more (record { name = c.in-JudgeCapture.rules.now; form = rules }) (up-to-more (record { name = c.in-Script.script.now; form = script }) (up-to-none (ruleset_names c.args.rulesets) (g.F.Shelf.told c.args.shelf.now) (g.F.Shelf.asked c.args.shelf.now) (g.F.Shelf.faults c.args.shelf.now) (g.F.Shelf.is_picked c.args.shelf.now) (g.F.Shelf.left c.args.shelf.now) c.in-Ok.script.schema _ _ c.requires.nothing c.requires.fresh)
    (as-script (seen (ruleset_names c.args.rulesets) (g.F.Shelf.told c.args.shelf.now)) c.in-Script.script.now c.in-Ok.script c.in-Ok.ensures.read) c.in-Ok.ensures.quiet c.in-Ok.ensures.whole c.in-Ok.ensures.kept c.in-Ok.ensures.told c.in-Ok.ensures.seen c.in-Ok.ensures.skips)
    (as-rules (seen (ruleset_names c.args.rulesets) (g.F.Shelf.told c.script_of.new.shelf)) c.in-JudgeCapture.rules.now c.in-Ok.script.schema (c.in-Ok-rules_of-2.file.chains.chains, c.in-Ok-rules_of-2.file.chains.accept) c.in-Ok-rules_of-2.ensures.read) c.in-Ok-rules_of-2.ensures.quiet c.in-Ok-rules_of-2.ensures.whole c.in-Ok-rules_of-2.ensures.kept c.in-Ok-rules_of-2.ensures.told c.in-Ok-rules_of-2.ensures.seen c.in-Ok-rules_of-2.ensures.skips)
    (as-plan (seen (ruleset_names c.args.rulesets) (g.F.Shelf.told c.rules_of-in-JudgeCapture.new.shelf)) c.in-JudgeCapture.plan.now c.in-Ok.script.schema c.in-Ok-plan_of-2.plan c.in-Ok-plan_of-2.ensures.read) c.in-Ok-plan_of-2.ensures.quiet c.in-Ok-plan_of-2.ensures.whole c.in-Ok-plan_of-2.ensures.kept c.in-Ok-plan_of-2.ensures.told c.in-Ok-plan_of-2.ensures.seen c.in-Ok-plan_of-2.ensures.skips)
    (as-capture (seen (ruleset_names c.args.rulesets) (g.F.Shelf.told c.plan_of-in-JudgeCapture.new.shelf)) c.in-JudgeCapture.packets.now c.in-Ok.script.schema c.in-Ok-capture_of-2.frames c.in-Ok-capture_of-2.ensures.read) c.in-Ok-capture_of-2.ensures.quiet c.in-Ok-capture_of-2.ensures.whole c.in-Ok-capture_of-2.ensures.kept c.in-Ok-capture_of-2.ensures.told c.in-Ok-capture_of-2.ensures.seen c.in-Ok-capture_of-2.ensures.skips)

pub returns-in-Script-clause-stops : goal.returns-in-Script-clause-stops
returns-in-Script-clause-stops g c =
    stops (plain c.args.command) (record { name = c.in-JudgeCapture.packets.now; form = capture }) [] c.in-Err-capture_of-2.fault (ap (λ x. inputs (plain x)) c.in-Script.is ∙ ap (λ t. inputs (plain (asked.Script c.in-Script.script t c.in-Script.keep_going))) c.in-JudgeCapture.is)
    (up-to-more (record { name = c.in-JudgeCapture.plan.now; form = plan }) (up-to-more (record { name = c.in-JudgeCapture.rules.now; form = rules }) (up-to-more (record { name = c.in-Script.script.now; form = script }) (up-to-none (ruleset_names c.args.rulesets) (g.F.Shelf.told c.args.shelf.now) (g.F.Shelf.asked c.args.shelf.now) (g.F.Shelf.faults c.args.shelf.now) (g.F.Shelf.is_picked c.args.shelf.now) (g.F.Shelf.left c.args.shelf.now) c.in-Ok.script.schema _ _ c.requires.nothing c.requires.fresh)
    (as-script (seen (ruleset_names c.args.rulesets) (g.F.Shelf.told c.args.shelf.now)) c.in-Script.script.now c.in-Ok.script c.in-Ok.ensures.read) c.in-Ok.ensures.quiet c.in-Ok.ensures.whole c.in-Ok.ensures.kept c.in-Ok.ensures.told c.in-Ok.ensures.seen c.in-Ok.ensures.skips)
    (as-rules (seen (ruleset_names c.args.rulesets) (g.F.Shelf.told c.script_of.new.shelf)) c.in-JudgeCapture.rules.now c.in-Ok.script.schema (c.in-Ok-rules_of-2.file.chains.chains, c.in-Ok-rules_of-2.file.chains.accept) c.in-Ok-rules_of-2.ensures.read) c.in-Ok-rules_of-2.ensures.quiet c.in-Ok-rules_of-2.ensures.whole c.in-Ok-rules_of-2.ensures.kept c.in-Ok-rules_of-2.ensures.told c.in-Ok-rules_of-2.ensures.seen c.in-Ok-rules_of-2.ensures.skips)
    (as-plan (seen (ruleset_names c.args.rulesets) (g.F.Shelf.told c.rules_of-in-JudgeCapture.new.shelf)) c.in-JudgeCapture.plan.now c.in-Ok.script.schema c.in-Ok-plan_of-2.plan c.in-Ok-plan_of-2.ensures.read) c.in-Ok-plan_of-2.ensures.quiet c.in-Ok-plan_of-2.ensures.whole c.in-Ok-plan_of-2.ensures.kept c.in-Ok-plan_of-2.ensures.told c.in-Ok-plan_of-2.ensures.seen c.in-Ok-plan_of-2.ensures.skips) c.in-Err-capture_of-2.ensures.kept (c.in-Err-capture_of-2.ensures.cause c.in-Ok.script.schema) (c.in-Ok-plan_of-2.ensures.silent ∙ c.in-Ok-rules_of-2.ensures.silent ∙ c.in-Ok.ensures.silent) (c.in-Err-capture_of-2.ensures.noted c.in-Ok.script.schema)

pub returns-in-Drill-clause-all : goal.returns-in-Drill-clause-all
returns-in-Drill-clause-all g c =
    has-read (plain c.args.command) (ap (λ x. inputs (plain x)) c.in-Drill.is) (up-to-none (ruleset_names c.args.rulesets) (g.F.Shelf.told c.args.shelf.now) (g.F.Shelf.asked c.args.shelf.now) (g.F.Shelf.faults c.args.shelf.now) (g.F.Shelf.is_picked c.args.shelf.now) (g.F.Shelf.left c.args.shelf.now) [] _ _ c.requires.nothing c.requires.fresh)

pub returns-in-Err-script_of-clause-stops : goal.returns-in-Err-script_of-clause-stops
returns-in-Err-script_of-clause-stops g c =
    stops (plain c.args.command) (record { name = c.in-Compare.first.now; form = script }) (record { name = c.in-Compare.second.now; form = second } ∷ []) c.in-Err-script_of.fault (ap (λ x. inputs (plain x)) c.in-Compare.is) (up-to-none (ruleset_names c.args.rulesets) (g.F.Shelf.told c.args.shelf.now) (g.F.Shelf.asked c.args.shelf.now) (g.F.Shelf.faults c.args.shelf.now) (g.F.Shelf.is_picked c.args.shelf.now) (g.F.Shelf.left c.args.shelf.now) [] _ _ c.requires.nothing c.requires.fresh) c.in-Err-script_of.ensures.kept (c.in-Err-script_of.ensures.cause []) refl (c.in-Err-script_of.ensures.noted [])

pub returns-in-Ok-second_script_of-clause-all : goal.returns-in-Ok-second_script_of-clause-all
returns-in-Ok-second_script_of-clause-all g c =
    has-read (plain c.args.command) (ap (λ x. inputs (plain x)) c.in-Compare.is)
    (up-to-more (record { name = c.in-Compare.second.now; form = second }) (up-to-more (record { name = c.in-Compare.first.now; form = script }) (up-to-none (ruleset_names c.args.rulesets) (g.F.Shelf.told c.args.shelf.now) (g.F.Shelf.asked c.args.shelf.now) (g.F.Shelf.faults c.args.shelf.now) (g.F.Shelf.is_picked c.args.shelf.now) (g.F.Shelf.left c.args.shelf.now) c.in-Ok-script_of.script.schema _ _ c.requires.nothing c.requires.fresh)
    (as-script (seen (ruleset_names c.args.rulesets) (g.F.Shelf.told c.args.shelf.now)) c.in-Compare.first.now c.in-Ok-script_of.script c.in-Ok-script_of.ensures.read) c.in-Ok-script_of.ensures.quiet c.in-Ok-script_of.ensures.whole c.in-Ok-script_of.ensures.kept c.in-Ok-script_of.ensures.told c.in-Ok-script_of.ensures.seen c.in-Ok-script_of.ensures.skips)
    (as-other (seen (ruleset_names c.args.rulesets) (g.F.Shelf.told c.script_of-in-Compare.new.shelf)) c.in-Compare.second.now c.in-Ok-script_of.script.schema c.in-Ok-second_script_of.second_script c.in-Ok-second_script_of.ensures.read) c.in-Ok-second_script_of.ensures.quiet c.in-Ok-second_script_of.ensures.whole c.in-Ok-second_script_of.ensures.kept c.in-Ok-second_script_of.ensures.told c.in-Ok-second_script_of.ensures.seen c.in-Ok-second_script_of.ensures.skips)

pub returns-in-Ok-sets_of-clause-all : goal.returns-in-Ok-sets_of-clause-all
returns-in-Ok-sets_of-clause-all g c =
    has-read (plain c.args.command) (ap (λ x. inputs (plain x)) c.in-Sets.is)
    (up-to-more (record { name = c.in-Sets.file.now; form = rules_of_nft }) (up-to-none (ruleset_names c.args.rulesets) (g.F.Shelf.told c.args.shelf.now) (g.F.Shelf.asked c.args.shelf.now) (g.F.Shelf.faults c.args.shelf.now) (g.F.Shelf.is_picked c.args.shelf.now) (g.F.Shelf.left c.args.shelf.now) [] _ _ c.requires.nothing c.requires.fresh)
    (as-ruleset (seen (ruleset_names c.args.rulesets) (g.F.Shelf.told c.args.shelf.now)) c.in-Sets.file.now [] c.in-Ok-sets_of.field-0.whole.items c.in-Ok-sets_of.field-0.sieved.text.items c.in-Ok-sets_of.field-0.sieved.skips c.in-Ok-sets_of.ensures.read) c.in-Ok-sets_of.ensures.quiet c.in-Ok-sets_of.ensures.whole c.in-Ok-sets_of.ensures.kept c.in-Ok-sets_of.ensures.told c.in-Ok-sets_of.ensures.seen c.in-Ok-sets_of.ensures.skips)

pub returns-clause-stops : goal.returns-clause-stops
returns-clause-stops g c =
    stops (plain c.args.command) (record { name = c.in-Sets.file.now; form = rules_of_nft }) [] c.in-Err-sets_of.fault (ap (λ x. inputs (plain x)) c.in-Sets.is) (up-to-none (ruleset_names c.args.rulesets) (g.F.Shelf.told c.args.shelf.now) (g.F.Shelf.asked c.args.shelf.now) (g.F.Shelf.faults c.args.shelf.now) (g.F.Shelf.is_picked c.args.shelf.now) (g.F.Shelf.left c.args.shelf.now) [] _ _ c.requires.nothing c.requires.fresh) c.in-Err-sets_of.ensures.kept (c.in-Err-sets_of.ensures.cause []) refl (c.in-Err-sets_of.ensures.noted [])

pub returns-in-Compare-clause-stops : goal.returns-in-Compare-clause-stops
returns-in-Compare-clause-stops g c =
    stops (plain c.args.command) (record { name = c.in-Compare.second.now; form = second }) [] c.in-Err-second_script_of.fault (ap (λ x. inputs (plain x)) c.in-Compare.is)
    (up-to-more (record { name = c.in-Compare.first.now; form = script }) (up-to-none (ruleset_names c.args.rulesets) (g.F.Shelf.told c.args.shelf.now) (g.F.Shelf.asked c.args.shelf.now) (g.F.Shelf.faults c.args.shelf.now) (g.F.Shelf.is_picked c.args.shelf.now) (g.F.Shelf.left c.args.shelf.now) c.in-Ok-script_of.script.schema _ _ c.requires.nothing c.requires.fresh)
    (as-script (seen (ruleset_names c.args.rulesets) (g.F.Shelf.told c.args.shelf.now)) c.in-Compare.first.now c.in-Ok-script_of.script c.in-Ok-script_of.ensures.read) c.in-Ok-script_of.ensures.quiet c.in-Ok-script_of.ensures.whole c.in-Ok-script_of.ensures.kept c.in-Ok-script_of.ensures.told c.in-Ok-script_of.ensures.seen c.in-Ok-script_of.ensures.skips) c.in-Err-second_script_of.ensures.kept (c.in-Err-second_script_of.ensures.cause c.in-Ok-script_of.script.schema) c.in-Ok-script_of.ensures.silent (c.in-Err-second_script_of.ensures.noted c.in-Ok-script_of.script.schema)

pub returns-in-Ok-keys_of-2-clause-work : goal.returns-in-Ok-keys_of-2-clause-work
returns-in-Ok-keys_of-2-clause-work g c =
    let after = λ (other : List ℕ). c.in-Ok-rules_of.ensures.seen other ∙ c.in-Ok.ensures.seen other in (
      c.in-Script.script.now,
      c.in-Judge.keys.now,
      ap plain c.in-Script.is ∙ ap (λ t. plain (asked.Script c.in-Script.script t c.in-Script.keep_going)) c.in-Judge.is ∙ ap (λ (n : Bor (List ℕ)). judge c.in-Script.script.now n.now c.in-Judge.keys.now c.in-Judge.threads c.in-Script.keep_going) (sym c.in-Ok-rules_of.ensures.name),
      c.in-Ok.ensures.read,
      rules-file (seen (ruleset_names c.args.rulesets) (g.F.Shelf.told c.script_of.new.shelf)) (seen (ruleset_names c.args.rulesets) (g.F.Shelf.told c.args.shelf.now)) c.in-Ok.script.schema c.in-Ok-rules_of.file c.in-Judge.rules c.in-Ok-rules_of.ensures.name c.in-Ok.ensures.seen c.in-Ok-rules_of.ensures.read c.in-Ok-rules_of.ensures.text,
      read-after (seen (ruleset_names c.args.rulesets) (g.F.Shelf.told c.rules_of.new.shelf)) (seen (ruleset_names c.args.rulesets) (g.F.Shelf.told c.args.shelf.now)) c.in-Judge.keys.now _ after c.in-Ok-keys_of-2.ensures.read,
    )

pub returns-in-Ok-capture_of-2-clause-work : goal.returns-in-Ok-capture_of-2-clause-work
returns-in-Ok-capture_of-2-clause-work g c =
    let after = λ (other : List ℕ). c.in-Ok-rules_of-2.ensures.seen other ∙ c.in-Ok.ensures.seen other in
    let last = λ (other : List ℕ). c.in-Ok-plan_of-2.ensures.seen other ∙ c.in-Ok-rules_of-2.ensures.seen other ∙ c.in-Ok.ensures.seen other in (
      c.in-Script.script.now,
      c.in-JudgeCapture.plan.now,
      c.in-JudgeCapture.packets.now,
      ap plain c.in-Script.is ∙ ap (λ t. plain (asked.Script c.in-Script.script t c.in-Script.keep_going)) c.in-JudgeCapture.is ∙ ap (λ (n : Bor (List ℕ)). judge_capture c.in-Script.script.now n.now c.in-JudgeCapture.plan.now c.in-JudgeCapture.packets.now c.in-JudgeCapture.threads c.in-Script.keep_going) (sym c.in-Ok-rules_of-2.ensures.name),
      c.in-Ok.ensures.read,
      rules-file (seen (ruleset_names c.args.rulesets) (g.F.Shelf.told c.script_of.new.shelf)) (seen (ruleset_names c.args.rulesets) (g.F.Shelf.told c.args.shelf.now)) c.in-Ok.script.schema c.in-Ok-rules_of-2.file c.in-JudgeCapture.rules c.in-Ok-rules_of-2.ensures.name c.in-Ok.ensures.seen c.in-Ok-rules_of-2.ensures.read c.in-Ok-rules_of-2.ensures.text,
      read-after (seen (ruleset_names c.args.rulesets) (g.F.Shelf.told c.rules_of-in-JudgeCapture.new.shelf)) (seen (ruleset_names c.args.rulesets) (g.F.Shelf.told c.args.shelf.now)) c.in-JudgeCapture.plan.now _ after c.in-Ok-plan_of-2.ensures.read,
      read-after (seen (ruleset_names c.args.rulesets) (g.F.Shelf.told c.plan_of-in-JudgeCapture.new.shelf)) (seen (ruleset_names c.args.rulesets) (g.F.Shelf.told c.args.shelf.now)) c.in-JudgeCapture.packets.now _ last c.in-Ok-capture_of-2.ensures.read,
    )
