use Rattle.std.proofs.Common.{refl, ap, Err, subst, ℕ, List}
use Rattle.token_forms.specs.TextTokens.{text_tokens}
use Rattle.token_forms.specs.Faults.{IsFault}
use Rattle.set_script.specs.Script.{script as script_form}
use Rattle.ruleset_sets.proofs.KeptLaws.{refused}
use Rattle.input_files.specs.declared.fault.Flaw.TheVariants as flaws
use Rattle.input_files.specs.Inputs.{rules_of_nft}
use Rattle.input_files.specs.Seen.{ruleset_names, seen}
use Rattle.input_files.proofs.Reading.{bad-cause, sets-read}
use Rattle.input_files.proofs.Telling.{ruleset-note}
use Rattle.fault_notes.proofs.ToldLaws.{may_tell}
use Rattle.input_files.proofs.rulesets.sets_of.Goals as goal

pub returns-in-Err-clause-cause : goal.returns-in-Err-clause-cause
returns-in-Err-clause-cause g c = λ sets. c.in-Err.ensures.cause sets (record { name = c.args.name.now; form = rules_of_nft }) refl

pub returns-in-Ok-read_script-clause-read : goal.returns-in-Ok-read_script-clause-read
returns-in-Ok-read_script-clause-read g c =
    sets-read (seen (ruleset_names c.args.rulesets) (g.F.Shelf.told c.args.shelf.now)) c.args.name.now c.in-Ok.whole.items c.as_slice.result.now c.in-Ok-sieve_ruleset.sieved.text.items c.as_slice-bytes.result.now c.in-Ok-sieve_ruleset.sieved.skips c.in-Ok-read_script.field-0
    c.in-Ok.ensures.bytes c.in-Ok.ensures.limit c.as_slice.ensures.value c.in-Ok-sieve_ruleset.ensures.text c.in-Ok-sieve_ruleset.ensures.skips c.as_slice-bytes.ensures.value c.in-Ok-read_script.ensures.found

pub returns-in-Err-Bad-clause-cause : goal.returns-in-Err-Bad-clause-cause
returns-in-Err-Bad-clause-cause g c =
    λ sets. bad-cause (seen (ruleset_names c.args.rulesets) (g.F.Shelf.told c.args.shelf.now)) (g.F.Shelf.asked c.args.shelf.now) (g.F.Shelf.asked c.text_of.new.shelf) (g.F.Shelf.faults c.args.shelf.now) (g.F.Shelf.faults c.text_of.new.shelf) sets (record { name = c.args.name.now; form = rules_of_nft })
    (flaws.Ruleset c.in-Err-Bad.line c.in-Err-Bad.reason) c.in-Ok.whole.items c.as_slice.result.now c.in-Ok.ensures.quiet refl c.in-Ok.ensures.bytes c.in-Ok.ensures.limit c.as_slice.ensures.value
    (refused c.as_slice.result.now c.in-Ok-sieve_ruleset.sieved.text.items c.in-Err-Bad.line c.in-Err-Bad.reason c.in-Ok-sieve_ruleset.ensures.text
    (subst (λ (t : List ℕ). IsFault script_form (text_tokens t) c.in-Err-Bad.line c.in-Err-Bad.reason) c.as_slice-bytes.ensures.value (c.in-Err-Bad.ensures.bad c.in-Err-Bad.line c.in-Err-Bad.reason (ap Err c.in-Err-Bad.field-0-is))))

pub returns-in-Err-Bad-clause-noted : goal.returns-in-Err-Bad-clause-noted
returns-in-Err-Bad-clause-noted g c =
    λ sets. ruleset-note (seen (ruleset_names c.args.rulesets) (g.F.Shelf.told c.args.shelf.now)) c.args.name.now c.in-Ok.whole.items c.as_slice.result.now c.in-Ok-sieve_ruleset.sieved.text.items c.as_slice-bytes.result.now c.bad_token-found.result _ _ _
    c.in-Ok.ensures.bytes c.as_slice.ensures.value c.in-Ok-sieve_ruleset.ensures.text c.as_slice-bytes.ensures.value c.bad_token-found.ensures c.in-Ok.ensures.silent (may_tell c.tell_script.ensures)
