-- What a rules file has, and what was read of files after others.
use Rattle.std.specs.Borrow.{Bor}
use Rattle.std.proofs.Common.{◌≡◌, sym, ◌∙◌, ap, ℕ, List, Option, Some}
use Rattle.set_model.specs.declared.script.SetDecl.{SetDecl}
use Rattle.rule_chain.specs.RulesText.{IsRulesText}
use Rattle.input_files.specs.declared.files.RulesFile.{RulesFile}
use Rattle.input_files.specs.Inputs.{ReadsAs}
use Rattle.input_files.specs.Works.{IsRulesFile}

-- A file that was read after others is one of those that were seen before them.
pub read-after : (mid told : List ℕ → Option (List ℕ)) (name : List ℕ) (Holds : List ℕ → Type 0) → ((other : List ℕ) → mid other ≡ told other) → ReadsAs mid name Holds → ReadsAs told name Holds
read-after mid told name Holds same read = λ text at. read text (same name ∙ at)

pub rules-file : (mid told : List ℕ → Option (List ℕ)) (sets : List SetDecl) (file : RulesFile) (name : Bor (List ℕ)) → file.name ≡ name → ((other : List ℕ) → mid other ≡ told other) → ReadsAs mid name.now (λ text. IsRulesText sets text (file.chains.chains, file.chains.accept))
    → ((text : List ℕ) → mid name.now ≡ Some text → file.text.items ≡ text) → IsRulesFile told sets file
rules-file mid told sets file name is same read kept = record {
  read = λ text at. read text (same name.now ∙ ap (λ (n : Bor (List ℕ)). told n.now) (sym is) ∙ at);
  is_text = λ text at. kept text (same name.now ∙ ap (λ (n : Bor (List ℕ)). told n.now) (sym is) ∙ at);
}
