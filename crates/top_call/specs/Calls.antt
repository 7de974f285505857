-- A call of the program, as its outside shows it.
use Rattle.std.specs.Prelude.{ℕ, List, Option}
use Rattle.pip_base.specs.Causes.{Rose}
use Rattle.command_words.specs.declared.form.AnswerForm.{AnswerForm}
use Rattle.input_files.specs.Reads.{Shelved}

-- The words, without the options of forms; the form of the answer that they ask for; what the shelf shows; what the sink took and how often it failed, before and after the call; the notes
-- before and after the call; and the status. A sink or notes may show nothing of what they took.
pub record Call : Type 1 where
  pub words : List (List ℕ)
  pub answer : AnswerForm
  pub shelf : Shelved
  pub taken_before : Option (List ℕ)
  pub taken_now : Option (List ℕ)
  pub faults_before : ℕ
  pub faults_now : ℕ
  pub noted_before : Option (List ℕ)
  pub noted_now : Option (List ℕ)
  pub status : ℕ

-- Nothing failed outside: neither the shelf's count of faults nor the sink's rose.
pub record IsQuiet (c : Call) : Type 0 where
  pub shelf : Rose c.shelf.faults_before c.shelf.faults_now → ⊥
  pub sink : Rose c.faults_before c.faults_now → ⊥
