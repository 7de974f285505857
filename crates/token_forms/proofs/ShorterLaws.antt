-- A form that isn't empty takes a token.
use Rattle.std.proofs.Common.{◌<◌, List, length, Bool, Result, Ok, Err, OnOk}
use Rattle.token_forms.specs.Token.{Lexeme}
use Rattle.token_forms.specs.Form.{Form}
use Rattle.token_forms.specs.Reading.{Outcome}
use Rattle.token_forms.specs.declared.error.ReadError.{ReadError}
use Rattle.token_forms.specs.Gives.{Gives}
use Rattle.token_forms.proofs.FormLaws.{Reads, Begins, reads_shorter}

pub gives_shorter : {A X : Type 0} {f : Form A} {more : A → Lexeme → Bool} {test : Lexeme → Bool} {r : List Lexeme → Outcome A} → Reads f more r → Begins f test → (view : X → A) (result : Result X ReadError) (old new : List Lexeme)
    → Gives view result new (r old) → OnOk result (length new < length old)
gives_shorter law begins view (Ok x) old new g = reads_shorter law (record { empty = λ a w. begins.filled a w }) old new (view x) g
gives_shorter law begins view (Err e) old new g = tt
