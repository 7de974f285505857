-- Laws on the fronts and the refusals of every grammar.
use Rattle.std.specs.Prelude.{◌≡◌, ℕ, List, ◌++◌}
use Rattle.token_forms.specs.declared.token.Reason.{Reason}
use Rattle.token_forms.specs.Token.{Lexeme}
use Rattle.token_forms.specs.Form.{Form}
use Rattle.token_forms.specs.Faults.{IsFault}

-- If a list is a front, so are the tokens before any place of it. So a text has only one token with
-- which a front stops being one.
abbrev pub AreFrontsClosed : {A : Type 0} → Form A → Type 0
AreFrontsClosed f = (x y : List Lexeme) → f.front (x ++ y) → f.front x

-- Tokens outside the form are refused at one line and for one reason.
abbrev pub IsRefusedOnce : {A : Type 0} → Form A → List Lexeme → Type 0
IsRefusedOnce f ts = (line other : ℕ) (reason why : Reason) → IsFault f ts line reason → IsFault f ts other why → (line ≡ other) × (reason ≡ why)
