-- The scripts that texts mean.
use Rattle.std.specs.Prelude.{ℕ, List}
use Rattle.set_model.specs.declared.script.Script.{Script}
use Rattle.token_forms.specs.TextTokens.{text_tokens}
use Rattle.set_script.specs.Script.{script}

-- The text is a script, and this is what it means. A text means one script at most.
unfoldable pub IsScriptText : List ℕ → Script → Type 0
IsScriptText text s = script.whole (text_tokens text) s
