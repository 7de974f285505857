-- The key files that texts mean.
use Rattle.std.specs.Prelude.{ℕ, List}
use Rattle.set_model.specs.declared.script.SetDecl.{SetDecl}
use Rattle.set_model.specs.declared.packet.Packet.{Packet}
use Rattle.token_forms.specs.TextTokens.{text_tokens}
use Rattle.key_file.specs.Keys.{key_file}

-- The text is a key file for the sets of this schema, and these are its packets, section by section.
-- The first section is section 1, and a key file has it even without packets. A text means at most one
-- key file.
unfoldable pub IsKeysText : List SetDecl → List ℕ → List (List Packet) → Type 0
IsKeysText schema text keys = (key_file schema).whole (text_tokens text) keys
