-- The key that words ask for, as one line of a key file.
use Rattle.std.specs.Prelude.{◌≡◌, ◌⊎◌, ℕ, List, [], ◌∷◌, ◌++◌, flat_map, codes, Option, unwrap_or}
use Rattle.set_model.specs.declared.packet.Packet.{Packet}
use Rattle.set_model.specs.declared.script.Script.{Script}
use Rattle.set_model.specs.declared.script.SetDecl.{SetDecl}
use Rattle.token_forms.specs.declared.token.Reason.{Reason}
use Rattle.token_forms.specs.declared.token.Reason.TheVariants as reasons
use Rattle.token_forms.specs.Faults.{IsFault}
use Rattle.token_forms.specs.TextTokens.{text_tokens}
use Rattle.key_file.specs.Keys.{key_file}
use Rattle.key_file.specs.KeysText.{IsKeysText}

-- the words as one text, with a blank after each
abbrev pub key_text : List (List ℕ) → List ℕ
key_text words = flat_map (λ word. word ++ codes " ") words

-- The words are one key: a key file with this packet and nothing else.
abbrev pub IsKey : List SetDecl → List (List ℕ) → Packet → Type 0
IsKey schema words packet = IsKeysText schema (key_text words) ((packet ∷ []) ∷ [])

-- The packet at a moment, or at the script's last moment if none is given.
abbrev pub at_moment : Option ℕ → Script → Packet → Packet
at_moment moment script packet = record packet { now = unwrap_or moment script.last }

-- The words are a key file, but not of one packet: they say `at` or `round`, or nothing.
pub record IsNoPacket (schema : List SetDecl) (words : List (List ℕ)) : Type 0 where
  pub packets : List (List Packet)
  pub is_text : IsKeysText schema (key_text words) packets
  pub other : (packet : Packet) → packets ≡ (packet ∷ []) ∷ [] → ⊥

-- The words are no key. Their bad token as a key file is in this line and has this reason. If they are a key file
-- without one packet, the line is 1 and the reason `statement`.
abbrev pub IsBadKey : List SetDecl → List (List ℕ) → ℕ → Reason → Type 0
IsBadKey schema words line reason = IsFault (key_file schema) (text_tokens (key_text words)) line reason ⊎ (IsNoPacket schema words × (line ≡ 1) × (reason ≡ reasons.Statement))
