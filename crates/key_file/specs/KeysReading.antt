-- Reading a key file from left to right, along the table of its forms.
use Rattle.std.specs.Prelude.{ℕ, List, [], ◌∷◌, ◌++◌, Bool, true, Option, Some, None, codes, slice_get}
use Rattle.set_model.specs.declared.kind.Kind.{Kind}
use Rattle.set_model.specs.declared.script.Family.{Family}
use Rattle.set_model.specs.declared.script.Family.TheVariants as families
use Rattle.set_model.specs.declared.script.SetDecl.{SetDecl}
use Rattle.set_model.specs.declared.packet.Packet.{Packet}
use Rattle.token_forms.specs.declared.token.Reason.TheVariants as reasons
use Rattle.key_file.specs.declared.draft.KeyDraft.{KeyDraft}
use Rattle.key_file.specs.declared.draft.KeyWord.{KeyWord}
use Rattle.key_file.specs.declared.draft.KeyWord.TheVariants as keys
use Rattle.key_file.specs.declared.draft.AtWord.{AtWord}
use Rattle.key_file.specs.declared.draft.AtWord.TheVariants as ats
use Rattle.key_file.specs.KeyNames.{key_word_of, at_of}
use Rattle.addr_text.specs.ValuesRead.{value_of}
use Rattle.token_forms.specs.Reading.{done_read as done, nowhere_read as nowhere, either_read, ◌>>=◌, ◌>>◌}
use Rattle.token_forms.specs.Words.{any_word, breaks_off}
use Rattle.token_forms.specs.WordReading.{Reading, word, word_by, name, the_end, line, line_starts, many}
use Rattle.set_script.specs.ScriptReading.{used_set}
use Rattle.key_file.specs.Keys.{no_keys, with_packet, next_section}

abbrev pub value : Kind → Reading ℕ
value kind = word_by (reasons.Value ∷ []) (λ t. value_of kind t.bytes)

unfoldable pub more_values : List Kind → List ℕ → Reading (List ℕ)
more_values [] key = done key
more_values (kind ∷ kinds) key = do
  word (codes ".")
  v ← value kind
  more_values kinds (key ++ v ∷ [])

abbrev pub some_values : Kind → List Kind → Reading (List ℕ)
some_values kind kinds = do
  v ← value kind
  more_values kinds (v ∷ [])

unfoldable pub all_values : List Kind → Reading (List ℕ)
all_values [] = nowhere
all_values (kind ∷ kinds) = some_values kind kinds

unfoldable pub packet_of : KeyDraft → ℕ → Option SetDecl → Reading KeyDraft
packet_of d i None = nowhere
packet_of d i (Some s) = do
  key ← all_values s.kinds
  done (with_packet d i key)

abbrev pub packet_at : List SetDecl → KeyDraft → ℕ → Reading KeyDraft
packet_at schema d i = packet_of d i (slice_get schema i)

unfoldable pub packet : List SetDecl → KeyDraft → Family × List ℕ → Reading KeyDraft
packet schema d p = do
  i ← used_set schema p
  packet_at schema d i

abbrev pub at_word : List SetDecl → Reading AtWord
at_word schema = word_by (reasons.Moment ∷ reasons.Set ∷ []) (λ t. at_of schema t.bytes)

unfoldable pub at_behind : List SetDecl → KeyDraft → AtWord → Reading KeyDraft
at_behind schema d (ats.Moment n) = done (record d { moment = n })
at_behind schema d (ats.Set i) = packet_at schema d i

unfoldable pub round_behind : List SetDecl → KeyDraft → List ℕ → Reading KeyDraft
round_behind schema d w = either_read any_word (packet schema d (families.Ip, w)) (done (next_section d))

unfoldable pub line_behind : List SetDecl → KeyDraft → List ℕ → KeyWord → Reading KeyDraft
line_behind schema d w (keys.Family family) = do
  table ← name
  packet schema d (family, table)
line_behind schema d w keys.At = do
  a ← at_word schema
  at_behind schema d a
line_behind schema d w keys.Round = round_behind schema d w
line_behind schema d w keys.Table = packet schema d (families.Ip, w)

unfoldable pub key_line : List SetDecl → KeyDraft → Reading KeyDraft
key_line schema d = do
  w ← name
  line_behind schema d w (key_word_of w)

abbrev pub line_or_break : List SetDecl → KeyDraft × Bool → Reading (KeyDraft × Bool)
line_or_break schema = line breaks_off (key_line schema)

abbrev pub key_lines : List SetDecl → Reading (KeyDraft × Bool)
key_lines schema = many (line_starts breaks_off any_word) (line_or_break schema) (no_keys, true)

unfoldable pub body : List SetDecl → Reading (List (List Packet))
body schema = do
  s ← key_lines schema
  done ((next_section s.0).sections)

unfoldable pub key_file : List SetDecl → Reading (List (List Packet))
key_file schema = do
  keys ← body schema
  the_end
  done keys
