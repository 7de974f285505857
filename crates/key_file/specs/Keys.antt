-- The key file: the table of its forms.
use Rattle.std.specs.Prelude.{ℕ, List, [], ◌∷◌, ◌++◌, Bool, true, Option, Some, None, codes, slice_get}
use Rattle.set_model.specs.declared.kind.Kind.{Kind}
use Rattle.set_model.specs.declared.script.Family.{Family}
use Rattle.set_model.specs.declared.script.Family.TheVariants as families
use Rattle.set_model.specs.declared.script.SetDecl.{SetDecl}
use Rattle.set_model.specs.declared.packet.Packet.{Packet}
use Rattle.token_forms.specs.declared.token.Reason.TheVariants as reasons
use Rattle.key_file.specs.declared.draft.KeyDraft.{KeyDraft}
use Rattle.key_file.specs.declared.draft.KeyWord.{KeyWord}
use Rattle.key_file.specs.declared.draft.KeyWord.TheVariants as keys
use Rattle.key_file.specs.declared.draft.AtWord.{AtWord}
use Rattle.key_file.specs.declared.draft.AtWord.TheVariants as ats
use Rattle.key_file.specs.KeyNames.{key_word_of, at_of}
use Rattle.addr_text.specs.Values.{IsValue}
use Rattle.token_forms.specs.Form.{Form, done, nowhere, either_form, many, ◌>>=◌, ◌>>◌}
use Rattle.token_forms.specs.Words.{word, word_by, word_is, name, the_end, breaks_off, line}
use Rattle.set_script.specs.Script.{used_set}

abbrev pub no_keys : KeyDraft
no_keys = record { sections = []; packets = []; moment = 0 }

-- one value
abbrev pub value : Kind → Form ℕ
value kind = word_is (reasons.Value ∷ []) (IsValue kind)

-- the word `.` and the next value, for each of these kinds
abbrev pub more_values : List Kind → List ℕ → Form (List ℕ)
more_values [] key = done key
more_values (kind ∷ kinds) key = do
  word (codes ".")
  v ← value kind
  more_values kinds (key ++ v ∷ [])

-- one value for each kind
abbrev pub all_values : List Kind → Form (List ℕ)
all_values [] = nowhere
all_values (kind ∷ kinds) = do
  v ← value kind
  more_values kinds (v ∷ [])

-- one more packet, at the moment of its line
abbrev pub with_packet : KeyDraft → ℕ → List ℕ → KeyDraft
with_packet d set key = record d { packets = d.packets ++ record { set = set; key = key; now = d.moment } ∷ [] }

-- The next section begins. The moment stays the same.
abbrev pub next_section : KeyDraft → KeyDraft
next_section d = record d { sections = d.sections ++ d.packets ∷ []; packets = [] }

abbrev pub packet_of : KeyDraft → ℕ → Option SetDecl → Form KeyDraft
packet_of d i None = nowhere
packet_of d i (Some s) = do
  key ← all_values s.kinds
  done (with_packet d i key)

-- a packet of the declared set at a place
abbrev pub packet_at : List SetDecl → KeyDraft → ℕ → Form KeyDraft
packet_at schema d i = packet_of d i (slice_get schema i)

-- the name of a set of this table, and a packet of it
abbrev pub packet : List SetDecl → KeyDraft → Family × List ℕ → Form KeyDraft
packet schema d p = do
  i ← used_set schema p
  packet_at schema d i

abbrev pub at_behind : List SetDecl → KeyDraft → AtWord → Form KeyDraft
at_behind schema d (ats.Moment n) = done (record d { moment = n })
at_behind schema d (ats.Set i) = packet_at schema d i

-- After `round`: a packet of a set of the table `round`, or nothing. If nothing follows, the next
-- section begins.
abbrev pub round_behind : List SetDecl → KeyDraft → List ℕ → Form KeyDraft
round_behind schema d w = either_form (packet schema d (families.Ip, w)) (done (next_section d))

-- the rest of a line after its first word
abbrev pub line_behind : List SetDecl → KeyDraft → List ℕ → KeyWord → Form KeyDraft
line_behind schema d w (keys.Family family) = do
  table ← name
  packet schema d (family, table)
line_behind schema d w keys.At = do
  a ← word_by (reasons.Moment ∷ reasons.Set ∷ []) (λ t. at_of schema t.bytes)
  at_behind schema d a
line_behind schema d w keys.Round = round_behind schema d w
line_behind schema d w keys.Table = packet schema d (families.Ip, w)

abbrev pub key_line : List SetDecl → KeyDraft → Form KeyDraft
key_line schema d = do
  w ← name
  line_behind schema d w (key_word_of w)

-- lines with breaks between them, and any number of breaks before the first and after the last
abbrev pub key_lines : List SetDecl → Form (KeyDraft × Bool)
key_lines schema = many (line breaks_off (key_line schema)) (no_keys, true)

-- The packets of all sections. A file without a line has the first section, too.
abbrev pub body : List SetDecl → Form (List (List Packet))
body schema = do
  s ← key_lines schema
  done ((next_section s.0).sections)

abbrev pub key_file : List SetDecl → Form (List (List Packet))
key_file schema = do
  keys ← body schema
  the_end
  done keys
