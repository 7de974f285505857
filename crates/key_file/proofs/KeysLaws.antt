-- Reading a key file gives what the table of its forms says.
use Rattle.std.proofs.Common.{◌≡◌, sym, subst, ℕ, ◌<◌, List, [], ◌∷◌, ◌++◌, length, Bool, true, Option, Some, None, codes, slice_get, Result, Ok, Err, OnOk, IfOk}
use Rattle.set_model.specs.declared.kind.Kind.{Kind}
use Rattle.set_model.specs.declared.script.SetDecl.{SetDecl}
use Rattle.set_model.specs.declared.packet.Packet.{Packet}
use Rattle.token_forms.specs.declared.token.Reason.{Reason}
use Rattle.token_forms.specs.declared.token.Reason.TheVariants as reasons
use Rattle.token_forms.specs.declared.error.ReadError.{ReadError}
use Rattle.token_forms.specs.declared.error.ReadError.TheVariants as errors
use Rattle.token_forms.specs.Token.{Lexeme}
use Rattle.token_forms.specs.Form.{Form}
use Rattle.token_forms.specs.Reading.{Outcome}
use Rattle.token_forms.specs.Words.{any_word, breaks_off}
use Rattle.token_forms.specs.Gives.{Gives}
use Rattle.token_forms.specs.TextTokens.{text_tokens}
use Rattle.token_forms.specs.BadTokens.{IsBadTokenOf}
use Rattle.token_forms.proofs.BadTokenLaws.{IsRefusedAt}
use Rattle.token_forms.proofs.FormLaws.{Reads, Begins, never, weaken, bind_definite, bind_begins, done_reads, nowhere_reads, either_test}
use Rattle.token_forms.proofs.EitherLaw.{maybe_reads}
use Rattle.token_forms.proofs.ManyLaw.{many_reads}
use Rattle.addr_text.specs.Values.{IsValue}
use Rattle.addr_text.specs.ValuesRead.{value_of}
use Rattle.addr_text.proofs.ValueLaws.{value_of_sound, value_of_complete}
use Rattle.token_forms.proofs.ShorterLaws.{gives_shorter}
use Rattle.token_forms.proofs.WordLaws.{TextDecides, word_is_reads, word_reads, breaks_no_end, bind_done_same, AreStatements, are_lines, word_by_reads, word_by_begins, name_reads}
use Rattle.token_forms.proofs.KindLaws.{word_no_break, break_no_word, end_no_break_line}
use Rattle.token_forms.proofs.WholeLaws.{Ends, text_answer}
use Rattle.token_forms.proofs.EndsLaw.{text_ends}
use Rattle.token_forms.proofs.AnswerLaws.{TextGives, text_gives, text_single}
use Rattle.set_script.proofs.ScriptLaws.{used_set_reads}
use Rattle.set_script.specs.Names.{set_place}
use Rattle.set_model.specs.declared.script.Family.{Family}
use Rattle.set_model.specs.declared.script.Family.TheVariants as families
use Rattle.token_forms.specs.Words.{name_value}
use Rattle.key_file.specs.declared.draft.KeyDraft.{KeyDraft}
use Rattle.key_file.specs.declared.draft.KeyWord.{KeyWord}
use Rattle.key_file.specs.declared.draft.KeyWord.TheVariants as keys
use Rattle.key_file.specs.declared.draft.AtWord.{AtWord}
use Rattle.key_file.specs.declared.draft.AtWord.TheVariants as ats
use Rattle.key_file.specs.KeyNames.{key_word_of}
use Rattle.key_file.specs.Keys.{no_keys, next_section}
use Rattle.key_file.specs.Keys as form
use Rattle.key_file.specs.KeysText.{IsKeysText}
use Rattle.key_file.specs.KeysReading as reading

value_decides : (kind : Kind) → TextDecides (IsValue kind) (value_of kind)
value_decides kind = record { sound = value_of_sound kind; complete = value_of_complete kind }

value_reads : (kind : Kind) → Reads (form.value kind) never (reading.value kind)
value_reads kind = word_is_reads (reasons.Value ∷ []) (value_decides kind)

more_values_reads : (ks : List Kind) (key : List ℕ) → Reads (form.more_values ks key) never (reading.more_values ks key)
unfolding reading.more_values
more_values_reads [] key = done_reads key
more_values_reads (kind ∷ ks) key = bind_definite (word_reads (codes ".")) (λ _. bind_definite (value_reads kind) (λ v. more_values_reads ks (key ++ v ∷ [])))

all_values_reads : (ks : List Kind) → Reads (form.all_values ks) never (reading.all_values ks)
unfolding reading.all_values
all_values_reads [] = nowhere_reads
all_values_reads (kind ∷ ks) = bind_definite (value_reads kind) (λ v. more_values_reads ks (v ∷ []))

packet_of_reads : (d : KeyDraft) (i : ℕ) (s : Option SetDecl) → Reads (form.packet_of d i s) never (reading.packet_of d i s)
unfolding reading.packet_of
packet_of_reads d i None = nowhere_reads
packet_of_reads d i (Some s) = bind_definite (all_values_reads s.kinds) (λ key. done_reads _)

packet_at_reads : (schema : List SetDecl) (d : KeyDraft) (i : ℕ) → Reads (form.packet_at schema d i) never (reading.packet_at schema d i)
packet_at_reads schema d i = packet_of_reads d i (slice_get schema i)

packet_reads : (schema : List SetDecl) (d : KeyDraft) (p : Family × List ℕ) → Reads (form.packet schema d p) never (reading.packet schema d p)
unfolding reading.packet
packet_reads schema d p = bind_definite (used_set_reads schema p) (λ i. packet_at_reads schema d i)

packet_begins : (schema : List SetDecl) (d : KeyDraft) (p : Family × List ℕ) → Begins (form.packet schema d p) any_word
packet_begins schema d p = bind_begins (used_set_reads schema p) (word_by_begins (reasons.Set ∷ []) (λ t. set_place schema p.0 p.1 t.bytes))

at_behind_reads : (schema : List SetDecl) (d : KeyDraft) (a : AtWord) → Reads (form.at_behind schema d a) never (reading.at_behind schema d a)
unfolding reading.at_behind
at_behind_reads schema d (ats.Moment n) = done_reads _
at_behind_reads schema d (ats.Set i) = packet_at_reads schema d i

-- any word goes on with `round` alone
abbrev goes : {A : Type 0} → A → Lexeme → Bool
goes a t = any_word t

definite_goes : {A : Type 0} {f : Form A} {r : List Lexeme → Outcome A} → Reads f never r → Reads f goes r
definite_goes law = weaken goes (λ a t h. absurd (cc h)) law

round_behind_reads : (schema : List SetDecl) (d : KeyDraft) (w : List ℕ) → Reads (form.round_behind schema d w) goes (reading.round_behind schema d w)
unfolding reading.round_behind
round_behind_reads schema d w =
    maybe_reads (next_section d) (definite_goes (packet_reads schema d (families.Ip, w))) (packet_begins schema d (families.Ip, w)) (λ t h. h)

line_behind_reads : (schema : List SetDecl) (d : KeyDraft) (w : List ℕ) (k : KeyWord) → Reads (form.line_behind schema d w k) goes (reading.line_behind schema d w k)
unfolding reading.line_behind
line_behind_reads schema d w (keys.Family family) = definite_goes (bind_definite name_reads (λ table. packet_reads schema d (family, table)))
line_behind_reads schema d w keys.At = definite_goes (bind_definite (word_by_reads (reasons.Moment ∷ reasons.Set ∷ []) _) (λ a. at_behind_reads schema d a))
line_behind_reads schema d w keys.Round = round_behind_reads schema d w
line_behind_reads schema d w keys.Table = definite_goes (packet_reads schema d (families.Ip, w))

key_line_reads : (schema : List SetDecl) (d : KeyDraft) → Reads (form.key_line schema d) goes (reading.key_line schema d)
unfolding reading.key_line
key_line_reads schema d = bind_definite name_reads (λ w. line_behind_reads schema d w (key_word_of w))

are_lines_of : (schema : List SetDecl) → AreStatements breaks_off any_word any_word (λ _. goes) (form.key_line schema) (reading.key_line schema)
are_lines_of schema = record {
  no_end = breaks_no_end;
  laws = key_line_reads schema;
  begins = λ d. bind_begins name_reads (word_by_begins [] name_value);
  apart = word_no_break;
  ends = λ s s1 t h. break_no_word t h;
  starts_more = λ t h. h;
  goes_more = λ s s1 t h. h;
}

key_lines_reads : (schema : List SetDecl) → Reads (form.key_lines schema) (λ _. either_test breaks_off any_word) (reading.key_lines schema)
key_lines_reads schema = many_reads _ _ _ _ _ (are_lines breaks_off any_word any_word (λ _. goes) (form.key_line schema) (reading.key_line schema) (are_lines_of schema)) (no_keys, true)

body_reads : (schema : List SetDecl) → Reads (form.body schema) (λ _. either_test breaks_off any_word) (reading.body schema)
unfolding reading.body
body_reads schema = bind_done_same (λ s. (next_section s.0).sections) (key_lines_reads schema)

-- what reading a whole key file says of its text
schema_gives : (schema : List SetDecl) (text : List ℕ) (ts : List Lexeme) (r : Result (List (List Packet)) ReadError) (new : List Lexeme) → ts ≡ text_tokens text → Gives (λ x. x) r new (reading.key_file schema ts)
    → TextGives (form.body schema) (text_tokens text) (λ x. x) r new
unfolding reading.key_file
schema_gives schema text ts r new e g =
    subst (λ z. TextGives (form.body schema) z (λ x. x) r new) e
    (text_gives (form.body schema) ts (λ x. x) r new (reading.body schema ts) (text_answer (body_reads schema) (λ _. end_no_break_line) ts (subst Ends (sym e) (text_ends text))) g)

pub keys_gives : (schema given : List SetDecl) (text : List ℕ) (ts : List Lexeme) (r : Result (List (List Packet)) ReadError) (new : List Lexeme) → given ≡ schema → ts ≡ text_tokens text → Gives (λ x. x) r new (reading.key_file given ts)
    → TextGives (form.body schema) (text_tokens text) (λ x. x) r new
keys_gives schema given text ts r new same e g = schema_gives schema text ts r new e (subst (λ (z : List SetDecl). Gives (λ x. x) r new (reading.key_file z ts)) same g)

-- a text that is read has no bad token
pub keys_unrefused : (schema given : List SetDecl) (text : List ℕ) (ts : List Lexeme) (r : Result (List (List Packet)) ReadError) (new : List Lexeme) → given ≡ schema → ts ≡ text_tokens text → Gives (λ x. x) r new (reading.key_file given ts)
    → (keys : List (List Packet)) → r ≡ Ok keys → IsBadTokenOf (form.key_file schema) text None
keys_unrefused schema given text ts r new same e g keys k = (keys, subst (λ z. IfOk z ((form.key_file schema).whole (text_tokens text))) k (keys_gives schema given text ts r new same e g).found)

pub keys_refused : (schema given : List SetDecl) (text : List ℕ) (ts : List Lexeme) (r : Result (List (List Packet)) ReadError) (new : List Lexeme) → given ≡ schema → ts ≡ text_tokens text → Gives (λ x. x) r new (reading.key_file given ts)
    → (line : ℕ) (reason : Reason) → r ≡ Err (errors.Bad line reason) → IsRefusedAt (form.key_file schema) (text_tokens text) line reason new
keys_refused schema given text ts r new same e g line reason k = (keys_gives schema given text ts r new same e g).bad line reason k

pub keys_single : (schema : List SetDecl) (text : List ℕ) (keys other : List (List Packet)) → IsKeysText schema text keys → IsKeysText schema text other → keys ≡ other
unfolding IsKeysText
keys_single schema text keys other w v = text_single (body_reads schema) (λ _. end_no_break_line) (text_tokens text) (text_ends text) keys other w v

-- a line takes a token
pub line_shorter : {X : Type 0} (schema : List SetDecl) (s : KeyDraft × Bool) (view : X → KeyDraft × Bool) (result : Result X ReadError) (old new : List Lexeme)
    → Gives view result new (reading.line_or_break schema s old) → OnOk result (length new < length old)
line_shorter schema s view result old new g =
    let lines = are_lines breaks_off any_word any_word (λ _. goes) (form.key_line schema) (reading.key_line schema) (are_lines_of schema) in
    gives_shorter (lines.laws s) (lines.begins s) view result old new g
