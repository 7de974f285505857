-- The packets of a key file fit the declared sets.
use Rattle.std.proofs.Common.{◌≡◌, inl, inr, refl, sym, ◌∙◌, ap, subst, ℕ, suc, ◌^◌, List, [], ◌∷◌, ◌++◌, length, true, Option, Some, None, slice_get, Result, Ok, Err, append_assoc, append-nil}
use Rattle.std.specs.Prelude.{IfOk}
use Rattle.std.specs.List.{All}
use Rattle.std.proofs.lemmas.Bool.{lt-ltb, eq-eqb}
use Rattle.std.proofs.lemmas.List.Elements.{All-nil, All-push}
use Rattle.set_model.specs.declared.kind.Kind.{Kind}
use Rattle.set_model.specs.declared.script.SetDecl.{SetDecl}
use Rattle.set_model.specs.declared.packet.Packet.{Packet}
use Rattle.set_model.specs.Kind.{bits_of}
use Rattle.set_model.specs.Key.{is_value, values_fit}
use Rattle.addr_text.specs.Values.{IsValue}
use Rattle.addr_text.proofs.FitLaws.{IsValue-fits}
use Rattle.token_forms.specs.Token.{Lexeme}
use Rattle.token_forms.specs.Words.{breaks_off}
use Rattle.token_forms.proofs.KeepLaws.{lines_keep}
use Rattle.key_file.specs.Keys as form
use Rattle.set_model.specs.declared.script.Family.{Family}
use Rattle.set_model.specs.declared.script.Family.TheVariants as families
use Rattle.key_file.specs.declared.draft.KeyDraft.{KeyDraft}
use Rattle.key_file.specs.declared.draft.KeyWord.{KeyWord}
use Rattle.key_file.specs.declared.draft.KeyWord.TheVariants as keys
use Rattle.key_file.specs.declared.draft.AtWord.{AtWord}
use Rattle.key_file.specs.declared.draft.AtWord.TheVariants as ats
use Rattle.key_file.specs.KeyNames.{key_word_of}
use Rattle.key_file.specs.Keys.{no_keys, next_section}
use Rattle.key_file.specs.KeysText.{IsKeysText}
use Rattle.set_model.specs.Runnable.{IsFitting}
use Rattle.token_forms.specs.declared.error.ReadError.{ReadError}

-- values of these kinds, one for each
record AreValues (ks : List Kind) (key : List ℕ) : Type 0 where
  lengths : length ks ≡ length key
  fit : values_fit ks key ≡ true

one_more : (kind : Kind) (ks : List Kind) (text : List ℕ) (value : ℕ) (key : List ℕ) → IsValue kind text value → AreValues ks key → AreValues (kind ∷ ks) (value ∷ key)
one_more kind ks text value key w k =
    let fits = k.fit in
    let first : is_value kind value ≡ true = lt-ltb value (2 ^ bits_of kind) (IsValue-fits kind text value w) in
    record { lengths = ap suc k.lengths; fit = rw first fits }

more_values : (ks : List Kind) (before : List ℕ) (ts : List Lexeme) (key : List ℕ) → (form.more_values ks before).whole ts key → (rest : List ℕ) × (key ≡ before ++ rest) × AreValues ks rest
more_values [] before ts key w = ([], sym w.1 ∙ sym (append-nil before), record { lengths = refl; fit = refl })
more_values (kind ∷ ks) before ts key (u, x, y, e, w, (value, x2, y2, e2, (t, et, given), w2)) =
    let k = more_values ks (before ++ value ∷ []) y2 key w2 in
    (value ∷ k.0, k.1 ∙ append_assoc before (value ∷ []) k.0, one_more kind ks t.bytes value k.0 given.1 k.2)

all_values : (ks : List Kind) (ts : List Lexeme) (key : List ℕ) → (form.all_values ks).whole ts key → AreValues ks key
all_values [] ts key w = absurd w
all_values (kind ∷ ks) ts key (value, x, y, e, (t, et, given), w) =
    let k = more_values ks (value ∷ []) y key w in
    subst (λ (z : List ℕ). AreValues (kind ∷ ks) z) (sym k.1) (one_more kind ks t.bytes value k.0 given.1 k.2)

-- what every line keeps
record AllFit (schema : List SetDecl) (d : KeyDraft) : Type 0 where
  sections : All (All (IsFitting schema)) d.sections
  packets : All (IsFitting schema) d.packets

packet_fits : (schema : List SetDecl) (d after : KeyDraft) (i : ℕ) (x : List Lexeme) → AllFit schema d → (s : Option SetDecl) → slice_get schema i ≡ s → (form.packet_of d i s).whole x after → AllFit schema after
packet_fits schema d after i x all None e w = absurd w
packet_fits schema d after i x all (Some s) e (key, x4, y4, e4, w4, h) =
    let k = all_values s.kinds x4 key w4 in
    let same_length = eq-eqb _ _ k.lengths in
    let fit = k.fit in
    subst (AllFit schema) h.1 (record {
      sections = all.sections;
      packets = All-push (IsFitting schema) d.packets (record { set = i; key = key; now = d.moment }) all.packets (record { set = s; declared = e; fits = rw same_length fit });
    })

-- the packets of a section that ends
section_fits : (schema : List SetDecl) (d : KeyDraft) → AllFit schema d → AllFit schema (next_section d)
section_fits schema d all = record { sections = All-push (All (IsFitting schema)) d.sections d.packets all.sections all.packets; packets = All-nil (IsFitting schema) }

line_keeps : (schema : List SetDecl) (d after : KeyDraft) (x : List Lexeme) → AllFit schema d → (form.key_line schema d).whole x after → AllFit schema after
line_keeps schema d after x all (w, x1, y1, e1, w1, behind) = go (key_word_of w) behind where
  packet : (p : Family × List ℕ) (y : List Lexeme) → (form.packet schema d p).whole y after → AllFit schema after
  packet p y (i, x2, y2, e2, w2, w3) = packet_fits schema d after i y2 all (slice_get schema i) refl w3

  at : (a : AtWord) (y : List Lexeme) → (form.at_behind schema d a).whole y after → AllFit schema after
  at (ats.Moment n) y h = subst (AllFit schema) h.1 (record { sections = all.sections; packets = all.packets })
  at (ats.Set i) y h = packet_fits schema d after i y all (slice_get schema i) refl h

  go : (k : KeyWord) → (form.line_behind schema d w k).whole y1 after → AllFit schema after
  go (keys.Family family) (table, x2, y2, e2, w2, h) = packet (family, table) y2 h
  go keys.At (a, x2, y2, e2, w2, h) = at a y2 h
  go keys.Round (inl h) = packet (families.Ip, w) y1 h
  go keys.Round (inr h) = subst (AllFit schema) h.1 (section_fits schema d all)
  go keys.Table h = packet (families.Ip, w) y1 h

all_fit : (schema : List SetDecl) (text : List ℕ) (keys : List (List Packet)) → IsKeysText schema text keys → All (All (IsFitting schema)) keys
unfolding IsKeysText
all_fit schema text keys (read, x, y, e, (s, x1, y1, e1, w, h), (u, x2, y2, e2, w2, h2)) =
    let k = lines_keep breaks_off (form.key_line schema) (AllFit schema) (line_keeps schema) (no_keys, true) s x1 (record { sections = All-nil (All (IsFitting schema)); packets = All-nil (IsFitting schema) }) w in
    subst (All (All (IsFitting schema))) (h.1 ∙ h2.1) (section_fits schema s.0 k).sections

pub keys_fit : (schema : List SetDecl) (text : List ℕ) (r : Result (List (List Packet)) ReadError) → IfOk r (IsKeysText schema text) → IfOk r (All (All (IsFitting schema)))
keys_fit schema text (Ok keys) w = all_fit schema text keys w
keys_fit schema text (Err e) w = tt
