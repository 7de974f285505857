-- What is printed for a person about a file that failed.
use Rattle.std.specs.Prelude.{◌≡◌, ℕ, suc, Bool, false, List, [], ◌++◌, Option, Some, Result, Ok}
use Rattle.set_model.specs.declared.script.SetDecl.{SetDecl}
use Rattle.set_model.specs.declared.memory.Memory.{Memory as NoMemory}
use Rattle.token_forms.specs.declared.bad_token.BadToken.{BadToken}
use Rattle.token_forms.specs.BadTokens.{IsBadToken}
use Rattle.token_forms.specs.Form.{Form}
use Rattle.token_forms.specs.TextTokens.{text_tokens, plain_tokens}
use Rattle.token_forms.specs.Token.{Lexeme}
use Rattle.set_script.specs.Script.{script as script_form}
use Rattle.ruleset_sets.specs.RulesetText.{HoldsOfKept}
use Rattle.key_file.specs.Keys.{key_file}
use Rattle.rule_chain.specs.Rules.{rules_file}
use Rattle.pcap_keys.specs.Plans.{plan as plan_form}
use Rattle.script_advice.specs.Blanked.{blanked}
use Rattle.token_notes.specs.declared.help.TextKind.{TextKind}
use Rattle.token_notes.specs.declared.help.TextKind.TheVariants as kinds
use Rattle.fault_notes.specs.Hidden.{hidden_text}
use Rattle.token_notes.specs.OtherKind.{is_other_kind}
use Rattle.token_notes.specs.Shown.{Begins, place_text, byte_text, name_text}
use Rattle.token_notes.specs.Source.{IsSaidAt, source_text}
use Rattle.fault_notes.specs.Told.{MayTell}
use Rattle.input_files.specs.declared.fault.Flaw.{Flaw}
use Rattle.input_files.specs.declared.fault.Flaw.TheVariants as flaws
use Rattle.input_files.specs.declared.fault.FileFault.{FileFault}
use Rattle.input_files.specs.declared.fault.FileFault.TheVariants.{Bad, ReadFault, TooLarge, Memory}
use Rattle.input_files.specs.Reads.{Shelved, StopsAt}
use Rattle.command_words.specs.Words.{Command}

-- A note begins with a text's name and the place of a bad token. If the text is of another kind, it then says so, and else it
-- shows the token's line in a text, with carets under the token.
pub record IsOnToken (name source : List ℕ) (bad : BadToken) (is_other : Bool) (note : List ℕ) : Type 0 where
  pub begins : Begins (place_text name bad.line bad.column) note
  pub shows : IsSaidAt (place_text name bad.line bad.column) (source_text source bad) is_other note

-- A note is on the bad token of a text that is to be of this kind, if that was found.
pub record IsPlacedBy (kind : TextKind) (found : Result (Option BadToken) NoMemory) (name text note : List ℕ) : Type 0 where
  pub bad : BadToken
  pub is_found : found ≡ Ok (Some bad)
  pub is_on : IsOnToken name text bad (is_other_kind kind text bad) note

-- A note is on the bad token, by the definition, of a text that is to be of this kind.
pub record NamesBadToken {A : Type 0} (kind : TextKind) (form : Form A) (tokens : List Lexeme) (text name note : List ℕ) : Type 0 where
  pub bad : BadToken
  pub is_bad : IsBadToken form tokens text bad
  pub is_on : IsOnToken name text bad (is_other_kind kind text bad) note

-- A note is on the bad token, by the definition, of what is left of a text. It shows the token's line in the text.
pub record NamesFurther {A : Type 0} (form : Form A) (left whole name note : List ℕ) : Type 0 where
  pub bad : BadToken
  pub is_bad : IsBadToken form (text_tokens left) left bad
  pub is_on : IsOnToken name whole bad false note

-- Notes on bad tokens of a text after the first one, at most so many. Each begins with the place of the bad token of
-- what is left: the text in which a part is blanked out, and one more for each note before it. Each shows the text's own line.
-- After the last note that is allowed a line says that there are more, if what is left has one more bad token.
pub data AreFurther {A : Type 0} (form : Form A) (name whole : List ℕ) : ℕ → List ℕ → List ℕ → Type 0 where
  no_more : (most : ℕ) (rest : List ℕ) → AreFurther form name whole most rest []
  hidden : (from to : ℕ) (rest : List ℕ) (bad : BadToken) → IsBadToken form (text_tokens (blanked from to rest)) (blanked from to rest) bad → AreFurther form name whole 0 rest (hidden_text name)
  one_more : (most from to : ℕ) (rest note more : List ℕ) → NamesFurther form (blanked from to rest) whole name note
      → AreFurther form name whole most (blanked from to rest) more → AreFurther form name whole (suc most) rest (note ++ more)

-- A note on a text that is to be of this kind is on this bad token first. At most nine notes on further ones follow, and a line if
-- there are more.
pub record IsNoteFrom {A : Type 0} (kind : TextKind) (form : Form A) (name text : List ℕ) (bad : BadToken) (note : List ℕ) : Type 0 where
  pub first : List ℕ
  pub more : List ℕ
  pub is_on : IsOnToken name text bad (is_other_kind kind text bad) first
  pub further : AreFurther form name text 9 text more
  pub all : note ≡ first ++ more

-- A note is on a text by its bad token, if that was found.
pub record IsNotedFrom {A : Type 0} (kind : TextKind) (form : Form A) (found : Result (Option BadToken) NoMemory) (name text note : List ℕ) : Type 0 where
  pub bad : BadToken
  pub is_found : found ≡ Ok (Some bad)
  pub says : IsNoteFrom kind form name text bad note

-- A note names a text's bad token by the definition, and further ones.
pub record NamesBadTokens {A : Type 0} (kind : TextKind) (form : Form A) (text name note : List ℕ) : Type 0 where
  pub bad : BadToken
  pub is_bad : IsBadToken form (text_tokens text) text bad
  pub says : IsNoteFrom kind form name text bad note

-- The same of a script.
abbrev pub NamesScriptTokens : List ℕ → List ℕ → List ℕ → Type 0
NamesScriptTokens text name note = NamesBadTokens kinds.Script script_form text name note

-- A note on a flawed text begins with its name and the place of the flaw: of the bad token, whose line it shows, or of a
-- capture's byte. In a script and a key file further bad tokens follow. Those of a ruleset are those of what is kept of it.
abbrev pub NamesFlaw : List SetDecl → List ℕ → List ℕ → Flaw → List ℕ → Type 0
NamesFlaw sets text name (flaws.Script line reason) note = NamesScriptTokens text name note
NamesFlaw sets text name (flaws.SecondScript line reason) note = NamesScriptTokens text name note
NamesFlaw sets text name (flaws.Ruleset line reason) note = HoldsOfKept text (λ kept. NamesScriptTokens kept name note)
NamesFlaw sets text name (flaws.Keys line reason) note = NamesBadTokens kinds.Keys (key_file sets) text name note
NamesFlaw sets text name (flaws.Rules line reason) note = NamesBadToken kinds.Rules (rules_file sets) (plain_tokens text) text name note
NamesFlaw sets text name (flaws.Plan line reason) note = NamesBadToken kinds.Plan (plan_form sets) (plain_tokens text) text name note
NamesFlaw sets text name (flaws.Capture byte reason) note = Begins (byte_text name byte) note

-- A text is a note on a file that failed for this fault, with a script that declares these sets. It
-- begins with the file's name and, if the file's bytes are known, with the place of their flaw. If
-- memory ran out, there is no note.
abbrev pub IsNoteOn : (List ℕ → Option (List ℕ)) → List SetDecl → List ℕ → FileFault → List ℕ → Type 0
IsNoteOn told sets name (Bad flaw) note = (text : List ℕ) → told name ≡ Some text → NamesFlaw sets text name flaw note
IsNoteOn told sets name (ReadFault other) note = Begins (name_text name) note
IsNoteOn told sets name (TooLarge other) note = Begins (name_text name) note
IsNoteOn told sets name Memory note = ⊥

-- A command's files were read up to one that failed. Only about this one may a note have been printed.
pub record StopsTelling (shelf : Shelved) (c : Command) (before now : Option (List ℕ)) (fault : FileFault) : Type 0 where
  pub stops : StopsAt shelf c fault
  pub noted : MayTell (IsNoteOn shelf.told stops.sets stops.input.name fault) before now
