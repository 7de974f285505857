-- Notes on files that can't be had.
use Rattle.std.proofs.Common.{◌≡◌, sym, ◌∙◌, subst, ℕ, suc, false, List, [], ◌++◌, Option, Some, Result, append-nil}
use Rattle.std.specs.Prelude.{IfOk}
use Rattle.set_model.specs.declared.memory.Memory.{Memory as NoMemory}
use Rattle.set_model.specs.declared.script.SetDecl.{SetDecl}
use Rattle.token_forms.specs.declared.bad_token.BadToken.{BadToken}
use Rattle.token_forms.specs.BadTokens.{IsBadToken, IsBadTokenAmong}
use Rattle.token_forms.specs.Form.{Form}
use Rattle.token_forms.specs.Token.{Lexeme}
use Rattle.pcap_keys.specs.declared.error.CaptureReason.{CaptureReason}
use Rattle.token_notes.specs.declared.help.TextKind.{TextKind}
use Rattle.token_notes.specs.declared.help.TextKind.TheVariants as kinds
use Rattle.token_notes.specs.OtherKind.{is_other_kind}
use Rattle.token_notes.specs.Shown.{Begins, place_text, byte_text}
use Rattle.token_notes.specs.Source.{IsSaidAt, source_text}
use Rattle.fault_notes.specs.Told.{MayTell}
use Rattle.fault_notes.proofs.ToldLaws.{tells-as}
use Rattle.input_files.specs.declared.fault.Flaw.TheVariants as flaws
use Rattle.input_files.specs.declared.fault.FileFault.{FileFault}
use Rattle.input_files.specs.declared.fault.FileFault.TheVariants.{Bad, ReadFault, TooLarge, Memory}
use Rattle.token_forms.specs.TextTokens.{text_tokens}
use Rattle.set_script.specs.Script.{script as script_form}
use Rattle.ruleset_sets.specs.Kept.{IsKept, all_taken}
use Rattle.ruleset_sets.specs.RulesetText.{HoldsOfKept}
use Rattle.script_advice.specs.Blanked.{blanked}
use Rattle.fault_notes.specs.Hidden.{hidden_text}
use Rattle.input_files.specs.Noted.{IsOnToken, IsPlacedBy, NamesBadToken, NamesFurther, IsNoteOn, AreFurther, no_more, hidden, one_more, IsNoteFrom, IsNotedFrom, NamesBadTokens, NamesScriptTokens}

-- A note on a text by the bad token that was found in it names the bad token of the file's bytes, if they are known.
pub bad-note : {A : Type 0} (kind : TextKind) (form : Form A) (tokens : List ℕ → List Lexeme) (told : List ℕ → Option (List ℕ)) (name all slice : List ℕ) (found : Result (Option BadToken) NoMemory) (before mid now : Option (List ℕ))
    → ((text : List ℕ) → told name ≡ Some text → all ≡ text) → slice ≡ all → IfOk found (IsBadTokenAmong form (tokens slice) slice) → mid ≡ before → MayTell (IsPlacedBy kind found name slice) mid now
    → MayTell (λ text. (bytes : List ℕ) → told name ≡ Some bytes → NamesBadToken kind form (tokens bytes) bytes name text) before now
bad-note kind form tokens told name all slice found before mid now bytes same is_bad silent tells =
    subst (λ (b : Option (List ℕ)). MayTell (λ text. (bytes : List ℕ) → told name ≡ Some bytes → NamesBadToken kind form (tokens bytes) bytes name text) b now) silent
    (tells-as (IsPlacedBy kind found name slice) (λ text. (bytes : List ℕ) → told name ≡ Some bytes → NamesBadToken kind form (tokens bytes) bytes name text) mid now (λ text placed bs at. record {
      bad = placed.bad;
      is_bad = subst (λ (t : List ℕ). IsBadToken form (tokens t) t placed.bad) (same ∙ bytes bs at) (subst (λ (r : Result (Option BadToken) NoMemory). IfOk r (IsBadTokenAmong form (tokens slice) slice)) placed.is_found is_bad);
      is_on = subst (λ (t : List ℕ). IsOnToken name t placed.bad (is_other_kind kind t placed.bad) text) (same ∙ bytes bs at) placed.is_on;
    }) tells)

-- A note on a text and its further bad tokens goes by the bad token that was found in the text. It names the bad tokens of the
-- file's bytes, if they are known.
pub whole-note : {A : Type 0} (kind : TextKind) (form : Form A) (told : List ℕ → Option (List ℕ)) (name all slice : List ℕ) (found : Result (Option BadToken) NoMemory) (before mid now : Option (List ℕ))
    → ((text : List ℕ) → told name ≡ Some text → all ≡ text) → slice ≡ all → IfOk found (IsBadTokenAmong form (text_tokens slice) slice) → mid ≡ before → MayTell (IsNotedFrom kind form found name slice) mid now
    → MayTell (λ text. (bytes : List ℕ) → told name ≡ Some bytes → NamesBadTokens kind form bytes name text) before now
whole-note kind form told name all slice found before mid now bytes same is_bad silent tells =
    subst (λ (b : Option (List ℕ)). MayTell (λ text. (bytes : List ℕ) → told name ≡ Some bytes → NamesBadTokens kind form bytes name text) b now) silent
    (tells-as (IsNotedFrom kind form found name slice) (λ text. (bytes : List ℕ) → told name ≡ Some bytes → NamesBadTokens kind form bytes name text) mid now (λ text noted bs at. record {
      bad = noted.bad;
      is_bad = subst (λ (t : List ℕ). IsBadToken form (text_tokens t) t noted.bad) (same ∙ bytes bs at) (subst (λ (r : Result (Option BadToken) NoMemory). IfOk r (IsBadTokenAmong form (text_tokens slice) slice)) noted.is_found is_bad);
      says = subst (λ (t : List ℕ). IsNoteFrom kind form name t noted.bad text) (same ∙ bytes bs at) noted.says;
    }) tells)

-- The same of what is kept of a ruleset.
pub ruleset-note : (told : List ℕ → Option (List ℕ)) (name all slice kept bytes : List ℕ) (found : Result (Option BadToken) NoMemory) (before mid now : Option (List ℕ)) → ((text : List ℕ) → told name ≡ Some text → all ≡ text) → slice ≡ all
    → IsKept slice (all_taken slice) kept → bytes ≡ kept → IfOk found (IsBadTokenAmong script_form (text_tokens bytes) bytes) → mid ≡ before → MayTell (IsNotedFrom kinds.Script script_form found name bytes) mid now
    → MayTell (λ text. (bs : List ℕ) → told name ≡ Some bs → HoldsOfKept bs (λ kept. NamesScriptTokens kept name text)) before now
ruleset-note told name all slice kept bytes found before mid now known same is_kept is_bytes is_bad silent tells =
    subst (λ (b : Option (List ℕ)). MayTell (λ text. (bs : List ℕ) → told name ≡ Some bs → HoldsOfKept bs (λ kept. NamesScriptTokens kept name text)) b now) silent
    (tells-as (IsNotedFrom kinds.Script script_form found name bytes) (λ text. (bs : List ℕ) → told name ≡ Some bs → HoldsOfKept bs (λ kept. NamesScriptTokens kept name text)) mid now (λ text noted bs at.
    let bad : NamesScriptTokens bytes name text = record { bad = noted.bad; is_bad = subst (λ (r : Result (Option BadToken) NoMemory). IfOk r (IsBadTokenAmong script_form (text_tokens bytes) bytes)) noted.is_found is_bad; says = noted.says } in
    let here : HoldsOfKept slice (λ kept. NamesScriptTokens kept name text) = record { kept = kept; is_kept = is_kept; holds = subst (λ (t : List ℕ). NamesScriptTokens t name text) is_bytes bad } in
    subst (λ (t : List ℕ). HoldsOfKept t (λ kept. NamesScriptTokens kept name text)) (same ∙ known bs at) here) tells)

-- One more note on what is left of a text.
pub one-further : {A : Type 0} (form : Form A) (name whole : List ℕ) (most less : ℕ) (rest left note more all : List ℕ) (bad : BadToken) → most ≡ suc less → ((from : ℕ) × (to : ℕ) × (left ≡ blanked from to rest)) → IsBadToken form (text_tokens left) left bad
    → IsOnToken name whole bad false note → AreFurther form name whole less left more → all ≡ note ++ more → AreFurther form name whole most rest all
one-further form name whole most less rest left note more all bad count part is_bad is_on further joined =
    let names : NamesFurther form left whole name note = record { bad = bad; is_bad = is_bad; is_on = is_on } in
    let mine = subst (λ (t : List ℕ). NamesFurther form t whole name note) part.2 names in
    let others = subst (λ (t : List ℕ). AreFurther form name whole less t more) part.2 further in
    subst (λ (n : ℕ). AreFurther form name whole n rest all) (sym count) (subst (λ (t : List ℕ). AreFurther form name whole (suc less) rest t) (sym joined) (one_more less part.0 part.1 rest note more mine others))

-- The line on further errors that aren't shown.
pub more-hidden : {A : Type 0} (form : Form A) (name whole : List ℕ) (most : ℕ) (rest left line : List ℕ) (bad : BadToken) → most ≡ 0 → ((from : ℕ) × (to : ℕ) × (left ≡ blanked from to rest)) → IsBadToken form (text_tokens left) left bad → line ≡ hidden_text name
    → AreFurther form name whole most rest line
more-hidden form name whole most rest left line bad none part is_bad is_line =
    let mine = subst (λ (t : List ℕ). IsBadToken form (text_tokens t) t bad) part.2 is_bad in
    subst (λ (n : ℕ). AreFurther form name whole n rest line) (sym none) (subst (λ (t : List ℕ). AreFurther form name whole 0 rest t) (sym is_line) (hidden part.0 part.1 rest bad mine))

-- No further note.
pub none_further : {A : Type 0} (form : Form A) (name whole : List ℕ) (most : ℕ) (rest notes : List ℕ) → notes ≡ [] → AreFurther form name whole most rest notes
none_further form name whole most rest notes none = subst (λ (t : List ℕ). AreFurther form name whole most rest t) (sym none) (no_more most rest)

-- A note on the first bad token alone.
pub first_alone : {A : Type 0} (kind : TextKind) (form : Form A) (name text note : List ℕ) (bad : BadToken) → Begins (place_text name bad.line bad.column) note → IsSaidAt (place_text name bad.line bad.column) (source_text text bad) (is_other_kind kind text bad) note
    → IsNoteFrom kind form name text bad note
first_alone kind form name text note bad begins shows = record { first = note; more = []; is_on = record { begins = begins; shows = shows }; further = no_more 9 text; all = sym (append-nil note) }

-- A note on a capture begins with its byte, whatever is known of its bytes.
pub capture-note : (told : List ℕ → Option (List ℕ)) (name : List ℕ) (sets : List SetDecl) (byte : ℕ) (reason : CaptureReason) (before mid now : Option (List ℕ)) → mid ≡ before → MayTell (Begins (byte_text name byte)) mid now
    → MayTell (IsNoteOn told sets name (Bad (flaws.Capture byte reason))) before now
capture-note told name sets byte reason before mid now silent tells =
    subst (λ (b : Option (List ℕ)). MayTell (IsNoteOn told sets name (Bad (flaws.Capture byte reason))) b now) silent
    (tells-as (Begins (byte_text name byte)) (IsNoteOn told sets name (Bad (flaws.Capture byte reason))) mid now (λ text begins bytes at. begins) tells)

-- A note on a file depends on the bytes that the shelf knew before, under each name for them.
pub same-note : (told other : List ℕ → Option (List ℕ)) (sets : List SetDecl) (name : List ℕ) (fault : FileFault) (text : List ℕ) → ((n : List ℕ) → told n ≡ other n) → IsNoteOn told sets name fault text → IsNoteOn other sets name fault text
same-note told other sets name (Bad flaw) text same is = λ bytes at. is bytes (same name ∙ at)
same-note told other sets name (ReadFault n) text same is = is
same-note told other sets name (TooLarge n) text same is = is
same-note told other sets name Memory text same is = is
