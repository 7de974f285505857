-- The script that a listing's text means.
use Rattle.std.specs.Prelude.{◌≡◌, ◌≤◌, ℕ, ◌+◌, ◌-◌, true, false, List, [], ◌∷◌, ◌++◌, length, map, IfSome, All, sum_by}
use Rattle.std.specs.List.{list_all, flat_map, zip, AllPairs}
use Rattle.set_model.specs.declared.element.Element.{Element}
use Rattle.set_model.specs.declared.report.Event.{Event}
use Rattle.set_model.specs.declared.script.SetDecl.{SetDecl}
use Rattle.set_model.specs.declared.script.Script.{Script}
use Rattle.set_model.specs.declared.script.Step.{Step}
use Rattle.set_model.specs.declared.script.Step.TheVariants.{Change, Flush, Commit, Abort}
use Rattle.set_model.specs.declared.script.Verb.TheVariants as verbs
use Rattle.set_model.specs.Key.{parts_fit}
use Rattle.set_model.specs.Runnable.{HasFields}
use Rattle.set_model.specs.SetState.{State, purged}
use Rattle.set_model.specs.Control.{Mode, history}
use Rattle.listing_laws.specs.Relisted.{relisted, before_commit, IsGrown}
use Rattle.set_report.specs.Remarks.{remarks_text}
use Rattle.set_report.specs.ListText.{first_sets, sets_beside, list_text}
use Rattle.set_script.specs.Limits.{most_elements, most_sets}
use Rattle.set_script.specs.Names.{key_bytes, is_set}
use Rattle.set_script.specs.Changes.{with_commit}
use Rattle.set_script.specs.ScriptText.{IsScriptText}
use Rattle.token_forms.specs.Bytes.{is_word_byte, is_string_byte}
use Rattle.token_forms.specs.Words.{is_name}
use Rattle.addr_text.specs.Times.{longest_time}

-- a step without the line of its change
abbrev pub unlined : Step → Step
unlined (Change line set verb e now) = Change 0 set verb e now
unlined (Flush line set now) = Flush 0 set now
unlined (Commit now) = Commit now
unlined Abort = Abort

-- The addition that an element of a listing means, but for its line: into the set of this number, at moment 0.
abbrev pub addition : ℕ → ℕ → Element → Step
addition now set e = Change 0 set verbs.Add (relisted now e) 0

-- A comment as scripts have it: at most 128 bytes, none of which is a quote or a control character.
pub record IsComment (bytes : List ℕ) : Type 0 where
  pub all : list_all is_string_byte bytes ≡ true
  pub short : length bytes ≤ 128

-- An element as a script's set has it: its intervals fit the set, one value each if the set has no intervals. It expires
-- only in a set whose elements may, and no later than a text can say.
pub record IsListable (d : SetDecl) (now : ℕ) (e : Element) : Type 0 where
  pub fits : parts_fit d.kinds e.parts ≡ true
  pub single : d.interval ≡ false → All (λ p. p.high ≡ p.low) e.parts
  pub timed : IfSome e.expiry (λ t. (d.timed ≡ true) × (t - now ≤ longest_time))
  pub comment : IsComment e.comment

-- A name as scripts have it: a word that begins as a name.
pub record IsNameWord (name : List ℕ) : Type 0 where
  pub named : is_name name ≡ true
  pub bytes : list_all is_word_byte name ≡ true

-- A set as scripts declare it, with elements that a text can say at this moment.
pub record IsListableSet (now : ℕ) (d : SetDecl) (s : State) : Type 0 where
  pub table : IsNameWord d.table
  pub name : IsNameWord d.name
  pub fields : HasFields d
  pub narrow : sum_by key_bytes d.kinds ≤ 64
  pub size : IfSome d.size (λ n. (1 ≤ n) × (n ≤ most_elements))
  pub timeout : IfSome d.timeout (λ t. (d.timed ≡ true) × (t ≤ longest_time))
  pub elements : All (IsListable d now) s.elements

-- The additions of the elements of sets, which have the numbers from this one on, but for their lines.
abbrev pub all_additions : ℕ → ℕ → List (SetDecl × State) → List Step
all_additions now set [] = []
all_additions now set ((d, s) ∷ sets) = map (addition now set) s.elements ++ all_additions now (set + 1) sets

-- The sets in the order of their listing: table by table.
abbrev pub by_table : List SetDecl → List State → List (SetDecl × State)
by_table schema sets = flat_map (λ d. sets_beside d (zip schema sets)) (first_sets schema)

-- Two declarations have different families, tables or names.
abbrev pub AreApart : SetDecl → SetDecl → Type 0
AreApart a b = is_set b.family b.table b.name a ≡ false

-- Sets as a script declares them, with states that their listing can say at this moment.
pub record AreListable (now : ℕ) (schema : List SetDecl) (sets : List State) : Type 0 where
  pub states : length schema ≡ length sets
  pub each : All (λ p. IsListableSet now p.0 p.1) (zip schema sets)
  pub few : length schema ≤ most_sets
  pub apart : AllPairs AreApart schema

-- The script of a listing: the sets' declarations, and the additions of their elements in one section, which a commit
-- ends. All is at moment 0.
pub record IsListing (now : ℕ) (sets : List (SetDecl × State)) (script : Script) : Type 0 where
  pub schema : script.schema ≡ map (λ p. p.0) sets
  pub sections : map (map unlined) script.sections ≡ with_commit 0 (all_additions now 0 sets) ∷ []
  pub last : script.last ≡ 0

-- What the law says: the text that `list` prints is in the grammar of scripts, and means this script. Its events are
-- comments.
abbrev pub ListingMeans : Type 0
ListingMeans = (schema : List SetDecl) (events : List Event) (sets : List State) (now : ℕ) → AreListable now schema sets
    → (script : Script) × IsScriptText (remarks_text schema events ++ list_text schema sets now) script × IsListing now (by_table schema sets) script

-- A set of a script's control: its state has what its declaration says, and is such as additions make it.
pub record HasStates (now : ℕ) (p : SetDecl × State) : Type 0 where
  pub kinds : p.1.kinds ≡ p.0.kinds
  pub size : p.1.size ≡ p.0.size
  pub disjoint : p.1.disjoint ≡ p.0.disjoint
  pub grown : IsGrown now p.1

-- What the law says: run from generation 0 on, the script of a listing gives the listed sets, as its commit leaves them.
abbrev pub ListingRuns : Type 0
ListingRuns = (mode : Mode) (now : ℕ) (sets : List (SetDecl × State)) (script : Script) → All (HasStates now) sets → IsListing now sets script
    → (history mode script.schema script.sections).last.sets ≡ map (λ p. purged (before_commit p.1 now) 0) sets
