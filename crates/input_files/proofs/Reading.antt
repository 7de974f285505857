-- Files that are read one after the other.
use Rattle.std.proofs.Common.{arith, ◌≡◌, ◌≢◌, ◌≤◌, ◌+◌, refl, sym, ◌∙◌, ap, subst, ℕ, List, [], ◌∷◌, ◌++◌, length, Option, Some, Ok, Bool, true, false, ◌||◌, append-nil, append_assoc}
use Rattle.std.proofs.lemmas.List.{length-append}
use Rattle.std.specs.Prelude.{All}
use Rattle.std.specs.List.{AllPairs}
use Rattle.std.specs.Io.KnownBytes.{IsAtEnd}
use Rattle.std.proofs.lemmas.List.Elements.{All-nil, All-cons}
use Rattle.std.proofs.lemmas.List.Kept.{AllPairs-cons}
use Rattle.set_model.specs.declared.script.Script.{Script}
use Rattle.set_model.specs.declared.script.SetDecl.{SetDecl}
use Rattle.set_model.specs.declared.packet.Packet.{Packet}
use Rattle.set_script.specs.ScriptText.{IsScriptText}
use Rattle.ruleset_sets.specs.declared.skipped.Skipped.{Skipped}
use Rattle.ruleset_sets.specs.Kept.{IsKept, all_taken, notes}
use Rattle.key_file.specs.KeysText.{IsKeysText}
use Rattle.rule_chain.specs.declared.chains.Chain.{Chain}
use Rattle.rule_chain.specs.RulesText.{IsRulesText}
use Rattle.pcap_keys.specs.declared.facts.Frame.{Frame}
use Rattle.pcap_keys.specs.declared.selector.PlanLine.{PlanLine}
use Rattle.pcap_keys.specs.Captured.{captured}
use Rattle.pcap_keys.specs.PlansText.{IsPlanText}
use Rattle.pip_base.specs.Picks.{IsPickOf, AsksOnce, KeepsLeft, ReadsToEnd}
use Rattle.pip_base.specs.Whole.{size_limit}
use Rattle.std.specs.Borrow.{Bor}
use Rattle.pip_base.specs.Causes.{Rose}
use Rattle.command_words.specs.declared.words.Task.{Task}
use Rattle.command_words.specs.declared.words.Task.TheVariants as tasks
use Rattle.command_words.specs.declared.words.Command.TheVariants as asked
use Rattle.command_words.specs.WordForms.{plain}
use Rattle.command_words.specs.Words.{Command}
use Rattle.input_files.specs.declared.fault.Flaw.{Flaw}
use Rattle.input_files.specs.declared.fault.Flaw.TheVariants as flaws
use Rattle.input_files.specs.declared.fault.FileFault.{FileFault}
use Rattle.input_files.specs.declared.fault.FileFault.TheVariants.{Bad, ReadFault, TooLarge, Memory}
use Rattle.input_files.specs.Inputs.{Input, script, second, rules_of_nft, keys, rules, plan, capture, names_of, inputs, form_of, IsOf, IsFlawed, ReadsAs, IsFileCause, as_second}
use Rattle.fault_notes.specs.Told.{MayTell}
use Rattle.input_files.specs.Noted.{IsNoteOn, StopsTelling}
use Rattle.input_files.specs.Reads.{AreOf, AreReadWhole, AreRead, HasRead}
use Rattle.input_files.specs.Seen.{seen, AreSkips, AreAllSkips}
use Rattle.input_files.specs.Works.{AreSetsOf}
use Rattle.fault_notes.proofs.ToldLaws.{tells-as}
use Rattle.input_files.proofs.Telling.{same-note}

-- what comes of files by the numbers under which they were picked
abbrev Numbers : Type 1
Numbers = ℕ → Type 0

no-pairs : AllPairs (λ (a b : ℕ). a ≢ b) []
no-pairs i j d h k = absurd (omega (arith, k))

pub none-whole : (old new : Numbers) (left : ℕ → Option (List ℕ)) → AreReadWhole old new left 0
none-whole old new left = record { files = []; one_each = refl; apart = no-pairs; picked = All-nil (IsPickOf old new); at_end = All-nil (λ file. IsAtEnd (left file)) }

-- Files that were read whole stay so.
whole-kept : (old mid new : Numbers) (left_mid left : ℕ → Option (List ℕ)) (n : ℕ) → AreReadWhole old mid left_mid n → KeepsLeft mid new left_mid left → AreReadWhole old new left n
whole-kept old mid new left_mid left n w kept = record {
  files = w.files;
  one_each = w.one_each;
  apart = w.apart;
  picked = λ k d h. let p = w.picked k d h in record { fresh = p.fresh; picked = (kept _ p.picked).0 };
  at_end = λ k d h. let p = w.picked k d h in subst IsAtEnd (sym (kept _ p.picked).1) (w.at_end k d h);
}

-- One file more was read whole.
whole-more : (old mid new : Numbers) (left_mid left : ℕ → Option (List ℕ)) (n : ℕ) → AreReadWhole old mid left_mid n → KeepsLeft mid new left_mid left → ((m : ℕ) → old m → mid m) → ReadsToEnd mid new left → AreReadWhole old new left (n + 1)
unfolding whole-kept
whole-more old mid new left_mid left n w kept picks r =
    let all = whole-kept old mid new left_mid left n w kept in
    let here : IsPickOf old new r.file = record { fresh = λ o. r.is_pick.fresh (picks r.file o); picked = r.is_pick.picked } in
    let others : All (λ b. r.file ≢ b) w.files = λ k d h e. r.is_pick.fresh (subst mid (sym e) (w.picked k d h).picked) in
    record {
      files = r.file ∷ w.files;
      one_each = omega (arith, w.one_each);
      apart = AllPairs-cons (λ (a b : ℕ). a ≢ b) r.file w.files others w.apart;
      picked = All-cons (IsPickOf old new) r.file w.files here all.picked;
      at_end = All-cons (λ file. IsAtEnd (left file)) r.file w.files r.at_end all.at_end;
    }

-- a text that was read means what it was read as
pub as-script : (told : List ℕ → Option (List ℕ)) (name : List ℕ) (s : Script) → ReadsAs told name (λ text. IsScriptText text s) → ReadsAs told name (IsOf script s.schema)
as-script told name s read text at = let r = read text at in (r.0, (s, r.1, refl))

pub as-other : (told : List ℕ → Option (List ℕ)) (name : List ℕ) (sets : List SetDecl) (s : Script) → ReadsAs told name (λ text. IsScriptText text s) → ReadsAs told name (IsOf second sets)
as-other told name sets s read text at = let r = read text at in (r.0, (s, r.1))

pub as-ruleset : (told : List ℕ → Option (List ℕ)) (name : List ℕ) (sets : List SetDecl) (whole kept : List ℕ) (skips : List Skipped) → ReadsAs told name (λ text. (whole ≡ text) × AreSetsOf text kept skips) → ReadsAs told name (IsOf rules_of_nft sets)
as-ruleset told name sets whole kept skips read text at = let r = read text at in let are = r.1.1 in (r.0, (are.script, record { kept = kept; is_kept = are.is_kept; holds = are.is_script }))

-- What is kept of the text that was read is kept of the file's bytes, if they are known.
pub sets-read : (told : List ℕ → Option (List ℕ)) (name whole slice kept bytes : List ℕ) (skips : List Skipped) (s : Script) → ((text : List ℕ) → told name ≡ Some text → whole ≡ text) → length whole ≤ size_limit → slice ≡ whole
    → IsKept slice (all_taken slice) kept → skips ≡ notes slice → bytes ≡ kept → IsScriptText bytes s → ReadsAs told name (λ text. (whole ≡ text) × AreSetsOf text kept skips)
sets-read told name whole slice kept bytes skips s known limit same is_kept skips_are is_bytes is_script text at =
    let of_slice : AreSetsOf slice kept skips = record { script = s; is_kept = is_kept; is_script = subst (λ (t : List ℕ). IsScriptText t s) is_bytes is_script; skips_are = skips_are } in
    (subst (λ (t : List ℕ). length t ≤ size_limit) (known text at) limit, (known text at, subst (λ (t : List ℕ). AreSetsOf t kept skips) (same ∙ known text at) of_slice))

pub as-keys : (told : List ℕ → Option (List ℕ)) (name : List ℕ) (sets : List SetDecl) (packets : List (List Packet)) → ReadsAs told name (λ text. IsKeysText sets text packets) → ReadsAs told name (IsOf keys sets)
as-keys told name sets packets read text at = let r = read text at in (r.0, (packets, r.1))

pub as-rules : (told : List ℕ → Option (List ℕ)) (name : List ℕ) (sets : List SetDecl) (chains : List Chain × Bool) → ReadsAs told name (λ text. IsRulesText sets text chains) → ReadsAs told name (IsOf rules sets)
as-rules told name sets chains read text at = let r = read text at in (r.0, (chains, r.1))

pub as-plan : (told : List ℕ → Option (List ℕ)) (name : List ℕ) (sets : List SetDecl) (lines : List PlanLine) → ReadsAs told name (λ text. IsPlanText sets text lines) → ReadsAs told name (IsOf plan sets)
as-plan told name sets lines read text at = let r = read text at in (r.0, (lines, r.1))

pub as-capture : (told : List ℕ → Option (List ℕ)) (name : List ℕ) (sets : List SetDecl) (frames : List Frame) → ReadsAs told name (λ text. captured text ≡ Ok frames) → ReadsAs told name (IsOf capture sets)
as-capture told name sets frames read text at = let r = read text at in (r.0, (frames, r.1))

-- statements on a read file hold of the shelf's known bytes under each name for them
reads-same : (told other : List ℕ → Option (List ℕ)) (name : List ℕ) (Holds : List ℕ → Type 0) → ((n : List ℕ) → told n ≡ other n) → ReadsAs told name Holds → ReadsAs other name Holds
reads-same told other name Holds same read text at = read text (same name ∙ at)

-- a flawed text of a file that was read whole is the file's fault
pub bad-cause : (told : List ℕ → Option (List ℕ)) (others asked : List (List ℕ)) (before now : ℕ) (sets : List SetDecl) (i : Input) (flaw : Flaw) (all slice : List ℕ) → (asked ≡ others ++ i.name ∷ []) × (now ≡ before) → form_of flaw ≡ i.form
    → ((text : List ℕ) → told i.name ≡ Some text → all ≡ text) → length all ≤ size_limit → slice ≡ all → IsFlawed sets slice flaw → IsFileCause told sets others i asked before now (Bad flaw)
bad-cause told others asked before now sets i flaw all slice quiet form bytes limit same flawed =
    (quiet.0, quiet.1, form, λ text at. (subst (λ (t : List ℕ). length t ≤ size_limit) (bytes text at) limit, subst (λ (t : List ℕ). IsFlawed sets t flaw) (same ∙ bytes text at) flawed))

-- Why a script failed is why it failed as a second script, and a note on it is one on the second script.
pub second-cause : (told : List ℕ → Option (List ℕ)) (sets : List SetDecl) (others asked : List (List ℕ)) (before now : ℕ) (name : List ℕ) (fault : FileFault) → IsFileCause told sets others (record { name = name; form = script }) asked before now fault
    → IsFileCause told sets others (record { name = name; form = second }) asked before now (as_second fault)
second-cause told sets others asked before now name (Bad (flaws.Script line reason)) h = (h.0, h.1, refl, h.3)
second-cause told sets others asked before now name (Bad (flaws.SecondScript line reason)) h = absurd (let e = h.2 in cc e)
second-cause told sets others asked before now name (Bad (flaws.Ruleset line reason)) h = absurd (let e = h.2 in cc e)
second-cause told sets others asked before now name (Bad (flaws.Keys line reason)) h = absurd (let e = h.2 in cc e)
second-cause told sets others asked before now name (Bad (flaws.Rules line reason)) h = absurd (let e = h.2 in cc e)
second-cause told sets others asked before now name (Bad (flaws.Plan line reason)) h = absurd (let e = h.2 in cc e)
second-cause told sets others asked before now name (Bad (flaws.Capture byte reason)) h = absurd (let e = h.2 in cc e)
second-cause told sets others asked before now name (ReadFault n) h = h
second-cause told sets others asked before now name (TooLarge n) h = h
second-cause told sets others asked before now name Memory h = h

note-on-second : (told : List ℕ → Option (List ℕ)) (sets : List SetDecl) (name : List ℕ) (fault : FileFault) (text : List ℕ) → IsNoteOn told sets name fault text → IsNoteOn told sets name (as_second fault) text
note-on-second told sets name (Bad (flaws.Script line reason)) text h = h
note-on-second told sets name (Bad (flaws.SecondScript line reason)) text h = h
note-on-second told sets name (Bad (flaws.Ruleset line reason)) text h = h
note-on-second told sets name (Bad (flaws.Keys line reason)) text h = h
note-on-second told sets name (Bad (flaws.Rules line reason)) text h = h
note-on-second told sets name (Bad (flaws.Plan line reason)) text h = h
note-on-second told sets name (Bad (flaws.Capture byte reason)) text h = h
note-on-second told sets name (ReadFault n) text h = h
note-on-second told sets name (TooLarge n) text h = h
note-on-second told sets name Memory text h = h

pub second-noted : (told : List ℕ → Option (List ℕ)) (sets : List SetDecl) (name : List ℕ) (fault other : FileFault) (before now : Option (List ℕ)) → other ≡ as_second fault → MayTell (IsNoteOn told sets name fault) before now → MayTell (IsNoteOn told sets name other) before now
second-noted told sets name fault other before now is tells =
    subst (λ (f : FileFault). MayTell (IsNoteOn told sets name f) before now) (sym is) (tells-as (IsNoteOn told sets name fault) (IsNoteOn told sets name (as_second fault)) before now (note-on-second told sets name fault) tells)

names-append : (files : List Input) (i : Input) → names_of (files ++ i ∷ []) ≡ names_of files ++ i.name ∷ []
names-append [] i = refl
names-append (f ∷ files) i = ap (λ ns. f.name ∷ ns) (names-append files i)

are-more : (told : List ℕ → Option (List ℕ)) (sets : List SetDecl) (files : List Input) (i : Input) → AreOf told sets files → ReadsAs told i.name (IsOf i.form sets) → AreOf told sets (files ++ i ∷ [])
are-more told sets [] i h r = (r, tt)
are-more told sets (f ∷ files) i h r = (h.0, are-more told sets files i h.1 r)

-- What isn't kept of a file, by the bytes that the shelf knew before.
same-skips : (told other : List ℕ → Option (List ℕ)) (rulesets : List (List ℕ)) (name lines : List ℕ) (leaves : Bool) → ((n : List ℕ) → told n ≡ other n) → AreSkips told rulesets name lines leaves → AreSkips other rulesets name lines leaves
same-skips told other rulesets name lines leaves same are = record { known = λ text at. are.known text (same name ∙ at); none = are.none }

or-false : (a : Bool) → a ≡ (a || false)
or-false true = refl
or-false false = refl

or-assoc : (a b c : Bool) → ((a || b) || c) ≡ (a || (b || c))
or-assoc true b c = refl
or-assoc false b c = refl

-- what isn't kept of one file more
more-skips : (told : List ℕ → Option (List ℕ)) (rulesets : List (List ℕ)) (names : List (List ℕ)) (name note lines : List ℕ) (any leaves : Bool) → AreAllSkips told rulesets names note any → AreSkips told rulesets name lines leaves
    → AreAllSkips told rulesets (names ++ name ∷ []) (note ++ lines) (any || leaves)
more-skips told rulesets [] name note lines any leaves all are =
    (lines, [], leaves, false, ap (λ n. n ++ lines) all.0 ∙ sym (append-nil lines), ap (λ b. b || leaves) all.1 ∙ or-false leaves, are, (refl, refl))
more-skips told rulesets (n ∷ names) name note lines any leaves all are = (
  all.0,
  all.1 ++ lines,
  all.2,
  all.3 || leaves,
  ap (λ t. t ++ lines) all.4 ∙ append_assoc all.0 all.1 lines,
  ap (λ b. b || leaves) all.5 ∙ or-assoc all.2 all.3 leaves,
  all.6,
  more-skips told rulesets names name all.1 lines all.3 leaves all.7 are,
)

-- These files were read, and nothing else was done: the shelf before and after. This is skipped of those that are
-- rulesets.
pub record UpTo (rulesets : List (List ℕ)) (told_before : List ℕ → Option (List ℕ)) (faults_before : ℕ) (picked_before : Numbers) (told : List ℕ → Option (List ℕ)) (asked : List (List ℕ)) (faults : ℕ) (picked : Numbers) (left : ℕ → Option (List ℕ)) (note : List ℕ) (leaves : Bool) (sets : List SetDecl) (files : List Input) : Type 0 where
  pub are_of : AreOf (seen rulesets told_before) sets files
  pub whole : AreReadWhole picked_before picked left (length files)
  pub names : asked ≡ names_of files
  pub quiet : faults ≡ faults_before
  pub picks : (m : ℕ) → picked_before m → picked m
  pub same : (name : List ℕ) → told name ≡ told_before name
  pub same_seen : (name : List ℕ) → seen rulesets told name ≡ seen rulesets told_before name
  pub skips : AreAllSkips told_before rulesets (names_of files) note leaves

pub up-to-none : (rulesets : List (List ℕ)) (told : List ℕ → Option (List ℕ)) (asked : List (List ℕ)) (faults : ℕ) (picked : Numbers) (left : ℕ → Option (List ℕ)) (sets : List SetDecl) (note : List ℕ) (leaves : Bool) → asked ≡ [] → (note ≡ []) × (leaves ≡ false) → UpTo rulesets told faults picked told asked faults picked left note leaves sets []
up-to-none rulesets told asked faults picked left sets note leaves nothing fresh =
    record { are_of = tt; whole = none-whole picked picked left; names = nothing; quiet = refl; picks = λ m o. o; same = λ name. refl; same_seen = λ name. refl; skips = fresh }

module _ {rulesets : List (List ℕ)} {told_before told_mid told : List ℕ → Option (List ℕ)} {faults_before faults_mid faults : ℕ} {picked_before picked_mid picked : Numbers} {asked_mid asked : List (List ℕ)} {left_mid left : ℕ → Option (List ℕ)} {note_mid note : List ℕ} {leaves_mid leaves : Bool} {sets : List SetDecl} {files : List Input} where
  -- One file more was read.
  pub up-to-more : (i : Input) → UpTo rulesets told_before faults_before picked_before told_mid asked_mid faults_mid picked_mid left_mid note_mid leaves_mid sets files → ReadsAs (seen rulesets told_mid) i.name (IsOf i.form sets) → (asked ≡ asked_mid ++ i.name ∷ []) × (faults ≡ faults_mid)
      → ReadsToEnd picked_mid picked left → KeepsLeft picked_mid picked left_mid left → ((name : List ℕ) → told name ≡ told_mid name) → ((name : List ℕ) → seen rulesets told name ≡ seen rulesets told_mid name) → (lines : List ℕ) × (one : Bool) × (note ≡ note_mid ++ lines) × (leaves ≡ (leaves_mid || one)) × AreSkips told_mid rulesets i.name lines one
      → UpTo rulesets told_before faults_before picked_before told asked faults picked left note leaves sets (files ++ i ∷ [])
  up-to-more i u read quiet whole kept same same_seen adds = record {
    are_of = are-more (seen rulesets told_before) sets files i u.are_of (reads-same (seen rulesets told_mid) (seen rulesets told_before) i.name (IsOf i.form sets) u.same_seen read);
    whole = subst (λ (n : ℕ). AreReadWhole picked_before picked left n) (sym (length-append files (i ∷ []))) (whole-more picked_before picked_mid picked left_mid left (length files) u.whole kept u.picks whole);
    names = quiet.0 ∙ ap (λ ns. ns ++ i.name ∷ []) u.names ∙ sym (names-append files i);
    quiet = quiet.1 ∙ u.quiet;
    picks = λ m o. (kept m (u.picks m o)).0;
    same = λ name. same name ∙ u.same name;
    same_seen = λ name. same_seen name ∙ u.same_seen name;
    skips = subst (λ (ns : List (List ℕ)). AreAllSkips told_before rulesets ns note leaves) (sym (names-append files i))
        (subst (λ (t : List ℕ). AreAllSkips told_before rulesets (names_of files ++ i.name ∷ []) t leaves) (sym adds.2)
        (subst (λ (b : Bool). AreAllSkips told_before rulesets (names_of files ++ i.name ∷ []) (note_mid ++ adds.0) b) (sym adds.3)
        (more-skips told_before rulesets (names_of files) i.name note_mid adds.0 leaves_mid adds.1 u.skips (same-skips told_mid told_before rulesets i.name adds.0 adds.1 u.same adds.4))));
  }

-- A cause is a statement on the bytes that the shelf knew before, and on its counts then.
same-cause : (told other : List ℕ → Option (List ℕ)) (sets : List SetDecl) (names others asked : List (List ℕ)) (before mid now : ℕ) (i : Input) (fault : FileFault) → ((name : List ℕ) → told name ≡ other name) → others ≡ names → mid ≡ before
    → IsFileCause told sets others i asked mid now fault → IsFileCause other sets names i asked before now fault
same-cause told other sets names others asked before mid now i (Bad flaw) same e quiet h = (h.0 ∙ ap (λ ns. ns ++ i.name ∷ []) e, h.1 ∙ quiet, h.2, reads-same told other i.name (λ text. IsFlawed sets text flaw) same h.3)
same-cause told other sets names others asked before mid now i (ReadFault name) same e quiet h = (h.0 ∙ ap (λ ns. ns ++ i.name ∷ []) e, h.1, subst (λ (n : ℕ). Rose n now) quiet h.2)
same-cause told other sets names others asked before mid now i (TooLarge name) same e quiet h = (h.0 ∙ ap (λ ns. ns ++ i.name ∷ []) e, h.1, h.2 ∙ quiet, λ text at. h.3 text (same i.name ∙ at))
same-cause told other sets names others asked before mid now i Memory same e quiet h = (subst (λ (ns : List (List ℕ)). AsksOnce ns asked i.name) e h.0, h.1 ∙ quiet)

-- The next file can't be had.
module _ {rulesets : List (List ℕ)} {told_before told_mid : List ℕ → Option (List ℕ)} {faults_before faults_mid faults : ℕ} {picked_before picked_mid picked : Numbers} {asked_mid asked : List (List ℕ)} {left_mid left : ℕ → Option (List ℕ)} {note_mid : List ℕ} {leaves_mid : Bool} {sets : List SetDecl} {files : List Input} {noted_before noted_mid noted : Option (List ℕ)} where
  pub stops : (c : Command) (i : Input) (later : List Input) (fault : FileFault) → inputs c ≡ files ++ i ∷ later → UpTo rulesets told_before faults_before picked_before told_mid asked_mid faults_mid picked_mid left_mid note_mid leaves_mid sets files
      → KeepsLeft picked_mid picked left_mid left → IsFileCause (seen rulesets told_mid) sets asked_mid i asked faults_mid faults fault → noted_mid ≡ noted_before → MayTell (IsNoteOn (seen rulesets told_mid) sets i.name fault) noted_mid noted
      → StopsTelling (record { told = seen rulesets told_before; asked = asked; faults_before = faults_before; faults_now = faults; picked_before = picked_before; picked_now = picked; left = left }) c noted_before noted fault
  stops c i later fault in_order u kept cause silent tells = record {
    stops = record {
      sets = sets;
      earlier = files;
      input = i;
      later = later;
      in_order = in_order;
      read_before = record { are_of = u.are_of; whole = whole-kept picked_before picked_mid picked left_mid left (length files) u.whole kept };
      cause = same-cause (seen rulesets told_mid) (seen rulesets told_before) sets (names_of files) asked_mid asked faults_before faults_mid faults i fault u.same_seen u.names u.quiet cause;
    };
    noted = tells-as (IsNoteOn (seen rulesets told_mid) sets i.name fault) (IsNoteOn (seen rulesets told_before) sets i.name fault) noted_before noted (λ text is. same-note (seen rulesets told_mid) (seen rulesets told_before) sets i.name fault text u.same_seen is)
        (subst (λ (b : Option (List ℕ)). MayTell (IsNoteOn (seen rulesets told_mid) sets i.name fault) b noted) silent tells);
  }

-- All files of a command were read. This is skipped of those that are rulesets.
pub has-read : {rulesets : List (List ℕ)} {told_before told : List ℕ → Option (List ℕ)} {faults_before faults : ℕ} {picked_before picked : Numbers} {asked : List (List ℕ)} {left : ℕ → Option (List ℕ)} {note : List ℕ} {leaves : Bool} {sets : List SetDecl} {files : List Input} (c : Command) → inputs c ≡ files
    → UpTo rulesets told_before faults_before picked_before told asked faults picked left note leaves sets files
    → HasRead (record { told = seen rulesets told_before; asked = asked; faults_before = faults_before; faults_now = faults; picked_before = picked_before; picked_now = picked; left = left }) c × AreAllSkips told_before rulesets (names_of (inputs c)) note leaves
has-read {rulesets} {told_before} {told} {faults_before} {faults} {picked_before} {picked} {asked} {left} {note} {leaves} {sets} {files} c all u = (
  record {
    sets = sets;
    all = subst (λ (fs : List Input). AreRead (record { told = seen rulesets told_before; asked = asked; faults_before = faults_before; faults_now = faults; picked_before = picked_before; picked_now = picked; left = left }) sets fs) (sym all) (record { are_of = u.are_of; whole = u.whole });
    asked = u.names ∙ ap names_of (sym all);
    quiet = u.quiet;
  },
  subst (λ (fs : List Input). AreAllSkips told_before rulesets (names_of fs) note leaves) (sym all) u.skips,
)

-- The first file of a command of a script.
pub script-first : (name : Bor (List ℕ)) (task : Task) (goes : Bool) → (later : List Input) × (inputs (plain (asked.Script name task goes)) ≡ record { name = name.now; form = script } ∷ later)
script-first name (tasks.Run k n) goes = (record { name = k.now; form = keys } ∷ [], refl)
script-first name tasks.List goes = ([], refl)
script-first name tasks.Dump goes = ([], refl)
script-first name tasks.Stat goes = ([], refl)
script-first name tasks.Desk goes = ([], refl)
script-first name (tasks.Get k m) goes = ([], refl)
script-first name (tasks.Explain k) goes = (record { name = k.now; form = keys } ∷ [], refl)
script-first name (tasks.Judge r k n) goes = (record { name = r.now; form = rules } ∷ record { name = k.now; form = keys } ∷ [], refl)
script-first name (tasks.Capture p f n) goes = (record { name = p.now; form = plan } ∷ record { name = f.now; form = capture } ∷ [], refl)
script-first name (tasks.JudgeCapture r p f n) goes = (record { name = r.now; form = rules } ∷ record { name = p.now; form = plan } ∷ record { name = f.now; form = capture } ∷ [], refl)
