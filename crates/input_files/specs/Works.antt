-- What a command works on, by the texts of its files.
use Rattle.std.specs.Prelude.{◌≡◌, ◌≤◌, ◌<◌, ℕ, List, Option, Some, All, map}
use Rattle.set_model.specs.declared.script.Script.{Script}
use Rattle.set_model.specs.declared.script.SetDecl.{SetDecl}
use Rattle.std.specs.String.{string_bytes}
use Rattle.set_model.specs.Runnable.{IsRunnable, IsFitting}
use Rattle.set_script.specs.ScriptText.{IsScriptText}
use Rattle.ruleset_sets.specs.declared.skipped.Skipped.{Skipped}
use Rattle.ruleset_sets.specs.Kept.{IsKept, all_taken, notes}
use Rattle.key_file.specs.KeysText.{IsKeysText}
use Rattle.rule_chain.specs.RulesText.{IsRulesText}
use Rattle.pcap_keys.specs.CapturedPackets.{IsCapture}
use Rattle.pcap_keys.specs.Fitting.{HasValues, IsPlanned}
use Rattle.pcap_keys.specs.PlansText.{IsPlanText}
use Rattle.command_words.specs.Words.{Command, run, list, dump, drill, judge, capture, desk, get, explain, compare, stat, judge_capture, sets_of}
use Rattle.input_files.specs.declared.files.RulesFile.{RulesFile}
use Rattle.input_files.specs.declared.work.Work.{Work}
use Rattle.input_files.specs.declared.work.Work.TheVariants as works
use Rattle.input_files.specs.Inputs.{ReadsAs}

-- This is kept of a ruleset: a script of the same length. What isn't kept has its notes.
pub record AreSetsOf (text kept : List ℕ) (skips : List Skipped) : Type 0 where
  pub script : Script
  pub is_kept : IsKept text (all_taken text) kept
  pub is_script : IsScriptText kept script
  pub skips_are : skips ≡ notes text

-- A rules file for the sets of a script has these chains, and this text, if its bytes are known.
pub record IsRulesFile (told : List ℕ → Option (List ℕ)) (sets : List SetDecl) (file : RulesFile) : Type 0 where
  pub read : ReadsAs told file.name.now (λ text. IsRulesText sets text (file.chains.chains, file.chains.accept))
  pub is_text : (text : List ℕ) → told file.name.now ≡ Some text → file.text.items ≡ text

-- This is what a command works on: what the texts of its files mean, and the options of its words.
abbrev pub IsWork : (List ℕ → Option (List ℕ)) → Command → Work → Type 0
IsWork told c (works.Run script keys threads keep_going) =
    (s : List ℕ) × (k : List ℕ) × (c ≡ run s k threads keep_going) × ReadsAs told s (λ text. IsScriptText text script) × ReadsAs told k (λ text. IsKeysText script.schema text keys)
IsWork told c (works.List script keep_going) = (s : List ℕ) × (c ≡ list s keep_going) × ReadsAs told s (λ text. IsScriptText text script)
IsWork told c (works.Dump script keep_going) = (s : List ℕ) × (c ≡ dump s keep_going) × ReadsAs told s (λ text. IsScriptText text script)
IsWork told c (works.Stat script keep_going) = (s : List ℕ) × (c ≡ stat s keep_going) × ReadsAs told s (λ text. IsScriptText text script)
IsWork told c (works.Drill seed count threads) = c ≡ drill seed count threads
IsWork told c (works.Judge script file keys threads keep_going) =
    (s : List ℕ) × (k : List ℕ) × (c ≡ judge s file.name.now k threads keep_going) × ReadsAs told s (λ text. IsScriptText text script)
    × IsRulesFile told script.schema file × ReadsAs told k (λ text. IsKeysText script.schema text keys)
IsWork told c (works.JudgeCapture script file plan frames threads keep_going) =
    (s : List ℕ) × (p : List ℕ) × (f : List ℕ) × (c ≡ judge_capture s file.name.now p f threads keep_going) × ReadsAs told s (λ text. IsScriptText text script)
    × IsRulesFile told script.schema file × ReadsAs told p (λ text. IsPlanText script.schema text plan) × ReadsAs told f (λ text. IsCapture text frames)
IsWork told c (works.Capture script plan frames threads keep_going) =
    (s : List ℕ) × (p : List ℕ) × (f : List ℕ) × (c ≡ capture s p f threads keep_going) × ReadsAs told s (λ text. IsScriptText text script)
    × ReadsAs told p (λ text. IsPlanText script.schema text plan) × ReadsAs told f (λ text. IsCapture text frames)
IsWork told c (works.Get script key moment keep_going) = (s : List ℕ) × (c ≡ get s (map string_bytes key.now) moment keep_going) × ReadsAs told s (λ text. IsScriptText text script)
IsWork told c (works.Explain script keys keep_going) =
    (s : List ℕ) × (k : List ℕ) × (c ≡ explain s k keep_going) × ReadsAs told s (λ text. IsScriptText text script) × ReadsAs told k (λ text. IsKeysText script.schema text keys)
IsWork told c (works.Desk script keep_going) = (s : List ℕ) × (c ≡ desk s keep_going) × ReadsAs told s (λ text. IsScriptText text script)
IsWork told c (works.Sets f whole sieved) = (c ≡ sets_of f.now) × ReadsAs told f.now (λ text. (whole.items ≡ text) × AreSetsOf text sieved.text.items sieved.skips)
IsWork told c (works.Compare a s b t keep_going) = (c ≡ compare a.now b.now keep_going) × ReadsAs told a.now (λ text. IsScriptText text s) × ReadsAs told b.now (λ text. IsScriptText text t)

-- There is at least one packet thread, and there are at most sixteen.
abbrev pub FewThreads : ℕ → Type 0
FewThreads threads = (0 < threads) × (threads ≤ 16)

-- The work is consistent: its steps and keys fit the declared sets.
abbrev pub IsDoable : Work → Type 0
IsDoable (works.Run script keys threads keep_going) = IsRunnable script × All (All (IsFitting script.schema)) keys × FewThreads threads
IsDoable (works.List script keep_going) = IsRunnable script
IsDoable (works.Dump script keep_going) = IsRunnable script
IsDoable (works.Stat script keep_going) = IsRunnable script
IsDoable (works.Drill seed count threads) = FewThreads threads
IsDoable (works.Judge script file keys threads keep_going) = IsRunnable script × (file.chains.schema ≡ script.schema) × All (All (IsFitting script.schema)) keys × FewThreads threads
IsDoable (works.JudgeCapture script file plan frames threads keep_going) = IsRunnable script × (file.chains.schema ≡ script.schema) × All (IsPlanned script.schema) plan × All HasValues frames × FewThreads threads
IsDoable (works.Capture script plan frames threads keep_going) = IsRunnable script × All (IsPlanned script.schema) plan × All HasValues frames × FewThreads threads
IsDoable (works.Desk script keep_going) = IsRunnable script
IsDoable (works.Get script key moment keep_going) = IsRunnable script
IsDoable (works.Explain script keys keep_going) = IsRunnable script × All (All (IsFitting script.schema)) keys
IsDoable (works.Sets f whole sieved) = Unit {0}
IsDoable (works.Compare a s b t keep_going) = IsRunnable s × IsRunnable t
