-- The refused changes of a command, and the note on them.
use Rattle.std.specs.Prelude.{◌≡◌, ◌⊎◌, ℕ, Bool, true, false, List, [], ◌∷◌, All, Option, Some, None, Result, Ok, Err, length, map, take}
use Rattle.set_model.specs.declared.script.Script.{Script}
use Rattle.set_model.specs.Control.{Mode, mode_of}
use Rattle.set_script.specs.ScriptText.{IsScriptText}
use Rattle.script_laws.specs.declared.output.Output.{Output}
use Rattle.script_laws.specs.declared.refusals.Refusal.{Refusal}
use Rattle.script_laws.specs.Reports.{IsReportOn, ends_failed, has_failed, refusals_of}
use Rattle.desk_run.specs.DeskText.{IsDeskOutput, IsDeskText, all_told, desk_refusals}
use Rattle.command_words.specs.Words.{Command, run, list, dump, drill, judge, capture, desk, get, explain, compare, stat, judge_capture, sets_of}
use Rattle.set_model.specs.declared.memory.Memory.{Memory}
use Rattle.pip_base.specs.Notes.{Tells}
use Rattle.fault_notes.specs.declared.refused.RefusedChange.{RefusedChange}
use Rattle.token_notes.specs.Shown.{IsNoteByte}
use Rattle.fault_notes.specs.Refusals.{IsRefusalsNote}
use Rattle.input_files.specs.Inputs.{Input, inputs}
use Rattle.input_files.specs.declared.work.Work.{Work}
use Rattle.input_files.specs.declared.work.Work.TheVariants as works

-- A run of one control shows what was committed, also if its last transaction failed.
abbrev pub shows_all : Mode → Script → Bool
shows_all mode s = false

-- The refused changes of the script with this text, if one control runs it alone. Also whether its output shows the generation
-- before a last transaction that failed.
abbrev pub AreRefusedAlone : (Mode → Script → Bool) → List ℕ → Mode → List Refusal → Bool → Type 0
AreRefusedAlone shows script_text mode refusals failed = (s : Script) × IsScriptText script_text s × (refusals ≡ refusals_of mode s) × (failed ≡ shows mode s)

-- The refused changes of a command, by the bytes under its files' names, and whether its output is a listing or a dump before a
-- last transaction that failed. Those of a desk are of the log that its output reports. A comparison has them in its text, each
-- with its script's name, and leaves none for a note.
abbrev pub AreRefused : Command → (List ℕ → Option (List ℕ)) → Bool → List ℕ → List Refusal → Bool → Type 0
AreRefused (run script keys threads keep_going) told refused output refusals failed = (text : List ℕ) → told script ≡ Some text → AreRefusedAlone shows_all text (mode_of keep_going) refusals failed
AreRefused (list script keep_going) told refused output refusals failed = (text : List ℕ) → told script ≡ Some text → AreRefusedAlone ends_failed text (mode_of keep_going) refusals failed
AreRefused (dump script keep_going) told refused output refusals failed = (text : List ℕ) → told script ≡ Some text → AreRefusedAlone ends_failed text (mode_of keep_going) refusals failed
AreRefused (stat script keep_going) told refused output refusals failed = (text : List ℕ) → told script ≡ Some text → AreRefusedAlone ends_failed text (mode_of keep_going) refusals failed
AreRefused (drill seed count threads) told refused output refusals failed = Unit {0}
AreRefused (judge script rules keys threads keep_going) told refused output refusals failed = (text : List ℕ) → told script ≡ Some text → AreRefusedAlone shows_all text (mode_of keep_going) refusals failed
AreRefused (judge_capture script rules plan packets threads keep_going) told refused output refusals failed = (text : List ℕ) → told script ≡ Some text → AreRefusedAlone shows_all text (mode_of keep_going) refusals failed
AreRefused (capture script plan packets threads keep_going) told refused output refusals failed = (text : List ℕ) → told script ≡ Some text → AreRefusedAlone shows_all text (mode_of keep_going) refusals failed
AreRefused (desk script keep_going) told refused output refusals failed =
    (text : List ℕ) → told script ≡ Some text → (s : Script) × IsScriptText text s × (d : IsDeskText s keep_going refused output) × (refusals ≡ desk_refusals keep_going s d.log) × (failed ≡ has_failed (all_told keep_going s d.log))
AreRefused (get script key moment keep_going) told refused output refusals failed = (text : List ℕ) → told script ≡ Some text → AreRefusedAlone shows_all text (mode_of keep_going) refusals failed
AreRefused (explain script keys keep_going) told refused output refusals failed = (text : List ℕ) → told script ≡ Some text → AreRefusedAlone shows_all text (mode_of keep_going) refusals failed
AreRefused (sets_of file) told refused output refusals failed = (refusals ≡ []) × (failed ≡ false)
AreRefused (compare first second keep_going) told refused output refusals failed = (refusals ≡ []) × (failed ≡ false)

-- An output has the refused changes of a command's work as data.
abbrev pub GivesRefusals : Work → Output → Type 0
GivesRefusals (works.Run s packets threads keep_going) out = IsReportOn (mode_of keep_going) s out × (out.failed ≡ false)
GivesRefusals (works.List s keep_going) out = IsReportOn (mode_of keep_going) s out × (out.failed ≡ ends_failed (mode_of keep_going) s)
GivesRefusals (works.Dump s keep_going) out = IsReportOn (mode_of keep_going) s out × (out.failed ≡ ends_failed (mode_of keep_going) s)
GivesRefusals (works.Stat s keep_going) out = IsReportOn (mode_of keep_going) s out × (out.failed ≡ ends_failed (mode_of keep_going) s)
GivesRefusals (works.Drill seed count threads) out = Unit {0}
GivesRefusals (works.Capture s plan frames threads keep_going) out = IsReportOn (mode_of keep_going) s out × (out.failed ≡ false)
GivesRefusals (works.Judge s file packets threads keep_going) out = IsReportOn (mode_of keep_going) s out × (out.failed ≡ false)
GivesRefusals (works.JudgeCapture s file plan frames threads keep_going) out = IsReportOn (mode_of keep_going) s out × (out.failed ≡ false)
GivesRefusals (works.Desk s keep_going) out = IsDeskOutput s keep_going out
GivesRefusals (works.Get s key moment keep_going) out = IsReportOn (mode_of keep_going) s out × (out.failed ≡ false)
GivesRefusals (works.Explain s packets keep_going) out = IsReportOn (mode_of keep_going) s out × (out.failed ≡ false)
GivesRefusals (works.Sets f whole sieved) out = (out.refusals.items ≡ []) × (out.failed ≡ false)
GivesRefusals (works.Compare a s b t keep_going) out = (out.refusals.items ≡ []) × (out.failed ≡ false)

-- the script of a command, the first of its files, has this name
abbrev pub NamesScript : Command → List ℕ → Type 0
NamesScript c name = (first : Input) × (rest : List Input) × (inputs c ≡ first ∷ rest) × (first.name ≡ name)

-- the most refused changes that have a line each
abbrev pub most_told : ℕ
most_told = 20

-- a refused change as a note has it
abbrev pub change_of : Refusal → RefusedChange
change_of r = record { line = r.line; set = r.set; why = r.why }

-- The note on refused changes: a line for each of the first ones, with its place, and then how many more there are. If the output
-- shows the generation before a last transaction that failed, a line says so.
abbrev pub IsNoteOnChanges : List ℕ → List Refusal → Bool → List ℕ → Type 0
IsNoteOnChanges name refusals failed text = IsRefusalsNote name (map change_of (take most_told refusals)) (length refusals) failed text

-- The note on a command's refused changes is due: its output reports one.
abbrev pub IsNoteDue : Command → Bool → List Refusal → Bool → List ℕ → Type 0
IsNoteDue c refused refusals failed text = (name : List ℕ) × NamesScript c name × (refused ≡ true) × IsNoteOnChanges name refusals failed text

-- This note was written, and nothing else.
abbrev pub HasTold : (List ℕ → Type 0) → Option (List ℕ) → Option (List ℕ) → Type 0
HasTold IsNote before now = (text : List ℕ) × All IsNoteByte text × IsNote text × Tells before now text

-- An output has no refused change to tell of: it reports none, or its command has no script.
abbrev pub HasNothingToTell : Command → Output → Type 0
HasNothingToTell c out = (out.refused ≡ false) ⊎ (out.refusals.items ≡ []) ⊎ (out.script ≡ None) ⊎ ((name : List ℕ) → NamesScript c name → ⊥)

-- The answer to whether a note on an output's refused changes was written, for the one who has the script's name.
abbrev pub TellsOf : (List ℕ → Type 0) → Output → Option (List ℕ) → Option (List ℕ) → Result Bool Memory → Type 0
TellsOf IsNote out before now (Ok true) = HasTold IsNote before now
TellsOf IsNote out before now (Ok false) = ((out.refusals.items ≡ []) ⊎ (out.script ≡ None)) × (now ≡ before)
TellsOf IsNote out before now (Err e) = now ≡ before

-- The answer to whether the note on refused changes was written: it was; or there is none; or memory ran out, and nothing was
-- written.
abbrev pub TellsChanges : Command → Output → Option (List ℕ) → Option (List ℕ) → Result Bool Memory → Type 0
TellsChanges c out before now (Ok true) = HasTold (IsNoteDue c out.refused out.refusals.items out.failed) before now
TellsChanges c out before now (Ok false) = HasNothingToTell c out × (now ≡ before)
TellsChanges c out before now (Err e) = now ≡ before
