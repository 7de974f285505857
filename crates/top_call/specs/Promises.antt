-- What a call of the program promises. Read two clauses first: by `ends` every status has its cause, and by `exact`
-- each cause has its status.
use Rattle.std.specs.Prelude.{◌≡◌, ◌≢◌, ◌⊎◌, ℕ, List}
use Rattle.command_words.specs.declared.page.Page.{Page}
use Rattle.command_words.specs.Words.{Command, AsksFor, IsCommand, IsSetsCommand}
use Rattle.input_files.specs.Inputs.{FileForm}
use Rattle.top_call.specs.Calls.{Call, IsQuiet}
use Rattle.top_call.specs.Lines.{form_status}
use Rattle.top_call.specs.Names.{AsksInOrder, AsksForAll}
use Rattle.top_call.specs.Answers.{EndsDuly, IsComplete, Transcribes, Judges, Captures, Lists, Dumps, Weaves, AnswersKeys, ExplainsKeys, Compares, Counts, Drills, TellsPage, TellsReadFault, TellsFlaw, TellsTooMany, TellsBadKey, JudgesCaptures, WritesSets}
use Rattle.top_call.specs.Exactly.{IsExact, Completes}
use Rattle.top_call.specs.Noted.{IsNoted}
use Rattle.top_call.specs.Unmet.{TellsUnmet}

-- All other promises follow from these: how the call ends, which files were read, and which note was written.
pub record Goes (c : Call) : Type 0 where
  pub ends : EndsDuly c
  pub names : AsksInOrder c.words c.shelf
  pub all_read : IsComplete c.status → AsksForAll c.words c.shelf
  pub noted : IsNoted c

pub record Promises (c : Call) : Type 0 where
  -- Every status has its cause, and what was written is due.
  pub ends : EndsDuly c
  -- If no count of faults rose, each status comes exactly if the words and the files call for it. Only memory may run
  -- out instead.
  pub exact : IsQuiet c → IsExact c
  -- If the files are of their forms too, the output of exactly these files was written, or memory ran out.
  pub complete : IsQuiet c → Completes c
  -- With status 0 or 1 the sink took the text of a legal transcript. The status is 1 exactly if a change is refused.
  pub run : IsComplete c.status → Transcribes c
  -- The same holds if chains judge the packets, of the packets of a capture, and of both.
  pub judge : IsComplete c.status → Judges c
  pub capture : IsComplete c.status → Captures c
  pub judge_capture : IsComplete c.status → JudgesCaptures c
  -- In the same way the sink took the listing of the last generation, its tables, or its figures.
  pub list : IsComplete c.status → Lists c
  pub dump : IsComplete c.status → Dumps c
  pub stat : IsComplete c.status → Counts c
  -- Of a desk the sink took the text of a log. The log is woven of the script's sections, and replays to the listed
  -- generation. The status is 1 exactly if that text reports a refusal.
  pub desk : IsComplete c.status → Weaves c
  -- Of a `get` the sink took the refused changes, and then the earliest live element of the last generation that holds
  -- the key, with the line of the addition that made it; or `none` exactly if there is no such element. The status is 0
  -- exactly if there is one and no change is refused.
  pub get : IsComplete c.status → AnswersKeys c
  -- Of an `explain` the sink took the refused changes, and then the explanation of each packet of the key file. A packet is looked up
  -- at its own moment, in the last generation of its section. If a live element holds the packet's key, the earliest comes with the line of the addition that
  -- made it, and the later ones follow. Else come how many live elements hold each value of the key, and the earliest of those that
  -- hold the most values. The status is 0 exactly if each packet has an element and no change is refused.
  pub explain : IsComplete c.status → ExplainsKeys c
  -- Of a `compare` the sink took the refused changes of both scripts, and then a line for each set. It says `same` exactly if for
  -- each key that fits both sets have an element or neither has. Else there is a line for each direction in which they differ. It
  -- has the least key there, the first live element that holds it, and the line of the addition that made this element. The
  -- status is 0 exactly if all sets are the same and no change is refused.
  pub compare : IsComplete c.status → Compares c
  -- Of the sets of a ruleset the sink took what is kept of it: a text of the same length, which is a script and means these sets.
  -- The status is 0 exactly if no set is left out. A note names each item and part that isn't kept.
  pub sets : IsComplete c.status → WritesSets c
  -- Of a drill the sink took its one line, and of words that ask for a page the page. The status is 0.
  pub drill : IsComplete c.status → Drills c
  pub page : IsComplete c.status → TellsPage c
  -- The shelf is asked for no name but those of the command's files, in their order. A file is asked for only if
  -- those before it were read whole and accepted. With status 0 or 1 all were read. They were read to their ends, if
  -- the shelf shows what is left of them; the system's files don't.
  pub names : AsksInOrder c.words c.shelf
  pub all_read : IsComplete c.status → AsksForAll c.words c.shelf
  -- With the status of a form the sink took the line of what is wrong with a file of a form with this status.
  pub bad : (form : FileForm) → c.status ≡ form_status form → TellsFlaw (form_status form) c
  -- With status 12 the sink took the line of a desk's script that was read and has too many sections.
  pub too_many : c.status ≡ 12 → TellsTooMany c
  -- With status 13 the sink took the line of the words of a `get` that are no key of its script's sets.
  pub bad_key : c.status ≡ 13 → TellsBadKey c
  -- With status 5 the shelf's count rose, at the file that the line names: the last one asked for.
  pub read_fault : c.status ≡ 5 → TellsReadFault c
  -- The shelf's count rose only with 5 or 6, and the sink's only with 6.
  pub shelf_count : c.shelf.faults_now ≢ c.shelf.faults_before → (c.status ≡ 5) ⊎ (c.status ≡ 6)
  pub sink_count : c.faults_now ≢ c.faults_before → c.status ≡ 6
  -- First come the lines on the tests of rules that no packet can meet: exactly these tests, by the definition, if the whole output
  -- was written. They come with a `judge` alone. After them no note is written; or one on words that are no command, on why and in
  -- which place a file can't be had, or on the refused changes, or on what isn't kept of a ruleset. With status 0 only this last one
  -- is written, and beside it exactly those lines. If the words ask for a page there is no note.
  pub noted : IsNoted c
  pub no_note : c.status ≡ 0 → ((file : List ℕ) → IsSetsCommand c.words file → ⊥) → (d : Command) → IsCommand c.words d → TellsUnmet c.shelf.told d c.noted_before c.noted_now
  pub page_without_note : (p : Page) → AsksFor c.words p → c.noted_now ≡ c.noted_before
