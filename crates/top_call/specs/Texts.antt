-- The text of a command's answer in each form.
use Rattle.std.specs.Prelude.{ℕ, if◌then◌else◌, List}
use Rattle.set_model.specs.declared.packet.Packet.{Packet}
use Rattle.set_model.specs.declared.report.Line.{Line}
use Rattle.set_model.specs.declared.script.Script.{Script}
use Rattle.set_model.specs.Control.{Mode}
use Rattle.set_model.specs.Text.{run_text, transcript_text}
use Rattle.command_words.specs.declared.form.AnswerForm.{AnswerForm}
use Rattle.element_lines.specs.ElementLines.{element_lines}
use Rattle.list_json.specs.JsonListing.{listing_line}
use Rattle.script_run.specs.Listings.{listing_text}

-- The text of a run is its transcript. With `--elements` the line of a packet also has the element that was found, and the line of
-- the script that added it.
abbrev pub run_output : AnswerForm → Mode → Script → List (List Packet) → List Line → List ℕ
run_output answer mode script keys lines =
    if answer.has_elements then run_text (element_lines mode script keys) mode script keys lines
    else transcript_text mode script keys lines

-- The text of a listing is a script, after what the control reported. As JSON it is the sets alone, as nft has them.
abbrev pub listing_output : AnswerForm → Mode → Script → List ℕ
listing_output answer mode script = if answer.is_json then listing_line mode script else listing_text mode script
