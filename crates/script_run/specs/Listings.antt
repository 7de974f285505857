-- What the commands `list` and `dump` write: the events of the control, and then the last generation.
use Rattle.std.specs.Prelude.{ℕ, List, ◌++◌}
use Rattle.set_model.specs.declared.script.Script.{Script}
use Rattle.set_model.specs.Control.{Mode, history}
use Rattle.set_report.specs.Remarks.{remarks_text}
use Rattle.set_report.specs.ListText.{list_text}
use Rattle.set_report.specs.DumpText.{dump_text}

-- The last generation of a script as a script, at the script's last moment, after the events of the
-- control.
abbrev pub listing_text : Mode → Script → List ℕ
listing_text mode script =
    let c = history mode script.schema script.sections in
    remarks_text script.schema c.events ++ list_text script.schema c.last.sets script.last

-- The tables of the last generation of a script, after the events of the control.
abbrev pub tables_text : Mode → Script → List ℕ
tables_text mode script =
    let c = history mode script.schema script.sections in
    remarks_text script.schema c.events ++ dump_text script.schema c.last.sets
