-- What `list --json` writes: the last generation on one line.
use Rattle.std.specs.Prelude.{ℕ, List, ◌++◌, codes}
use Rattle.serde_json.specs.Written.{compact_text}
use Rattle.set_model.specs.declared.script.SetDecl.{SetDecl}
use Rattle.set_model.specs.declared.script.Script.{Script}
use Rattle.set_model.specs.Control.{Mode, history}
use Rattle.set_model.specs.SetState.{State}
use Rattle.list_json.specs.JsonSets.{ruleset_data}

-- The declared sets with these states at a moment, on one line.
abbrev pub ruleset_line : List SetDecl → List State → ℕ → List ℕ
ruleset_line schema sets now = compact_text (ruleset_data schema sets now) ++ codes "\n"

-- The last generation of a script, at the script's last moment.
abbrev pub listing_line : Mode → Script → List ℕ
listing_line mode script = ruleset_line script.schema (history mode script.schema script.sections).last.sets script.last
