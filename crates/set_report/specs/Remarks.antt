-- The events of a run's control, each line after a prefix. They come before a listing or a dump of its
-- sets.
use Rattle.std.specs.Prelude.{ℕ, List, ◌++◌, codes}
use Rattle.std.specs.List.{flat_map}
use Rattle.set_model.specs.declared.script.SetDecl.{SetDecl}
use Rattle.set_model.specs.declared.report.Event.{Event}
use Rattle.set_model.specs.Text.{event_text}

-- each event's line, after a prefix
abbrev pub told_text : List ℕ → List SetDecl → List Event → List ℕ
told_text prefix schema events = flat_map (λ event. prefix ++ event_text schema event) events

-- Each event's line after `# `, which nft(8) reads as a comment.
abbrev pub remarks_text : List SetDecl → List Event → List ℕ
remarks_text schema events = told_text (codes "# ") schema events
