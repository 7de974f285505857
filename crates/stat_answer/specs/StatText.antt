-- What `stat` writes: a line for each set, a line for each of its fields, and the bytes of all its fields.
use Rattle.std.specs.Prelude.{ℕ, ◌-◌, List, ◌++◌, length, zip, count_by, codes, decimal, Option, Some, None}
use Rattle.std.specs.List.{flat_map, range_with_len}
use Rattle.addr_text.specs.Written.{time_text}
use Rattle.expiry_scan.specs.Expired.{is_expired}
use Rattle.set_model.specs.declared.element.Element.{Element}
use Rattle.set_model.specs.declared.kind.Kind.{Kind}
use Rattle.set_model.specs.declared.script.Script.{Script}
use Rattle.set_model.specs.declared.script.SetDecl.{SetDecl}
use Rattle.set_model.specs.Control.{Mode, history}
use Rattle.set_model.specs.SetState.{State}
use Rattle.set_model.specs.Text.{set_text, line_feed}
use Rattle.set_report.specs.Remarks.{remarks_text}
use Rattle.stat_answer.specs.declared.figures.FieldFigures.{FieldFigures}
use Rattle.stat_answer.specs.Figures.{ages_of, field_figures, all_bytes}

-- the end of a set's line: the time until the next expiry
abbrev pub next_end : ℕ → Option ℕ → List ℕ
next_end now None = codes "none\n"
next_end now (Some expiry) = time_text (expiry - now) ++ line_feed

-- the front of a set's line, by its numbers of elements
abbrev pub set_front : SetDecl → ℕ → ℕ → ℕ → List ℕ
set_front d elements expired expiring =
    codes "set " ++ (set_text (Some d) ++ (codes " elements " ++ (decimal elements ++ (codes " expired " ++ (decimal expired ++ (codes " expiring " ++ (decimal expiring ++ codes " next ")))))))

-- `set ip filter s elements 4 expired 1 expiring 2 next 5m`: a set's elements, those that are expired, those that are live and expire
-- later, and the time until the first of these does.
abbrev pub set_line : ℕ → SetDecl → List Element → List ℕ
set_line now d es = set_front d (length es) (count_by (is_expired now) es) (ages_of now es).expiring ++ next_end now (ages_of now es).next

-- `field 0 width 8 rules 3 bytes 8192`
abbrev pub field_line : ℕ → FieldFigures → List ℕ
field_line f figures =
    codes "field " ++ (decimal f ++ (codes " width " ++ (decimal figures.width ++ (codes " rules " ++ (decimal figures.rules ++ (codes " bytes " ++ (decimal figures.bytes ++ line_feed)))))))

-- the lines of the first n fields
abbrev pub field_lines : List Kind → List Element → ℕ → List ℕ
field_lines kinds es n = flat_map (λ f. field_line f (field_figures kinds es f)) (range_with_len 0 n)

-- `total bytes 12288`
abbrev pub total_line : ℕ → List ℕ
total_line bytes = codes "total bytes " ++ (decimal bytes ++ line_feed)

-- a declared set in this state: its line, the lines of its fields, and their bytes together
abbrev pub set_stat : ℕ → SetDecl × State → List ℕ
set_stat now (d, s) = set_line now d s.elements ++ (field_lines s.kinds s.elements (length s.kinds) ++ total_line (all_bytes s.kinds s.elements))

-- The figures of the declared sets in these states, at a moment.
abbrev pub sets_stat : ℕ → List SetDecl → List State → List ℕ
sets_stat now schema sets = flat_map (set_stat now) (zip schema sets)

-- What `stat` writes of a script: the events of the control, and then the figures of the last generation at the script's last moment.
abbrev pub stat_text : Mode → Script → List ℕ
stat_text mode script =
    let c = history mode script.schema script.sections in
    remarks_text script.schema c.events ++ sets_stat script.last script.schema c.last.sets
