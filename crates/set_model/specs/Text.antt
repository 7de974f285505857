-- The text of a transcript: for each section the control's events, and then one line per packet.
use Rattle.std.specs.Prelude.{ℕ, ◌+◌, ◌-◌, max, List, [], ◌∷◌, ◌++◌, length, take, drop, Option, Some, None, slice_get, codes, decimal}
use Rattle.std.specs.List.{flat_map, range_with_len}
use Rattle.set_model.specs.declared.script.Script.{Script}
use Rattle.set_model.specs.declared.script.SetDecl.{SetDecl}
use Rattle.set_model.specs.declared.script.Family.{Family}
use Rattle.set_model.specs.declared.script.Family.TheVariants.{Ip, Ip6, Inet, Arp, Bridge, Netdev}
use Rattle.set_model.specs.declared.packet.Packet.{Packet}
use Rattle.set_model.specs.declared.packet.Verdict.{Verdict}
use Rattle.set_model.specs.declared.packet.Verdict.TheVariants as verdicts
use Rattle.set_model.specs.declared.report.Line.{Line}
use Rattle.set_model.specs.declared.report.Why.{Why}
use Rattle.set_model.specs.declared.report.Why.TheVariants.{Overlap, Exists, Full, RulesFull, Missing}
use Rattle.set_model.specs.declared.report.Event.{Event}
use Rattle.set_model.specs.declared.report.Event.TheVariants.{Refused, Committed, Aborted, Dropped}
use Rattle.set_model.specs.Control.{Mode}
use Rattle.set_model.specs.Legal.{section_events}

abbrev pub line_feed : List ℕ
line_feed = 10 ∷ []

-- a word and the number after it
abbrev pub numbered : List ℕ → ℕ → List ℕ
numbered word n = word ++ codes " " ++ decimal n

abbrev pub family_text : Family → List ℕ
family_text Ip = codes "ip"
family_text Ip6 = codes "ip6"
family_text Inet = codes "inet"
family_text Arp = codes "arp"
family_text Bridge = codes "bridge"
family_text Netdev = codes "netdev"

-- a set: its family, its table's name and its own name
abbrev pub set_text : Option SetDecl → List ℕ
set_text None = []
set_text (Some d) = family_text d.family ++ codes " " ++ d.table ++ codes " " ++ d.name

-- why a change of a set was refused
abbrev pub why_text : List ℕ → Why → List ℕ
why_text set (Overlap id) = codes "overlap " ++ set ++ numbered (codes " element") id
why_text set (Exists id) = codes "exists " ++ set ++ numbered (codes " element") id
why_text set Full = codes "full " ++ set
why_text set (RulesFull field) = codes "rules " ++ set ++ numbered (codes " field") field
why_text set Missing = codes "missing " ++ set

-- the line of an event
abbrev pub event_text : List SetDecl → Event → List ℕ
event_text schema (Refused line set why) = numbered (codes "line") line ++ codes " refused " ++ why_text (set_text (slice_get schema set)) why ++ line_feed
event_text schema (Committed generation purged) = numbered (codes "commit generation") generation ++ numbered (codes " purged") purged ++ line_feed
event_text schema (Aborted generation) = numbered (codes "abort generation") generation ++ line_feed
event_text schema (Dropped generation) = numbered (codes "fail generation") generation ++ line_feed

abbrev pub verdict_text : Verdict → List ℕ
verdict_text verdicts.None = codes "none"
verdict_text (verdicts.Element id) = numbered (codes "element") id

-- the line of a packet
abbrev pub packet_text : Line → List ℕ
packet_text l = numbered (codes "packet") l.packet ++ numbered (codes " thread") l.thread ++ numbered (codes " generation") l.generation ++ codes " " ++ verdict_text l.verdict ++ line_feed

abbrev pub events_text : List SetDecl → List Event → List ℕ
events_text schema events = flat_map (event_text schema) events

-- the lines of packets, in a run that looks them up
abbrev pub lines_text : List Line → List ℕ
lines_text lines = flat_map packet_text lines

-- how many packets a key file has before its section j, and in it
abbrev pub packets_before : List (List Packet) → ℕ → ℕ
packets_before keys j = length (flat_map (λ packets. packets) (take (j - 1) keys))

abbrev pub packets_up_to : List (List Packet) → ℕ → ℕ
packets_up_to keys j = length (flat_map (λ packets. packets) (take j keys))

-- the lines of section j among the lines of all packets
abbrev pub section_lines : List (List Packet) → ℕ → List Line → List Line
section_lines keys j lines = drop (packets_before keys j) (take (packets_up_to keys j) lines)

-- how many sections a run has: the script's from 0 on, and the key file's from 1 on
abbrev pub section_count : Script → List (List Packet) → ℕ
section_count script keys = max (length script.sections) (length keys + 1)

-- The text of runs, given the text of their packets' lines: a lookup's or a judge's.
module _ (packets_text : List Line → List ℕ) where
  -- the text of section j
  abbrev pub section_text : Mode → Script → List (List Packet) → List Line → ℕ → List ℕ
  section_text mode script keys lines j = events_text script.schema (section_events mode script j) ++ packets_text (section_lines keys j lines)

  -- the text of a run
  abbrev pub run_text : Mode → Script → List (List Packet) → List Line → List ℕ
  run_text mode script keys lines = flat_map (section_text mode script keys lines) (range_with_len 0 (section_count script keys))

-- The text of a run whose packets are looked up.
abbrev pub transcript_text : Mode → Script → List (List Packet) → List Line → List ℕ
transcript_text = run_text lines_text
