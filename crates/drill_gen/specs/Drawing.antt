-- How a workload is drawn from the state of its generator, one element or packet after another.
use Rattle.std.specs.Prelude.{ℕ, ◌+◌, ◌*◌, ◌/◌, ◌%◌, ◌==◌, if◌then◌else◌, List, [], ◌∷◌, ◌++◌, length, None, slice_index_or}
use Rattle.set_model.specs.declared.kind.Interval.{Interval}
use Rattle.set_model.specs.declared.packet.Packet.{Packet}
use Rattle.set_model.specs.declared.script.Verb.TheVariants.{Add}
use Rattle.set_model.specs.declared.script.Step.{Step}
use Rattle.set_model.specs.declared.script.Step.TheVariants.{Change, Commit}
use Rattle.set_model.specs.declared.script.Script.{Script}
use Rattle.drill_gen.specs.declared.target.Range.{Range}
use Rattle.drill_gen.specs.declared.target.Target.{Target}
use Rattle.drill_gen.specs.Drill.{after_draws, draw_from, address, element_draw, address_span, port_span, span_from, value_in, drill_set}

abbrev pub range_interval : Range → Interval
range_interval r = span_from r.low r.span r.greatest

-- the value at an offset, which is taken modulo the number of values
abbrev pub value_at : Range → ℕ → ℕ
value_at r offset = value_in (range_interval r) (offset % (r.span + 1))

-- the element that the next four draws give
abbrev pub target_from : ℕ → Target
target_from x = record {
  addresses = record { low = address (draw_from x 0) (draw_from x 1); span = draw_from x 2 % 256; greatest = 4294967295 };
  ports = record { low = draw_from x 3; span = draw_from x 2 / 256 % 16; greatest = 65535 };
}

abbrev pub parts_of : Target → List Interval
parts_of t = range_interval t.addresses ∷ range_interval t.ports ∷ []

abbrev pub addition_of : Target → ℕ → Step
addition_of t line = Change line 0 Add (record { parts = parts_of t; expiry = None; comment = [] }) 0

-- a key in an element
abbrev pub key_of : Target → ℕ → List ℕ
key_of t offset = value_at t.addresses offset ∷ value_at t.ports offset ∷ []

-- element i of a seed
abbrev pub target_of : ℕ → ℕ → Target
target_of seed i = record {
  addresses = record { low = address (element_draw seed i 0) (element_draw seed i 1); span = address_span seed i; greatest = 4294967295 };
  ports = record { low = element_draw seed i 3; span = port_span seed i; greatest = 65535 };
}

-- element i after a state, and the step that adds it
abbrev pub target_at : ℕ → ℕ → Target
target_at x i = target_from (after_draws x (4 * i))

abbrev pub addition_at : ℕ → ℕ → Step
addition_at x i = addition_of (target_at x i) (i + 1)

-- the script of these steps in one transaction
abbrev pub one_transaction : List Step → Script
one_transaction steps = record { schema = drill_set ∷ []; sections = (steps ++ Commit 0 ∷ []) ∷ []; last = 0 }

-- the state before packet p
abbrev pub packet_state : ℕ → ℕ → ℕ
packet_state x p = after_draws x (5 * (p / 2) + 2 * (p % 2))

-- a key in one of the elements, by the next two draws
abbrev pub near_from : List Target → ℕ → List ℕ
near_from targets x = key_of (slice_index_or targets (draw_from x 0 % length targets) (target_from 0)) (draw_from x 1)

-- any key, by the next three draws
abbrev pub any_from : ℕ → List ℕ
any_from x = address (draw_from x 0) (draw_from x 1) ∷ draw_from x 2 ∷ []

-- packet p from a state, and how many draws it takes
abbrev pub packet_from : List Target → ℕ → ℕ → Packet
packet_from targets x p = record { set = 0; key = if p % 2 == 0 then near_from targets x else any_from x; now = 0 }

abbrev pub packet_draws : ℕ → ℕ
packet_draws p = if p % 2 == 0 then 2 else 3

-- packet p after the elements' state
abbrev pub drawn_packet : List Target → ℕ → ℕ → Packet
drawn_packet targets x p = packet_from targets (packet_state x p) p
