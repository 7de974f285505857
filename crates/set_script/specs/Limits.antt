-- How much a script may hold.
use Rattle.std.specs.Prelude.{ℕ, ◌≤◌, IfSome}
use Rattle.set_model.specs.declared.script.SetDecl.{SetDecl}
use Rattle.addr_text.specs.Times.{longest_time}

-- how many sets a script may declare
abbrev pub most_sets : ℕ
most_sets = 64

-- the last moment that a text may name, in milliseconds
abbrev pub last_moment : ℕ
last_moment = 1_000_000_000_000_000

-- the largest size of a set that a script may name
abbrev pub most_elements : ℕ
most_elements = 4_294_967_295

-- a set's timeout, if it has one, is a time that a text may mean
abbrev pub HasShortTimeout : SetDecl → Type 0
HasShortTimeout s = IfSome s.timeout (λ t. t ≤ longest_time)
