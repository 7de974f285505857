-- The note on tests that no packet can meet.
use Rattle.std.specs.Prelude.{ℕ, ◌-◌, Bool, true, false, ◌==◌, nat_lt, if◌then◌else◌, List, [], ◌∷◌, ◌++◌, length, take, flat_map, map, codes, decimal, Option, Some, None, slice_get}
use Rattle.set_model.specs.declared.kind.Kind.{Kind}
use Rattle.set_model.specs.declared.kind.Kind.TheVariants.{Ipv4, Ipv6, Ether, Proto, Service, Mark}
use Rattle.set_model.specs.declared.script.SetDecl.{SetDecl}
use Rattle.set_model.specs.Text.{set_text}
use Rattle.pcap_keys.specs.declared.selector.PlanLine.{PlanLine}
use Rattle.rule_chain.specs.declared.chains.Chain.{Chain}
use Rattle.rule_chain.specs.declared.chains.Test.{Test}
use Rattle.rule_chain.specs.Unmet.{key_types, unmet}
use Rattle.token_notes.specs.declared.marked.Marked.{Marked}
use Rattle.token_notes.specs.Marked.{marked_text, shown_line}

-- the sets for which the lines of a plan take keys
abbrev pub plan_sets : List PlanLine → List ℕ
plan_sets plan = map (λ l. l.set) plan

-- the most tests that have lines of their own, and the most types of keys that a line names
abbrev pub most_told : ℕ
most_told = 10

abbrev pub most_types : ℕ
most_types = 3

-- the first word of a test
abbrev pub test_word : Bool → List ℕ
test_word true = codes "in"
test_word false = codes "out"

abbrev pub mark_of : Test → Marked
mark_of t = record { at = t.at; length = length (test_word t.inside); line = t.line }

-- the name of a kind in nft(8), and a type: kinds with ` . ` between them
abbrev pub kind_word : Kind → List ℕ
kind_word Ipv4 = codes "ipv4_addr"
kind_word Ipv6 = codes "ipv6_addr"
kind_word Ether = codes "ether_addr"
kind_word Proto = codes "inet_proto"
kind_word Service = codes "inet_service"
kind_word Mark = codes "mark"

abbrev pub next_kind : Kind → List ℕ
next_kind k = codes " . " ++ kind_word k

abbrev pub kinds_text : List Kind → List ℕ
kinds_text [] = []
kinds_text (k ∷ kinds) = kind_word k ++ flat_map next_kind kinds

abbrev pub type_text : Option SetDecl → List ℕ
type_text None = []
type_text (Some d) = kinds_text d.kinds

-- the types of these sets, with `, ` between them
abbrev pub next_type : List SetDecl → ℕ → List ℕ
next_type schema set = codes ", " ++ type_text (slice_get schema set)

abbrev pub types_text : List SetDecl → List ℕ → List ℕ
types_text schema [] = []
types_text schema (set ∷ types) = type_text (slice_get schema set) ++ flat_map (next_type schema) types

-- the first of them, and dots if there are more
abbrev pub first_types : List SetDecl → List ℕ → List ℕ
first_types schema types = types_text schema (take most_types types) ++ (if nat_lt most_types (length types) then codes ", .." else [])

-- What is said of a test: the set for which there is no key, with its type, and the types of keys that there are.
abbrev pub words_on : List SetDecl → List ℕ → Test → List ℕ
words_on schema types t =
    codes "'" ++ test_word t.inside ++ codes "' is never met: no packet has a key for " ++ set_text (slice_get schema t.set) ++ codes " (" ++ type_text (slice_get schema t.set) ++ codes "); the keys here are of " ++ first_types schema types

-- It comes after the place of the test, and before the test's line with carets under its first word.
abbrev pub test_lines : List ℕ → List ℕ → List SetDecl → List ℕ → Test → List ℕ
test_lines name text schema types t = marked_text name text (mark_of t) (words_on schema types t)

-- The line on the tests that have no lines of their own, if there are any.
abbrev pub more_words : ℕ → List ℕ
more_words n = if n == 1 then codes " more test is never met" else codes " more tests are never met"

abbrev pub rest_text : List ℕ → ℕ → List ℕ
rest_text name n = if n == 0 then [] else shown_line (name ++ codes ": " ++ decimal n ++ more_words n)

-- The lines on tests, one after the other: the first ones have lines of their own.
abbrev pub tests_text : List ℕ → List ℕ → List SetDecl → List ℕ → List Test → List ℕ
tests_text name text schema types tests = flat_map (test_lines name text schema types) (take most_told tests) ++ rest_text name (length tests - most_told)

-- The lines on the tests of a rules file that no packet can meet, by the sets for which packets have keys.
abbrev pub unmet_text : List ℕ → List ℕ → List SetDecl → List ℕ → List Chain → List ℕ
unmet_text name text schema sets chains = tests_text name text schema (key_types schema sets) (unmet schema sets chains)
