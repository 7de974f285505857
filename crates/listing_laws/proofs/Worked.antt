-- A worked example: the set of the crate's first page. It computes, so the proof check refuses a wrong number.
use Rattle.std.proofs.Common.{◌≡◌, refl, ℕ, ◌-◌, ◌≤◌, List, [], ◌∷◌, Some, None, Option, IfSome, map, fold, true, false, true≢false, codes, arith}
use Rattle.std.proofs.lemmas.List.Elements.{All-nil, All-cons}
use Rattle.std.specs.Fmt.{digits}
use Rattle.set_model.specs.declared.kind.Kind.TheVariants.{Service}
use Rattle.set_model.specs.declared.element.Element.{Element}
use Rattle.set_model.specs.declared.script.Family.TheVariants.{Ip}
use Rattle.set_model.specs.declared.script.SetDecl.{SetDecl}
use Rattle.set_model.specs.declared.script.Step.{Step}
use Rattle.set_model.specs.declared.script.Step.TheVariants.{Change}
use Rattle.set_model.specs.declared.script.Verb.TheVariants as verbs
use Rattle.set_model.specs.SetState.{State, empty_set, purged}
use Rattle.set_model.specs.SetState.Addition.{New}
use Rattle.set_model.specs.Key.{parts_fit}
use Rattle.addr_text.specs.Times.{longest_time}
use Rattle.addr_text.specs.Written.{value_text, interval_text, time_text}
use Rattle.set_report.specs.ListText.{list_text}
use Rattle.listing_laws.specs.Listing.{all_additions, by_table, IsListable, IsListableSet, AreListable}
use Rattle.listing_laws.specs.Relisted.{relisted, before_commit, added}

abbrev ports : ℕ → ℕ → Option ℕ → ℕ → Element
ports low high expiry id = record { id = id; parts = record { low = low; high = high } ∷ []; expiry = expiry; comment = [] }

-- the set, listed at moment 1,000
abbrev listed : State
listed = record {
  kinds = Service ∷ [];
  size = None;
  disjoint = false;
  elements = ports 80 90 (Some 3_000) 4 ∷ ports 100 100 (Some 900) 6 ∷ ports 1 1_000 None 7 ∷ [];
  next = 8;
}

-- All three additions are accepted.
all_accepted : (fold added ([], empty_set (Service ∷ []) None false) (map (relisted 1_000) listed.elements)).0 ≡ New 0 ∷ New 1 ∷ New 2 ∷ []
all_accepted = refl

-- After the commit the expired element is gone, and the others expire after the time that they had left.
after_commit : (purged (before_commit listed 1_000) 0).elements ≡ ports 80 90 (Some 2_000) 0 ∷ ports 1 1_000 None 2 ∷ []
after_commit = refl

-- Its listing, and the additions that the listing means.
abbrev declared : List ℕ → List ℕ → SetDecl
declared table name = record { family = Ip; table = table; name = name; kinds = Service ∷ []; interval = true; timed = true; disjoint = false; timeout = None; size = None }

text_is : list_text (declared (codes "b") (codes "x") ∷ []) (listed ∷ []) 1_000
    ≡ codes "table ip b {\n\tset x {\n\t\ttype inet_service\n\t\tflags interval,timeout\n\t\telements = { 80-90 expires 2s,\n\t\t\t     100 expires 0s,\n\t\t\t     1-1000 }\n\t}\n}\n"
unfolding digits value_text interval_text time_text
text_is = refl

abbrev added_ports : ℕ → ℕ → Option ℕ → Step
added_ports low high expiry = Change 0 0 verbs.Add (record { parts = record { low = low; high = high } ∷ []; expiry = expiry; comment = [] }) 0

means : all_additions 1_000 0 ((declared (codes "b") (codes "x"), listed) ∷ []) ≡ added_ports 80 90 (Some 2_000) ∷ added_ports 100 100 (Some 0) ∷ added_ports 1 1_000 None ∷ []
means = refl

-- Two tables whose sets were declared in turns: the listing has table by table.
abbrev nothing : State
nothing = empty_set (Service ∷ []) None false

in_order : map (λ p. p.0.name) (by_table (declared (codes "b") (codes "x") ∷ declared (codes "a") (codes "y") ∷ declared (codes "b") (codes "z") ∷ []) (nothing ∷ nothing ∷ nothing ∷ [])) ≡ codes "x" ∷ codes "z" ∷ codes "y" ∷ []
in_order = refl

-- A text can say that set.
abbrev web : SetDecl
web = declared (codes "b") (codes "x")

short : (low high : ℕ) (expiry : Option ℕ) (id : ℕ) → parts_fit (Service ∷ []) ((record { low = low; high = high }) ∷ []) ≡ true → IfSome expiry (λ t. (true ≡ true) × (t - 1_000 ≤ longest_time)) → IsListable web 1_000 (ports low high expiry id)
short low high expiry id fits timed = record { fits = fits; single = λ e. absurd (true≢false e); timed = timed; comment = record { all = refl; short = omega arith } }

abbrev IsPort : Element → Type 0
IsPort = IsListable web 1_000

abbrev first : Element
first = ports 80 90 (Some 3_000) 4

abbrev second : Element
second = ports 100 100 (Some 900) 6

abbrev third : Element
third = ports 1 1_000 None 7

abbrev others : List Element
others = second ∷ third ∷ []

one_set : IsListableSet 1_000 web listed
one_set = record {
  table = record { named = refl; bytes = refl };
  name = record { named = refl; bytes = refl };
  fields = record { some = omega arith; few = omega arith };
  narrow = omega arith;
  size = tt;
  timeout = tt;
  elements = All-cons IsPort first others (short 80 90 (Some 3_000) 4 refl (refl, omega arith))
      (All-cons IsPort second (third ∷ []) (short 100 100 (Some 900) 6 refl (refl, omega arith)) (All-cons IsPort third [] (short 1 1_000 None 7 refl tt) (All-nil IsPort)));
}

can_be_listed : AreListable 1_000 (web ∷ []) (listed ∷ [])
can_be_listed = record {
  states = refl;
  each = All-cons (λ p. IsListableSet 1_000 p.0 p.1) (web, listed) [] one_set (All-nil (λ p. IsListableSet 1_000 p.0 p.1));
  few = omega arith;
  apart = λ i j d lt within. absurd (omega (arith, lt, within));
}
