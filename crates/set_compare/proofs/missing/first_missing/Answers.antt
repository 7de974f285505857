use Rattle.std.proofs.Common.{sym, ◌∙◌, subst, Option, None, List, ℕ, [], not}
use Rattle.std.proofs.lemmas.Bool.{and_parts}
use Rattle.set_compare.specs.Missing.{finds}
use Rattle.set_compare.specs.Search.{IsSearched, live_regions}
use Rattle.set_compare.proofs.HoldLaws.{found-not}
use Rattle.set_compare.proofs.SearchLaws.{none-missing, least-missing}
use Rattle.set_compare.proofs.missing.first_missing.Goals as goal

pub unreachable-requires : goal.unreachable-requires
unreachable-requires c =
    let s = c.args.held.now in
    let t = c.args.other.now in
    let P : Option (List ℕ) → Type 0 = λ z. IsSearched t c.args.other_at None (live_regions s.elements c.args.at) z [] in
    let least = least-missing s t c.args.at c.args.other_at c.in-Some.key c.requires (subst P c.in-Some.is c.in_ok-least.ensures) in
    let here = and_parts (finds s c.args.at c.in-Some.key) (not (finds t c.args.other_at c.in-Some.key)) least.missing in
    absurd (cc (here.0, found-not s c.in-Some.key c.args.at c.find.result c.find.ensures c.in-None-find.is))

pub returns-in-Some-find : goal.returns-in-Some-find
returns-in-Some-find c =
    let s = c.args.held.now in
    let t = c.args.other.now in
    let P : Option (List ℕ) → Type 0 = λ z. IsSearched t c.args.other_at None (live_regions s.elements c.args.at) z [] in
    record {
      key = least-missing s t c.args.at c.args.other_at c.in-Some.key c.requires (subst P c.in-Some.is c.in_ok-least.ensures);
      element = sym c.find.ensures ∙ c.in-Some-find.is;
    }

pub returns-in-None : goal.returns-in-None
returns-in-None c =
    let s = c.args.held.now in
    let t = c.args.other.now in
    let P : Option (List ℕ) → Type 0 = λ z. IsSearched t c.args.other_at None (live_regions s.elements c.args.at) z [] in
    none-missing s t c.args.at c.args.other_at c.requires (subst P c.in-None.is c.in_ok-least.ensures)
