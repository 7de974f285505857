-- The packets of a plan and of facts that are values fit the sets.
use Rattle.std.proofs.Common.{◌≡◌, refl, sym, ap, subst, ℕ, suc, List, [], ◌∷◌, map, length, Bool, true, false, Option, Some, None, flat_map, Result, Ok, Err}
use Rattle.std.specs.Prelude.{IfOk, IfSome, if◌then◌else◌}
use Rattle.std.specs.List.{All, list_all}
use Rattle.std.proofs.lemmas.Bool.{eq-eqb, and_parts}
use Rattle.std.proofs.lemmas.List.Elements.{All-nil, All-cons, All-head, All-tail, All-append}
use Rattle.set_model.specs.declared.kind.Kind.{Kind}
use Rattle.set_model.specs.declared.memory.Memory.{Memory}
use Rattle.set_model.specs.declared.script.SetDecl.{SetDecl}
use Rattle.set_model.specs.declared.packet.Packet.{Packet}
use Rattle.set_model.specs.Key.{values_fit, key_fits}
use Rattle.set_model.specs.Runnable.{IsFitting}
use Rattle.frame_facts.specs.declared.facts.Facts.{Facts}
use Rattle.pcap_keys.specs.declared.facts.Frame.{Frame}
use Rattle.pcap_keys.specs.declared.selector.Selector.{Selector}
use Rattle.pcap_keys.specs.declared.selector.PlanLine.{PlanLine}
use Rattle.pcap_keys.specs.Selectors.{is_in, selected_value}
use Rattle.pcap_keys.specs.Fitting.{selected_kind, IsPlanned, AreValues, HasValues}
use Rattle.pcap_keys.specs.Planned.{line_packets, facts_packets, frame_packets, packets}

selected_fit : (facts : Facts) → AreValues facts → (ss : List Selector) → list_all (is_in facts) ss ≡ true → values_fit (map selected_kind ss) (map (selected_value facts) ss) ≡ true
selected_fit facts k [] h = refl
selected_fit facts k (s ∷ ss) h =
    let both = and_parts (is_in facts s) (list_all (is_in facts) ss) h in
    rw (k s both.0) (selected_fit facts k ss both.1)

same_lengths : (facts : Facts) (ss : List Selector) → length (map selected_kind ss) ≡ length (map (selected_value facts) ss)
same_lengths facts [] = refl
same_lengths facts (s ∷ ss) = ap suc (same_lengths facts ss)

key_fit : (facts : Facts) → AreValues facts → (ss : List Selector) → list_all (is_in facts) ss ≡ true → key_fits (map selected_kind ss) (map (selected_value facts) ss) ≡ true
key_fit facts k ss h =
    let same = eq-eqb _ _ (same_lengths facts ss) in
    let fit = selected_fit facts k ss h in
    rw same fit

module _ (schema : List SetDecl) where
  packet_if : (b : Bool) (p : Packet) → (b ≡ true → IsFitting schema p) → All (IsFitting schema) (if b then p ∷ [] else [])
  packet_if true p h = All-cons (IsFitting schema) p [] (h refl) (All-nil (IsFitting schema))
  packet_if false p h = All-nil (IsFitting schema)

  line_fit : (facts : Facts) (moment : ℕ) (line : PlanLine) → AreValues facts → IsPlanned schema line → All (IsFitting schema) (line_packets facts moment line)
  line_fit facts moment line k l =
      packet_if (list_all (is_in facts) line.selectors) (record { set = line.set; key = map (selected_value facts) line.selectors; now = moment })
      (λ h. record {
        set = l.set;
        declared = l.declared;
        fits = subst (λ (ks : List Kind). key_fits ks (map (selected_value facts) line.selectors) ≡ true) l.kinds (key_fit facts k line.selectors h);
      })

  lines_fit : (facts : Facts) (moment : ℕ) → AreValues facts → (plan : List PlanLine) → All (IsPlanned schema) plan → All (IsFitting schema) (flat_map (line_packets facts moment) plan)
  lines_fit facts moment k [] all = All-nil (IsFitting schema)
  lines_fit facts moment k (line ∷ plan) all =
      All-append (IsFitting schema) (line_packets facts moment line) (flat_map (line_packets facts moment) plan)
      (line_fit facts moment line k (All-head (IsPlanned schema) line plan all))
      (lines_fit facts moment k plan (All-tail (IsPlanned schema) line plan all))

  facts_fit : (plan : List PlanLine) → All (IsPlanned schema) plan → (moment : ℕ) (facts : Option Facts) → IfSome facts AreValues → All (IsFitting schema) (facts_packets plan moment facts)
  facts_fit plan all moment None k = All-nil (IsFitting schema)
  facts_fit plan all moment (Some facts) k = lines_fit facts moment k plan all

  all_fit : (plan : List PlanLine) → All (IsPlanned schema) plan → (frames : List Frame) → All HasValues frames → All (IsFitting schema) (packets plan frames)
  all_fit plan all [] k = All-nil (IsFitting schema)
  all_fit plan all (frame ∷ frames) k =
      All-append (IsFitting schema) (frame_packets plan frame) (packets plan frames)
      (facts_fit plan all frame.moment frame.facts (All-head HasValues frame frames k))
      (all_fit plan all frames (All-tail HasValues frame frames k))

pub packets_fit : (plan : List PlanLine) (frames : List Frame) (r : Result (List Packet) Memory) → IfOk r (λ given. given ≡ packets plan frames)
    → (schema : List SetDecl) → All (IsPlanned schema) plan → All HasValues frames → IfOk r (All (IsFitting schema))
packets_fit plan frames (Ok given) e schema all k = subst (All (IsFitting schema)) (sym e) (all_fit schema plan all frames k)
packets_fit plan frames (Err m) e schema all k = tt
