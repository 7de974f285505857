-- What a log that replays keeps: the declared sets. A writer of its text requires them.
use Rattle.std.proofs.Common.{◌≡◌, sym, ◌∙◌, ap, subst, ℕ, List, [], ◌∷◌, length, map, fold, Some, slice_get, arith, All}
use Rattle.std.proofs.lemmas.List.{length-map, length-append}
use Rattle.std.proofs.lemmas.List.Elements.{All-nil, All-cons}
use Rattle.history_laws.specs.Histories.{EndsWith}
use Rattle.set_model.specs.declared.script.SetDecl.{SetDecl}
use Rattle.set_model.specs.declared.script.Step.{Step}
use Rattle.set_model.specs.SetState.{State}
use Rattle.set_model.specs.Control.{Mode, Control, Generation, mode_of, start, section, history}
use Rattle.set_report.specs.Writes.{NamesSet, AreSetsOf}
use Rattle.gen_publish.specs.Publish.{declared_kinds}
use Rattle.control_desk.specs.declared.entry.Entry.{Entry}
use Rattle.control_desk.specs.Woven.{Replays, after_entry, at_rest, entry_done, said, tellings}
use Rattle.script_laws.proofs.Lists.{snoc-at}
use Rattle.script_laws.proofs.ControlLaws.{IsNumbered, IsOf, Shows, by_sections, section_numbered, section_of, section_shows, sets-alike, start_numbered, start_of, start_sizes, work_of}

-- The generations of a control are numbered, and its sets are of the declared kinds and sizes.
record IsDeclared (schema : List SetDecl) (c : Control) : Type 0 where
  pub numbered : IsNumbered c
  pub kinds : IsOf (declared_kinds schema) c
  pub sizes : Shows (λ (s : State). s.size) (map (λ (d : SetDecl). d.size) schema) (work_of c)

-- The last committed generation is the base of the control's open transaction.
one_end : (c : Control) → IsNumbered c → (g : Generation) → EndsWith c.committed g → c.last ≡ g
one_end c n g ends =
    let size = ap length ends.1 in let sum = length-append ends.0 (g ∷ []) in let long = n.long in
    let place : c.last.number ≡ length ends.0 = omega (arith, size, sum, long) in
    let both : Some c.last ≡ Some g = sym n.at ∙ ap (λ z. slice_get z c.last.number) ends.1 ∙ snoc-at ends.0 g c.last.number place in
    cc both

module _ (schema : List SetDecl) where
  section_declared : (mode : Mode) (c : Control) (steps : List Step) → IsDeclared schema c → IsDeclared schema (section mode c steps)
  section_declared mode c steps h = record {
    numbered = section_numbered mode c steps h.numbered;
    kinds = section_of (declared_kinds schema) mode c steps h.kinds;
    sizes = section_shows (λ (s : State). s.size) (λ s t alike. alike.size) (map (λ (d : SetDecl). d.size) schema) mode c steps h.sizes;
  }

  start_declared : IsDeclared schema (start schema)
  start_declared = record { numbered = start_numbered schema; kinds = start_of schema; sizes = start_sizes schema }

  history_declared : (mode : Mode) (sections : List (List Step)) → IsDeclared schema (history mode schema sections)
  history_declared mode sections = by_sections mode (IsDeclared schema) (section_declared mode) (start schema) sections start_declared

  rest_declared : (c : Control) → IsDeclared schema c → IsDeclared schema (at_rest c.committed c.last)
  rest_declared c h = record {
    numbered = record { at = h.numbered.at; long = h.numbered.long };
    kinds = record { work = record { base = h.kinds.work.base; open_sets = h.kinds.work.base }; named = All-nil (NamesSet (length (declared_kinds schema))) };
    sizes = record { base = h.sizes.base; open_sets = h.sizes.base };
  }

  after_declared : (c : Control) (e : Entry) → IsDeclared schema c → IsDeclared schema (after_entry c e)
  after_declared c e h = let then = section_declared (mode_of e.keep_going) c e.steps h in record {
    numbered = record { at = then.numbered.at; long = then.numbered.long };
    kinds = record { work = record { base = then.kinds.work.base; open_sets = then.kinds.work.open_sets }; named = All-nil (NamesSet (length (declared_kinds schema))) };
    sizes = record { base = then.sizes.base; open_sets = then.sizes.open_sets };
  }

  log_declared : (c : Control) (log : List Entry) → IsDeclared schema c → IsDeclared schema (fold after_entry c log)
  log_declared c [] h = h
  log_declared c (e ∷ log) h = log_declared (after_entry c e) log (after_declared c e h)

  abbrev SaysDeclared : Entry → Type 0
  SaysDeclared e = All (NamesSet (length (declared_kinds schema))) (said e)

  all_said : (c : Control) (log : List Entry) → IsDeclared schema c → tellings c log ≡ map said log → All SaysDeclared log
  all_said c [] h tells = All-nil SaysDeclared
  all_said c (e ∷ log) h tells =
      let here : (entry_done c e).events ≡ said e = cc tells in
      let rest : tellings (after_entry c e) log ≡ map said log = cc tells in
      All-cons SaysDeclared e log
      (subst (All (NamesSet (length (declared_kinds schema)))) here (section_of (declared_kinds schema) (mode_of e.keep_going) c e.steps h.kinds).named)
      (all_said (after_entry c e) log (after_declared c e h) rest)

-- A log that replays after sections.
module _ (mode : Mode) (schema : List SetDecl) (sections : List (List Step)) (committed : List Generation) (log : List Entry) (r : Replays (history mode schema sections).committed committed log) where
  abbrev begun : Control
  begun = history mode schema sections

  begun_declared : IsDeclared schema (at_rest begun.committed r.last)
  begun_declared =
      let h = history_declared schema mode sections in
      subst (λ (g : Generation). IsDeclared schema (at_rest begun.committed g)) (one_end begun h.numbered r.last r.begins) (rest_declared schema begun h)

  -- The report of each entry names a declared set.
  pub log_declares : All (λ e. All (NamesSet (length schema)) (said e)) log
  log_declares = subst (λ (n : ℕ). All (λ (e : Entry). All (NamesSet n) (said e)) log) (length-map schema (λ (d : SetDecl). d.kinds)) (all_said schema (at_rest begun.committed r.last) log begun_declared r.tells)

  -- The sets of the last generation are those of the schema.
  pub last_declared : (g : Generation) → EndsWith committed g → AreSetsOf schema g.sets
  last_declared g ends =
      let c = fold after_entry (at_rest begun.committed r.last) log in
      let h = log_declared schema (at_rest begun.committed r.last) log begun_declared in
      let last : c.last ≡ g = one_end c h.numbered g (subst (λ (z : List Generation). EndsWith z g) (sym r.gives) ends) in
      subst (λ (z : Generation). AreSetsOf schema z.sets) last (sets-alike schema c.last.sets h.kinds.work.base h.sizes.base)
