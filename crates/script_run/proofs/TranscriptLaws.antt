-- The transcript of a run: each packet gets a generation that was committed by the end of its section.
use Rattle.std.proofs.Common.{◌≡◌, refl, sym, ◌∙◌, ap, subst, ℕ, zero, suc, ◌+◌, ◌-◌, ◌/◌, ◌<◌, ◌≤◌, Bool, false, ◌||◌, List, [], ◌∷◌, ◌++◌, length, take, drop, slice_get, Some, arith, All, append-nil, append_assoc, add-one, add-zero, ◌⊎◌, inl, inr}
use Rattle.std.specs.List.{flat_map, range_with_len, list_any}
use Rattle.std.proofs.lemmas.List.{length-append, take_all}
use Rattle.std.proofs.lemmas.List.Elements.{filter_map-append}
use Rattle.std.proofs.lemmas.Option.{slice_get_within}
use Rattle.set_model.specs.declared.packet.Packet.{Packet}
use Rattle.set_model.specs.declared.packet.Verdict.{Verdict}
use Rattle.set_model.specs.declared.report.Line.{Line}
use Rattle.set_model.specs.declared.script.Script.{Script}
use Rattle.set_model.specs.declared.script.Step.{Step}
use Rattle.set_model.specs.declared.script.SetDecl.{SetDecl}
use Rattle.set_model.specs.Control.{Mode, mode_of, Control, Generation, section, history, is_refusal, has_refusal}
use Rattle.set_model.specs.Legal.{AreLegal, IsLegalLine, IsLegalPair, IsVerdict, Placed, placed, before, after, last, section_events}
use Rattle.set_model.specs.Runnable.{IsFitting}
use Rattle.set_model.specs.Text.{run_text, section_text, section_count, events_text, section_lines, packets_before, packets_up_to}
use Rattle.gen_publish.specs.Publish.{Grown}
use Rattle.packet_pool.specs.Running.{run, StandsAt}
use Rattle.packet_pool.specs.Section.{IsSection, IsSectionLine, AnswersPacket}
use Rattle.packet_pool.specs.Work.{AllReady}
use Rattle.script_run.specs.declared.telling.Telling.{Telling}
use Rattle.set_model.specs.Runnable.{EndsClosed}
use Rattle.script_laws.specs.declared.refusals.Refusal.{Refusal}
use Rattle.script_laws.specs.Reports.{refusal_in, refusals_in, refusals_of}
use Rattle.script_laws.specs.Sections.{section_at}
use Rattle.script_run.specs.Telling.{IsAtStart, IsAnsweredBy, TellsSection}
use Rattle.set_model.proofs.ClosedLaws.{closed-section}
use Rattle.script_laws.proofs.ControlLaws.{history-next, history_numbered, section_later}
use Rattle.script_laws.proofs.Lists.{list_any-append, append-either, drop-take-behind}
use Rattle.script_run.proofs.SectionLaws.{grown_at}
use Rattle.script_run.proofs.PlacedLaws.{in_section, count-next, of-placed, placed-here, placed-before, placed-count, count-rises}

-- one section more of a script
pub after-next : (mode : Mode) (script : Script) (j : ℕ) → after mode script j ≡ section mode (before mode script j) (section_at script.sections j)
after-next mode script j = history-next mode script.schema script.sections j

-- Generations' numbers never fall from section to section.
last-rises : (mode : Mode) (script : Script) (j d : ℕ) → last mode script j ≤ last mode script (j + d)
last-rises mode script j zero = rw add-zero (omega arith)
last-rises mode script j (suc d) =
    let so_far = last-rises mode script j d in
    let one : last mode script (j + d) ≤ last mode script (j + d + 1) =
    subst (λ (k : Control). last mode script (j + d) ≤ k.last.number) (sym (after-next mode script (j + d + 1))) (section_later mode (before mode script (j + d + 1)) (section_at script.sections (j + d + 1))) in
    let same : j + suc d ≡ j + d + 1 = omega arith in
    rw same (omega (arith, so_far, one))

last-order : (mode : Mode) (script : Script) (j k : ℕ) → j ≤ k → last mode script j ≤ last mode script k
last-order mode script j k h = let same : k ≡ j + (k - j) = omega (arith, h) in rw same (last-rises mode script j (k - j))

-- the packets of section n of a run, which has none in section 0
abbrev pub packets_at : List (List Packet) → ℕ → List Packet
packets_at keys zero = []
packets_at keys (suc j) = section_at keys j

pub packets-next : (keys : List (List Packet)) (j : ℕ) → section_at keys j ≡ packets_at keys (j + 1)
packets-next keys j = rw add-one refl

one-less : (j : ℕ) → suc j - 1 ≡ j
one-less j = omega arith

count-more : (keys : List (List Packet)) (n : ℕ) → packets_before keys n + length (packets_at keys n) ≡ packets_before keys (n + 1)
count-more keys zero = refl
count-more keys (suc j) =
    let same : suc j + 1 - 1 ≡ suc j = omega arith in
    ap (λ m. packets_up_to keys m + length (section_at keys j)) (one-less j) ∙ sym (count-next keys j) ∙ ap (packets_up_to keys) (sym same)

range-more : {A : Type 0} (f : ℕ → List A) (from n : ℕ) → flat_map f (range_with_len from (suc n)) ≡ flat_map f (range_with_len from n) ++ f (from + n)
range-more f from zero = append-nil (f from) ∙ ap f (omega arith)
range-more f from (suc n) =
    ap (λ t. f from ++ t) (range-more f (from + 1) n) ∙ sym (append_assoc (f from) (flat_map f (range_with_len (from + 1) n)) (f (from + 1 + n)))
    ∙ ap (λ m. flat_map f (range_with_len from (suc n)) ++ f m) (omega arith)

-- the same texts of the first n sections
range-same : {A : Type 0} (f g : ℕ → List A) (n : ℕ) → ((j : ℕ) → j < n → f j ≡ g j) → flat_map f (range_with_len 0 n) ≡ flat_map g (range_with_len 0 n)
range-same f g zero h = refl
range-same f g (suc n) h = range-more f 0 n ∙ (λ i. range-same f g n (λ j lt. h j (omega (arith, lt))) i ++ (let zero_is : 0 + n ≡ n = omega arith in (ap f zero_is ∙ h n (omega arith) ∙ ap g (sym zero_is))) i) ∙ sym (range-more g 0 n)

drop-behind : {A : Type 0} (xs ys : List A) → drop (length xs) (xs ++ ys) ≡ ys
drop-behind [] ys = refl
drop-behind (x ∷ xs) ys = drop-behind xs ys

take-within : {A : Type 0} (xs ys : List A) (k : ℕ) → k ≤ length xs → take k (xs ++ ys) ≡ take k xs
take-within xs ys zero h = refl
take-within [] ys (suc k) h = absurd (omega (arith, h))
take-within (x ∷ xs) ys (suc k) h = ap (λ r. x ∷ r) (take-within xs ys k (omega (arith, h)))

-- the lines of earlier sections, and of the last
before-within : (keys : List (List Packet)) (j n : ℕ) → j < n → packets_up_to keys j ≤ packets_before keys n
before-within keys j n h = let same : n - 1 ≡ j + (n - 1 - j) = omega (arith, h) in rw same (count-rises keys j (n - 1 - j))

lines-before : (keys : List (List Packet)) (n : ℕ) (lines more : List Line) → length lines ≡ packets_before keys n → (j : ℕ) → j < n → section_lines keys j (lines ++ more) ≡ section_lines keys j lines
lines-before keys n lines more long j lt = let within = before-within keys j n lt in ap (drop (packets_before keys j)) (take-within lines more (packets_up_to keys j) (omega (arith, within, long)))

lines-here : (keys : List (List Packet)) (n : ℕ) (lines more : List Line) → length lines ≡ packets_before keys n → length more ≡ length (packets_at keys n) → section_lines keys n (lines ++ more) ≡ more
lines-here keys n lines more long size =
    let counts = count-more keys n in
    let same : n + 1 - 1 ≡ n = omega arith in
    let to : packets_up_to keys n ≡ length lines + length more = (let e = ap (packets_up_to keys) same in omega (arith, counts, e, long, size)) in
    let from : packets_before keys n ≡ length lines + 0 = omega (arith, long) in
    (λ i. drop (from i) (take (to i) (lines ++ more))) ∙ drop-take-behind lines more 0 (length more) ∙ take_all (length more) more (omega arith)

-- The lines so far are legal, by what a judge of this verdict says.
pub record IsLegalSoFar (verdict : Generation → Packet → Verdict) (mode : Mode) (script : Script) (keys : List (List Packet)) (threads : ℕ) (lines : List Line) : Type 0 where
  pub each : (p : ℕ) (at : Placed) (line : Line) → slice_get (placed keys) p ≡ Some at → slice_get lines p ≡ Some line → IsLegalLine (IsAnsweredBy verdict script.schema) mode script threads p at line
  pub pairs : (p q : ℕ) (a b : Placed) (earlier later : Line) → p < q
      → slice_get (placed keys) p ≡ Some a → slice_get (placed keys) q ≡ Some b
      → slice_get lines p ≡ Some earlier → slice_get lines q ≡ Some later → IsLegalPair a b earlier later

none-legal : (verdict : Generation → Packet → Verdict) (mode : Mode) (script : Script) (keys : List (List Packet)) (threads : ℕ) → IsLegalSoFar verdict mode script keys threads []
none-legal verdict mode script keys threads = record { each = λ p at line e f. absurd (cc f); pairs = λ p q a b earlier later lt e f g h. absurd (cc g) }

-- The lines of one section more.
module _ (verdict : Generation → Packet → Verdict) (mode : Mode) (script : Script) (keys : List (List Packet)) (fits : All (All (IsFitting script.schema)) keys) (threads j : ℕ) (lines more : List Line)
    (long : length lines ≡ packets_up_to keys j) (so_far : IsLegalSoFar verdict mode script keys threads lines)
    (answers : IsSection verdict (section_at keys j) (packets_up_to keys j) threads (length (before mode script (suc j)).committed) (after mode script (suc j)).committed more)
    (grown : Grown script.schema 0 (after mode script (suc j)).committed) where
  abbrev Says : Generation → Packet → Verdict → Type 0
  Says = IsAnsweredBy verdict script.schema

  -- a line of the section
  here : (q : ℕ) (line : Line) (at : Placed) → slice_get more q ≡ Some line → slice_get (placed keys) (length lines + q) ≡ Some at
      → (p : Packet) × (slice_get (section_at keys j) q ≡ Some p) × (in_section (1 + j) (q, p) ≡ at)
  here q line at e f = let within = slice_get_within more q line e in let size = answers.one_each in
      placed-here j q keys at (omega (arith, within, size)) (ap (λ n. slice_get (placed keys) (n + q)) (sym long) ∙ f)

  verdict-is : (packet : Packet) (line : Line) → IsFitting script.schema packet → AnswersPacket verdict (after mode script (suc j)).committed packet line → IsVerdict Says (after mode script (suc j)).committed packet line.generation line.verdict
  verdict-is packet line fit answer =
      let sets = grown_at script.schema 0 (after mode script (suc j)).committed grown line.generation answer.0 answer.1 in
      record { generation = answer.0; is_committed = answer.1; says = record { sets = sets; fits = fit; answer_is = answer.2 } }

  new-line : (q : ℕ) (packet : Packet) (line : Line) → IsFitting script.schema packet → IsSectionLine verdict (section_at keys j) (packets_up_to keys j) threads (length (before mode script (suc j)).committed) (after mode script (suc j)).committed q packet line
      → IsLegalLine Says mode script threads (length lines + q) (in_section (1 + j) (q, packet)) line
  new-line q packet line fit l =
      let one : 1 + j ≡ suc j = omega arith in
      let old_long = (history_numbered mode script.schema (take (suc j) script.sections)).long in
      let new_long = (history_numbered mode script.schema (take (suc j + 1) script.sections)).long in
      let early : last mode script (suc j - 1) ≡ (before mode script (suc j)).last.number = (let e : suc j - 1 + 1 ≡ suc j = omega arith in ap (λ n. (before mode script n).last.number) e) in
      let names = l.names in let old = l.not_too_old in let new = l.not_too_new in
      subst (λ (n : ℕ). IsLegalLine Says mode script threads (length lines + q) (in_section n (q, packet)) line) (sym one) (record {
        names_packet = omega (arith, names, long);
        thread = l.thread;
        not_too_old = omega (arith, old, old_long, early);
        not_too_new = omega (arith, new, new_long);
        verdict = verdict-is packet line fit l.answer;
      })

  each-is : (p : ℕ) (at : Placed) (line : Line) → slice_get (placed keys) p ≡ Some at → (slice_get lines p ≡ Some line) ⊎ ((q : ℕ) × (slice_get more q ≡ Some line) × (p ≡ length lines + q)) → IsLegalLine Says mode script threads p at line
  each-is p at line e (inl k) = so_far.each p at line e k
  each-is p at line e (inr k) =
      let h = here k.0 line at k.1 (ap (λ n. slice_get (placed keys) n) (sym k.2) ∙ e) in
      let fit : IsFitting script.schema at.packet = of-placed (IsFitting script.schema) 1 p keys at fits e in
      let is : IsFitting script.schema h.0 = subst (λ (z : Placed). IsFitting script.schema z.packet) (sym h.2) fit in
      subst (λ (z : ℕ × Placed). IsLegalLine Says mode script threads z.0 z.1 line) (λ i. (sym k.2 i, h.2 i)) (new-line k.0 h.0 line is (answers.each k.0 h.0 line h.1 k.1))

  abbrev Where : ℕ → Line → Type 0
  Where p line = (slice_get lines p ≡ Some line) ⊎ ((q : ℕ) × (slice_get more q ≡ Some line) × (p ≡ length lines + q))

  pair-is : (p q : ℕ) (a b : Placed) (earlier later : Line) → p < q → slice_get (placed keys) p ≡ Some a → slice_get (placed keys) q ≡ Some b → Where p earlier → Where q later → IsLegalPair a b earlier later
  pair-is p q a b earlier later lt e f (inl k) (inl m) = so_far.pairs p q a b earlier later lt e f k m
  pair-is p q a b earlier later lt e f (inr k) (inl m) = let within = slice_get_within lines q later m in let place = k.2 in absurd (omega (arith, within, place, lt))
  pair-is p q a b earlier later lt e f (inl k) (inr m) =
      let within = slice_get_within lines p earlier k in
      let early = placed-before 1 j p keys a e (omega (arith, within, long)) in
      let h = here m.0 later b m.1 (ap (λ n. slice_get (placed keys) n) (sym m.2) ∙ f) in
      let section_is : 1 + j ≡ b.section = ap (λ (z : Placed). z.section) h.2 in
      let first = so_far.each p a earlier e k in
      let second = each-is q b later f (inr m) in
      let order = last-order mode script a.section (b.section - 1) (omega (arith, early, section_is)) in
      let x = first.not_too_new in let y = second.not_too_old in record {
        one_batch = λ same batch. absurd (omega (arith, early, section_is, same));
        never_falls = λ same. omega (arith, order, x, y);
      }
  pair-is p q a b earlier later lt e f (inr k) (inr m) =
      let g = here k.0 earlier a k.1 (ap (λ n. slice_get (placed keys) n) (sym k.2) ∙ e) in
      let h = here m.0 later b m.1 (ap (λ n. slice_get (placed keys) n) (sym m.2) ∙ f) in
      let x : k.0 ≡ a.place = ap (λ (z : Placed). z.place) g.2 in let y : m.0 ≡ b.place = ap (λ (z : Placed). z.place) h.2 in
      let i = k.2 in let o = m.2 in record {
        one_batch = λ same batch. answers.one_batch k.0 m.0 earlier later k.1 m.1 (ap (λ n. n / 16) x ∙ batch ∙ sym (ap (λ n. n / 16) y));
        never_falls = λ same. answers.never_falls k.0 m.0 earlier later (omega (arith, i, o, lt)) k.1 m.1 same;
      }

  pub more-legal : IsLegalSoFar verdict mode script keys threads (lines ++ more)
  more-legal = record {
    each = λ p at line e f. each-is p at line e (append-either lines more p line f);
    pairs = λ p q a b earlier later lt e f g h. pair-is p q a b earlier later lt e f (append-either lines more p earlier g) (append-either lines more q later h);
  }

-- The first n sections of a run are written.
pub record IsToldUpTo (verdict : Generation → Packet → Verdict) (packets_text : List Line → List ℕ) (keep_going : Bool) (script : Script) (keys : List (List Packet)) (threads n : ℕ) (t : Telling) : Type 0 where
  pub lines : List Line
  pub stands : StandsAt (before (mode_of keep_going) script n).events (before (mode_of keep_going) script n) (run t.control false [])
  pub schema_is : t.control.schema ≡ script.schema
  pub threads_are : length t.readers.items ≡ threads
  pub ready : AllReady t.control t.readers.items
  pub text : t.output.text.items ≡ flat_map (section_text packets_text (mode_of keep_going) script keys lines) (range_with_len 0 n)
  pub refused : t.output.refused ≡ list_any is_refusal (before (mode_of keep_going) script n).events
  pub refusals : t.output.refusals.items ≡ refusals_in 0 (before (mode_of keep_going) script n).events
  pub failed : t.output.failed ≡ false
  pub count : t.packets ≡ packets_before keys n
  pub long : length lines ≡ packets_before keys n
  pub legal : IsLegalSoFar verdict (mode_of keep_going) script keys threads lines

module _ (verdict : Generation → Packet → Verdict) (packets_text : List Line → List ℕ) (keep_going : Bool) (script : Script) (keys : List (List Packet)) (threads : ℕ) where
  abbrev mode : Mode
  mode = mode_of keep_going

  pub told_none : (t : Telling) → IsAtStart script.schema threads t → IsToldUpTo verdict packets_text keep_going script keys threads 0 t
  told_none t b = record {
    lines = [];
    stands = record { committed = sym b.committed; last = sym (ap (λ w. w.base) b.work); sets = sym (ap (λ w. w.sets) b.work); failed = refl; told = refl };
    schema_is = b.schema_is;
    threads_are = b.threads_are;
    ready = b.ready;
    text = b.text;
    refused = b.refused;
    refusals = b.refusals;
    failed = b.failed;
    count = b.packets;
    long = refl;
    legal = none-legal verdict mode script keys threads;
  }

  -- the lines of section n
  legal-more : (fits : All (All (IsFitting script.schema)) keys) (n : ℕ) (lines more : List Line) → length lines ≡ packets_before keys n → IsLegalSoFar verdict mode script keys threads lines
      → IsSection verdict (packets_at keys n) (packets_before keys n) threads (length (before mode script n).committed) (after mode script n).committed more → Grown script.schema 0 (after mode script n).committed
      → IsLegalSoFar verdict mode script keys threads (lines ++ more)
  legal-more fits zero lines [] long so_far answers grown = subst (λ (z : List Line). IsLegalSoFar verdict mode script keys threads z) (sym (append-nil lines)) so_far
  legal-more fits zero lines (x ∷ more) long so_far answers grown = let size = answers.one_each in absurd (omega (arith, size))
  legal-more fits (suc j) lines more long so_far answers grown =
      more-legal verdict mode script keys fits threads j lines more (long ∙ ap (packets_up_to keys) (one-less j)) so_far
      (subst (λ (n : ℕ). IsSection verdict (section_at keys j) (packets_up_to keys n) threads (length (before mode script (suc j)).committed) (after mode script (suc j)).committed more) (one-less j) answers)
      grown

  told_more : (fits : All (All (IsFitting script.schema)) keys) (n : ℕ) (t new : Telling) → IsToldUpTo verdict packets_text keep_going script keys threads n t → EndsClosed (section_at script.sections n)
      → TellsSection verdict packets_text keep_going (section_at script.sections n) (packets_at keys n) t new → IsToldUpTo verdict packets_text keep_going script keys threads (n + 1) new
  told_more fits n t new h closed tells =
      let c : Control = before mode script n in
      let c' : Control = after mode script n in
      let goes = tells.ran.goes_on in
      let next : StandsAt c.events (section mode c (section_at script.sections n)) (run new.control tells.ran.failed tells.events) = goes.stands c.events c h.stands in
      let here : StandsAt c.events c' (run new.control tells.ran.failed tells.events) = subst (λ (k : Control). StandsAt c.events k (run new.control tells.ran.failed tells.events)) (sym (after-next mode script n)) next in
      let quiet : c'.failed ≡ false = ap (λ (k : Control). k.failed) (after-next mode script n) ∙ closed-section (section_at script.sections n) closed mode c h.stands.failed in
      let events : section_events mode script n ≡ tells.events = ap (drop (length c.events)) here.told ∙ drop-behind c.events tells.events in
      let all : List Line = h.lines ++ tells.lines in
      let answers = subst (λ (z : ℕ × ℕ × List Generation × List Generation). IsSection verdict (packets_at keys n) z.0 z.1 (length z.2) z.3 tells.lines) (λ i. (h.count i, h.threads_are i, sym h.stands.committed i, sym here.committed i)) tells.answers in
      let grown : Grown script.schema 0 c'.committed = subst (λ (z : List SetDecl × List Generation). Grown z.0 0 z.1) (λ i. ((goes.schema_is ∙ h.schema_is) i, sym here.committed i)) tells.grown in
      let size : length tells.lines ≡ length (packets_at keys n) = answers.one_each in
      let counts = count-more keys n in
      record {
        lines = all;
        stands = record { committed = here.committed; last = here.last; sets = here.sets; failed = quiet; told = sym (append-nil c'.events) };
        schema_is = goes.schema_is ∙ h.schema_is;
        threads_are = tells.threads_are ∙ h.threads_are;
        ready = tells.ready;
        text =
            tells.text
            ∙ (λ i. (h.text ∙ range-same (section_text packets_text mode script keys h.lines) (section_text packets_text mode script keys all) n (λ j lt. ap (λ ls. events_text script.schema (section_events mode script j) ++ packets_text ls) (sym (lines-before keys n h.lines tells.lines h.long j lt)))) i
            ++ (events_text (h.schema_is i) (sym events i) ++ packets_text (sym (lines-here keys n h.lines tells.lines h.long size) i)))
            ∙ ap (λ m. flat_map (section_text packets_text mode script keys all) (range_with_len 0 n) ++ section_text packets_text mode script keys all m) (sym (zero_is n))
            ∙ sym (range-more (section_text packets_text mode script keys all) 0 n)
            ∙ ap (λ m. flat_map (section_text packets_text mode script keys all) (range_with_len 0 m)) (sym (add-one n));
        refused = tells.refused ∙ ap (λ b. b || list_any is_refusal tells.events) h.refused ∙ sym (list_any-append is_refusal c.events tells.events) ∙ ap (list_any is_refusal) (sym here.told);
        refusals = tells.refusals ∙ ap (λ (rs : List Refusal). rs ++ refusals_in 0 tells.events) h.refusals ∙ sym (filter_map-append (refusal_in 0) c.events tells.events) ∙ ap (refusals_in 0) (sym here.told);
        failed = tells.failed ∙ h.failed;
        count = tells.count ∙ ap (λ m. m + length (packets_at keys n)) h.count ∙ counts;
        long = let both = length-append h.lines tells.lines in let long = h.long in omega (arith, both, long, size, counts);
        legal = legal-more fits n h.lines tells.lines h.long h.legal answers grown;
      } where
        zero_is : (m : ℕ) → 0 + m ≡ m
        zero_is m = omega arith

  -- the same, by what the section's steps and packets are
  pub told_next : (fits : All (All (IsFitting script.schema)) keys) (n : ℕ) (t new : Telling) (steps : List Step) (packets : List Packet) → IsToldUpTo verdict packets_text keep_going script keys threads n t → EndsClosed (section_at script.sections n)
      → steps ≡ section_at script.sections n → packets ≡ packets_at keys n → TellsSection verdict packets_text keep_going steps packets t new → IsToldUpTo verdict packets_text keep_going script keys threads (n + 1) new
  told_next fits n t new steps packets h closed steps_are packets_are tells =
      told_more fits n t new h closed (subst (λ (z : List Step × List Packet). TellsSection verdict packets_text keep_going z.0 z.1 t new) (λ i. (steps_are i, packets_are i)) tells)

  -- After the last section everything is written.
  pub told_all : (n : ℕ) (t : Telling) → section_count script keys ≡ n → IsToldUpTo verdict packets_text keep_going script keys threads n t
      → ((lines : List Line) × AreLegal (IsAnsweredBy verdict script.schema) script keys threads mode lines × (t.output.text.items ≡ run_text packets_text mode script keys lines)) × (t.output.refused ≡ has_refusal mode script) × (t.output.refusals.items ≡ refusals_of mode script) × (t.output.failed ≡ false)
  told_all n t size h =
      let whole : take n script.sections ≡ script.sections = take_all n script.sections (omega (arith, size)) in
      let all_keys : take (n - 1) keys ≡ keys = take_all (n - 1) keys (omega (arith, size)) in
      let many : packets_before keys n ≡ length (placed keys) = ap (λ ks. length (flat_map (λ packets. packets) ks)) all_keys ∙ sym (placed-count 1 keys) in (
        (
          h.lines,
          record { one_each = h.long ∙ many; each = h.legal.each; pairs = h.legal.pairs },
          h.text ∙ ap (λ m. flat_map (section_text packets_text mode script keys h.lines) (range_with_len 0 m)) (sym size),
        ),
        h.refused ∙ ap (λ xs. list_any is_refusal (history mode script.schema xs).events) whole,
        h.refusals ∙ ap (λ xs. refusals_in 0 (history mode script.schema xs).events) whole,
        h.failed,
      )
