-- A book stays one: after a transaction, and if none was done.
use Rattle.std.proofs.Common.{fold, ◌≡◌, refl, sym, ◌∙◌, ap, subst, ℕ, ◌+◌, ◌≤◌, Bool, false, List, [], ◌∷◌, ◌++◌, map, length, take, arith, length-append}
use Rattle.std.proofs.lemmas.List.{take-append-le, take_all}
use Rattle.history_laws.specs.Histories.{StartsWith, EndsWith}
use Rattle.history_laws.proofs.Prefixes.{one_last}
use Rattle.set_model.specs.declared.report.Event.{Event}
use Rattle.set_model.specs.declared.script.Step.{Step}
use Rattle.set_model.specs.Control.{Control, mode_of, section}
use Rattle.set_space.specs.Open.{opened}
use Rattle.gen_publish.specs.Publish.{Steering, Grown}
use Rattle.gen_publish.proofs.Growing.{grown_last}
use Rattle.packet_pool.specs.Running.{run, StandsAt, IsSameStart}
use Rattle.packet_pool.proofs.RunLaws.{advances}
use Rattle.control_desk.specs.declared.entry.Entry.{Entry}
use Rattle.control_desk.specs.Woven.{at_rest, after_entry, entry_done, tellings, said, HasSeen, Replays}
use Rattle.control_desk.specs.Books.{IsClosed, StandsByLog, IsDone, IsApplied, Booked}
use Rattle.control_desk.proofs.Replaying.{after_more, tells_more}

abbrev rest_of : Steering → Control
rest_of s = at_rest s.committed s.work.base

stands_at_rest : (s : Steering) → IsClosed s → StandsAt [] (rest_of s) (run s false [])
stands_at_rest s closed = record { committed = refl; last = refl; sets = sym (ap (λ w. w.sets) closed); failed = refl; told = refl }

module _ (clerk : ℕ) (steps : List Step) (keep_going : Bool) (old new : Steering) (before behind : List Entry) (end : Event) (closed : IsClosed old) (done : IsDone clerk steps keep_going old new before behind end) where
  abbrev its_entry : Entry
  its_entry = record { clerk = clerk; steps = steps; keep_going = keep_going; refused = done.refused; end = end }

  stands_then : StandsAt [] (section (mode_of keep_going) (rest_of old) steps) (run new false (done.refused ++ end ∷ []))
  stands_then = done.goes_on.stands [] (rest_of old) (stands_at_rest old closed)

  pub commits : new.committed ≡ (section (mode_of keep_going) (rest_of old) steps).committed
  commits = sym stands_then.committed

  rests_then : after_entry (rest_of old) its_entry ≡ rest_of new
  rests_then = let sets = stands_then.sets ∙ ap (λ w. w.sets) done.closed in
      λ i. record { committed = stands_then.committed i; last = stands_then.last i; sets = sets i; failed = stands_then.failed i; events = [] }

  grows : StartsWith new.committed old.committed
  grows = (advances keep_going steps old new (done.refused ++ end ∷ []) (record { failed = false; goes_on = done.goes_on })).grows

  base_stays : (from : ℕ) → from ≤ length old.committed → take from new.committed ≡ take from old.committed
  base_stays from within = ap (take from) grows.1 ∙ take-append-le from old.committed grows.0 within

  -- the book after a transaction
  pub kept_then : (from : ℕ) → StandsByLog old before from → StandsByLog new behind from
  kept_then from kept =
      let base : take from new.committed ≡ take from old.committed = base_stays from kept.within in
      let start = at_rest (take from old.committed) kept.first in
      let same : at_rest (take from new.committed) kept.first ≡ start = ap (λ z. at_rest z kept.first) base in
      let size = ap length grows.1 in let sum = length-append old.committed grows.0 in let within = kept.within in
      record {
        closed = done.closed;
        some = kept.some;
        within = omega (arith, size, sum, within);
        first = kept.first;
        begins = subst (λ z. EndsWith z kept.first) (sym base) kept.begins;
        stands = (λ i. fold after_entry (same i) (done.logged i)) ∙ after_more start before its_entry ∙ ap (λ c. after_entry c its_entry) kept.stands ∙ rests_then;
        tells = (λ i. tellings (same i) (done.logged i))
            ∙ tells_more start before its_entry kept.tells (ap (λ c. (entry_done c its_entry).events) kept.stands ∙ stands_then.told)
            ∙ ap (map said) (sym done.logged);
      }

-- A transaction that is done and logged is applied to the book.
pub applied : (clerk : ℕ) (steps : List Step) (keep_going : Bool) (old : Booked) (new : Steering) (behind : List Entry) (end : Event) → IsClosed old.control → old.from ≤ length old.control.committed → IsDone clerk steps keep_going old.control new old.log behind end
    → IsApplied clerk steps keep_going old (record { control = new; log = behind; from = old.from }) end
applied clerk steps keep_going old new behind end closed within done = record {
  refused = done.refused;
  logged = done.logged;
  committed = commits clerk steps keep_going old.control new old.log behind end closed done;
  from_is = refl;
  base_is = base_stays clerk steps keep_going old.control new old.log behind end closed done old.from within;
  of_is = done.goes_on.of_is;
  schema_is = done.goes_on.schema_is;
  readers_is = done.goes_on.readers_is;
}

-- The last generation's number is one less than how many there are.
pub as_many_generations : (s : Steering) → EndsWith s.committed s.work.base → Grown s.schema 0 s.committed → s.work.base.number + 1 ≡ length s.committed
as_many_generations s ends grown =
    let last = grown_last s.schema 0 ends.0 s.work.base (subst (Grown s.schema 0) ends.1 grown) in let n = last.0 in
    let size = ap length ends.1 in let sum = length-append ends.0 (s.work.base ∷ []) in omega (arith, n, size, sum)

-- The control after a transaction ran out of memory and its changes were taken back.
pub taken_back : (old mid new : Steering) → IsSameStart old mid → mid.committed ≡ old.committed → EndsWith old.committed old.work.base → EndsWith mid.committed mid.work.base → IsClosed old → new ≡ record mid { work = opened mid.work.base } → new ≡ old
taken_back old mid new start same old_ends mid_ends closed taken =
    let base : mid.work.base ≡ old.work.base = one_last old.committed mid.work.base old.work.base (subst (λ z. EndsWith z mid.work.base) same mid_ends) old_ends in
    let work : opened mid.work.base ≡ old.work = ap opened base ∙ sym closed in
    taken ∙ (λ i. record { of = start.0 i; schema = start.1 i; readers = start.2 i; committed = same i; work = work i })

-- A new book: all generations are its first ones.
pub kept_first : (s : Steering) (from : ℕ) → EndsWith s.committed s.work.base → from ≡ length s.committed → IsClosed s → StandsByLog s [] from
kept_first s from ends all closed =
    let size = ap length ends.1 in let sum = length-append ends.0 (s.work.base ∷ []) in
    let whole : take from s.committed ≡ s.committed = take_all from s.committed (omega (arith, all)) in record {
      closed = closed;
      some = omega (arith, all, size, sum);
      within = omega (arith, all);
      first = s.work.base;
      begins = subst (λ z. EndsWith z s.work.base) (sym whole) ends;
      stands = ap (λ z. at_rest z s.work.base) whole;
      tells = refl;
    }

pub replays_then : (s : Steering) (log : List Entry) (from : ℕ) → StandsByLog s log from → Replays (take from s.committed) s.committed log
replays_then s log from kept = record { last = kept.first; begins = kept.begins; gives = ap (λ (c : Control). c.committed) kept.stands; tells = kept.tells }

pub last_then : (s : Steering) (log : List Entry) (from : ℕ) → StandsByLog s log from → HasSeen (take from s.committed) log s.work.base.number
last_then s log from kept = record { last = kept.first; begins = kept.begins; reaches = ap (λ (c : Control). c.last.number) kept.stands }
