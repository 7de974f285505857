-- A desk that is opened for sections. If there are none, no desk is opened.
use Rattle.std.proofs.Common.{◌≡◌, refl, sym, ◌∙◌, ap, subst, ℕ, ◌+◌, ◌-◌, ◌<◌, ◌≤◌, Bool, true, false, cond, List, [], ◌∷◌, ◌++◌, length, take, get_or, Option, Some, slice_get, slice_index_or, arith, All}
use Rattle.std.proofs.lemmas.List.{take_more}
use Rattle.std.proofs.lemmas.List.Elements.{All-nil, All-push, All-weaker}
use Rattle.std.proofs.lemmas.List.Sums.{sum_by-le}
use Rattle.std.proofs.lemmas.Option.{slice_get_within}
use Rattle.atomic_table.specs.Seated.{TableId}
use Rattle.history_laws.specs.Histories.{EndsWith}
use Rattle.packet_pool.proofs.Lists.{all_at, all_from, get_at}
use Rattle.set_model.specs.declared.script.SetDecl.{SetDecl}
use Rattle.set_model.specs.declared.script.Step.{Step}
use Rattle.set_model.specs.Control.{Generation}
use Rattle.set_model.specs.Runnable.{EndsClosed, IsRunnableStep, opens}
use Rattle.gen_publish.specs.Publish.{Steering, Grown}
use Rattle.control_desk.specs.declared.entry.Entry.{Entry}
use Rattle.control_desk.specs.Books.{IsClosed}
use Rattle.control_desk.specs.Turns.{AreAll, IsOpened, Seated, newcomer}
use Rattle.control_desk.specs.Woven.{IsOfOne}
use Rattle.control_desk.specs.Work.{MayDoSection, IsRun, transactions}

-- No sections: no desk, and nothing is logged.
pub none_run : (sections : List (List Step)) (keep_going : Bool) (control : Steering) → length sections ≡ 0 → IsClosed control → Grown control.schema 0 control.committed → EndsWith control.committed control.work.base
    → IsRun sections keep_going control.committed control []
none_run (steps ∷ sections) keep_going control none closed grown last = absurd (omega (arith, none))
none_run [] keep_going control none closed grown last = record {
  woven = record { each = All-nil (IsOfOne 0); whole = λ place steps at. absurd (cc at) };
  replays = record { last = control.work.base; begins = last; gives = refl; tells = refl };
  modes = All-nil (λ (e : Entry). e.keep_going ≡ keep_going);
  closed = closed;
  grown = grown;
  last = last;
}

at_most_one : (o : Option Step) → cond (opens o) 0 1 ≤ 1
at_most_one o = go (opens o) where
  go : (b : Bool) → cond b 0 1 ≤ 1
  go true = omega arith
  go false = omega arith

-- At most so many transactions end among steps as there are steps.
few_transactions : (steps : List Step) → transactions steps ≤ length steps
few_transactions steps = let most = sum_by-le (λ s. cond (opens (Some s)) 0 1) 1 steps (λ k s lt. at_most_one (Some (slice_index_or steps k s))) in omega (arith, most)

-- One section more is at most so long.
pub one_more : (sections : List (List Step)) (i most next : ℕ) (steps : List Step) → i < length sections → steps ≡ get_or sections i steps → All (λ s. length s ≤ most) (take i sections) → most ≤ next → length steps ≤ next → All (λ s. length s ≤ next) (take (i + 1) sections)
one_more sections i most next steps within is so_far grows here =
    subst (All (λ (s : List Step). length s ≤ next)) (sym (take_more sections i steps within ∙ ap (λ (x : List Step). take i sections ++ x ∷ []) (sym is)))
    (All-push (λ (s : List Step). length s ≤ next) (take i sections) steps (All-weaker (λ (s : List Step). length s ≤ most) (λ (s : List Step). length s ≤ next) (λ s short. omega (arith, short, grows)) (take i sections) so_far) here)

-- The control threads of a desk as it is opened.
module _ (of : TableId) (schema : List SetDecl) (base : List Generation) (threads each : ℕ) (clerks : List Seated) (opened : IsOpened of schema base threads each clerks) where
  pub all_opened : AreAll of schema base clerks
  all_opened = record { each = λ place c at. let is = opened.each place c at in is ∙ (λ i. newcomer of schema base (sym opened.size i) (place + 1) (sym (ap (λ (s : Seated). s.left) is) i)) }

  pub first_base : (first : Seated) → slice_get clerks 0 ≡ Some first → first.base ≡ base
  first_base first at = ap (λ (s : Seated). s.base) (opened.each 0 first at)

  -- Each may do its section, if the section has no more steps than each has transactions left.
  pub all_ready : (sections : List (List Step)) → length sections ≡ threads → All (All (IsRunnableStep schema)) sections → All EndsClosed sections → All (λ steps. length steps ≤ each) sections → All (MayDoSection sections) clerks
  all_ready sections sizes fits closed enough = all_from (MayDoSection sections) clerks ready where
    ready : (place : ℕ) (c : Seated) → slice_get clerks place ≡ Some c → MayDoSection sections c
    ready place c at =
        let is = opened.each place c at in let within = slice_get_within clerks place c at in let size = opened.size in
        let mine = get_at sections place (omega (arith, within, size, sizes)) in
        let number : c.number ≡ place + 1 = ap (λ (s : Seated). s.number) is in let left : c.left ≡ each = ap (λ (s : Seated). s.left) is in
        let back : c.number - 1 ≡ place = omega (arith, number) in
        let few = few_transactions mine.0 in let room = all_at (λ (steps : List Step). length steps ≤ each) sections enough place mine.0 mine.1 in record {
          steps = mine.0;
          numbered = omega (arith, number);
          section = ap (slice_get sections) back ∙ mine.1;
          fits = subst (λ (z : List SetDecl). All (IsRunnableStep z) mine.0) (sym (ap (λ (s : Seated). s.schema) is)) (all_at (All (IsRunnableStep schema)) sections fits place mine.0 mine.1);
          closed = all_at EndsClosed sections closed place mine.0 mine.1;
          enough = omega (arith, few, room, left);
          newcomer = ap (λ (s : Seated). s.seen) is;
        }
