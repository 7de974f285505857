use Rattle.std.proofs.Common.{◌≡◌, ◌<◌, ◌≤◌, ◌∷◌, All, ap, sym, ◌∙◌, subst, map}
use Rattle.gen_publish.specs.Publish.{Grown}
use Rattle.log_turns.specs.LogRule.{Keeps}
use Rattle.control_desk.specs.Books.{Booked, IsClosed}
use Rattle.control_desk.specs.Woven.{Replays, entries_of}
use Rattle.control_desk.specs.Turns.{Seated}
use Rattle.control_desk.specs.Work.{kept_by}
use Rattle.control_desk.proofs.Submitting.{log_of, base_of, number_of, clerk_of}
use Rattle.control_desk.proofs.Weaving.{cut_first, own_of}
use Rattle.control_desk.proofs.run.close.Goals as goal

pub returns : goal.returns
returns g c = λ first at.
    let items = c.args.clerks.items in let others = c.remove-first.new.self.items in let book = c.take_turn-book.result.1 in let back = sym c.book.view_is in
    let cut = cut_first items others c.remove-first.result first at c.remove-first.ensures.value c.remove-first.ensures.by_index.2 in
    let finds = c.take_turn-book.ensures.finds in let desk = c.gather-board.ensures.desk in
    let base = finds.based ∙ desk.0 ∙ ap (λ (s : Seated). s.base) cut.1 in let threads = desk.1 ∙ ap (λ (s : Seated). s.threads) cut.1 in
    let kept = c.gather-board.ensures.kept ∙ ap (λ (s : Seated). kept_by s ∷ map kept_by others) cut.1 ∙ sym (ap (map kept_by) cut.0) in
    let seat_threads = c.gather-board.result.1.me.0.threads in
    record {
      replays = subst (λ z. Replays z c.book.inside.control.committed c.book.inside.log) base (subst (λ (b : Booked). Replays (base_of book) b.control.committed b.log) back c.known.ensures.replays);
      closed = subst (λ (b : Booked). IsClosed b.control) back c.known.ensures.closed;
      grown = subst (λ (b : Booked). Grown b.control.schema 0 b.control.committed) back c.known.ensures.grown;
      last = c.known-2.ensures.last;
      named = subst (λ (b : Booked). All (λ e. (0 < e.clerk) × (e.clerk ≤ first.threads)) b.log) back (subst (λ n. All (λ e. (0 < e.clerk) × (e.clerk ≤ n)) book.log) threads finds.named);
      own = subst (λ (b : Booked). All (λ (s : Seated). entries_of s.number b.log ≡ entries_of s.number s.seen) items) back (own_of seat_threads book items (subst (All (Keeps log_of base_of number_of clerk_of seat_threads book)) kept finds.keeps));
    }
