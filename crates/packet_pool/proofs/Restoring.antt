-- The readers before a section and after it.
use Rattle.std.proofs.Common.{◌≡◌, ℕ, ◌+◌, ◌*◌, ◌<◌, ◌≤◌, List, [], length, sym, refl, ap, ◌∙◌, subst, arith, Option, Some, slice_get, map, All}
use mathlib.Core.Logic.{dite}
use native.Mathlib.Decide.{dec_lt}
use lib.ListN.{length-map}
use Rattle.std.proofs.lemmas.List.{get_or_past}
use Rattle.std.proofs.lemmas.Option.{slice_get_within, same_Some}
use Rattle.atomic_table.specs.Seated.{TableId}
use Rattle.set_model.specs.declared.packet.Packet.{Packet}
use Rattle.set_model.specs.declared.packet.Verdict.{Verdict}
use Rattle.set_model.specs.declared.report.Line.{Line}
use Rattle.set_model.specs.declared.script.SetDecl.{SetDecl}
use Rattle.set_model.specs.Control.{Generation}
use Rattle.set_model.specs.Runnable.{IsFitting}
use Rattle.gen_publish.specs.Publish.{ReaderView, Steering}
use Rattle.packet_pool.specs.declared.worker.Worker.{Worker}
use Rattle.packet_pool.specs.Work.{AllReady, AreDealt, AreBack, AllWorked, HaveMet, Serves, IsSeated, lines_of}
use Rattle.packet_pool.proofs.Lists.{get_at, all_at, list_get}
use Rattle.packet_pool.proofs.RunLaws.{Advances}

-- A reader is as it was, but for what it has seen, and has made two additions for each of so many lines.
pub record IsBack (lines : ℕ) (d e : ReaderView) : Type 0 where
  pub of_is : e.of ≡ d.of
  pub schema_is : e.schema ≡ d.schema
  pub reader_is : e.reader ≡ d.reader
  pub moves : e.moves ≡ d.moves + 2 * lines

module _ (c : Steering) (readers : List (Option ReaderView)) (ready : AllReady c readers) where
  -- each place has a reader that has seen all of the control's list
  pub ready_at : (i : ℕ) → i < length readers → (d : ReaderView) × (slice_get readers i ≡ Some (Some d)) × (d.of ≡ c.of) × (d.schema ≡ c.schema) × (d.seen ≡ c.committed) × (d.reader ≡ i)
  ready_at i l = let o = get_at readers i l in let r = ready i o.0 o.1 in (r.0, o.1 ∙ ap (λ (z : Option ReaderView). Some z) r.1, r.2, r.3, r.4, r.5)

  module _ (batches : ℕ) (table : TableId) (workers : List Worker) (dealt : AreDealt readers batches table workers) where
    -- a worker's reader has seen it, too
    pub worker_ready : (i : ℕ) (w : Worker) → slice_get workers i ≡ Some w → (w.reader.of ≡ c.of) × (w.reader.schema ≡ c.schema) × (w.reader.seen ≡ c.committed) × (w.reader.reader ≡ i)
    worker_ready i w e =
        let at = dealt.reader_is i w e in let r = ready i (Some w.reader) at in let same = same_Some w.reader r.0 r.1 in
        (ap (λ (d : ReaderView). d.of) same ∙ r.2, ap (λ (d : ReaderView). d.schema) same ∙ r.3, ap (λ (d : ReaderView). d.seen) same ∙ r.4, ap (λ (d : ReaderView). d.reader) same ∙ r.5)

    pub worker_serves : (serves : List SetDecl → Type 0) (packets : List Packet) → serves c.schema → All (IsFitting c.schema) packets → (i : ℕ) (w : Worker) → slice_get workers i ≡ Some w → Serves serves packets w
    worker_serves serves packets can fit i w e = let same = sym (worker_ready i w e).1 in record {
      schema = subst serves same can;
      packets_fit = λ k p at. subst (λ s. IsFitting s p) same (all_at (IsFitting c.schema) packets fit k p at);
    }

    module _ (verdict : Generation → Packet → Verdict) (packets : List Packet) (first : ℕ) (done : List Worker) (worked : AllWorked verdict packets first workers done) where
      -- a worker that has done its part has its number, and a seat at the counter
      pub worker_seated : (i : ℕ) (w : Worker) → slice_get done i ≡ Some w → (w.thread ≡ i) × IsSeated table w
      worker_seated i w e =
          let l = slice_get_within done i w e in let size = worked.size in let v = get_at workers i (omega arith) in let h = worked.each i v.0 w v.1 e in
          (h.thread_is ∙ dealt.thread_is i v.0 v.1, subst (λ t. IsSeated t w) (dealt.fresh i v.0 v.1).table_is h.seated)

      module _ (between back : List (Option ReaderView)) (idle : (i : ℕ) → length workers ≤ i → slice_get between i ≡ slice_get readers i) (are_back : AreBack between done back) where
        abbrev lists : List (List Line)
        lists = map (λ w. w.lines.items) done

        worker_back : (i : ℕ) → i < length readers → (w : Worker) → slice_get done i ≡ Some w
            → (d : ReaderView) × (e : ReaderView) × (slice_get readers i ≡ Some (Some d)) × (slice_get back i ≡ Some (Some e)) × IsBack (length (lines_of lists i)) d e
        worker_back i l w e =
            let lt = slice_get_within done i w e in let size = worked.size in let v = get_at workers i (omega arith) in let h = worked.each i v.0 w v.1 e in
            let long = ap (λ (z : List Line). length z) (list_get (λ (x : Worker). x.lines.items) done i w e) in let m = h.moves in
            (v.0.reader, w.reader, dealt.reader_is i v.0 v.1, are_back.back i w e, record { of_is = h.same.0; schema_is = h.same.1; reader_is = h.same.2; moves = omega (arith, m, long) })

        idle_back : (i : ℕ) → i < length readers → length done ≤ i
            → (d : ReaderView) × (e : ReaderView) × (slice_get readers i ≡ Some (Some d)) × (slice_get back i ≡ Some (Some e)) × IsBack (length (lines_of lists i)) d e
        idle_back i l past =
            let size = worked.size in let d = ready_at i l in let n = length-map done (λ (w : Worker). w.lines.items) in
            let none_of = ap (λ (z : List Line). length z) (get_or_past lists i [] (omega (arith, n, past))) in
            (d.0, d.0, d.1, are_back.idle i past ∙ idle i (omega arith) ∙ d.1, record { of_is = refl; schema_is = refl; reader_is = refl; moves = omega (arith, none_of) })

        -- Each reader is back at its place.
        pub restored : (i : ℕ) → i < length readers → (d : ReaderView) × (e : ReaderView) × (slice_get readers i ≡ Some (Some d)) × (slice_get back i ≡ Some (Some e)) × IsBack (length (lines_of lists i)) d e
        restored i l = dite (dec_lt i (length done)) (λ lt. let w = get_at done i lt in worker_back i l w.0 w.1) (λ past. idle_back i l (omega arith))

        module _ (many : length between ≡ length readers) where
          -- so they are of the control's start
          pub back_of : (i : ℕ) (e : ReaderView) → slice_get back i ≡ Some (Some e) → e.of ≡ c.of
          back_of i e at =
              let l = slice_get_within back i (Some e) at in let size = are_back.size in let r = restored i (omega arith) in let same = same_Some r.1 e (same_Some (Some r.1) (Some e) (sym r.3 ∙ at)) in
              let known = ready_at i (omega arith) in let first_same = same_Some r.0 known.0 (same_Some (Some r.0) (Some known.0) (sym r.2 ∙ known.1)) in
              ap (λ (d : ReaderView). d.of) (sym same) ∙ r.4.of_is ∙ ap (λ (d : ReaderView). d.of) first_same ∙ known.2

          module _ (end : Steering) (advances : Advances c end) (new : List (Option ReaderView)) (met : HaveMet end.committed back new) where
            -- after they have met the control, they have seen all of its list
            pub ready_again : (length new ≡ length readers) × AllReady end new
            ready_again = (
              (let a = met.size in let b = are_back.size in omega arith),
              λ i o at.
                  let l = slice_get_within new i o at in let a = met.size in let b = are_back.size in let in_old : i < length readers = omega arith in let r = restored i in_old in let known = ready_at i in_old in
                  let same = same_Some r.0 known.0 (same_Some (Some r.0) (Some known.0) (sym r.2 ∙ known.1)) in let now = met.met i r.1 r.3 in (
                    record r.1 { seen = end.committed },
                    same_Some o _ (sym at ∙ now),
                    r.4.of_is ∙ ap (λ (d : ReaderView). d.of) same ∙ known.2 ∙ sym advances.of_is,
                    r.4.schema_is ∙ ap (λ (d : ReaderView). d.schema) same ∙ known.3 ∙ sym advances.schema_is,
                    refl,
                    r.4.reader_is ∙ ap (λ (d : ReaderView). d.reader) same ∙ known.5,
                  ),
            )

            -- each has made two additions for each of its lines
            pub moved : (i : ℕ) (d e : ReaderView) → slice_get readers i ≡ Some (Some d) → slice_get new i ≡ Some (Some e) → e.moves ≡ d.moves + 2 * length (lines_of lists i)
            moved i d e at now =
                let r = restored i (slice_get_within readers i (Some d) at) in let before = same_Some r.0 d (same_Some (Some r.0) (Some d) (sym r.2 ∙ at)) in
                let after = same_Some e _ (same_Some (Some e) _ (sym now ∙ met.met i r.1 r.3)) in let m = r.4.moves in
                omega (arith, m, ap (λ (x : ReaderView). x.moves) before, ap (λ (x : ReaderView). x.moves) after)
