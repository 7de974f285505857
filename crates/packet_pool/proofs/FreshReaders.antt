-- New readers are ready for a section.
use Rattle.std.proofs.Common.{◌≡◌, refl, sym, ◌∙◌, ap, ℕ, zero, suc, ◌+◌, List, [], ◌∷◌, map, Option, Some, slice_get, arith}
use Rattle.std.proofs.lemmas.Option.{same_Some}
use Rattle.atomic_table.specs.Seated.{TableId}
use Rattle.set_model.specs.declared.script.SetDecl.{SetDecl}
use Rattle.set_model.specs.Control.{Generation}
use Rattle.gen_publish.specs.Publish.{Steering, ReaderView, AllFresh}
use Rattle.packet_pool.specs.Work.{AllReady}

fresh_at : (z : TableId) (schema : List SetDecl) (seen : List Generation) (k : ℕ) (ds : List ReaderView) → AllFresh z schema seen k ds → (i : ℕ) (o : Option ReaderView) → slice_get (map (λ (d : ReaderView). Some d) ds) i ≡ Some o
    → (d : ReaderView) × (o ≡ Some d) × (d.of ≡ z) × (d.schema ≡ schema) × (d.seen ≡ seen) × (d.reader ≡ k + i)
fresh_at z schema seen k [] h i o e = absurd (cc)
fresh_at z schema seen k (x ∷ xs) h zero o e =
    (x, sym (same_Some (Some x) o e), ap (λ (d : ReaderView). d.of) h.0, ap (λ (d : ReaderView). d.schema) h.0, ap (λ (d : ReaderView). d.seen) h.0, (let n = ap (λ (d : ReaderView). d.reader) h.0 in omega (arith, n)))
fresh_at z schema seen k (x ∷ xs) h (suc i) o e = let r = fresh_at z schema seen (k + 1) xs h.1 i o e in let n = r.5 in (r.0, r.1, r.2, r.3, r.4, omega (arith, n))

pub fresh_ready : (c : Steering) (ds : List ReaderView) (os : List (Option ReaderView)) → AllFresh c.of c.schema c.committed 0 ds → os ≡ map (λ (d : ReaderView). Some d) ds → AllReady c os
fresh_ready c ds os h same = λ i o e. let r = fresh_at c.of c.schema c.committed 0 ds h i o (ap (λ (z : List (Option ReaderView)). slice_get z i) (sym same) ∙ e) in let n = r.5 in (r.0, r.1, r.2, r.3, r.4, omega (arith, n))
