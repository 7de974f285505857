-- The sets of a control's last generation are of the declared kinds.
use Rattle.std.proofs.Common.{◌≡◌, ℕ, List, length, map, ap, sym, subst, ◌∙◌, Option, Some, slice_get, option_map}
use Rattle.std.proofs.lemmas.List.{length-map}
use Rattle.std.proofs.lemmas.Option.{slice_get-map}
use Rattle.history_laws.specs.Histories.{EndsWith}
use Rattle.set_model.specs.declared.kind.Kind.{Kind}
use Rattle.set_model.specs.declared.script.SetDecl.{SetDecl}
use Rattle.set_model.specs.SetState.{State}
use Rattle.set_model.specs.Control.{Generation}
use Rattle.set_report.specs.Writes.{HaveDeclaredKinds}
use Rattle.gen_publish.specs.Publish.{Steering, Grown, kinds_of, declared_kinds}
use Rattle.gen_publish.proofs.Growing.{grown_last, as_many}

kinds_at : (sets : List State) (schema : List SetDecl) (i : ℕ) (d : SetDecl) (s : State) → kinds_of sets ≡ declared_kinds schema → slice_get schema i ≡ Some d → slice_get sets i ≡ Some s → s.kinds ≡ d.kinds
kinds_at sets schema i d s same at_d at_s =
    let left : slice_get (kinds_of sets) i ≡ Some s.kinds = slice_get-map (λ (x : State). x.kinds) sets i ∙ ap (option_map (λ (x : State). x.kinds)) at_s in
    let right : slice_get (declared_kinds schema) i ≡ Some d.kinds = slice_get-map (λ (x : SetDecl). x.kinds) schema i ∙ ap (option_map (λ (x : SetDecl). x.kinds)) at_d in
    let both : Some s.kinds ≡ Some d.kinds = sym left ∙ (ap (λ (z : List (List Kind)). slice_get z i) same ∙ right) in
    cc both

pub last_declared : (c : Steering) → EndsWith c.committed c.work.base → Grown c.schema 0 c.committed → HaveDeclaredKinds c.schema c.work.base.sets
last_declared c ends grown =
    let last = grown_last c.schema 0 ends.0 c.work.base (subst (Grown c.schema 0) ends.1 grown) in
    record {
      one_each = as_many c.work.base.sets c.schema last.1;
      each = λ i d s at_d at_s. kinds_at c.work.base.sets c.schema i d s last.1 at_d at_s;
    }

pub as_declared : (c : Steering) (schema : List SetDecl) (g : Generation) → HaveDeclaredKinds c.schema c.work.base.sets → schema ≡ c.schema → g ≡ c.work.base → HaveDeclaredKinds schema g.sets
as_declared c schema g h es eg = subst (λ (s : List SetDecl). HaveDeclaredKinds s g.sets) (sym es) (subst (λ (x : Generation). HaveDeclaredKinds c.schema x.sets) (sym eg) h)
