-- What the handles hold after a start.
use Rattle.std.proofs.Common.{◌≡◌, ◌+◌, ℕ, List, [], ◌∷◌, length, map, All, Option, Some, ap, sym, subst, ◌∙◌, refl}
use Rattle.std.proofs.lemmas.List.{length-map}
use Rattle.std.proofs.lemmas.List.Elements.{All-nil, All-cons}
use Rattle.atomic_table.specs.Seated.{TableId}
use Rattle.set_model.specs.Control.{Generation, first_generation}
use Rattle.set_model.specs.declared.script.SetDecl.{SetDecl}
use Rattle.set_space.specs.Open.{opened}
use Rattle.gen_publish.specs.Publish.{Steering, ReaderView, AllFresh}
use Rattle.c_handles.specs.Shapes.{described}
use Rattle.script_start.specs.Scripted.{IsStarted}
use Rattle.c_handles.specs.Starting.{HoldReaders, IsOf, IsStart, seated}
use Rattle.c_handles.specs.Scripting.{IsScripted}
use Rattle.c_handles.specs.declared.shapes.SetShape.{SetShape}
use Rattle.c_handles.specs.declared.object.Object.{Object}

-- new readers in handles
pub hold_readers : (c : Steering) (k : ℕ) (ps : List ReaderView) → AllFresh c.of c.schema c.committed k ps → HoldReaders c k (map (λ r. Some (seated r)) ps)
hold_readers c k [] h = tt
hold_readers c k (p ∷ ps) h = (ap (λ (r : ReaderView). Some (seated r)) h.0, hold_readers c (k + 1) ps h.1)

-- what is held, in handles
pub all_some : {B : Type 0} (v : B → Object) (bs : List B) (ps : List ReaderView) → map v bs ≡ map seated ps → map (λ b. Some (v b)) bs ≡ map (λ r. Some (seated r)) ps
all_some v [] [] e = refl
all_some v [] (p ∷ ps) e = cc
all_some v (b ∷ bs) [] e = cc
all_some v (b ∷ bs) (p ∷ ps) e =
    let head : v b ≡ seated p = cc in
    let tail : map v bs ≡ map seated ps = cc in
    let others : map (λ b. Some (v b)) bs ≡ map (λ r. Some (seated r)) ps = all_some v bs ps tail in
    cc

pub is_start : {B : Type 0} (v : B → Object) (bs : List B) (shapes : List SetShape) (schema : List SetDecl) (c : Steering) (n : ℕ) (ps : List ReaderView) → schema ≡ map described shapes → c.schema ≡ schema → c.readers ≡ n
    → c.committed ≡ first_generation schema ∷ [] → c.work ≡ opened (first_generation schema) → length ps ≡ n → AllFresh c.of schema (first_generation schema ∷ []) 0 ps → map v bs ≡ map seated ps → IsStart shapes c (map (λ b. Some (v b)) bs)
is_start v bs shapes schema c n ps e ec er em ew el fresh eb =
    let held : map (λ b. Some (v b)) bs ≡ map (λ r. Some (seated r)) ps = all_some v bs ps eb in
    let seen : AllFresh c.of c.schema c.committed 0 ps = subst (λ (m : List Generation). AllFresh c.of c.schema m 0 ps) (sym em) (subst (λ (s : List SetDecl). AllFresh c.of s (first_generation schema ∷ []) 0 ps) (sym ec) fresh) in
    record {
      sets = ec ∙ e;
      committed = em ∙ ap (λ (s : List SetDecl). first_generation s ∷ []) (sym ec);
      no_change = ew ∙ ap (λ (s : List SetDecl). opened (first_generation s)) (sym ec);
      count = er ∙ sym (ap length held ∙ (length-map ps (λ r. Some (seated r)) ∙ el));
      seats = subst (λ (xs : List (Option Object)). HoldReaders c 0 xs) (sym held) (hold_readers c 0 ps seen);
    }

pub is_scripted : {B : Type 0} (v : B → Object) (bs : List B) (text : List ℕ) (n : ℕ) (c : Steering) (ps : List ReaderView) → IsStarted text n c ps → map v bs ≡ map seated ps → IsScripted text c (map (λ b. Some (v b)) bs)
is_scripted v bs text n c ps h eb =
    let held : map (λ b. Some (v b)) bs ≡ map (λ r. Some (seated r)) ps = all_some v bs ps eb in
    record {
      meant = h.meant;
      is_text = h.is_text;
      has_done = h.has_done;
      count = h.has_readers.count_is ∙ sym (ap length held ∙ (length-map ps (λ r. Some (seated r)) ∙ h.has_readers.these));
      seats = subst (λ (xs : List (Option Object)). HoldReaders c 0 xs) (sym held) (hold_readers c 0 ps h.has_readers.fresh);
    }

-- a control's new readers look up in its sets
pub all_of_control : (c : Steering) (z : TableId) (seen : List Generation) (k : ℕ) (ps : List ReaderView) → AllFresh z c.schema seen k ps → All (IsOf c.schema) ps
all_of_control c z seen k [] h = All-nil (IsOf c.schema)
all_of_control c z seen k (p ∷ ps) h = All-cons (IsOf c.schema) p ps (ap (λ (r : ReaderView). r.schema) h.0) (all_of_control c z seen (k + 1) ps h.1)
