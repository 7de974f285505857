-- A key over which the values of packed bytes are written.
use Rattle.std.proofs.Common.{◌≡◌, ℕ, suc, List, [], ◌∷◌, ◌++◌, length, take, drop, refl, ap, sym, subst, ◌∙◌, true, Option, Some, None, option_map, slice_get}
use Rattle.std.proofs.Math.Seq.{take-append_seam}
use Rattle.std.proofs.lemmas.Option.{slice_get-map}
use Rattle.set_model.specs.declared.kind.Kind.{Kind}
use Rattle.set_model.specs.declared.script.SetDecl.{SetDecl}
use Rattle.set_model.specs.Key.{key_fits}
use Rattle.set_model.specs.Runnable.{IsFitting}
use Rattle.gen_publish.specs.Publish.{declared_kinds}
use Rattle.packed_values.specs.Packed.{values_in, width_of}

length-values : (kinds : List Kind) (bytes : List ℕ) → length (values_in kinds bytes) ≡ length kinds
length-values [] bytes = refl
length-values (kind ∷ kinds) bytes = ap suc (length-values kinds (drop (width_of kind) bytes))

pub written_over : (kinds : List Kind) (bytes xs ys : List ℕ) → ys ≡ values_in kinds bytes → length xs ≡ length kinds → take (length xs) (ys ++ drop (length ys) xs) ≡ values_in kinds bytes
written_over kinds bytes xs ys e n =
    let count : length xs ≡ length ys = n ∙ sym (ap length e ∙ length-values kinds bytes) in
    ap (λ (k : ℕ). take k (ys ++ drop (length ys) xs)) count ∙ (take-append_seam ys (drop (length ys) xs) ∙ e)

kinds_there : (o : Option SetDecl) (kinds : List Kind) → option_map (λ d. d.kinds) o ≡ Some kinds → (d : SetDecl) × (o ≡ Some d) × (d.kinds ≡ kinds)
kinds_there None kinds e = absurd (cc e)
kinds_there (Some d) kinds e = (d, refl, cc e)

-- such a key fits the declared set of these kinds
pub fitting : (schema : List SetDecl) (set : ℕ) (kinds : List Kind) (bytes xs ys : List ℕ) (now : ℕ) → slice_get (declared_kinds schema) set ≡ Some kinds → ys ≡ values_in kinds bytes → key_fits kinds ys ≡ true → length xs ≡ length kinds
    → IsFitting schema (record { set = set; key = take (length xs) (ys ++ drop (length ys) xs); now = now })
fitting schema set kinds bytes xs ys now there e fits n =
    let d = kinds_there (slice_get schema set) kinds (sym (slice_get-map (λ (x : SetDecl). x.kinds) schema set) ∙ there) in
    let same : ys ≡ take (length xs) (ys ++ drop (length ys) xs) = e ∙ sym (written_over kinds bytes xs ys e n) in
    record {
      set = d.0;
      declared = d.1;
      fits = subst (λ (ks : List Kind). key_fits ks (take (length xs) (ys ++ drop (length ys) xs)) ≡ true) (sym d.2) (subst (λ (key : List ℕ). key_fits kinds key ≡ true) same fits);
    }
