use Rattle.std.proofs.Common.{rules, ◌≡◌, ℕ, List, ◌+◌, ◌-◌, ◌*◌, ◌++◌, length, take, ap, sym, ◌∙◌, subst}
use Rattle.std.proofs.lemmas.List.{length-set, length-drop, length-take-le}
use Rattle.std.specs.Prelude.{slice_set}
use Rattle.history_laws.specs.Histories.{EndsWith}
use Rattle.set_model.specs.declared.kind.Kind.{Kind}
use Rattle.pipapo_image.specs.Image.Found.{found}
use Rattle.gen_publish.specs.Publish.{ReaderView}
use Rattle.packed_values.specs.Packed.{values_in, packed_length}
use Rattle.c_handles.specs.Codes.{id_of}
use Rattle.c_handles.specs.Calls.{ids_in}
use Rattle.c_handles.proofs.Batch.{one_more, no_more, enough, one_less, all_left, none_yet}
use Rattle.c_handles.proofs.seat.find_all.Goals as goal

pub split_at-requires : goal.split_at-requires
split_at-requires c = enough (length c.keys.ids) c.keys.i c.size-size.result (length c.keys.rest.now) (search rules) c.keys.invariant.left

pub find-requires-clause-bytes : goal.find-requires-clause-bytes
find-requires-clause-bytes c =
    let size = c.size-size.result in
    let room = enough (length c.keys.ids) c.keys.i size (length c.keys.rest.now) (search rules) c.keys.invariant.left in
    ap length c.split_at.ensures.front ∙ (length-take-le size c.keys.rest.now room ∙ (c.keys.invariant.size ∙ ap (λ (ks : List Kind). packed_length ks) (sym c.keys.invariant.room)))

pub keys-init : goal.keys-init
keys-init c =
    record {
      room = search rules;
      held = search rules;
      count = search rules;
      size = c.size-size.ensures;
      left = all_left (length c.args.bytes.now) (length c.args.ids.now) c.size-size.result (packed_length c.args.room.now) c.requires.bytes c.size-size.ensures;
      ids = λ g e s at. none_yet s c.args.room.now c.size-size.result c.args.now c.args.ids.now c.args.bytes.now;
    }

pub keys-preserved : goal.keys-preserved
keys-preserved c =
    let kinds = c.args.room.now in let size = c.size-size.result in let now = c.args.now in let i = c.keys.i in let x = c.find.result in let count = length-set c.keys.ids i x in
    record {
      room = c.find.ensures.same.0 ∙ c.keys.invariant.room;
      held = c.find.ensures.same.1 ∙ c.keys.invariant.held;
      count = count ∙ c.keys.invariant.count;
      size = c.keys.invariant.size;
      left = ap length c.split_at.ensures.back ∙ (length-drop size c.keys.rest.now ∙ (one_less (length c.keys.ids) i size (length c.keys.rest.now) (search rules) c.keys.invariant.left ∙ ap (λ (n : ℕ). (n - (i + 1)) * size) (sym count)));
      ids = λ g e s at.
          let here : EndsWith c.keys.held.seen g = subst (λ (h : ReaderView). EndsWith h.seen g) (sym c.keys.invariant.held) e in
          let is : x ≡ id_of (found s (values_in kinds (take size c.keys.rest.now)) now) =
          c.find.ensures.id g here s at ∙ (ap (λ (ks : List Kind). id_of (found s (values_in ks c.split_at.result.0.now) now)) c.keys.invariant.room ∙ ap (λ (vs : List ℕ). id_of (found s (values_in kinds vs) now)) c.split_at.ensures.front) in
          let next = one_more s kinds size now c.keys.ids i c.keys.rest.now x (ids_in s kinds size now (length c.keys.ids) c.args.bytes.now) (search rules) is (c.keys.invariant.ids g e s at) in
          subst (λ (rest : List ℕ). take (i + 1) (slice_set c.keys.ids i x) ++ ids_in s kinds size now (length (slice_set c.keys.ids i x) - (i + 1)) rest ≡ ids_in s kinds size now (length (slice_set c.keys.ids i x)) c.args.bytes.now)
          (sym c.split_at.ensures.back) (next ∙ ap (λ (n : ℕ). ids_in s kinds size now n c.args.bytes.now) (sym count));
    }

pub returns-clause-ids : goal.returns-clause-ids
returns-clause-ids c = λ g e. record {
  numbered = c.generation.ensures.last g (subst (λ (h : ReaderView). EndsWith h.seen g) (sym c.keys.invariant.held) e);
  are = λ s at.
      let kinds = c.args.room.now in let size = c.size-size.result in
      no_more s kinds size c.args.now c.keys.ids c.keys.i c.keys.rest.now (ids_in s kinds size c.args.now (length c.keys.ids) c.args.bytes.now) (search rules) (c.keys.invariant.ids g e s at)
      ∙ ap (λ (n : ℕ). ids_in s kinds n c.args.now (length c.keys.ids) c.args.bytes.now) c.keys.invariant.size;
}
