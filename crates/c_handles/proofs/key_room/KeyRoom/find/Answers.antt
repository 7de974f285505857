use Rattle.std.proofs.Common.{◌≡◌, ℕ, List, true, length, subst, ap, ◌∙◌}
use Rattle.set_model.specs.declared.kind.Kind.{Kind}
use Rattle.set_model.specs.Key.{key_fits}
use Rattle.gen_publish.specs.Publish.{IsLookup}
use Rattle.packed_values.specs.Packed.{values_in}
use Rattle.c_handles.specs.Codes.{id_of}
use Rattle.c_handles.proofs.Found.{found_at}
use Rattle.c_handles.proofs.WrittenOver.{written_over, fitting}
use Rattle.c_handles.proofs.key_room.KeyRoom.find.Goals as goal

pub lookup-requires : goal.lookup-requires
lookup-requires c =
    let read : c.read_key.new.key ≡ values_in c.args.self.now c.args.bytes.now = cc (c.read_key.ensures.values, c.as_slice.ensures, c.self.view_is) in
    let room : length c.self.inside.key ≡ length c.args.self.now = cc (c.self.invariant.0, c.self.view_is) in
    let same : c.as_slice.result.now ≡ c.args.self.now = cc (c.as_slice.ensures, c.self.view_is) in
    let fits = subst (λ (ks : List Kind). key_fits ks c.read_key.new.key ≡ true) same c.read_key.ensures.fits in
    fitting c.args.held.now.schema c.args.set c.args.self.now c.args.bytes.now c.self.inside.key c.read_key.new.key c.args.now c.requires.declared read fits room

pub returns-clause-id : goal.returns-clause-id
returns-clause-id c = λ g e s at.
    let read : c.read_key.new.key ≡ values_in c.args.self.now c.args.bytes.now = cc (c.read_key.ensures.values, c.as_slice.ensures, c.self.view_is) in
    let room : length c.self.inside.key ≡ length c.args.self.now = cc (c.self.invariant.0, c.self.view_is) in
    let key : List ℕ = values_in c.args.self.now c.args.bytes.now in
    let l : IsLookup g c.args.set key c.args.now c.lookup.result = subst (λ (vs : List ℕ). IsLookup g c.args.set vs c.args.now c.lookup.result) (written_over c.args.self.now c.args.bytes.now c.self.inside.key c.read_key.new.key read room) (c.lookup.ensures.found g e) in
    c.id_or_none.ensures ∙ ap id_of (found_at g s c.args.set key c.args.now c.lookup.result l at)
