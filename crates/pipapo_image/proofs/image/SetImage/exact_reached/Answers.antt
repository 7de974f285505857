use Rattle.std.proofs.Common.{◌≡◌, ◌-◌, sym, ◌∙◌, ap, subst, take, length, arith}
use Rattle.set_model.specs.Key.{key_fits, parts_fit, start_key}
use Rattle.std.specs.Prelude.{position}
use Rattle.set_model.specs.SetState.{is_exactly}
use Rattle.set_tables.specs.Core.{row_of}
use Rattle.set_tables.specs.Search.{key_tests}
use Rattle.pipapo_image.specs.Index.Walk.{IsKeyOf}
use Rattle.pipapo_image.specs.Image.{IsImage}
use Rattle.pipapo_image.specs.Image.Among.{LeadsTo}
use Rattle.pipapo_image.proofs.ExactLaws.{exact-leads}
use Rattle.pipapo_image.proofs.ImageUse.{parts-long, key-of}
use Rattle.pipapo_image.proofs.ShapeLaws.{image-shaped}
use Rattle.pipapo_image.proofs.AddLaws.{start-fits}
use Rattle.pipapo_image.proofs.image.SetImage.exact_reached.Goals as goal

pub starts-lows-requires : goal.starts-lows-requires
starts-lows-requires c =
    let long = parts-long c.self.inside.kinds c.args.parts.now (ap (λ s. parts_fit s.kinds c.args.parts.now) c.self.view_is ∙ c.requires) in
    omega (arith, c.self.invariant.few_kinds)

pub reach-requires : goal.reach-requires
reach-requires c =
    let key : take c.len.result c.starts-lows.result ≡ start_key c.args.parts.now = ap (λ n. take n c.starts-lows.result) c.len.ensures ∙ c.starts-lows.ensures in
    let fits = ap (λ s. key_fits s.kinds (start_key c.args.parts.now)) c.self.view_is ∙ start-fits c.args.self.now.kinds c.args.parts.now c.requires in
    record {
      shaped = image-shaped c.self.inside.kinds c.self.inside.elements c.self.inside.index c.self.invariant;
      key = subst (λ z. IsKeyOf c.self.inside.index.fields z) (sym key) (key-of c.self.inside.kinds c.self.inside.elements c.self.inside.index (start_key c.args.parts.now) c.self.invariant fits);
      room = c.scratch.invariant.0;
      next_room = c.scratch.invariant.1;
    }

pub first_among-requires : goal.first_among-requires
first_among-requires c =
    let s = c.args.self.now in
    let key : take c.len.result c.starts-lows.result ≡ start_key c.args.parts.now = ap (λ n. take n c.starts-lows.result) c.len.ensures ∙ c.starts-lows.ensures in
    let i : IsImage s.kinds s.elements c.self.inside.index = subst (λ z. IsImage z.kinds z.elements c.self.inside.index) c.self.view_is c.self.invariant in
    let row =
    c.reach.ensures.row s.kinds s.elements i.tables
    ∙ ap (λ z. row_of s.kinds s.elements (key_tests z) (length s.kinds - 1)) key in
    subst (λ z. LeadsTo s (is_exactly z c.args.now) c.reach.new.row.bits) (sym c.as_slice.ensures) (exact-leads s c.args.parts.now c.args.now c.reach.new.row.bits i.some c.requires i.fit row)

pub returns : goal.returns
returns c =
    let s = c.args.self.now in
    let parts = c.as_slice.ensures in
    record {
      value = c.first_among.ensures.value ∙ ap (λ z. position (is_exactly z c.args.now) s.elements) parts;
      within = c.first_among.ensures.within;
    }
