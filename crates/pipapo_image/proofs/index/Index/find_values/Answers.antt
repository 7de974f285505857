use Rattle.std.proofs.Common.{◌≡◌, ◌-◌, ◌≤◌, sym, ◌∙◌, ap, subst, arith, length, get_or, List}
use Rattle.mapping_table.specs.Spared.{Spared}
use Rattle.lookup_table.specs.declared.table.FieldTable.{FieldTable}
use Rattle.set_tables.specs.declared.Span.{Span}
use Rattle.set_tables.specs.Rows.{led_to}
use Rattle.set_tables.specs.Core.{row_of}
use Rattle.set_tables.specs.Tables.{last_ends}
use Rattle.set_tables.specs.Search.{key_tests}
use Rattle.set_tables.proofs.SearchLaws.{led-finds}
use Rattle.pipapo_image.specs.Index.Walk.{IsWalk, IsKeyOf}
use Rattle.pipapo_image.specs.Index.Standing.{AreFieldsOf, AreMapsOf}
use Rattle.pipapo_image.proofs.index.Index.find_values.Goals as goal

pub fused_walk-requires : goal.fused_walk-requires
fused_walk-requires c =
    let P : List FieldTable → List (Spared Span) → Type 0 = λ fields maps. IsWalk fields maps in
    let a = subst (λ z. P z c.args.self.now.maps) (sym c.as_slice.ensures) c.requires.shaped.walk in
    let k = subst (λ z. IsKeyOf z c.args.key.now) (sym c.as_slice.ensures) c.requires.key in
    let m : length c.args.self.now.fields - 1 ≡ length c.args.self.now.maps = omega (arith, c.requires.shaped.walk.one_fewer) in
    record {
      shaped = subst (λ z. P c.as_slice.result.now z) (sym c.as_slice-2.ensures) a;
      ends = λ t.
          c.requires.shaped.one_end_each t
          ∙ ap (λ n. (get_or c.args.self.now.fields n t).rules) m
          ∙ ap (λ z. (get_or c.args.self.now.fields (length z) t).rules) (sym c.as_slice-2.ensures)
          ∙ ap (λ z. (get_or z (length c.as_slice-2.result.now) t).rules) (sym c.as_slice.ensures);
      key = k;
      row = c.scratch.invariant.4;
      next = c.scratch.invariant.5;
    }

pub returns : goal.returns
returns c = λ kinds es is parts.
    let last : length c.args.self.now.maps ≡ length kinds - 1 = omega (arith, is.maps.one_fewer) in
    let some : 1 ≤ length kinds = omega (arith, is.maps.one_fewer) in
    let fields = subst (λ z. AreFieldsOf kinds es z) (sym c.as_slice.ensures) is.fields in
    let maps = subst (λ z. AreMapsOf kinds es z) (sym c.as_slice-2.ensures) is.maps in
    c.fused_walk.ensures.led kinds es fields maps
    ∙ ap (λ z. led_to z (row_of kinds es (key_tests c.args.key.now) (length c.as_slice-2.result.now)) c.args.now) is.ends
    ∙ ap (λ z. led_to (last_ends kinds es) (row_of kinds es (key_tests c.args.key.now) (length z)) c.args.now) c.as_slice-2.ensures
    ∙ ap (λ n. led_to (last_ends kinds es) (row_of kinds es (key_tests c.args.key.now) n) c.args.now) last
    ∙ led-finds kinds es c.args.key.now c.args.now some (c.requires.key.one_each ∙ is.fields.one_each) parts
