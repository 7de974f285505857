use Rattle.std.proofs.Common.{◌≡◌, ◌-◌, ◌<◌, sym, ◌∙◌, ap, subst, arith, length, get_or, List}
use Rattle.mapping_table.specs.Spared.{Spared}
use Rattle.lookup_table.specs.declared.table.FieldTable.{FieldTable}
use Rattle.set_tables.specs.declared.Span.{Span}
use Rattle.set_tables.specs.Core.{row_of}
use Rattle.set_tables.specs.Search.{key_tests}
use Rattle.pipapo_image.specs.Index.Walk.{IsWalk, IsKeyOf}
use Rattle.pipapo_image.specs.Index.Standing.{AreFieldsOf, AreMapsOf}
use Rattle.pipapo_image.proofs.Items.{a-table}
use Rattle.pipapo_image.proofs.index.Index.reach.Goals as goal

pub walk-requires : goal.walk-requires
walk-requires c =
    let P : List FieldTable → List (Spared Span) → Type 0 = λ fields maps. IsWalk fields maps in
    let a = subst (λ z. P z c.args.self.now.maps) (sym c.as_slice.ensures) c.requires.shaped.walk in
    record {
      shaped = subst (λ z. P c.as_slice.result.now z) (sym c.as_slice-2.ensures) a;
      key = subst (λ z. IsKeyOf z c.args.key.now) (sym c.as_slice.ensures) c.requires.key;
      room = c.requires.room;
      next_room = c.requires.next_room;
    }

pub returns-clause-row : goal.returns-clause-row
returns-clause-row c = λ kinds es is.
    let last : length c.args.self.now.maps ≡ length kinds - 1 = omega (arith, is.maps.one_fewer) in
    let fields = subst (λ z. AreFieldsOf kinds es z) (sym c.as_slice.ensures) is.fields in
    let maps = subst (λ z. AreMapsOf kinds es z) (sym c.as_slice-2.ensures) is.maps in
    c.walk.ensures.row kinds es fields maps
    ∙ ap (λ z. row_of kinds es (key_tests c.args.key.now) (length z)) c.as_slice-2.ensures
    ∙ ap (λ n. row_of kinds es (key_tests c.args.key.now) n) last

pub returns-clause-length : goal.returns-clause-length
returns-clause-length c =
    let some : 0 < length c.args.self.now.fields = omega (arith, c.requires.shaped.walk.one_fewer) in
    let d = a-table c.args.self.now.fields some in
    let m : length c.args.self.now.fields - 1 ≡ length c.args.self.now.maps = omega (arith, c.requires.shaped.walk.one_fewer) in
    c.walk.ensures.length d
    ∙ ap (λ z. (get_or z (length c.as_slice-2.result.now) d).rules) c.as_slice.ensures
    ∙ ap (λ z. (get_or c.args.self.now.fields (length z) d).rules) c.as_slice-2.ensures
    ∙ ap (λ n. (get_or c.args.self.now.fields n d).rules) (sym m)
    ∙ sym (c.requires.shaped.one_end_each d)
