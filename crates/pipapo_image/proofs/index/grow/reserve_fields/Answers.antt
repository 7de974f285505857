use Rattle.std.proofs.Common.{◌≡◌, ◌+◌, ◌<◌, sym, ◌∙◌, ap, subst, arith, length}
use Rattle.set_tables.specs.Search.{of_field}
use Rattle.lookup_table.specs.Rules.{IsOwn}
use Rattle.pipapo_image.specs.Index.Grow.{IsKept, HasSpare}
use Rattle.pipapo_image.proofs.BuiltLaws.{each-more, set-more}
use Rattle.pipapo_image.proofs.GrowLaws.{kept-trans, list-at}
use Rattle.pipapo_image.proofs.index.grow.reserve_fields.Goals as goal

pub returns-in_err-reserve-clause-kept : goal.returns-in_err-reserve-clause-kept
returns-in_err-reserve-clause-kept c =
    each-more IsKept c.args.fields.now c.fields.fields c.fields.f c.reserve.new.self c.index-fields-f.result kept-trans c.fields.invariant.kept c.fields-test.true
    (record { width = c.reserve.ensures.same.width; bits = c.reserve.ensures.same.bits; rules = c.reserve.ensures.rules; stands = c.reserve.ensures.stands })

pub fields-preserved : goal.fields-preserved
fields-preserved c =
    let inside : c.fields.f < length c.fields.fields = omega (arith, c.fields.invariant.kept.len, c.fields-test.true) in
    let g : c.fields.f < length c.args.columns.now = omega (arith, c.requires.columns, c.fields-test.true) in
    let n : c.len-n.result ≡ length (of_field c.args.columns.now c.fields.f) = c.len-n.ensures ∙ sym (ap length (list-at c.args.columns.now c.fields.f c.index-columns-f.result g c.index-columns-f.is)) in
    record {
      kept =
          each-more IsKept c.args.fields.now c.fields.fields c.fields.f c.reserve.new.self c.index-fields-f.result kept-trans c.fields.invariant.kept c.fields-test.true
          (record { width = c.reserve.ensures.same.width; bits = c.reserve.ensures.same.bits; rules = c.reserve.ensures.rules; stands = c.reserve.ensures.stands });
      room =
          set-more (λ k t. HasSpare (length (of_field c.args.columns.now k)) t) c.fields.fields c.fields.f c.reserve.new.self inside c.fields.invariant.room
          (subst (λ m. HasSpare m c.reserve.new.self) n (record { rows = c.in_ok-reserve.ensures.spare; own = subst (λ r. IsOwn r (r + c.len-n.result) c.reserve.new.self) (sym c.in_ok-reserve.ensures.rules) c.in_ok-reserve.ensures.own }));
    }

pub returns-clause-room : goal.returns-clause-room
returns-clause-room c = λ k t h. c.fields.invariant.room k t (omega arith)
