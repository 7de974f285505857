use Rattle.std.proofs.Common.{◌≡◌, sym, ◌∙◌, ap, subst, ℕ, ◌/◌, ◌<◌, length, arith}
use Rattle.bit_rows.specs.Row.{Row, both}
use Rattle.field_groups.specs.Groups.{group}
use Rattle.lookup_table.specs.Table.{bucket_at, bucket_place}
use Rattle.lookup_table.proofs.RowsLaws.{bucket-found, All-bucket}
use Rattle.lookup_table.proofs.MatchLaws.{matched-more, matched-all}
use Rattle.lookup_table.proofs.table.FieldTable.match_into.Goals as goal

pub and_into-requires-clause-length : goal.and_into-requires-clause-length
and_into-requires-clause-length c =
    c.groups.invariant.long ∙ c.requires.length ∙ sym (All-bucket (λ (x : Row). length x.bits ≡ c.args.self.now.rules) c.args.self.now.buckets.rows _ c.args.self.now.shaped.rows c.place.ensures.within)

pub groups-preserved : goal.groups-preserved
groups-preserved c =
    let t = c.args.self.now in
    let at = bucket_place t.width c.groups.g (group t.width t.bits c.groups.g c.args.value) in
    let within : at < length t.buckets.rows = subst (λ (p : ℕ). p < length t.buckets.rows) c.place.ensures.place c.place.ensures.within in
    let long = All-bucket (λ (x : Row). length x.bits ≡ t.rules) t.buckets.rows at t.shaped.rows within in
    matched-more t.width t.bits c.args.value c.groups.g t.buckets.rows c.args.row.now c.groups.row c.and_into.new.row (bucket_at t.buckets.rows at) (bucket-found t.buckets.rows at within)
    (c.groups.invariant.long ∙ c.requires.length ∙ sym long) (c.and_into.ensures.bits ∙ ap (λ p. both c.groups.row.bits (bucket_at t.buckets.rows p).bits) c.place.ensures.place) c.and_into.ensures.spare c.groups.invariant

pub returns-clause-held : goal.returns-clause-held
returns-clause-held c = λ blocks stands.
    let all : c.groups.g ≡ c.args.self.now.bits / c.args.self.now.width = omega arith in
    matched-all _ _ _ _ c.groups.g _ _ _ blocks c.args.self.now.shaped.groups all c.requires.length c.requires.value stands c.groups.invariant
