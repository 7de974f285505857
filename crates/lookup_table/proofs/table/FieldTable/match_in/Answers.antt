use Rattle.std.proofs.Common.{◌≡◌, sym, ◌∙◌, ap, subst, ℕ, ◌+◌, ◌-◌, ◌*◌, ◌/◌, ◌%◌, ◌<◌, ◌&&◌, false, length, arith}
use Rattle.bit_rows.specs.Row.{Row, bit}
use Rattle.bit_rows.proofs.Bits.{bit-zero}
use Rattle.field_groups.specs.Groups.{every, group}
use Rattle.field_groups.proofs.RangeTests.{every-fails}
use Rattle.lookup_table.specs.Rules.{is_rule_set}
use Rattle.lookup_table.specs.Table.{bucket_at, bucket_place, cell}
use Rattle.lookup_table.proofs.RowsLaws.{bucket-found, All-bucket, cell-is}
use Rattle.lookup_table.proofs.WordLaws.{word-none, word-more}
use Rattle.lookup_table.proofs.table.FieldTable.match_in.Goals as goal

pub groups-init : goal.groups-init
groups-init c = word-none _ _ _ _ _ _ _

pub groups-preserved : goal.groups-preserved
groups-preserved c =
    let t = c.args.self.now in
    let at = bucket_place t.width c.groups.g (group t.width t.bits c.groups.g c.args.value) in
    let within : at < length t.buckets.rows = subst (λ (p : ℕ). p < length t.buckets.rows) c.place_in.ensures.place c.place_in.ensures.within in
    let long = All-bucket (λ (x : Row). length x.bits ≡ t.rules) t.buckets.rows at t.shaped.rows within in
    word-more t.width t.bits c.args.value c.groups.g c.args.i t.rules t.buckets.rows c.args.word c.groups.left _ (bucket_at t.buckets.rows at) (bucket-found t.buckets.rows at within) long
    (λ k h.
    let place_is : 512 * (c.args.i / 8) + 64 * (c.args.i % 8) + k ≡ 64 * c.args.i + k = omega arith in
    c.requires.words.bits c.place_in.result (c.args.i % 8) k c.place_in.ensures.within (omega arith) h ∙ ap (cell t.buckets.rows c.place_in.result) place_is
    ∙ ap (λ p. cell t.buckets.rows p (64 * c.args.i + k)) c.place_in.ensures.place ∙ cell-is t.buckets.rows at (64 * c.args.i + k))
    c.groups.invariant

pub returns-then-left-eq0 : goal.returns-then-left-eq0
returns-then-left-eq0 c =
    let t = c.args.self.now in
    let count : c.args.bits / c.args.width ≡ t.bits / t.width = ap (λ w. c.args.bits / w) c.requires.width ∙ ap (λ b. b / t.width) c.requires.bits in
    let n = t.bits / t.width - c.args.last in
    record {
      kept = λ k h.
          let p = is_rule_set t c.args.value (64 * c.args.i + k) in
          let empty : (bit c.args.word k && every p c.groups.g) ≡ false = sym (c.groups.invariant.at k h) ∙ ap (λ x. bit x k) c.if-left-eq0.true ∙ bit-zero k in
          bit-zero k ∙ sym (every-fails p c.groups.g n (bit c.args.word k) (omega arith) empty);
      past = λ some k h r. bit-zero k;
    }

pub returns : goal.returns
returns c =
    let t = c.args.self.now in
    let count : c.args.bits / c.args.width ≡ t.bits / t.width = ap (λ w. c.args.bits / w) c.requires.width ∙ ap (λ b. b / t.width) c.requires.bits in
    let e : c.groups.g ≡ t.bits / t.width - c.args.last = omega arith in
    record {
      kept = λ k h. c.groups.invariant.at k h ∙ ap (λ m. bit c.args.word k && every (is_rule_set t c.args.value (64 * c.args.i + k)) m) e;
      past = λ some k h r. c.groups.invariant.past (omega arith) k h r;
    }
