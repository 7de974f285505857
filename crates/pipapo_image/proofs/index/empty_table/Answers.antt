use Rattle.std.proofs.Common.{◌∙◌, sym}
use Rattle.pipapo_image.proofs.Empty.{width-empty, width-eight}
use Rattle.pipapo_image.proofs.index.empty_table.Goals as goal

pub new-requires : goal.new-requires
new-requires c = width-eight c.args.kind c.bits.result c.bits.ensures

pub returns : goal.returns
returns c =
    let same = c.set_summed.ensures in
    record {
      bits = same.same.bits ∙ c.in_ok-table.ensures.bits ∙ c.bits.ensures;
      width = same.same.width ∙ c.in_ok-table.ensures.width ∙ sym (width-empty c.args.kind);
      stands = rw (same.same.width, same.same.bits, same.rules, same.buckets) c.in_ok-table.ensures.stands;
    }
