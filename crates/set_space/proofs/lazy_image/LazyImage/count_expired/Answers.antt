use Rattle.std.proofs.Common.{◌∙◌, ap, count_by}
use Rattle.expiry_scan.specs.Expired.{is_leaving}
use Rattle.set_space.proofs.LazyLaws.{leaving_counted}
use Rattle.set_space.proofs.lazy_image.LazyImage.count_expired.Goals as goal

pub returns-clause-count : goal.returns-clause-count
returns-clause-count c =
    leaving_counted c.args.self.now.passed c.args.self.now.image c.args.now c.count_leaving.result (c.count_leaving.ensures ∙ ap (count_by (is_leaving c.args.self.now.passed c.args.now)) c.elements.ensures.same)
