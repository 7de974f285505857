use Rattle.std.proofs.Common.{◌∙◌, ap, count_by}
use Rattle.expiry_scan.specs.Expired.{is_expired}
use Rattle.set_space.proofs.LazyLaws.{none_expired}
use Rattle.set_space.proofs.lazy_image.LazyImage.can_wait.Goals as goal

pub returns-in-None : goal.returns-in-None
returns-in-None c =
    none_expired c.args.self.now.passed c.args.self.now.image c.count_expired.result c.in-None.is (c.count_expired.ensures ∙ ap (count_by (is_expired 0)) c.elements.ensures.same)
