use Rattle.std.proofs.Common.{rules, ap}
use Rattle.gen_publish.proofs.KindLaws.{fits_open}
use Rattle.gen_publish.proofs.control.Control.fits.Goals as goal

pub returns-then-place-len : goal.returns-then-place-len
returns-then-place-len c = fits_open _ _ _ _ _ c.at.result.now _ _ c.self.invariant.0 (ap (λ v. v.work) c.self.view_is) (search rules) (search rules)
