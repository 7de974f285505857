use Rattle.std.proofs.Common.{◌≡◌, ap, sym, ◌∙◌, subst}
use Rattle.history_laws.specs.Histories.{EndsWith}
use Rattle.c_handles.specs.Calls.{seen_at}
use Rattle.c_handles.specs.Seats.{SeatView}
use Rattle.c_handles.specs.declared.place.Place.{Place}
use Rattle.c_handles.specs.declared.place.Place.TheVariants.{In}
use Rattle.c_handles.proofs.seat.Seat.generation.Goals as goal

pub returns-in-In-clause-ok : goal.returns-in-In-clause-ok
returns-in-In-clause-ok c =
    let here : c.args.self.now.place ≡ In c.in-In.held = sym (ap (λ (s : SeatView). s.place) c.self.view_is) ∙ c.in-In.is in
    λ g e. c.generation.ensures.last g (subst (λ (p : Place). EndsWith (seen_at p) g) here e)
