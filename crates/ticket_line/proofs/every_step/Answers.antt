use Rattle.ticket_line.proofs.Lines.{opens, draws, takes, ends, rests, stays, joins_none}
use Rattle.ticket_line.proofs.every_step.Goals as goal

pub returns-clause-opening : goal.returns-clause-opening
returns-clause-opening g c = opens

pub returns-clause-draw : goal.returns-clause-draw
returns-clause-draw g c = draws

pub returns-clause-look : goal.returns-clause-look
returns-clause-look g c = takes

pub returns-clause-done : goal.returns-clause-done
returns-clause-done g c = ends

pub returns-clause-rest : goal.returns-clause-rest
returns-clause-rest g c = rests

pub returns-clause-stay : goal.returns-clause-stay
returns-clause-stay g c = stays

pub returns-clause-seat : goal.returns-clause-seat
returns-clause-seat g c = joins_none
