-- What the rule says of the tickets, the vector and the seats.
use Rattle.std.proofs.Common.{sym, refl, ◌∙◌, subst, arith}
use Rattle.ticket_line.proofs.Seats.{one_seat, served_ticket}
use Rattle.gen_turns.specs.declared.board.Role.TheVariants.{Reader, Keeper}
use Rattle.gen_turns.specs.TurnRule.{HasNumber, stage_of, ticket_of}
use Rattle.gen_turns.specs.RuleLaws.{Queues, HandsOn, Seats}
use Rattle.gen_turns.proofs.SeatMoves.{plays, one_for_each, few_out}

module _ {T X : Type 0} (state : T → X) (follows : X → X → Type 0) where
  pub queues : Queues state follows
  queues s k = record {
    queue = k.queue;
    few = one_for_each state follows s k;
    one = one_seat stage_of ticket_of s.words s.views k.line k.queue (few_out state follows s k);
    turns = λ j d at. (k.each_seat j d at).3;
  }

  pub hands_on : HandsOn state follows
  hands_on s k = record {
    served = served_ticket stage_of ticket_of s.words s.views k.line k.queue;
    taken = λ j d at. (k.each_seat j d at).4;
    newest = λ i j q g d e at_d at_e is is_e. ((k.each_seat i d at_d).4 is).0 ∙ sym (plays state follows s k j e (Keeper q g) at_e is_e).2;
    home = k.home;
    last = λ j r d at is. (plays state follows s k j d (Reader r) at is).1;
    before = k.ungiven;
  }

  pub seats : Seats state follows
  seats s k = record {
    one_writer = λ i j d e p g q h at_d at_e is_d is_e. k.one_each k.n i j d e at_d at_e (subst (HasNumber k.n k.n) (sym is_d) refl) (subst (HasNumber k.n k.n) (sym is_e) refl);
    one_reader = λ i j r d e at_d at_e is_d is_e. k.one_each r i j d e at_d at_e (subst (HasNumber k.n r) (sym is_d) refl) (subst (HasNumber k.n r) (sym is_e) refl);
    given = λ j r d at is. let below = (plays state follows s k j d (Reader r) at is).0 in let most = k.few.2 in (below, omega (arith, below, most));
    one_list = λ j d at. let h = k.each_seat j d at in (h.0, h.2);
    chain = k.chain;
  }
