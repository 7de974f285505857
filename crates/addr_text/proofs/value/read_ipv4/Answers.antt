use Rattle.addr_text.proofs.AddressLaws.{ipv4_read, ipv4_unread}
use Rattle.addr_text.proofs.value.read_ipv4.Goals as goal

pub returns-in-Ok : goal.returns-in-Ok
returns-in-Ok c = rw (c.from.ensures, c.to_bits.ensures) (ipv4_read c.args.text.now c.in-Ok.address c.in-Ok.ensures)

pub returns-in-Err : goal.returns-in-Err
returns-in-Err c = ipv4_unread c.args.text.now c.in-Err.ensures
