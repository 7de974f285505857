use Rattle.addr_text.proofs.AddressLaws.{ipv6_read, ipv6_unread}
use Rattle.addr_text.proofs.value.read_ipv6.Goals as goal

pub returns-in-Ok : goal.returns-in-Ok
returns-in-Ok c = rw (c.address_value.ensures, c.segments.ensures) (ipv6_read c.args.text.now c.in-Ok.address c.in-Ok.ensures)

pub returns-in-Err : goal.returns-in-Err
returns-in-Err c = ipv6_unread c.args.text.now c.in-Err.ensures
