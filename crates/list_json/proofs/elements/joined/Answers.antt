use Rattle.std.proofs.Common.{arith, rules}
use Rattle.serde_json.specs.View.{view}
use Rattle.list_json.proofs.MemberLaws.{with-some}
use Rattle.list_json.proofs.elements.joined.Goals as goal

pub returns : goal.returns
returns c = let some = with-some (view c.args.intervals) c.args.members.entries (omega arith) in search (rules, some)
