use Rattle.std.proofs.Common.{refl, map}
use Rattle.std.specs.String.{string_bytes}
use Rattle.command_words.proofs.PageWords.{page-no-command}
use Rattle.top_call.proofs.FormLaws.{in-no-command}
use Rattle.top_call.proofs.Goings.{goes-page}
use Rattle.top_call.proofs.command.carry_out.Goals as goal

pub returns-in-Some : goal.returns-in-Some
returns-in-Some g c =
    in-no-command c.args.forms.scripts _ (λ d is_d. page-no-command (map string_bytes c.args.words.now) c.in-Some.page d c.in-Some.ensures.found is_d) c.requires
    (goes-page _ c.in-Some.page c.in-Some.ensures.found c.requires refl refl c.deliver_page.ensures)
