use Rattle.std.proofs.Common.{◌≡◌, subst, suc, ◌-◌, Option, arith}
use Rattle.token_notes.specs.declared.note.Note.{Note}
use Rattle.fault_notes.specs.Hidden.{hidden_text}
use Rattle.fault_notes.proofs.ToldLaws.{if-ok-as}
use Rattle.token_forms.specs.declared.bad_token.BadToken.{BadToken}
use Rattle.token_forms.specs.BadTokens.{IsBadTokenAmong}
use Rattle.token_forms.specs.TextTokens.{text_tokens}
use Rattle.key_file.specs.Keys.{key_file as key_form}
use Rattle.input_files.specs.Noted.{AreFurther}
use Rattle.input_files.proofs.Telling.{one-further, more-hidden}
use Rattle.input_files.proofs.keys_told.+further_keys.Goals as goal

pub returns-in-Some : goal.returns-in-Some
returns-in-Some n c =
    let count : c.args.most ≡ suc (c.args.most - 1) = omega (arith, c.if-most-eq0.false) in
    let left = c.as_slice-bytes.result.now in
    let is_bad = subst (λ (o : Option BadToken). IsBadTokenAmong (key_form c.args.sets.schema.now) (text_tokens left) left o) c.in-Some.is c.in_ok-found.ensures in
    one-further (key_form c.args.sets.schema.now) c.args.name.now c.args.text.now c.args.most (c.args.most - 1) c.args.rest.now left c.in_ok-notes-in-Some.notes.bytes.items c.in_ok-more-in-Some.more.bytes.items c.join.new.self.bytes.items c.in-Some.next
    count (search (c.in_ok-left.ensures, c.as_slice-bytes.ensures.value)) is_bad (record { begins = c.in_ok-notes-in-Some.ensures.place; shows = c.in_ok-notes-in-Some.ensures.source }) c.in_ok-more-in-Some.ensures (search c.in_ok-join-in-Some.ensures)

pub returns-then-most-eq0 : goal.returns-then-most-eq0
returns-then-most-eq0 t c =
    let left = c.as_slice-bytes.result.now in
    let is_bad = subst (λ (o : Option BadToken). IsBadTokenAmong (key_form c.args.sets.schema.now) (text_tokens left) left o) c.in-Some.is c.in_ok-found.ensures in
    if-ok-as c.hidden_note.result (λ (n : Note). n.bytes.items ≡ hidden_text c.args.name.now) (λ (n : Note). AreFurther (key_form c.args.sets.schema.now) c.args.name.now c.args.text.now c.args.most c.args.rest.now n.bytes.items)
    (λ n is. more-hidden (key_form c.args.sets.schema.now) c.args.name.now c.args.text.now c.args.most c.args.rest.now left n.bytes.items c.in-Some.next (search c.if-most-eq0.true) (search (c.in_ok-left.ensures, c.as_slice-bytes.ensures.value)) is_bad is) c.hidden_note.ensures
