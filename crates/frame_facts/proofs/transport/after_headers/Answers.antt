use Rattle.std.proofs.Common.{◌≡◌, sym, ◌∙◌, ap, subst, ◌≤◌, ℕ, suc, List, length, Some, true, false, drop, slice_index}
use Rattle.frame_facts.specs.Transports.{is_extension, is_later_fragment, extension_size, after_headers}
use Rattle.frame_facts.proofs.Headers.{Left, left_start, left_done, left_cut, left_later, left_next}
use Rattle.frame_facts.proofs.transport.after_headers.Goals as goal

pub headers-init : goal.headers-init
headers-init c = left_start _ _

pub returns-then-bytes-lt8 : goal.returns-then-bytes-lt8
returns-then-bytes-lt8 c = left_cut _ _ _ c.headers.invariant (let k = c.is_extension.ensures in let h = c.headers-test.true in cc) c.if-bytes-lt8.true

pub returns-then-is_later_fragment : goal.returns-then-is_later_fragment
returns-then-is_later_fragment c =
    let e : is_extension c.headers.next ≡ true = let k = c.is_extension.ensures in let h = c.headers-test.true in cc in
    let y : is_later_fragment c.headers.next c.headers.bytes.now ≡ true = let k = c.is_later_fragment.ensures in let h = c.if-is_later_fragment.true in cc in
    c.later_fragment.ensures ∙ left_later _ _ _ c.headers.invariant e c.if-bytes-lt8.false y

pub headers-preserved : goal.headers-preserved
headers-preserved c =
    let e : is_extension c.headers.next ≡ true = let k = c.is_extension.ensures in let h = c.headers-test.true in cc in
    let n : is_later_fragment c.headers.next c.headers.bytes.now ≡ false = let k = c.is_later_fragment.ensures in let h = c.if-is_later_fragment.false in cc in
    let same : c.extension_size-size.result ≡ extension_size c.headers.next c.headers.bytes.now = c.extension_size-size.ensures.same in
    let P : List ℕ → Type 0 = λ bytes. Left (slice_index c.headers.bytes.now 0) bytes (after_headers (suc (length c.args.payload.now)) c.args.first c.args.payload.now) in
    let left : P (drop (extension_size c.headers.next c.headers.bytes.now) c.headers.bytes.now) = left_next _ _ _ c.headers.invariant e c.if-bytes-lt8.false n (subst (λ (z : ℕ). 8 ≤ z) same c.extension_size-size.ensures.some) in
    subst P (sym (c.after-bytes.ensures ∙ ap (λ (z : ℕ). drop z c.headers.bytes.now) same)) left

pub returns : goal.returns
returns c =
    let n : is_extension c.headers.next ≡ false = let k = c.is_extension.ensures in let h = c.headers-test.false in cc in
    ap Some c.whole.ensures ∙ left_done _ _ _ c.headers.invariant n
