use Rattle.std.proofs.Common.{◌≡◌, sym, ◌∙◌, ap, subst, ◌<◌, ◌≤◌, ℕ, List, length, true, false, drop}
use Rattle.pcap_keys.specs.declared.clock.Clock.{Clock}
use Rattle.pcap_keys.specs.Clocks.{usual, has_option, option_size, options}
use Rattle.pcap_keys.proofs.Options.{Left, left_start, left_end, left_cut, left_bad, left_next}
use Rattle.pcap_keys.proofs.clock.clock_of.Goals as goal

pub options-init : goal.options-init
options-init c = subst (λ (z : Clock). Left c.args.order c.args.options.now z (options c.args.order (length c.args.options.now) c.args.options.now usual)) (sym c.usual-clock.ensures) (left_start _ _ _)

pub returns-then-bytes-size : goal.returns-then-bytes-size
returns-then-bytes-size c =
    let h : has_option c.args.order c.options.bytes.now ≡ true = let k = c.has_option.ensures.same in let t = c.options-test.true in cc in
    let P : ℕ → Type 0 = λ n. length c.options.bytes.now < n in
    left_cut _ _ _ _ c.options.invariant h (c.has_option.ensures.room c.options-test.true) (subst P c.option_size-size.ensures.same c.if-bytes-size.true)

pub returns-in-None : goal.returns-in-None
returns-in-None c =
    let h : has_option c.args.order c.options.bytes.now ≡ true = let k = c.has_option.ensures.same in let t = c.options-test.true in cc in
    let P : ℕ → Type 0 = λ n. n ≤ length c.options.bytes.now in
    left_bad _ _ _ _ c.options.invariant h (c.has_option.ensures.room c.options-test.true) (subst P c.option_size-size.ensures.same c.if-bytes-size.false) (sym c.after_option.ensures ∙ c.in-None.is)

pub options-preserved : goal.options-preserved
options-preserved c =
    let h : has_option c.args.order c.options.bytes.now ≡ true = let k = c.has_option.ensures.same in let t = c.options-test.true in cc in
    let P : ℕ → Type 0 = λ n. n ≤ length c.options.bytes.now in
    let Q : List ℕ → Type 0 = λ bytes. Left c.args.order bytes c.in-Some.next (options c.args.order (length c.args.options.now) c.args.options.now usual) in
    let next : Q (drop (option_size c.args.order c.options.bytes.now) c.options.bytes.now) =
    left_next _ _ _ _ _ c.options.invariant h (c.has_option.ensures.room c.options-test.true) (subst P c.option_size-size.ensures.same c.if-bytes-size.false) (sym c.after_option.ensures ∙ c.in-Some.is) in
    subst Q (sym (c.from_place-bytes.ensures ∙ ap (λ (z : ℕ). drop z c.options.bytes.now) c.option_size-size.ensures.same)) next

pub returns : goal.returns
returns c =
    let n : has_option c.args.order c.options.bytes.now ≡ false = let k = c.has_option.ensures.same in let t = c.options-test.false in cc in
    left_end _ _ _ _ c.options.invariant n
