-- The lines of a plan fit the declared sets.
use Rattle.std.proofs.Common.{◌≡◌, refl, sym, ◌∙◌, ap, subst, ℕ, List, [], ◌∷◌, ◌++◌, map, length, nat_lt, Bool, true, false, Option, Some, None, slice_get, Result, Ok, Err, append_assoc, append-nil, bytes_eq, codes}
use Rattle.std.specs.Prelude.{IfOk, if◌then◌else◌}
use Rattle.std.specs.List.{All}
use Rattle.std.proofs.lemmas.List.Elements.{All-nil, All-push}
use Rattle.set_model.specs.declared.kind.Kind.{Kind}
use Rattle.set_model.specs.declared.kind.Kind.TheVariants as kinds
use Rattle.set_model.specs.declared.script.SetDecl.{SetDecl}
use Rattle.token_forms.specs.Token.{Lexeme}
use Rattle.token_forms.specs.Words.{breaks_off}
use Rattle.token_forms.specs.declared.error.ReadError.{ReadError}
use Rattle.token_forms.proofs.KeepLaws.{lines_keep, word_given}
use Rattle.pcap_keys.specs.declared.selector.Selector.{Selector}
use Rattle.pcap_keys.specs.declared.selector.Selector.TheVariants.{IpSource, IpDest, Ip6Source, Ip6Dest, EtherSource, EtherDest, Proto, SourcePort, DestPort}
use Rattle.pcap_keys.specs.declared.selector.PlanLine.{PlanLine}
use Rattle.pcap_keys.specs.Selectors.{selector_of}
use Rattle.pcap_keys.specs.Fitting.{selected_kind, IsPlanned}
use Rattle.pcap_keys.specs.Plans.{most_lines}
use Rattle.pcap_keys.specs.Plans as form
use Rattle.pcap_keys.specs.PlansText.{IsPlanText}

is_none : (s : Selector) → ◌≡◌ {A = Option Selector} None (Some s) → ⊥
is_none s e = cc e

one_of_one : (b : Bool) (x s : Selector) → (if b then Some x else None) ≡ Some s → x ≡ s
one_of_one true x s e = cc e
one_of_one false x s e = absurd (is_none s e)

one_of_two : (b d : Bool) (x y s : Selector) → selected_kind x ≡ selected_kind y → (if b then Some x else if d then Some y else None) ≡ Some s → selected_kind s ≡ selected_kind y
one_of_two true d x y s k e = let same : x ≡ s = cc e in ap selected_kind (sym same) ∙ k
one_of_two false true x y s k e = let same : y ≡ s = cc e in ap selected_kind (sym same)
one_of_two false false x y s k e = absurd (is_none s e)

of_its_kind : (kind : Kind) (t : List ℕ) (s : Selector) → selector_of kind t ≡ Some s → selected_kind s ≡ kind
of_its_kind kinds.Ipv4 t s e = one_of_two (bytes_eq t (codes "ip_saddr")) (bytes_eq t (codes "ip_daddr")) IpSource IpDest s refl e
of_its_kind kinds.Ipv6 t s e = one_of_two (bytes_eq t (codes "ip6_saddr")) (bytes_eq t (codes "ip6_daddr")) Ip6Source Ip6Dest s refl e
of_its_kind kinds.Ether t s e = one_of_two (bytes_eq t (codes "ether_saddr")) (bytes_eq t (codes "ether_daddr")) EtherSource EtherDest s refl e
of_its_kind kinds.Proto t s e = ap selected_kind (sym (one_of_one (bytes_eq t (codes "proto")) Proto s e))
of_its_kind kinds.Service t s e = one_of_two (bytes_eq t (codes "sport")) (bytes_eq t (codes "dport")) SourcePort DestPort s refl e
of_its_kind kinds.Mark t s e = absurd (is_none s e)

more_kinds : (ks : List Kind) (before : List Selector) (ts : List Lexeme) (ss : List Selector) → (form.more_selectors ks before).whole ts ss → (rest : List Selector) × (ss ≡ before ++ rest) × (map selected_kind rest ≡ ks)
more_kinds [] before ts ss w = ([], sym w.1 ∙ sym (append-nil before), refl)
more_kinds (kind ∷ ks) before ts ss (u, x, y, e, w, (s, x2, y2, e2, (t, et, given), w2)) =
    let k = more_kinds ks (before ++ s ∷ []) y2 ss w2 in
    let first = of_its_kind kind t.bytes s (word_given (λ t. selector_of kind t.bytes) t s given) in
    (s ∷ k.0, k.1 ∙ append_assoc before (s ∷ []) k.0, ap (λ (z : Kind). z ∷ map selected_kind k.0) first ∙ ap (λ (z : List Kind). kind ∷ z) k.2)

all_kinds : (ks : List Kind) (ts : List Lexeme) (ss : List Selector) → (form.all_selectors ks).whole ts ss → map selected_kind ss ≡ ks
all_kinds [] ts ss w = absurd w
all_kinds (kind ∷ ks) ts ss (s, x, y, e, (t, et, given), w) =
    let k = more_kinds ks (s ∷ []) y ss w in
    let first = of_its_kind kind t.bytes s (word_given (λ t. selector_of kind t.bytes) t s given) in
    ap (map selected_kind) k.1 ∙ ap (λ (z : Kind). z ∷ map selected_kind k.0) first ∙ ap (λ (z : List Kind). kind ∷ z) k.2

line_fits : (schema : List SetDecl) (plan after : List PlanLine) (i : ℕ) (x : List Lexeme) → All (IsPlanned schema) plan → (s : Option SetDecl) → slice_get schema i ≡ s → (form.line_of plan i s).whole x after → All (IsPlanned schema) after
line_fits schema plan after i x all None e w = absurd w
line_fits schema plan after i x all (Some s) e (ss, x4, y4, e4, w4, h) =
    subst (All (IsPlanned schema)) h.1 (All-push (IsPlanned schema) plan (record { set = i; selectors = ss }) all (record { set = s; declared = e; kinds = all_kinds s.kinds x4 ss w4 }))

line_keeps : (schema : List SetDecl) (plan after : List PlanLine) (x : List Lexeme) → All (IsPlanned schema) plan → (form.plan_line schema plan).whole x after → All (IsPlanned schema) after
line_keeps schema plan after x all w = go (nat_lt (length plan) most_lines) w where
  go : (room : Bool) → (form.line_if room schema plan).whole x after → All (IsPlanned schema) after
  go true (p, x1, y1, e1, w1, (i, x2, y2, e2, w2, h)) = line_fits schema plan after i y2 all (slice_get schema i) refl h
  go false h = absurd h

same_lines : (plan lines : List PlanLine) (ts : List Lexeme) → (form.some_lines plan).whole ts lines → plan ≡ lines
same_lines [] lines ts w = absurd w
same_lines (l ∷ ls) lines ts w = w.1

all_planned : (schema : List SetDecl) (text : List ℕ) (lines : List PlanLine) → IsPlanText schema text lines → All (IsPlanned schema) lines
unfolding IsPlanText
all_planned schema text lines (read, x, y, e, (s, x1, y1, e1, w, h), (u, x2, y2, e2, w2, h2)) =
    let k = lines_keep breaks_off (form.plan_line schema) (All (IsPlanned schema)) (line_keeps schema) ([], true) s x1 (All-nil (IsPlanned schema)) w in
    subst (All (IsPlanned schema)) (same_lines s.0 read y1 h ∙ h2.1) k

pub plan_fits : (schema : List SetDecl) (text : List ℕ) (r : Result (List PlanLine) ReadError) → IfOk r (IsPlanText schema text) → IfOk r (All (IsPlanned schema))
plan_fits schema text (Ok lines) w = all_planned schema text lines w
plan_fits schema text (Err e) w = tt
