-- The text of a listed set means its declaration and its additions.
use Rattle.std.proofs.Common.{◌≡◌, refl, sym, ◌∙◌, ap, subst, ℕ, ◌+◌, ◌<◌, ◌≤◌, ◌||◌, List, [], ◌∷◌, ◌++◌, length, map, flat_map, sum_by, Bool, true, false, nat_lt, Option, Some, None, IfSome, codes, decimal, All, append_assoc, append-nil, length-append, arith, cond}
use Rattle.std.specs.List.{join_by}
use Rattle.std.proofs.lemmas.Bool.{and_from, lt-ltb, le-leb}
use Rattle.std.proofs.lemmas.List.Sums.{sum_by-append, sum_by-cons}
use Rattle.set_model.specs.declared.kind.Kind.{Kind}
use Rattle.set_model.specs.declared.kind.Kind.TheVariants.{Ipv4, Ipv6, Ether, Proto, Service, Mark}
use Rattle.set_model.specs.declared.element.Element.{Element}
use Rattle.set_model.specs.declared.script.SetDecl.{SetDecl}
use Rattle.set_model.specs.declared.script.Step.{Step}
use Rattle.set_model.specs.declared.script.Verb.TheVariants as verbs
use Rattle.set_model.specs.SetState.{State}
use Rattle.addr_text.specs.Times.{longest_time, IsTime}
use Rattle.addr_text.specs.Written.{time_text}
use Rattle.addr_text.proofs.WrittenLaws.{IsTime-time_text}
use Rattle.token_forms.specs.declared.token.TokenKind.TheVariants as kinds
use Rattle.token_forms.specs.declared.token.Reason.TheVariants as reasons
use Rattle.token_forms.specs.Form.{Form, many, done, ◌>>=◌, ◌>>◌}
use Rattle.token_forms.specs.Words.{word, word_by, word_is, mark, separates, passed, line, lines}
use Rattle.set_script.specs.declared.draft.Draft.{Draft}
use Rattle.set_script.specs.declared.draft.Declaration.{Declaration}
use Rattle.set_script.specs.declared.words.Flag.{Flag}
use Rattle.set_script.specs.declared.words.Flag.TheVariants as flags
use Rattle.set_script.specs.declared.words.ItemWord.{ItemWord}
use Rattle.set_script.specs.declared.words.ItemWord.TheVariants as items
use Rattle.set_script.specs.Limits.{most_elements}
use Rattle.set_script.specs.Values.{IsSize}
use Rattle.set_script.specs.declared.words.TypeWord.{TypeWord}
use Rattle.set_script.specs.declared.words.TypeWord.TheVariants as types
use Rattle.set_script.specs.Names.{type_word_of, kind_of, kind_behind, key_bytes, has_room, item_of, flag_of, may_declare, new_name}
use Rattle.set_script.specs.Changes.{with_flag, with_timeout, with_size, with_elements, declaration, declared}
use Rattle.set_script.specs.Script as form
use Rattle.set_report.specs.KindText.{kind_text}
use Rattle.set_report.specs.ListText.{element_text, gives_life, listed_item, type_line, size_line, flag_if, flag_words, flags_line, timeout_line, elements_line, items_text}
use Rattle.listing_laws.specs.Listing.{unlined, addition, IsListable, IsListableSet, IsNameWord}
use Rattle.listing_laws.proofs.WordTexts.{Word, decimal_word, time_word}
use Rattle.listing_laws.proofs.ElementTexts.{list_means}
use Rattle.listing_laws.proofs.Means.{Means, Is, Goes, means_done, means_bind, means_then, means_seq, means_weaken, means_last, means_next, means_left, means_right, means_space, means_tab, means_closed, means_literal, means_word_is, means_word_by, means_byte, means_mark, means_as}

newline : Means true (passed separates) (10 ∷ []) (Is tt)
newline = means_byte [] _ kinds.Break 10 tt (λ bytes. refl) (λ behind line place. refl)

-- Lines of a listing.
module _ {S : Type 0} (item : S → Form S) where
  abbrev pub Rest : Bool → List ℕ → S × Bool → (S × Bool → Type 0) → Type 0
  Rest c t s Q = Means c (many (line separates item) s) t Q

  -- a break ends an item, or makes an empty line
  pub break_next : (s : S) (ready c : Bool) (t : List ℕ) (Q : S × Bool → Type 0) → Rest c t (s, true) Q → Rest c (10 ∷ t) (s, ready) Q
  break_next s ready c t Q k =
      means_next (line separates item) (s, ready) true c (10 ∷ []) t (Is (s, true)) Q (step ready) (λ rest fit. refl) (λ r e. subst (λ (z : S × Bool). Rest c t z Q) (sym e) k)
    where
      passes : Means {A = S × Bool} true (passed separates >> done (s, true)) (10 ∷ []) (Is (s, true))
      passes = means_seq newline (means_done true (s, true) (Is (s, true)) refl) (λ rest fit. refl)

      step : (ready : Bool) → Means {A = S × Bool} true (line separates item (s, ready)) (10 ∷ []) (Is (s, true))
      step true = means_left (passed separates >> done (s, true)) (item s >>= λ s1. done (s1, false)) true (10 ∷ []) (Is (s, true)) passes
      step false = passes

  item_next : (s : S) (c : Bool) (t1 t2 : List ℕ) (P : S → Type 0) (Q : S × Bool → Type 0) → Means false (item s) t1 P → Goes false c t2
      → ((s1 : S) → P s1 → Rest c t2 (s1, false) Q) → Rest c (t1 ++ t2) (s, true) Q
  item_next s c t1 t2 P Q h goes k = means_next (line separates item) (s, true) false c t1 t2 (λ r. P r.0 × (r.1 ≡ false)) Q step goes after where
    step : Means false (line separates item (s, true)) t1 (λ r. P r.0 × (r.1 ≡ false))
    step =
        means_right (passed separates >> done (s, true)) (item s >>= λ s1. done (s1, false)) false t1 _
        (means_as _ false (t1 ++ []) t1 _ (append-nil t1)
        (means_bind (item s) (λ (s1 : S). done (s1, false)) false false t1 [] P (λ r. P r.0 × (r.1 ≡ false)) h (λ rest fit. fit) (λ s1 p. means_done false (s1, false) _ (p, refl))))

    after : (r : S × Bool) → P r.0 × (r.1 ≡ false) → Rest c t2 r Q
    after (s1, b) is = subst (λ (z : Bool). Rest c t2 (s1, z) Q) (sym is.1) (k s1 is.0)

  -- an item and its break
  pub item_line : (s : S) (c : Bool) (t1 t2 : List ℕ) (P : S → Type 0) (Q : S × Bool → Type 0) → Means false (item s) t1 P
      → ((s1 : S) → P s1 → Rest c t2 (s1, true) Q) → Rest c (t1 ++ 10 ∷ t2) (s, true) Q
  item_line s c t1 t2 P Q h k = item_next s c t1 (10 ∷ t2) P Q h (λ rest fit. refl) (λ s1 p. break_next s1 false c t2 Q (k s1 p))

  -- an item on a line of its own
  listed_line : (s : S) (c : Bool) (t1 t2 : List ℕ) (P : S → Type 0) (Q : S × Bool → Type 0) → Means false (item s) t1 P
      → ((s1 : S) → P s1 → Rest c t2 (s1, true) Q) → Rest c (listed_item t1 ++ t2) (s, true) Q
  listed_line s c t1 t2 P Q h k =
      means_as _ c (9 ∷ 9 ∷ (t1 ++ 10 ∷ t2)) (listed_item t1 ++ t2) Q (ap (λ (z : List ℕ). 9 ∷ 9 ∷ z) (sym (append_assoc t1 (10 ∷ []) t2))) (means_tab (means_tab (item_line s c t1 t2 P Q h k)))

  -- the same for an item that is exactly this
  exact_line : (s s1 : S) (c : Bool) (t1 t2 : List ℕ) (Q : S × Bool → Type 0) → Means false (item s) t1 (Is s1) → Rest c t2 (s1, true) Q → Rest c (listed_item t1 ++ t2) (s, true) Q
  exact_line s s1 c t1 t2 Q h k = listed_line s c t1 t2 (Is s1) Q h (λ z e. subst (λ (r : S). Rest c t2 (r, true) Q) (sym e) k)

-- Kinds.
kind_word : (kind : Kind) → Word (kind_text kind) × (kind_of (kind_text kind) ≡ Some kind)
kind_word Ipv4 = (record { some = omega arith; bytes = record { all = refl } }, refl)
kind_word Ipv6 = (record { some = omega arith; bytes = record { all = refl } }, refl)
kind_word Ether = (record { some = omega arith; bytes = record { all = refl } }, refl)
kind_word Proto = (record { some = omega arith; bytes = record { all = refl } }, refl)
kind_word Service = (record { some = omega arith; bytes = record { all = refl } }, refl)
kind_word Mark = (record { some = omega arith; bytes = record { all = refl } }, refl)

-- There is room for these kinds.
record HaveRoom (ks : List Kind) : Type 0 where
  few : length ks ≤ 16
  narrow : sum_by key_bytes ks ≤ 64

room : (before after : List Kind) (kind : Kind) → HaveRoom (before ++ kind ∷ after) → has_room before kind ≡ true
room before after kind h =
    let count = length-append before (kind ∷ after) in
    let size = sum_by-append key_bytes before (kind ∷ after) in
    let first = sum_by-cons key_bytes kind after in
    let few = h.few in
    let narrow = h.narrow in
    and_from _ _ (lt-ltb (length before) 16 (omega (arith, count, few))) (le-leb (sum_by key_bytes before + key_bytes kind) 64 (omega (arith, size, first, narrow)))

kind_means : (before after : List Kind) (kind : Kind) → HaveRoom (before ++ kind ∷ after) → Means false (form.kind_word before) (kind_text kind) (Is kind)
kind_means before after kind h =
    means_word_by (reasons.TypeWord ∷ []) (λ t. kind_behind before (kind_of t.bytes)) (kind_text kind) kind (kind_word kind).0
    (λ behind line place. ap (kind_behind before) (kind_word kind).1 ∙ rw (room before after kind h) refl)

abbrev next_kind : Kind → List ℕ
next_kind kind = codes " . " ++ kind_text kind

kinds_goes : (ks : List Kind) → Goes false false (flat_map next_kind ks)
kinds_goes [] = λ rest fit. fit
kinds_goes (k ∷ ks) = λ rest fit. refl

kinds_mean : (ks before : List Kind) → HaveRoom (before ++ ks) → Means false (many (form.more_kinds types.Names) before) (flat_map next_kind ks) (Is (before ++ ks))
kinds_mean [] before h = means_last (form.more_kinds types.Names) false before (Is (before ++ [])) (sym (append-nil before))
kinds_mean (kind ∷ ks) before h =
    let same = append_assoc before (kind ∷ []) ks in
    let later = kinds_mean ks (before ++ kind ∷ []) (subst HaveRoom (sym same) h) in
    let after = means_weaken _ false _ (Is ((before ++ kind ∷ []) ++ ks)) (Is (before ++ kind ∷ ks)) (λ a e. e ∙ same) later in
    let value = means_then (form.kind_word before) (λ (k : Kind). done (before ++ k ∷ [])) false false (kind_text kind) [] kind (Is (before ++ kind ∷ [])) (kind_means before ks kind h) (λ rest fit. fit) (means_done false _ _ refl) in
    let step = means_seq (means_literal 46 [] refl) (means_space value) (λ rest fit. refl) in
    means_next (form.more_kinds types.Names) before false false (next_kind kind) (flat_map next_kind ks) (Is (before ++ kind ∷ [])) (Is (before ++ kind ∷ ks))
    (means_as _ false (codes " . " ++ (kind_text kind ++ [])) (next_kind kind) _ (ap (λ (z : List ℕ). codes " . " ++ z) (append-nil (kind_text kind))) (means_space step)) (kinds_goes ks)
    (λ s e. subst (λ (z : List Kind). Means false (many (form.more_kinds types.Names) z) (flat_map next_kind ks) (Is (before ++ kind ∷ ks))) (sym e) after)

type_means : (ks : List Kind) → 0 < length ks → HaveRoom ks → Means false form.type_item (codes "type " ++ join_by kind_text (codes " . ") ks) (Is ks)
type_means [] some h = absurd (omega (arith, some))
type_means (kind ∷ ks) some h =
    let first = means_then (form.kind_word []) (λ (k : Kind). many (form.more_kinds types.Names) (k ∷ [])) false false (kind_text kind) (flat_map next_kind ks) kind (Is (kind ∷ ks)) (kind_means [] ks kind h) (kinds_goes ks) (kinds_mean ks (kind ∷ []) h) in
    means_then (word_by [] (λ t. type_word_of t.bytes)) (λ (w : TypeWord). form.kind_by w [] >>= λ (k : Kind). many (form.more_kinds w) (k ∷ [])) false false (codes "type") (32 ∷ (kind_text kind ++ flat_map next_kind ks)) types.Names (Is (kind ∷ ks))
    (means_word_by [] (λ t. type_word_of t.bytes) (codes "type") types.Names (record { some = omega arith; bytes = record { all = refl } }) (λ behind line place. refl)) (λ rest fit. refl) (means_space first)

-- A set that is being declared, as its items come: what they said, and which of them came.
abbrev staged : ℕ → SetDecl → Option ℕ → (interval timed disjoint : Bool) → Option ℕ → (has_flags has_timeout_flag has_elements : Bool) → Declaration
staged set d size interval timed disjoint timeout has_flags has_timeout_flag has_elements = record {
  target = record { set = set; verb = verbs.Add; now = 0 };
  decl = record {
    family = d.family;
    table = d.table;
    name = d.name;
    kinds = d.kinds;
    interval = interval;
    timed = timed;
    disjoint = disjoint;
    timeout = timeout;
    size = size;
  };
  flags = has_flags;
  timeout_flag = has_timeout_flag;
  gc_interval = false;
  policy = false;
  comment = false;
  elements = has_elements;
}

abbrev Items : Type 0
Items = Declaration × List Step

-- an item by its first word
item_means : (s s1 : Items) (w text : List ℕ) (i : ItemWord) → Word w → item_of s.0 w ≡ Some i → Means false (form.item_behind s i) (32 ∷ text) (Is s1) → Means false (form.item s) (w ++ 32 ∷ text) (Is s1)
item_means s s1 w text i word is k =
    means_then (word_by [] (λ t. item_of s.0 t.bytes)) (form.item_behind s) false false w (32 ∷ text) i (Is s1) (means_word_by [] (λ t. item_of s.0 t.bytes) w i word (λ behind line place. is)) (λ rest fit. refl) k

module _ (set : ℕ) (d : SetDecl) (steps : List Step) (Q : Items × Bool → Type 0) where
  abbrev More : List ℕ → Items → Type 0
  More t s = Rest form.item true t (s, true) Q

  size_next : (size : Option ℕ) (rest : List ℕ) → IfSome size (λ n. (1 ≤ n) × (n ≤ most_elements))
      → More rest (staged set d size false false false None false false false, steps) → More (size_line size ++ rest) (staged set d None false false false None false false false, steps)
  size_next None rest h k = k
  size_next (Some n) rest h k =
      let after : Items = (staged set d (Some n) false false false None false false false, steps) in
      let number = means_word_is (reasons.Number ∷ []) IsSize (decimal n) n (decimal_word n (omega (arith, h.1))) ((h.1, refl), h.0) in
      let value = means_then (word_is (reasons.Number ∷ []) IsSize) (λ (m : ℕ). done (with_size (staged set d None false false false None false false false) m, steps)) false false (decimal n) [] n (Is after) number (λ rest fit. fit) (means_done false _ _ refl) in
      let item = item_means (staged set d None false false false None false false false, steps) after (codes "size") (decimal n) items.Size (record { some = omega arith; bytes = record { all = refl } }) refl
      (means_as _ false (32 ∷ (decimal n ++ [])) (32 ∷ decimal n) _ (ap (λ (z : List ℕ). 32 ∷ z) (append-nil (decimal n))) (means_space value)) in
      exact_line form.item (staged set d None false false false None false false false, steps) after true (codes "size " ++ decimal n) rest Q item k

  timeout_next : (size timeout : Option ℕ) (interval timed disjoint flagged timeout_flag : Bool) (rest : List ℕ) → IfSome timeout (λ t. (timed ≡ true) × (t ≤ longest_time))
      → More rest (staged set d size interval timed disjoint timeout flagged timeout_flag false, steps) → More (timeout_line timeout ++ rest) (staged set d size interval timed disjoint None flagged timeout_flag false, steps)
  timeout_next size None interval timed disjoint flagged timeout_flag rest h k = k
  timeout_next size (Some t) interval false disjoint flagged timeout_flag rest h k = absurd (cc (h.0))
  timeout_next size (Some t) interval true disjoint flagged timeout_flag rest h k =
      let before = staged set d size interval true disjoint None flagged timeout_flag false in
      let after : Items = (staged set d size interval true disjoint (Some t) flagged timeout_flag false, steps) in
      let is = IsTime-time_text t h.1 in
      let time = means_word_is (reasons.Time ∷ []) IsTime (time_text t) t (time_word (time_text t) t is) is in
      let value = means_then form.time (λ (u : ℕ). done (with_timeout before u, steps)) false false (time_text t) [] t (Is after) time (λ rest fit. fit) (means_done false _ _ refl) in
      let item = item_means (before, steps) after (codes "timeout") (time_text t) items.Timeout (record { some = omega arith; bytes = record { all = refl } }) refl
      (means_as _ false (32 ∷ (time_text t ++ [])) (32 ∷ time_text t) _ (ap (λ (z : List ℕ). 32 ∷ z) (append-nil (time_text t))) (means_space value)) in
      exact_line form.item (before, steps) after true (codes "timeout " ++ time_text t) rest Q item k

-- Flags.
flag_text : Flag → List ℕ
flag_text flags.Interval = codes "interval"
flag_text flags.Timeout = codes "timeout"
flag_text flags.Disjoint = codes "disjoint"

FlagsFit : Declaration → List Flag → Type 0
FlagsFit b [] = Unit {0}
FlagsFit b (f ∷ fs) = (flag_of b (flag_text f) ≡ Some f) × FlagsFit (with_flag b f) fs

all_flags : Declaration → List Flag → Declaration
all_flags b [] = b
all_flags b (f ∷ fs) = all_flags (with_flag b f) fs

flag_word : (f : Flag) → Word (flag_text f)
unfolding flag_text
flag_word flags.Interval = record { some = omega arith; bytes = record { all = refl } }
flag_word flags.Timeout = record { some = omega arith; bytes = record { all = refl } }
flag_word flags.Disjoint = record { some = omega arith; bytes = record { all = refl } }

flag_means : (b : Declaration) (f : Flag) → flag_of b (flag_text f) ≡ Some f → Means false (form.flag b) (flag_text f) (Is (with_flag b f))
flag_means b f is =
    means_as _ false (flag_text f ++ []) (flag_text f) _ (append-nil (flag_text f))
    (means_then (word_by [] (λ t. flag_of b t.bytes)) (λ (g : Flag). done (with_flag b g)) false false (flag_text f) [] f (Is (with_flag b f))
    (means_word_by [] (λ t. flag_of b t.bytes) (flag_text f) f (flag_word f) (λ behind line place. is)) (λ rest fit. fit) (means_done false _ _ refl))

abbrev next_flag : Flag → List ℕ
next_flag f = 44 ∷ flag_text f

flags_goes : (fs : List Flag) → Goes false false (flat_map next_flag fs)
flags_goes [] = λ rest fit. fit
flags_goes (f ∷ fs) = λ rest fit. refl

flags_mean : (fs : List Flag) (b : Declaration) → FlagsFit b fs → Means false (many form.more_flags b) (flat_map next_flag fs) (Is (all_flags b fs))
unfolding FlagsFit all_flags
flags_mean [] b fit = means_last form.more_flags false b (Is b) refl
flags_mean (f ∷ fs) b fit =
    means_next form.more_flags b false false (next_flag f) (flat_map next_flag fs) (Is (with_flag b f)) (Is (all_flags (with_flag b f) fs))
    (means_seq (means_mark 44 (λ bytes. refl)) (flag_means b f fit.0) (λ rest fit. refl)) (flags_goes fs)
    (λ s e. subst (λ (z : Declaration). Means false (many form.more_flags z) (flat_map next_flag fs) (Is (all_flags (with_flag b f) fs))) (sym e) (flags_mean fs (with_flag b f) fit.1))

flags_word : Word (codes "flags")
flags_word = record { some = omega arith; bytes = record { all = refl } }

flags_item : (f : Flag) (fs : List Flag) (b : Declaration) (steps : List Step) → item_of b (codes "flags") ≡ Some items.Flags → FlagsFit b (f ∷ fs)
    → Means false (form.item (b, steps)) (codes "flags " ++ (flag_text f ++ flat_map next_flag fs)) (Is (all_flags b (f ∷ fs), steps))
unfolding FlagsFit all_flags
flags_item f fs b steps is fit =
    let after = all_flags (with_flag b f) fs in
    let others = means_as _ false (flat_map next_flag fs ++ []) (flat_map next_flag fs) _ (append-nil (flat_map next_flag fs))
    (means_then (many form.more_flags (with_flag b f)) (λ (b2 : Declaration). done (b2, steps)) false false (flat_map next_flag fs) [] after (Is (after, steps)) (flags_mean fs (with_flag b f) fit.1) (λ rest fit. fit) (means_done false _ _ refl)) in
    let all = means_then (form.flag b) (λ (b1 : Declaration). many form.more_flags b1 >>= λ (b2 : Declaration). done (b2, steps)) false false (flag_text f) (flat_map next_flag fs) (with_flag b f) (Is (after, steps)) (flag_means b f fit.0) (flags_goes fs) others in
    item_means (b, steps) (after, steps) (codes "flags") (flag_text f ++ flat_map next_flag fs) items.Flags flags_word is (means_space all)

flags_next : (set : ℕ) (d : SetDecl) (steps : List Step) (Q : Items × Bool → Type 0) (size : Option ℕ) (interval timed disjoint : Bool) (rest : List ℕ)
    → More set d steps Q rest (staged set d size interval timed disjoint None (interval || timed || disjoint) timed false, steps)
    → More set d steps Q (flags_line (flag_if interval (codes "interval") ++ flag_if timed (codes "timeout") ++ flag_if disjoint (codes "disjoint")) ++ rest) (staged set d size false false false None false false false, steps)
unfolding FlagsFit all_flags flag_text
flags_next set d steps Q size i t j rest k = go i t j k where
  fine : (f : Flag) (fs : List Flag) → FlagsFit (staged set d size false false false None false false false) (f ∷ fs) → Rest form.item true rest ((all_flags (staged set d size false false false None false false false) (f ∷ fs), steps), true) Q
      → Rest form.item true (listed_item (codes "flags " ++ (flag_text f ++ flat_map next_flag fs)) ++ rest) ((staged set d size false false false None false false false, steps), true) Q
  fine f fs fit k = exact_line form.item (staged set d size false false false None false false false, steps) (all_flags (staged set d size false false false None false false false) (f ∷ fs), steps) true (codes "flags " ++ (flag_text f ++ flat_map next_flag fs)) rest Q (flags_item f fs (staged set d size false false false None false false false) steps refl fit) k

  go : (interval timed disjoint : Bool) → More set d steps Q rest (staged set d size interval timed disjoint None (interval || timed || disjoint) timed false, steps)
      → More set d steps Q (flags_line (flag_if interval (codes "interval") ++ flag_if timed (codes "timeout") ++ flag_if disjoint (codes "disjoint")) ++ rest) (staged set d size false false false None false false false, steps)
  go false false false k = k
  go true false false k = fine flags.Interval [] (refl, tt) k
  go false true false k = fine flags.Timeout [] (refl, tt) k
  go false false true k = fine flags.Disjoint [] (refl, tt) k
  go true true false k = fine flags.Interval (flags.Timeout ∷ []) (refl, (refl, tt)) k
  go true false true k = fine flags.Interval (flags.Disjoint ∷ []) (refl, (refl, tt)) k
  go false true true k = fine flags.Timeout (flags.Disjoint ∷ []) (refl, (refl, tt)) k
  go true true true k = fine flags.Interval (flags.Timeout ∷ flags.Disjoint ∷ []) (refl, (refl, (refl, tt))) k

five : (a b c d e : List ℕ) → a ++ b ++ c ++ d ++ e ≡ a ++ (b ++ (c ++ (d ++ e)))
five a b c d e = append_assoc (a ++ b ++ c) d e ∙ append_assoc (a ++ b) c (d ++ e) ∙ append_assoc a b (c ++ (d ++ e))

lives : (d : SetDecl) → IfSome d.timeout (λ t. (d.timed ≡ true) × (t ≤ longest_time)) → gives_life d ≡ true → d.timed ≡ true
lives d h e = go d.timeout h e where
  go : (x : Option ℕ) → IfSome x (λ t. (d.timed ≡ true) × (t ≤ longest_time)) → (elim x as (λ _. Bool) [ Some t ↦ nat_lt 0 t | None ↦ false ]) ≡ true → d.timed ≡ true
  go None h e = absurd (cc e)
  go (Some t) h e = h.0

-- a name is a word
pub name_word : (name : List ℕ) → IsNameWord name → Word name
name_word [] h = absurd (cc h.named)
name_word (b ∷ name) h = record { some = omega arith; bytes = record { all = h.bytes } }

-- what a listing's text has made of a draft so far: only these sets, and additions at moment 0
abbrev pub drafted : Bool → List SetDecl → List Step → Draft
drafted begun schema steps = record { schema = schema; sections = []; steps = steps; moment = 0; begun = begun; late = false }

abbrev pub Lists : Bool → List SetDecl → List Step → Draft → Type 0
Lists begun schema adds x = (steps : List Step) × (x ≡ drafted begun schema steps) × (map unlined steps ≡ adds)

-- The items of one set, and the set in its table.
module _ (now : ℕ) (d : SetDecl) (s : State) (set : ℕ) (is : IsListableSet now d s) where
  abbrev flagged : Bool
  flagged = d.interval || d.timed || d.disjoint

  -- the text of all items after the type
  abbrev others : List ℕ
  others = size_line d.size ++ (flags_line (flag_words d) ++ (timeout_line d.timeout ++ elements_line d now s.elements))

  -- all that was said before the elements
  abbrev before_elements : Declaration
  before_elements = staged set d d.size d.interval d.timed d.disjoint d.timeout flagged d.timed false

  abbrev Made : List Step → Items × Bool → Type 0
  Made steps r = (r.0.0.decl ≡ d) × (map unlined r.0.1 ≡ map unlined steps ++ map (addition now set) s.elements)

  elements_next : (steps : List Step) → Rest form.item true (elements_line d now s.elements) ((before_elements, steps), true) (Made steps)
  elements_next steps = go s.elements is.elements refl where
    go : (es : List Element) → All (IsListable d now) es → s.elements ≡ es → Rest form.item true (elements_line d now es) ((before_elements, steps), true) (Made steps)
    go [] all none = means_last (line separates form.item) true ((before_elements, steps), true) (Made steps) (refl, sym (ap (λ (z : List Element). map unlined steps ++ map (addition now set) z) none ∙ append-nil (map unlined steps)))
    go (e ∷ es) all some =
        let text = join_by (element_text d now) (codes ",\n\t\t\t     ") (e ∷ es) in
        let list = list_means d now (lives d is.timeout) set is.fields.some e es steps all in
        let closed : Means false (form.list before_elements.target before_elements.decl steps) (codes "{ " ++ (text ++ codes " }")) (λ z. map unlined z ≡ map unlined steps ++ map (addition now set) (e ∷ es)) = means_closed list in
        let Q = λ (r : Items). (r.0.decl ≡ d) × (map unlined r.1 ≡ map unlined steps ++ map (addition now set) (e ∷ es)) in
        let value = means_bind (form.list before_elements.target before_elements.decl steps) (λ (behind : List Step). done (with_elements before_elements, behind)) false false (codes "{ " ++ (text ++ codes " }")) []
        (λ z. map unlined z ≡ map unlined steps ++ map (addition now set) (e ∷ es)) Q closed (λ rest fit. fit) (λ z same. means_done false (with_elements before_elements, z) Q (refl, same)) in
        let item = means_bind (word_by [] (λ t. item_of before_elements t.bytes)) (form.item_behind (before_elements, steps)) false false (codes "elements") (32 ∷ 61 ∷ 32 ∷ ((codes "{ " ++ (text ++ codes " }")) ++ [])) (Is items.Elements) Q
        (means_word_by [] (λ t. item_of before_elements t.bytes) (codes "elements") items.Elements (record { some = omega arith; bytes = record { all = refl } }) (λ behind line place. refl)) (λ rest fit. refl)
        (λ w same. subst (λ z. Means false (form.item_behind (before_elements, steps) z) (32 ∷ 61 ∷ 32 ∷ ((codes "{ " ++ (text ++ codes " }")) ++ [])) Q) (sym same) (means_space (means_seq (means_mark 61 (λ bytes. refl)) (means_space value) (λ rest fit. refl)))) in
        let spelled : codes "elements = " ++ ((codes "{ " ++ (text ++ codes " }")) ++ []) ≡ codes "elements = { " ++ (text ++ codes " }") = ap (λ (z : List ℕ). codes "elements = " ++ z) (append-nil (codes "{ " ++ (text ++ codes " }"))) in
        means_as _ true _ (elements_line d now (e ∷ es)) (Made steps) (append-nil (elements_line d now (e ∷ es)))
        (listed_line form.item (before_elements, steps) true (codes "elements = { " ++ (text ++ codes " }")) [] Q (Made steps) (means_as _ false _ _ Q spelled item)
        (λ r same. means_last (line separates form.item) true (r, true) (Made steps) (same.0, same.1 ∙ ap (λ (z : List Element). map unlined steps ++ map (addition now set) z) (sym some))))

  items_mean : (steps : List Step) → Rest form.item true others
      ((staged set d None false false false None false false false, steps), true) (Made steps)
  items_mean steps =
      let elements = elements_line d now s.elements in
      let timed = timeout_line d.timeout ++ elements in
      let flagging = flags_line (flag_words d) ++ timed in
      size_next set d steps (Made steps) d.size flagging is.size
      (flags_next set d steps (Made steps) d.size d.interval d.timed d.disjoint timed
      (timeout_next set d steps (Made steps) d.size d.timeout d.interval d.timed d.disjoint flagged d.timed elements is.timeout (elements_next steps)))

  -- a set in braces adds its declaration and its additions
  module _ (begun : Bool) (schema : List SetDecl) (steps : List Step) (number : set ≡ length schema) where
    abbrev After : Draft → Type 0
    After = Lists begun (schema ++ d ∷ []) (map unlined steps ++ map (addition now set) s.elements)

    abbrev ending : Items → Form Draft
    ending r = mark 125 >> done (declared r.0 r.1 (drafted begun schema steps))

    ending_means : (r : Items) → (r.0.decl ≡ d) × (map unlined r.1 ≡ map unlined steps ++ map (addition now set) s.elements) → Means true (ending r) (codes "\t}") After
    ending_means r same =
        means_tab (means_seq (means_mark 125 (λ bytes. refl)) (means_done true (declared r.0 r.1 (drafted begun schema steps)) After (r.1, ap (λ (z : SetDecl). drafted begun (schema ++ z ∷ []) r.1) same.0, same.1)) (λ rest fit. refl))

    abbrev items_then : List Kind → Form Draft
    items_then ks = lines separates form.item ((declaration (drafted begun schema steps) d.family d.table d.name ks, steps), false) >>= ending

    items_end : Means true (items_then d.kinds) (10 ∷ (others ++ codes "\t}")) After
    items_end =
        let first : Items = (staged set d None false false false None false false false, steps) in
        let opening : (declaration (drafted begun schema steps) d.family d.table d.name d.kinds, steps) ≡ first = ap (λ (n : ℕ). (staged n d None false false false None false false false, steps)) (sym number) in
        let all = break_next form.item first false true others (Made steps) (items_mean steps) in
        let read = means_as _ true ((10 ∷ others) ++ []) (10 ∷ others) _ (append-nil (10 ∷ others))
        (means_bind (many (line separates form.item) (first, false)) (λ (r : Items × Bool). done r.0) true true (10 ∷ others) [] (Made steps) (λ r. (r.0.decl ≡ d) × (map unlined r.1 ≡ map unlined steps ++ map (addition now set) s.elements)) all (λ rest fit. refl) (λ r same. means_done true r.0 _ same)) in
        subst (λ (z : Items). Means true (lines separates form.item (z, false) >>= ending) (10 ∷ (others ++ codes "\t}")) After) (sym opening)
        (means_bind (lines separates form.item (first, false)) ending true true (10 ∷ others) (codes "\t}") (λ r. (r.0.decl ≡ d) × (map unlined r.1 ≡ map unlined steps ++ map (addition now set) s.elements)) After read (λ rest fit. refl) ending_means)

    abbrev kinds_text : List ℕ
    kinds_text = codes "type " ++ join_by kind_text (codes " . ") d.kinds

    -- the braces with the items
    body_means : Means true (form.set_body (drafted begun schema steps) (d.family, d.table) d.name) (codes "{\n" ++ (items_text now d s ++ codes "\t}")) After
    body_means =
        let typed = means_then form.type_item items_then false true kinds_text (10 ∷ (others ++ codes "\t}")) d.kinds After (type_means d.kinds is.fields.some (record { few = is.fields.few; narrow = is.narrow })) (λ rest fit. refl) items_end in
        let after_brace = means_next (λ _. passed separates) tt true true (10 ∷ []) [] (Is tt) (Is tt) newline (λ rest fit. refl) (λ u e. means_last (λ _. passed separates) true u (Is tt) e) in
        let spelled : 123 ∷ 10 ∷ 9 ∷ 9 ∷ (kinds_text ++ (10 ∷ (others ++ codes "\t}"))) ≡ codes "{\n" ++ (items_text now d s ++ codes "\t}") =
        ap (λ (z : List ℕ). 123 ∷ 10 ∷ 9 ∷ 9 ∷ z) (sym (append_assoc (kinds_text ++ 10 ∷ []) others (codes "\t}") ∙ append_assoc kinds_text (10 ∷ []) (others ++ codes "\t}")))
        ∙ ap (λ (z : List ℕ). 123 ∷ 10 ∷ (z ++ codes "\t}")) (sym (five (type_line d) (size_line d.size) (flags_line (flag_words d)) (timeout_line d.timeout) (elements_line d now s.elements))) in
        means_as _ true _ _ After spelled (means_seq (means_mark 123 (λ bytes. refl)) (means_seq after_brace (means_tab (means_tab typed)) (λ rest fit. refl)) (λ rest fit. refl))

    abbrev pub block_text : List ℕ
    block_text = codes "set " ++ (d.name ++ (codes " {\n" ++ (items_text now d s ++ codes "\t}")))

    -- the whole block, if the set may be declared after these
    pub block_means : may_declare (drafted begun schema steps) d.family d.table d.name ≡ true → Means true (form.set_block (d.family, d.table) (drafted begun schema steps)) block_text After
    block_means may =
        let word = means_word_by (reasons.Set ∷ []) (λ t. new_name (drafted begun schema steps) d.family d.table t.bytes) d.name d.name (name_word d.name is.name) (λ behind line place. ap (λ (b : Bool). cond b (Some d.name) None) may) in
        let named = means_then (form.new_set (drafted begun schema steps) (d.family, d.table)) (form.set_body (drafted begun schema steps) (d.family, d.table)) false true d.name (codes " {\n" ++ (items_text now d s ++ codes "\t}")) d.name After word (λ rest fit. refl) (means_space body_means) in
        means_seq (means_literal 115 (codes "et") refl) (means_space named) (λ rest fit. refl)
