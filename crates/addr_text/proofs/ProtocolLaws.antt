-- The tables of protocol names: each name is in them once, each number is written by one name, and
-- a search finds what they hold.
use Rattle.std.proofs.Common.{sym, ◌∙◌, ap, inl, inr, ◌==◌, ◌≡◌, ℕ, suc, Bool, true, false, not, cond, List, [], ◌∷◌, Option, Some, None, is_some, option_map, map, bytes_eq, find, Contains, refl, arith, true≢false}
use Rattle.std.proofs.lemmas.Bool.{eqb-true}
use Rattle.std.proofs.lemmas.Option.{none-some, same_Some}
use Rattle.std.proofs.lemmas.Slice.Eq.{bytes_eq-Decides}
use Rattle.std.specs.Option.{option_or}
use Rattle.addr_text.specs.declared.protocol.Protocol.{Protocol}
use Rattle.addr_text.specs.Protocols.{written_protocols, other_protocols, protocol_name, name_in, number_in, IsProtocolName, protocol_number}
use Rattle.addr_text.proofs.Tables.{passes}

-- some value, and this number
is_some_number : Option ℕ → ℕ → Bool
is_some_number None n = false
is_some_number (Some m) n = m == n

some_number : (o : Option ℕ) (n : ℕ) → is_some_number o n ≡ true → o ≡ Some n
unfolding is_some_number
some_number None n is = absurd (true≢false (sym is))
some_number (Some m) n is = ap Some (eqb-true m n is)

-- some text, and this one
is_some_text : Option (List ℕ) → List ℕ → Bool
is_some_text None text = false
is_some_text (Some other) text = bytes_eq other text

some_text : (o : Option (List ℕ)) (text : List ℕ) → is_some_text o text ≡ true → o ≡ Some text
unfolding is_some_text
some_text None text is = absurd (true≢false (sym is))
some_text (Some other) text is = ap Some ((bytes_eq-Decides other text).0 is)

-- the entry is found by its name
is_found : List ℕ × ℕ → Bool
is_found p = is_some_number (protocol_number p.0) p.1

-- the entry's name is found by its number
is_written : List ℕ × ℕ → Bool
is_written p = is_some_text (protocol_name p.1) p.0

-- no written protocol has the entry's name
is_only_read : List ℕ × ℕ → Bool
is_only_read p = not (is_some (number_in written_protocols p.0))

-- each name of the tables is found with its own number
pub protocol_number_complete : (text : List ℕ) (n : ℕ) → IsProtocolName text n → protocol_number text ≡ Some n
unfolding is_found is_some_number other_protocols
protocol_number_complete text n (inl at) = some_number _ n (passes is_found written_protocols (text, n) refl at)
protocol_number_complete text n (inr at) = some_number _ n (passes is_found other_protocols (text, n) refl at)

-- a search by name gives an entry
found_in : (table : List (List ℕ × ℕ)) (text : List ℕ) (n : ℕ) → number_in table text ≡ Some n → Contains table (text, n)
found_in [] text n e = absurd (none-some n e)
found_in (p ∷ table) text n e = go (bytes_eq p.0 text) refl e (found_in table text n) where
  go : (b : Bool) → bytes_eq p.0 text ≡ b → option_map (λ q. q.1) (cond b (Some p) (find (λ q. bytes_eq q.0 text) table)) ≡ Some n → (option_map (λ q. q.1) (find (λ q. bytes_eq q.0 text) table) ≡ Some n → Contains table (text, n)) → Contains (p ∷ table) (text, n)
  go true test found later = (0, omega arith, λ i. ((bytes_eq-Decides p.0 text).0 test i, same_Some p.1 n found i))
  go false test found later = let (k, below, at) = later found in (suc k, omega arith, at)

pub protocol_number_sound : (text : List ℕ) (n : ℕ) → protocol_number text ≡ Some n → IsProtocolName text n
protocol_number_sound text n e = go (number_in written_protocols text) refl e where
  go : (o : Option ℕ) → number_in written_protocols text ≡ o → option_or o (number_in other_protocols text) ≡ Some n → IsProtocolName text n
  go None is found = inr (found_in other_protocols text n found)
  go (Some m) is found = inl (found_in written_protocols text n (is ∙ found))

-- an entry of the program's table, as a name and a number
abbrev entry : Protocol → List ℕ × ℕ
entry p = (p.name.now, p.number)

pub number_in-map : (table : List Protocol) (name : List ℕ) → number_in (map (λ p. (p.name.now, p.number)) table) name ≡ option_map (λ p. p.number) (find (λ p. bytes_eq p.name.now name) table)
number_in-map [] name = refl
number_in-map (p ∷ table) name = go (bytes_eq p.name.now name) (number_in-map table name) where
  go : (b : Bool) → number_in (map entry table) name ≡ option_map (λ q. q.number) (find (λ q. bytes_eq q.name.now name) table) → option_map (λ q. q.1) (cond b (Some (entry p)) (find (λ q. bytes_eq q.0 name) (map entry table))) ≡ option_map (λ q. q.number) (cond b (Some p) (find (λ q. bytes_eq q.name.now name) table))
  go true later = refl
  go false later = later

pub name_unique : (name : List ℕ) → (m n : ℕ) → IsProtocolName name m → IsProtocolName name n → m ≡ n
name_unique name m n h k = same_Some m n (sym (protocol_number_complete name m h) ∙ protocol_number_complete name n k)

-- a search by number gives an entry
pub name_found : (table : List (List ℕ × ℕ)) (text : List ℕ) (n : ℕ) → name_in table n ≡ Some text → Contains table (text, n)
name_found [] text n e = absurd (none-some text e)
name_found (p ∷ table) text n e = go (p.1 == n) refl e (name_found table text n) where
  go : (b : Bool) → (p.1 == n) ≡ b → option_map (λ q. q.0) (cond b (Some p) (find (λ q. q.1 == n) table)) ≡ Some text → (option_map (λ q. q.0) (find (λ q. q.1 == n) table) ≡ Some text → Contains table (text, n)) → Contains (p ∷ table) (text, n)
  go true test found later = (0, omega arith, λ i. (same_Some p.0 text found i, eqb-true p.1 n test i))
  go false test found later = let (k, below, at) = later found in (suc k, omega arith, at)

-- a name is written for a number exactly if the table of written names has both together
pub name_written : (name : List ℕ) (n : ℕ) → (protocol_name n ≡ Some name → Contains written_protocols (name, n)) × (Contains written_protocols (name, n) → protocol_name n ≡ Some name)
unfolding is_written is_some_text
name_written name n = (name_found written_protocols name n, λ at. some_text _ name (passes is_written written_protocols (name, n) refl at))

-- a name that is only read is never written
pub only_read : (name : List ℕ) (m n : ℕ) → Contains other_protocols (name, m) → protocol_name n ≡ Some name → ⊥
unfolding is_only_read is_found is_some_number other_protocols
only_read name m n at written =
    let absent : not (is_some (number_in written_protocols name)) ≡ true = passes is_only_read other_protocols (name, m) refl at in
    let present : number_in written_protocols name ≡ Some n = some_number _ n (passes (λ p. is_some_number (number_in written_protocols p.0) p.1) written_protocols (name, n) refl (name_found written_protocols name n written)) in
    true≢false (sym absent ∙ ap (λ o. not (is_some o)) present)
