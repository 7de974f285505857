-- Which texts are of another kind than the one that is expected, by their first bytes or by the bad token's line.
use Rattle.std.specs.Prelude.{ℕ, Bool, true, false, ◌&&◌, ◌||◌, not, ◌==◌, nat_le, nat_eq, List, [], ◌∷◌, take, drop, codes, bytes_eq}
use Rattle.std.specs.List.{list_all, prefix_len, starts_with}
use Rattle.token_forms.specs.Bytes.{is_blank, is_line_feed}
use Rattle.token_forms.specs.declared.bad_token.BadToken.{BadToken}
use Rattle.token_notes.specs.Source.{line_of, of_token}
use Rattle.token_notes.specs.declared.help.TextKind.{TextKind}
use Rattle.token_notes.specs.declared.help.TextKind.TheVariants as kinds

-- what gzip packs begins with these bytes
abbrev pub is_packed : List ℕ → Bool
is_packed text = starts_with nat_eq text (31 ∷ 139 ∷ [])

-- a capture begins with the magic of pcapng, or of pcap in one of two orders of bytes and two units of time
abbrev pub is_capture : List ℕ → Bool
is_capture text =
    starts_with nat_eq text (10 ∷ 13 ∷ 13 ∷ 10 ∷ []) || starts_with nat_eq text (212 ∷ 195 ∷ 178 ∷ 161 ∷ []) || starts_with nat_eq text (161 ∷ 178 ∷ 195 ∷ 212 ∷ [])
    || starts_with nat_eq text (77 ∷ 60 ∷ 178 ∷ 161 ∷ []) || starts_with nat_eq text (161 ∷ 178 ∷ 60 ∷ 77 ∷ [])

-- the byte order marks of UTF-8 and of UTF-16
abbrev pub is_marked : List ℕ → Bool
is_marked text = starts_with nat_eq text (239 ∷ 187 ∷ 191 ∷ [])

abbrev pub is_utf16 : List ℕ → Bool
is_utf16 text = starts_with nat_eq text (255 ∷ 254 ∷ []) || starts_with nat_eq text (254 ∷ 255 ∷ [])

-- a space, a tab, a carriage return or a line feed
abbrev pub is_space : ℕ → Bool
is_space b = is_blank b || is_line_feed b

-- the bytes after those at the front that pass a test
abbrev pub after_run : (ℕ → Bool) → List ℕ → List ℕ
after_run test text = drop (prefix_len test text) text

-- a listing of `nft -j` begins with `{` and the string "nftables", with blanks and line feeds between them
abbrev pub is_json : List ℕ → Bool
is_json text = starts_with nat_eq text (codes "{") && starts_with nat_eq (after_run is_space (drop 1 text)) (codes "\"nftables\"")

-- A text of no kind that this program reads.
abbrev pub is_foreign : List ℕ → Bool
is_foreign text = is_packed text || is_capture text || is_marked text || is_utf16 text || is_json text

-- the first word of a line, between blanks
abbrev pub first_word : List ℕ → List ℕ
first_word line = take (prefix_len (λ b. not (is_blank b)) (after_run is_blank line)) (after_run is_blank line)

abbrev pub is_family : List ℕ → Bool
is_family word = bytes_eq word (codes "ip") || bytes_eq word (codes "ip6") || bytes_eq word (codes "inet") || bytes_eq word (codes "arp") || bytes_eq word (codes "bridge") || bytes_eq word (codes "netdev")

-- a word that begins a statement on elements
abbrev pub is_verb : List ℕ → Bool
is_verb word = bytes_eq word (codes "add") || bytes_eq word (codes "create") || bytes_eq word (codes "delete") || bytes_eq word (codes "destroy")

-- a word that begins a statement, and no line of a key file
abbrev pub begins_a_statement : List ℕ → Bool
begins_a_statement word = is_verb word || bytes_eq word (codes "flush") || bytes_eq word (codes "table")

-- a word that begins a part of a rules file
abbrev pub begins_a_rules_file : List ℕ → Bool
begins_a_rules_file word = bytes_eq word (codes "chain") || bytes_eq word (codes "policy")

-- a word that takes a value from a packet
abbrev pub is_selector : List ℕ → Bool
is_selector word =
    bytes_eq word (codes "ip_saddr") || bytes_eq word (codes "ip_daddr") || bytes_eq word (codes "ip6_saddr") || bytes_eq word (codes "ip6_daddr") || bytes_eq word (codes "ether_saddr")
    || bytes_eq word (codes "ether_daddr") || bytes_eq word (codes "proto") || bytes_eq word (codes "sport") || bytes_eq word (codes "dport")

-- a digit or a colon, with which most values begin
abbrev pub begins_a_value : List ℕ → Bool
begins_a_value [] = false
begins_a_value (b ∷ bytes) = nat_le 48 b && nat_le b 58

-- The first word of the bad token's line belongs to a text of another kind: in a script to a key file, a plan or a rules file,
-- in a key file to a script or a rules file, and so on. With a plan beside a key file the bad token decides.
abbrev pub is_swapped : TextKind → List ℕ → List ℕ → Bool
is_swapped kinds.Script word token = is_family word || begins_a_rules_file word
is_swapped kinds.Keys word token = (is_family word && is_selector token) || begins_a_rules_file word || (begins_a_statement word && not (is_verb word && (bytes_eq token (codes "element") || is_family token)))
is_swapped kinds.Rules word token = is_family word
is_swapped kinds.Plan word token = begins_a_statement word || (is_family word && begins_a_value token)

-- No `{` comes before the bad token.
abbrev pub is_outside : List ℕ → BadToken → Bool
is_outside text bad = list_all (λ b. not (b == 123)) (take bad.at text)

abbrev pub is_script : TextKind → Bool
is_script kinds.Script = true
is_script kinds.Keys = false
is_script kinds.Rules = false
is_script kinds.Plan = false

-- A text with this bad token is of another kind than the one that is expected: by its first bytes, or by the bad token's line. In a
-- script this line comes before any brace.
abbrev pub is_other_kind : TextKind → List ℕ → BadToken → Bool
is_other_kind kind text bad = is_foreign text || (is_swapped kind (first_word (line_of text bad)) (of_token text bad) && (not (is_script kind) || is_outside text bad))
