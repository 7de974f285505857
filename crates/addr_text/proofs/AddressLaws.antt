-- What std's addresses mean as numbers.
use Rattle.std.proofs.Common.{◌≡◌, ℕ, ◌+◌, ◌*◌, ◌^◌, ◌<◌, ◌≤◌, List, length, get_or, take, Option, Some, None, option_map, refl, sym, arith, lit<}
use Rattle.std.proofs.lemmas.List.{length-take-le}
use Rattle.std.specs.Net.Addr.{ipv4_bits}
use Rattle.std.specs.Net.Grammar.{IsIpv4Text, IsIpv6Text}
use Rattle.std.specs.Net.Reader.{read_ipv4, read_ipv6, whole_value}
use Rattle.std.specs.declared.net.ipv4_addr.Ipv4Addr.{Ipv4Addr}
use Rattle.std.specs.declared.net.ipv6_addr.Ipv6Addr.{Ipv6Addr}
use Rattle.std.proofs.NetLemmas.Texts.{AllSegments-take}
use Rattle.addr_text.specs.Numbers.{big_endian}
use Rattle.addr_text.proofs.NumberLaws.{more_digits, big_endian-lt}
use Rattle.addr_text.proofs.ValueLaws.{ipv4_sound, ipv4_complete, ipv6_sound, ipv6_complete}

-- four octets
ipv4_bits-big_endian : (text : List ℕ) (a : Ipv4Addr) → IsIpv4Text text a → ipv4_bits a ≡ big_endian 256 a.octets
unfolding ipv4_bits
ipv4_bits-big_endian text a h = rw (h.value) (omega arith)

pub ipv4_read : (text : List ℕ) (a : Ipv4Addr) → IsIpv4Text text a → Some (ipv4_bits a) ≡ option_map (big_endian 256) (whole_value (read_ipv4 text))
ipv4_read text a h = sym (ipv4_complete text (ipv4_bits a) (record { octets = a.octets; dotted = h; value = ipv4_bits-big_endian text a h }))

pub ipv4_unread : (text : List ℕ) → ((a : Ipv4Addr) → ¬ (IsIpv4Text text a)) → None ≡ option_map (big_endian 256) (whole_value (read_ipv4 text))
ipv4_unread text none = go (option_map (big_endian 256) (whole_value (read_ipv4 text))) refl where
  go : (o : Option ℕ) → option_map (big_endian 256) (whole_value (read_ipv4 text)) ≡ o → None ≡ o
  go None is = refl
  go (Some n) is = let value = ipv4_sound text n is in absurd (none (record { octets = value.octets }) value.dotted)

pub ipv6_read : (text : List ℕ) (a : Ipv6Addr) → IsIpv6Text text a → Some (big_endian 65536 a.segments) ≡ option_map (big_endian 65536) (whole_value (read_ipv6 text))
ipv6_read text a h = sym (ipv6_complete text (big_endian 65536 a.segments) (record { segments = a.segments; colon_hex = h; value = refl }))

pub ipv6_unread : (text : List ℕ) → ((a : Ipv6Addr) → ¬ (IsIpv6Text text a)) → None ≡ option_map (big_endian 65536) (whole_value (read_ipv6 text))
ipv6_unread text none = go (option_map (big_endian 65536) (whole_value (read_ipv6 text))) refl where
  go : (o : Option ℕ) → option_map (big_endian 65536) (whole_value (read_ipv6 text)) ≡ o → None ≡ o
  go None is = refl
  go (Some n) is = let value = ipv6_sound text n is in absurd (none (record { segments = value.segments }) value.colon_hex)

-- eight segments fit 128 bits
pub segments_fit : (segments : List ℕ) (i digit : ℕ) → length segments ≤ 8 → i < length segments → ((k : ℕ) → get_or segments k 0 < 65536) → digit < 65536 → big_endian 65536 (take i segments) * 65536 + digit < 65536 ^ 8
segments_fit segments i digit eight inside small below =
    let len : length (take i segments) ≡ i = length-take-le i segments (omega arith) in
    let front : big_endian 65536 (take i segments) < 65536 ^ length (take i segments) = big_endian-lt 65536 (take i segments) (lit< tt) (AllSegments-take i segments small) in
    more_digits 65536 (big_endian 65536 (take i segments)) digit (length (take i segments)) 8 (lit< tt) front below (omega arith)
