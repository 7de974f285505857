-- Worked examples of the JSON. The values are those that nft 1.0.6 lists (`nft -j list ruleset`), and they compute.
use lib.Count.{count_leading_zeros}
use Rattle.std.specs.Prelude.{◌≡◌, refl, ℕ, List, [], ◌∷◌, Some, None, Option, codes, false, true}
use Rattle.std.specs.Fmt.{digits}
use Rattle.std.specs.Str.{chars, is_utf8}
use Rattle.std.specs.Str.Lossy.{utf8_lossy, utf8_valid_len}
use Rattle.serde_json.proofs.OnLiterals.{serde_json_on_literals}
use Rattle.serde_json.specs.Written.{compact_text}
use Rattle.addr_text.specs.Written.{value_text}
use Rattle.set_model.specs.declared.element.Element.{Element}
use Rattle.set_model.specs.declared.kind.Interval.{Interval}
use Rattle.set_model.specs.declared.kind.Kind.TheVariants.{Ipv4, Ether, Proto, Service, Mark}
use Rattle.set_model.specs.declared.script.SetDecl.{SetDecl}
use Rattle.set_model.specs.declared.script.Family.TheVariants.{Ip, Inet}
use Rattle.set_model.specs.SetState.{State}
use Rattle.list_json.specs.JsonValues.{interval_data}
use Rattle.list_json.specs.JsonSets.{timeout_seconds, lasts, element_data, declared_set_data}
use Rattle.list_json.specs.JsonListing.{ruleset_line}

abbrev part : ℕ → ℕ → Interval
part low high = record { low = low; high = high }

-- 10.0.0.0/8, 1.2.3.4-1.2.3.9 and 192.168.1.1
block : compact_text (interval_data Ipv4 (part 167772160 184549375)) ≡ codes "{\"prefix\":{\"addr\":\"10.0.0.0\",\"len\":8}}"
unfolding digits value_text serde_json_on_literals utf8_lossy utf8_valid_len is_utf8 chars count_leading_zeros
block = refl

range : compact_text (interval_data Ipv4 (part 16909060 16909065)) ≡ codes "{\"range\":[\"1.2.3.4\",\"1.2.3.9\"]}"
unfolding digits value_text serde_json_on_literals utf8_lossy utf8_valid_len is_utf8 chars count_leading_zeros
range = refl

address : compact_text (interval_data Ipv4 (part 3232235777 3232235777)) ≡ codes "\"192.168.1.1\""
unfolding digits value_text serde_json_on_literals utf8_lossy utf8_valid_len is_utf8 chars count_leading_zeros
address = refl

-- 6, 255 and 6-17 of protocols
named_protocol : compact_text (interval_data Proto (part 6 6)) ≡ codes "\"tcp\""
unfolding digits value_text serde_json_on_literals utf8_lossy utf8_valid_len is_utf8 chars count_leading_zeros
named_protocol = refl

numbered_protocol : compact_text (interval_data Proto (part 255 255)) ≡ codes "255"
unfolding digits value_text serde_json_on_literals utf8_lossy utf8_valid_len is_utf8 chars count_leading_zeros
numbered_protocol = refl

protocols : compact_text (interval_data Proto (part 6 17)) ≡ codes "{\"range\":[6,17]}"
unfolding digits value_text serde_json_on_literals utf8_lossy utf8_valid_len is_utf8 chars count_leading_zeros
protocols = refl

-- a port, a mark, and 00:11:22:33:44:00-00:11:22:33:44:ff
port : compact_text (interval_data Service (part 80 80)) ≡ codes "80"
unfolding digits
port = refl

mark : compact_text (interval_data Mark (part 100 100)) ≡ codes "100"
unfolding digits
mark = refl

cards : compact_text (interval_data Ether (part 73588229120 73588229375)) ≡ codes "{\"range\":[\"00:11:22:33:44:00\",\"00:11:22:33:44:ff\"]}"
unfolding digits value_text serde_json_on_literals utf8_lossy utf8_valid_len is_utf8 chars count_leading_zeros
cards = refl

abbrev declared_set : Option ℕ → SetDecl
declared_set timeout = record { family = Inet; table = codes "filter"; name = codes "b"; kinds = Ipv4 ∷ Service ∷ []; interval = true; timed = true; disjoint = true; timeout = timeout; size = None }

abbrev element : ℕ → ℕ → ℕ → ℕ → Option ℕ → List ℕ → Element
element low high first last expiry comment = record { id = 0; parts = part low high ∷ part first last ∷ []; expiry = expiry; comment = comment }

-- 10.0.0.0/24 . 80, which expires 299.9 s after the moment, in a set with a timeout of five minutes
ages : compact_text (element_data (declared_set (Some 300000)) 100 (element 167772160 167772415 80 80 (Some 300000) [])) ≡ codes "{\"elem\":{\"expires\":299,\"val\":{\"concat\":[{\"prefix\":{\"addr\":\"10.0.0.0\",\"len\":24}},80]}}}"
unfolding digits value_text serde_json_on_literals utf8_lossy utf8_valid_len is_utf8 chars count_leading_zeros
ages = refl

-- 1.2.3.4 . 1-1000 with half an hour left, which is more than the set gives
outlives : compact_text (element_data (declared_set (Some 300000)) 0 (element 16909060 16909060 1 1000 (Some 1800000) (codes "c")))
    ≡ codes "{\"elem\":{\"comment\":\"c\",\"expires\":1800,\"timeout\":1800,\"val\":{\"concat\":[\"1.2.3.4\",{\"range\":[1,1000]}]}}}"
unfolding digits value_text serde_json_on_literals utf8_lossy utf8_valid_len is_utf8 chars count_leading_zeros
outlives = refl

-- a second left, and a millisecond less
second_left : lasts 0 (element 1 1 1 1 (Some 1000) []) ≡ true
second_left = refl

too_little_left : lasts 0 (element 1 1 1 1 (Some 999) []) ≡ false
too_little_left = refl

-- timeouts of 500 ms and of 1999 ms
short_timeout : timeout_seconds 500 ≡ 1
short_timeout = refl

longer_timeout : timeout_seconds 1999 ≡ 1
longer_timeout = refl

-- a set without elements, whose flag `disjoint` nft doesn't know
empty : compact_text (declared_set_data 0 (declared_set (Some 300000)) [])
    ≡ codes "{\"set\":{\"family\":\"inet\",\"flags\":[\"interval\",\"timeout\"],\"name\":\"b\",\"table\":\"filter\",\"timeout\":300,\"type\":[\"ipv4_addr\",\"inet_service\"]}}"
unfolding digits serde_json_on_literals utf8_lossy utf8_valid_len is_utf8 chars count_leading_zeros
empty = refl

abbrev ports : List ℕ → List ℕ → SetDecl
ports table name = record { family = Ip; table = table; name = name; kinds = Service ∷ []; interval = false; timed = false; disjoint = false; timeout = None; size = Some 4 }

abbrev state : List Element → State
state es = record { kinds = Service ∷ []; size = Some 4; disjoint = false; elements = es; next = 1 }

-- two sets of table `t` with a set of table `u` between them
line : ruleset_line (ports (codes "t") (codes "a") ∷ ports (codes "u") (codes "b") ∷ ports (codes "t") (codes "c") ∷ []) (state [] ∷ state [] ∷ state (record { id = 0; parts = part 80 80 ∷ []; expiry = None; comment = [] } ∷ []) ∷ []) 0
    ≡ codes "{\"nftables\":[{\"metainfo\":{\"json_schema_version\":1}},{\"table\":{\"family\":\"ip\",\"name\":\"t\"}},{\"set\":{\"family\":\"ip\",\"name\":\"a\",\"size\":4,\"table\":\"t\",\"type\":\"inet_service\"}},{\"set\":{\"elem\":[80],\"family\":\"ip\",\"name\":\"c\",\"size\":4,\"table\":\"t\",\"type\":\"inet_service\"}},{\"table\":{\"family\":\"ip\",\"name\":\"u\"}},{\"set\":{\"family\":\"ip\",\"name\":\"b\",\"size\":4,\"table\":\"u\",\"type\":\"inet_service\"}}]}\n"
unfolding digits serde_json_on_literals utf8_lossy utf8_valid_len is_utf8 chars count_leading_zeros
line = refl
