-- What holds of plans and facts, so that their packets fit the sets.
use Rattle.std.specs.Prelude.{◌≡◌, List, map, true, Some, IfSome, slice_get}
use Rattle.set_model.specs.declared.kind.Kind.{Kind}
use Rattle.set_model.specs.declared.kind.Kind.TheVariants as kinds
use Rattle.set_model.specs.declared.script.SetDecl.{SetDecl}
use Rattle.set_model.specs.Key.{is_value}
use Rattle.frame_facts.specs.declared.facts.Facts.{Facts}
use Rattle.pcap_keys.specs.declared.facts.Frame.{Frame}
use Rattle.pcap_keys.specs.declared.selector.Selector.{Selector}
use Rattle.pcap_keys.specs.declared.selector.Selector.TheVariants.{IpSource, IpDest, Ip6Source, Ip6Dest, EtherSource, EtherDest, Proto, SourcePort, DestPort}
use Rattle.pcap_keys.specs.declared.selector.PlanLine.{PlanLine}
use Rattle.pcap_keys.specs.Selectors.{is_in, selected_value}

-- the kind of what a selector selects
abbrev pub selected_kind : Selector → Kind
selected_kind IpSource = kinds.Ipv4
selected_kind IpDest = kinds.Ipv4
selected_kind Ip6Source = kinds.Ipv6
selected_kind Ip6Dest = kinds.Ipv6
selected_kind EtherSource = kinds.Ether
selected_kind EtherDest = kinds.Ether
selected_kind Proto = kinds.Proto
selected_kind SourcePort = kinds.Service
selected_kind DestPort = kinds.Service

-- A line's set is declared, and its selectors are of the kinds of the set's fields, one for each.
pub record IsPlanned (schema : List SetDecl) (line : PlanLine) : Type 0 where
  pub set : SetDecl
  pub declared : slice_get schema line.set ≡ Some set
  pub kinds : map selected_kind line.selectors ≡ set.kinds

-- What a selector selects of facts is a value of its kind.
abbrev pub AreValues : Facts → Type 0
AreValues facts = (s : Selector) → is_in facts s ≡ true → is_value (selected_kind s) (selected_value facts s) ≡ true

-- The facts of a frame, if it has any, are values of their kinds.
abbrev pub HasValues : Frame → Type 0
HasValues frame = IfSome frame.facts AreValues
