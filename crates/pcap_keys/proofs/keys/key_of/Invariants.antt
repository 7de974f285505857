use Rattle.std.proofs.Common.{◌≡◌, map, take}
use Rattle.pcap_keys.specs.Selectors.{selected_value}
use Rattle.pcap_keys.proofs.keys.key_of.Given as goal

abbrev pub invariant-values : goal.invariant-values
invariant-values l = l.key ≡ map (selected_value l.facts) (take l.selector-index l.selectors)
