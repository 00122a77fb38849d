use Rattle.std.proofs.Common.{◌≡◌, take, length}
use Rattle.script_text.specs.Addresses.{ether_of, octets_of}
use Rattle.script_text.proofs.EthernetLemmas.{address_from}
use Rattle.script_text.proofs.ethernet.ether_of.Given as goal

-- the octets that were read, and the text that is left
abbrev pub invariant-loop-place : goal.invariant-loop-place
invariant-loop-place l = record {
  reading : ether_of l.word ≡ address_from (take l.place l.octets) (octets_of l.rest);
  six : length l.octets ≡ 6;
}
