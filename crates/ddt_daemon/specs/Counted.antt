-- What is counted. A count that is full stays so.
use Rattle.std.specs.Prelude.{ℕ, ◌+◌, ◌-◌, ◌^◌, min, Bool, true, false, Result, Ok, Err, Option, Some, None}
use Rattle.ddt_path.specs.declared.record.Outcome.{Outcome}
use Rattle.ddt_path.specs.declared.record.Outcome.TheVariants.{Registered, NotRegistered, Hole}
use Rattle.ddt_sockets.specs.declared.wire_calls.Packet.{Packet}
use Rattle.ddt_sockets.specs.declared.wire_calls.NetFault.{NetFault}
use Rattle.ddt_resolver.specs.declared.results.Ignored.{Ignored}
use Rattle.ddt_resolver.specs.declared.results.Ignored.TheVariants as ignored
use Rattle.ddt_resolver.specs.declared.results.Why.{Why}
use Rattle.ddt_resolver.specs.declared.results.Why.TheVariants as gave_up
use Rattle.ddt_daemon.specs.declared.admission.Dropped.{Dropped}
use Rattle.ddt_daemon.specs.declared.admission.Dropped.TheVariants.{Denied, TooLong, NoRequest, UnrecognizedAfi, Probe, NoReply, OwnAddress, Looped, Repeated, Full, SourceFull, SetFull, Memory}
use Rattle.ddt_daemon.specs.declared.service.Service.{Service}
use Rattle.ddt_daemon.specs.declared.service.Service.TheVariants as service
use Rattle.ddt_daemon.specs.declared.counts.ServerCounts.{ServerCounts}
use Rattle.ddt_daemon.specs.declared.counts.ResolverCounts.{ResolverCounts}
use Rattle.ddt_daemon.specs.declared.counted_wires.WireCounts.{WireCounts}

-- A count after so many more. Counts have 64 bits; one that would pass 2^64 - 1 stays there.
abbrev pub plus : ℕ → ℕ → ℕ
plus count more = min (count + more) (2 ^ 64 - 1)

-- no call of wires is counted yet
abbrev pub no_call : WireCounts
no_call = record { received = 0; unreceived = 0; sent = 0; unsent = 0 }

-- nothing is counted of a resolver yet
abbrev pub nothing_counted : ResolverCounts
nothing_counted = record {
  lookups = 0;
  shared = 0;
  cut = 0;
  denied = 0;
  too_long = 0;
  no_request = 0;
  unrecognized_afi = 0;
  probe = 0;
  no_map_reply = 0;
  own_address = 0;
  came_back = 0;
  repeated = 0;
  full = 0;
  source_full = 0;
  set_full = 0;
  memory = 0;
  undecodable = 0;
  unknown_nonce = 0;
  wrong_source = 0;
  late = 0;
  not_covering = 0;
  no_servers = 0;
  registered = 0;
  not_registered = 0;
  holes = 0;
  no_reply = 0;
  looped = 0;
  not_authoritative = 0;
  exhausted = 0;
}

-- one more datagram that a server was given, to which a reply was sent or not
abbrev pub with_received_one : ServerCounts → Bool → ServerCounts
with_received_one c true = record c { received = plus c.received 1; replied = plus c.replied 1 }
with_received_one c false = record c { received = plus c.received 1 }

-- counted by whom it asks for, or by why it was dropped
abbrev pub with_service : ServerCounts → Service → ServerCounts
with_service c service.NoRequest = record c { no_request = plus c.no_request 1 }
with_service c service.UnrecognizedAfi = record c { unrecognized_afi = plus c.unrecognized_afi 1 }
with_service c service.Probe = record c { probe = plus c.probe 1 }
with_service c service.Denied = record c { denied = plus c.denied 1 }
with_service c service.Client = record c { clients = plus c.clients 1 }
with_service c service.Itr = record c { itrs = plus c.itrs 1 }

-- one more Encapsulated Control Message that a resolver has dropped, counted by the reason
abbrev pub with_dropped : ResolverCounts → Dropped → ResolverCounts
with_dropped c Denied = record c { denied = plus c.denied 1 }
with_dropped c TooLong = record c { too_long = plus c.too_long 1 }
with_dropped c NoRequest = record c { no_request = plus c.no_request 1 }
with_dropped c UnrecognizedAfi = record c { unrecognized_afi = plus c.unrecognized_afi 1 }
with_dropped c Probe = record c { probe = plus c.probe 1 }
with_dropped c NoReply = record c { no_map_reply = plus c.no_map_reply 1 }
with_dropped c OwnAddress = record c { own_address = plus c.own_address 1 }
with_dropped c Looped = record c { came_back = plus c.came_back 1 }
with_dropped c Repeated = record c { repeated = plus c.repeated 1 }
with_dropped c Full = record c { full = plus c.full 1 }
with_dropped c SourceFull = record c { source_full = plus c.source_full 1 }
with_dropped c SetFull = record c { set_full = plus c.set_full 1 }
with_dropped c Memory = record c { memory = plus c.memory 1 }

-- one more request of an ITR that has started a lookup
abbrev pub with_lookup : ResolverCounts → ResolverCounts
with_lookup c = record c { lookups = plus c.lookups 1 }

-- one more that shares a lookup
abbrev pub with_shared : ResolverCounts → ResolverCounts
with_shared c = record c { shared = plus c.shared 1 }

-- one more reply that was cut to its zone
abbrev pub with_cut : ResolverCounts → ResolverCounts
with_cut c = record c { cut = plus c.cut 1 }

-- one more datagram that the resolver has ignored, counted by the reason
abbrev pub with_ignored : ResolverCounts → Ignored → ResolverCounts
with_ignored c ignored.Undecodable = record c { undecodable = plus c.undecodable 1 }
with_ignored c ignored.UnknownNonce = record c { unknown_nonce = plus c.unknown_nonce 1 }
with_ignored c ignored.WrongSource = record c { wrong_source = plus c.wrong_source 1 }
with_ignored c ignored.Late = record c { late = plus c.late 1 }
with_ignored c ignored.NotCovering = record c { not_covering = plus c.not_covering 1 }
with_ignored c ignored.NoServers = record c { no_servers = plus c.no_servers 1 }

-- a datagram that was heard: counted only if it is ignored
abbrev pub with_why : ResolverCounts → Option Ignored → ResolverCounts
with_why c None = c
with_why c (Some why) = with_ignored c why

-- the end of an ITR's lookup
abbrev pub with_ended : ResolverCounts → Result Outcome Why → ResolverCounts
with_ended c (Ok (Registered p servers)) = record c { registered = plus c.registered 1 }
with_ended c (Ok (NotRegistered p servers)) = record c { not_registered = plus c.not_registered 1 }
with_ended c (Ok (Hole p)) = record c { holes = plus c.holes 1 }
with_ended c (Err gave_up.NoReply) = record c { no_reply = plus c.no_reply 1 }
with_ended c (Err gave_up.Loop) = record c { looped = plus c.looped 1 }
with_ended c (Err gave_up.NotAuthoritative) = record c { not_authoritative = plus c.not_authoritative 1 }
with_ended c (Err gave_up.Exhausted) = record c { exhausted = plus c.exhausted 1 }

-- what a call of wires came to
abbrev pub with_received : WireCounts → Result (Option Packet) NetFault → WireCounts
with_received c (Ok (Some p)) = record c { received = plus c.received 1 }
with_received c (Ok None) = c
with_received c (Err fault) = record c { unreceived = plus c.unreceived 1 }

-- one more datagram that was sent, or one more call of `send` that failed
abbrev pub with_sent : WireCounts → Result (Unit {0}) NetFault → WireCounts
with_sent c (Ok done) = record c { sent = plus c.sent 1 }
with_sent c (Err fault) = record c { unsent = plus c.unsent 1 }
