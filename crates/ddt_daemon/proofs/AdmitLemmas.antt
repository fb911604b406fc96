-- What an ITR asks can be spelled in the core's grammar, in an IPv6 packet without a UDP checksum; and why a message isn't
-- asked for.
use Rattle.std.proofs.Common.{◌≡◌, ℕ, ◌+◌, ◌^◌, ◌<◌, Bool, true, false, List, [], ◌∷◌, ◌++◌, length, Option, Some, None, Result, Ok, Err, refl, subst, arith, inl}
use Rattle.std.specs.Prelude.{not, if◌then◌else◌, slice_get}
use Rattle.std.specs.Int.{w128, to_be_bytes}
use Rattle.ddt_ecm.specs.EcmHeader.{ecm_fields}
use Rattle.ddt_ecm.specs.IpHeader.{Version6}
use Rattle.ddt_ecm.specs.Ipv6Header.{Ipv6Header, ipv6_fields, pseudo6}
use Rattle.ddt_ecm.specs.UdpHeader.{udp_fields}
use Rattle.ddt_ecm.specs.Request.{Spells}
use Rattle.ddt_ecm.specs.laws.Statements.{IsRequest}
use Rattle.ddt_ecm.specs.laws.Written.{written_spells}
use Rattle.ddt_resolver.specs.declared.itr_messages.ItrRequest.{ItrRequest}
use Rattle.ddt_path.specs.declared.locator.Locator.{Locator}
use Rattle.ddt_foreign.specs.declared.fault.ForeignRequestFault.{ForeignRequestFault}
use Rattle.ddt_foreign.specs.declared.fault.ForeignRequestFault.TheVariants as fault
use Rattle.ddt_foreign.specs.Request.{Asked, request_in}
use Rattle.ddt_config.specs.declared.settings.resolver_settings.Settings.{Settings}
use Rattle.ddt_daemon.specs.declared.admission.Dropped.{Dropped}
use Rattle.ddt_daemon.specs.declared.admission.Dropped.TheVariants.{Denied, TooLong, NoRequest, UnrecognizedAfi, Probe, NoReply, OwnAddress, Repeated, Full, SourceFull, SetFull, Looped, Memory}
use Rattle.ddt_daemon.specs.Requests.{IsSpellable, classified, names_one, itr_request}
use Rattle.ddt_daemon.specs.Resolving.{Resolving}
use Rattle.ddt_daemon.specs.Admitted.{MayCome, IsNotAsked, IsDropped}

no_header : Ipv6Header
no_header = record {
  class_and_label = 0;
  hops = 0;
  source = 0;
  destination = 0;
  class_and_label_fit = omega arith;
  hops_fit = omega arith;
  source_fits = omega arith;
  destination_fits = omega arith;
}

pub spellable : (q : ItrRequest) → IsRequest q.nonce q.xeid (q.to ∷ []) → q.port < 2 ^ 16 → IsSpellable q
spellable q fits port =
    let written = written_spells q.nonce q.xeid (q.to ∷ []) false fits in
    let udp = udp_fields q.port (8 + length written.request) 0 ++ written.request in
    let few = written.spells_udp.len_fits in
    let packet = ipv6_fields no_header (length udp) ++ udp in (
      ecm_fields false 0 ++ packet,
      record {
        message = record { nonce = q.nonce; ddt = false; port = q.port; xeid = q.xeid; rlocs = q.to ∷ [] };
        spells = record {
          ignored = 0;
          packet = packet;
          pseudo = pseudo6 (to_be_bytes w128 no_header.source ++ to_be_bytes w128 no_header.destination) (length udp);
          udp = udp;
          request = written.request;
          ignored_fits = omega arith;
          spells_ip = Version6 (record { header = no_header; payload_fits = omega (arith, few); covered = refl; whole = refl });
          spells_udp = record {
            checksum = 0;
            port_fits = port;
            len_fits = few;
            checksum_fits = omega arith;
            right = inl refl;
            whole = refl;
          };
          spells_request = written.spells_request;
          whole = refl;
        };
        asks = record { plain = refl; identifier = refl; nonce = refl; first_rloc = refl; port = refl };
      },
    )

-- the reasons for which a message isn't asked for
abbrev IsOfRequest : Dropped → Type 0
IsOfRequest NoRequest = Unit {0}
IsOfRequest UnrecognizedAfi = Unit {0}
IsOfRequest Probe = Unit {0}
IsOfRequest NoReply = Unit {0}
IsOfRequest OwnAddress = Unit {0}
IsOfRequest _ = ⊥

of_this : (own why : Dropped) → IsOfRequest own → ◌≡◌ {A = Result ItrRequest Dropped} (Err own) (Err why) → IsOfRequest why
of_this own why its is = let same : own ≡ why = cc is in subst IsOfRequest same its

of_first : (v : Asked) (to : Option Locator) (why : Dropped) → itr_request v to ≡ Err why → IsOfRequest why
of_first v (Some l) why is = absurd (cc is)
of_first v None why is = of_this NoRequest why tt is

of_bits : (v : Asked) (ddt probe reply own : Bool) (why : Dropped)
    → (if ddt then Err NoRequest else if probe then Err Probe else if not reply then Err NoReply else if own then Err OwnAddress else itr_request v (slice_get v.rlocs 0)) ≡ Err why
    → IsOfRequest why
of_bits v true probe reply own why is = of_this NoRequest why tt is
of_bits v false true reply own why is = of_this Probe why tt is
of_bits v false false false own why is = of_this NoReply why tt is
of_bits v false false true true why is = of_this OwnAddress why tt is
of_bits v false false true false why is = of_first v (slice_get v.rlocs 0) why is

of_request : (own : List Locator) (r : Result Asked ForeignRequestFault) (why : Dropped) → classified own r ≡ Err why → IsOfRequest why
of_request own (Ok v) why is = of_bits v v.ddt v.probe v.reply (names_one own v.rlocs) why is
of_request own (Err fault.UnrecognizedAfi) why is = of_this UnrecognizedAfi why tt is
of_request own (Err (fault.Headers h)) why is = of_this NoRequest why tt is
of_request own (Err fault.Short) why is = of_this NoRequest why tt is
of_request own (Err fault.RequestType) why is = of_this NoRequest why tt is
of_request own (Err fault.NoEid) why is = of_this NoRequest why tt is
of_request own (Err fault.Lcaf) why is = of_this NoRequest why tt is
of_request own (Err fault.MaskLength) why is = of_this NoRequest why tt is
of_request own (Err fault.ManyInstances) why is = of_this NoRequest why tt is
of_request own (Err fault.NoRloc) why is = of_this NoRequest why tt is

by_why : (settings : Settings) (from : Locator) (bytes : List ℕ) (now : ℕ) (w : Resolving) (why : Dropped) → IsOfRequest why → IsNotAsked settings from bytes why → IsDropped settings now w from bytes why
by_why settings from bytes now w NoRequest its is = is
by_why settings from bytes now w UnrecognizedAfi its is = is
by_why settings from bytes now w Probe its is = is
by_why settings from bytes now w NoReply its is = is
by_why settings from bytes now w OwnAddress its is = is
by_why settings from bytes now w Denied its is = absurd its
by_why settings from bytes now w TooLong its is = absurd its
by_why settings from bytes now w Repeated its is = absurd its
by_why settings from bytes now w Full its is = absurd its
by_why settings from bytes now w SourceFull its is = absurd its
by_why settings from bytes now w SetFull its is = absurd its
by_why settings from bytes now w Looped its is = absurd its
by_why settings from bytes now w Memory its is = absurd its

-- a message that may come is dropped for what it asks
pub dropped_for : (settings : Settings) (from : Locator) (bytes : List ℕ) (now : ℕ) (w : Resolving) (why : Dropped) → MayCome settings from bytes
    → classified settings.listen (request_in bytes) ≡ Err why → IsDropped settings now w from bytes why
dropped_for settings from bytes now w why may is = by_why settings from bytes now w why (of_request settings.listen (request_in bytes) why is) (may, is)
