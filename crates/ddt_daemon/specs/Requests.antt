-- What a datagram asks of a Map-Resolver for an ITR, in any spelling that is read (RFC 9301, sections 5, 5.2 and 5.8).
use Rattle.std.specs.Prelude.{ℕ, ◌≡◌, Bool, true, false, not, if◌then◌else◌, List, slice_get, Option, Some, None, Result, Ok, Err}
use Rattle.std.specs.List.{list_any}
use Rattle.ddt_path.specs.declared.locator.Locator.{Locator}
use Rattle.ddt_path.specs.Locators.{is_same_locator}
use Rattle.ddt_foreign.specs.declared.fault.ForeignRequestFault.{ForeignRequestFault}
use Rattle.ddt_foreign.specs.declared.fault.ForeignRequestFault.TheVariants as fault
use Rattle.ddt_foreign.specs.Request.{Asked, request_in}
use Rattle.ddt_resolver.specs.declared.itr_messages.ItrRequest.{ItrRequest}
use Rattle.ddt_resolver.specs.Front.{IsItrRequest}
use Rattle.ddt_daemon.specs.declared.admission.Dropped.{Dropped}
use Rattle.ddt_daemon.specs.declared.admission.Dropped.TheVariants.{NoRequest, UnrecognizedAfi, Probe, NoReply, OwnAddress}

-- whether a locator is one of these addresses
abbrev pub is_one : List Locator → Locator → Bool
is_one own l = list_any (λ o. is_same_locator o l) own

-- whether one of these ITR-RLOCs is
abbrev pub names_one : List Locator → List Locator → Bool
names_one own rlocs = list_any (is_one own) rlocs

-- what an ITR asks: the answer goes to the first of its ITR-RLOCs whose address is known
abbrev pub itr_request : Asked → Option Locator → Result ItrRequest Dropped
itr_request v (Some l) = Ok (record { xeid = v.xeid; nonce = v.nonce; to = l; port = v.port })
itr_request v None = Err NoRequest

-- What a request asks of a resolver with these addresses, or why it doesn't ask for it: a DDT client asks, an RLOC is
-- probed, no Map-Reply is wanted, or the resolver would ask itself for what it answers.
abbrev pub classified_request : List Locator → Asked → Result ItrRequest Dropped
classified_request own v =
    if v.ddt then Err NoRequest
    else if v.probe then Err Probe
    else if not v.reply then Err NoReply
    else if names_one own v.rlocs then Err OwnAddress
    else itr_request v (slice_get v.rlocs 0)

abbrev pub classified : List Locator → Result Asked ForeignRequestFault → Result ItrRequest Dropped
classified own (Ok v) = classified_request own v
classified own (Err fault.UnrecognizedAfi) = Err UnrecognizedAfi
classified own (Err _) = Err NoRequest

-- the bytes ask this for an ITR
abbrev pub AsksFor : List ℕ → ItrRequest → Type 0
AsksFor bytes q = (own : List Locator) × (classified own (request_in bytes) ≡ Ok q)

-- the core's grammar has a request that asks the same
abbrev pub IsSpellable : ItrRequest → Type 0
IsSpellable q = (bytes : List ℕ) × IsItrRequest bytes q
