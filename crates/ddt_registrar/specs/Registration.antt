-- What an xTR has registered for a site (RFC 9301, section 5.6). Moments are in milliseconds, TTLs in minutes.
use Rattle.std.specs.Prelude.{ℕ, Bool, ◌==◌, ◌&&◌, ◌*◌, not, min, nat_lt, if◌then◌else◌, List, [], ◌∷◌, map, filter_map, Option, None}
use Rattle.std.specs.List.{list_any}
use Rattle.std.specs.Option.{option_map}
use Rattle.ddt_path.specs.declared.locator.Locator.{Locator}
use Rattle.ddt_path.specs.Locators.{is_same_locator}
use Rattle.ddt_foreign.specs.declared.order.Ranked.{Ranked}
use Rattle.ddt_foreign.specs.Order.{placed, not_used}
use Rattle.ddt_map_register.specs.declared.registered_locator.RegisteredLocator.{RegisteredLocator}
use Rattle.ddt_map_register.specs.RegisteredLocator.{is_reachable}
use Rattle.ddt_map_register.specs.RegisterRecord.{RegisterRecord}
use Rattle.ddt_map_register.specs.MapRegister.{Message}
use Rattle.ddt_registrar.specs.declared.registration.LastNonce.{LastNonce}
use Rattle.ddt_registrar.specs.Sender.{is_same_sender, is_same_id}
use Rattle.ddt_registrar.specs.State.{Registration}

-- both are of one xTR
abbrev pub is_same_registrant : Registration → Registration → Bool
is_same_registrant a b = is_same_sender a.sender b.sender

-- both are of one xTR under one key
abbrev pub is_of_same_xtr : LastNonce → LastNonce → Bool
is_of_same_xtr a b = a.key_id == b.key_id && a.algorithm == b.algorithm && is_same_id a.xtr b.xtr

-- its deadline hasn't come
abbrev pub is_in_force : ℕ → Registration → Bool
is_in_force now r = nat_lt now r.deadline

-- the ETR of a locator: it has an address, its priority isn't 255, and R is set (RFC 9301, section 5.4)
abbrev pub etr_of : RegisteredLocator → Option Ranked
etr_of l =
    if not (l.priority == not_used) && is_reachable l
    then option_map (λ a. record { priority = l.priority; address = a }) l.address
    else None

-- those of a record, in its order
abbrev pub etrs_in : RegisterRecord → List Ranked
etrs_in r = filter_map etr_of r.locators

-- a minute, in milliseconds
abbrev pub minute : ℕ
minute = 60000

-- how many minutes a registration lasts at most
abbrev pub most_minutes : ℕ
most_minutes = 1440

-- how long a record is registered: for its TTL where T is set, a day at most; else for three minutes
abbrev pub lifetime : Message → RegisterRecord → ℕ
lifetime m r = if m.head.use_ttl then min r.ttl most_minutes * minute else 3 * minute

-- ---- the ETRs of several

-- one more ETR, by its priority, after those that came before; each address once, eight of them at most
abbrev pub joined : Ranked → List Ranked → List Ranked
joined one ranked = if list_any (λ r. is_same_locator r.address one.address) ranked then ranked else placed one ranked

-- those of a registration more
abbrev pub all_joined : List Ranked → List Ranked → List Ranked
all_joined [] ranked = ranked
all_joined (one ∷ others) ranked = all_joined others (joined one ranked)

-- those of all registrations
abbrev pub ranked_in : List Registration → List Ranked → List Ranked
ranked_in [] ranked = ranked
ranked_in (r ∷ others) ranked = ranked_in others (all_joined r.etrs ranked)

-- the ETRs that are registered: by priority, first come first in each, each once; eight at most
abbrev pub registered_etrs : List Registration → List Locator
registered_etrs live = map (λ r. r.address) (ranked_in live [])
