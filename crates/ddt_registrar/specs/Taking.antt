-- What a Map-Register that is taken changes (RFC 9301, section 5.6), and what the clock does.
use Rattle.std.specs.Prelude.{ℕ, ◌+◌, ◌==◌, ◌≡◌, ◌||◌, true, not, min, if◌then◌else◌, List, [], ◌∷◌, map, filter, Option, Some, None, Ok, Err}
use Rattle.std.specs.FinMap.{FinMap}
use Rattle.ddt_path.specs.declared.locator.Locator.{Locator}
use Rattle.ddt_map_register.specs.MapRegister.{Message}
use Rattle.ddt_map_register.specs.MapNotify.{notify_to}
use Rattle.ddt_map_register.specs.RegisterRecord.{RegisterRecord}
use Rattle.ddt_trie.specs.PrefixMap.{path_cmp}
use Rattle.ddt_config.specs.Table.{Outline}
use Rattle.ddt_config.specs.Shaped.{have_own_prefixes}
use Rattle.ddt_node.specs.Etrs.{with_etrs}
use Rattle.ddt_node.specs.Places.{places}
use Rattle.ddt_node.specs.laws.Changed.{at_prefix}
use Rattle.ddt_registrar.specs.declared.sender.Sender.{Sender}
use Rattle.ddt_registrar.specs.declared.registration.LastNonce.{LastNonce}
use Rattle.ddt_registrar.specs.declared.refusal.Refusal.{Refusal}
use Rattle.ddt_registrar.specs.declared.refusal.Refusal.TheVariants as refusal
use Rattle.ddt_registrar.specs.Checks.{nonce_of, is_remembered, checked}
use Rattle.ddt_registrar.specs.Lists.{put_by}
use Rattle.ddt_registrar.specs.Registration.{etrs_in, lifetime, is_same_registrant, is_of_same_xtr, is_in_force, registered_etrs}
use Rattle.ddt_registrar.specs.Sender.{is_same_sender}
use Rattle.ddt_registrar.specs.State.{Key, Registration, Site}

-- the last moment that there is
abbrev pub last_moment : ℕ
last_moment = 18446744073709551615

-- the moment from which a record isn't registered any more
abbrev pub end_of : ℕ → Message → RegisterRecord → ℕ
end_of now m r = min (now + lifetime m r) last_moment

-- what a record registers at a moment
abbrev pub registration_of : ℕ → Message → RegisterRecord → Sender → Registration
registration_of now m r x = record {
  sender = x;
  key_id = m.head.key_id;
  algorithm = m.head.algorithm;
  etrs = etrs_in r;
  deadline = end_of now m r;
}

-- the registrations of a site after a record: a TTL of 0 withdraws the xTR's, any other puts a new one in its place
abbrev pub live_after : ℕ → Message → RegisterRecord → Sender → List Registration → List Registration
live_after now m r x live =
    if r.ttl == 0 then filter (λ g. not (is_same_sender g.sender x)) live
    else put_by (λ old. is_same_registrant old (registration_of now m r x)) (registration_of now m r x) live

-- the last nonces after a message: its own is known under a key whose nonces have to increase
abbrev pub nonces_after : Message → List Key → List LastNonce → List LastNonce
nonces_after m keys nonces =
    if is_remembered m.head keys then put_by (λ old. is_of_same_xtr old (nonce_of m)) (nonce_of m) nonces else nonces

-- a site after a record: a withdrawal, whose TTL is 0, registers nothing
abbrev pub site_after : ℕ → Message → Sender → RegisterRecord → Site → Site
site_after now m x r s = record {
  prefix = s.prefix;
  keys = s.keys;
  configured = s.configured;
  falls_back = s.falls_back;
  has_registered = s.has_registered || not (r.ttl == 0);
  live = live_after now m r x s.live;
  nonces = nonces_after m s.keys s.nonces;
}

-- all sites after a record: that of its prefix has changed
abbrev pub sites_after : ℕ → Message → Sender → RegisterRecord → List Site → List Site
sites_after now m x r = map (at_prefix (λ s. s.prefix) r.prefix (site_after now m x r))

-- all sites after these records, one after the other
abbrev pub after_all : ℕ → Message → Sender → List RegisterRecord → List Site → List Site
after_all now m x [] sites = sites
after_all now m x (r ∷ others) sites = after_all now m x others (sites_after now m x r sites)

-- the Map-Notify for a message that is taken under a key: none where the bit M is clear
abbrev pub notify_for : Message → Key → Option (List ℕ)
notify_for m k = if m.head.want_notify then Some (notify_to k.secret m) else None

-- a message is taken under a key, and this is the Map-Notify for it
pub record IsNotifyFor (m : Message) (x : Sender) (sites : List Site) (notify : Option (List ℕ)) : Type 0 where
  pub key : Key
  pub taken : checked m x sites ≡ Ok key
  pub is : notify ≡ notify_for m key

-- why a message isn't taken: it is refused for what it says, or it may be registered under a key but memory ran out
pub data IsRefused (m : Message) (x : Sender) (sites : List Site) (e : Refusal) : Type 0 where
  Judged : checked m x sites ≡ Err e → IsRefused m x sites e
  OutOfMemory : (key : Key) → checked m x sites ≡ Ok key → e ≡ refusal.Memory → IsRefused m x sites e

-- a message is taken, with this Map-Notify for it: each of its records has changed its site
pub record IsTaken (now : ℕ) (m : Message) (x : Sender) (old new : List Site) (notify : Option (List ℕ)) : Type 0
  where
    pub told : IsNotifyFor m x old notify
    pub all : new ≡ after_all now m x m.records old

-- a site at a moment: what is over is gone
abbrev pub site_at : ℕ → Site → Site
site_at now s = record {
  prefix = s.prefix;
  keys = s.keys;
  configured = s.configured;
  falls_back = s.falls_back;
  has_registered = s.has_registered;
  live = filter (is_in_force now) s.live;
  nonces = s.nonces;
}

-- ---- what a server answers by

-- the ETRs of a site of which this is registered: those that are registered, or where there are none, those of its
-- configuration until an xTR has registered, and after that only where its key says so
abbrev pub etrs_with : Site → List Registration → List Locator
etrs_with s [] = if s.has_registered then (if s.falls_back then s.configured else []) else s.configured
etrs_with s (r ∷ others) = registered_etrs (r ∷ others)

-- the ETRs of a site that are in force
abbrev pub etrs_in_force : Site → List Locator
etrs_in_force s = etrs_with s s.live

-- the configuration in force: each site that has keys has the ETRs in force
abbrev pub in_force : List Site → Outline → Outline
in_force [] c = c
in_force (s ∷ others) c = in_force others (with_etrs s.prefix (etrs_in_force s) c)

-- the map has the place of each site by its prefix, and no two sites have one prefix
pub record AreFound (index : FinMap path_cmp ℕ) (sites : List Site) : Type 0 where
  pub of_sites : index ≡ places (map (λ s. s.prefix) sites)
  pub own : have_own_prefixes (λ s. s.prefix) sites ≡ true
