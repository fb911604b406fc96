-- What is registered still after the sites, their keys and their configured ETRs were read anew.
use Rattle.std.specs.Prelude.{Bool, false, ◌==◌, ◌&&◌, not, is_some, List, filter, find}
use Rattle.std.specs.Option.{option_map_or}
use Rattle.ddt_path.specs.Covers.{is_same_path}
use Rattle.ddt_registrar.specs.declared.key.Replay.{Replay}
use Rattle.ddt_registrar.specs.declared.key.Replay.TheVariants.{Increasing, Any}
use Rattle.ddt_registrar.specs.declared.registration.LastNonce.{LastNonce}
use Rattle.ddt_registrar.specs.Checks.{is_increasing, key_named}
use Rattle.ddt_registrar.specs.State.{Key, Registration, Site}

-- one rule for nonces
abbrev pub is_same_replay : Replay → Replay → Bool
is_same_replay Increasing r = is_increasing r
is_same_replay Any r = not (is_increasing r)

-- one key: of one Key ID, one Algorithm ID, one secret, and one rule for nonces
abbrev pub is_same_key : Key → Key → Bool
is_same_key a b =
    a.id == b.id && a.algorithm == b.algorithm && is_same_replay a.replay b.replay && is_same_path a.secret b.secret

-- a key is still the one of its Key ID and its Algorithm ID
abbrev pub is_still_key : List Key → Key → Bool
is_still_key keys k = option_map_or (is_same_key k) (key_named k.id k.algorithm keys) false

-- a registration was made under a key that there still is
abbrev pub is_still_under : List Key → List Key → Registration → Bool
is_still_under before keys g = option_map_or (is_still_key keys) (key_named g.key_id g.algorithm before) false

-- a nonce was used under a Key ID and an Algorithm ID of which there is a key
abbrev pub is_of_key : List Key → LastNonce → Bool
is_of_key keys n = is_some (key_named n.key_id n.algorithm keys)

-- A site with what was registered for it before: the registrations under keys that there still are, and the last nonces
-- under each Key ID and Algorithm ID of which there is a key.
abbrev pub carried : Site → Site → Site
carried before s = record {
  prefix = s.prefix;
  keys = s.keys;
  configured = s.configured;
  falls_back = s.falls_back;
  has_registered = before.has_registered;
  live = filter (is_still_under before.keys s.keys) before.live;
  nonces = filter (is_of_key s.keys) before.nonces;
}

-- the same of the site of its prefix among those of before; one that is new stays as it is
abbrev pub carried_from : List Site → Site → Site
carried_from before s = option_map_or (λ b. carried b s) (find (λ b. is_same_path b.prefix s.prefix) before) s
