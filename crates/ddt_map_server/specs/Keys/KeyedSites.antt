-- Which keys of a file each site of a configuration has, and which files don't fit the configuration.
use Rattle.std.specs.Prelude.{ℕ, Bool, false, ◌==◌, ◌&&◌, not, if◌then◌else◌, List, [], ◌∷◌, ◌++◌, length, map, Result, Ok, Err}
use mathlib.Core.Bool.{beq}
use Rattle.std.specs.List.{filter, list_any, flat_map}
use Rattle.ddt_path.specs.Covers.{covers, is_same_path}
use Rattle.ddt_path.specs.Steps.{◌>>=◌}
use Rattle.ddt_config.specs.declared.authority.Authority.{Authority}
use Rattle.ddt_config.specs.declared.authority.Content.{Content}
use Rattle.ddt_config.specs.declared.authority.Content.TheVariants.{Children, Sites}
use Rattle.ddt_config.specs.declared.site_entry.SiteEntry.{SiteEntry}
use Rattle.ddt_registrar.specs.State.{Site}
use Rattle.ddt_map_server.specs.declared.keys.fault.KeysFault.{KeysFault}
use Rattle.ddt_map_server.specs.declared.keys.fault.KeysFault.TheVariants.{NoSite, Disagree, Twice}
use Rattle.ddt_map_server.specs.declared.keys.site_key.SiteKey.{SiteKey}

-- Whether a key is of the site of a prefix: they are of one prefix, or it accepts more specific ones and covers it.
abbrev pub is_key_of : List ℕ → SiteKey → Bool
is_key_of site k = if k.accepts_more_specifics then covers k.prefix site else is_same_path k.prefix site

-- the keys of a site, in the order of the file
abbrev pub keys_of : List ℕ → List SiteKey → List SiteKey
keys_of site keys = filter (is_key_of site) keys

-- whether one of them says otherwise of the configured ETRs
abbrev pub disagrees : SiteKey → List SiteKey → Bool
disagrees k others = list_any (λ other. not (beq other.falls_back k.falls_back)) others

-- whether one of them has the same Key ID and the same algorithm, so that k would never be used
abbrev pub is_second : SiteKey → List SiteKey → Bool
is_second k others = list_any (λ other. other.key.id == k.key.id && other.key.algorithm == k.key.algorithm) others

-- What stands against a key, where the sites have these prefixes and these keys stand before it in the file.
abbrev pub judged : List (List ℕ) → List SiteKey → SiteKey → Result (Unit {0}) KeysFault
judged sites earlier k =
    if not (list_any (λ site. is_key_of site k) sites) then Err (NoSite k.prefix)
    else if list_any (λ site. is_key_of site k && disagrees k (keys_of site earlier)) sites then Err (Disagree k.prefix)
    else if list_any (λ site. is_key_of site k && is_second k (keys_of site earlier)) sites then Err (Twice k.prefix)
    else Ok tt

-- the same of keys from the first to the last: the first against which something stands decides
abbrev pub judged_after : List (List ℕ) → List SiteKey → List SiteKey → Result (Unit {0}) KeysFault
judged_after sites earlier [] = Ok tt
judged_after sites earlier (k ∷ rest) = judged sites earlier k >>= λ good. judged_after sites (earlier ++ k ∷ []) rest

-- the sites of a configuration: those of each authority, in order
abbrev pub sites_of : Content → List SiteEntry
sites_of (Children cs) = []
sites_of (Sites ss) = ss

abbrev pub sites_in : List Authority → List SiteEntry
sites_in authorities = flat_map (λ a. sites_of a.content) authorities

-- a site with its keys, of which an xTR hasn't yet registered
abbrev pub with_keys : SiteEntry → List SiteKey → Site
with_keys s keys = record {
  prefix = s.prefix;
  keys = map (λ k. k.key) keys;
  configured = s.etrs;
  falls_back = list_any (λ k. k.falls_back) keys;
  has_registered = false;
  live = [];
  nonces = [];
}

-- whether the file has a key of a site
abbrev pub has_key : List SiteKey → SiteEntry → Bool
has_key keys s = not (length (keys_of s.prefix keys) == 0)

-- the sites that have keys, with these
abbrev pub keyed : List SiteKey → List SiteEntry → List Site
keyed keys sites = map (λ s. with_keys s (keys_of s.prefix keys)) (filter (has_key keys) sites)

-- the keyed sites of a configuration, or the first key that doesn't fit it
abbrev pub keyed_sites_in : List Authority → List SiteKey → Result (List Site) KeysFault
keyed_sites_in authorities keys =
    let sites = sites_in authorities in
    judged_after (map (λ s. s.prefix) sites) [] keys >>= λ good. Ok (keyed keys sites)
