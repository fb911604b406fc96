-- The prefixes of the sites in their order, each with the keys that are its so far.
use Rattle.std.specs.Prelude.{◌≡◌, ◌<◌, ◌≤◌, ℕ, true, false, ◌==◌, ◌&&◌, not, if◌then◌else◌, List, [], ◌∷◌, ◌++◌, length, slice_index_or, Result, Ok, Err}
use Rattle.std.specs.List.{list_any}
use Rattle.std.specs.List.Sorted.{IsSortedByKey}
use Rattle.std.specs.Ordering.{nat_cmp}
use Rattle.std.specs.Cmp.Lexicographic.{slice_cmp}
use Rattle.ddt_map_server.specs.declared.keys.fault.KeysFault.{KeysFault}
use Rattle.ddt_map_server.specs.declared.keys.fault.KeysFault.TheVariants.{NoSite, Disagree, Twice}
use Rattle.ddt_map_server.specs.declared.keys.site_key.SiteKey.{SiteKey}
use Rattle.ddt_map_server.specs.Keys.KeyedSites.{is_key_of, keys_of, disagrees, is_second}

-- a prefix with its keys
pub record Ring : Type 0 where
  pub prefix : List ℕ
  pub keys : List SiteKey

-- a prefix with those of the keys that are its
abbrev pub ring_of : List SiteKey → List ℕ → Ring
ring_of keys p = record { prefix = p; keys = keys_of p keys }

-- a prefix with one key more
abbrev pub with_key : SiteKey → Ring → Ring
with_key k r = record { prefix = r.prefix; keys = r.keys ++ k ∷ [] }

-- the same if the key is of it
abbrev pub given : SiteKey → Ring → Ring
given k r = if is_key_of r.prefix k then with_key k r else r

-- the prefixes are in order
abbrev pub AreInOrder : List Ring → Type 0
AreInOrder rings = IsSortedByKey (λ r. r.prefix) (slice_cmp nat_cmp) rings

-- just the rings at start to end - 1 are those of a key's sites
pub record IsRangeOf (k : SiteKey) (rings : List Ring) (start «end» : ℕ) : Type 0 where
  pub ordered : start ≤ «end»
  pub bound : «end» ≤ length rings
  pub before : (i : ℕ) (d : Ring) → i < start → is_key_of (slice_index_or rings i d).prefix k ≡ false
  pub inside : (i : ℕ) (d : Ring) → start ≤ i → i < «end» → is_key_of (slice_index_or rings i d).prefix k ≡ true
  pub behind : (i : ℕ) (d : Ring) → «end» ≤ i → i < length rings → is_key_of (slice_index_or rings i d).prefix k ≡ false

-- what stands against a key, by the rings of its sites
abbrev pub judged_at : SiteKey → List Ring → Result (Unit {0}) KeysFault
judged_at k own = if length own == 0 then Err (NoSite k.prefix)
    else if list_any (λ r. disagrees k r.keys) own then Err (Disagree k.prefix)
    else if list_any (λ r. is_second k r.keys) own then Err (Twice k.prefix) else Ok tt

-- the same by the rings of all sites
abbrev pub judged_among : SiteKey → List Ring → Result (Unit {0}) KeysFault
judged_among k rings = if not (list_any (λ r. is_key_of r.prefix k) rings) then Err (NoSite k.prefix)
    else if list_any (λ r. is_key_of r.prefix k && disagrees k r.keys) rings then Err (Disagree k.prefix)
    else if list_any (λ r. is_key_of r.prefix k && is_second k r.keys) rings then Err (Twice k.prefix) else Ok tt
