-- Which records are saved, and what a cache knows afterwards (RFC 8111, sections 6.4 and 7.3).
use Rattle.std.specs.Prelude.{ℕ, Bool, ◌||◌, ◌&&◌, not, length, nat_lt, List, if◌then◌else◌}
use Rattle.std.specs.FinMap.{FinMap, insert, contains_key, len}
use Rattle.ddt_path.specs.declared.record.ReferralRecord.{ReferralRecord}
use Rattle.ddt_trie.specs.PrefixMap.{path_cmp}
use Rattle.ddt_cache.specs.declared.cache_entry.Entry.{Entry}
use Rattle.ddt_cache.specs.declared.cache_entry.Saved.{Saved}
use Rattle.ddt_cache.specs.declared.cache_entry.Saved.TheVariants.{Saved as IsSaved, NotSaved, Full}
use Rattle.ddt_cache.specs.Entry.{is_positive, is_negative, entry_of}
use Rattle.ddt_cache.specs.Live.{Known}

-- how many live entries a cache has at most
abbrev pub most_live_entries : ℕ
most_live_entries = 65536

-- whether a record names a server, for a prefix that isn't everything
abbrev pub names_servers : ReferralRecord → Bool
names_servers r = nat_lt 0 (length r.servers) && nat_lt 0 (length r.prefix)

-- whether a record may be kept: its TTL isn't 0, and it is negative, or positive and names a server
abbrev pub savable : ReferralRecord → Bool
savable r = nat_lt 0 r.ttl && (is_negative r.action || (is_positive r.action && names_servers r))

-- whether there is room for an entry of a prefix: it takes the place of one, or there are fewer than 65,536
abbrev pub has_room : FinMap path_cmp Entry → List ℕ → Bool
has_room live p = contains_key live p || nat_lt (len live) most_live_entries

-- whether a record is saved among the live entries
abbrev pub is_saved : FinMap path_cmp Entry → ReferralRecord → Bool
is_saved live r = savable r && has_room live r.prefix

-- whether it is saved as one entry more; in the place of a live entry it wants no memory
abbrev pub is_added : FinMap path_cmp Entry → ReferralRecord → Bool
is_added live r = is_saved live r && not (contains_key live r.prefix)

-- what becomes of it
abbrev pub saving : FinMap path_cmp Entry → ReferralRecord → Saved
saving live r = if savable r then (if has_room live r.prefix then IsSaved else Full) else NotSaved

-- the live entries afterwards
abbrev pub stored : ℕ → FinMap path_cmp Entry → ReferralRecord → FinMap path_cmp Entry
stored time live r = if is_saved live r then insert live r.prefix (entry_of time r) else live

-- what a cache knows afterwards
abbrev pub stored_in : Known → ReferralRecord → Known
stored_in k r = record { time = k.time; live = stored k.time k.live r; roots = k.roots }
