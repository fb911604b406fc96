-- What a cache knows: its time, the entries that are live at it, and the root's locators (RFC 8111, section 7.3).
use Rattle.std.specs.Prelude.{ℕ, Bool, false, nat_lt, max, List, Option, None, Some, refl}
use Rattle.std.specs.FinMap.{FinMap, empty, get, retain_keys, remove, code}
use Rattle.std.specs.Coded.{Coded, code_by, coded×, coded_ℕ, coded_list}
use Rattle.ddt_path.specs.declared.locator.Locator.{Locator}
use Rattle.ddt_trie.specs.PrefixMap.{path_cmp}
use Rattle.ddt_cache.specs.declared.cache_entry.Entry.{Entry}

-- the time in milliseconds, the live entries by their prefixes, and the locators of the root's servers
pub record Known : Type 0 where
  pub time : ℕ
  pub live : FinMap path_cmp Entry
  pub roots : List Locator

-- whether an entry is there and is live at a time: the time is below its end
abbrev pub is_live : ℕ → Option Entry → Bool
is_live time None = false
is_live time (Some e) = nat_lt time e.end

-- the entries that are live at a time
abbrev pub live_at : ℕ → FinMap path_cmp Entry → FinMap path_cmp Entry
live_at time entries = retain_keys entries (λ p. is_live time (get entries p))

-- what a cache knows at a time, of entries that may have ended
abbrev pub known_of : ℕ → FinMap path_cmp Entry → List Locator → Known
known_of time entries roots = record { time = time; live = live_at time entries; roots = roots }

-- what it knows with no entry, at moment 0
abbrev pub nothing_known : List Locator → Known
nothing_known roots = record { time = 0; live = empty; roots = roots }

-- what a cache knows once its time is the later of its time and `now`
abbrev pub moved : ℕ → Known → Known
moved now k = record { time = max k.time now; live = live_at (max k.time now) k.live; roots = k.roots }

-- what it knows once the entry of a prefix is forgotten
abbrev pub forgotten : Known → List ℕ → Known
forgotten k p = record { time = k.time; live = remove k.live p; roots = k.roots }

-- how a compiled program may store it: as its parts
abbrev pub known_code : Coded Entry → Coded Locator → Coded Known
known_code entry locator =
    code_by (ℕ × (FinMap path_cmp Entry × List Locator))
    (coded× coded_ℕ (coded× (code (coded_list coded_ℕ) entry) (coded_list locator)))
    (λ k. (k.time, (k.live, k.roots))) (λ p. record { time = p.0; live = p.1.0; roots = p.1.1 }) (λ _. refl)
