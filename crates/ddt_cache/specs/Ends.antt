-- When entries end, as a cache notes it.
use Rattle.std.specs.Prelude.{ℕ, ◌≡◌, ◌≤◌, ◌⊎◌, IsTrue, List, Some}
use Rattle.std.specs.declared.cmp.Ordering.{Ordering}
use Rattle.std.specs.Ordering.{nat_cmp, ordering_then}
use Rattle.std.specs.FinMap.{FinMap, get}
use Rattle.std.specs.BTreeSet.{contains}
use Rattle.ddt_trie.specs.PrefixMap.{path_cmp}
use Rattle.ddt_cache.specs.declared.cache_entry.Entry.{Entry}
use Rattle.ddt_cache.specs.declared.ends_by_time.Ends.{Ends}

-- the order of listed ends: by the moment, then by the prefix
abbrev pub end_cmp : ℕ × List ℕ → ℕ × List ℕ → Ordering
end_cmp a b = ordering_then (nat_cmp a.0 b.0) (path_cmp a.1 b.1)

-- an entry that isn't listed may end at n
abbrev pub IsUnlisted : Ends → ℕ → Type 0
IsUnlisted ends n = (ends.first_unlisted ≤ n) × (n ≤ ends.last_unlisted)

-- the entry of p may end at n: that is listed, or may be the end of one that isn't
abbrev pub IsNoted : Ends → List ℕ → ℕ → Type 0
IsNoted ends p n = IsTrue (contains end_cmp ends.listed (n, p)) ⊎ IsUnlisted ends n

-- the end of each entry is noted
abbrev pub AreNoted : Ends → FinMap path_cmp Entry → Type 0
AreNoted ends entries = (p : List ℕ) (e : Entry) → get entries p ≡ Some e → IsNoted ends p e.end
