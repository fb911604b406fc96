-- The live entries inside a prefix, as rows: each is a prefix with its entry.
use Rattle.std.specs.Prelude.{ℕ, ◌≡◌, ◌<◌, IsTrue, List, All, Contains, Some}
use Rattle.std.specs.FinMap.{FinMap, get}
use Rattle.ddt_path.specs.Covers.{covers}
use Rattle.ddt_trie.specs.PrefixMap.{path_cmp}
use Rattle.ddt_cache.specs.declared.cache_entry.Entry.{Entry}
use Rattle.ddt_cache.specs.Live.{Known}

-- a row is that of a live entry, and its prefix is `within` or inside it
abbrev pub IsInside : Known → List ℕ → List ℕ × Entry → Type 0
IsInside k within row = (get k.live row.0 ≡ Some row.1) × IsTrue (covers within row.0)

-- each of these rows is of a live entry inside `within`, and each such entry is among them
pub record AreInside (k : Known) (within : List ℕ) (rows : List (List ℕ × Entry)) : Type 0 where
  pub each : All (IsInside k within) rows
  pub all : (row : List ℕ × Entry) → IsInside k within row → Contains rows row

-- the same of entries that may have ended: the row's is there, and its end comes later than a time
abbrev pub IsRow : ℕ → FinMap path_cmp Entry → List ℕ → List ℕ × Entry → Type 0
IsRow time entries within row = (get entries row.0 ≡ Some row.1) × (time < row.1.end) × IsTrue (covers within row.0)
