-- What a cache finds for an identifier: the longest live match (RFC 8111, section 7.3).
use Rattle.std.specs.Prelude.{ℕ, ◌≡◌, ◌⊎◌, List, []}
use Rattle.ddt_trie.specs.PrefixMap.{IsCovered, IsLongest}
use Rattle.ddt_cache.specs.declared.cache_entry.Entry.{Entry}
use Rattle.ddt_cache.specs.Entry.{root_entry}
use Rattle.ddt_cache.specs.Live.{Known}

-- no live entry covers x, and what is found is the root's entry, for everything
pub record IsRoot (k : Known) (x p : List ℕ) (e : Entry) : Type 0 where
  pub uncovered : IsCovered k.live x → ⊥
  pub everything : p ≡ []
  pub entry : e ≡ root_entry k.roots

-- the longest prefix of a live entry that covers x, with this entry; where there is none, the root's
abbrev pub IsFound : Known → List ℕ → List ℕ → Entry → Type 0
IsFound k x p e = IsLongest k.live x p e ⊎ IsRoot k x p e
