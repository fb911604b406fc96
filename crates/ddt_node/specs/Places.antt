-- The places of the items of a configuration, by their prefixes.
use Rattle.std.specs.Prelude.{ℕ, ◌+◌, ◌≡◌, List, [], ◌∷◌, map}
use Rattle.std.specs.FinMap.{FinMap, from_entries}
use Rattle.ddt_trie.specs.PrefixMap.{path_cmp}
use Rattle.ddt_config.specs.declared.authority.Authority.{Authority}
use Rattle.ddt_config.specs.Entries.{prefixes_in}

-- prefixes, each with its place, counted from n
abbrev pub numbered : ℕ → List (List ℕ) → List (List ℕ × ℕ)
numbered n [] = []
numbered n (p ∷ others) = (p, n) ∷ numbered (n + 1) others

-- the place of each prefix; the first place, if it occurs twice
abbrev pub places : List (List ℕ) → FinMap path_cmp ℕ
places prefixes = from_entries {R = path_cmp} (numbered 0 prefixes)

-- the place of each item of an authority
abbrev pub places_in : Authority → FinMap path_cmp ℕ
places_in a = places (prefixes_in a.content)

-- a map of the authorities, and for each of them a map of its children or sites
pub record AreIndexed (authorities : List Authority) (index : FinMap path_cmp ℕ) (contents : List (FinMap path_cmp ℕ))
    : Type 0 where
  pub of_authorities : index ≡ places (map (λ a. a.prefix) authorities)
  pub of_contents : contents ≡ map places_in authorities
