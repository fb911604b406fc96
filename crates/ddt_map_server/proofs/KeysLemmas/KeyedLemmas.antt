-- The sites that have keys, by the keyrings of all.
use Rattle.std.proofs.Common.{◌≡◌, ◌≢◌, ◌⊎◌, ℕ, ◌+◌, ◌<◌, Bool, true, false, cond, List, [], ◌∷◌, ◌++◌, length, get_or, take, map, IsPermutation, Ok, Err, Result, refl, sym, ap, subst, ◌∙◌, inl, inr}
use Rattle.std.specs.Prelude.{◌==◌, ◌&&◌, not}
use Rattle.std.specs.List.{All, list_any, filter}
use Rattle.std.specs.Cmp.Lexicographic.{bytes_decides}
use Rattle.std.proofs.lemmas.List.{map-append, append-nil}
use Rattle.std.proofs.lemmas.List.Elements.{filter_more, Contains-get_or}
use Rattle.std.proofs.lemmas.List.Sorted.{list_any-IsPermutation}
use Rattle.ddt_path.specs.Covers.{is_same_path}
use Rattle.ddt_path.specs.Steps.{◌>>=◌}
use Rattle.ddt_path.specs.laws.Member.{IsIn, in_map, map_in, in_any, in_contained, moved_in}
use Rattle.ddt_config.specs.declared.authority.Authority.{Authority}
use Rattle.ddt_config.specs.declared.site_entry.SiteEntry.{SiteEntry}
use Rattle.ddt_registrar.specs.State.{Site}
use Rattle.ddt_map_server.specs.declared.keys.fault.KeysFault.{KeysFault}
use Rattle.ddt_map_server.specs.declared.keys.fault.KeysFault.TheVariants.{Toml, Field, Value, Secrets, NoSite, Disagree, Twice, Memory}
use Rattle.ddt_map_server.specs.declared.keys.site_key.SiteKey.{SiteKey}
use Rattle.ddt_map_server.specs.Keys.KeyedSites.{is_key_of, keys_of, disagrees, is_second, judged, judged_after, sites_in, has_key, with_keys, keyed, keyed_sites_in}
use Rattle.ddt_map_server.specs.Keys.Keyrings.{Ring, ring_of}

-- the keys of a ring are those of its prefix
pub ring-keys : (keys : List SiteKey) (ps : List (List ℕ)) (rings : List Ring) (r : Ring) (site : List ℕ) → rings ≡ map (ring_of keys) ps
    → IsIn r rings → r.prefix ≡ site → r.keys ≡ keys_of site keys
ring-keys keys ps rings r site are member is =
    let made = in_map (ring_of keys) ps r (subst (IsIn r) are member) in
    let same : made.0 ≡ site = sym (ap (λ (x : Ring). x.prefix) made.2) ∙ is in
    ap (λ (x : Ring). x.keys) made.2 ∙ ap (λ (p : List ℕ). keys_of p keys) same

-- one site more
one_made : {A B : Type 0} (f : A → B) (x : A) (b : Bool) → map f (cond b (x ∷ []) []) ≡ cond b (f x ∷ []) []
one_made f x true = refl
one_made f x false = refl

pub keyed-more : (keys : List SiteKey) (sites : List SiteEntry) (i : ℕ) (s : SiteEntry) → i < length sites → s ≡ get_or sites i s
    → keyed keys (take (i + 1) sites) ≡ keyed keys (take i sites) ++ cond (has_key keys s) (with_keys s (keys_of s.prefix keys) ∷ []) []
keyed-more keys sites i s inside is =
    let made : SiteEntry → Site = λ x. with_keys x (keys_of x.prefix keys) in
    ap (map made) (filter_more (has_key keys) sites i s inside ∙ ap (λ (x : SiteEntry). filter (has_key keys) (take i sites) ++ cond (has_key keys x) (x ∷ []) []) (sym is))
    ∙ map-append made (filter (has_key keys) (take i sites)) (cond (has_key keys s) (s ∷ []) [])
    ∙ ap (λ (l : List Site). keyed keys (take i sites) ++ l) (one_made made s (has_key keys s))

pub keyed-has : (keys : List SiteKey) (sites : List SiteEntry) (i : ℕ) (s : SiteEntry) (own : List SiteKey) → i < length sites → s ≡ get_or sites i s
    → own ≡ keys_of s.prefix keys → (length own == 0) ≡ false → keyed keys (take (i + 1) sites) ≡ keyed keys (take i sites) ++ with_keys s own ∷ []
keyed-has keys sites i s own inside is are some =
    let has : has_key keys s ≡ true = ap (λ (l : List SiteKey). not (length l == 0)) (sym are) ∙ ap not some in
    keyed-more keys sites i s inside is
    ∙ ap (λ (b : Bool). keyed keys (take i sites) ++ cond b (with_keys s (keys_of s.prefix keys) ∷ []) []) has
    ∙ ap (λ (l : List SiteKey). keyed keys (take i sites) ++ with_keys s l ∷ []) (sym are)

pub keyed-none : (keys : List SiteKey) (sites : List SiteEntry) (i : ℕ) (s : SiteEntry) (own : List SiteKey) → i < length sites → s ≡ get_or sites i s
    → own ≡ keys_of s.prefix keys → (length own == 0) ≡ true → keyed keys (take (i + 1) sites) ≡ keyed keys (take i sites)
keyed-none keys sites i s own inside is are none =
    let has : has_key keys s ≡ false = ap (λ (l : List SiteKey). not (length l == 0)) (sym are) ∙ ap not none in
    keyed-more keys sites i s inside is
    ∙ ap (λ (b : Bool). keyed keys (take i sites) ++ cond b (with_keys s (keys_of s.prefix keys) ∷ []) []) has
    ∙ append-nil (keyed keys (take i sites))

-- each site has a ring
pub each-there : (keys : List SiteKey) (sites : List SiteEntry) (ps : List (List ℕ)) (rings : List Ring) → IsPermutation (map (λ s. s.prefix) sites) ps
    → rings ≡ map (ring_of keys) ps → All (λ s. list_any (λ r. is_same_path r.prefix s.prefix) rings ≡ true) sites
each-there keys sites ps rings moved are = λ i d inside.
    let s = get_or sites i d in
    let prefix : SiteEntry → List ℕ = λ x. x.prefix in
    let there : IsIn s.prefix ps = moved_in (map prefix sites) ps moved s.prefix (map_in prefix sites s (in_contained sites s (Contains-get_or sites i d inside))) in
    in_any (λ (r : Ring). is_same_path r.prefix s.prefix) rings (ring_of keys s.prefix)
    (subst (IsIn (ring_of keys s.prefix)) (sym are) (map_in (ring_of keys) ps s.prefix there)) ((bytes_decides s.prefix s.prefix).1 refl)

-- what stands against keys doesn't rest on the order of the sites
judged-moved : (xs ys : List (List ℕ)) → IsPermutation xs ys → (earlier : List SiteKey) (k : SiteKey) → judged xs earlier k ≡ judged ys earlier k
judged-moved xs ys moved earlier k =
    λ i. cond (not (list_any-IsPermutation (λ site. is_key_of site k) xs ys moved i)) (Err (NoSite k.prefix))
    (cond (list_any-IsPermutation (λ site. is_key_of site k && disagrees k (keys_of site earlier)) xs ys moved i) (Err (Disagree k.prefix))
    (cond (list_any-IsPermutation (λ site. is_key_of site k && is_second k (keys_of site earlier)) xs ys moved i) (Err (Twice k.prefix)) (Ok tt)))

pub judged_after-moved : (xs ys : List (List ℕ)) → IsPermutation xs ys → (earlier keys : List SiteKey) → judged_after xs earlier keys ≡ judged_after ys earlier keys
judged_after-moved xs ys moved earlier [] = refl
judged_after-moved xs ys moved earlier (k ∷ rest) =
    λ i. judged-moved xs ys moved earlier k i >>= λ good. judged_after-moved xs ys moved (earlier ++ k ∷ []) rest i

-- ---- what the keyed sites of a configuration come to

module _ (authorities : List Authority) (keys : List SiteKey) (sites : List SiteEntry) (prefixes : List (List ℕ)) (are : sites ≡ sites_in authorities)
    (moved : IsPermutation (map (λ s. s.prefix) sites) prefixes) where
  same_judgement : judged_after (map (λ s. s.prefix) (sites_in authorities)) [] keys ≡ judged_after prefixes [] keys
  same_judgement =
      judged_after-moved (map (λ s. s.prefix) (sites_in authorities)) prefixes (subst (λ (l : List SiteEntry). IsPermutation (map (λ s. s.prefix) l) prefixes) are moved) [] keys

  abbrev answered : Result (Unit {0}) KeysFault → Result (List Site) KeysFault
  answered r = r >>= λ good. Ok (keyed keys (sites_in authorities))

  pub keyed-found : judged_after prefixes [] keys ≡ Ok tt → keyed_sites_in authorities keys ≡ Ok (keyed keys sites)
  keyed-found good = ap answered (same_judgement ∙ good) ∙ ap (λ (l : List SiteEntry). Ok (keyed keys l)) (sym are)

  pub keyed-refused : (fault : KeysFault) → judged_after prefixes [] keys ≡ Err fault → keyed_sites_in authorities keys ≡ Err fault
  keyed-refused fault bad = ap answered (same_judgement ∙ bad)

-- either memory was refused, or something else is told
memory_or_not : (fault : KeysFault) → (fault ≡ Memory) ⊎ (fault ≢ Memory)
memory_or_not Toml = inr (λ e. cc)
memory_or_not (Field m) = inr (λ e. cc)
memory_or_not (Value m) = inr (λ e. cc)
memory_or_not Secrets = inr (λ e. cc)
memory_or_not (NoSite p) = inr (λ e. cc)
memory_or_not (Disagree p) = inr (λ e. cc)
memory_or_not (Twice p) = inr (λ e. cc)
memory_or_not Memory = inl refl

-- a fault that comes where there are sites is a refusal of memory
pub only_memory : {A : Type 0} (wanted : Result A KeysFault) (fault : KeysFault) → (fault ≢ Memory → wanted ≡ Err fault) → (a : A) → wanted ≡ Ok a
    → (◌≡◌ {A = Result A KeysFault} (Err fault) (Ok a)) ⊎ (◌≡◌ {A = Result A KeysFault} (Err fault) (Err Memory))
only_memory wanted fault refused a is =
    elim (memory_or_not fault) [
      | inl memory ↦ inr (ap (λ (f : KeysFault). Err f) memory)
      | inr other ↦ let bad = refused other in absurd cc
    ]
