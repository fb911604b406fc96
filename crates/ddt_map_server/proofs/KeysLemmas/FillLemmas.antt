-- Keyrings that are filled key by key.
use Rattle.std.proofs.Common.{◌≡◌, ℕ, ◌+◌, ◌<◌, Bool, true, false, cond, List, [], ◌∷◌, ◌++◌, length, get_or, take, drop, map, Ok, Err, Result, refl, sym, ap, ◌∙◌, arith}
use Rattle.std.specs.Prelude.{not, ◌&&◌}
use Rattle.std.specs.List.Sorted.{IsSorted}
use Rattle.std.specs.Ordering.{nat_cmp, is_lt}
use Rattle.std.specs.Cmp.Lexicographic.{slice_cmp}
use Rattle.std.proofs.lemmas.List.{append-nil, get_or-map, length-map, take_more, drop_more}
use Rattle.std.proofs.lemmas.List.Elements.{filter-append}
use Rattle.ddt_path.specs.Steps.{◌>>=◌}
use Rattle.ddt_path.specs.laws.Member.{list_any-map}
use Rattle.ddt_map_server.specs.declared.keys.fault.KeysFault.{KeysFault}
use Rattle.ddt_map_server.specs.declared.keys.fault.KeysFault.TheVariants.{NoSite, Disagree, Twice}
use Rattle.ddt_map_server.specs.declared.keys.site_key.SiteKey.{SiteKey}
use Rattle.ddt_map_server.specs.Keys.KeyedSites.{is_key_of, keys_of, disagrees, is_second, judged, judged_after}
use Rattle.ddt_map_server.specs.Keys.Keyrings.{Ring, ring_of, with_key, given, AreInOrder, judged_among}

-- the prefixes are in order, whatever their keys
pub in_order : (keys : List SiteKey) (ps : List (List ℕ)) → IsSorted (slice_cmp nat_cmp) ps → AreInOrder (map (ring_of keys) ps)
in_order keys ps sorted = λ i d low lt.
    let f = ring_of keys in
    let inside : i + 1 < length ps = omega (arith, length-map ps (ring_of keys)) in
    let here : i < length ps = omega arith in
    (λ j. is_lt (slice_cmp nat_cmp (get_or-map f ps (i + 1) [] d inside j).prefix (get_or-map f ps i [] d here j).prefix)) ∙ sorted i [] low inside

-- one key more
module _ (k : SiteKey) (earlier : List SiteKey) where
  given-ring : (p : List ℕ) → given k (ring_of earlier p) ≡ ring_of (earlier ++ k ∷ []) p
  given-ring p = go (is_key_of p k) ∙ ap (ring p) (sym (filter-append (is_key_of p) earlier (k ∷ [])))
    where
      ring : List ℕ → List SiteKey → Ring
      ring q keys = record { prefix = q; keys = keys }

      go : (b : Bool) → cond b (with_key k (ring_of earlier p)) (ring_of earlier p) ≡ record { prefix = p; keys = keys_of p earlier ++ cond b (k ∷ []) [] }
      go true = refl
      go false = ap (λ (keys : List SiteKey). record { prefix = p; keys = keys }) (sym (append-nil (keys_of p earlier)))

  pub given-rings : (ps : List (List ℕ)) → map (given k) (map (ring_of earlier) ps) ≡ map (ring_of (earlier ++ k ∷ [])) ps
  given-rings [] = refl
  given-rings (p ∷ ps) = λ i. given-ring p i ∷ given-rings ps i

  pub judged-rings : (ps : List (List ℕ)) → judged_among k (map (ring_of earlier) ps) ≡ judged ps earlier k
  judged-rings ps =
      let f = ring_of earlier in
      λ i. cond (not (list_any-map (λ r. is_key_of r.prefix k) f ps i)) (Err (NoSite k.prefix))
      (cond (list_any-map (λ r. is_key_of r.prefix k && disagrees k r.keys) f ps i) (Err (Disagree k.prefix))
      (cond (list_any-map (λ r. is_key_of r.prefix k && is_second k r.keys) f ps i) (Err (Twice k.prefix)) (Ok tt)))

-- the next key of a file
module _ (ps : List (List ℕ)) (keys : List SiteKey) (i : ℕ) (k : SiteKey) (inside : i < length keys) (is : k ≡ get_or keys i k) where
  next : judged_after ps (take i keys) (drop i keys) ≡ (judged ps (take i keys) k >>= λ good. judged_after ps (take i keys ++ k ∷ []) (drop (i + 1) keys))
  next = ap (judged_after ps (take i keys)) (drop_more keys i k inside ∙ ap (λ (x : SiteKey). x ∷ drop (i + 1) keys) (sym is))

  pub next-good : judged ps (take i keys) k ≡ Ok tt → judged_after ps (take i keys) (drop i keys) ≡ judged_after ps (take (i + 1) keys) (drop (i + 1) keys)
  next-good good =
      let then : Result (Unit {0}) KeysFault → Result (Unit {0}) KeysFault = λ r. r >>= λ fine. judged_after ps (take i keys ++ k ∷ []) (drop (i + 1) keys) in
      next ∙ ap then good
      ∙ ap (λ (l : List SiteKey). judged_after ps l (drop (i + 1) keys)) (sym (take_more keys i k inside ∙ ap (λ (x : SiteKey). take i keys ++ x ∷ []) (sym is)))

  pub next-bad : (fault : KeysFault) → judged ps (take i keys) k ≡ Err fault → judged_after ps (take i keys) (drop i keys) ≡ Err fault
  next-bad fault bad =
      let then : Result (Unit {0}) KeysFault → Result (Unit {0}) KeysFault = λ r. r >>= λ fine. judged_after ps (take i keys ++ k ∷ []) (drop (i + 1) keys) in
      next ∙ ap then bad
