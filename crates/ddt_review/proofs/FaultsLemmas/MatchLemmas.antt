-- The longest prefix of a map that has the first zone of each prefix.
use Rattle.std.proofs.Common.{◌≡◌, ℕ, ◌≤◌, Bool, true, List, [], ◌∷◌, length, take, find, Option, Some, None, refl, sym, ap, ◌∙◌, arith}
use Rattle.std.specs.Prelude.{is_some}
use Rattle.std.specs.Option.{option_map}
use Rattle.std.specs.FinMap.{FinMap, get}
use Rattle.std.specs.Cmp.Lexicographic.{nat_list_eq_equiv}
use Rattle.std.proofs.lemmas.Bool.{false_from_ne_true, both_ways}
use Rattle.std.proofs.lemmas.Option.{none-some}
use Rattle.ddt_path.specs.declared.matches.Preference.TheVariants.{Longest}
use Rattle.ddt_path.specs.Covers.{covers, is_same_path}
use Rattle.ddt_path.specs.Matching.{longest_match}
use Rattle.ddt_path.specs.laws.Cover.{same_path, path_itself, take-covered}
use Rattle.ddt_path.specs.laws.Matching.{best_member, best_first, best_found, best_none}
use Rattle.ddt_path.specs.laws.Member.{IsIn, found_in, found_passes, unfound}
use Rattle.ddt_register.specs.declared.zone.Zone.{Zone}
use Rattle.ddt_trie.specs.PrefixMap.{path_cmp, IsCovered, IsLongest}
use Rattle.ddt_review.specs.declared.faults.first_items.RowAndKind.{RowAndKind}
use Rattle.ddt_review.specs.Faults.Told.{HasFirstOf, row_of_zone}

abbrev pub zone_prefix : Zone → List ℕ
zone_prefix z = z.prefix

-- tests that agree find the same
pub found_same : {A : Type 0} (p q : A → Bool) (xs : List A) → ((x : A) → p x ≡ q x) → find p xs ≡ find q xs
found_same p q [] h = refl
found_same p q (x ∷ xs) h = rw (h x, found_same p q xs h) refl

module _ (first : FinMap path_cmp RowAndKind) (zones : List Zone) (has : HasFirstOf first zones) (x : List ℕ) where
  is_key : (z : Zone) → IsIn z zones → is_some (get first z.prefix) ≡ true
  is_key z k = ap is_some (has z.prefix) ∙ go (find (λ (y : Zone). is_same_path y.prefix z.prefix) zones) refl
    where
      go : (found : Option Zone) → find (λ (y : Zone). is_same_path y.prefix z.prefix) zones ≡ found
          → is_some (option_map row_of_zone found) ≡ true
      go None e = absurd (both_ways (is_same_path z.prefix z.prefix)
          (unfound (λ (y : Zone). is_same_path y.prefix z.prefix) zones z e k) (path_itself z.prefix z.prefix refl))
      go (Some y) e = refl

  pub longest_is : (p : List ℕ) (v : RowAndKind) → IsLongest first x p v
      → Some v ≡ option_map row_of_zone (longest_match zone_prefix zones x)
  longest_is p v l = go (find (λ (y : Zone). is_same_path y.prefix p) zones) refl (sym (has p) ∙ l.value)
    where
      of_zone : (z : Zone) → find (λ (y : Zone). is_same_path y.prefix p) zones ≡ Some z
          → option_map row_of_zone (longest_match zone_prefix zones x) ≡ Some (row_of_zone z)
      of_zone z e =
          let k = found_in (λ (y : Zone). is_same_path y.prefix p) zones z e in
          let at : z.prefix ≡ p =
          same_path z.prefix p (found_passes (λ (y : Zone). is_same_path y.prefix p) zones z e) in
          let c : covers z.prefix x ≡ true = ap (λ (q : List ℕ). covers q x) at ∙ l.covers_it in
          let best = best_found Longest zone_prefix x zones z k c in
          let a = best.0 in
          let member = best_member Longest zone_prefix x zones a best.1 in
          let longer : length z.prefix ≤ length a.prefix = best.2 in
          let shorter : length a.prefix ≤ length p = l.longest a.prefix (is_key a member.0) member.1 in
          let m : length z.prefix ≡ length p = ap (λ (q : List ℕ). length q) at in
          let n : length a.prefix ≡ length p = omega arith in
          let same : a.prefix ≡ p =
          sym (take-covered a.prefix x member.1) ∙ ap (λ (i : ℕ). take i x) n ∙ take-covered p x l.covers_it in
          let tests : (y : Zone) → is_same_path a.prefix y.prefix ≡ is_same_path y.prefix p =
          λ y. ap (λ (q : List ℕ). is_same_path q y.prefix) same ∙ nat_list_eq_equiv.symm p y.prefix in
          let one : Some a ≡ Some z =
          sym (best_first Longest zone_prefix x zones a best.1)
          ∙ found_same (λ (y : Zone). is_same_path a.prefix y.prefix) (λ (y : Zone). is_same_path y.prefix p) zones
          tests
          ∙ e in
          ap (option_map row_of_zone) (best.1 ∙ one)

      go : (found : Option Zone) → find (λ (y : Zone). is_same_path y.prefix p) zones ≡ found
          → option_map row_of_zone found ≡ Some v
          → Some v ≡ option_map row_of_zone (longest_match zone_prefix zones x)
      go None e value = absurd (none-some v value)
      go (Some z) e value = sym value ∙ sym (of_zone z e)

  pub none_is_longest : (IsCovered first x → ⊥) → None ≡ option_map row_of_zone (longest_match zone_prefix zones x)
  none_is_longest none = ap (option_map row_of_zone) (sym (best_none Longest zone_prefix x zones (λ z k.
      false_from_ne_true (covers z.prefix x) (λ c. none (z.prefix, is_key z k, c)))))
