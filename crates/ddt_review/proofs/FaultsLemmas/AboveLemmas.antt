-- The nearest zone of Map-Servers strictly above a prefix: the longest one that covers all digits but the last.
use Rattle.std.proofs.Common.{◌≡◌, ℕ, ◌-◌, ◌<◌, Bool, true, false, cond, List, [], ◌∷◌, length, take, Option, Some, refl, sym, ap, ◌∙◌, arith, inl, inr, ◌||◌}
use Rattle.std.specs.Prelude.{is_some, not, ◌&&◌}
use Rattle.std.specs.List.{list_any, filter}
use Rattle.std.proofs.lemmas.Bool.{cond-true, cond-false, both_ways, false_from_ne_true, and_parts, cases_lt}
use Rattle.std.proofs.lemmas.List.{length-take}
use Rattle.ddt_path.specs.declared.matches.Preference.TheVariants.{Longest}
use Rattle.ddt_path.specs.Covers.{covers, is_strictly_below}
use Rattle.ddt_path.specs.Matching.{best_match, better_of, longest_match}
use Rattle.ddt_path.specs.laws.Cover.{covers_trans, length-covered, covered_same, covers_self, front_covered, below_is, below_from}
use Rattle.ddt_path.specs.laws.Front.{front_covers}
use Rattle.ddt_path.specs.laws.Member.{iff_same, none_of}
use Rattle.ddt_register.specs.declared.zone.Zone.{Zone}
use Rattle.ddt_register.specs.declared.register.Register.{Register}
use Rattle.ddt_check.specs.Zones.{is_ms}
use Rattle.ddt_check.specs.Rules.{is_below_map_server}
use Rattle.ddt_review.specs.Faults.Broken.{zone_above}
use Rattle.ddt_review.proofs.FaultsLemmas.MatchLemmas.{zone_prefix}

-- ---- one digit shorter

module _ (p q : List ℕ) (some : 0 < length p) where
  abbrev shorter : List ℕ
  shorter = take (length p - 1) p

  shorter_len : length shorter ≡ length p - 1
  shorter_len = length-take (length p - 1) p ∙ omega arith

  pub below_by_front : is_strictly_below p q ≡ covers q shorter
  below_by_front = iff_same (is_strictly_below p q) (covers q shorter) (λ below.
      let s = below_is p q below in
      let short : length q < length p = elim (cases_lt (length q) (length p)) [
        | inl lt ↦ lt
        | inr ge ↦
            let same : q ≡ p = covered_same q p s.0 ge in
            absurd (both_ways (covers p q) s.1 (ap (covers p) same ∙ covers_self p))
      ] in
      front_covers q shorter p s.0 (front_covered (length p - 1) p) (let n = shorter_len in omega arith)) (λ c.
      below_from p q (covers_trans q shorter p c (front_covered (length p - 1) p))
      (false_from_ne_true (covers p q) (λ back.
      let long = length-covered p q back in
      let short = length-covered q shorter c in
      let n = shorter_len in
      absurd (omega arith))))

-- ---- matches among those that pass

module _ {A : Type 0} (prefix : A → List ℕ) (test : A → Bool) (p x : List ℕ) (d : A → Bool)
    (same : (a : A) → d a ≡ covers (prefix a) x) (wider : (a : A) → d a ≡ true → covers (prefix a) p ≡ true) where
  match_case : (a : A) (kept all : List A) → best_match Longest prefix all p ≡ best_match Longest prefix kept x
      → (s t : Bool) → test a ≡ s → d a ≡ t
      → best_match Longest prefix (cond (s && t) (a ∷ all) all) p
      ≡ best_match Longest prefix (cond s (a ∷ kept) kept) x
  match_case a kept all ih true true e f =
      cond-true (covers (prefix a) p) _ _ (wider a f)
      ∙ ap (λ (m : Option A). Some (better_of Longest prefix a m)) ih
      ∙ sym (cond-true (covers (prefix a) x) _ _ (sym (same a) ∙ f))
  match_case a kept all ih true false e f = ih ∙ sym (cond-false (covers (prefix a) x) _ _ (sym (same a) ∙ f))
  match_case a kept all ih false t e f = ih

  pub match_by_front : (xs : List A)
      → longest_match prefix (filter (λ a. test a && d a) xs) p ≡ longest_match prefix (filter test xs) x
  match_by_front [] = refl
  match_by_front (a ∷ xs) = match_case a (filter test xs) (filter (λ b. test b && d b) xs) (match_by_front xs)
      (test a) (d a) refl refl

-- where each that passes covers, one is found if and only if one passes
module _ {A : Type 0} (prefix : A → List ℕ) (test : A → Bool) (p : List ℕ)
    (wider : (a : A) → test a ≡ true → covers (prefix a) p ≡ true) where
  some_case : (a : A) (all : List A) (b : Bool) → b ≡ is_some (best_match Longest prefix all p) → (t : Bool)
      → test a ≡ t → (t || b) ≡ is_some (best_match Longest prefix (cond t (a ∷ all) all) p)
  some_case a all b ih true e = ap is_some (sym (cond-true (covers (prefix a) p) _ _ (wider a e)))
  some_case a all b ih false e = ih

  pub some_match : (xs : List A) → list_any test xs ≡ is_some (longest_match prefix (filter test xs) p)
  some_match [] = refl
  some_match (a ∷ xs) = some_case a (filter test xs) (list_any test xs) (some_match xs) (test a) refl

-- ---- zones of Map-Servers

abbrev pub ms_zone : Zone → Bool
ms_zone z = is_ms z.kind

covers_from_below : (p : List ℕ) (z : Zone) → is_strictly_below p z.prefix ≡ true → covers z.prefix p ≡ true
covers_from_below p z e = (below_is p z.prefix e).0

pub above_by_front : (r : Register) (p : List ℕ) → 0 < length p
    → zone_above r p ≡ longest_match zone_prefix (filter ms_zone r.zones) (take (length p - 1) p)
above_by_front r p some = match_by_front zone_prefix ms_zone p (take (length p - 1) p)
    (λ z. is_strictly_below p z.prefix) (λ z. below_by_front p z.prefix some) (covers_from_below p) r.zones

pub below_is_above : (r : Register) (z : Zone) → is_below_map_server r z ≡ is_some (zone_above r z.prefix)
below_is_above r z = some_match zone_prefix (λ y. is_ms y.kind && is_strictly_below z.prefix y.prefix) z.prefix
    (λ y e. covers_from_below z.prefix y (and_parts (is_ms y.kind) (is_strictly_below z.prefix y.prefix) e).1) r.zones

never : (b c : Bool) → (b && (c && not true)) ≡ false
never true true = refl
never true false = refl
never false c = refl

-- nothing is strictly above the prefix of everything
pub root_not_below : (r : Register) (z : Zone) → length z.prefix ≡ 0 → is_below_map_server r z ≡ false
root_not_below r z e = go z.prefix e
  where
    go : (p : List ℕ) → length p ≡ 0
        → list_any (λ (y : Zone). is_ms y.kind && is_strictly_below p y.prefix) r.zones ≡ false
    go [] n = none_of (λ (y : Zone). is_ms y.kind && is_strictly_below [] y.prefix) r.zones
        (λ y k. never (is_ms y.kind) (covers y.prefix []))
    go (h ∷ p) n = absurd (omega arith)
