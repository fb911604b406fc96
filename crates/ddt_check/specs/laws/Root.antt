-- The root of an accepted register, and the zone of each path.
use Rattle.std.proofs.Common.{◌≡◌, ℕ, Bool, true, false, ◌==◌, List, [], ◌∷◌, length, Some, refl, sym, ap, ◌∙◌, arith}
use Rattle.std.specs.List.{list_any}
use Rattle.std.proofs.lemmas.Bool.{true≢false, cond-false, eqb-true}
use Rattle.ddt_path.specs.declared.matches.Preference.TheVariants.{Longest}
use Rattle.ddt_path.specs.Covers.{covers}
use Rattle.ddt_path.specs.laws.Matching.{best_found}
use Rattle.ddt_path.specs.laws.Member.{IsIn, any_in}
use Rattle.ddt_register.specs.declared.zone.Zone.{Zone}
use Rattle.ddt_register.specs.declared.register.Register.{Register}
use Rattle.ddt_check.specs.declared.fault.Rule.TheVariants as rules
use Rattle.ddt_check.specs.Zones.{zone_of}
use Rattle.ddt_check.specs.Rules.{IsAccepted, is_root}
use Rattle.ddt_check.specs.laws.Zone.{zone_prefix}

pub empty_path : (p : List ℕ) → (length p == 0) ≡ true → p ≡ []
empty_path [] e = refl
empty_path (d ∷ p) e = let n : length (d ∷ p) ≡ 0 = eqb-true (length (d ∷ p)) 0 e in absurd (omega arith)

module _ (r : Register) (accepted : IsAccepted r) where
  pub some_root : list_any is_root r.zones ≡ true
  some_root = go (list_any is_root r.zones) refl
    where
      go : (b : Bool) → list_any is_root r.zones ≡ b → list_any is_root r.zones ≡ true
      go true e = e
      go false e = absurd (true≢false (sym (cond-false (list_any is_root r.zones) _ _ e) ∙ accepted rules.NoRoot 0))

  pub the_root : (z : Zone) × IsIn z r.zones × (is_root z ≡ true)
  the_root = any_in is_root r.zones some_root

  -- the zone of a path
  pub zone_found : (x : List ℕ) → (z : Zone) × (zone_of r x ≡ Some z)
  zone_found x =
      let root = the_root in
      let everything : root.0.prefix ≡ [] = empty_path root.0.prefix root.2 in
      let found = best_found Longest zone_prefix x r.zones root.0 root.1 (ap (λ (p : List ℕ). covers p x) everything) in
      (found.0, found.1)
