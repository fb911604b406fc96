-- The assignment of a block, read off its zone and its site.
use Rattle.std.proofs.Common.{◌≡◌, ℕ, Bool, true, false, cond, not, ◌==◌, List, [], ◌∷◌, ◌++◌, length, Option, Some, None, refl, sym, ap, subst, ◌∙◌, arith, inl, inr}
use Rattle.std.specs.Option.{option_map_or, option_map}
use Rattle.std.proofs.lemmas.Option.{same_Some}
use Rattle.std.proofs.lemmas.List.{append_assoc}
use Rattle.ddt_path.specs.declared.record.Role.{Role}
use Rattle.ddt_path.specs.declared.record.Role.TheVariants.{Node, Ms}
use Rattle.ddt_path.specs.declared.record.Outcome.{Outcome}
use Rattle.ddt_path.specs.declared.record.Outcome.TheVariants.{Registered, NotRegistered, Hole}
use Rattle.ddt_path.specs.Covers.{covers}
use Rattle.ddt_path.specs.Free.{lengthened, parts_from, hole_of}
use Rattle.ddt_path.specs.Path.{is_path}
use Rattle.ddt_path.specs.laws.Cover.{covers-append}
use Rattle.ddt_path.specs.laws.Hole.{parts_from_fits}
use Rattle.ddt_path.specs.laws.Member.{IsIn, found_in, found_passes}
use Rattle.ddt_register.specs.declared.zone.Zone.{Zone}
use Rattle.ddt_register.specs.declared.site.Site.{Site}
use Rattle.ddt_register.specs.declared.register.Register.{Register}
use Rattle.ddt_check.specs.Zones.{zone_of, site_of, locators_of}
use Rattle.ddt_check.specs.Assignment.{assignment, assigned_in, assigned_site, part_of_site, prefixes_in}
use Rattle.ddt_check.specs.Rules.{IsAccepted}
use Rattle.ddt_check.specs.laws.Statements.{negative_prefix}
use Rattle.ddt_check.specs.laws.Root.{zone_found}
use Rattle.ddt_check.specs.laws.Zone.{assigned_at}
use Rattle.ddt_plan.specs.Blocks.{keys_of, is_undivided, block_of}
use Rattle.ddt_path.specs.declared.matches.Preference.TheVariants.{Longest}
use Rattle.ddt_path.specs.laws.Matching.{best_match-map}
use Rattle.ddt_plan.specs.declared.sides.Delegation.{Delegation}
use Rattle.ddt_plan.specs.declared.sides.SiteState.{SiteState}
use Rattle.ddt_plan.specs.Fast.{delegation_of, delegation_at, state_of, state_at, outcome_of_site, outcome_in, outcome_from, outcome_at}
use Rattle.ddt_plan.proofs.AlikeLemmas.{zone_alike, site_alike}
use Rattle.ddt_plan.proofs.NegativeLemmas.{negative_is_block}

pub front_among : (f r p : List ℕ) → IsIn p (lengthened f r) → covers p (f ++ r) ≡ true
front_among f [] p (inl same) = ap (λ (l : List ℕ). covers l (f ++ [])) same ∙ covers-append f []
front_among f [] p (inr later) = absurd later
front_among f (d ∷ r) p (inl same) = ap (λ (l : List ℕ). covers l (f ++ d ∷ r)) same ∙ covers-append f (d ∷ r)
front_among f (d ∷ r) p (inr later) = subst (λ (l : List ℕ). covers p l ≡ true) (append_assoc f (d ∷ []) r) (front_among (f ++ d ∷ []) r p later)

-- the block of an identifier covers it, and isn't divided
pub block_covers : (keys : List (List ℕ)) (x q : List ℕ) → block_of keys x ≡ Some q → (covers q x ≡ true) × (is_undivided keys q ≡ true)
block_covers keys x q e = (
  front_among [] x q (subst (IsIn q) (parts_from_fits 0 x (omega arith)) (found_in (is_undivided keys) (parts_from 0 x) q e)),
  found_passes (is_undivided keys) (parts_from 0 x) q e,
)

module _ (r : Register) (accepted : IsAccepted r) (x q : List ℕ) (e : is_path x ≡ true) (block : block_of (keys_of r) x ≡ Some q) where
  c : covers q x ≡ true
  c = (block_covers (keys_of r) x q block).0

  whole : is_undivided (keys_of r) q ≡ true
  whole = (block_covers (keys_of r) x q block).1

  -- a prefix that says that nothing is registered is the block
  prefix_is : (p : List ℕ) (o : Outcome) → assignment r x ≡ o → negative_prefix o ≡ Some p → p ≡ q
  prefix_is p o is negative = same_Some p q (sym (negative_is_block r accepted x e p (ap negative_prefix is ∙ negative)) ∙ block)

  abbrev Of : Zone → Site → Bool → Outcome
  Of z s b = cond b (NotRegistered (part_of_site r s x) (locators_of r z.group)) (Registered s.prefix (locators_of r z.group))

  by_whether : (z : Zone) (s : Site) (b : Bool) → assignment r x ≡ Of z s b
      → assignment r x ≡ cond (not b) (Registered s.prefix (locators_of r z.group)) (NotRegistered q (locators_of r z.group))
  by_whether z s true is = is ∙ ap (λ (p : List ℕ). NotRegistered p (locators_of r z.group)) (prefix_is (part_of_site r s x) (Of z s true) is refl)
  by_whether z s false is = is

  abbrev In : Zone → Option Site → Outcome
  In z found = option_map_or (λ s. assigned_site r z s x) found (Hole (hole_of z.prefix (prefixes_in r z Ms) x))

  by_site : (z : Zone) (found : Option Site) → assignment r x ≡ In z found → assignment r x ≡ option_map_or (outcome_of_site (locators_of r z.group) q) (option_map state_of found) (Hole q)
  by_site z None is = is ∙ ap (λ (p : List ℕ). Hole p) (prefix_is (hole_of z.prefix (prefixes_in r z Ms) x) (In z None) is refl)
  by_site z (Some s) is = by_whether z s (length s.etrs == 0) is

  state_is : state_at r q ≡ option_map state_of (site_of r q)
  state_is = best_match-map Longest state_of (λ s. s.prefix) r.sites q

  delegation_is : delegation_at r q ≡ option_map (delegation_of r) (zone_of r q)
  delegation_is = best_match-map Longest (delegation_of r) (λ z. z.prefix) r.zones q

  by_role : (z : Zone) (role : Role) → assignment r x ≡ assigned_in r z role x → assignment r x ≡ outcome_in (delegation_of r z) role (state_at r q) q
  by_role z Node is = is ∙ ap (λ (p : List ℕ). Hole p) (prefix_is (hole_of z.prefix (prefixes_in r z Node) x) (assigned_in r z Node x) is refl)
  by_role z Ms is =
      by_site z (site_of r q) (is ∙ ap (In z) (site_alike r q whole x c))
      ∙ ap (λ (site : Option SiteState). option_map_or (outcome_of_site (locators_of r z.group) q) site (Hole q)) (sym state_is)

  pub read_off : assignment r x ≡ outcome_at r q
  read_off =
      let z = zone_found r accepted x in
      by_role z.0 z.0.kind (assigned_at r x z.0 z.1)
      ∙ sym (ap (λ (found : Option Delegation). outcome_from found (state_at r q) q)
      (delegation_is ∙ ap (option_map (delegation_of r)) (sym (zone_alike r q whole x c) ∙ z.1)))
