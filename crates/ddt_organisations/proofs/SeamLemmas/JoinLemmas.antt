-- When the rows of both make a register, and how many they are where they make none.
use Rattle.std.proofs.Common.{◌≡◌, ℕ, ◌+◌, ◌<◌, ◌≤◌, Bool, true, List, ◌++◌, length, map, Option, Some, None, Result, Ok, Err, sym, ap, subst, ◌∙◌, arith}
use Rattle.std.specs.Prelude.{◌↔◌, IsTrue, IsSome, IfSome, IfOk, MatchOption}
use Rattle.std.specs.List.{filter}
use Rattle.std.proofs.Math.Nat.{lt_of_not-le}
use Rattle.std.proofs.lemmas.Bool.{false≢true}
use Rattle.std.proofs.lemmas.List.{length-map, length-append}
use Rattle.ddt_register.specs.declared.zone.Zone.{Zone}
use Rattle.ddt_register.specs.declared.site.Site.{Site}
use Rattle.ddt_register.specs.declared.group.Group.{Group}
use Rattle.ddt_register.specs.declared.register.Register.{Register}
use Rattle.ddt_register.specs.Rows.{are_rows, zone_rows, site_rows, group_rows}
use Rattle.ddt_organisations.specs.Seam.Joined.{IsJoined, joined_rows, numbered, zone_text, site_text, group_text, lacks_zone, lacks_site, lacks_group}
use Rattle.ddt_organisations.proofs.SeamLemmas.NumberLemmas.{numbered_rows}

-- what follows from two facts of the value of a result
pub both_ok : {A E : Type 0} (r : Result A E) (P Q R : A → Type 0) → ((a : A) → P a → Q a → R a) → IfOk r P → IfOk r Q
    → IfOk r R
both_ok (Ok a) P Q R f p q = f a p q
both_ok (Err e) P Q R f p q = p

-- as many rows as those of ours and those that are lacked
rows_of_both : {A : Type 0} (text : A → A) (all ours lacked : List A)
    → map text all ≡ map text ours ++ map text lacked → length all ≡ length ours + length lacked
rows_of_both text all ours lacked e =
    let both : length (map text all) ≡ length (map text ours) + length (map text lacked) =
    ap length e ∙ length-append (map text ours) (map text lacked) in
    omega (arith, both, length-map all text, length-map ours text, length-map lacked text)

module _ (ours theirs : Register) (zones : List Zone) (sites : List Site) (groups : List Group) (first before : ℕ)
    (zones_are : map zone_text zones ≡ map zone_text ours.zones ++ map zone_text (filter (lacks_zone ours) theirs.zones))
    (sites_are : map site_text sites ≡ map site_text ours.sites ++ map site_text (filter (lacks_site ours) theirs.sites))
    (groups_are : map group_text groups
    ≡ map group_text ours.groups ++ map group_text (filter (lacks_group ours) theirs.groups))
    (groups_next : length groups ≤ 65535 → numbered 0 (group_rows groups) ≡ true)
    (first_is : first ≡ length groups)
    (zones_next : first + length zones ≤ 65535 → numbered first (zone_rows zones) ≡ true)
    (before_is : length groups + length zones ≤ 65535 → before ≡ length groups + length zones)
    (sites_next : before + length sites ≤ 65535 → numbered before (site_rows sites) ≡ true) where
  how_many : length groups + length zones + length sites ≡ joined_rows ours theirs
  how_many =
      let z = rows_of_both zone_text zones ours.zones (filter (lacks_zone ours) theirs.zones) zones_are in
      let s = rows_of_both site_text sites ours.sites (filter (lacks_site ours) theirs.sites) sites_are in
      let g = rows_of_both group_text groups ours.groups (filter (lacks_group ours) theirs.groups) groups_are in
      omega (arith, z, s, g)

  few_are_rows : joined_rows ours theirs ≤ 65535 → are_rows zones sites groups ≡ true
  few_are_rows few =
      let total : length groups + length zones + length sites ≤ 65535 = omega (arith, how_many, few) in
      let front : length groups + length zones ≤ 65535 = omega (arith, total) in
      let same : before ≡ length groups + length zones = before_is front in
      let fits_zones : first + length zones ≤ 65535 = omega (arith, first_is, front) in
      let fits : before + length sites ≤ 65535 = omega (arith, same, total) in
      numbered_rows zones sites groups (groups_next (omega (arith, front)))
      (subst (λ (n : ℕ). numbered n (zone_rows zones) ≡ true) first_is (zones_next fits_zones))
      (subst (λ (n : ℕ). numbered n (site_rows sites) ≡ true) same (sites_next fits)) total

  pub joined_or_many : (found : Option Register) → (IsSome found ↔ IsTrue (are_rows zones sites groups))
      → IfSome found (λ r. (r.zones ≡ zones) × (r.sites ≡ sites) × (r.groups ≡ groups))
      → MatchOption found (65535 < joined_rows ours theirs) (IsJoined ours theirs)
  joined_or_many None only items = lt_of_not-le (λ few. absurd (false≢true (only.1 (few_are_rows few))))
  joined_or_many (Some r) only items = record {
    zones = ap (map zone_text) items.0 ∙ zones_are;
    sites = ap (map site_text) items.1 ∙ sites_are;
    groups = ap (map group_text) items.2 ∙ groups_are;
  }
