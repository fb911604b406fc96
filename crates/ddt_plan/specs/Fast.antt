-- What a block is assigned, by its zone and its site alone: no lengths are tried. A walk down the digits carries both.
use Rattle.std.specs.Prelude.{ℕ, ◌≡◌, ◌==◌, not, true, false, List, map, length, Option, None, Some, if◌then◌else◌, IsPermutation, IsSorted}
use Rattle.std.specs.List.{filter}
use Rattle.std.specs.Option.{option_map_or}
use Rattle.std.specs.Ordering.{nat_cmp}
use Rattle.std.specs.Cmp.Lexicographic.{slice_cmp}
use Rattle.ddt_path.specs.declared.locator.Locator.{Locator}
use Rattle.ddt_path.specs.declared.record.Role.{Role}
use Rattle.ddt_path.specs.declared.record.Role.TheVariants.{Node, Ms}
use Rattle.ddt_path.specs.declared.record.Outcome.{Outcome}
use Rattle.ddt_path.specs.declared.record.Outcome.TheVariants.{Registered, NotRegistered, Hole}
use Rattle.ddt_path.specs.Covers.{is_strictly_below}
use Rattle.ddt_path.specs.Matching.{longest_match}
use Rattle.ddt_path.specs.laws.Member.{IsIn}
use Rattle.ddt_register.specs.declared.zone.Zone.{Zone}
use Rattle.ddt_register.specs.declared.site.Site.{Site}
use Rattle.ddt_register.specs.declared.register.Register.{Register}
use Rattle.ddt_check.specs.Assignment.{assignment}
use Rattle.ddt_check.specs.Zones.{locators_of}
use Rattle.ddt_plan.specs.declared.sides.Delegation.{Delegation}
use Rattle.ddt_plan.specs.declared.sides.SiteState.{SiteState}
use Rattle.ddt_plan.specs.declared.sides.SortedItems.{SortedItems}
use Rattle.ddt_plan.specs.declared.sides.Division.{Division}
use Rattle.ddt_plan.specs.declared.sides.Side.{Side}
use Rattle.ddt_plan.specs.declared.sides.Side.TheVariants.{Settled, Divided}
use Rattle.ddt_plan.specs.declared.sides.Sides.{Sides}
use Rattle.ddt_plan.specs.Blocks.{keys_of, is_undivided}

-- a zone, with the locators of its group
abbrev pub delegation_of : Register → Zone → Delegation
delegation_of r z = record { prefix = z.prefix; role = z.kind; servers = locators_of r z.group }

-- All zones of a register in the order of its rows, each with the locators of its group.
abbrev pub delegations_of : Register → List Delegation
delegations_of r = map (delegation_of r) r.zones

-- a site's prefix, and whether it has an ETR
abbrev pub state_of : Site → SiteState
state_of s = record { prefix = s.prefix; is_registered = not (length s.etrs == 0) }

-- All sites of a register in the order of its rows, each as registered where it has an ETR.
abbrev pub states_of : Register → List SiteState
states_of r = map state_of r.sites

-- a block of a site: the site where it has an ETR, else the block
abbrev pub outcome_of_site : List Locator → List ℕ → SiteState → Outcome
outcome_of_site servers q s = if s.is_registered then Registered s.prefix servers else NotRegistered q servers

-- a block in a zone: of no site it is a hole as a whole
abbrev pub outcome_in : Delegation → Role → Option SiteState → List ℕ → Outcome
outcome_in z Node site q = Hole q
outcome_in z Ms site q = option_map_or (outcome_of_site z.servers q) site (Hole q)

-- What a block q is assigned by its zone and its site; a delegation hole where it lies in no zone.
abbrev pub outcome_from : Option Delegation → Option SiteState → List ℕ → Outcome
outcome_from zone site q = option_map_or (λ z. outcome_in z z.role site q) zone (Hole q)

-- the longest zone and the longest site that cover a path
abbrev pub delegation_at : Register → List ℕ → Option Delegation
delegation_at r q = longest_match (λ z. z.prefix) (delegations_of r) q

-- The site with the longest EID-prefix that covers q, and whether it is registered; none where no site covers q.
abbrev pub state_at : Register → List ℕ → Option SiteState
state_at r q = longest_match (λ s. s.prefix) (states_of r) q

-- What an accepted register assigns to block q, by the zone and the site that cover q most closely.
abbrev pub outcome_at : Register → List ℕ → Outcome
outcome_at r q = outcome_from (delegation_at r q) (state_at r q) q

-- items in the order of their prefixes
abbrev pub AreInOrder : {A : Type 0} → (A → List ℕ) → List A → Type 0
AreInOrder prefix items = IsSorted (λ a b. slice_cmp nat_cmp (prefix a) (prefix b)) items

-- the items strictly below a path, and no others, in the order of their prefixes
pub record AreBelow {A : Type 0} (prefix : A → List ℕ) (items : List A) (q : List ℕ) (kept : List A) : Type 0 where
  pub from : (a : A) → IsIn a kept → IsIn a items × (is_strictly_below (prefix a) q ≡ true)
  pub all : (a : A) → IsIn a items → is_strictly_below (prefix a) q ≡ true → IsIn a kept
  pub in_order : AreInOrder prefix kept

-- the zones and the sites of a register, in the order of their prefixes
pub record AreItemsOf (r : Register) (items : SortedItems) : Type 0 where
  pub zones : IsPermutation (delegations_of r) items.zones.items
  pub sites : IsPermutation (states_of r) items.sites.items
  pub zones_in_order : AreInOrder (λ z. z.prefix) items.zones.items
  pub sites_in_order : AreInOrder (λ s. s.prefix) items.sites.items

-- what is strictly below a prefix
abbrev pub delegations_below : Register → List ℕ → List Delegation
delegations_below r q = filter (λ z. is_strictly_below z.prefix q) (delegations_of r)

-- The sites of a register whose EID-prefixes lie inside q and are longer than it.
abbrev pub states_below : Register → List ℕ → List SiteState
states_below r q = filter (λ s. is_strictly_below s.prefix q) (states_of r)

-- what is kept at a prefix that some zone or site is strictly below
pub record IsDivision (r : Register) (q : List ℕ) (d : Division) : Type 0 where
  pub zone : d.zone ≡ delegation_at r q
  pub site : d.site ≡ state_at r q
  pub zones : AreBelow (λ z. z.prefix) (delegations_of r) q d.zones.now
  pub sites : AreBelow (λ s. s.prefix) (states_of r) q d.sites.now
  pub divided : is_undivided (keys_of r) q ≡ false

-- what is kept at one that none is, nor at any that it covers
pub record IsSettled (r : Register) (q : List ℕ) (outcome : Outcome) : Type 0 where
  pub whole : is_undivided (keys_of r) q ≡ true
  pub assigned : outcome ≡ assignment r q

-- What a register says at q: the one outcome of all that q covers; or, where zones or sites are strictly below q,
-- these, and the zone and the site around it.
abbrev pub IsSide : Register → List ℕ → Side → Type 0
IsSide r q (Settled outcome) = IsSettled r q outcome
IsSide r q (Divided division) = IsDivision r q division

-- The earlier outcome and the later one, where each register assigns the same to all of the prefix. There is none where
-- either divides it, and then its two halves are looked at.
abbrev pub outcomes_settled : Side → Side → Option (Outcome × Outcome)
outcomes_settled (Settled o) (Settled p) = Some (o, p)
outcomes_settled (Settled o) (Divided e) = None
outcomes_settled (Divided d) side = None

-- the outcomes of two sides that are settled
abbrev pub both_settled : Sides → Option (Outcome × Outcome)
both_settled sides = outcomes_settled sides.before sides.after
