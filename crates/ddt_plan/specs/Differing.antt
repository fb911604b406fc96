-- The zones and sites that one of two registers has and the other has not.
use Rattle.std.specs.Prelude.{ℕ, ◌≡◌, ◌⊎◌, ◌<◌, Bool, true, false, List, length, Option, None, Some}
use Rattle.ddt_path.specs.Covers.{covers, is_strictly_below}
use Rattle.ddt_path.specs.laws.Member.{IsIn}
use Rattle.ddt_register.specs.declared.register.Register.{Register}
use Rattle.ddt_plan.specs.declared.sides.Delegation.{Delegation}
use Rattle.ddt_plan.specs.declared.sides.Division.{Division}
use Rattle.ddt_plan.specs.declared.sides.Sides.{Sides}
use Rattle.ddt_plan.specs.declared.sides.SiteState.{SiteState}
use Rattle.ddt_plan.specs.Blocks.{keys_of, is_undivided}
use Rattle.ddt_plan.specs.Fast.{AreInOrder, IsSide, delegations_of, states_of}

-- each item is among the others too, or its prefix is marked
abbrev pub AreMarkedAll : {A : Type 0} → (A → List ℕ) → List A → List A → List (List ℕ) → Type 0
AreMarkedAll prefix items others marked = (a : _) → IsIn a items → IsIn a others ⊎ IsIn (prefix a) marked

-- the same of those strictly below q
abbrev pub AreMarked : {A : Type 0} → (A → List ℕ) → List ℕ → List A → List A → List (List ℕ) → Type 0
AreMarked prefix q items others marked =
    (a : _) → IsIn a items → is_strictly_below (prefix a) q ≡ true → IsIn a others ⊎ IsIn (prefix a) marked

-- The prefixes, in order, of the zones and sites strictly below q that only one of two registers has.
pub record AreDifferences (r s : Register) (q : List ℕ) (marked : List (List ℕ)) : Type 0 where
  pub zones_gone : AreMarked (λ z. z.prefix) q (delegations_of r) (delegations_of s) marked
  pub zones_new : AreMarked (λ z. z.prefix) q (delegations_of s) (delegations_of r) marked
  pub sites_gone : AreMarked (λ m. m.prefix) q (states_of r) (states_of s) marked
  pub sites_new : AreMarked (λ m. m.prefix) q (states_of s) (states_of r) marked
  pub in_order : AreInOrder (λ p. p) marked

-- an earlier register and a later one
pub record BothRegisters : Type 0 where
  pub before : Register
  pub after : Register

-- What two registers say at the same prefix: r, the earlier one, and s, the later one; and where they differ below it.
pub record AreSides (r s : Register) (q : List ℕ) (sides : Sides) : Type 0 where
  pub before : IsSide r q sides.before
  pub after : IsSide s q sides.after
  pub differing : AreDifferences r s q sides.differing.now

-- h is strictly below q, no zone and no site of the register is between the two, and each shorter front of h is
-- divided.
pub record IsNext (r : Register) (q h : List ℕ) : Type 0 where
  pub below : is_strictly_below h q ≡ true
  pub near : (k : List ℕ) → IsIn k (keys_of r) → covers k h ≡ true → length q < length k → k ≡ h
  pub fronts : (f : List ℕ) → covers f h ≡ true → length f < length h → is_undivided (keys_of r) f ≡ false

-- there is a prefix, and it covers p
abbrev pub is_within : Option (List ℕ) → List ℕ → Bool
is_within None p = false
is_within (Some all) p = covers all p

-- A prefix strictly below q that covers all zones and sites of two divisions of q, which have the same zone and the
-- same site around q.
pub record IsInner (q : List ℕ) (old new : Division) (inner : List ℕ) : Type 0 where
  pub below : is_strictly_below inner q ≡ true
  pub zone : old.zone ≡ new.zone
  pub site : old.site ≡ new.site
  pub old_zones : (z : Delegation) → IsIn z old.zones.now → covers inner z.prefix ≡ true
  pub old_sites : (m : SiteState) → IsIn m old.sites.now → covers inner m.prefix ≡ true
  pub new_zones : (z : Delegation) → IsIn z new.zones.now → covers inner z.prefix ≡ true
  pub new_sites : (m : SiteState) → IsIn m new.sites.now → covers inner m.prefix ≡ true
