-- The children of an authority of a server: their prefixes, and the place of each one's referral set
-- (RFC 8111, section 6.2).
use Rattle.std.specs.Prelude.{ℕ, ◌≡◌, ◌<◌, List, [], ◌∷◌, get_or, length}
use Rattle.std.specs.List.{All}
use Rattle.ddt_path.specs.declared.record.Role.TheVariants.{Node}
use Rattle.ddt_config.specs.declared.child.Child.{Child}
use Rattle.ddt_node.specs.declared.delegations.ReferralSet.{ReferralSet}

-- the referral set of a child
abbrev pub set_of : Child → ReferralSet
set_of c = record { role = c.role; locators = c.locators }

-- what a place outside the sets would be read as; no child has one
abbrev pub no_set : ReferralSet
no_set = record { role = Node; locators = [] }

-- the child of a prefix, with the referral set at a place
abbrev pub child_of : List ReferralSet → List ℕ → ℕ → Child
child_of sets p k =
    let s = get_or sets k no_set in
    record { prefix = p; role = s.role; locators = s.locators }

-- the children of these prefixes, with the referral sets at these places
abbrev pub children_of : List ReferralSet → List (List ℕ) → List ℕ → List Child
children_of sets [] ks = []
children_of sets (p ∷ ps) [] = []
children_of sets (p ∷ ps) (k ∷ ks) = child_of sets p k ∷ children_of sets ps ks

-- there is a place for each prefix, and a set at each place
pub record AreKept (sets : List ReferralSet) (ps : List (List ℕ)) (ks : List ℕ) : Type 0 where
  pub paired : length ps ≡ length ks
  pub within : All (λ k. k < length sets) ks
