-- The maps of a register by which its warnings are found.
use Rattle.std.specs.Prelude.{◌≡◌, ℕ, Bool, true, false, ◌&&◌, not, List, map, find, IsPermutation, MatchOption, Option, Some, Contains}
use Rattle.std.specs.List.{list_any}
use Rattle.std.specs.Option.{option_map_or, option_copied}
use Rattle.std.specs.Ordering.{nat_cmp, ordering_then}
use Rattle.std.specs.Cmp.Lexicographic.{slice_cmp}
use Rattle.std.specs.FinMap.{FinMap, get}
use Rattle.std.specs.BTreeSet.{BTreeSet, contains}
use Rattle.std.specs.BTreeMap.{BTreeMap, get as value_at}
use Rattle.std.specs.declared.cmp.Ordering.{Ordering}
use Rattle.std.specs.Fn.{FnReturnsAt}
use denote.Ref.{Bor}
use denote.Param.Members.{Shared}
use Rattle.ddt_path.specs.declared.locator.Locator.{Locator}
use Rattle.ddt_path.specs.Locators.{lists}
use Rattle.ddt_path.specs.Path.{family, address_number}
use Rattle.ddt_register.specs.declared.group.Group.{Group}
use Rattle.ddt_check.specs.Rules.{item_at, group_at}
use Rattle.ddt_check.specs.Zones.{site_of}
use Rattle.ddt_path.specs.Covers.{is_same_path}
use Rattle.ddt_path.specs.Names.{is_same_name}
use Rattle.ddt_trie.specs.PrefixMap.{path_cmp}
use Rattle.ddt_register.specs.declared.zone.Zone.{Zone}
use Rattle.ddt_register.specs.declared.site.Site.{Site}
use Rattle.ddt_register.specs.declared.register.Register.{Register}
use Rattle.ddt_review.specs.Warnings.Order.{AreSitesInOrder}
use Rattle.ddt_check.specs.Rules.{IsAccepted}
use Rattle.ddt_trie.specs.Trie.{trie_content}
use Rattle.ddt_review.specs.declared.warnings.zone_tree.ZoneTree.{ZoneTree}
use Rattle.ddt_review.specs.declared.warnings.kind.Kind.{Kind}
use Rattle.ddt_review.specs.declared.warnings.unreachable_locators.UnreachableReason.{UnreachableReason}
use Rattle.ddt_review.specs.declared.warnings.warning.Finding.{Finding}
use Rattle.ddt_review.specs.declared.warnings.warning.Finding.TheVariants as found
use Rattle.ddt_review.specs.Warnings.UnreachableReason.{unreachable_reason}
use Rattle.ddt_review.specs.Warnings.Warnings.{eid_path, has_child, has_child_outside, zone_above, is_next, is_usual, is_host, is_guest}
use Rattle.ddt_review.specs.Warnings.Findings.{kind_of}

-- each item is kept at its prefix, and nothing else is
abbrev pub HasItems : {A : Type 0} → (A → List ℕ) → List A → FinMap path_cmp (Bor A) → Type 0
HasItems path items kept = (p : List ℕ) → option_copied (get kept p) ≡ find (λ a. is_same_path p (path a)) items

-- no two items have one prefix
abbrev pub HaveOwnPrefixes : {A : Type 0} → (A → List ℕ) → List A → Type 0
HaveOwnPrefixes {A} path items = (a b : A) → Contains items a → Contains items b → path a ≡ path b → a ≡ b

-- the zones of an accepted register by their prefixes
pub record IsTree (tree : ZoneTree) : Type 0 where
  pub accepted : IsAccepted tree.register.now
  pub kept : HasItems (λ z. z.prefix) tree.register.now.zones (trie_content tree.by_prefix)

-- whether a mark is set at a prefix: that of the zone, where there is one, and where the mark is wanted
abbrev pub is_marked : Option Zone → Bool → List ℕ → Bool
is_marked zone wanted p = option_map_or (λ z. wanted && is_same_path p z.prefix) zone false

-- the group of the zone above another is another than that of a zone
abbrev pub is_outside_above : Register → Zone → Zone → Bool
is_outside_above r zone parent =
    option_map_or (λ p. not (is_same_name zone.group p.group)) (zone_above r parent) false

-- the prefixes of the zones that have a zone directly below
abbrev pub HasParents : Register → BTreeSet (List ℕ) → Type 0
HasParents r marks = (z : Zone) → Contains r.zones z → contains (slice_cmp nat_cmp) marks z.prefix ≡ has_child r z

-- the prefixes of the zones that have one directly below of another group than the zone directly above
abbrev pub HasMixed : Register → BTreeSet (List ℕ) → Type 0
HasMixed r marks = (z p : Zone) → Contains r.zones z → zone_above r z ≡ Some p
    → contains (slice_cmp nat_cmp) marks z.prefix ≡ has_child_outside r p.group z

-- the family and the number of a locator, by which it is kept
abbrev pub address_of : Locator → ℕ × ℕ
address_of l = (family l, address_number l)

-- the order of these
abbrev pub address_cmp : ℕ × ℕ → ℕ × ℕ → Ordering
address_cmp a b = ordering_then (nat_cmp a.0 b.0) (nat_cmp a.1 b.1)

-- the row of one of the groups that list a locator; none where no group lists it
abbrev pub IsServerRow : List Group → Locator → Option ℕ → Type 0
IsServerRow groups l row = MatchOption row (list_any (λ g. lists g.locators l) groups ≡ false)
    (λ n. item_at (λ g. g.row) (λ g. lists g.locators l) groups n ≡ true)

-- each locator has such a row
abbrev pub HasServers : List Group → BTreeMap (ℕ × ℕ) ℕ → Type 0
HasServers groups rows = (l : Locator) → IsServerRow groups l (value_at address_cmp rows (address_of l))

-- the addresses of a list of locators
abbrev pub HasAddresses : List Locator → BTreeSet (ℕ × ℕ) → Type 0
HasAddresses locators addresses = (l : Locator) → contains address_cmp addresses (address_of l) ≡ lists locators l

-- the order of pairs of names
abbrev pub pair_cmp : List ℕ × List ℕ → List ℕ × List ℕ → Ordering
pair_cmp a b = ordering_then (slice_cmp nat_cmp a.0 b.0) (slice_cmp nat_cmp a.1 b.1)

-- the pairs of groups of which one delegates more than one zone to the other
abbrev pub HasUsual : Register → BTreeSet (List ℕ × List ℕ) → Type 0
HasUsual r pairs = (pair : List ℕ × List ℕ) → contains pair_cmp pairs pair ≡ is_usual r pair

-- the names of the groups that delegate to another more than once
abbrev pub HasHosts : Register → BTreeSet (List ℕ) → Type 0
HasHosts r names = (name : List ℕ) → contains (slice_cmp nat_cmp) names name ≡ is_host r name

-- the names of those to which another delegates so
abbrev pub HasGuests : Register → BTreeSet (List ℕ) → Type 0
HasGuests r names = (name : List ℕ) → contains (slice_cmp nat_cmp) names name ≡ is_guest r name

-- the names that zones name
abbrev pub HasNames : List Zone → BTreeSet (List ℕ) → Type 0
HasNames zones names = (name : List ℕ) → contains (slice_cmp nat_cmp) names name
    ≡ list_any (λ z. is_same_name name z.group) zones

-- the sites in the order of their prefixes
abbrev pub AreListedInOrder : Register → List (Bor Site) → Type 0
AreListedInOrder r order = IsPermutation r.sites (map (λ s. s.now) order) × AreSitesInOrder (map (λ s. s.now) order)

-- an item has nothing of a kind, or it has, and this was found
abbrev pub IsWarningFound : Bool → Kind → Option Finding → Type 0
IsWarningFound has kind found = MatchOption found (has ≡ false) (λ f. (has ≡ true) × (kind_of f ≡ kind))

-- the finding is of this locator, with the reason why it can't be reached
abbrev pub IsReasoned : (Locator → UnreachableReason → Finding) → Locator → Finding → Type 0
IsReasoned of l f = (reason : UnreachableReason) × (unreachable_reason l ≡ Some reason) × (f ≡ of l reason)

-- the finding is of this locator, with the row of a group that lists it
abbrev pub IsOfServer : Register → Locator → Finding → Type 0
IsOfServer r l f = (row : ℕ) × (group_at r row (λ g. lists g.locators l) ≡ true) × (f ≡ found.EtrIsServer l row)

-- the finding is of this locator, with the row of the longest site over it
abbrev pub IsOfSiteOver : Register → Locator → Finding → Type 0
IsOfSiteOver r l f = (s : Site) × (site_of r (eid_path l) ≡ Some s) × (f ≡ found.LocatorInsideEids l s.row)

-- a search answers so at each locator
abbrev pub FindsAs : {F : Type 0} → Shared F (Bor Locator × Unit {0}) (Option Finding) → F → (Locator → Bool) → Kind
    → Type 0
FindsAs calls find has kind =
    (l : _) (found : Option Finding) → FnReturnsAt calls find l found → IsWarningFound (has l) kind found

-- the search answers so at the first locator of a list that has it
abbrev pub IsFoundFirst : {F : Type 0} → Shared F (Bor Locator × Unit {0}) (Option Finding) → F → (Locator → Bool)
    → List Locator → Finding → Type 0
IsFoundFirst calls search_at has ls f =
    (l : Locator) × (find has ls ≡ Some l) × FnReturnsAt calls search_at l (Some f)

-- the sites just before and just after a site
pub record AreNeighbours (r : Register) (s a b : Site) : Type 0 where
  pub before_in : Contains r.sites a
  pub behind_in : Contains r.sites b
  pub before : is_next r a s ≡ true
  pub behind : is_next r s b ≡ true
  pub one_before : (t : Site) → Contains r.sites t → is_next r t s ≡ true → t ≡ a
  pub one_behind : (t : Site) → Contains r.sites t → is_next r s t ≡ true → t ≡ b

-- a site with no site before it, or with none after it
abbrev pub HasNone : Register → Site → Type 0
HasNone r s = (a b : Site) → Contains r.sites a → Contains r.sites b → (is_next r a s && is_next r s b) ≡ false
