-- What a group's servers serve while they go from one register to another: each zone that is in force as the later
-- register has it, and what they served before for as long as caches may lead to it (RFC 8111, sections 4 and 6.4.1).
use Rattle.std.specs.Prelude.{◌≡◌, ℕ, Bool, true, ◌&&◌, not, nat_le, nat_lt, if◌then◌else◌, List, [], ◌++◌, length, Option, None, Some}
use Rattle.std.specs.List.{filter, list_any}
use Rattle.std.specs.Ordering.{nat_cmp}
use Rattle.std.specs.Cmp.Lexicographic.{slice_cmp}
use Rattle.std.specs.BTreeMap.{BTreeMap, get}
use Rattle.std.specs.BTreeSet.{BTreeSet, contains}
use Rattle.ddt_path.specs.declared.locator.Locator.{Locator}
use Rattle.ddt_path.specs.Locators.{lists, are_distinct}
use Rattle.ddt_path.specs.Covers.{is_same_path}
use Rattle.ddt_check.specs.Zones.{is_same_role}
use Rattle.ddt_config.specs.declared.authority.Authority.{Authority}
use Rattle.ddt_config.specs.Table.{Outline}
use Rattle.ddt_config.specs.Shaped.{is_server_set}
use Rattle.ddt_deploy.specs.declared.rollout.fault.RolloutFault.{RolloutFault}
use Rattle.ddt_deploy.specs.declared.rollout.fault.RolloutFault.TheVariants.{Role, Locators}
use Rattle.ddt_deploy.specs.declared.rollout.stage.Stage.{Stage}
use Rattle.ddt_deploy.specs.declared.rollout.stage.Stage.TheVariants.{From, After, Last}

-- for how many waits the zones of prefixes are kept; none, where a prefix isn't there
abbrev pub Waits : Type 0
Waits = BTreeMap (List ℕ) ℕ

-- whether the later register's zone of a prefix is in force at a stage
abbrev pub is_in_force : Stage → Authority → Bool
is_in_force (From least) a = nat_le least (length a.prefix)
is_in_force (After waits) a = true
is_in_force Last a = true

-- the authorities of the later register that are in force
abbrev pub authorities_in_force : Stage → List Authority → List Authority
authorities_in_force stage later = filter (is_in_force stage) later

-- whether one of these is of the same zone
abbrev pub has_zone : List Authority → Authority → Bool
has_zone others a = list_any (λ b. is_same_path a.prefix b.prefix) others

-- whether a cache may still lead to what a group served before, after so many waits of those that its zone is kept for
abbrev pub may_be_cached : ℕ → Option ℕ → Bool
may_be_cached waits None = true
may_be_cached waits (Some most) = nat_lt waits most

-- whether an earlier authority of a group continues at a stage, if no later zone of its prefix is in force
abbrev pub continues : Stage → Waits → Authority → Bool
continues (From least) kept a = true
continues (After waits) kept a = may_be_cached waits (get (slice_cmp nat_cmp) kept a.prefix)
continues Last kept a = true

-- the earlier authorities that continue, and the later ones that are in force
abbrev pub authorities_at : Stage → Waits → List Authority → List Authority → List Authority
authorities_at stage kept earlier later =
    filter (λ a. not (has_zone (authorities_in_force stage later) a) && continues stage kept a) earlier
    ++ authorities_in_force stage later

-- the new locators, and then those of before
abbrev pub locators_between : List Locator → List Locator → List Locator
locators_between earlier later = later ++ filter (λ l. not (lists later l)) earlier

-- whether they can be the locators of one group
abbrev pub are_group_locators : List Locator → Bool
are_group_locators locators = is_server_set locators && are_distinct locators

-- what stands against a group's configurations in both registers
abbrev pub refusal_between : Outline → Outline → Option RolloutFault
refusal_between c d =
    if not (is_same_role c.role d.role) then Some (Role c.name)
    else if not (are_group_locators (locators_between c.locators d.locators)) then Some (Locators c.name)
    else None

-- the configuration of a group that is in both registers
abbrev pub config_between : Stage → Waits → Outline → Outline → Outline
config_between stage kept c d = record {
  name = c.name;
  role = c.role;
  locators = locators_between c.locators d.locators;
  authorities = authorities_at stage kept c.authorities d.authorities;
}

-- a configuration with other authorities
abbrev pub with_authorities : Outline → List Authority → Outline
with_authorities c authorities = record {
  name = c.name;
  role = c.role;
  locators = c.locators;
  authorities = authorities;
}

-- The configuration of a group before the last stage, by those in both registers, where it is in them. A group that is
-- new serves what is in force, and one that is removed serves what continues.
abbrev pub config_before_last : Stage → Waits → Option Outline → Option Outline → Option Outline
config_before_last stage kept None None = None
config_before_last stage kept (Some c) None = Some (with_authorities c (authorities_at stage kept c.authorities []))
config_before_last stage kept None (Some d) = Some (with_authorities d (authorities_at stage kept [] d.authorities))
config_before_last stage kept (Some c) (Some d) = Some (config_between stage kept c d)

-- the configuration of a group at a stage
abbrev pub config_at : Stage → Waits → Option Outline → Option Outline → Option Outline
config_at Last kept earlier later = later
config_at (From least) kept earlier later = config_before_last (From least) kept earlier later
config_at (After waits) kept earlier later = config_before_last (After waits) kept earlier later

-- what stands against a group before the last stage
abbrev pub refusal_before_last : Option Outline → Option Outline → Option RolloutFault
refusal_before_last (Some c) (Some d) = refusal_between c d
refusal_before_last None later = None
refusal_before_last (Some c) None = None

-- what stands against a group at a stage
abbrev pub refusal_at : Stage → Option Outline → Option Outline → Option RolloutFault
refusal_at Last earlier later = None
refusal_at (From least) earlier later = refusal_before_last earlier later
refusal_at (After waits) earlier later = refusal_before_last earlier later

-- the prefixes of authorities are kept in a set
abbrev pub HasZones : List Authority → BTreeSet (List ℕ) → Type 0
HasZones authorities zones = (p : List ℕ)
    → contains (slice_cmp nat_cmp) zones p ≡ list_any (λ b. is_same_path p b.prefix) authorities
