-- For how many waits of 1,440 minutes and 2 seconds a zone is kept that its group loses: for as long as a referral may
-- be cached that leads there (RFC 8111, section 6.4.1).
use Rattle.std.specs.Prelude.{◌≡◌, ℕ, ◌+◌, Bool, cond, if◌then◌else◌, List, [], ◌∷◌, map, length, Option, None, Some, is_some}
use Rattle.std.specs.List.{filter}
use Rattle.std.specs.Option.{option_map}
use Rattle.std.specs.Ordering.{nat_cmp}
use Rattle.std.specs.Cmp.Lexicographic.{slice_cmp}
use Rattle.std.specs.BTreeMap.{BTreeMap, get}
use Rattle.ddt_path.specs.declared.record.Role.{Role}
use Rattle.ddt_path.specs.Names.{is_same_name}
use Rattle.ddt_register.specs.declared.register.Register.{Register}
use Rattle.ddt_check.specs.Zones.{is_ms}
use Rattle.ddt_plan.specs.declared.items.ServingGroup.{ServingGroup}
use Rattle.ddt_plan.specs.declared.pairs_by_key.Pair.{Pair}
use Rattle.ddt_plan.specs.Items.{serving_group_at}
use Rattle.ddt_deploy.specs.Rollout.Between.{Waits}

-- the kind of a zone that its group loses, by what serves it in both registers
abbrev pub lost_kind : Option ServingGroup → Option ServingGroup → Option Role
lost_kind None after = None
lost_kind (Some a) None = Some a.kind
lost_kind (Some a) (Some b) = if is_same_name b.group a.group then None else Some a.kind

-- The kind of the zone of exactly this prefix, where another group or none serves it in the later register.
abbrev pub lost_at : Register → Register → List ℕ → Option Role
lost_at before after p = lost_kind (serving_group_at before p) (serving_group_at after p)

-- the same of the two zones that a table has for a prefix; none where it has no zone there
abbrev pub lost_of : Option (Pair ServingGroup) → Option Role
lost_of None = None
lost_of (Some serving) = lost_kind serving.before serving.after

-- the same of a prefix, by a table of both registers' zones
abbrev pub lost_in : BTreeMap (List ℕ) (Pair ServingGroup) → List ℕ → Option Role
lost_in groups p = lost_of (get (slice_cmp nat_cmp) groups p)

-- the prefixes that cover one, itself too: its fronts
abbrev pub fronts : List ℕ → List (List ℕ)
fronts [] = [] ∷ []
fronts (d ∷ ds) = [] ∷ map (λ q. d ∷ q) (fronts ds)

-- One wait for the zone, since referrals of before lead to it; one for each lost zone around it, whose servers refer to
-- it meanwhile; and one for a zone of Map-Servers, since what they answer is cached as long.
abbrev pub count_of : (List ℕ → Option Role) → List ℕ → Role → ℕ
count_of lost p kind = length (filter (λ q. is_some (lost q)) (fronts p)) + (if is_ms kind then 1 else 0)

-- for how many waits the zone of a prefix is kept; none where no group loses it
abbrev pub waits_at : (List ℕ → Option Role) → List ℕ → Option ℕ
waits_at lost p = option_map (count_of lost p) (lost p)

-- what a table of waits has at a prefix, once a count was put at this prefix (`here`) or at another; without a count
-- nothing was put
abbrev pub put_if : Option ℕ → Bool → Option ℕ → Option ℕ
put_if None here before = before
put_if (Some n) here before = cond here (Some n) before

-- Each lost zone is kept for its waits, by its prefix.
abbrev pub AreWaits : Register → Register → Waits → Type 0
AreWaits before after kept =
    (p : List ℕ) → get (slice_cmp nat_cmp) kept p ≡ waits_at (lost_at before after) p
