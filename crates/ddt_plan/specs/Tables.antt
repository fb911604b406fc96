-- What two registers have under one key, as a loop over the rows of each puts it there.
use Rattle.std.specs.Prelude.{◌≡◌, ℕ, List, Bool, Option, None, Some, unwrap_or, if◌then◌else◌}
use Rattle.std.specs.Option.{option_or}
use Rattle.std.specs.Ordering.{nat_cmp}
use Rattle.std.specs.Cmp.Lexicographic.{slice_cmp}
use Rattle.std.specs.BTreeMap.{BTreeMap, get}
use Rattle.ddt_plan.specs.declared.versions.Which.{Which}
use Rattle.ddt_plan.specs.declared.versions.Which.TheVariants.{Earlier, Later}
use Rattle.ddt_plan.specs.declared.pairs_by_key.Pair.{Pair}
use Rattle.ddt_plan.specs.declared.items.ItemChange.{ItemChange}
use Rattle.ddt_register.specs.declared.register.Register.{Register}
use Rattle.ddt_plan.specs.declared.items.ServingGroup.{ServingGroup}
use Rattle.ddt_plan.specs.Items.{is_same_if_any, serving_group_at}

-- a value beside what is there, of which the first of a register stays
abbrev pub with_value : {V : Type 0} → Which → Pair V → V → Pair V
with_value Earlier pair v = record { before = option_or pair.before (Some v); after = pair.after }
with_value Later pair v = record { before = pair.before; after = option_or pair.after (Some v) }

-- a change, where the two values differ
abbrev pub change_of : {K V : Type 0} → (V → V → Bool) → K × Pair V → Option (ItemChange K V)
change_of same e =
    if is_same_if_any same e.1.before e.1.after then None
    else Some (record { key = e.0; before = e.1.before; after = e.1.after })

-- nothing in either register
abbrev pub no_values : {V : Type 0} → Pair V
no_values = record { before = None; after = None }

-- what a register has under a key beside what is there, if it has any
abbrev pub put_at : {V : Type 0} → Which → Option (Pair V) → Option V → Option (Pair V)
put_at which known None = known
put_at which known (Some v) = Some (with_value which (unwrap_or known no_values) v)

-- a register's values were put to what was there, each by its key
abbrev pub HasPutRows : {V : Type 0} → Which → (List ℕ → Option V) → BTreeMap (List ℕ) (Pair V)
    → BTreeMap (List ℕ) (Pair V) → Type 0
HasPutRows which at before after =
    (k : List ℕ) → get (slice_cmp nat_cmp) after k ≡ put_at which (get (slice_cmp nat_cmp) before k) (at k)

-- Under an EID-prefix is the group that serves its zone in each register; none where a register has no such zone.
abbrev pub AreServingGroups : Register → Register → BTreeMap (List ℕ) (Pair ServingGroup) → Type 0
AreServingGroups before after groups = (p : List ℕ) → unwrap_or (get (slice_cmp nat_cmp) groups p) no_values
    ≡ record { before = serving_group_at before p; after = serving_group_at after p }
