-- The table with a fault is the one at its place: the numbers of the place lead to it.
use Rattle.std.proofs.Common.{◌≡◌, ◌∙◌, ◌+◌, ℕ, suc, Bool, true, false, List, [], ◌∷◌, Option, None, Some, Result, Ok, Err, ap, refl, sym, arith}
use Rattle.std.specs.Prelude.{is_ok, if◌then◌else◌, slice_get}
use Rattle.std.specs.Option.{option_map, option_map_or, option_or, option_and_then}
use Rattle.toml.specs.Data.{Data, Members, as_table}
use Rattle.ddt_path.specs.declared.record.Role.{Role}
use Rattle.ddt_path.specs.declared.record.Role.TheVariants.{Node, Ms}
use Rattle.ddt_config.specs.declared.fault.Key.{Key}
use Rattle.ddt_config.specs.declared.fault.Key.TheVariants as key
use Rattle.ddt_config.specs.declared.fault.ConfigFault.{ConfigFault}
use Rattle.ddt_config.specs.declared.place.Place.{Place}
use Rattle.ddt_config.specs.declared.place.Place.TheVariants.{Top, Authority, Child, Site}
use Rattle.ddt_config.specs.Table.{tables_at, path_in}
use Rattle.ddt_config.specs.Place.{those_of, unread, first_unread, unread_child, unread_site, unread_below, unread_authority, faulty_in_authority, faulty_below_top, faulty_in, top_role}
use Rattle.ddt_config.specs.laws.Statements.{numbered, table_of, table_at}

-- what can't be read is a table
is_table : (is_read : Members → Bool) (t : Option Members) (m : Members)
    → option_and_then (λ ms. if is_read ms then None else Some ms) t ≡ Some m → t ≡ Some m
is_table is_read None m e = absurd cc
is_table is_read (Some ms) m e = held (is_read ms) e
  where
    held : (b : Bool) → (if b then None else Some ms) ≡ Some m → Some ms ≡ Some m
    held true e = absurd cc
    held false e = e

-- the table is the one of a number in a list that is counted from i
abbrev IsAtNumber : ℕ → List Data → ℕ → Members → Type 0
IsAtNumber i ds n m = (j : ℕ) × (n ≡ i + j) × (option_and_then as_table (slice_get ds j) ≡ Some m)

first_at_number : (is_read : Members → Bool) (i : ℕ) (ds : List Data) (n : ℕ) (m : Members)
    → first_unread is_read i ds ≡ Some (n, m) → IsAtNumber i ds n m
first_at_number is_read i [] n m e = absurd cc
first_at_number is_read i (d ∷ ds) n m e = of_unread (first_at_number is_read (i + 1) ds n m) (unread is_read d) refl e
  where
    first : n ≡ i → n ≡ i + 0
    first at = omega arith

    of_unread : (first_unread is_read (i + 1) ds ≡ Some (n, m) → IsAtNumber (i + 1) ds n m)
        → (found : Option Members) → unread is_read d ≡ found
        → option_or (option_map (λ ms. (i, ms)) found) (first_unread is_read (i + 1) ds) ≡ Some (n, m) → IsAtNumber i (d ∷ ds) n m
    of_unread below (Some ms) is e =
        let pair : (n, m) ≡ (i, ms) = cc in
        let table : as_table d ≡ Some ms = is_table is_read (as_table d) ms is in
        (0, first (ap (λ (p : ℕ × Members). p.0) pair), table ∙ ap (λ (p : ℕ × Members). Some p.1) (sym pair))
    of_unread below None is e =
        let later = below e in
        (suc later.0, (let at = later.1 in omega arith), later.2)

-- counted from 1 it is the one of its number
pub first_numbered : (is_read : Members → Bool) (ds : List Data) (n : ℕ) (m : Members)
    → first_unread is_read 1 ds ≡ Some (n, m) → numbered n ds ≡ Some m
first_numbered is_read ds n m e =
    let at = first_at_number is_read 1 ds n m e in
    let number : n ≡ suc at.0 = (let from = at.1 in omega arith) in
    rw number at.2

-- a table is the one at its place in a top table
abbrev IsPlaced : Members → Place × Members → Type 0
IsPlaced top table = table_at top table.0 ≡ Some table.1

-- the table with the fault in an authority, in a top table that has the authority
in_authority_place : (top : Members) (role : Role) (i : ℕ) (ms : Members) → table_of key.Authority i top ≡ Some ms
    → IsPlaced top (faulty_in_authority role i ms)
in_authority_place top role i ms e = of_prefix (is_ok (path_in ms))
  where
    faulty : Bool → Place × Members
    faulty b = if b then option_map_or (λ found. found) (unread_below role i ms) (Authority i, ms) else (Authority i, ms)

    -- of the tables of a key below it
    of_key : (k : Key) (place : ℕ → Place) → ((j : ℕ) → table_at top (place j) ≡ option_and_then (table_of k j) (table_of key.Authority i top))
        → (is_read : Members → Bool) (found : Option (ℕ × Members)) → first_unread is_read 1 (those_of (tables_at k ms)) ≡ found
        → IsPlaced top (option_map_or (λ f. f) (option_map (λ f. (place f.0, f.1)) found) (Authority i, ms))
    of_key k place at is_read None is = e
    of_key k place at is_read (Some (j, m)) is = rw (at j, e) (first_numbered is_read (those_of (tables_at k ms)) j m is)

    of_below : (r : Role)
        → IsPlaced top (option_map_or (λ found. found) (unread_below r i ms) (Authority i, ms))
    of_below Node = of_key key.Child (Child i) (λ j. refl) _ (unread_child ms) refl
    of_below Ms = of_key key.Site (Site i) (λ j. refl) _ (unread_site ms) refl

    of_prefix : (b : Bool) → IsPlaced top (faulty b)
    of_prefix true = of_below role
    of_prefix false = e

pub at_its_place : (ms : Members) → table_at ms (faulty_in ms).0 ≡ Some (faulty_in ms).1
at_its_place ms = of_role (top_role ms)
  where
    of_authority : (role : Role) (found : Option (ℕ × Members)) → unread_authority role ms ≡ found
        → IsPlaced ms (option_map_or (λ f. faulty_in_authority role f.0 f.1) found (Top, ms))
    of_authority role None is = refl
    of_authority role (Some (i, m)) is = in_authority_place ms role i m (first_numbered _ (those_of (tables_at key.Authority ms)) i m is)

    of_role : (r : Result Role ConfigFault) → IsPlaced ms (faulty_below_top r ms)
    of_role (Err fault) = refl
    of_role (Ok role) = of_authority role (unread_authority role ms) refl
