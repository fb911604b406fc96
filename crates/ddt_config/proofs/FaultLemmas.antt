-- A fault is one of the own keys of the table at its place.
use Rattle.std.proofs.Common.{◌≡◌, ◌⊎◌, ◌+◌, ℕ, Bool, true, false, List, [], ◌∷◌, Some, Result, Ok, Err, refl, inl, inr}
use Rattle.std.specs.Prelude.{is_ok, if◌then◌else◌}
use Rattle.std.specs.List.{list_all}
use Rattle.toml.specs.Data.{Data, Members, get_member, table}
use Rattle.ddt_path.specs.declared.record.Role.{Role}
use Rattle.ddt_path.specs.declared.record.Role.TheVariants.{Node, Ms}
use Rattle.ddt_path.specs.Steps.{◌>>=◌}
use Rattle.ddt_config.specs.declared.fault.Key.{Key}
use Rattle.ddt_config.specs.declared.fault.Key.TheVariants as key
use Rattle.ddt_config.specs.declared.fault.ConfigFault.{ConfigFault}
use Rattle.ddt_config.specs.declared.fault.ConfigFault.TheVariants.{Field}
use Rattle.ddt_config.specs.Table.{each, items_in, is_table_value, item_of, tables_at, array_or_none, all_of, key_text, path_in, role_in, name_in, locators_in, child_in, site_in, content_in, authority_in, outline_in}
use Rattle.ddt_config.specs.Place.{first_unread, faulty_in_authority, faulty_in, top_role}
use Rattle.ddt_config.specs.laws.Statements.{own_keys, FaultsAreAtTheirPlaces}
use Rattle.ddt_config.proofs.NumberLemmas.{at_its_place}

-- the first step of two is refused, or the second one
first_or_next : {A B : Type 0} (r : Result A ConfigFault) (f : A → Result B ConfigFault) (fault : ConfigFault) → (r >>= f) ≡ Err fault
    → (r ≡ Err fault) ⊎ ((a : A) × (r ≡ Ok a) × (f a ≡ Err fault))
first_or_next (Ok a) f fault e = inr (a, refl, e)
first_or_next (Err other) f fault e = inl cc

-- a last step that is never refused
last_ok : {A B : Type 0} (r : Result A ConfigFault) (f : A → B) (fault : ConfigFault) → (r >>= λ a. Ok (f a)) ≡ Err fault → r ≡ Err fault
last_ok (Ok a) f fault e = absurd cc
last_ok (Err other) f fault e = cc

-- the first table that can't be read, with the fault that it has
abbrev Found : {A : Type 0} → (Members → Result A ConfigFault) → ℕ → List Data → ConfigFault → Type 0
Found examine i ds fault = (n : ℕ) × (m : Members) × (first_unread (λ ms. is_ok (examine ms)) i ds ≡ Some (n, m)) × (examine m ≡ Err fault)

at_first : {A : Type 0} (examine : Members → Result A ConfigFault) (i : ℕ) (m : Members) (ds : List Data) (fault : ConfigFault)
    → examine m ≡ Err fault → Found examine i (table m ∷ ds) fault
at_first examine i m ds fault e = (i, m, rw e refl, e)

at_later : {A : Type 0} (examine : Members → Result A ConfigFault) (i : ℕ) (m : Members) (ds : List Data) (fault : ConfigFault) (a : A)
    → examine m ≡ Ok a → Found examine (i + 1) ds fault → Found examine i (table m ∷ ds) fault
at_later examine i m ds fault a e found = (found.0, found.1, rw e found.2, found.3)

each_found : {A : Type 0} (k : Key) (examine : Members → Result A ConfigFault) (i : ℕ) (ds : List Data) (fault : ConfigFault)
    → list_all is_table_value ds ≡ true → each (item_of k examine) ds ≡ Err fault → Found examine i ds fault
each_found k examine i [] fault all e = absurd cc
each_found k examine i (table m ∷ ds) fault all e =
    elim (first_or_next (examine m) _ fault e) [
      | inl first ↦ at_first examine i m ds fault first
      | inr next ↦ at_later examine i m ds fault next.0 next.1
          (each_found k examine (i + 1) ds fault all (last_ok (each (item_of k examine) ds) (λ later. next.0 ∷ later) fault next.2))
    ]
each_found k examine i (other ∷ ds) fault all e = absurd cc

-- the tables at a key are all tables
of_all : (k : Key) (is_kind : Data → Bool) (listed ds : List Data) → all_of k is_kind listed ≡ Ok ds → list_all is_kind ds ≡ true
of_all k is_kind listed ds e = held (list_all is_kind listed) refl e
  where
    held : (b : Bool) → list_all is_kind listed ≡ b → (if b then Ok listed else Err (Field k)) ≡ Ok ds → list_all is_kind ds ≡ true
    held true is e = let same : listed ≡ ds = cc in rw (← same) is
    held false is e = absurd cc

are_tables : (k : Key) (ms : Members) (ds : List Data) → tables_at k ms ≡ Ok ds → list_all is_table_value ds ≡ true
are_tables k ms ds e = of_array (array_or_none k (get_member (key_text k) ms)) e
  where
    of_array : (r : Result (List Data) ConfigFault) → (r >>= all_of k is_table_value) ≡ Ok ds → list_all is_table_value ds ≡ true
    of_array (Ok listed) e = of_all k is_table_value listed ds e
    of_array (Err fault) e = absurd cc

-- the items at a key can't be read: the key is at fault, or the first table that can't be read is
key_or_table : {A : Type 0} (k : Key) (examine : Members → Result A ConfigFault) (ms : Members) (fault : ConfigFault)
    → items_in k examine ms ≡ Err fault
    → (tables_at k ms ≡ Err fault) ⊎ ((ds : List Data) × (tables_at k ms ≡ Ok ds) × Found examine 1 ds fault)
key_or_table k examine ms fault e =
    elim (first_or_next (tables_at k ms) (each (item_of k examine)) fault e) [
      | inl first ↦ inl first
      | inr next ↦ inr (next.0, next.1, each_found k examine 1 next.0 fault (are_tables k ms next.0 next.1) next.2)
    ]

-- an authority that can't be read, in a configuration of this role
in_authority : (top : Members) (role : Role) (i : ℕ) (ms : Members) (fault : ConfigFault) → role_in top ≡ Ok role → authority_in role ms ≡ Err fault
    → own_keys top (faulty_in_authority role i ms).0 (faulty_in_authority role i ms).1 ≡ Err fault
in_authority top Node i ms fault is e =
    elim (first_or_next (path_in ms) _ fault e) [
      | inl first ↦ rw (first, first) refl
      | inr next ↦
          elim (key_or_table key.Child child_in ms fault (last_ok (items_in key.Child child_in ms) _ fault (last_ok (content_in Node ms) _ fault next.2))) [
            | inl first ↦ rw (next.1, first, next.1, is, first) refl
            | inr found ↦ rw (next.1, found.1, found.2.2, found.2.3) refl
          ]
    ]
in_authority top Ms i ms fault is e =
    elim (first_or_next (path_in ms) _ fault e) [
      | inl first ↦ rw (first, first) refl
      | inr next ↦
          elim (key_or_table key.Site site_in ms fault (last_ok (items_in key.Site site_in ms) _ fault (last_ok (content_in Ms ms) _ fault next.2))) [
            | inl first ↦ rw (next.1, first, next.1, is, first) refl
            | inr found ↦ rw (next.1, found.1, found.2.2, found.2.3) refl
          ]
    ]

-- the top table's own keys before its authorities, or its authorities
top_or_below : (ms : Members) (fault : ConfigFault) → outline_in ms ≡ Err fault
    → (top_role ms ≡ Err fault) ⊎ ((role : Role) × (top_role ms ≡ Ok role) × (role_in ms ≡ Ok role) × (items_in key.Authority (authority_in role) ms ≡ Err fault))
top_or_below ms fault e =
    elim (first_or_next (name_in ms) _ fault e) [
      | inl first ↦ inl (rw first refl)
      | inr name ↦
          elim (first_or_next (role_in ms) _ fault name.2) [
            | inl first ↦ inl (rw (name.1, first) refl)
            | inr role ↦
                elim (first_or_next (locators_in key.Locators ms) _ fault role.2) [
                  | inl first ↦ inl (rw (name.1, role.1, first) refl)
                  | inr locators ↦ inr (role.0, rw (name.1, role.1, locators.1) refl, role.1, last_ok (items_in key.Authority (authority_in role.0) ms) _ fault locators.2)
                ]
          ]
    ]

below_top : (ms : Members) (role : Role) (fault : ConfigFault) → top_role ms ≡ Ok role → role_in ms ≡ Ok role
    → items_in key.Authority (authority_in role) ms ≡ Err fault
    → own_keys ms (faulty_in ms).0 (faulty_in ms).1 ≡ Err fault
below_top ms role fault is role_is e =
    elim (key_or_table key.Authority (authority_in role) ms fault e) [
      | inl first ↦ rw (is, first, is, first) refl
      | inr found ↦ rw (is, found.1, found.2.2) (in_authority ms role found.2.0 found.2.1 fault role_is found.2.3)
    ]

own_fault : (ms : Members) (fault : ConfigFault) → outline_in ms ≡ Err fault → own_keys ms (faulty_in ms).0 (faulty_in ms).1 ≡ Err fault
own_fault ms fault e =
    elim (top_or_below ms fault e) [
      | inl first ↦ rw (first, first) refl
      | inr below ↦ below_top ms below.0 fault below.1 below.2 below.3
    ]

pub faults_are_at_their_places : FaultsAreAtTheirPlaces
faults_are_at_their_places ms fault e = record { place = at_its_place ms; own = own_fault ms fault e }
