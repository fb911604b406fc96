-- A hash table of prefixes and the map that it stands for.
use Rattle.std.specs.Prelude.{ℕ, ◌≡◌, ◌==◌, Bool, IsTrue, if◌then◌else◌, List, Option, Some, length}
use Rattle.std.specs.List.{list_any}
use Rattle.std.specs.List.Sorted.{IsNonDecreasing}
use Rattle.std.specs.FinMap as map
use Rattle.std.specs.HashMap as hash
use Rattle.ddt_trie.specs.PrefixMap.{path_cmp}
use Rattle.ddt_path.specs.declared.form.Form.{Form}
use Rattle.ddt_path.specs.Path.{path, IsForm}
use Rattle.ddt_trie.specs.declared.hash_key.HashKey.{HashKey}
use Rattle.ddt_trie.specs.declared.hash_key.HashKey.TheVariants as slot
use Rattle.ddt_trie.specs.declared.hash_table.PrefixTable.{PrefixTable}
use Rattle.ddt_trie.specs.HashKey.{is_same_block, is_same_key, is_same_hash_key, hash_key_of}

-- whether a number is one of the lengths
abbrev pub is_length : List ℕ → ℕ → Bool
is_length lengths n = list_any (◌==◌ n) lengths

-- the value at a key
abbrev pub value_at : {V : Type 0} → PrefixTable V → HashKey → Option V
value_at t (slot.Block k) = hash.get is_same_block t.blocks k
value_at t (slot.Other k) = hash.get is_same_key t.others k

-- the second table is the first with the value at a key set
pub record IsSetAt {V : Type 0} (t u : PrefixTable V) (s : HashKey) (v : V) : Type 0 where
  pub values : (r : HashKey) → value_at u r ≡ (if is_same_hash_key s r then Some v else value_at t r)
  pub lengths : u.lengths.items ≡ t.lengths.items

-- the table has for each form what the map has at its path, and each key has one of the lengths, which rise
pub record IsTableOf {V : Type 0} (t : PrefixTable V) (m : map.FinMap path_cmp V) : Type 0 where
  pub same : (f : Form) → IsForm f → value_at t (hash_key_of f) ≡ map.get m (path f)
  pub known : (p : List ℕ) → IsTrue (map.contains_key m p) → IsTrue (is_length t.lengths.items (length p))
  pub rising : IsNonDecreasing t.lengths.items
