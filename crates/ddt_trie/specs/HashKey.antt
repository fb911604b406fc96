-- A prefix as the key of a hash table.
use Rattle.std.specs.Prelude.{Bool, false, List, ℕ, ◌+◌, ◌*◌, ◌^◌, ◌++◌, ◌==◌, ◌&&◌}
use Rattle.std.specs.Hash.{HashWrites, u8, u32, u64, u128}
use Rattle.ddt_path.specs.declared.locator.Locator.TheVariants.{V4, V6}
use Rattle.ddt_path.specs.declared.form.Form.{Form}
use Rattle.ddt_path.specs.declared.form.Form.TheVariants.{Range, Block}
use Rattle.ddt_path.specs.Path.{path}
use Rattle.ddt_path.specs.FormOf.{form_of}
use Rattle.ddt_path.specs.Covers.{is_same_path}
use Rattle.ddt_trie.specs.declared.hash_key.BlockKey.{BlockKey}
use Rattle.ddt_trie.specs.declared.hash_key.PrefixKey.{PrefixKey}
use Rattle.ddt_trie.specs.declared.hash_key.HashKey.{HashKey}
use Rattle.ddt_trie.specs.declared.hash_key.HashKey.TheVariants as slot

-- two keys of prefixes are equal: their paths are the same
abbrev pub is_same_key : PrefixKey → PrefixKey → Bool
is_same_key a b = is_same_path a.prefix b.prefix

-- what is hashed of a key: the numbers of its prefix as it is written down; an instance and an IPv4 address as one
abbrev pub form_writes : Form → HashWrites
form_writes (Range iid len) = u32 iid ++ u8 len
form_writes (Block iid (V4 address) len) = u64 (iid * 2 ^ 32 + address) ++ u8 len
form_writes (Block iid (V6 address) len) = u32 iid ++ (u128 address ++ u8 len)

-- what is hashed of a prefix as a key, so that two keys of the same prefix have the same hash
abbrev pub key_writes : PrefixKey → HashWrites
key_writes k = form_writes (form_of k.prefix)

-- the key of a path
abbrev pub key_of : List ℕ → PrefixKey
key_of p = record { prefix = p }

-- two keys of blocks are equal
abbrev pub is_same_block : BlockKey → BlockKey → Bool
is_same_block a b = a.number == b.number && a.len == b.len

-- the key of a form
abbrev pub hash_key_of : Form → HashKey
hash_key_of (Range iid len) = slot.Other (key_of (path (Range iid len)))
hash_key_of (Block iid (V4 address) len_) = slot.Block (record { number = iid * 2 ^ 32 + address; len = len_ })
hash_key_of (Block iid (V6 address) len) = slot.Other (key_of (path (Block iid (V6 address) len)))

-- two keys are equal
abbrev pub is_same_hash_key : HashKey → HashKey → Bool
is_same_hash_key (slot.Block a) (slot.Block b) = is_same_block a b
is_same_hash_key (slot.Other a) (slot.Other b) = is_same_key a b
is_same_hash_key (slot.Block a) (slot.Other b) = false
is_same_hash_key (slot.Other a) (slot.Block b) = false
