-- Keys are equal as their paths are, and equal keys are hashed alike.
use Rattle.std.proofs.Common.{◌≡◌, ℕ, true, List, ap}
use Rattle.std.specs.Cmp.{IsEquivalence}
use Rattle.std.specs.Cmp.Lexicographic.{bytes_decides, nat_list_eq_equiv}
use Rattle.ddt_path.specs.FormOf.{form_of}
use Rattle.ddt_trie.specs.HashKey.{is_same_key, key_writes, form_writes}
use Rattle.ddt_trie.specs.declared.hash_key.PrefixKey.{PrefixKey}

pub keys_equal : IsEquivalence is_same_key
keys_equal = record {
  refl = λ a. nat_list_eq_equiv.refl a.prefix;
  symm = λ a b. nat_list_eq_equiv.symm a.prefix b.prefix;
  congr = λ a b c. nat_list_eq_equiv.congr a.prefix b.prefix c.prefix;
}

pub keys_alike : (a b : PrefixKey) → is_same_key a b ≡ true → key_writes a ≡ key_writes b
keys_alike a b e = ap (λ (p : List ℕ). form_writes (form_of p)) ((bytes_decides a.prefix b.prefix).0 e)
