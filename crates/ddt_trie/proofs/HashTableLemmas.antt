-- The lengths of a table's prefixes, its values after one more, and the longest of its prefixes.
use Rattle.std.proofs.Common.{◌≡◌, ℕ, ◌+◌, ◌*◌, ◌^◌, ◌≤◌, ◌<◌, ◌-◌, Bool, cond, true, false, List, [], ◌∷◌, ◌++◌, length, take, ap, refl, sym, subst, ◌∙◌, arith, inl, inr, ◌⊎◌, Option, Some, None}
use Rattle.std.specs.Prelude.{◌==◌, ◌&&◌, ◌||◌, is_some, IfSome, IsTrue, Contains, slice_index_or}
use Rattle.std.specs.List.{list_any}
use Rattle.std.specs.List.Sorted.{IsPermutation}
use Rattle.std.specs.FinMap.{FinMap, get, insert, contains_key}
use Rattle.std.specs.HashMap as hash
use Rattle.std.specs.Cmp.{both_ways, nat_eq_equiv}
use Rattle.std.proofs.lemmas.Map.Views.{list_any-from_Contains, Contains-from_any}
use Rattle.std.proofs.lemmas.List.Sorted.{Contains-permutation}
use Rattle.std.proofs.lemmas.List.Elements.{Contains-append_left, Contains-push}
use Rattle.std.proofs.lemmas.List.{length-take-le, get_or_default}
use Rattle.std.proofs.Math.Nat.{eq-or-lt_of_le}
use Rattle.std.proofs.lemmas.Bool.{and_from, and_parts, eq-eqb, eqb-true, false≢true, false_from_ne_true}
use Rattle.ddt_path.specs.Covers.{covers, is_same_path}
use Rattle.ddt_path.specs.laws.Cover.{same_path, path_itself, front_covered, take-covered, length-covered}
use Rattle.ddt_trie.specs.PrefixMap.{path_cmp, IsLongest}
use Rattle.ddt_trie.specs.laws.Map.{get-insert_same, get-insert_other}
use Rattle.ddt_path.specs.declared.locator.Locator.TheVariants.{V4, V6}
use Rattle.ddt_path.specs.declared.form.Form.{Form}
use Rattle.ddt_path.specs.declared.form.Form.TheVariants.{Range, Block}
use Rattle.ddt_path.specs.FormOf.{form_of}
use Rattle.ddt_path.specs.FormLemmas.{form_of-path}
use Rattle.ddt_path.specs.Path.{path, IsForm}
use Rattle.ddt_trie.specs.declared.hash_table.PrefixTable.{PrefixTable}
use Rattle.ddt_trie.specs.declared.hash_key.BlockKey.{BlockKey}
use Rattle.ddt_trie.specs.declared.hash_key.PrefixKey.{PrefixKey}
use Rattle.ddt_trie.specs.declared.hash_key.HashKey.{HashKey}
use Rattle.ddt_trie.specs.declared.hash_key.HashKey.TheVariants as slot
use Rattle.ddt_trie.specs.HashKey.{is_same_block, is_same_key, is_same_hash_key, key_of, hash_key_of}
use Rattle.ddt_trie.specs.HashTable.{is_length, value_at, IsSetAt, IsTableOf}

-- as `contains` of a slice asks
pub asked : (ns : List ℕ) (n : ℕ) → list_any (λ k. k == n) ns ≡ is_length ns n
asked [] n = refl
asked (k ∷ ns) n = λ i. nat_eq_equiv.symm k n i || asked ns n i

among : (ns : List ℕ) (n : ℕ) → is_length ns n ≡ true → Contains ns n
among ns n e = Contains-from_any eqb-true n ns e

pub length_kept : (old new : List ℕ) (len n : ℕ) → IsPermutation (old ++ len ∷ []) new → is_length old n ≡ true → is_length new n ≡ true
length_kept old new len n p e = list_any-from_Contains nat_eq_equiv n new
    (Contains-permutation (old ++ len ∷ []) new n p (Contains-append_left old (len ∷ []) n (among old n e)))

pub length_added : (old new : List ℕ) (len : ℕ) → IsPermutation (old ++ len ∷ []) new → is_length new len ≡ true
length_added old new len p = list_any-from_Contains nat_eq_equiv len new
    (Contains-permutation (old ++ len ∷ []) new len p (Contains-push old len))

pub some_weaker : {A : Type 0} (P Q : A → Type 0) → ((a : A) → P a → Q a) → (r : Option A) → IfSome r P → IfSome r Q
some_weaker P Q weaker None h = tt
some_weaker P Q weaker (Some a) h = weaker a h

-- ---- the keys of forms

same_form : (f g : Form) → IsForm f → IsForm g → path f ≡ path g → f ≡ g
same_form f g a b e = sym (form_of-path f a) ∙ ap form_of e ∙ form_of-path g b

apart : (f g : Form) → IsForm f → IsForm g → (f ≡ g → ⊥) → is_same_path (path f) (path g) ≡ false
apart f g a b other =
    false_from_ne_true (is_same_path (path f) (path g)) (λ e. other (same_form f g a b (same_path (path f) (path g) e)))

same_words : (i a j b : ℕ) → a < 2 ^ 32 → b < 2 ^ 32 → i * 2 ^ 32 + a ≡ j * 2 ^ 32 + b → (i ≡ j) × (a ≡ b)
same_words i a j b low high e = (omega arith, omega arith)

same_block : (i a m j b n : ℕ) → IsForm (Block i (V4 a) m) → IsForm (Block j (V4 b) n)
    → is_same_path (path (Block i (V4 a) m)) (path (Block j (V4 b) n))
    ≡ is_same_block (record { number = i * 2 ^ 32 + a; len = m }) (record { number = j * 2 ^ 32 + b; len = n })
same_block i a m j b n f g =
    let p = path (Block i (V4 a) m) in
    let q = path (Block j (V4 b) n) in
    both_ways (is_same_path p q) ((i * 2 ^ 32 + a == j * 2 ^ 32 + b) && (m == n))
    (λ e. let same : Block i (V4 a) m ≡ Block j (V4 b) n = same_form (Block i (V4 a) m) (Block j (V4 b) n) f g (same_path p q e) in
    let instances : i ≡ j = cc in let addresses : a ≡ b = cc in let lengths : m ≡ n = cc in
    and_from (i * 2 ^ 32 + a == j * 2 ^ 32 + b) (m == n) (eq-eqb _ _ (λ k. instances k * 2 ^ 32 + addresses k)) (eq-eqb m n lengths))
    (λ e. let parts = and_parts (i * 2 ^ 32 + a == j * 2 ^ 32 + b) (m == n) e in
    let words = same_words i a j b f.1 g.1 (eqb-true _ _ parts.0) in
    path_itself p q (λ k. path (Block (words.0 k) (V4 (words.1 k)) (eqb-true m n parts.1 k))))

-- two forms have one path if and only if they have one key
pub same_hash_keys : (f g : Form) → IsForm f → IsForm g
    → is_same_path (path f) (path g) ≡ is_same_hash_key (hash_key_of f) (hash_key_of g)
same_hash_keys (Range i m) (Range j n) a b = refl
same_hash_keys (Range i m) (Block j (V4 y) n) a b = apart (Range i m) (Block j (V4 y) n) a b (λ e. cc)
same_hash_keys (Range i m) (Block j (V6 y) n) a b = refl
same_hash_keys (Block i (V4 x) m) (Range j n) a b = apart (Block i (V4 x) m) (Range j n) a b (λ e. cc)
same_hash_keys (Block i (V4 x) m) (Block j (V4 y) n) a b = same_block i x m j y n a b
same_hash_keys (Block i (V4 x) m) (Block j (V6 y) n) a b = apart (Block i (V4 x) m) (Block j (V6 y) n) a b (λ e. cc)
same_hash_keys (Block i (V6 x) m) (Range j n) a b = refl
same_hash_keys (Block i (V6 x) m) (Block j (V4 y) n) a b = apart (Block i (V6 x) m) (Block j (V4 y) n) a b (λ e. cc)
same_hash_keys (Block i (V6 x) m) (Block j (V6 y) n) a b = refl

pub other_hash_key : (form : Form) (p : List ℕ) (i n a : ℕ) → form ≡ Block i (V6 a) n → path form ≡ p
    → slot.Other (key_of p) ≡ hash_key_of form
other_hash_key form p i n a e is = rw e (ap (λ (q : List ℕ). slot.Other (key_of q)) (sym (rw e at is)))

pub nothing_at : {V : Type 0} (t : PrefixTable V) → ((k : BlockKey) → hash.get is_same_block t.blocks k ≡ None)
    → ((k : PrefixKey) → hash.get is_same_key t.others k ≡ None) → (f : Form) → value_at t (hash_key_of f) ≡ None
nothing_at t blocks others (Range i n) = others _
nothing_at t blocks others (Block i (V4 a) n) = blocks _
nothing_at t blocks others (Block i (V6 a) n) = others _

-- ---- one more value

module _ {V : Type 0} (m : FinMap path_cmp V) (p : List ℕ) (v : V) where
  value_by : (b : Bool) (q : List ℕ) → is_same_path p q ≡ b → cond b (Some v) (get m q) ≡ get (insert m p v) q
  value_by true q e = sym (get-insert_same m p v) ∙ ap (λ (k : List ℕ). get (insert m p v) k) (same_path p q e)
  value_by false q e = sym (get-insert_other m p v q (λ same. absurd (false≢true (sym e ∙ path_itself p q same))))

  -- the value at a form, where the keys of the two forms are one or not
  pub put : (before after : Option V) (q : List ℕ) (same : Bool) → before ≡ get m q → is_same_path p q ≡ same
      → after ≡ cond same (Some v) before → after ≡ get (insert m p v) q
  put before after q same old is new = new ∙ ap (cond same (Some v)) old ∙ value_by same q is

  pub put_at : (t u : PrefixTable V) (r : HashKey) (f : Form) → IsForm f → path f ≡ p → r ≡ hash_key_of f → IsSetAt t u r v
      → ((g : Form) → IsForm g → value_at t (hash_key_of g) ≡ get m (path g))
      → (g : Form) → IsForm g → value_at u (hash_key_of g) ≡ get (insert m p v) (path g)
  put_at t u r f fits is e set same g at =
      put (value_at t (hash_key_of g)) (value_at u (hash_key_of g)) (path g)
      (is_same_hash_key (hash_key_of f) (hash_key_of g)) (same g at)
      (ap (λ (q : List ℕ). is_same_path q (path g)) (sym is) ∙ same_hash_keys f g fits at)
      (set.values (hash_key_of g)
      ∙ ap (λ (s : HashKey). cond (is_same_hash_key s (hash_key_of g)) (Some v) (value_at t (hash_key_of g))) e)

  key_by : (b : Bool) (q : List ℕ) → is_same_path p q ≡ b → IsTrue (contains_key (insert m p v) q) → (p ≡ q) ⊎ IsTrue (contains_key m q)
  key_by true q e key = inl (same_path p q e)
  key_by false q e key = inr (ap (λ (o : Option V). is_some o) (value_by false q e) ∙ key)

  pub known : (old new : List ℕ) → ((q : List ℕ) → IsTrue (contains_key m q) → IsTrue (is_length old (length q)))
      → ((n : ℕ) → IsTrue (is_length old n) → IsTrue (is_length new n)) → IsTrue (is_length new (length p))
      → (q : List ℕ) → IsTrue (contains_key (insert m p v) q) → IsTrue (is_length new (length q))
  known old new before kept added q key = elim (key_by (is_same_path p q) q refl key) [
    | inl same ↦ subst (λ (k : List ℕ). IsTrue (is_length new (length k))) same added
    | inr was ↦ kept (length q) (before q was)
  ]

-- ---- the longest

up_to : (k n : ℕ) → k < n → k ≤ n - 1
up_to k n less = omega (arith, less)

last_place : (n m : ℕ) → 0 < n → n ≤ m → n - 1 < m
last_place n m some within = omega (arith, some, within)

-- each key of the map that covers x has one of the first n lengths
abbrev pub HasLengthBelow : {V : Type 0} → List ℕ → FinMap path_cmp V → List ℕ → ℕ → Type 0
HasLengthBelow lengths m x n = (p : List ℕ) → IsTrue (contains_key m p) → IsTrue (covers p x)
    → (k : ℕ) × (k < n) × (slice_index_or lengths k (length p) ≡ length p)

module _ {V : Type 0} (t : PrefixTable V) (m : FinMap path_cmp V) (is : IsTableOf t m) (x : List ℕ) where
  pub all_below : HasLengthBelow t.lengths.items m x (length t.lengths.items)
  all_below p key c = among t.lengths.items (length p) (is.known p key)

  -- no key of this length covers x
  no_key : (len : ℕ) → (len ≤ length x → get m (take len x) ≡ None)
      → (p : List ℕ) → IsTrue (contains_key m p) → IsTrue (covers p x) → len ≡ length p → ⊥
  no_key len none p key c e =
      let fits : len ≤ length x = omega (arith, e, length-covered p x c) in
      let front : take len x ≡ p = ap (λ (n : ℕ). take n x) e ∙ take-covered p x c in
      let nothing : get m p ≡ None = ap (get m) (sym front) ∙ none fits in
      false≢true (sym (ap (λ (o : Option V). is_some o) nothing) ∙ key)

  -- where no key of the length at a place covers x, the lengths in front of it are left
  pub fewer : (n len : ℕ) → 0 < n → n ≤ length t.lengths.items → len ≡ slice_index_or t.lengths.items (n - 1) len
      → (len ≤ length x → get m (take len x) ≡ None)
      → HasLengthBelow t.lengths.items m x n → HasLengthBelow t.lengths.items m x (n - 1)
  fewer n len some within here none below p key c =
      let k = below p key c in
      (k.0, in_front k.0 k.1 k.2, k.2)
    where
      in_front : (k : ℕ) → k < n → slice_index_or t.lengths.items k (length p) ≡ length p → k < n - 1
      in_front k less e = elim (eq-or-lt_of_le (up_to k n less)) [
        | inr lower ↦ lower
        | inl same ↦ absurd (no_key len none p key c
            (here ∙ get_or_default t.lengths.items (n - 1) len (length p) (last_place n (length t.lengths.items) some within)
            ∙ ap (λ (j : ℕ). slice_index_or t.lengths.items j (length p)) (sym same) ∙ e))
      ]

  -- the key that is found at a place is the longest
  pub found_longest : (n len : ℕ) (p : List ℕ) (v : V) → 0 < n → n ≤ length t.lengths.items
      → len ≡ slice_index_or t.lengths.items (n - 1) len → len ≤ length x → p ≡ take len x
      → get m p ≡ Some v → HasLengthBelow t.lengths.items m x n → IsLongest m x p v
  found_longest n len p v some within here fits front value below = record {
    value = value;
    covers_it = ap (λ (q : List ℕ). covers q x) front ∙ front_covered len x;
    longest = λ q key c.
        let k = below q key c in
        let in_range : n - 1 < length t.lengths.items = last_place n (length t.lengths.items) some within in
        let own : length p ≡ len = ap (λ (q : List ℕ). length q) front ∙ length-take-le len x fits in
        let at : slice_index_or t.lengths.items (n - 1) (length q) ≡ len =
        get_or_default t.lengths.items (n - 1) (length q) len in_range ∙ sym here in
        omega (arith, is.rising k.0 (n - 1) (length q) (up_to k.0 n k.1) in_range, k.2, at, own);
  }
