-- What a caller of a map from prefixes derives from its clauses: one key after a change, the longest of the keys, and
-- what is free among them.
use Rattle.std.proofs.Common.{◌≡◌, ℕ, ◌≤◌, Bool, cond, true, false, List, length, take, Some, None, Option, refl, sym, ap, subst, ◌∙◌, arith, inl, inr, ◌⊎◌}
use Rattle.std.specs.Prelude.{is_some, not, nat_lt, IsTrue, IfSome, ◌≢◌}
use Rattle.std.specs.Cmp.Lexicographic.{nat_list_cmp_total}
use Rattle.std.specs.FinMap.{FinMap, empty, get, len, len-empty, insert, remove, keys, contains_key, contains_key-keys, get-empty, get-insert, get-remove, same_map, gets}
use Rattle.std.proofs.lemmas.Bool.{cond-true, cond-false, false_from_ne_true, false≢true, not_from_false}
use Rattle.std.proofs.lemmas.Option.{none-some, same_Some}
use Rattle.ddt_path.specs.Covers.{covers, overlaps}
use Rattle.ddt_path.specs.Free.{overlaps_none, free}
use Rattle.ddt_trie.specs.PrefixMap.{path_cmp, IsCovered, IsLongest, IsKept, IsRetained}
use Rattle.ddt_trie.specs.laws.Entry.{tied, tied-true, tied_self, same_keys}
use Rattle.ddt_path.specs.laws.Cover.{take-covered, length-covered}
use Rattle.ddt_path.specs.laws.Hole.{free_whole}
use Rattle.ddt_trie.specs.laws.Key.{all_from_members}

apart : (p q : List ℕ) → p ≢ q → tied q p ≡ false
apart p q ne = false_from_ne_true (tied q p) (λ t. ne (sym (tied-true q p t)))

module _ {V : Type 0} (m : FinMap path_cmp V) (p : List ℕ) where
  pub get-insert_same : (v : V) → get (insert m p v) p ≡ Some v
  get-insert_same v = get-insert nat_list_cmp_total m p v p ∙ cond-true (tied p p) (Some v) (get m p) (tied_self p)

  pub get-insert_other : (v : V) (q : List ℕ) → p ≢ q → get (insert m p v) q ≡ get m q
  get-insert_other v q ne = get-insert nat_list_cmp_total m p v q ∙ cond-false (tied q p) (Some v) (get m q) (apart p q ne)

  pub get-remove_same : get (remove m p) p ≡ None
  get-remove_same = get-remove nat_list_cmp_total m p p ∙ cond-true (tied p p) None (get m p) (tied_self p)

  -- what is found after an insert is what was inserted, or was there
  pub found_after_insert : (v : V) (q : List ℕ) (w : V) → get (insert m p v) q ≡ Some w → ((q ≡ p) × (v ≡ w)) ⊎ (get m q ≡ Some w)
  found_after_insert v q w found =
      elim (tied q p) as (λ b. tied q p ≡ b → ((q ≡ p) × (v ≡ w)) ⊎ (get m q ≡ Some w)) [
        | true ↦ λ t. inl (tied-true q p t, same_Some v w (sym (cond-true (tied q p) (Some v) (get m q) t) ∙ sym (get-insert nat_list_cmp_total m p v q) ∙ found))
        | false ↦ λ t. inr (sym (cond-false (tied q p) (Some v) (get m q) t) ∙ sym (get-insert nat_list_cmp_total m p v q) ∙ found)
      ] refl

-- a key is one of the keys
module _ {V : Type 0} (m : FinMap path_cmp V) (q : List ℕ) where
  -- q overlaps no key, by each key
  pub overlaps_none-keys : ((p : List ℕ) → IsTrue (contains_key m p) → overlaps p q ≡ false) → overlaps_none (keys m) q ≡ true
  overlaps_none-keys h = all_from_members (λ p. not (overlaps p q)) (keys m) (λ p is. not_from_false (overlaps p q) (h p (contains_key-keys m p ∙ is)))

-- ---- the longest of the keys

module _ {V : Type 0} (m : FinMap path_cmp V) (x : List ℕ) where
  is_key : (p : List ℕ) (v : V) → get m p ≡ Some v → IsTrue (contains_key m p)
  is_key p v found = ap (λ (o : Option V). is_some o) found

  -- there is only one
  pub IsLongest-unique : (p q : List ℕ) (v w : V) → IsLongest m x p v → IsLongest m x q w → (p ≡ q) × (v ≡ w)
  IsLongest-unique p q v w a b =
      let n : length p ≡ length q = omega (arith, a.longest q (is_key q w b.value) b.covers_it, b.longest p (is_key p v a.value) a.covers_it) in
      let same : p ≡ q = sym (take-covered p x a.covers_it) ∙ ap (λ (k : ℕ). take k x) n ∙ take-covered q x b.covers_it in
      (same, same_Some v w (sym a.value ∙ ap (get m) same ∙ b.value))

  -- an empty map has none
  pub none_longest : {A : Type 0} (r : Option A) (P : A → List ℕ) (Q : A → V) → m ≡ empty → IfSome r (λ a. IsLongest m x (P a) (Q a)) → is_some r ≡ false
  none_longest None P Q is found = refl
  none_longest (Some a) P Q is found = absurd (none-some (Q a) (sym (get-empty path_cmp (P a)) ∙ ap (λ (n : FinMap path_cmp V). get n (P a)) (sym is) ∙ found.value))

-- in an empty map each prefix is free
pub free_of_empty : {V : Type 0} (m : FinMap path_cmp V) (authority x : List ℕ) → m ≡ empty → covers authority x ≡ true → free authority (keys m) x ≡ Some authority
free_of_empty m authority x is inside = free_whole authority (keys m) x inside (overlaps_none-keys m authority (λ p key.
    absurd (false≢true (ap (λ (o : Option _). is_some o) (sym (get-empty path_cmp p)) ∙ ap (λ (n : FinMap path_cmp _). is_some (get n p)) (sym is) ∙ key))))

-- of two keys that cover x, the inner one is the longest
pub innermost : {V : Type 0} (outer inner x : List ℕ) (v w : V) → covers outer inner ≡ true → covers inner x ≡ true → IsLongest (insert (insert (empty {R = path_cmp}) outer v) inner w) x inner w
innermost outer inner x v w nested inside =
    let one = insert (empty {R = path_cmp}) outer v in
    record {
      value = get-insert_same one inner w;
      covers_it = inside;
      longest = λ q key c. shorter_key q (get (insert one inner w) q) refl key;
    }
  where
    shorter_key : (q : List ℕ) (o : Option _) → get (insert (insert (empty {R = path_cmp}) outer v) inner w) q ≡ o → is_some o ≡ true → length q ≤ length inner
    shorter_key q None is key = absurd (false≢true key)
    shorter_key q (Some u) is key =
        elim (found_after_insert (insert (empty {R = path_cmp}) outer v) inner w q u is) [
          | inl a ↦ let n : length q ≡ length inner = ap (λ (l : List ℕ). length l) a.0 in omega arith
          | inr a ↦ elim (found_after_insert (empty {R = path_cmp}) outer v q u a) [
            | inl b ↦ let n : length q ≡ length outer = ap (λ (l : List ℕ). length l) b.0 in omega (arith, length-covered outer inner nested)
            | inr b ↦ absurd (none-some u (sym (get-empty path_cmp q) ∙ b))
          ]
        ]

-- ---- what a filter by a test leaves, as a map

abbrev pub passes : {V : Type 0} → (V → Bool) → Option V → Bool
passes test None = false
passes test (Some v) = test v

kept_where : {V : Type 0} (answers : V → Bool → Type 0) (test : V → Bool) → ((v : V) (b : Bool) → answers v b → b ≡ test v) → (before after : Option V) → IsKept answers before after → after ≡ cond (passes test before) before None
kept_where answers test says None after kept = kept
kept_where answers test says (Some v) after kept =
    elim kept [
      | inl k ↦ k.1 ∙ sym (cond-true (test v) (Some v) None (sym (says v true k.0)))
      | inr k ↦ k.1 ∙ sym (cond-false (test v) (Some v) None (sym (says v false k.0)))
    ]

-- a filter that each value fails leaves nothing
pub all_dropped : {V : Type 0} (answers : V → Bool → Type 0) (test : V → Bool) → ((v : V) (b : Bool) → answers v b → b ≡ test v) → (before after : FinMap path_cmp V) → ((p : List ℕ) (v : V) → get before p ≡ Some v → test v ≡ false)
    → IsRetained answers before after → after ≡ empty
all_dropped answers test says before after fails retained = same_map nat_list_cmp_total same_keys _ _ (λ q.
    kept_where answers test says (get before q) (get after q) (retained.at q) ∙ dropped (get before q) (fails q) ∙ sym (get-empty path_cmp q))
  where
    dropped : (o : Option _) → ((v : _) → o ≡ Some v → test v ≡ false) → cond (passes test o) o None ≡ None
    dropped None h = refl
    dropped (Some v) h = cond-false (test v) (Some v) None (h v refl)

-- ---- the answers of small callers

pub innermost_found : (m : FinMap path_cmp ℕ) (outer inner x p : List ℕ) (v : ℕ) → m ≡ insert (insert (empty {R = path_cmp}) outer 1) inner 2 → covers outer inner ≡ true → covers inner x ≡ true → IsLongest m x p v → ◌≡◌ {A = Option (List ℕ × ℕ)} (Some (p, v)) (Some (inner, 2))
innermost_found m outer inner x p v is nested inside found =
    let u = IsLongest-unique (insert (insert (empty {R = path_cmp}) outer 1) inner 2) x p inner v 2 (subst (λ (n : FinMap path_cmp ℕ). IsLongest n x p v) is found) (innermost outer inner x 1 2 nested inside) in
    let some : List ℕ → ℕ → Option (List ℕ × ℕ) = λ q w. Some (q, w) in
    ap (λ (q : List ℕ). some q v) u.0 ∙ ap (some inner) u.1

pub inserted_key : {V : Type 0} (m n : FinMap path_cmp V) (p : List ℕ) (v : V) → m ≡ insert n p v → IsTrue (contains_key m p)
inserted_key m n p v is = ap (λ (k : FinMap path_cmp _). is_some (get k p)) is ∙ ap (λ (o : Option _). is_some o) (get-insert_same n p v)

pub inserted_covers : {V : Type 0} (m n : FinMap path_cmp V) (p x : List ℕ) (v : V) → m ≡ insert n p v → covers p x ≡ true → IsCovered m x
inserted_covers m n p x v is c = (p, inserted_key m n p v is, c)

pub emptied : (answers : ℕ → Bool → Type 0) (m n : FinMap path_cmp ℕ) (p : List ℕ) → m ≡ insert (empty {R = path_cmp}) p 2 → IsRetained answers m n → ((v : ℕ) (b : Bool) → answers v b → b ≡ nat_lt v 2) → len n ≡ 0
emptied answers m n p is retained says =
    ap len (all_dropped answers (λ v. nat_lt v 2) says m n (λ q v found.
    elim (found_after_insert (empty {R = path_cmp}) p 2 q v (ap (λ (k : FinMap path_cmp ℕ). get k q) (sym is) ∙ found)) [
      | inl a ↦ ap (λ (k : ℕ). nat_lt k 2) (sym a.1)
      | inr a ↦ absurd (none-some v (sym (get-empty path_cmp q) ∙ a))
    ]) retained) ∙ len-empty path_cmp ℕ

pub ruleset map_rules = (gets, get-insert_same, get-remove_same)
