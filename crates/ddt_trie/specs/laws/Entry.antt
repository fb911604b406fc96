-- Entries in a list, each key once, and the finite map of them.
use Rattle.std.proofs.Common.{◌≡◌, ℕ, zero, suc, ◌+◌, ◌<◌, ◌≤◌, Bool, true, false, cond, List, [], ◌∷◌, ◌++◌, length, get_or, set, Some, None, Option, refl, sym, ap, ◌∙◌, arith, inl, inr}
use Rattle.std.specs.Prelude.{not, ◌&&◌, nat_lt, is_some, slice_get}
use Rattle.std.specs.Ordering.{eq_by_cmp, is_eq}
use Rattle.std.specs.declared.cmp.Ordering.{Ordering}
use Rattle.std.specs.declared.cmp.Ordering.TheVariants.{Less, Equal, Greater}
use Rattle.std.specs.Cmp.{tied_itself}
use Rattle.std.specs.Cmp.Lexicographic.{nat_list_cmp_total, texts_ties}
use Rattle.std.specs.List.{remove as remove_at, position, position_or_len}
use Rattle.std.specs.FinMap.{find, get, len, insert, remove, contains_key, get-from_entries, get-insert, get-remove, len-insert, len-empty, from_entries_push, same_map, IsAntisymmetric, slice_cmp-IsAntisymmetric, nat_cmp-IsAntisymmetric}
use Rattle.std.proofs.lemmas.Bool.{and_parts, and_from, cond-true, cond-false, false_from_ne_true, false≢true, not-true, ltb-true, ltb-false}
use Rattle.std.proofs.lemmas.Option.{same_Some, none-some, cond_some, slice_get_cases, get_or_from_slice_get}
use Rattle.std.proofs.lemmas.List.Sums.{passes_at_first}
use Rattle.ddt_path.specs.Covers.{is_same_path}
use Rattle.ddt_trie.specs.PrefixMap.{path_cmp}
use Rattle.ddt_trie.specs.Entries.{have_own_keys, map_of}

-- the entry at a place has the key p
abbrev pub IsAt : {V : Type 0} → List (List ℕ × V) → ℕ → List ℕ → Type 0
IsAt {V} es i p = (v : V) × (slice_get es i ≡ Some (p, v))

-- ---- keys

abbrev pub tied : List ℕ → List ℕ → Bool
tied = eq_by_cmp path_cmp

equal_from : (r : Ordering) → is_eq r ≡ true → r ≡ Equal
equal_from Less e = absurd (false≢true e)
equal_from Equal e = refl
equal_from Greater e = absurd (false≢true e)

pub same_keys : IsAntisymmetric path_cmp
same_keys = slice_cmp-IsAntisymmetric nat_cmp-IsAntisymmetric

pub tied-true : (p q : List ℕ) → tied p q ≡ true → p ≡ q
tied-true p q e = same_keys p q (equal_from (path_cmp p q) e)

pub tied_self : (p : List ℕ) → tied p p ≡ true
tied_self p = ap is_eq (tied_itself nat_list_cmp_total p)

pub is_some-None : {A : Type 0} (o : Option A) → is_some o ≡ false → o ≡ None
is_some-None None e = refl
is_some-None (Some x) e = absurd (false≢true (sym e))

swapped : {A : Type 0} (a b : Bool) (x y z : A) → (a ≡ true → b ≡ true → ⊥) → cond a x (cond b y z) ≡ cond b y (cond a x z)
swapped true true x y z apart = absurd (apart refl refl)
swapped true false x y z apart = refl
swapped false true x y z apart = refl
swapped false false x y z apart = refl

cond_none : {A : Type 0} (b : Bool) (x : A) → cond b (Some x) None ≡ None → b ≡ false
cond_none true x e = absurd (none-some x (sym e))
cond_none false x e = refl

later_none : {A : Type 0} (b : Bool) (x : A) (o : Option A) → cond b (Some x) o ≡ None → o ≡ None
later_none true x o e = absurd (none-some x (sym e))
later_none false x o e = e

either_none : {A : Type 0} (b : Bool) → cond {A = Option A} b None None ≡ None
either_none true = refl
either_none false = refl

shadowed : {A : Type 0} (b : Bool) (x y z : A) → cond b x z ≡ cond b x (cond b y z)
shadowed true x y z = refl
shadowed false x y z = refl

-- ---- distinct entries

module _ {V : Type 0} where
  pub absent_later : (e : List ℕ × V) (es : List (List ℕ × V)) → have_own_keys (e ∷ es) ≡ true → find path_cmp e.0 es ≡ None
  absent_later e es d = is_some-None _ (not-true _ (and_parts (not (is_some (find path_cmp e.0 es))) (have_own_keys es) d).0)

  pub rest_distinct : (e : List ℕ × V) (es : List (List ℕ × V)) → have_own_keys (e ∷ es) ≡ true → have_own_keys es ≡ true
  rest_distinct e es d = (and_parts (not (is_some (find path_cmp e.0 es))) (have_own_keys es) d).1

  pub more_distinct : (e : List ℕ × V) (es : List (List ℕ × V)) → find path_cmp e.0 es ≡ None → have_own_keys es ≡ true → have_own_keys (e ∷ es) ≡ true
  more_distinct e es none d = and_from (not (is_some (find path_cmp e.0 es))) (have_own_keys es) (ap (λ (o : Option V). not (is_some o)) none) d

  -- a key that is found later isn't that of the head
  later_apart : (e : List ℕ × V) (es : List (List ℕ × V)) (p : List ℕ) (v : V) → have_own_keys (e ∷ es) ≡ true → find path_cmp p es ≡ Some v → tied p e.0 ≡ false
  later_apart e es p v d found =
      false_from_ne_true (tied p e.0) (λ t. none-some v (sym (absent_later e es d) ∙ ap (λ (k : List ℕ). find path_cmp k es) (sym (tied-true p e.0 t)) ∙ found))

  find-append_other : (es : List (List ℕ × V)) (p : List ℕ) (v : V) (q : List ℕ) → tied q p ≡ false → find path_cmp q (es ++ (p, v) ∷ []) ≡ find path_cmp q es
  find-append_other [] p v q apart = cond-false (tied q p) (Some v) None apart
  find-append_other (e ∷ es) p v q apart = ap (cond (tied q e.0) (Some e.1)) (find-append_other es p v q apart)

  pub find_at : (es : List (List ℕ × V)) (i : ℕ) (p : List ℕ) (v : V) → have_own_keys es ≡ true → slice_get es i ≡ Some (p, v) → find path_cmp p es ≡ Some v
  find_at [] i p v d at = absurd (none-some (p, v) at)
  find_at (e ∷ es) zero p v d at =
      let same : e ≡ (p, v) = same_Some e (p, v) at in
      cond-true (tied p e.0) (Some e.1) (find path_cmp p es) (ap (λ (f : List ℕ × V). tied p f.0) same ∙ tied_self p) ∙ ap (λ (f : List ℕ × V). Some f.1) same
  find_at (e ∷ es) (suc i) p v d at =
      let later = find_at es i p v (rest_distinct e es d) at in
      cond-false (tied p e.0) (Some e.1) (find path_cmp p es) (later_apart e es p v d later) ∙ later

  pub find-set : (es : List (List ℕ × V)) (i : ℕ) (p : List ℕ) (v w : V) (q : List ℕ) → have_own_keys es ≡ true → slice_get es i ≡ Some (p, v)
      → find path_cmp q (set es i (p, w)) ≡ cond (tied q p) (Some w) (find path_cmp q es)
  find-set [] i p v w q d at = absurd (none-some (p, v) at)
  find-set (e ∷ es) zero p v w q d at =
      let same : e ≡ (p, v) = same_Some e (p, v) at in
      shadowed (tied q p) (Some w) (Some v) (find path_cmp q es) ∙ ap (λ (f : List ℕ × V). cond (tied q p) (Some w) (cond (tied q f.0) (Some f.1) (find path_cmp q es))) (sym same)
  find-set (e ∷ es) (suc i) p v w q d at =
      let apart = later_apart e es p v d (find_at es i p v (rest_distinct e es d) at) in
      ap (cond (tied q e.0) (Some e.1)) (find-set es i p v w q (rest_distinct e es d) at)
      ∙ swapped (tied q e.0) (tied q p) (Some e.1) (Some w) (find path_cmp q es) (λ a b.
      false≢true (sym apart ∙ ap (λ (k : List ℕ). tied k e.0) (sym (tied-true q p b)) ∙ a))

  -- a new value leaves the keys as they are
  is_some-set : (es : List (List ℕ × V)) (i : ℕ) (p : List ℕ) (v w : V) (q : List ℕ) → slice_get es i ≡ Some (p, v) → is_some (find path_cmp q (set es i (p, w))) ≡ is_some (find path_cmp q es)
  is_some-set [] i p v w q at = refl
  is_some-set (e ∷ es) zero p v w q at =
      let same : e ≡ (p, v) = same_Some e (p, v) at in
      elim (tied q p) as (λ b. is_some (cond b (Some w) (find path_cmp q es)) ≡ is_some (cond b (Some v) (find path_cmp q es))) [ true ↦ refl | false ↦ refl ]
      ∙ ap (λ (f : List ℕ × V). is_some (cond (tied q f.0) (Some f.1) (find path_cmp q es))) (sym same)
  is_some-set (e ∷ es) (suc i) p v w q at =
      elim (tied q e.0) as (λ b. is_some (cond b (Some e.1) (find path_cmp q (set es i (p, w)))) ≡ is_some (cond b (Some e.1) (find path_cmp q es))) [ true ↦ refl | false ↦ is_some-set es i p v w q at ]

  pub distinct-set : (es : List (List ℕ × V)) (i : ℕ) (p : List ℕ) (v w : V) → have_own_keys es ≡ true → slice_get es i ≡ Some (p, v) → have_own_keys (set es i (p, w)) ≡ true
  distinct-set [] i p v w d at = refl
  distinct-set (e ∷ es) zero p v w d at =
      let same : e ≡ (p, v) = same_Some e (p, v) at in
      ap (λ (f : List ℕ × V). not (is_some (find path_cmp f.0 es)) && have_own_keys es) (sym same) ∙ d
  distinct-set (e ∷ es) (suc i) p v w d at =
      more_distinct e (set es i (p, w))
      (is_some-None _ (is_some-set es i p v w e.0 at ∙ ap (λ (o : Option V). is_some o) (absent_later e es d)))
      (distinct-set es i p v w (rest_distinct e es d) at)

  pub find-remove_at : (es : List (List ℕ × V)) (i : ℕ) (p : List ℕ) (v : V) (q : List ℕ) → have_own_keys es ≡ true → slice_get es i ≡ Some (p, v)
      → find path_cmp q (remove_at es i) ≡ cond (tied q p) None (find path_cmp q es)
  find-remove_at [] i p v q d at = absurd (none-some (p, v) at)
  find-remove_at (e ∷ es) zero p v q d at =
      let same : e ≡ (p, v) = same_Some e (p, v) at in
      let none : find path_cmp p es ≡ None = ap (λ (f : List ℕ × V). find path_cmp f.0 es) (sym same) ∙ absent_later e es d in
      elim (tied q p) as (λ b. tied q p ≡ b → find path_cmp q es ≡ cond b None (cond b (Some v) (find path_cmp q es))) [
        | true ↦ λ t. ap (λ (k : List ℕ). find path_cmp k es) (tied-true q p t) ∙ none
        | false ↦ λ t. refl
      ] refl
      ∙ ap (λ (f : List ℕ × V). cond (tied q p) None (cond (tied q f.0) (Some f.1) (find path_cmp q es))) (sym same)
  find-remove_at (e ∷ es) (suc i) p v q d at =
      let apart = later_apart e es p v d (find_at es i p v (rest_distinct e es d) at) in
      ap (cond (tied q e.0) (Some e.1)) (find-remove_at es i p v q (rest_distinct e es d) at)
      ∙ swapped (tied q e.0) (tied q p) (Some e.1) None (find path_cmp q es) (λ a b.
      false≢true (sym apart ∙ ap (λ (k : List ℕ). tied k e.0) (sym (tied-true q p b)) ∙ a))

  pub distinct-remove_at : (es : List (List ℕ × V)) (i : ℕ) (p : List ℕ) (v : V) → have_own_keys es ≡ true → slice_get es i ≡ Some (p, v) → have_own_keys (remove_at es i) ≡ true
  distinct-remove_at [] i p v d at = absurd (none-some (p, v) at)
  distinct-remove_at (e ∷ es) zero p v d at = rest_distinct e es d
  distinct-remove_at (e ∷ es) (suc i) p v d at =
      more_distinct e (remove_at es i)
      (find-remove_at es i p v e.0 (rest_distinct e es d) at ∙ ap (cond (tied e.0 p) None) (absent_later e es d) ∙ either_none (tied e.0 p))
      (distinct-remove_at es i p v (rest_distinct e es d) at)

  -- ---- the place of a key

  pub position-place : (es : List (List ℕ × V)) (p : List ℕ) (i : ℕ) → position (λ e. is_same_path e.0 p) es ≡ Some i → IsAt es i p
  position-place es p i e =
      let t = λ (f : List ℕ × V). is_same_path f.0 p in
      let c = cond_some (nat_lt (position_or_len t es) (length es)) (position_or_len t es) i e in
      let lt : position_or_len t es < length es = ltb-true (position_or_len t es) (length es) c.0 in
      elim (slice_get_cases es i).1 [
        | inl f ↦
            let passes : t f.0 ≡ true = ap t (sym f.3 ∙ ap (λ (n : ℕ). get_or es n f.0) (sym c.1)) ∙ passes_at_first t es f.0 lt in
            let key : f.0.0 ≡ p = tied-true f.0.0 p (sym (texts_ties f.0.0 p) ∙ passes) in
            (f.0.1, f.2 ∙ ap (λ (k : List ℕ). Some (k, f.0.1)) key)
        | inr f ↦ absurd (omega arith)
      ]

  absent_before : (es : List (List ℕ × V)) (p : List ℕ) → length es ≤ position_or_len (λ e. is_same_path e.0 p) es → find path_cmp p es ≡ None
  absent_before [] p le = refl
  absent_before (e ∷ es) p le =
      let rest = position_or_len (λ (f : List ℕ × V). is_same_path f.0 p) es in
      elim (is_same_path e.0 p) as (λ b. is_same_path e.0 p ≡ b → suc (length es) ≤ cond (not b) (1 + rest) 0 → find path_cmp p (e ∷ es) ≡ None) [
        | true ↦ λ t h. absurd (omega arith)
        | false ↦ λ t h.
            let apart : tied p e.0 ≡ false = false_from_ne_true (tied p e.0) (λ same.
            false≢true (sym t ∙ texts_ties e.0 p ∙ ap (tied e.0) (tied-true p e.0 same) ∙ tied_self e.0)) in
            cond-false (tied p e.0) (Some e.1) (find path_cmp p es) apart ∙ absent_before es p (omega arith)
      ] refl le

  pub position-absent : (es : List (List ℕ × V)) (p : List ℕ) → position (λ e. is_same_path e.0 p) es ≡ None → find path_cmp p es ≡ None
  position-absent es p e =
      let n = position_or_len (λ (f : List ℕ × V). is_same_path f.0 p) es in
      absent_before es p (ltb-false n (length es) (cond_none (nat_lt n (length es)) n e))

  -- ---- the map of the entries

  pub get-map_of : (es : List (List ℕ × V)) (q : List ℕ) → get (map_of es) q ≡ find path_cmp q es
  get-map_of es q = get-from_entries nat_list_cmp_total es q

  pub len-map_of : (es : List (List ℕ × V)) → have_own_keys es ≡ true → len (map_of es) ≡ length es
  len-map_of [] d = len-empty path_cmp V
  len-map_of (e ∷ es) d =
      let absent : contains_key (map_of es) e.0 ≡ false = ap (λ (o : Option V). is_some o) (get-map_of es e.0 ∙ absent_later e es d) in
      len-insert nat_list_cmp_total (map_of es) e.0 e.1
      ∙ cond-false (contains_key (map_of es) e.0) (len (map_of es)) (len (map_of es) + 1) absent
      ∙ rw (len-map_of es (rest_distinct e es d)) (omega arith)

  pub map_of-set : (es : List (List ℕ × V)) (i : ℕ) (p : List ℕ) (v w : V) → have_own_keys es ≡ true → slice_get es i ≡ Some (p, v) → map_of (set es i (p, w)) ≡ insert (map_of es) p w
  map_of-set es i p v w d at = same_map nat_list_cmp_total same_keys _ _ (λ q.
      get-map_of (set es i (p, w)) q ∙ find-set es i p v w q d at ∙ ap (cond (tied q p) (Some w)) (sym (get-map_of es q)) ∙ sym (get-insert nat_list_cmp_total (map_of es) p w q))

  pub map_of_push : (es : List (List ℕ × V)) (p : List ℕ) (v : V) → find path_cmp p es ≡ None → map_of (es ++ (p, v) ∷ []) ≡ insert (map_of es) p v
  map_of_push es p v none = from_entries_push nat_list_cmp_total same_keys es p v none

  pub map_of-remove_at : (es : List (List ℕ × V)) (i : ℕ) (p : List ℕ) (v : V) → have_own_keys es ≡ true → slice_get es i ≡ Some (p, v) → map_of (remove_at es i) ≡ remove (map_of es) p
  map_of-remove_at es i p v d at = same_map nat_list_cmp_total same_keys _ _ (λ q.
      get-map_of (remove_at es i) q ∙ find-remove_at es i p v q d at ∙ ap (cond (tied q p) None) (sym (get-map_of es q)) ∙ sym (get-remove nat_list_cmp_total (map_of es) p q))

  -- ---- what the calls on a vector say

  pub placed : (s es : List (List ℕ × V)) (p : List ℕ) (r : Option ℕ) (i : ℕ) → s ≡ es → r ≡ position (λ e. is_same_path e.0 p) s → r ≡ Some i → IsAt es i p
  placed s es p r i same answer is = position-place es p i (ap (position (λ (e : List ℕ × V). is_same_path e.0 p)) (sym same) ∙ sym answer ∙ is)

  pub absent : (s es : List (List ℕ × V)) (p : List ℕ) (r : Option ℕ) → s ≡ es → r ≡ position (λ e. is_same_path e.0 p) s → r ≡ None → find path_cmp p es ≡ None
  absent s es p r same answer is = position-absent es p (ap (position (λ (e : List ℕ × V). is_same_path e.0 p)) (sym same) ∙ sym answer ∙ is)

  pub get_absent : (es : List (List ℕ × V)) (p : List ℕ) → find path_cmp p es ≡ None → get (map_of es) p ≡ None
  get_absent es p none = get-map_of es p ∙ none

  entry_at : (es : List (List ℕ × V)) (i : ℕ) (p : List ℕ) (e : List ℕ × V) (at : IsAt es i p) → e ≡ get_or es i e → e ≡ (p, at.0)
  entry_at es i p e at read = read ∙ get_or_from_slice_get es i (p, at.0) e at.1

  pub key_at : (es : List (List ℕ × V)) (i : ℕ) (p : List ℕ) (e : List ℕ × V) → IsAt es i p → e ≡ get_or es i e → e.0 ≡ p
  key_at es i p e at read = ap (λ (f : List ℕ × V). f.0) (entry_at es i p e at read)

  pub get_at : (es : List (List ℕ × V)) (i : ℕ) (p : List ℕ) (e : List ℕ × V) → have_own_keys es ≡ true → IsAt es i p → e ≡ get_or es i e → get (map_of es) p ≡ Some e.1
  get_at es i p e d at read = get-map_of es p ∙ find_at es i p at.0 d at.1 ∙ ap (λ (f : List ℕ × V). Some f.1) (sym (entry_at es i p e at read))

  pub set_distinct : (es : List (List ℕ × V)) (i : ℕ) (p k : List ℕ) (w : V) → have_own_keys es ≡ true → IsAt es i p → k ≡ p → have_own_keys (set es i (k, w)) ≡ true
  set_distinct es i p k w d at key = ap (λ (q : List ℕ). have_own_keys (set es i (q, w))) key ∙ distinct-set es i p at.0 w d at.1

  pub set_inserts : (es : List (List ℕ × V)) (i : ℕ) (p k : List ℕ) (w x : V) → have_own_keys es ≡ true → IsAt es i p → k ≡ p → w ≡ x → map_of (set es i (k, w)) ≡ insert (map_of es) p x
  set_inserts es i p k w x d at key value = ap (λ (q : List ℕ). map_of (set es i (q, w))) key ∙ map_of-set es i p at.0 w d at.1 ∙ ap (insert (map_of es) p) value

  distinct_push : (es : List (List ℕ × V)) (p : List ℕ) (v : V) → have_own_keys es ≡ true → find path_cmp p es ≡ None → have_own_keys (es ++ (p, v) ∷ []) ≡ true
  distinct_push [] p v d none = refl
  distinct_push (e ∷ es) p v d none =
      let apart : tied e.0 p ≡ false = false_from_ne_true (tied e.0 p) (λ t.
      none-some e.1 (sym none ∙ cond-true (tied p e.0) (Some e.1) (find path_cmp p es) (ap (tied p) (tied-true e.0 p t) ∙ tied_self p))) in
      let later : find path_cmp p es ≡ None = later_none (tied p e.0) e.1 (find path_cmp p es) none in
      more_distinct e (es ++ (p, v) ∷ [])
      (find-append_other es p v e.0 apart ∙ absent_later e es d)
      (distinct_push es p v (rest_distinct e es d) later)

  pub push_keeps_distinct : (old new : List (List ℕ × V)) (p : List ℕ) (v : V) (b : Bool) → have_own_keys old ≡ true → find path_cmp p old ≡ None → new ≡ cond b (old ++ (p, v) ∷ []) old → have_own_keys new ≡ true
  push_keeps_distinct old new p v true d none is = ap have_own_keys is ∙ distinct_push old p v d none
  push_keeps_distinct old new p v false d none is = ap have_own_keys is ∙ d

  pub push_inserts : (old new : List (List ℕ × V)) (p : List ℕ) (v : V) → find path_cmp p old ≡ None → new ≡ old ++ (p, v) ∷ [] → map_of new ≡ insert (map_of old) p v
  push_inserts old new p v none is = ap map_of is ∙ map_of_push old p v none

  pub remove_distinct : (old new : List (List ℕ × V)) (i : ℕ) (p : List ℕ) → have_own_keys old ≡ true → IsAt old i p → new ≡ remove_at old i → have_own_keys new ≡ true
  remove_distinct old new i p d at is = ap have_own_keys is ∙ distinct-remove_at old i p at.0 d at.1

  pub remove_removes : (old new : List (List ℕ × V)) (i : ℕ) (p : List ℕ) → have_own_keys old ≡ true → IsAt old i p → new ≡ remove_at old i → map_of new ≡ remove (map_of old) p
  remove_removes old new i p d at is = ap map_of is ∙ map_of-remove_at old i p at.0 d at.1

  -- nothing is removed at a key that isn't there
  pub remove_absent : (es : List (List ℕ × V)) (p : List ℕ) → find path_cmp p es ≡ None → map_of es ≡ remove (map_of es) p
  remove_absent es p none = same_map nat_list_cmp_total same_keys _ _ (λ q.
      get-map_of es q
      ∙ elim (tied q p) as (λ b. tied q p ≡ b → find path_cmp q es ≡ cond b None (find path_cmp q es)) [
        | true ↦ λ t. ap (λ (k : List ℕ). find path_cmp k es) (tied-true q p t) ∙ none
        | false ↦ λ t. refl
      ] refl
      ∙ ap (cond (tied q p) None) (sym (get-map_of es q)) ∙ sym (get-remove nat_list_cmp_total (map_of es) p q))

  pub is_some_absent : (es : List (List ℕ × V)) (p : List ℕ) → find path_cmp p es ≡ None → is_some (get (map_of es) p) ≡ true → false ≡ true
  is_some_absent es p none some = sym (ap (λ (o : Option V). is_some o) (get_absent es p none)) ∙ some
