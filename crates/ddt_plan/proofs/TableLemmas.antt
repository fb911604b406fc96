-- What two registers have by their keys, as a loop puts it there, and the changes that are read off it.
use Rattle.std.proofs.Common.{◌≡◌, ℕ, ◌+◌, ◌<◌, Bool, true, false, cond, List, [], ◌∷◌, ◌++◌, length, map, take, get_or, find, Option, Some, None, Less, refl, rules, sym, ap, ap₂, subst, ◌∙◌}
use Rattle.std.specs.Prelude.{◌&&◌, unwrap_or}
use Rattle.std.specs.List.{filter_map, cons_option, AllByRecursion}
use Rattle.std.specs.List.Sorted.{IsStrictlySortedBy}
use Rattle.std.specs.Option.{option_map, option_or}
use Rattle.std.specs.Ordering.{nat_cmp}
use Rattle.std.specs.Cmp.Lexicographic.{pointwise, slice_cmp, texts_ties, nat_list_cmp_total}
use Rattle.std.specs.BTreeMap.{BTreeMap, get, Updates, IsOrdered, is_at}
use Rattle.std.specs.Map.{keys_of}
use Rattle.std.proofs.lemmas.Bool.{cond-true, cond-false, both_ways}
use Rattle.std.proofs.lemmas.Option.{same_Some, none-some}
use Rattle.std.proofs.lemmas.Map.Entries.{place_from_lookup, btree_map_get_place}
use Rattle.std.proofs.lemmas.List.{take_more}
use Rattle.std.proofs.lemmas.List.Folds.{find-append}
use Rattle.ddt_path.specs.contracts.locator_set.LocatorSetPartialEq.TheImpl as set_eq
use Rattle.ddt_path.specs.declared.locator.Locator.{Locator}
use Rattle.ddt_path.specs.Covers.{is_same_path}
use Rattle.ddt_path.specs.Locators.{is_same_locator}
use Rattle.ddt_path.specs.laws.Cover.{same_path}
use Rattle.ddt_path.specs.laws.Member.{IsIn, in_get, get_in, in_contained, contained}
use Rattle.ddt_plan.specs.declared.versions.Which.{Which}
use Rattle.ddt_plan.specs.declared.versions.Which.TheVariants.{Earlier, Later}
use Rattle.ddt_plan.specs.declared.pairs_by_key.Pair.{Pair}
use Rattle.ddt_plan.specs.declared.items.ItemChange.{ItemChange}
use Rattle.ddt_plan.specs.Changes.{are_same_servers}
use Rattle.ddt_plan.specs.Items.{is_same_if_any, AreTableChanges}
use Rattle.ddt_plan.specs.Tables.{with_value, no_values, put_at, change_of, HasPutRows}
use Rattle.ddt_plan.proofs.VersionLemmas.{from_kept, is_kept}

-- ---- a loop's step

or_again : {V : Type 0} (o : Option V) (v w : V) → option_or (option_or o (Some v)) (Some w) ≡ option_or o (Some v)
or_again None v w = refl
or_again (Some u) v w = refl

with_again : {V : Type 0} (which : Which) (p : Pair V) (v w : V)
    → with_value which (with_value which p v) w ≡ with_value which p v
with_again Earlier p v w = ap (λ (o : Option _). record { before = o; after = p.after }) (or_again p.before v w)
with_again Later p v w = ap (λ (o : Option _). record { before = p.before; after = o }) (or_again p.after v w)

put_next : {V : Type 0} (which : Which) (first : Option (Pair V)) (found : Option V) (w : V)
    → Some (with_value which (unwrap_or (put_at which first found) no_values) w)
    ≡ put_at which first (option_or found (Some w))
put_next which first None w = refl
put_next which first (Some v) w = ap (λ (p : Pair _). Some p) (with_again which (unwrap_or first no_values) v w)

or_none : {V : Type 0} (o : Option V) → option_or o None ≡ o
or_none None = refl
or_none (Some v) = refl

map_or : {A V : Type 0} (f : A → V) (a b : Option A)
    → option_map f (option_or a b) ≡ option_or (option_map f a) (option_map f b)
map_or f None b = refl
map_or f (Some a) b = refl

module _ {A V : Type 0} (key : A → List ℕ) (value : A → V) where
  -- what the first of some rows with a key has
  abbrev pub value_in : List A → List ℕ → Option V
  value_in rows k = option_map value (find (λ a. is_same_path (key a) k) rows)

  module _ (which : Which) (rows : List A) (i : ℕ) (x : A) (lt : i < length rows) (is : x ≡ get_or rows i x)
      (first old new : BTreeMap (List ℕ) (Pair V))
      (before : (k : List ℕ)
      → get (slice_cmp nat_cmp) old k ≡ put_at which (get (slice_cmp nat_cmp) first k) (value_in (take i rows) k))
      (v : V) (has : v ≡ value x)
      (known : Pair V) (was : known ≡ unwrap_or (get (slice_cmp nat_cmp) old (key x)) no_values)
      (put : Updates (slice_cmp nat_cmp) old new (key x) (Some (with_value which known v))) where
    one_more : (k : List ℕ) → value_in (take (i + 1) rows) k
        ≡ option_or (value_in (take i rows) k) (option_map value (cond (is_same_path (key x) k) (Some x) None))
    one_more k =
        ap (λ (xs : List A). value_in xs k)
        (take_more rows i x lt ∙ ap (λ (y : A). take i rows ++ y ∷ []) (sym is))
        ∙ ap (option_map value) (find-append (λ a. is_same_path (key a) k) (take i rows) (x ∷ []))
        ∙ map_or value (find (λ a. is_same_path (key a) k) (take i rows)) (cond (is_same_path (key x) k) (Some x) None)

    updated : (k : List ℕ) → get (slice_cmp nat_cmp) new k
        ≡ cond (is_same_path (key x) k) (Some (with_value which known v)) (get (slice_cmp nat_cmp) old k)
    updated k =
        put.0 k
        ∙ ap (λ (b : Bool). cond b (Some (with_value which known v)) (get (slice_cmp nat_cmp) old k))
        (sym (texts_ties (key x) k))

    by_key : (k : List ℕ) (b : Bool) → is_same_path (key x) k ≡ b
        → get (slice_cmp nat_cmp) new k
        ≡ put_at which (get (slice_cmp nat_cmp) first k) (value_in (take (i + 1) rows) k)
    by_key k true e =
        updated k
        ∙ cond-true (is_same_path (key x) k) (Some (with_value which known v)) (get (slice_cmp nat_cmp) old k) e
        ∙ ap (λ (w : V). Some (with_value which known w)) has
        ∙ ap (λ (p : Pair V). Some (with_value which p (value x)))
        (was ∙ ap (λ (l : List ℕ). unwrap_or (get (slice_cmp nat_cmp) old l) no_values) (same_path (key x) k e)
        ∙ ap (λ (o : Option (Pair V)). unwrap_or o no_values) (before k))
        ∙ put_next which (get (slice_cmp nat_cmp) first k) (value_in (take i rows) k) (value x)
        ∙ ap (put_at which (get (slice_cmp nat_cmp) first k))
        (sym (one_more k ∙ ap (λ (o : Option A). option_or (value_in (take i rows) k) (option_map value o))
        (cond-true (is_same_path (key x) k) (Some x) None e)))
    by_key k false e =
        updated k
        ∙ cond-false (is_same_path (key x) k) (Some (with_value which known v)) (get (slice_cmp nat_cmp) old k) e
        ∙ before k
        ∙ ap (put_at which (get (slice_cmp nat_cmp) first k))
        (sym (one_more k ∙ ap (λ (o : Option A). option_or (value_in (take i rows) k) (option_map value o))
        (cond-false (is_same_path (key x) k) (Some x) None e) ∙ or_none (value_in (take i rows) k)))

    pub put_row : (k : List ℕ) → get (slice_cmp nat_cmp) new k
        ≡ put_at which (get (slice_cmp nat_cmp) first k) (value_in (take (i + 1) rows) k)
    put_row k = by_key k (is_same_path (key x) k) refl

-- ---- both registers

both_before : {V : Type 0} (o p : Option V) → (unwrap_or (put_at Later (put_at Earlier None o) p) no_values).before ≡ o
both_before None None = refl
both_before None (Some w) = refl
both_before (Some v) None = refl
both_before (Some v) (Some w) = refl

both_after : {V : Type 0} (o p : Option V) → (unwrap_or (put_at Later (put_at Earlier None o) p) no_values).after ≡ p
both_after None None = refl
both_after None (Some w) = refl
both_after (Some v) None = refl
both_after (Some v) (Some w) = refl

pub both_values : {V : Type 0} (f g : List ℕ → Option V) (empty early late : BTreeMap (List ℕ) (Pair V))
    → ((k : List ℕ) → get (slice_cmp nat_cmp) empty k ≡ None)
    → HasPutRows Earlier f empty early → HasPutRows Later g early late
    → (k : List ℕ) → unwrap_or (get (slice_cmp nat_cmp) late k) no_values ≡ record { before = f k; after = g k }
both_values f g empty early late none p q k =
    let there : get (slice_cmp nat_cmp) late k ≡ put_at Later (put_at Earlier None (f k)) (g k) =
    q k ∙ ap (λ (o : Option (Pair _)). put_at Later o (g k))
    (p k ∙ ap (λ (o : Option (Pair _)). put_at Earlier o (f k)) (none k)) in
    ap (λ (o : Option (Pair _)). unwrap_or o no_values) there ∙ both (f k) (g k)
  where
    both : {V : Type 0} (o p : Option V)
        → unwrap_or (put_at Later (put_at Earlier None o) p) no_values ≡ record { before = o; after = p }
    both None None = refl
    both None (Some w) = refl
    both (Some v) None = refl
    both (Some v) (Some w) = refl

-- ---- the changes

module _ {V : Type 0} (same : V → V → Bool) where
  record IsChangeOf (k : List ℕ) (p : Pair V) (c : ItemChange (List ℕ) V) : Type 0 where
    key : k ≡ c.key
    before : p.before ≡ c.before
    after : p.after ≡ c.after
    differ : is_same_if_any same c.before c.after ≡ false

  change_case : (k : List ℕ) (p : Pair V) (c : ItemChange (List ℕ) V) (b : Bool)
      → is_same_if_any same p.before p.after ≡ b
      → cond b None (let d : ItemChange (List ℕ) V = record { key = k; before = p.before; after = p.after } in Some d)
      ≡ Some c → IsChangeOf k p c
  change_case k p c true is e = absurd (none-some c e)
  change_case k p c false is e =
      let d : ItemChange (List ℕ) V = record { key = k; before = p.before; after = p.after } in
      let one : d ≡ c = same_Some d c e in
      record {
        key = ap (λ (x : ItemChange (List ℕ) V). x.key) one;
        before = ap (λ (x : ItemChange (List ℕ) V). x.before) one;
        after = ap (λ (x : ItemChange (List ℕ) V). x.after) one;
        differ = ap (λ (x : ItemChange (List ℕ) V). is_same_if_any same x.before x.after) (sym one) ∙ is;
      }

  is_change : (e : List ℕ × Pair V) (c : ItemChange (List ℕ) V) → change_of same e ≡ Some c → IsChangeOf e.0 e.1 c
  is_change e c is = change_case e.0 e.1 c (is_same_if_any same e.1.before e.1.after) refl is

  abbrev keys : List (ItemChange (List ℕ) V) → List (List ℕ)
  keys changes = map (λ (c : ItemChange (List ℕ) V). c.key) changes

  keys_case : (P : List ℕ → Type 0) (e : List ℕ × Pair V) (o : Option (ItemChange (List ℕ) V))
      (cs : List (ItemChange (List ℕ) V)) → change_of same e ≡ o
      → P e.0 → AllByRecursion P (keys cs) → AllByRecursion P (keys (cons_option o cs))
  keys_case P e None cs is p ps = ps
  keys_case P e (Some c) cs is p ps = (subst P (is_change e c is).key p, ps)

  keys_kept : (P : List ℕ → Type 0) (es : List (List ℕ × Pair V)) → AllByRecursion P (keys_of es)
      → AllByRecursion P (keys (filter_map (change_of same) es))
  keys_kept P [] h = tt
  keys_kept P (e ∷ es) h = keys_case P e (change_of same e) (filter_map (change_of same) es) refl h.0 (keys_kept P es h.1)

  sorted_case : (e : List ℕ × Pair V) (o : Option (ItemChange (List ℕ) V)) (cs : List (ItemChange (List ℕ) V))
      → change_of same e ≡ o
      → AllByRecursion (λ (n : List ℕ). slice_cmp nat_cmp e.0 n ≡ Less) (keys cs)
      → IsStrictlySortedBy (slice_cmp nat_cmp) (keys cs)
      → IsStrictlySortedBy (slice_cmp nat_cmp) (keys (cons_option o cs))
  unfolding IsStrictlySortedBy
  sorted_case e None cs is below sorted = sorted
  sorted_case e (Some c) cs is below sorted = (
    subst (λ (m : List ℕ). AllByRecursion (λ (n : List ℕ). slice_cmp nat_cmp m n ≡ Less) (keys cs))
        (is_change e c is).key below,
    sorted,
  )

  keys_sorted : (es : List (List ℕ × Pair V)) → IsStrictlySortedBy (slice_cmp nat_cmp) (keys_of es)
      → IsStrictlySortedBy (slice_cmp nat_cmp) (keys (filter_map (change_of same) es))
  unfolding IsStrictlySortedBy
  keys_sorted [] h = tt
  keys_sorted (e ∷ es) h = sorted_case e (change_of same e) (filter_map (change_of same) es) refl
      (keys_kept (λ (n : List ℕ). slice_cmp nat_cmp e.0 n ≡ Less) es h.0) (keys_sorted es h.1)

  module _ (m : BTreeMap (List ℕ) (Pair V)) (ordered : IsOrdered (slice_cmp nat_cmp) m) (f g : List ℕ → Option V)
      (early : (k : List ℕ) → (unwrap_or (get (slice_cmp nat_cmp) m k) no_values).before ≡ f k)
      (late : (k : List ℕ) → (unwrap_or (get (slice_cmp nat_cmp) m k) no_values).after ≡ g k) where
    entry_kept : (e : List ℕ × Pair V) → IsIn e m.entries → get (slice_cmp nat_cmp) m e.0 ≡ Some e.1
    entry_kept e k = let p = get_in m.entries e k in btree_map_get_place nat_list_cmp_total m p.0 e.0 e.1 ordered p.2

    listed : (c : ItemChange (List ℕ) V) → IsIn c (filter_map (change_of same) m.entries)
        → (c.before ≡ f c.key) × (c.after ≡ g c.key) × (is_same_if_any same c.before c.after ≡ false)
    listed c k =
        let p = from_kept (change_of same) m.entries c k in
        let t = is_change p.0 c p.2 in
        let there = entry_kept p.0 p.1 in (
          sym t.before ∙ ap (λ (o : Option (Pair V)). (unwrap_or o no_values).before) (sym there) ∙ early p.0.0
              ∙ ap f t.key,
          sym t.after ∙ ap (λ (o : Option (Pair V)). (unwrap_or o no_values).after) (sym there) ∙ late p.0.0
              ∙ ap g t.key,
          t.differ,
        )

    in_entries : (c : ItemChange (List ℕ) V) (known : Option (Pair V)) → get (slice_cmp nat_cmp) m c.key ≡ known
        → c.before ≡ f c.key → c.after ≡ g c.key → is_same_if_any same c.before c.after ≡ false
        → IsIn c (filter_map (change_of same) m.entries)
    in_entries c None e b a differ =
        let none : c.before ≡ None =
        b ∙ sym (early c.key) ∙ ap (λ (o : Option (Pair V)). (unwrap_or o no_values).before) e in
        let nil : c.after ≡ None =
        a ∙ sym (late c.key) ∙ ap (λ (o : Option (Pair V)). (unwrap_or o no_values).after) e in
        absurd (both_ways (is_same_if_any same c.before c.after) differ (ap₂ (is_same_if_any same) none nil))
    in_entries c (Some v) e b a differ =
        let p = place_from_lookup (is_at (slice_cmp nat_cmp c.key)) m.entries v e in
        let name : c.key ≡ p.1 = same_path c.key p.1 (texts_ties c.key p.1 ∙ p.3) in
        let x : c.before ≡ v.before =
        b ∙ sym (early c.key) ∙ ap (λ (o : Option (Pair V)). (unwrap_or o no_values).before) e in
        let y : c.after ≡ v.after =
        a ∙ sym (late c.key) ∙ ap (λ (o : Option (Pair V)). (unwrap_or o no_values).after) e in
        let is : change_of same (p.1, v) ≡ Some c =
        cond-false (is_same_if_any same v.before v.after) None
        (let d : ItemChange (List ℕ) V = record { key = p.1; before = v.before; after = v.after } in Some d)
        (ap₂ (is_same_if_any same) (sym x) (sym y) ∙ differ)
        ∙ ap (λ (k : List ℕ).
        let d : ItemChange (List ℕ) V = record { key = k; before = v.before; after = v.after } in Some d) (sym name)
        ∙ ap₂ (λ (o n : Option V).
        let d : ItemChange (List ℕ) V = record { key = c.key; before = o; after = n } in Some d) (sym x) (sym y) in
        is_kept (change_of same) m.entries (p.1, v) c (in_get m.entries p.0 (p.1, v) p.2) is

    pub table_changes : AreTableChanges same f g (filter_map (change_of same) m.entries)
    table_changes = record {
      exact = λ c. (
        λ k. listed c (in_contained (filter_map (change_of same) m.entries) c k),
        λ e. contained (filter_map (change_of same) m.entries) c
            (in_entries c (get (slice_cmp nat_cmp) m c.key) refl e.0 e.1 e.2),
      );
      in_order = keys_sorted m.entries ordered;
    }

-- the changes by one test are those by another that agrees with it
module _ {V : Type 0} (one other : V → V → Bool) (agree : (a b : V) → one a b ≡ other a b) where
  agree_if_any : (a b : Option V) → is_same_if_any one a b ≡ is_same_if_any other a b
  agree_if_any None None = refl
  agree_if_any None (Some b) = refl
  agree_if_any (Some a) None = refl
  agree_if_any (Some a) (Some b) = agree a b

  changes_agree : (f g : List ℕ → Option V) (changes : List (ItemChange (List ℕ) V))
      → AreTableChanges one f g changes → AreTableChanges other f g changes
  changes_agree f g changes are = record {
    exact = λ c. (
      λ k. let p = (are.exact c).0 k in (p.0, p.1, sym (agree_if_any c.before c.after) ∙ p.2),
      λ e. (are.exact c).1 (e.0, e.1, agree_if_any c.before c.after ∙ e.2),
    );
    in_order = are.in_order;
  }

  pub changes_of_both : (f g : List ℕ → Option V) (empty early late : BTreeMap (List ℕ) (Pair V))
      → ((k : List ℕ) → get (slice_cmp nat_cmp) empty k ≡ None)
      → HasPutRows Earlier f empty early → HasPutRows Later g early late → IsOrdered (slice_cmp nat_cmp) late
      → (changes : List (ItemChange (List ℕ) V)) → changes ≡ filter_map (change_of one) late.entries
      → AreTableChanges other f g changes
  changes_of_both f g empty early late none p q ordered changes is =
      let there : (k : List ℕ) → get (slice_cmp nat_cmp) late k ≡ put_at Later (put_at Earlier None (f k)) (g k) =
      λ k. q k ∙ ap (λ (o : Option (Pair V)). put_at Later o (g k))
      (p k ∙ ap (λ (o : Option (Pair V)). put_at Earlier o (f k)) (none k)) in
      changes_agree f g changes (subst (AreTableChanges one f g) (sym is) (table_changes one late ordered f g
      (λ k. ap (λ (o : Option (Pair V)). (unwrap_or o no_values).before) (there k) ∙ both_before (f k) (g k))
      (λ k. ap (λ (o : Option (Pair V)). (unwrap_or o no_values).after) (there k) ∙ both_after (f k) (g k))))

-- ---- locators

pointwise_agrees : {A : Type 0} (f g : A → A → Bool) → ((x y : A) → f x y ≡ g x y)
    → (xs ys : List A) → pointwise f xs ys ≡ pointwise g xs ys
pointwise_agrees f g h [] [] = refl
pointwise_agrees f g h [] (y ∷ ys) = refl
pointwise_agrees f g h (x ∷ xs) [] = refl
pointwise_agrees f g h (x ∷ xs) (y ∷ ys) = ap₂ (λ (a b : Bool). a && b) (h x y) (pointwise_agrees f g h xs ys)

-- `==` of two sets of locators asks for the same locators in the same order
pub sets_agree : (s t : List Locator) → set_eq.ghosts.eq s t ≡ are_same_servers s t
sets_agree = pointwise_agrees _ is_same_locator (λ x y. search rules)
