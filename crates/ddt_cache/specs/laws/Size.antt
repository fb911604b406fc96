-- How many entries there are: what is live is no more than what there is.
use Rattle.std.proofs.Common.{◌≡◌, ℕ, ◌<◌, ◌≤◌, ◌+◌, Bool, cond, true, false, List, [], ◌∷◌, Some, None, Option, refl, sym, ap, subst, ◌∙◌, arith}
use Rattle.std.specs.Prelude.{is_some, not, nat_lt, ◌&&◌, ◌||◌, filter}
use Rattle.std.specs.List.{list_any}
use Rattle.std.specs.Cmp.Lexicographic.{nat_list_cmp_total}
use Rattle.std.specs.FinMap.{get, len, empty, len-empty, len-insert, insert, remove, keys, contains_key, contains_key-keys, get-remove}
use Rattle.std.proofs.lemmas.Bool.{lt-ltb, ltb-true}
use Rattle.ddt_trie.specs.PrefixMap.{path_cmp}
use Rattle.ddt_trie.specs.laws.Entry.{tied}
use Rattle.ddt_trie.specs.laws.Key.{any_kept}
use Rattle.ddt_cache.specs.declared.cache_entry.Entry.{Entry}
use Rattle.ddt_cache.specs.Live.{is_live, live_at}
use Rattle.ddt_cache.specs.Saved.{has_room, most_live_entries}
use Rattle.ddt_path.specs.laws.MapSize as size
use Rattle.ddt_cache.specs.laws.Live.{Entries, if_live, get-live_at, same}

-- ---- a map without some keys

without : List (List ℕ) → Entries → Entries
without [] m = m
without (k ∷ ks) m = without ks (remove m k)

len-without : (ks : List (List ℕ)) (m : Entries) → len (without ks m) ≤ len m
unfolding without
len-without [] m = omega arith
len-without (k ∷ ks) m =
    let a = len-without ks (remove m k) in
    let b : len (remove m k) ≤ len m = size.len_removed nat_list_cmp_total m k in
    omega (arith, a, b)

both : {A : Type 0} (a b : Bool) (o : Option A) → cond b None (cond a None o) ≡ cond (a || b) None o
both true true o = refl
both true false o = refl
both false b o = refl

get-without : (ks : List (List ℕ)) (m : Entries) (q : List ℕ)
    → get (without ks m) q ≡ cond (list_any (tied q) ks) None (get m q)
unfolding without
get-without [] m q = refl
get-without (k ∷ ks) m q =
    get-without ks (remove m k) q
    ∙ ap (cond (list_any (tied q) ks) None) (get-remove nat_list_cmp_total m k q)
    ∙ both (tied q k) (list_any (tied q) ks) (get m q)

-- ---- the entries that have ended

left : (t : ℕ) (o : Option Entry) → cond (is_some o && not (is_live t o)) None o ≡ if_live t o
left t None = refl
left t (Some e) = by_end (nat_lt t e.end)
  where
    by_end : (b : Bool) → cond (not b) None (Some e) ≡ cond b (Some e) None
    by_end true = refl
    by_end false = refl

abbrev ended_at : ℕ → Entries → List ℕ → Bool
ended_at t m p = not (is_live t (get m p))

pub len-live_at : (t : ℕ) (m : Entries) → len (live_at t m) ≤ len m
len-live_at t m = subst (λ (n : Entries). len n ≤ len m) is (len-without (filter (ended_at t m) (keys m)) m)
  where
    is : without (filter (ended_at t m) (keys m)) m ≡ live_at t m
    is = same _ _ (λ q.
        get-without (filter (ended_at t m) (keys m)) m q
        ∙ ap (λ b. cond b None (get m q)) (any_kept (ended_at t m) (keys m) q ∙ ap (λ b. b && ended_at t m q) (sym (contains_key-keys m q)))
        ∙ left t (get m q) ∙ sym (get-live_at t m q))

-- ---- at most 65,536 entries

pub len_dropped : (t : ℕ) (m n : Entries) → n ≡ live_at t m → len m ≤ most_live_entries → len n ≤ most_live_entries
len_dropped t m n is le =
    let a = len-live_at t m in
    let b : len n ≡ len (live_at t m) = ap (λ (l : Entries). len l) is in
    omega (arith, a, b, le)

pub len_removed : (m n : Entries) (p : List ℕ) → n ≡ remove m p → len m ≤ most_live_entries → len n ≤ most_live_entries
len_removed m n p is le =
    let a : len n ≡ len (remove m p) = ap (λ (l : Entries). len l) is in
    let b : len (remove m p) ≤ len m = size.len_removed nat_list_cmp_total m p in
    omega (arith, a, b, le)

pub len_none : (m : Entries) → m ≡ empty → len m ≤ most_live_entries
len_none m is = let a : len m ≡ 0 = ap (λ (l : Entries). len l) is ∙ len-empty path_cmp Entry in omega (arith, a)

pub room_below : (m : Entries) (p : List ℕ) → len m < most_live_entries → has_room m p ≡ true
room_below m p lt = ap (λ b. contains_key m p || b) (lt-ltb (len m) most_live_entries lt) ∙ or_true (contains_key m p)
  where
    or_true : (b : Bool) → (b || true) ≡ true
    or_true true = refl
    or_true false = refl

pub len_inserted : (m n : Entries) (p : List ℕ) (e : Entry) → n ≡ insert m p e → has_room m p ≡ true
    → len m ≤ most_live_entries → len n ≤ most_live_entries
len_inserted m n p e is room le =
    let a : len n ≡ cond (contains_key m p) (len m) (len m + 1) = ap (λ (l : Entries). len l) is ∙ len-insert nat_list_cmp_total m p e in
    let b : cond (contains_key m p) (len m) (len m + 1) ≤ most_live_entries = by_key (contains_key m p) room in
    omega (arith, a, b)
  where
    by_key : (b : Bool) → (b || nat_lt (len m) most_live_entries) ≡ true → cond b (len m) (len m + 1) ≤ most_live_entries
    by_key true h = le
    by_key false h = let lt = ltb-true (len m) most_live_entries h in omega (arith, lt)
