-- The entries of a map that are live at a time.
use Rattle.std.proofs.Common.{◌≡◌, ℕ, ◌<◌, ◌≤◌, ◌-◌, Bool, cond, true, false, List, Some, None, Option, refl, sym, ap, subst, ◌∙◌, arith, inl, inr}
use Rattle.std.specs.Prelude.{is_some, nat_lt, IsTrue}
use Rattle.std.specs.Cmp.Lexicographic.{nat_list_cmp_total}
use Rattle.std.specs.FinMap.{FinMap, empty, get, insert, remove, contains_key, get-empty, get-insert, get-remove, get-retain_keys, get_tied, same_map, len, len-remove, empty_of_len}
use Rattle.std.proofs.lemmas.Bool.{lt-ltb, false_from_ne_true, cond-true, cond-false, false≢true, ltb-true, ltb-false}
use Rattle.std.proofs.lemmas.Option.{none-some, same_Some}
use Rattle.ddt_trie.specs.PrefixMap.{path_cmp, IsCovered, IsLongest, IsKept, IsRetained}
use Rattle.ddt_trie.specs.laws.Map.{IsLongest-unique}
use Rattle.ddt_trie.specs.laws.Entry.{tied, tied-true, same_keys}
use Rattle.ddt_cache.specs.declared.cache_entry.Entry.{Entry}
use Rattle.ddt_cache.specs.Live.{is_live, live_at}

-- what is left of one value
abbrev pub if_live : ℕ → Option Entry → Option Entry
if_live t o = cond (is_live t o) o None

abbrev pub Entries : Type 0
Entries = FinMap path_cmp Entry

pub get-live_at : (t : ℕ) (m : Entries) (q : List ℕ) → get (live_at t m) q ≡ if_live t (get m q)
get-live_at t m q =
    get-retain_keys m (λ p. is_live t (get m p)) q (λ p e. ap (is_live t) (get_tied nat_list_cmp_total m q p e))

pub same : (m n : Entries) → ((q : List ℕ) → get m q ≡ get n q) → m ≡ n
same = same_map nat_list_cmp_total same_keys

-- ---- one value

pub later_true : (t : ℕ) (e : Entry) → t < e.end → nat_lt t e.end ≡ true
later_true t e lt = at t e.end lt
  where
    at : (a b : ℕ) → a < b → nat_lt a b ≡ true
    at a b h = lt-ltb a b h

pub ended_false : (t : ℕ) (e : Entry) → e.end ≤ t → nat_lt t e.end ≡ false
ended_false t e le = at t e.end le
  where
    at : (a b : ℕ) → b ≤ a → nat_lt a b ≡ false
    at a b h = false_from_ne_true (nat_lt a b) (λ is. let lt : a < b = ltb-true a b is in absurd (omega (arith, lt, h)))

if_live_some : (t : ℕ) (e : Entry) → t < e.end → if_live t (Some e) ≡ Some e
if_live_some t e lt = cond-true (nat_lt t e.end) (Some e) None (later_true t e lt)

if_live_later : (t u : ℕ) (o : Option Entry) → t ≤ u → if_live u (if_live t o) ≡ if_live u o
if_live_later t u None le = refl
if_live_later t u (Some e) le =
    elim (nat_lt t e.end) as (λ b. nat_lt t e.end ≡ b → if_live u (cond b (Some e) None) ≡ if_live u (Some e)) [
      | true ↦ λ h. refl
      | false ↦ λ h.
          let n : e.end ≤ t = ltb-false t e.end h in
          sym (cond-false (nat_lt u e.end) (Some e) None (ended_false u e (omega (arith, n, le))))
    ] refl

if_live_cond : (t : ℕ) (b : Bool) (o r : Option Entry) → if_live t (cond b o r) ≡ cond b (if_live t o) (if_live t r)
if_live_cond t true o r = refl
if_live_cond t false o r = refl

-- what is live is there, and ends later
if_live_is : (t : ℕ) (o : Option Entry) (e : Entry) → if_live t o ≡ Some e → (o ≡ Some e) × (t < e.end)
if_live_is t None e is = absurd (none-some e is)
if_live_is t (Some f) e is =
    elim (nat_lt t f.end) as (λ b. nat_lt t f.end ≡ b → cond b (Some f) None ≡ Some e → (Some f ≡ Some e) × (t < e.end)) [
      | true ↦ λ h s. (s, subst (λ (g : Entry). t < g.end) (same_Some f e s) (ltb-true t f.end h))
      | false ↦ λ h s. absurd (none-some e s)
    ] refl is

-- ---- maps

pub live_at-is : (t : ℕ) (m : Entries) (q : List ℕ) (e : Entry) → get (live_at t m) q ≡ Some e
    → (get m q ≡ Some e) × (t < e.end)
live_at-is t m q e is = if_live_is t (get m q) e (sym (get-live_at t m q) ∙ is)

-- what is there and ends later is live
pub live_at-got : (t : ℕ) (m : Entries) (q : List ℕ) (e : Entry) → get m q ≡ Some e → t < e.end
    → get (live_at t m) q ≡ Some e
live_at-got t m q e found lt = get-live_at t m q ∙ ap (if_live t) found ∙ if_live_some t e lt

pub live_at-empty : (t : ℕ) → live_at t empty ≡ empty
live_at-empty t = same _ _ (λ q. get-live_at t empty q ∙ ap (if_live t) (get-empty path_cmp q) ∙ sym (get-empty path_cmp q))

-- what is live later, of what is live now
pub live_at-later : (t u : ℕ) (m : Entries) → t ≤ u → live_at u (live_at t m) ≡ live_at u m
live_at-later t u m le = same _ _ (λ q.
    get-live_at u (live_at t m) q ∙ ap (if_live u) (get-live_at t m q) ∙ if_live_later t u (get m q) le
    ∙ sym (get-live_at u m q))

-- where each entry ends later, all are live
pub live_at-all : (t : ℕ) (m : Entries) → ((q : List ℕ) (e : Entry) → get m q ≡ Some e → t < e.end) → live_at t m ≡ m
live_at-all t m ends = same _ _ (λ q. get-live_at t m q ∙ each (get m q) (ends q))
  where
    each : (o : Option Entry) → ((e : Entry) → o ≡ Some e → t < e.end) → if_live t o ≡ o
    each None h = refl
    each (Some e) h = if_live_some t e (h e refl)

pub live_at-insert : (t : ℕ) (m : Entries) (p : List ℕ) (e : Entry) → t < e.end
    → live_at t (insert m p e) ≡ insert (live_at t m) p e
live_at-insert t m p e lt = same _ _ (λ q.
    get-live_at t (insert m p e) q ∙ ap (if_live t) (get-insert nat_list_cmp_total m p e q)
    ∙ if_live_cond t (tied q p) (Some e) (get m q)
    ∙ ap (λ (o : Option Entry). cond (tied q p) o (if_live t (get m q))) (if_live_some t e lt)
    ∙ ap (λ (o : Option Entry). cond (tied q p) (Some e) o) (sym (get-live_at t m q))
    ∙ sym (get-insert nat_list_cmp_total (live_at t m) p e q))

pub live_at-remove : (t : ℕ) (m : Entries) (p : List ℕ) → live_at t (remove m p) ≡ remove (live_at t m) p
live_at-remove t m p = same _ _ (λ q.
    get-live_at t (remove m p) q ∙ ap (if_live t) (get-remove nat_list_cmp_total m p q)
    ∙ if_live_cond t (tied q p) None (get m q)
    ∙ ap (λ (o : Option Entry). cond (tied q p) None o) (sym (get-live_at t m q))
    ∙ sym (get-remove nat_list_cmp_total (live_at t m) p q))

either : {A : Type 0} (b : Bool) (x y : A) → (b ≡ true → x ≡ y) → cond b x y ≡ y
either true x y h = h refl
either false x y h = refl

-- what is there once a prefix is removed was there before
pub remove_was_there : (m : Entries) (p q : List ℕ) (e : Entry) → get (remove m p) q ≡ Some e → get m q ≡ Some e
remove_was_there m p q e found = by (tied q p) (sym (get-remove nat_list_cmp_total m p q) ∙ found)
  where
    by : (b : Bool) → cond b None (get m q) ≡ Some e → get m q ≡ Some e
    by true is = absurd (none-some e is)
    by false is = is

-- to remove an entry that has ended changes nothing
pub live_at-remove_ended : (t : ℕ) (m : Entries) (p : List ℕ) (e : Entry) → get m p ≡ Some e → e.end ≤ t
    → live_at t (remove m p) ≡ live_at t m
live_at-remove_ended t m p e found le = live_at-remove t m p ∙ same _ _ (λ q.
    get-remove nat_list_cmp_total (live_at t m) p q
    ∙ either (tied q p) None (get (live_at t m) q) (λ is. sym (gone q (tied-true q p is))))
  where
    gone : (q : List ℕ) → q ≡ p → get (live_at t m) q ≡ None
    gone q is =
        get-live_at t m q ∙ ap (λ (k : List ℕ). if_live t (get m k)) is ∙ ap (if_live t) found
        ∙ cond-false (nat_lt t e.end) (Some e) None (ended_false t e le)

-- what is live was there
pub live_was_there : (t : ℕ) (m : Entries) (q : List ℕ) → IsTrue (contains_key (live_at t m) q)
    → IsTrue (contains_key m q)
live_was_there t m q h = there (get m q) (ap (λ (o : Option Entry). is_some o) (sym (get-live_at t m q)) ∙ h)
  where
    there : (o : Option Entry) → is_some (if_live t o) ≡ true → is_some o ≡ true
    there None h = h
    there (Some e) h = refl

pub longest_live : (t : ℕ) (m : Entries) (x p : List ℕ) (e : Entry) → IsLongest m x p e → t < e.end
    → IsLongest (live_at t m) x p e
longest_live t m x p e h lt = record {
  value = get-live_at t m p ∙ ap (if_live t) h.value ∙ if_live_some t e lt;
  covers_it = h.covers_it;
  longest = λ q key c. h.longest q (live_was_there t m q key) c;
}

pub uncovered_live : (t : ℕ) (m : Entries) (x : List ℕ) → (IsCovered m x → ⊥) → IsCovered (live_at t m) x → ⊥
uncovered_live t m x h c = h (c.0, live_was_there t m c.0 c.1, c.2)

-- what a filter by the end leaves
kept_live : (answers : Entry → Bool → Type 0) (t : ℕ) → ((e : Entry) (b : Bool) → answers e b → b ≡ nat_lt t e.end)
    → (before after : Option Entry) → IsKept answers before after → after ≡ if_live t before
kept_live answers t says None after kept = kept
kept_live answers t says (Some e) after kept =
    elim kept [
      | inl k ↦ k.1 ∙ sym (cond-true (nat_lt t e.end) (Some e) None (sym (says e true k.0)))
      | inr k ↦ k.1 ∙ sym (cond-false (nat_lt t e.end) (Some e) None (sym (says e false k.0)))
    ]

pub retained_live : (answers : Entry → Bool → Type 0) (t : ℕ) (before after : Entries)
    → ((e : Entry) (b : Bool) → answers e b → b ≡ nat_lt t e.end) → IsRetained answers before after
    → after ≡ live_at t before
retained_live answers t before after says h = same _ _ (λ q.
    kept_live answers t says (get before q) (get after q) (h.at q) ∙ sym (get-live_at t before q))

-- the longest is the one that was found
pub only_longest : (t : ℕ) (m : Entries) (x p q : List ℕ) (e f : Entry) → IsLongest m x p e → IsLongest m x q f
    → t < e.end → t < f.end
only_longest t m x p q e f a b lt = subst (λ (g : Entry). t < g.end) (IsLongest-unique m x p q e f a b).1 lt

pub len_less : (m : Entries) (p : List ℕ) (e : Entry) → get m p ≡ Some e → len (remove m p) < len m
len_less m p e found =
    let is : contains_key m p ≡ true = ap (λ (o : Option Entry). is_some o) found in
    let a : len (remove m p) ≡ len m - 1 = len-remove nat_list_cmp_total m p ∙ cond-true (contains_key m p) (len m - 1) (len m) is in
    let b : 0 < len m = positive (len m) (λ z.
    false≢true (ap (λ (o : Option Entry). is_some o) (sym (get-empty path_cmp p)) ∙ ap (λ (n : Entries). is_some (get n p)) (sym (empty_of_len m z)) ∙ is)) in
    omega (arith, a, b)
  where
    positive : (n : ℕ) → (n ≡ 0 → ⊥) → 0 < n
    positive n h = omega (arith, h)
