-- What a cache knows, of entries some of which may have ended.
use Rattle.std.proofs.Common.{◌≡◌, ℕ, ◌<◌, ◌≤◌, Bool, cond, true, false, List, [], length, take, Some, None, Option, refl, sym, ap, subst, ◌∙◌, arith, inl, inr, ◌⊎◌}
use Rattle.std.specs.Prelude.{is_some, nat_lt, max, min, ◌&&◌, ◌||◌, IsTrue}
use Rattle.std.specs.FinMap.{get, insert, remove, contains_key}
use Rattle.std.proofs.lemmas.Bool.{and_parts, and_from, cond-true, ltb-true, not_from_false, false_from_ne_true}
use Rattle.std.proofs.Math.Nat.{le-max_left}
use Rattle.ddt_path.specs.declared.locator.Locator.{Locator}
use Rattle.ddt_path.specs.declared.action.Action.{Action}
use Rattle.ddt_path.specs.declared.action.Action.TheVariants.{NodeReferral, MsReferral, MsAck, MsNotRegistered, DelegationHole, NotAuthoritative}
use Rattle.ddt_path.specs.declared.record.ReferralRecord.{ReferralRecord}
use Rattle.ddt_path.specs.laws.Cover.{take-covered, length-covered}
use Rattle.ddt_trie.specs.PrefixMap.{IsCovered, IsLongest}
use Rattle.ddt_trie.specs.laws.Map.{IsLongest-unique}
use Rattle.ddt_cache.specs.declared.cache_entry.Entry.{Entry}
use Rattle.ddt_cache.specs.Entry.{is_positive, is_negative, most_minutes, end_of, entry_of, root_entry}
use Rattle.ddt_cache.specs.Live.{Known, is_live, live_at, known_of, moved, forgotten}
use Rattle.ddt_cache.specs.Saved.{savable, has_room, is_saved, is_added, stored, names_servers}
use Rattle.ddt_cache.specs.Found.{IsFound}
use Rattle.ddt_cache.specs.laws.Live.{Entries, if_live, get-live_at, live_at-later, live_at-remove, live_at-insert, longest_live, uncovered_live, live_was_there}

-- ---- what is known after a call

pub same_known : (t : ℕ) (m n : Entries) (roots : List Locator) → live_at t n ≡ live_at t m
    → known_of t n roots ≡ known_of t m roots
same_known t m n roots alike = let at : Entries → Known = λ l. record { time = t; live = l; roots = roots } in ap at alike

pub moved_known : (t now u : ℕ) (m : Entries) (roots : List Locator) → u ≡ max t now
    → known_of u m roots ≡ moved now (known_of t m roots)
moved_known t now u m roots is =
    let at : ℕ → Entries → Known = λ v l. record { time = v; live = l; roots = roots } in
    let le : t ≤ u = subst (λ (v : ℕ). t ≤ v) (sym is) (le-max_left t now) in
    ap (at u) (sym (live_at-later t u m le)) ∙ ap (λ (v : ℕ). at v (live_at v (live_at t m))) is

pub live_twice : (t : ℕ) (m n : Entries) → n ≡ live_at t m → live_at t n ≡ live_at t m
live_twice t m n is = ap (live_at t) is ∙ live_at-later t t m (omega arith)

pub forgotten_known : (t : ℕ) (m n : Entries) (roots : List Locator) (p : List ℕ) → n ≡ remove m p
    → known_of t n roots ≡ forgotten (known_of t m roots) p
forgotten_known t m n roots p is =
    let at : Entries → Known = λ l. record { time = t; live = l; roots = roots } in
    ap at (ap (live_at t) is ∙ live_at-remove t m p)

-- whether an entry that was removed was live
pub live_key : (t : ℕ) (m : Entries) (p : List ℕ) (o : Option Entry) → o ≡ get m p
    → is_live t o ≡ contains_key (live_at t m) p
live_key t m p o is = ap (is_live t) is ∙ shown (get m p) ∙ ap (λ (r : Option Entry). is_some r) (sym (get-live_at t m p))
  where
    shown : (r : Option Entry) → is_live t r ≡ is_some (if_live t r)
    shown None = refl
    shown (Some e) = picked (nat_lt t e.end)
      where
        picked : (b : Bool) → b ≡ is_some (cond b (Some e) None)
        picked true = refl
        picked false = refl

-- ---- what is found

-- what is found among all entries, where those that cover x and have ended are gone
pub found_known : (t : ℕ) (m : Entries) (x p : List ℕ) (e root : Entry) (roots : List Locator) (k : Known)
    → root ≡ root_entry roots
    → ((q : List ℕ) (f : Entry) → IsLongest m x q f → t < f.end)
    → IsLongest m x p e ⊎ ((IsCovered m x → ⊥) × (p ≡ []) × (e ≡ root)) → known_of t m roots ≡ k → IsFound k x p e
found_known t m x p e root roots k is live found same = subst (λ (j : Known). IsFound j x p e) same (at found)
  where
    at : IsLongest m x p e ⊎ ((IsCovered m x → ⊥) × (p ≡ []) × (e ≡ root)) → IsFound (known_of t m roots) x p e
    at (inl h) = inl (longest_live t m x p e h (live p e h))
    at (inr h) = inr (record { uncovered = uncovered_live t m x h.0; everything = h.1; entry = h.2 ∙ is })

covered_by : (m : Entries) (x p : List ℕ) (e : Entry) → IsLongest m x p e → IsCovered m x
covered_by m x p e h = (p, ap (λ (o : Option Entry). is_some o) h.value, h.covers_it)

-- there is one answer
pub IsFound-unique : (k : Known) (x p q : List ℕ) (e f : Entry) → IsFound k x p e → IsFound k x q f → (p ≡ q) × (e ≡ f)
IsFound-unique k x p q e f (inl a) (inl b) = IsLongest-unique k.live x p q e f a b
IsFound-unique k x p q e f (inl a) (inr b) = absurd (b.uncovered (covered_by k.live x p e a))
IsFound-unique k x p q e f (inr a) (inl b) = absurd (a.uncovered (covered_by k.live x q f b))
IsFound-unique k x p q e f (inr a) (inr b) = (a.everything ∙ sym b.everything, a.entry ∙ sym b.entry)

-- the prefix that is found is the identifier's front of its length
pub found_front : (k : Known) (x p : List ℕ) (e : Entry) → IsFound k x p e
    → (length p ≤ length x) × (take (length p) x ≡ p)
found_front k x p e (inl h) = (length-covered p x h.covers_it, take-covered p x h.covers_it)
found_front k x p e (inr h) = rw h.everything (omega arith, refl)

-- ---- what is saved

positive_product : (n k : ℕ) → 0 < n → 0 < k → 0 < min n k
positive_product n k x y = omega (arith, x, y)

some_minutes : (a : Action) (names : Bool) → (is_negative a || (is_positive a && names)) ≡ true → 0 < most_minutes a
some_minutes NodeReferral names is = omega arith
some_minutes MsReferral names is = omega arith
some_minutes MsAck names is = omega arith
some_minutes MsNotRegistered names is = omega arith
some_minutes DelegationHole names is = omega arith
some_minutes NotAuthoritative names is = cc

-- a record that is saved ends later
pub ends_later : (t : ℕ) (r : ReferralRecord) → savable r ≡ true → t < end_of t r
ends_later t r is =
    let two = and_parts (nat_lt 0 r.ttl) (is_negative r.action || (is_positive r.action && names_servers r)) is in
    let a : 0 < r.ttl = ltb-true 0 r.ttl two.0 in
    let least : 0 < min r.ttl (most_minutes r.action) = positive_product r.ttl (most_minutes r.action) a (some_minutes r.action (names_servers r) two.1) in
    omega (arith, least)

-- what a record that is saved leaves
pub stored_is : (t : ℕ) (old new last : Entries) (r : ReferralRecord) (e : Entry) → savable r ≡ true
    → has_room (live_at t old) r.prefix ≡ true
    → live_at t new ≡ live_at t old → e ≡ entry_of t r → last ≡ insert new r.prefix e
    → live_at t last ≡ stored t (live_at t old) r
stored_is t old new last r e is room alike entry put =
    ap (live_at t) (put ∙ ap (insert new r.prefix) entry) ∙ live_at-insert t new r.prefix (entry_of t r) (ends_later t r is)
    ∙ ap (λ (l : Entries). insert l r.prefix (entry_of t r)) alike
    ∙ sym (cond-true (is_saved (live_at t old) r) (insert (live_at t old) r.prefix (entry_of t r)) (live_at t old) (and_from (savable r) _ is room))

-- the prefix of a live entry is a key, also once what has ended is gone
pub live_is_key : (t : ℕ) (old new : Entries) (p : List ℕ) → live_at t new ≡ live_at t old
    → IsTrue (contains_key (live_at t old) p) → is_some (get new p) ≡ true
live_is_key t old new p alike key = live_was_there t new p (ap (λ (l : Entries). contains_key l p) alike ∙ key)

-- a record that is saved, and takes the place of no live entry, is saved as one entry more
pub added_is : (live : Entries) (r : ReferralRecord) → savable r ≡ true → has_room live r.prefix ≡ true
    → (IsTrue (contains_key live r.prefix) → ⊥) → IsTrue (is_added live r)
added_is live r is room apart =
    and_from (is_saved live r) _ (and_from (savable r) _ is room)
    (not_from_false (contains_key live r.prefix) (false_from_ne_true (contains_key live r.prefix) apart))
