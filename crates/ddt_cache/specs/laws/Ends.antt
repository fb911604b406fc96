-- Which ends are noted, whatever is added or taken off.
use Rattle.std.proofs.Common.{◌≡◌, ◌⊎◌, ℕ, ◌<◌, ◌≤◌, Bool, cond, true, false, List, Option, Some, None, refl, sym, ap, subst, ◌∙◌, arith, inl, inr}
use Rattle.std.specs.Prelude.{is_some, nat_lt}
use Rattle.std.specs.declared.cmp.Ordering.{Ordering}
use Rattle.std.specs.Ordering.{nat_cmp, is_eq, is_gt, ordering_then, MatchOrdering}
use Rattle.std.specs.declared.cmp.Ordering.TheVariants.{Less, Equal, Greater}
use Rattle.std.specs.Cmp.{Equal-is, tied_then, tied_itself, ranks}
use Rattle.std.proofs.lemmas.Cmp.{nat_cmp_total}
use Rattle.std.specs.Cmp.Lexicographic.{nat_list_cmp_total}
use Rattle.std.specs.FinMap.{get, insert, remove, empty, contains_key, get-insert, get-remove, get-empty, len, nat_cmp-IsAntisymmetric}
use Rattle.std.specs.BTreeSet.{BTreeSet, contains}
use Rattle.std.proofs.lemmas.Bool.{and_parts, and_from, cond-true, cond-false, false≢true, ltb-true}
use Rattle.std.proofs.lemmas.Option.{none-some, same_Some}
use Rattle.ddt_trie.specs.PrefixMap.{path_cmp}
use Rattle.ddt_trie.specs.laws.Entry.{tied, tied_self, tied-true, is_some-None}
use Rattle.ddt_cache.specs.declared.cache_entry.Entry.{Entry}
use Rattle.ddt_cache.specs.declared.ends_by_time.Ends.{Ends}
use Rattle.ddt_cache.specs.Live.{live_at}
use Rattle.ddt_cache.specs.Saved.{has_room, most_live_entries}
use Rattle.ddt_cache.specs.Ends.{end_cmp, IsUnlisted, IsNoted, AreNoted}
use Rattle.ddt_cache.specs.laws.Live.{Entries, if_live, get-live_at, live_at-is, live_at-all, live_was_there, same, live_at-remove}
use Rattle.ddt_cache.specs.laws.Size.{len-live_at, room_below}

-- ---- the order of ends

pub end_self : (a : ℕ × List ℕ) → is_eq (end_cmp a a) ≡ true
end_self a =
    sym (tied_then (nat_cmp a.0 a.0) (path_cmp a.1 a.1))
    ∙ and_from (is_eq (nat_cmp a.0 a.0)) (is_eq (path_cmp a.1 a.1)) (ap is_eq (tied_itself nat_cmp_total a.0)) (tied_self a.1)

pub end_is : (a b : ℕ × List ℕ) → is_eq (end_cmp a b) ≡ true → (a.0 ≡ b.0) × (a.1 ≡ b.1)
end_is a b e =
    let two = and_parts (is_eq (nat_cmp a.0 b.0)) (is_eq (path_cmp a.1 b.1)) (tied_then (nat_cmp a.0 b.0) (path_cmp a.1 b.1) ∙ e) in
    (nat_cmp-IsAntisymmetric a.0 b.0 ((Equal-is (nat_cmp a.0 b.0)).0 two.0), tied-true a.1 b.1 two.1)

-- ---- one end more or less

yes_if : (b c : Bool) → c ≡ true → cond b true c ≡ true
yes_if true c h = refl
yes_if false c h = h

-- a list with one end more has it, and what it had
pub listed_new : (s t : BTreeSet (ℕ × List ℕ)) (k : ℕ × List ℕ) → ((q : ℕ × List ℕ) → contains end_cmp t q ≡ cond (is_eq (end_cmp k q)) true (contains end_cmp s q))
    → contains end_cmp t k ≡ true
listed_new s t k h = h k ∙ cond-true (is_eq (end_cmp k k)) true (contains end_cmp s k) (end_self k)

pub listed_still : (s t : BTreeSet (ℕ × List ℕ)) (k q : ℕ × List ℕ) → ((q : ℕ × List ℕ) → contains end_cmp t q ≡ cond (is_eq (end_cmp k q)) true (contains end_cmp s q))
    → contains end_cmp s q ≡ true → contains end_cmp t q ≡ true
listed_still s t k q h is = h q ∙ yes_if (is_eq (end_cmp k q)) (contains end_cmp s q) is

-- a list with one end less has all others
pub listed_but : (s t : BTreeSet (ℕ × List ℕ)) (k q : ℕ × List ℕ) → ((q : ℕ × List ℕ) → contains end_cmp t q ≡ cond (is_eq (end_cmp k q)) false (contains end_cmp s q))
    → contains end_cmp s q ≡ true → ((q.1 ≡ k.1) × (q.0 ≡ k.0)) ⊎ (contains end_cmp t q ≡ true)
listed_but s t k q h is =
    elim (is_eq (end_cmp k q)) as (λ b. is_eq (end_cmp k q) ≡ b → ((q.1 ≡ k.1) × (q.0 ≡ k.0)) ⊎ (contains end_cmp t q ≡ true)) [
      | true ↦ λ e. let two = end_is k q e in inl (sym two.1, sym two.0)
      | false ↦ λ e. inr (h q ∙ cond-false (is_eq (end_cmp k q)) false (contains end_cmp s q) e ∙ is)
    ] refl

-- the first end is no later than each
pub first_least : (k q : ℕ × List ℕ) → is_gt (end_cmp k q) ≡ false → k.0 ≤ q.0
first_least k q h = at (nat_cmp k.0 q.0) refl h
  where
    ranked : (r : Ordering) → nat_cmp k.0 q.0 ≡ r → MatchOrdering r (k.0 < q.0) (k.0 ≡ q.0) (q.0 < k.0)
    ranked r e = subst (λ (o : Ordering). MatchOrdering o (k.0 < q.0) (k.0 ≡ q.0) (q.0 < k.0)) e (ranks k.0 q.0)

    at : (r : Ordering) → nat_cmp k.0 q.0 ≡ r → is_gt (ordering_then r (path_cmp k.1 q.1)) ≡ false → k.0 ≤ q.0
    at Less e g = let lt : k.0 < q.0 = ranked Less e in omega (arith, lt)
    at Equal e g = let same : k.0 ≡ q.0 = ranked Equal e in omega (arith, same)
    at Greater e g = absurd (false≢true (sym g))

-- ---- the ends of entries

pub noted_none : (s : Ends) (m : Entries) → m ≡ empty → AreNoted s m
noted_none s m is p e found = absurd (none-some e (sym (get-empty path_cmp p) ∙ ap (λ (l : Entries). get l p) (sym is) ∙ found))

-- an entry that is removed, and its end with it
pub noted_removed : (s t : Ends) (m n : Entries) (p : List ℕ) (end : ℕ) → n ≡ remove m p
    → ((q : List ℕ) (k : ℕ) → IsNoted s q k → ((q ≡ p) × (k ≡ end)) ⊎ IsNoted t q k) → AreNoted s m → AreNoted t n
noted_removed s t m n p end is but h q e found = at (tied q p) refl (sym (get-remove nat_list_cmp_total m p q) ∙ ap (λ (l : Entries). get l q) (sym is) ∙ found)
  where
    at : (b : Bool) → tied q p ≡ b → cond b None (get m q) ≡ Some e → IsNoted t q e.end
    at true t f = absurd (none-some e f)
    at false apart f = elim (but q e.end (h q e f)) [
      | inl same ↦ absurd (false≢true (sym apart ∙ ap (λ (k : List ℕ). tied k p) same.0 ∙ tied_self p))
      | inr noted ↦ noted
    ]

-- an entry more, or another one in its place
pub noted_inserted : (s t : Ends) (m n : Entries) (p : List ℕ) (e : Entry) → n ≡ insert m p e → IsNoted t p e.end
    → ((q : List ℕ) (k : ℕ) → IsNoted s q k → (q ≡ p) ⊎ IsNoted t q k) → AreNoted s m → AreNoted t n
noted_inserted s t m n p e is own others h q f found =
    at (tied q p) refl (sym (get-insert nat_list_cmp_total m p e q) ∙ ap (λ (l : Entries). get l q) (sym is) ∙ found)
  where
    at : (b : Bool) → tied q p ≡ b → cond b (Some e) (get m q) ≡ Some f → IsNoted t q f.end
    at true t' g =
        subst (λ (x : Entry). IsNoted t q x.end) (same_Some e f g) (subst (λ (x : List ℕ). IsNoted t x e.end) (sym (tied-true q p t')) own)
    at false apart g = elim (others q f.end (h q f g)) [
      | inl same ↦ absurd (false≢true (sym apart ∙ ap (λ (k : List ℕ). tied k p) same ∙ tied_self p))
      | inr noted ↦ noted
    ]

live_there : (t : ℕ) (m : Entries) (p : List ℕ) (e : Entry) → contains_key (live_at t m) p ≡ true → get m p ≡ Some e → t < e.end
live_there t m p e key found =
    shown (nat_lt t e.end) refl (ap (λ (o : Option Entry). is_some o) (sym (get-live_at t m p ∙ ap (if_live t) found)) ∙ key)
  where
    shown : (b : Bool) → nat_lt t e.end ≡ b → is_some (cond b (Some e) None) ≡ true → t < e.end
    shown true is k = ltb-true t e.end is
    shown false is k = absurd (false≢true k)

-- an end that has come is taken off, and its prefix has a live entry, whose end is another
pub noted_live : (s s' : Ends) (t : ℕ) (m : Entries) (p : List ℕ) → contains_key (live_at t m) p ≡ true
    → ((end : ℕ) × (end ≤ t) × ((q : List ℕ) (k : ℕ) → IsNoted s q k → ((q ≡ p) × (k ≡ end)) ⊎ IsNoted s' q k)) → AreNoted s m → AreNoted s' m
noted_live s s' t m p key but h q e found = elim (but.2 q e.end (h q e found)) [
  | inl same ↦
      let later = live_there t m p e key (ap (λ (k : List ℕ). get m k) (sym same.0) ∙ found) in
      absurd (omega (arith, later, same.1, but.1))
  | inr noted ↦ noted
]

-- a prefix without a live entry is removed
pub live_without : (t : ℕ) (m n : Entries) (p : List ℕ) → n ≡ remove m p → contains_key (live_at t m) p ≡ false → live_at t n ≡ live_at t m
live_without t m n p is none = ap (live_at t) is ∙ live_at-remove t m p ∙ same _ _ (λ q. get-remove nat_list_cmp_total (live_at t m) p q ∙ at q (tied q p) refl)
  where
    at : (q : List ℕ) (b : Bool) → tied q p ≡ b → cond b None (get (live_at t m) q) ≡ get (live_at t m) q
    at q true e = sym (ap (λ (k : List ℕ). get (live_at t m) k) (tied-true q p e) ∙ is_some-None (get (live_at t m) p) none)
    at q false e = refl

-- ---- where no end that is listed has come

pub all_live : (s : Ends) (t : ℕ) (m : Entries) → ((p : List ℕ) (n : ℕ) → IsNoted s p n → (t < n) ⊎ IsUnlisted s n)
    → ((n : ℕ) → IsUnlisted s n → t < n) → AreNoted s m → m ≡ live_at t m
all_live s t m later unlisted h = sym (live_at-all t m (λ p e found. elim (later p e.end (h p e found)) [ inl lt ↦ lt | inr u ↦ unlisted e.end u ]))

pub noted_passed : (s s' : Ends) (t : ℕ) (m n : Entries) → n ≡ live_at t m
    → ((p : List ℕ) (k : ℕ) → t < k → IsNoted s p k → IsNoted s' p k) → AreNoted s m → AreNoted s' n
noted_passed s s' t m n is passes h p e found =
    let was = live_at-is t m p e (ap (λ (l : Entries). get l p) (sym is) ∙ found) in
    passes p e.end was.1 (h p e was.0)

-- ---- room

-- a live entry's prefix has room
pub room_at_live : (t : ℕ) (m : Entries) (p : List ℕ) → contains_key (live_at t m) p ≡ true → (has_room (live_at t m) p ≡ true) × (has_room m p ≡ true)
room_at_live t m p key = (rw key refl, rw (live_was_there t m p key) refl)

-- what is left has the room that the live entries have
pub room_dropped : (t : ℕ) (m n : Entries) (p : List ℕ) → live_at t n ≡ live_at t m → (len n < most_live_entries) ⊎ (n ≡ live_at t m)
    → has_room n p ≡ has_room (live_at t m) p
room_dropped t m n p alike (inl few) =
    let least : len (live_at t n) ≤ len n = len-live_at t n in
    let same : len (live_at t n) ≡ len (live_at t m) = ap (λ (l : Entries). len l) alike in
    room_below n p few ∙ sym (room_below (live_at t m) p (omega (arith, few, least, same)))
room_dropped t m n p alike (inr is) = ap (λ (l : Entries). has_room l p) is

-- where none is enough, all that ended went
pub len_dropped_all : (t : ℕ) (m n : Entries) → live_at t n ≡ live_at t m → (len n < 0) ⊎ (n ≡ live_at t m) → len n ≡ len (live_at t n)
len_dropped_all t m n alike (inl few) = absurd (omega (arith, few))
len_dropped_all t m n alike (inr is) = ap (λ (l : Entries). len l) (is ∙ sym alike)
