-- What holds of a cache is kept by whatever is done to it.
use Rattle.std.proofs.Common.{◌≡◌, ℕ, ◌<◌, ◌≤◌, ◌+◌, ◌*◌, Bool, cond, true, false, List, length, Some, None, Ok, Err, Result, refl, sym, ap, subst, ◌∙◌, arith, inl, inr}
use Rattle.std.specs.Prelude.{nat_lt, max, min, ◌&&◌, ◌||◌, ◌≢◌, OnOk, OnErr}
use Rattle.std.specs.Cmp.Lexicographic.{nat_list_cmp_total}
use Rattle.std.specs.FinMap.{get, insert, remove, empty, get-remove, get-empty}
use Rattle.std.proofs.lemmas.Bool.{and_parts, ltb-true, false≢true}
use Rattle.std.proofs.lemmas.Option.{none-some}
use Rattle.ddt_path.specs.declared.locator.Locator.{Locator}
use Rattle.ddt_path.specs.declared.action.Action.{Action}
use Rattle.ddt_path.specs.declared.action.Action.TheVariants.{NodeReferral, MsReferral, MsAck, MsNotRegistered, DelegationHole, NotAuthoritative}
use Rattle.ddt_path.specs.declared.record.ReferralRecord.{ReferralRecord}
use Rattle.ddt_trie.specs.PrefixMap.{path_cmp}
use Rattle.ddt_trie.specs.laws.Map.{found_after_insert}
use Rattle.ddt_trie.specs.laws.Entry.{tied}
use Rattle.ddt_cache.specs.declared.cache_entry.Entry.{Entry}
use Rattle.ddt_cache.specs.Moment.{last_moment, minute}
use Rattle.ddt_cache.specs.Entry.{is_positive, is_negative, most_minutes, entry_of}
use Rattle.ddt_cache.specs.Live.{Known, live_at, known_of, nothing_known, moved, forgotten}
use Rattle.ddt_cache.specs.Saved.{savable, has_room, is_saved, stored, stored_in}
use Rattle.ddt_cache.specs.InOrder.{IsEntryInOrder, IsCacheInOrder}
use Rattle.ddt_cache.specs.laws.Live.{Entries, live_at-is}
use Rattle.ddt_cache.specs.laws.Size.{len_dropped, len_removed, len_inserted, len_none}

pub in_order_along : (j k : Known) → j ≡ k → IsCacheInOrder k → IsCacheInOrder j
in_order_along j k same h = subst IsCacheInOrder (sym same) h

-- ---- one entry

pub entry_later : (t u : ℕ) (p : List ℕ) (e : Entry) → t ≤ u → u < e.end → IsEntryInOrder t p e → IsEntryInOrder u p e
entry_later t u p e le lt h = record {
  live = lt;
  day = let a = h.day in omega (arith, a, le);
  negative = λ is. let a = h.negative is in omega (arith, a, le);
  authoritative = h.authoritative;
  locator = h.locator;
  below_root = h.below_root;
  few = h.few;
}

-- the entry of a record that is saved
module _ (t ttl : ℕ) (p : List ℕ) (servers : List Locator) (few : length servers ≤ 8) where
  made : Action → Entry
  made a = record { action = a; servers = servers; end = t + min ttl (most_minutes a) * minute }

  positive : (a : Action) → most_minutes a ≡ 1440 → is_negative a ≡ false → a ≢ NotAuthoritative → 0 < ttl
      → (nat_lt 0 (length servers) && nat_lt 0 (length p)) ≡ true → IsEntryInOrder t p (made a)
  unfolding made
  positive a most not_negative other some names =
      let two = and_parts (nat_lt 0 (length servers)) (nat_lt 0 (length p)) names in
      record {
        live = omega (arith, most, some);
        day = omega (arith, most);
        negative = λ is. absurd (false≢true (sym not_negative ∙ is));
        authoritative = other;
        locator = λ _. ltb-true 0 (length servers) two.0;
        below_root = λ _. ltb-true 0 (length p) two.1;
        few = few;
      }

  negative : (a : Action) → most_minutes a ≡ 15 → is_positive a ≡ false → a ≢ NotAuthoritative → 0 < ttl
      → IsEntryInOrder t p (made a)
  unfolding made
  negative a most not_positive other some = record {
    live = omega (arith, most, some);
    day = omega (arith, most);
    negative = λ _. omega (arith, most);
    authoritative = other;
    locator = λ is. absurd (false≢true (sym not_positive ∙ is));
    below_root = λ is. absurd (false≢true (sym not_positive ∙ is));
    few = few;
  }

  by_action : (a : Action) → 0 < ttl
      → (is_negative a || (is_positive a && (nat_lt 0 (length servers) && nat_lt 0 (length p)))) ≡ true
      → IsEntryInOrder t p (made a)
  by_action NodeReferral some is = positive NodeReferral refl refl (λ e. cc) some is
  by_action MsReferral some is = positive MsReferral refl refl (λ e. cc) some is
  by_action MsAck some is = positive MsAck refl refl (λ e. cc) some is
  by_action MsNotRegistered some is = negative MsNotRegistered refl refl (λ e. cc) some
  by_action DelegationHole some is = negative DelegationHole refl refl (λ e. cc) some
  by_action NotAuthoritative some is = absurd (false≢true is)

  pub entry_in_order : (a : Action)
      → (nat_lt 0 ttl && (is_negative a || (is_positive a && (nat_lt 0 (length servers) && nat_lt 0 (length p))))) ≡ true
      → IsEntryInOrder t p (record { action = a; servers = servers; end = t + min ttl (most_minutes a) * minute })
  unfolding made
  entry_in_order a is =
      let two = and_parts (nat_lt 0 ttl) (is_negative a || (is_positive a && (nat_lt 0 (length servers) && nat_lt 0 (length p)))) is in
      by_action a (ltb-true 0 ttl two.0) two.1

-- ---- a cache

pub nothing_in_order : (roots : List Locator) → length roots ≤ 8 → IsCacheInOrder (nothing_known roots)
nothing_in_order roots few = record {
  time = omega arith;
  count = len_none empty refl;
  few = few;
  entries = λ p e is. absurd (none-some e (sym (get-empty path_cmp p) ∙ is));
}

pub moved_in_order : (k : Known) (now : ℕ) → now ≤ last_moment → IsCacheInOrder k → IsCacheInOrder (moved now k)
moved_in_order k now within h = record {
  time = let a = h.time in omega (arith, a, within);
  count = len_dropped (max k.time now) k.live (live_at (max k.time now) k.live) refl h.count;
  few = h.few;
  entries = λ p e is.
      let was = live_at-is (max k.time now) k.live p e is in
      entry_later k.time (max k.time now) p e (omega arith) was.1 (h.entries p e was.0);
}

pub forgotten_in_order : (k : Known) (p : List ℕ) → IsCacheInOrder k → IsCacheInOrder (forgotten k p)
forgotten_in_order k p h = record {
  time = h.time;
  count = len_removed k.live (remove k.live p) p refl h.count;
  few = h.few;
  entries = λ q e is. h.entries q e (there q e (tied q p) (sym (get-remove nat_list_cmp_total k.live p q) ∙ is));
}
  where
    there : (q : List ℕ) (e : Entry) (b : Bool) → cond b None (get k.live q) ≡ Some e → get k.live q ≡ Some e
    there q e true is = absurd (none-some e is)
    there q e false is = is

inserted_in_order : (k : Known) (p : List ℕ) (e : Entry) → has_room k.live p ≡ true → IsEntryInOrder k.time p e
    → IsCacheInOrder k
    → IsCacheInOrder (record { time = k.time; live = insert k.live p e; roots = k.roots })
inserted_in_order k p e room good h = record {
  time = h.time;
  count = len_inserted k.live (insert k.live p e) p e refl room h.count;
  few = h.few;
  entries = λ q f is. elim (found_after_insert k.live p e q f is) [
    | inl new ↦ subst (λ (r : List ℕ). IsEntryInOrder k.time r f) (sym new.0) (subst (λ (g : Entry). IsEntryInOrder k.time p g) new.1 good)
    | inr old ↦ h.entries q f old
  ];
}

pub stored_in_order : (k : Known) (r : ReferralRecord) → length r.servers ≤ 8 → IsCacheInOrder k → IsCacheInOrder (stored_in k r)
stored_in_order k r few h =
    elim (is_saved k.live r) as (λ b. is_saved k.live r ≡ b
    → IsCacheInOrder (record { time = k.time; live = cond b (insert k.live r.prefix (entry_of k.time r)) k.live; roots = k.roots })) [
      | true ↦ λ is.
          let two = and_parts (savable r) (has_room k.live r.prefix) is in
          inserted_in_order k r.prefix (entry_of k.time r) two.1 (entry_in_order k.time r.ttl r.prefix r.servers few r.action two.0) h
      | false ↦ λ is. h
    ] refl

-- whether a record is saved or memory runs out
pub saved_in_order : {A E : Type 0} (result : Result A E) (t : ℕ) (m n : Entries) (roots : List Locator) (r : ReferralRecord) → length r.servers ≤ 8
    → OnOk result (live_at t n ≡ stored t (live_at t m) r) → OnErr result (live_at t n ≡ live_at t m)
    → IsCacheInOrder (known_of t m roots) → IsCacheInOrder (known_of t n roots)
saved_in_order (Ok _) t m n roots r few stays refused h =
    let at : Entries → Known = λ l. record { time = t; live = l; roots = roots } in
    in_order_along (known_of t n roots) (stored_in (known_of t m roots) r) (ap at stays) (stored_in_order (known_of t m roots) r few h)
saved_in_order (Err _) t m n roots r few stays refused h =
    let at : Entries → Known = λ l. record { time = t; live = l; roots = roots } in
    in_order_along (known_of t n roots) (known_of t m roots) (ap at refused) h
