-- What follows for a cache whose time moves on.
use Rattle.std.proofs.Common.{◌≡◌, ℕ, ◌<◌, ◌≤◌, true, Some, None, ap, ◌∙◌, arith}
use Rattle.std.specs.Prelude.{nat_lt, max}
use Rattle.std.specs.FinMap.{get, insert}
use Rattle.std.proofs.Math.Nat.{le-max_left}
use Rattle.std.proofs.lemmas.Bool.{and_parts, cond-true, cond-false}
use Rattle.ddt_path.specs.declared.record.ReferralRecord.{ReferralRecord}
use Rattle.ddt_trie.specs.laws.Map.{get-insert_same}
use Rattle.ddt_cache.specs.Entry.{end_of, entry_of}
use Rattle.ddt_cache.specs.Live.{Known, live_at, moved}
use Rattle.ddt_cache.specs.Saved.{savable, has_room, is_saved, stored, stored_in}
use Rattle.ddt_cache.specs.InOrder.{IsCacheInOrder}
use Rattle.ddt_cache.specs.laws.Live.{Entries, if_live, get-live_at, live_at-later, live_at-all, later_true, ended_false}
use Rattle.ddt_cache.specs.laws.Known.{ends_later}

pub moved_together : (k : Known) (m n : ℕ) → moved n (moved m k) ≡ moved (max m n) k
moved_together k m n =
    let at : ℕ → Entries → Known = λ t l. record { time = t; live = l; roots = k.roots } in
    let u = max (max k.time m) n in
    let later : u ≡ max k.time (max m n) = omega arith in
    ap (at u) (live_at-later (max k.time m) u k.live (le-max_left (max k.time m) n)) ∙ ap (λ (t : ℕ). at t (live_at t k.live)) later

pub moved_again : (k : Known) (n : ℕ) → moved n (moved n k) ≡ moved n k
moved_again k n = let one : max n n ≡ n = omega arith in moved_together k n n ∙ ap (λ (t : ℕ). moved t k) one

pub moved_back : (k : Known) (n : ℕ) → IsCacheInOrder k → n ≤ k.time → moved n k ≡ k
moved_back k n h le =
    let at : ℕ → Entries → Known = λ t l. record { time = t; live = l; roots = k.roots } in
    let stays : max k.time n ≡ k.time = omega arith in
    ap (λ (t : ℕ). at t (live_at t k.live)) stays ∙ ap (at k.time) (live_at-all k.time k.live (λ p e is. (h.entries p e is).live))

-- ---- a record that is saved

stored_put : (k : Known) (r : ReferralRecord) → is_saved k.live r ≡ true
    → stored k.time k.live r ≡ insert k.live r.prefix (entry_of k.time r)
stored_put k r is = cond-true (is_saved k.live r) (insert k.live r.prefix (entry_of k.time r)) k.live is

get_later : (k : Known) (r : ReferralRecord) (t : ℕ) → is_saved k.live r ≡ true
    → get (live_at t (stored k.time k.live r)) r.prefix ≡ if_live t (Some (entry_of k.time r))
get_later k r t is =
    get-live_at t (stored k.time k.live r) r.prefix
    ∙ ap (λ (m : Entries). if_live t (get m r.prefix)) (stored_put k r is)
    ∙ ap (if_live t) (get-insert_same k.live r.prefix (entry_of k.time r))

pub saved_before : (k : Known) (r : ReferralRecord) (n : ℕ) → is_saved k.live r ≡ true → n < end_of k.time r
    → get (moved n (stored_in k r)).live r.prefix ≡ Some (entry_of k.time r)
saved_before k r n is lt =
    let e = entry_of k.time r in
    let some : k.time < end_of k.time r = ends_later k.time r (and_parts (savable r) (has_room k.live r.prefix) is).0 in
    get_later k r (max k.time n) is
    ∙ cond-true (nat_lt (max k.time n) (end_of k.time r)) (Some e) None (later_true (max k.time n) e (below k.time n (end_of k.time r) some lt))
  where
    below : (a b c : ℕ) → a < c → b < c → max a b < c
    below a b c x y = omega (arith, x, y)

pub saved_after : (k : Known) (r : ReferralRecord) (n : ℕ) → is_saved k.live r ≡ true → end_of k.time r ≤ n
    → get (moved n (stored_in k r)).live r.prefix ≡ None
saved_after k r n is le =
    let e = entry_of k.time r in
    get_later k r (max k.time n) is
    ∙ cond-false (nat_lt (max k.time n) (end_of k.time r)) (Some e) None (ended_false (max k.time n) e (above k.time n (end_of k.time r) le))
  where
    above : (a b c : ℕ) → c ≤ b → c ≤ max a b
    above a b c x = omega (arith, x)
