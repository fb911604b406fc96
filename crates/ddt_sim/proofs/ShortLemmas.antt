-- A trail over honest servers is short: each referral leads to a longer zone, and one set is asked to its end.
use Rattle.std.proofs.Common.{◌≡◌, ℕ, ◌+◌, ◌<◌, ◌≤◌, Bool, true, false, ◌&&◌, List, ◌∷◌, length, Option, sym, ap, ◌∙◌, arith, inl, inr}
use Rattle.std.specs.Prelude.{IsTrue, nat_lt}
use Rattle.std.specs.List.{All, Contains, filter}
use Rattle.std.proofs.lemmas.List.Elements.{All-head, All-tail}
use Rattle.std.proofs.lemmas.Bool.{or_right, and_parts, and_from, and_right, lt-ltb, ltb-true, le-ltb}
use Rattle.ddt_path.specs.declared.locator.Locator.{Locator}
use Rattle.ddt_path.specs.declared.record.Outcome.{Outcome}
use Rattle.ddt_path.specs.declared.record.ReferralRecord.{ReferralRecord}
use Rattle.ddt_path.specs.declared.action.Action.TheVariants.{MsNotRegistered}
use Rattle.ddt_path.specs.declared.xeid.Xeid.{Xeid}
use Rattle.ddt_path.specs.Covers.{covers}
use Rattle.ddt_path.specs.Locators.{lists}
use Rattle.ddt_path.specs.Path.{xeid_path, is_path}
use Rattle.ddt_path.specs.laws.Member.{in_contained}
use Rattle.ddt_path.specs.laws.Filter.{fewer}
use Rattle.ddt_path.specs.laws.Locator.{lists_at}
use Rattle.ddt_register.specs.declared.zone.Zone.{Zone}
use Rattle.ddt_register.specs.declared.register.Register.{Register}
use Rattle.ddt_check.specs.Zones.{locators_of}
use Rattle.ddt_check.specs.Says.{says, referral_to}
use Rattle.ddt_path.specs.Actions.{IsReferral}
use Rattle.ddt_check.specs.laws.Statements.{AnswersHaveServers, ServersOfAGroupAgree, AnswersCanBeSent}
use Rattle.ddt_wire.specs.Referral.{message_of, message_record}
use Rattle.ddt_wire.specs.laws.Statements.{MessagesAreRead, RecordsComeBack}
use Rattle.ddt_resolver.specs.State.{State, opening}
use Rattle.ddt_resolver.specs.Records.{start_at}
use Rattle.ddt_resolver.specs.Order.{IsStateInOrder, IsLookup}
use Rattle.ddt_resolver.specs.laws.Shape.{opening_lookup}
use Rattle.ddt_sim.specs.declared.lookup_result.Hop.{Hop}
use Rattle.ddt_sim.specs.Sound.{IsSound, IsSoundLookup}
use Rattle.ddt_sim.specs.Headline.{IsHonestHop, zones_over}
use Rattle.ddt_sim.specs.Trail as trail
use Rattle.ddt_sim.specs.Trail.{IsHopTo, IsTrail, HasTrail}
use Rattle.ddt_sim.proofs.SoundLemmas.{KeepsLaws, begun}

-- a zone that covers x and is longer than n
abbrev is_deeper : List ℕ → ℕ → Zone → Bool
is_deeper x n z = covers z.prefix x && nat_lt n (length z.prefix)

-- how many there are
abbrev deeper : Register → List ℕ → ℕ → ℕ
deeper r x n = length (filter (is_deeper x n) r.zones)

deeper_than : (x : List ℕ) (n m : ℕ) (z : Zone) → n ≤ m → is_deeper x m z ≡ true → is_deeper x n z ≡ true
deeper_than x n m z le deep =
    let p = and_parts (covers z.prefix x) (nat_lt m (length z.prefix)) deep in
    let q : m < length z.prefix = ltb-true _ _ p.1 in and_from _ _ p.0 (lt-ltb n (length z.prefix) (omega arith))

not_deeper : (x : List ℕ) (z : Zone) → is_deeper x (length z.prefix) z ≡ false
not_deeper x z = and_right (covers z.prefix x) _ (le-ltb (length z.prefix) _ (omega arith))

-- fewer are longer than one of them
fewer_deeper : (r : Register) (x : List ℕ) (n : ℕ) (w : Zone) → Contains r.zones w → IsTrue (covers w.prefix x) → n < length w.prefix → deeper r x (length w.prefix) < deeper r x n
fewer_deeper r x n w among over lt =
    fewer (is_deeper x n) _ r.zones w (λ b deep. deeper_than x n (length w.prefix) b (omega arith) deep) (in_contained r.zones w among) (and_from _ _ over (lt-ltb n (length w.prefix) lt)) (not_deeper x w)

-- ---- what the laws of an accepted register and of the wire promise
pub record ShortLaws (r : Register) : Type 0 where
  pub keeps : KeepsLaws r
  pub servers : AnswersHaveServers r
  pub agree : ServersOfAGroupAgree r
  pub sendable : AnswersCanBeSent r
  pub messages : MessagesAreRead
  pub back : RecordsComeBack

module _ (r : Register) (laws : ShortLaws r) (x : Xeid) (id : IsTrue (is_path (xeid_path x))) (me : Locator) (roots : List Locator) (outcome : Outcome) where
  abbrev honest : Hop → Type 0
  honest = IsHonestHop r x me

  abbrev said : Locator → ReferralRecord
  said l = says r l (xeid_path x)

  -- what the reply of the first honest hop tells is what the register says there
  told : {l : Locator} {hop : Hop} {rec : ReferralRecord} (more : List Hop) → IsHopTo x me l hop rec → All honest (hop ∷ more) → rec ≡ said l
  told {l = l} {hop = hop} more to all =
      let h = All-head honest hop more all in
      let is = laws.messages.one hop.reply to.tells.message (message_of h.0 (said hop.to)) to.tells.spells h.2 in
      sym to.tells.same_record ∙ ap message_record is ∙ laws.back h.0 (said hop.to) (laws.sendable hop.to (xeid_path x) id).few_servers ∙ ap said to.to

  listed_first : (l : Locator) (rest : List Locator) → IsTrue (lists (l ∷ rest) l)
  listed_first l rest = lists_at (l ∷ rest) 0 l (omega arith)

  -- once each server that is left says MS-NOT-REGISTERED, only they are asked
  in_set : {saved start : Option (List ℕ)} {left : List Locator} {hops : List Hop} → IsTrail x me roots outcome saved start left hops → All honest hops
      → ((k : Locator) → IsTrue (lists left k) → (said k).action ≡ MsNotRegistered) → length hops ≤ length left
  in_set (trail.passes_on {left = rest} {hop = hop} {more = more} rec to k after) all same =
      let ih : length more ≤ length rest = in_set after (All-tail honest hop more all) (λ m listed. same m (or_right _ _ listed)) in omega arith
  in_set (trail.refers {l = l} {left = rest} {more = more} rec to k lower after) all same =
      let is = rw (← told more to all) at (same l (listed_first l rest)) in elim k [ inl a ↦ cc (a, is) | inr a ↦ cc (a, is) ]
  in_set (trail.starts_over {l = l} {left = rest} {more = more} p rec to k after) all same = let is = rw (← told more to all) at (same l (listed_first l rest)) in cc (k, is)
  in_set _ all same = omega arith

  -- From the servers of a zone: 8 hops at most, and one more for each longer zone.
  down : {saved start : Option (List ℕ)} {left : List Locator} {hops : List Hop} → IsTrail x me roots outcome saved start left hops → All honest hops → (z : Zone) → Contains r.zones z → IsTrue (covers z.prefix (xeid_path x))
      → left ≡ locators_of r z.group → length left ≤ 8 → length hops ≤ 8 + deeper r (xeid_path x) (length z.prefix)
  down (trail.passes_on {l = l} {left = rest} {hop = hop} {more = more} rec to k after) all z among over set few =
      let stays : length more ≤ length rest = in_set after (All-tail honest hop more all) (λ m listed. rw (laws.agree z.group m l (xeid_path x) (own m (or_right _ _ listed)) (own l (listed_first l rest)), ← told more to all) k) in omega arith
    where
      own : (m : Locator) → IsTrue (lists (l ∷ rest) m) → IsTrue (lists (locators_of r z.group) m)
      own m listed = rw (← set) listed
  down (trail.refers {l = l} {left = rest} {hop = hop} {more = more} rec to k lower after) all z among over set few =
      let ih : length more ≤ 8 + deeper r (xeid_path x) (length child.0.prefix) =
      down after (All-tail honest hop more all) child.0 child.1 child.2 (ap (λ (v : ReferralRecord). v.servers) (is ∙ child.3)) (rw is (laws.servers l (xeid_path x) (inl refers)).1) in omega (arith, less)
    where
      is : rec ≡ said l
      is = told more to all

      refers : IsReferral (said l).action
      refers = rw (← is) k

      child : (w : Zone) × Contains r.zones w × IsTrue (covers w.prefix (xeid_path x)) × (said l ≡ referral_to r w)
      child = laws.keeps.to_zones l (xeid_path x) refers

      less : deeper r (xeid_path x) (length child.0.prefix) < deeper r (xeid_path x) (length z.prefix)
      less = fewer_deeper r (xeid_path x) (length z.prefix) child.0 child.1 child.2 (rw child.3 at ((laws.keeps.downwards z l (xeid_path x) among over (rw (← set) (listed_first l rest))).1 refers))
  down (trail.starts_over {l = l} {left = rest} {more = more} p rec to k after) all z among over set few =
      absurd ((laws.keeps.downwards z l (xeid_path x) among over (rw (← set) (listed_first l rest))).0 (rw (told more to all) at k))
  down _ all z among over set few = omega arith

-- a zone that covers x is not deeper than itself
zone_counts : (r : Register) (x : List ℕ) (z : Zone) → Contains r.zones z → IsTrue (covers z.prefix x) → deeper r x (length z.prefix) < zones_over r x
zone_counts r x z among over = fewer (λ (w : Zone). covers w.prefix x) _ r.zones z (λ b deep. (and_parts _ _ deep).0) (in_contained r.zones z among) over (not_deeper x z)

-- so a whole trail is short
pub trail_is_short : (r : Register) (laws : ShortLaws r) (x : Xeid) (s : State) (outcome : Outcome) (hops : List Hop) → IsStateInOrder s → IsSound r s
    → IsTrue (is_path (xeid_path x)) → HasTrail x s outcome hops → All (IsHonestHop r x s.me) hops → length hops ≤ zones_over r (xeid_path x) + 7
trail_is_short r laws x s outcome hops o sound id (trail.at_once p e found answer none) all = let e : length hops ≡ 0 = ap length none in omega (arith, e)
trail_is_short r laws x s outcome hops o sound id (trail.from_servers p e found unanswered follows) all =
    let z : IsSoundLookup r (opening x e.servers (start_at p)) = begun r laws.keeps s o sound x p e found unanswered in
    let is : IsLookup (opening x e.servers (start_at p)) = opening_lookup s o x id p e found unanswered in
    let a = down r laws x id s.me s.known.roots outcome follows all z.zone z.is_zone z.covers_x z.servers is.few in
    let b = zone_counts r (xeid_path x) z.zone z.is_zone z.covers_x in
    omega (arith, a, b)
