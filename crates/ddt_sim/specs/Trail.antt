-- How the hops of a lookup follow one another (RFC 8111, section 7.3).
use Rattle.std.specs.Prelude.{ℕ, ◌≡◌, ◌⊎◌, IsTrue, List, [], ◌∷◌, Option, None, Some}
use Rattle.ddt_path.specs.declared.locator.Locator.{Locator}
use Rattle.ddt_path.specs.declared.action.Action.TheVariants.{MsAck, MsNotRegistered, DelegationHole, NotAuthoritative}
use Rattle.ddt_path.specs.declared.record.Outcome.{Outcome}
use Rattle.ddt_path.specs.declared.record.ReferralRecord.{ReferralRecord}
use Rattle.ddt_path.specs.declared.xeid.Xeid.{Xeid}
use Rattle.ddt_path.specs.Path.{xeid_path, is_path}
use Rattle.ddt_register.specs.declared.register.Register.{Register}
use Rattle.ddt_check.specs.Rules.{IsAccepted}
use Rattle.ddt_cache.specs.declared.cache_entry.Entry.{Entry}
use Rattle.ddt_cache.specs.Found.{IsFound}
use Rattle.ddt_path.specs.Actions.{IsReferral}
use Rattle.ddt_resolver.specs.Records.{IsAbout, IsBelow, outcome_of, start_at}
use Rattle.ddt_resolver.specs.State.{State, request_bytes}
use Rattle.ddt_resolver.specs.MatchReply.{TellsReply}
use Rattle.ddt_resolver.specs.AskStep.{answer_of}
use Rattle.ddt_resolver.specs.Order.{IsStateInOrder}
use Rattle.ddt_sim.specs.declared.lookup_result.Hop.{Hop}
use Rattle.ddt_sim.specs.declared.lookup_result.Lookup.{Lookup}
use Rattle.ddt_sim.specs.Sound.{IsSound}
use Rattle.ddt_sim.specs.Headline.{HasHonestHops, HasFewHops}

-- The hop asks the server l for x, with the address `me` as its ITR-RLOC, and its reply tells this record, which is
-- about x, under the nonce of the request.
pub record IsHopTo (x : Xeid) (me : Locator) (l : Locator) (hop : Hop) (rec : ReferralRecord) : Type 0 where
  pub nonce : ℕ
  pub to : hop.to ≡ l
  pub asks : hop.request ≡ request_bytes nonce x me
  pub tells : TellsReply hop.reply nonce rec
  pub about : IsAbout rec (xeid_path x)

-- The hops of a lookup of x from here on, by what it has saved, where it started, and the servers left of its set.
-- The first is the prefix of the last referral that it followed in this pass. The second is the prefix of the entry
-- at which the pass began, and None for the root. The first of the servers is asked.
-- `ends`: the reply is an MS-ACK or DELEGATION-HOLE, and gives the outcome. `concludes`: it is the MS-NOT-REGISTERED of
-- the last server of the set, and gives the outcome. `passes_on`: it is that of another, and the next server of the set
-- is next. `refers`: it is a referral to a longer prefix than the one before, and its set is next. `starts_over`: the
-- server isn't in charge, and the roots are next, in a second pass; there is no third.
pub data IsTrail (x : Xeid) (me : Locator) (roots : List Locator) (outcome : Outcome)
    : Option (List ℕ) → Option (List ℕ) → List Locator → List Hop → Type 0 where
  ends : {saved start : Option (List ℕ)} {l : Locator} {left : List Locator} {hop : Hop} (rec : ReferralRecord)
      → IsHopTo x me l hop rec → (rec.action ≡ MsAck) ⊎ (rec.action ≡ DelegationHole) → outcome ≡ outcome_of rec
      → IsTrail x me roots outcome saved start (l ∷ left) (hop ∷ [])
  concludes : {saved start : Option (List ℕ)} {l : Locator} {hop : Hop} (rec : ReferralRecord)
      → IsHopTo x me l hop rec → rec.action ≡ MsNotRegistered → outcome ≡ outcome_of rec
      → IsTrail x me roots outcome saved start (l ∷ []) (hop ∷ [])
  passes_on : {saved start : Option (List ℕ)} {l : Locator} {left : List Locator} {hop : Hop} {more : List Hop}
      (rec : ReferralRecord) → IsHopTo x me l hop rec → rec.action ≡ MsNotRegistered
      → IsTrail x me roots outcome saved start left more
      → IsTrail x me roots outcome saved start (l ∷ left) (hop ∷ more)
  refers : {saved start : Option (List ℕ)} {l : Locator} {left : List Locator} {hop : Hop} {more : List Hop}
      (rec : ReferralRecord) → IsHopTo x me l hop rec → IsReferral rec.action → IsBelow saved rec.prefix
      → IsTrail x me roots outcome (Some rec.prefix) start rec.servers more
      → IsTrail x me roots outcome saved start (l ∷ left) (hop ∷ more)
  starts_over : {saved : Option (List ℕ)} {l : Locator} {left : List Locator} {hop : Hop} {more : List Hop}
      (p : List ℕ) (rec : ReferralRecord) → IsHopTo x me l hop rec → rec.action ≡ NotAuthoritative
      → IsTrail x me roots outcome None None roots more
      → IsTrail x me roots outcome saved (Some p) (l ∷ left) (hop ∷ more)

-- What a lookup of x gives, by the entry that is found for it in the state s: the entry's own answer without a hop, or
-- what hops give that begin at the entry's servers.
pub data HasTrail (x : Xeid) (s : State) (outcome : Outcome) (hops : List Hop) : Type 0 where
  at_once : (p : List ℕ) (e : Entry) → IsFound s.known (xeid_path x) p e → answer_of p e ≡ Some outcome → hops ≡ []
      → HasTrail x s outcome hops
  from_servers : (p : List ℕ) (e : Entry) → IsFound s.known (xeid_path x) p e → answer_of p e ≡ None
      → IsTrail x s.me s.known.roots outcome None (start_at p) e.servers hops → HasTrail x s outcome hops

-- Where the state is sound for an accepted register and each reply is what the register says, such hops are few.
abbrev pub HonestTrailsAreShort : Type 0
HonestTrailsAreShort =
    (r : Register) (x : Xeid) (s : State) (l : Lookup) → IsAccepted r → IsStateInOrder s → IsSound r s
    → IsTrue (is_path (xeid_path x)) → HasTrail x s l.outcome l.hops → HasHonestHops r x s.me l → HasFewHops r x l
