-- A resolver that is sound for a register: all that it remembers and waits for came from honest servers of it.
use Rattle.std.specs.Prelude.{◌≡◌, ◌⊎◌, ℕ, IsTrue, List, None, Some, Contains, Result, Ok, Err}
use Rattle.std.specs.FinMap.{get}
use Rattle.ddt_path.specs.declared.locator.Locator.{Locator}
use Rattle.ddt_path.specs.declared.action.Action.TheVariants.{MsAck}
use Rattle.ddt_path.specs.declared.record.Outcome.{Outcome}
use Rattle.ddt_path.specs.declared.record.Outcome.TheVariants.{NotRegistered}
use Rattle.ddt_path.specs.declared.record.ReferralRecord.{ReferralRecord}
use Rattle.ddt_path.specs.Records.{record_of, referral_action}
use Rattle.ddt_path.specs.Covers.{covers}
use Rattle.ddt_path.specs.Path.{xeid_path, is_path}
use Rattle.ddt_register.specs.declared.zone.Zone.{Zone}
use Rattle.ddt_register.specs.declared.site.Site.{Site}
use Rattle.ddt_register.specs.declared.register.Register.{Register}
use Rattle.ddt_check.specs.Rules.{IsAccepted}
use Rattle.ddt_check.specs.Zones.{zone_of, locators_of, roots}
use Rattle.ddt_check.specs.Assignment.{assignment}
use Rattle.ddt_check.specs.Says.{says}
use Rattle.ddt_cache.specs.declared.cache_entry.Entry.{Entry}
use Rattle.ddt_cache.specs.Entry.{is_negative}
use Rattle.ddt_resolver.specs.declared.pending.Pending.{Pending}
use Rattle.ddt_resolver.specs.declared.results.Asked.{Asked}
use Rattle.ddt_resolver.specs.declared.results.Asked.TheVariants as asked
use Rattle.ddt_resolver.specs.declared.results.AskError.{AskError}
use Rattle.ddt_resolver.specs.declared.results.Heard.{Heard}
use Rattle.ddt_resolver.specs.declared.results.Heard.TheVariants as heard
use Rattle.ddt_resolver.specs.declared.results.Ticked.{Ticked}
use Rattle.ddt_resolver.specs.declared.results.Ticked.TheVariants as ticked
use Rattle.ddt_resolver.specs.declared.results.Why.{Why}
use Rattle.ddt_resolver.specs.declared.results.Why.TheVariants.{NoReply, Exhausted}
use Rattle.ddt_resolver.specs.Records.{outcome_at}
use Rattle.ddt_resolver.specs.State.{State, fresh, moved, dropped, forgotten}
use Rattle.ddt_resolver.specs.Order.{IsStateInOrder}
use Rattle.ddt_resolver.specs.declared.step.Reply.{Reply}
use Rattle.ddt_resolver.specs.declared.step.Reply.TheVariants.{ToAsk, ToDatagram, ToTick}
use Rattle.ddt_resolver.specs.Step.{ResolverCall, Ask, Hear, Tick, Step}
use Rattle.ddt_resolver.specs.MatchReply.{IsTaken}
use Rattle.ddt_resolver.specs.TickStep.{HastenStep}

-- What makes an entry true. `delegates`: a referral to a zone, with the zone's kind and the locators of its group.
-- `registers`: an MS-ACK of a site, with the locators of the group of the site's zone. `denies`: a negative entry says
-- of each identifier that it covers just what the register assigns to it.
pub data IsTrueEntry (r : Register) (p : List ℕ) (e : Entry) : Type 0 where
  delegates : (z : Zone) → Contains r.zones z → z.prefix ≡ p → e.action ≡ referral_action z.kind
      → e.servers ≡ locators_of r z.group → IsTrueEntry r p e
  registers : (s : Site) (z : Zone) → Contains r.sites s → s.prefix ≡ p → e.action ≡ MsAck → zone_of r p ≡ Some z
      → e.servers ≡ locators_of r z.group → IsTrueEntry r p e
  denies : IsTrue (is_negative e.action)
      → ((y : List ℕ) → IsTrue (is_path y) → IsTrue (covers p y) → assignment r y ≡ outcome_at e.action p e.servers)
      → IsTrueEntry r p e

-- the record of an assignment that says that no ETR is registered
abbrev pub IsNotRegistered : Register → List ℕ → ReferralRecord → Type 0
IsNotRegistered r x rec =
    (p : List ℕ) × (servers : List Locator) × (assignment r x ≡ NotRegistered p servers)
    × (rec ≡ record_of (NotRegistered p servers))

-- A sound lookup asks the servers of a zone that covers its identifier. The saved prefix, if there is one, is that
-- zone's; what is kept, if anything, is the record of the assignment, and says that no ETR is registered.
pub record IsSoundLookup (r : Register) (l : Pending) : Type 0 where
  pub zone : Zone
  pub is_zone : Contains r.zones zone
  pub covers_x : IsTrue (covers zone.prefix (xeid_path l.x))
  pub servers : l.servers ≡ locators_of r zone.group
  pub saved : (l.last_referral ≡ None) ⊎ (l.last_referral ≡ Some zone.prefix)
  pub kept : (rec : ReferralRecord) → l.last_not_registered ≡ Some rec → IsNotRegistered r (xeid_path l.x) rec

-- A sound resolver has the register's root locators, remembers true entries, and waits in sound lookups.
pub record IsSound (r : Register) (s : State) : Type 0 where
  pub root : s.known.roots ≡ roots r
  pub entries : (p : List ℕ) (e : Entry) → get s.known.live p ≡ Some e → IsTrueEntry r p e
  pub lookups : (t : ℕ) (l : Pending) → get s.pending t ≡ Some l → IsSoundLookup r l

-- a datagram that a lookup takes up is what the register says at its source of the lookup's identifier
abbrev pub IsFairDatagram : Register → State → Locator → List ℕ → Type 0
IsFairDatagram r s source bytes =
    (t : ℕ) (l : Pending) (rec : ReferralRecord) → IsTaken s source bytes t l rec → rec ≡ says r source (xeid_path l.x)

-- the datagram of a call is fair, if it has one
abbrev pub IsFair : Register → State → ResolverCall → Type 0
IsFair r s (Ask x) = Unit {0}
IsFair r s (Hear source bytes) = IsFairDatagram r s source bytes
IsFair r s Tick = Unit {0}

-- a lookup fails for want of a reply, or of nonces
abbrev pub IsRightWhy : Why → Type 0
IsRightWhy why = (why ≡ NoReply) ⊎ (why ≡ Exhausted)

-- an answer at once is the assignment
abbrev pub IsRightAsked : Register → List ℕ → Result Asked AskError → Type 0
IsRightAsked r x (Ok (asked.Answer o)) = o ≡ assignment r x
IsRightAsked r x (Ok (asked.Sent t d)) = Unit {0}
IsRightAsked r x (Err why) = Unit {0}

-- the answer to a ticket is the assignment of its own identifier
abbrev pub IsRightEnd : Register → State → ℕ → Outcome → Type 0
IsRightEnd r s t o = (l : Pending) → get s.pending t ≡ Some l → o ≡ assignment r (xeid_path l.x)

-- A datagram ends a lookup with the assignment of the lookup's identifier, or for want of a reply or of nonces. Nothing
-- is asked of a datagram that is ignored, or that the lookup follows.
abbrev pub IsRightHeard : Register → State → Heard → Type 0
IsRightHeard r s (heard.Answer t o) = IsRightEnd r s t o
IsRightHeard r s (heard.GaveUp t why) = IsRightWhy why
IsRightHeard r s (heard.Ignored why) = Unit {0}
IsRightHeard r s (heard.Followed t d) = Unit {0}

-- So it is with a tick. Nothing is asked of one that sends a request, or finds no deadline that has come.
abbrev pub IsRightTicked : Register → State → Ticked → Type 0
IsRightTicked r s (ticked.Answer t o) = IsRightEnd r s t o
IsRightTicked r s (ticked.GaveUp t why) = IsRightWhy why
IsRightTicked r s (ticked.Sent t d) = Unit {0}
IsRightTicked r s ticked.Nothing = Unit {0}

-- what a step answers is right
abbrev pub IsRight : Register → State → ResolverCall → Reply → Type 0
IsRight r s (Ask x) (ToAsk a) = IsRightAsked r (xeid_path x) a
IsRight r s call (ToDatagram h) = IsRightHeard r s h
IsRight r s call (ToTick t) = IsRightTicked r s t
IsRight r s call reply = Unit {0}

-- ---- that a step keeps a resolver sound

-- Over an accepted register a step from a sound state, on a fair datagram if on any, leaves a sound state, and its
-- answer is right.
abbrev pub StepsKeepSoundness : Type 0
StepsKeepSoundness =
    (r : Register) (s : State) (call : ResolverCall) (new : State) (reply : Reply)
    → IsAccepted r → IsStateInOrder s → IsSound r s → IsFair r s call → Step s call new reply
    → IsSound r new × IsRight r s call reply

-- So does a lookup that is hastened, whether its deadline has come or not, and what comes of it is right.
abbrev pub HasteningKeepsSoundness : Type 0
HasteningKeepsSoundness =
    (r : Register) (s : State) (nonce : ℕ) (new : State) (ticked : Ticked)
    → IsAccepted r → IsStateInOrder s → IsSound r s → HastenStep s nonce new ticked
    → IsSound r new × IsRightTicked r s ticked

-- so does the passing of time
abbrev pub TimeKeepsSoundness : Type 0
TimeKeepsSoundness = (r : Register) (s : State) (now : ℕ) → IsSound r s → IsSound r (moved now s)

-- and the removal of a lookup
abbrev pub CancellingKeepsSoundness : Type 0
CancellingKeepsSoundness = (r : Register) (s : State) (t : ℕ) → IsSound r s → IsSound r (dropped s t)

-- and what is forgotten of a prefix, whichever it is: no more is remembered than before
abbrev pub ForgettingKeepsSoundness : Type 0
ForgettingKeepsSoundness = (r : Register) (s : State) (p : List ℕ) → IsSound r s → IsSound r (forgotten s p)

-- a new resolver with the register's roots is sound
abbrev pub NewResolversAreSound : Type 0
NewResolversAreSound = (r : Register) (me : Locator) (seed : ℕ) → IsSound r (fresh (roots r) me seed)
