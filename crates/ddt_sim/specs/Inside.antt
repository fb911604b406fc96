-- Which replies lie inside the zone by which their server was asked, and what a cut one says.
use Rattle.std.specs.Prelude.{ℕ, ◌≡◌, IsTrue, List, Contains, Option, None, Some}
use Rattle.std.specs.FinMap.{get}
use Rattle.ddt_path.specs.declared.locator.Locator.{Locator}
use Rattle.ddt_path.specs.declared.record.ReferralRecord.{ReferralRecord}
use Rattle.ddt_path.specs.Covers.{covers}
use Rattle.ddt_path.specs.Path.{xeid_path, is_path}
use Rattle.ddt_register.specs.declared.zone.Zone.{Zone}
use Rattle.ddt_register.specs.declared.site.Site.{Site}
use Rattle.ddt_register.specs.declared.register.Register.{Register}
use Rattle.ddt_check.specs.Assignment.{assignment}
use Rattle.ddt_check.specs.Rules.{IsAccepted}
use Rattle.ddt_check.specs.Zones.{zone_of, locators_of}
use Rattle.ddt_check.specs.Says.{says}
use Rattle.ddt_cache.specs.Entry.{is_negative}
use Rattle.ddt_resolver.specs.declared.pending.Pending.{Pending}
use Rattle.ddt_resolver.specs.declared.results.Ticked.{Ticked}
use Rattle.ddt_resolver.specs.Order.{IsStateInOrder}
use Rattle.ddt_resolver.specs.Records.{outcome_of}
use Rattle.ddt_resolver.specs.State.{State, fresh, moved, dropped, forgotten}
use Rattle.ddt_resolver.specs.declared.step.Reply.{Reply}
use Rattle.ddt_resolver.specs.Step.{ResolverCall, Step}
use Rattle.ddt_resolver.specs.TickStep.{HastenStep}
use Rattle.ddt_resolver.specs.Within.{IsWide, cut_to}
use Rattle.ddt_sim.specs.Sound.{IsSound}

-- a prefix lies inside another one, or inside everything
abbrev pub IsInside : Option (List ℕ) → List ℕ → Type 0
IsInside None q = Unit {0}
IsInside (Some p) q = IsTrue (covers p q)

-- What an entry at which a lookup started is, as long as its servers are asked. `zone`: the referral to a zone. `site`:
-- the MS-ACK of a site, with the servers of its zone.
pub data IsTrueStart (r : Register) (servers : List Locator) (p : List ℕ) : Type 0 where
  zone : (z : Zone) → Contains r.zones z → z.prefix ≡ p → servers ≡ locators_of r z.group → IsTrueStart r servers p
  site : (s : Site) (z : Zone) → Contains r.sites s → s.prefix ≡ p → zone_of r p ≡ Some z
      → servers ≡ locators_of r z.group
      → IsTrueStart r servers p

-- each pending lookup that has followed no referral since it started asks the servers of a true start
abbrev pub StartsAreTrue : Register → State → Type 0
StartsAreTrue r s =
    (t : ℕ) (l : Pending) (p : List ℕ) → get s.pending t ≡ Some l → l.last_referral ≡ None → l.start_entry ≡ Some p
    → IsTrueStart r l.servers p

-- What the register says at its source of the lookup's identifier lies inside the zone: an honest reply is never wide.
abbrev pub HonestRepliesAreInside : Type 0
HonestRepliesAreInside =
    (r : Register) (s : State) (source : Locator) (bytes : List ℕ) (l : Pending) (rec : ReferralRecord) (p : List ℕ)
    → IsAccepted r → IsStateInOrder s → IsSound r s → StartsAreTrue r s → IsWide s source bytes l rec p
    → rec ≡ says r source (xeid_path l.x) → ⊥

-- A negative record that a register in force says of x, cut to a prefix that it covers, holds still: each identifier
-- that the prefix covers is assigned what the record says.
abbrev pub CutNegativesHold : Type 0
CutNegativesHold =
    (r : Register) (source : Locator) (x : List ℕ) (rec : ReferralRecord) (p : List ℕ) → IsAccepted r
    → IsTrue (is_path x) → rec ≡ says r source x → IsTrue (is_negative rec.action) → IsTrue (covers rec.prefix p)
    → (y : List ℕ) → IsTrue (is_path y) → IsTrue (covers (cut_to p rec).prefix y) → assignment r y ≡ outcome_of rec

-- ---- that starts stay true

-- a new resolver has no lookup
abbrev pub NewStartsAreTrue : Type 0
NewStartsAreTrue =
    (r : Register) (roots_ : List Locator) (me : Locator) (seed : ℕ) → StartsAreTrue r (fresh roots_ me seed)

-- In a sound state a step, whatever it hears, keeps starts true.
abbrev pub StepsKeepStarts : Type 0
StepsKeepStarts =
    (r : Register) (s : State) (call : ResolverCall) (new : State) (reply : Reply) → IsSound r s → StartsAreTrue r s
    → Step s call new reply → StartsAreTrue r new

-- so does the passing of time
abbrev pub TimeKeepsStarts : Type 0
TimeKeepsStarts = (r : Register) (s : State) (now : ℕ) → StartsAreTrue r s → StartsAreTrue r (moved now s)

-- and a lookup that is hastened
abbrev pub HasteningKeepsStarts : Type 0
HasteningKeepsStarts =
    (r : Register) (s : State) (nonce : ℕ) (new : State) (ticked : Ticked) → StartsAreTrue r s
    → HastenStep s nonce new ticked → StartsAreTrue r new

-- and the removal of a lookup
abbrev pub CancellingKeepsStarts : Type 0
CancellingKeepsStarts = (r : Register) (s : State) (t : ℕ) → StartsAreTrue r s → StartsAreTrue r (dropped s t)

-- and what is forgotten of a prefix, whichever it is
abbrev pub ForgettingKeepsStarts : Type 0
ForgettingKeepsStarts = (r : Register) (s : State) (p : List ℕ) → StartsAreTrue r s → StartsAreTrue r (forgotten s p)
