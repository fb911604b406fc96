-- How many requests a lookup sends after replies at most, whatever the servers say.
use Rattle.std.specs.Prelude.{ℕ, ◌≡◌, ◌+◌, ◌-◌, ◌*◌, ◌<◌, ◌≤◌, List, length, Option, None, Some}
use Rattle.std.specs.FinMap.{get}
use Rattle.ddt_path.specs.declared.xeid.Xeid.{Xeid}
use Rattle.ddt_path.specs.Locators.{most_locators}
use Rattle.ddt_path.specs.Path.{xeid_path}
use Rattle.ddt_wire.specs.Referral.{Message, Spells}
use Rattle.ddt_resolver.specs.declared.pending.Pending.{Pending}
use Rattle.ddt_resolver.specs.declared.results.Asked.{Asked}
use Rattle.ddt_resolver.specs.declared.results.Asked.TheVariants as asked
use Rattle.ddt_resolver.specs.declared.results.Heard.{Heard}
use Rattle.ddt_resolver.specs.declared.results.Heard.TheVariants.{Ignored, Followed, Answer, GaveUp}
use Rattle.ddt_resolver.specs.State.{State}
use Rattle.ddt_path.specs.Actions.{IsReferral}
use Rattle.ddt_resolver.specs.Records.{IsBelow}

-- how many more referrals a lookup can follow on its way down to an identifier of so many digits
abbrev pub room : ℕ → Option (List ℕ) → ℕ
room digits None = digits + 1
room digits (Some saved) = digits - length saved

-- what one more start at the root allows: 8 servers, and 8 for each referral
abbrev pub again : ℕ → Option (List ℕ) → ℕ
again digits None = 0
again digits (Some start) = most_locators * (digits + 2)

-- how many requests it can send: to what is left of its set, to 8 servers of each referral that it can follow yet, and
-- after its one restart
abbrev pub measure : Pending → ℕ
measure l =
    let digits = length (xeid_path l.x) in
    (length l.servers - l.server_index) + most_locators * room digits l.last_referral + again digits l.start_entry

-- at an ask it is at most 16 times the number of digits and 2
abbrev pub StartsWithin : State → Xeid → Asked → Type 0
StartsWithin new x (asked.Sent t d) = (l : Pending) → get new.pending t ≡ Some l
    → measure l ≤ 16 * (length (xeid_path x) + 2)
StartsWithin new x (asked.Answer o) = Unit {0}

-- each reply that is followed lowers it
abbrev pub ComesNearer : State → State → Heard → Type 0
ComesNearer s new (Followed t d) = (l m : Pending) → get s.pending t ≡ Some l → get new.pending t ≡ Some m
    → measure m < measure l
ComesNearer s new (Ignored why) = Unit {0}
ComesNearer s new (Answer t o) = Unit {0}
ComesNearer s new (GaveUp t why) = Unit {0}

-- each referral that is followed has a longer prefix than the one that is saved
abbrev pub GoesDown : State → List ℕ → Heard → Type 0
GoesDown s bytes (Followed t d) = (l : Pending) (v : Message) → get s.pending t ≡ Some l → Spells bytes v
    → IsReferral v.action → IsBelow l.last_referral v.prefix
GoesDown s bytes (Ignored why) = Unit {0}
GoesDown s bytes (Answer t o) = Unit {0}
GoesDown s bytes (GaveUp t why) = Unit {0}
