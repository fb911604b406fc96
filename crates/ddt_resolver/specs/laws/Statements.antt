-- The laws of a resolver's steps.
use Rattle.std.specs.Prelude.{ℕ, ◌≡◌, ◌≤◌, ◌<◌, ◌⊎◌, List, None, Some}
use Rattle.std.specs.FinMap.{get}
use Rattle.ddt_path.specs.declared.locator.Locator.{Locator}
use Rattle.ddt_path.specs.declared.record.ReferralRecord.{ReferralRecord}
use Rattle.ddt_path.specs.Path.{xeid_path}
use Rattle.ddt_cache.specs.Moment.{last_moment}
use Rattle.ddt_resolver.specs.declared.pending.Pending.{Pending}
use Rattle.ddt_resolver.specs.declared.results.Heard.{Heard}
use Rattle.ddt_resolver.specs.declared.results.Ticked.{Ticked}
use Rattle.ddt_resolver.specs.State.{State, moved, server}
use Rattle.ddt_resolver.specs.Records.{IsAbout, NamesServer}
use Rattle.ddt_resolver.specs.MatchReply.{TellsReply}
use Rattle.ddt_resolver.specs.Act.{Act, HearStep}
use Rattle.ddt_resolver.specs.TickStep.{HastenStep}
use Rattle.ddt_resolver.specs.declared.step.Reply.{Reply}
use Rattle.ddt_resolver.specs.Step.{ResolverCall, Step}
use Rattle.ddt_resolver.specs.Order.{IsStateInOrder}

-- each step of a resolver keeps what holds of it at all times
abbrev pub OrderIsKept : Type 0
OrderIsKept = (s : State) (call : ResolverCall) (new : State) (reply : Reply) → IsStateInOrder s → Step s call new reply
    → IsStateInOrder new

-- and so does a lookup that is hastened
abbrev pub HasteningKeepsOrder : Type 0
HasteningKeepsOrder = (s : State) (nonce : ℕ) (new : State) (ticked : Ticked) → IsStateInOrder s → HastenStep s nonce new ticked
    → IsStateInOrder new

-- What holds of a resolver at all times holds still once its time has moved on, to any moment up to the last one.
abbrev pub TimeKeepsOrder : Type 0
TimeKeepsOrder = (s : State) (now : ℕ) → now ≤ last_moment → IsStateInOrder s → IsStateInOrder (moved now s)

-- A usable reply to a pending lookup's last request, from the server that was asked, is late, or that lookup takes it.
abbrev pub UsableIsTaken : Type 0
UsableIsTaken = (s new : State) (source : Locator) (bytes : List ℕ) (heard : Heard) (t : ℕ) (l : Pending)
    (rec : ReferralRecord) → IsStateInOrder s
    → get s.pending t ≡ Some l → TellsReply bytes l.nonce rec → IsAbout rec (xeid_path l.x) → NamesServer rec
    → source ≡ server s.me l
    → HearStep s source bytes new heard → (l.deadline ≤ s.known.time) ⊎ Act s t l rec new heard

-- The next ticket is new: no pending lookup has it, and every one that is pending is below it.
abbrev pub TicketsAreNew : Type 0
TicketsAreNew = (s : State) → IsStateInOrder s → (get s.pending s.next ≡ None)
    × ((t : ℕ) (l : Pending) → get s.pending t ≡ Some l → t < s.next)
