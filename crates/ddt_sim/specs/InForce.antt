-- Registers that replace each other in a run: which one is in force at a line, and what each line of such a run holds
-- (RFC 8111, section 7.3).
use Rattle.std.specs.Prelude.{ℕ, ◌≡◌, ◌+◌, ◌<◌, ◌⊎◌, false, List, [], ◌∷◌, slice_get, Some, Ok, Err}
use Rattle.std.specs.FinMap.{len}
use Rattle.ddt_path.specs.declared.record.Outcome.{Outcome}
use Rattle.ddt_path.specs.declared.xeid.Xeid.{Xeid}
use Rattle.ddt_path.specs.Path.{xeid_path}
use Rattle.ddt_register.specs.declared.register.Register.{Register}
use Rattle.ddt_check.specs.Rules.{IsAccepted}
use Rattle.ddt_check.specs.Zones.{roots}
use Rattle.ddt_check.specs.Assignment.{assignment}
use Rattle.ddt_resolver.specs.declared.results.Asked.TheVariants as asked_as
use Rattle.ddt_resolver.specs.declared.results.AskError.{AskError}
use Rattle.ddt_resolver.specs.declared.results.AskError.TheVariants as ask_error
use Rattle.ddt_resolver.specs.declared.results.Heard.TheVariants as heard_as
use Rattle.ddt_resolver.specs.declared.results.Ignored.{Ignored}
use Rattle.ddt_resolver.specs.declared.results.Ignored.TheVariants.{UnknownNonce, Late}
use Rattle.ddt_resolver.specs.declared.results.Why.{Why}
use Rattle.ddt_resolver.specs.declared.results.Why.TheVariants.{NoReply, Loop, NotAuthoritative, Exhausted}
use Rattle.ddt_resolver.specs.State.{State, last_nonce, most_pending}
use Rattle.ddt_sim.specs.declared.schedule.Step.{Step}
use Rattle.ddt_sim.specs.declared.schedule.Step.TheVariants.{Ask, Deliver}
use Rattle.ddt_sim.specs.declared.schedule.Event.TheVariants.{Asked, Refused, Silent, Heard}
use Rattle.ddt_sim.specs.declared.schedule.Datagram.{Datagram}
use Rattle.ddt_sim.specs.declared.schedule.Transcript.{Transcript}
use Rattle.ddt_sim.specs.Honest.{IsServer}
use Rattle.ddt_sim.specs.World.{Members}
use Rattle.ddt_sim.specs.History.{Line, Among, Each, IsTranscriptOf}
use Rattle.ddt_sim.specs.Tries.{WasInVain}
use Rattle.ddt_sim.specs.Schedules.{StartsSound, Ends, AsksFor, IsOpened, IsOnce, IsRepliedTo}

-- the register whose servers are in force at a line, where each number of servers has a register
abbrev pub in_force : (ℕ → Register) → Line → Register
in_force registers line = registers line.before.member

-- at some line since a ticket was opened, that line among them
abbrev pub SomeSince : ℕ → (Line → Type 0) → List Line → Type 0
SomeSince t holds [] = ⊥
SomeSince t holds (line ∷ past) = (Among (line ∷ past) (IsOpened t) × holds line) ⊎ SomeSince t holds past

-- Within how many milliseconds a negative answer may be told from what is remembered after its register went out of
-- force: it is remembered for at most 900,000, and less than 2,000 pass from the request to the saving of its reply.
abbrev pub most_age : ℕ
most_age = 902000

-- ---- each line

-- An answer to a ticket is what a register assigns to the identifier of its own ask, one that was in force at some line
-- since.
abbrev pub IsAnswerSince : (ℕ → Register) → List Line → Line → Type 0
IsAnswerSince registers past line =
    (t : ℕ) (o : Outcome) → Ends line.event t (Ok o)
    → (x : Xeid) × Among past (AsksFor t x)
    × SomeSince t (λ at. o ≡ assignment (in_force registers at) (xeid_path x)) past

-- What is answered at once, from what is remembered, is what a register assigns that was in force at this line, or at
-- one less than 902,000 milliseconds before.
abbrev pub IsAnswerOfLate : (ℕ → Register) → List Line → Line → Type 0
IsAnswerOfLate registers past line =
    (x : Xeid) (o : Outcome) → line.step ≡ Ask x → line.event ≡ Asked (asked_as.Answer o)
    → Among (line ∷ past) (λ at. (line.before.moment < at.before.moment + most_age)
    × (o ≡ assignment (in_force registers at) (xeid_path x)))

-- A request that is delivered to a server of the register in force has its reply, of what that register says. At every
-- other locator it meets silence.
abbrev pub IsReplyInForce : (ℕ → Register) → List Line → Line → Type 0
IsReplyInForce registers past line =
    (k : ℕ) (d : Datagram) → line.step ≡ Deliver k → slice_get line.before.sent k ≡ Some d → d.is_reply ≡ false
    → (IsServer (in_force registers line) d.to → IsRepliedTo (in_force registers line) line d)
    × ((IsServer (in_force registers line) d.to → ⊥) → (line.event ≡ Silent) × (line.after ≡ line.before))

-- A lookup gives up for want of a reply, or of nonces, or because the servers that it was led to are not in charge of
-- its identifier any more, or refer upwards. Replies are ignored, and asks refused, for the same reasons as ever.
pub record IsFailureInForce (past : List Line) (line : Line) : Type 0 where
  pub gave_up : (t : ℕ) (why : Why) → Ends line.event t (Err why)
      → (why ≡ NoReply) ⊎ (why ≡ Loop) ⊎ (why ≡ NotAuthoritative)
      ⊎ ((why ≡ Exhausted) × (line.before.state.next ≡ last_nonce))
  pub ignored : (why : Ignored) → line.event ≡ Heard (heard_as.Ignored why) → (why ≡ UnknownNonce) ⊎ (why ≡ Late)
  pub refused : (why : AskError) → line.event ≡ Refused why
      → ((why ≡ ask_error.TooMany) × (len line.before.state.pending ≡ most_pending))
      ⊎ ((why ≡ ask_error.Exhausted) × (line.before.state.next ≡ last_nonce))

-- A lookup gives up for want of a reply only where it was in vain. Its servers may be those of a register that went out
-- of force before its ask.
abbrev pub IsNoReplyInForce : List Line → Line → Type 0
IsNoReplyInForce past line = (t : ℕ) → Ends line.event t (Err NoReply) → WasInVain past line.before t

-- ---- all lines

-- Each number of servers has an accepted register, for which they answer honestly and give no reply elsewhere, and all
-- these registers have the same root locators. The resolver is sound for the first, and has nothing pending.
pub record AreRegisters (servers : Members) (registers : ℕ → Register) (old : State) : Type 0 where
  pub accepted : (k : ℕ) → k < servers.count → IsAccepted (registers k)
  pub honest : (k : ℕ) → k < servers.count → servers.honest k (registers k)
  pub silent : (k : ℕ) → k < servers.count → servers.silent k (registers k)
  pub same_roots : (k : ℕ) → k < servers.count → roots (registers k) ≡ roots (registers 0)
  pub starts : StartsSound (registers 0) old

-- For all such registers, this holds of each line of the history that a transcript tells, and the lines before it.
abbrev pub EachLineInForce : ((ℕ → Register) → List Line → Line → Type 0) → Members → State → List Step
    → Transcript → State → Type 0
EachLineInForce holds servers old steps t new =
    (registers : ℕ → Register) → AreRegisters servers registers old → (past : List Line)
    → IsTranscriptOf servers old steps t new past → Each (holds registers) past

-- A lookup's outcome is what a register assigns to the identifier of its ask, one that was in force then or since.
abbrev pub AnswersAreSince : Members → State → List Step → Transcript → State → Type 0
AnswersAreSince = EachLineInForce IsAnswerSince

-- What is answered from what is remembered is the assignment of a register that is in force, or that was less than
-- 902,000 milliseconds before.
abbrev pub AnswersAreOfLate : Members → State → List Step → Transcript → State → Type 0
AnswersAreOfLate = EachLineInForce IsAnswerOfLate

-- A request that is delivered to a server of the register in force has that register's reply; elsewhere it has none.
abbrev pub RepliesAreInForce : Members → State → List Step → Transcript → State → Type 0
RepliesAreInForce = EachLineInForce IsReplyInForce

-- A lookup gives up only as NoReply, Loop, NotAuthoritative or Exhausted. A reply is ignored only as UnknownNonce or
-- Late, and an ask is refused only as TooMany or Exhausted.
abbrev pub FailuresAreInForce : Members → State → List Step → Transcript → State → Type 0
FailuresAreInForce = EachLineInForce (λ registers. IsFailureInForce)

-- A lookup gives up for want of a reply only where each server of its set was asked twice, and none of these requests
-- had a reply within 2,000 milliseconds.
abbrev pub NoRepliesAreInForce : Members → State → List Step → Transcript → State → Type 0
NoRepliesAreInForce = EachLineInForce (λ registers. IsNoReplyInForce)

-- No ticket is given to two asks, and no lookup ends twice, also where registers replace each other.
abbrev pub TicketsEndOnceInForce : Members → State → List Step → Transcript → State → Type 0
TicketsEndOnceInForce = EachLineInForce (λ registers. IsOnce)
