-- What holds of each schedule over honest servers of an accepted register, from a resolver that is sound for it and has
-- nothing pending (RFC 8111, section 7.3).
use Rattle.std.specs.Prelude.{ℕ, ◌≡◌, ◌⊎◌, ◌++◌, false, List, [], ◌∷◌, length, slice_get, Contains, None, Some, Result, Ok, Err}
use Rattle.std.specs.FinMap.{get, len}
use Rattle.ddt_path.specs.declared.record.Outcome.{Outcome}
use Rattle.ddt_path.specs.declared.xeid.Xeid.{Xeid}
use Rattle.ddt_path.specs.Path.{xeid_path}
use Rattle.ddt_register.specs.declared.register.Register.{Register}
use Rattle.ddt_check.specs.Rules.{IsAccepted}
use Rattle.ddt_check.specs.Assignment.{assignment}
use Rattle.ddt_ecm.specs.Request.{Message}
use Rattle.ddt_node.specs.Server.{IsDdtRequest}
use Rattle.ddt_resolver.specs.declared.results.Asked.TheVariants as asked_as
use Rattle.ddt_resolver.specs.declared.results.AskError.{AskError}
use Rattle.ddt_resolver.specs.declared.results.AskError.TheVariants as ask_error
use Rattle.ddt_resolver.specs.declared.results.Heard.TheVariants as heard_as
use Rattle.ddt_resolver.specs.declared.results.Ignored.{Ignored}
use Rattle.ddt_resolver.specs.declared.results.Ignored.TheVariants.{UnknownNonce, Late}
use Rattle.ddt_resolver.specs.declared.results.Outgoing.{Outgoing}
use Rattle.ddt_resolver.specs.declared.results.Why.{Why}
use Rattle.ddt_resolver.specs.declared.results.Why.TheVariants.{NoReply, Exhausted}
use Rattle.ddt_resolver.specs.declared.step.Progress.TheVariants as progress
use Rattle.ddt_resolver.specs.State.{State, last_nonce, most_pending}
use Rattle.ddt_sim.specs.declared.schedule.Step.{Step}
use Rattle.ddt_sim.specs.declared.schedule.Step.TheVariants.{Ask, Deliver, Replace}
use Rattle.ddt_sim.specs.declared.schedule.Event.{Event}
use Rattle.ddt_sim.specs.declared.schedule.Event.TheVariants.{Asked, Refused, Replied, Heard}
use Rattle.ddt_sim.specs.declared.schedule.Datagram.{Datagram}
use Rattle.ddt_sim.specs.declared.schedule.Transcript.{Transcript}
use Rattle.ddt_sim.specs.Honest.{IsHonestReply}
use Rattle.ddt_sim.specs.Sound.{IsSound}
use Rattle.ddt_sim.specs.World.{Members, reply_to, progress_at}
use Rattle.ddt_sim.specs.History.{Line, Among, Each, IsTranscriptOf}

-- the register is accepted, the resolver is sound for it, and nothing is pending
pub record StartsSound (r : Register) (s : State) : Type 0 where
  pub accepted : IsAccepted r
  pub sound : IsSound r s
  pub at_rest : (t : ℕ) → get s.pending t ≡ None

-- an ask opens a ticket: it sends the first request of a lookup
abbrev pub Opens : Event → ℕ → Type 0
Opens event t = (d : Outgoing) × (event ≡ Asked (asked_as.Sent t d))

-- The lookup of a ticket ends by a reply that is heard or by a tick: with its outcome, or with why it gave up.
abbrev pub Ends : Event → ℕ → Result Outcome Why → Type 0
Ends event t end = progress_at event ≡ progress.Ends t end

-- a line asks for x under a new ticket; a line opens it; a line ends it
abbrev pub AsksFor : ℕ → Xeid → Line → Type 0
AsksFor t x line = (line.step ≡ Ask x) × Opens line.event t

-- a line's ask sends the first request of a lookup under this ticket; an ask that is answered at once has none
abbrev pub IsOpened : ℕ → Line → Type 0
IsOpened t line = Opens line.event t

-- a line ends the lookup of a ticket, with an outcome or without one
abbrev pub IsEnded : ℕ → Line → Type 0
IsEnded t line = (end : Result Outcome Why) × Ends line.event t end

-- Each answer, at once or to a ticket, is what the register assigns to the identifier of its own ask.
pub record IsRightAnswer (r : Register) (past : List Line) (line : Line) : Type 0 where
  pub at_once : (x : Xeid) (o : Outcome) → line.step ≡ Ask x → line.event ≡ Asked (asked_as.Answer o)
      → o ≡ assignment r (xeid_path x)
  pub to_ticket : (t : ℕ) (o : Outcome) → Ends line.event t (Ok o)
      → (x : Xeid) × Among past (AsksFor t x) × (o ≡ assignment r (xeid_path x))

-- No ticket is opened twice, and none ends twice.
pub record IsOnce (past : List Line) (line : Line) : Type 0 where
  pub opens : (t : ℕ) → IsOpened t line → Among past (IsOpened t) → ⊥
  pub ends : (t : ℕ) → IsEnded t line → Among past (IsEnded t) → ⊥

-- The reply to a datagram: one datagram more, which spells the nonce of the request that the datagram spells, and what
-- the register says there of its identifier.
pub record IsRepliedTo (r : Register) (line : Line) (d : Datagram) : Type 0 where
  pub request : Message
  pub reply : List ℕ
  pub asks : IsDdtRequest d.bytes request
  pub honest : IsHonestReply r d.to request (Some reply)
  pub replied : line.event ≡ Replied (length line.before.sent)
  pub sent : line.after.sent ≡ line.before.sent ++ reply_to d reply ∷ []

-- Each request that is delivered has its reply.
abbrev pub IsRightReply : Register → List Line → Line → Type 0
IsRightReply r past line =
    (k : ℕ) (d : Datagram) → line.step ≡ Deliver k → slice_get line.before.sent k ≡ Some d → d.is_reply ≡ false
    → IsRepliedTo r line d

-- A lookup gives up for want of a reply, or of nonces. A reply is ignored where nobody waits for its nonce any more, or
-- where it is late. An ask is refused where 1,024 lookups are pending, or no nonce is left.
pub record IsRightFailureLine (past : List Line) (line : Line) : Type 0 where
  pub gave_up : (t : ℕ) (why : Why) → Ends line.event t (Err why)
      → (why ≡ NoReply) ⊎ ((why ≡ Exhausted) × (line.before.state.next ≡ last_nonce))
  pub ignored : (why : Ignored) → line.event ≡ Heard (heard_as.Ignored why) → (why ≡ UnknownNonce) ⊎ (why ≡ Late)
  pub refused : (why : AskError) → line.event ≡ Refused why
      → ((why ≡ ask_error.TooMany) × (len line.before.state.pending ≡ most_pending))
      ⊎ ((why ≡ ask_error.Exhausted) × (line.before.state.next ≡ last_nonce))

-- no step replaces the servers
abbrev pub KeepServers : List Step → Type 0
KeepServers steps = (k : ℕ) → Contains steps (Replace k) → ⊥

-- Over first servers that are honest to a register and aren't replaced, and from such a resolver, this holds of each
-- line of the history that a transcript tells, and the lines before it.
abbrev pub EachLine : (Register → List Line → Line → Type 0) → Members → State → List Step → Transcript
    → State → Type 0
EachLine holds servers old steps t new =
    (r : Register) → servers.honest 0 r → KeepServers steps → StartsSound r old → (past : List Line)
    → IsTranscriptOf servers old steps t new past → Each (holds r) past

-- Each outcome, remembered or of a lookup, is what the register assigns to the identifier that was asked for.
abbrev pub AnswersAreRight : Members → State → List Step → Transcript → State → Type 0
AnswersAreRight = EachLine IsRightAnswer

-- Each request that is delivered has one reply: a datagram with the request's nonce, and what the register says there
-- of its identifier.
abbrev pub RepliesAreRight : Members → State → List Step → Transcript → State → Type 0
RepliesAreRight = EachLine IsRightReply

-- No ticket is given to two asks, and no lookup ends twice.
abbrev pub TicketsEndOnce : Members → State → List Step → Transcript → State → Type 0
TicketsEndOnce = EachLine (λ r. IsOnce)

-- A lookup gives up only as NoReply or Exhausted, a reply is ignored only as UnknownNonce or Late, and an ask is
-- refused only as TooMany or Exhausted.
abbrev pub FailuresAreRight : Members → State → List Step → Transcript → State → Type 0
FailuresAreRight = EachLine (λ r. IsRightFailureLine)
