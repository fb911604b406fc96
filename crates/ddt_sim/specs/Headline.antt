-- What a lookup over honest servers of a register ends in: what the register assigns (RFC 8111, section 7.3).
use Rattle.std.specs.Prelude.{ℕ, ◌≡◌, ◌≤◌, ◌+◌, ◌*◌, List, length, Result, Ok, IfOk, OnOk, IfErr}
use Rattle.std.specs.List.{All, filter}
use Rattle.std.specs.FinMap.{len}
use Rattle.ddt_path.specs.declared.locator.Locator.{Locator}
use Rattle.ddt_path.specs.declared.xeid.Xeid.{Xeid}
use Rattle.ddt_path.specs.Covers.{covers}
use Rattle.ddt_path.specs.Path.{xeid_path}
use Rattle.ddt_register.specs.declared.register.Register.{Register}
use Rattle.ddt_check.specs.Rules.{IsAccepted}
use Rattle.ddt_check.specs.Assignment.{assignment}
use Rattle.ddt_check.specs.Says.{says}
use Rattle.ddt_wire.specs.Referral.{Spells, message_of}
use Rattle.ddt_resolver.specs.declared.results.Outgoing.{Outgoing}
use Rattle.ddt_resolver.specs.declared.results.Why.TheVariants.{Exhausted}
use Rattle.ddt_resolver.specs.declared.results.Asked.{Asked}
use Rattle.ddt_resolver.specs.AskStep.{AskStep}
use Rattle.ddt_resolver.specs.State.{State, moved, last_nonce, most_pending, request_bytes}
use Rattle.ddt_sim.specs.declared.exchange.LookupProgress.{LookupProgress}
use Rattle.ddt_sim.specs.declared.exchange.LookupProgress.TheVariants.{GoesOn, Ends}
use Rattle.ddt_sim.specs.declared.lookup_result.Hop.{Hop}
use Rattle.ddt_sim.specs.declared.lookup_result.Lookup.{Lookup}
use Rattle.ddt_sim.specs.declared.lookup_result.LookupError.{LookupError}
use Rattle.ddt_sim.specs.declared.lookup_result.LookupError.TheVariants.{GaveUp, TooMany, Memory}
use Rattle.ddt_sim.specs.Sound.{IsSound, IsRightAsked}
use Rattle.ddt_sim.specs.Waiting.{Waits, CanBeAsked}

-- a lookup of x that waits for the reply to d, in a resolver that is sound for an accepted register
pub record IsUnderWay (r : Register) (now : ℕ) (x : Xeid) (s : State) (t : ℕ) (d : Outgoing) : Type 0 where
  pub accepted : IsAccepted r
  pub sound : IsSound r s
  pub waits : Waits now x s t d
  pub fits : CanBeAsked x s.me

-- what an ask was answered, in the state that it left
pub record IsAnswerToAsk (now : ℕ) (s : State) (asked : Asked) : Type 0 where
  pub identifier : Xeid
  pub start : State
  pub step : AskStep (moved now start) identifier s (Ok asked)

-- and where x was asked for, in a resolver that is sound for an accepted register
pub record IsRightlyAsked (r : Register) (now : ℕ) (x : Xeid) (s : State) (asked : Asked) : Type 0 where
  pub accepted : IsAccepted r
  pub start : State
  pub step : AskStep (moved now start) x s (Ok asked)
  pub sound : IsSound r s
  pub right : IsRightAsked r (xeid_path x) (Ok asked)
  pub fits : CanBeAsked x s.me

-- a hop of a lookup of x over honest servers: a DDT Map-Request for x with the resolver's address as its ITR-RLOC, and
-- a reply of its nonce with what the register says at the server that was asked
abbrev pub IsHonestHop : Register → Xeid → Locator → Hop → Type 0
IsHonestHop r x me hop =
    (nonce : ℕ) × (hop.request ≡ request_bytes nonce x me)
    × Spells hop.reply (message_of nonce (says r hop.to (xeid_path x)))

-- what a lookup of x gives over honest servers: the assignment, by honest hops, at most as many as the zones that cover
-- x, and 7
abbrev pub IsAssigned : Register → Xeid → Lookup → Type 0
IsAssigned r x l = l.outcome ≡ assignment r (xeid_path x)

-- each of its hops asks for x, and the reply is what the register says of x at the locator that was asked
abbrev pub HasHonestHops : Register → Xeid → Locator → Lookup → Type 0
HasHonestHops r x me l = All (IsHonestHop r x me) l.hops

-- how many zones of a register cover an identifier
abbrev pub zones_over : Register → List ℕ → ℕ
zones_over r x = length (filter (λ z. covers z.prefix x) r.zones)

-- it sends at most 7 requests more than there are zones that cover x
abbrev pub HasFewHops : Register → Xeid → Lookup → Type 0
HasFewHops r x l = length l.hops ≤ zones_over r (xeid_path x) + 7

-- an outcome that a reply ends a lookup with is the assignment
abbrev pub IsRightTurn : Register → Xeid → LookupProgress → Type 0
IsRightTurn r x (GoesOn e) = Unit {0}
IsRightTurn r x (Ends o) = o ≡ assignment r (xeid_path x)

-- Over honest servers a request fails only if memory or nonces run out.
abbrev pub IsRightFailure : State → LookupError → Type 0
IsRightFailure new (GaveUp why) = (why ≡ Exhausted) × (new.next ≡ last_nonce)
IsRightFailure new TooMany = ⊥
IsRightFailure new Memory = Unit {0}

-- and a lookup besides where 1,024 lookups were pending before
abbrev pub IsRightError : State → State → LookupError → Type 0
IsRightError old new (GaveUp why) = (why ≡ Exhausted) × (new.next ≡ last_nonce)
IsRightError old new TooMany = most_pending ≤ len old.pending
IsRightError old new Memory = Unit {0}

-- what a request of a lookup of x gives over honest servers, and what it leaves: hops that were honest are honest yet
pub record IsRightlyTurned (r : Register) (x : Xeid) (me : Locator) (before : List Hop)
    (res : Result LookupProgress LookupError) (after : List Hop) (new : State) : Type 0 where
  pub sound : IsSound r new
  pub turn : IfOk res (IsRightTurn r x)
  pub failure : IfErr res (IsRightFailure new)
  pub hops : All (IsHonestHop r x me) before → OnOk res (All (IsHonestHop r x me) after)

-- and what the whole lookup gives
pub record IsRightlyEnded (r : Register) (x : Xeid) (me : Locator) (res : Result Lookup LookupError) (new : State)
    : Type 0 where
  pub sound : IsSound r new
  pub right : IfOk res (IsAssigned r x)
  pub failure : IfErr res (IsRightFailure new)
  pub fair : IfOk res (HasHonestHops r x me)

-- how many hops a lookup has at most, whatever the servers say
abbrev pub most_hops : Xeid → ℕ
most_hops x = 16 * (length (xeid_path x) + 2)

-- ---- where it is so

-- The servers are honest to an accepted register, and the resolver is sound for it.
abbrev pub OverHonest : (Register → Type 0) → State → (Register → Type 0) → Type 0
OverHonest honest s fact = (r : Register) → IsAccepted r → honest r → IsSound r s → fact r

-- they are honest to one for which the ask of x was answered rightly
abbrev pub WhenAsked : (Register → Type 0) → ℕ → State → Asked → (Register → Xeid → Type 0) → Type 0
WhenAsked honest now s asked fact = (r : Register) (x : Xeid) → honest r → IsRightlyAsked r now x s asked → fact r x

-- they are honest to one for which the lookup of x is under way
abbrev pub WhileUnderWay : (Register → Type 0) → ℕ → State → ℕ → Outgoing → (Register → Xeid → Type 0) → Type 0
WhileUnderWay honest now s t d fact = (r : Register) (x : Xeid) → honest r → IsUnderWay r now x s t d → fact r x
