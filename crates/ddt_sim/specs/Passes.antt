-- The passes of a lookup: how many referrals it follows from its start, and once again from the root (RFC 8111,
-- section 7.3).
use Rattle.std.specs.Prelude.{ℕ, ◌≡◌, ◌⊎◌, ◌+◌, ◌≤◌, true, false, List, [], ◌∷◌, length, All, Some, Result, Ok, Err}
use Rattle.std.specs.FinMap.{get}
use Rattle.ddt_path.specs.declared.action.Action.{Action}
use Rattle.ddt_path.specs.declared.action.Action.TheVariants.{NodeReferral, MsReferral, NotAuthoritative}
use Rattle.ddt_path.specs.declared.xeid.Xeid.{Xeid}
use Rattle.ddt_path.specs.Path.{xeid_path}
use Rattle.ddt_wire.specs.declared.fault.ReferralFault.{ReferralFault}
use Rattle.ddt_wire.specs.Referral.{Message, message_in}
use Rattle.ddt_resolver.specs.declared.results.Outgoing.{Outgoing}
use Rattle.ddt_resolver.specs.declared.results.Ticked.{Ticked}
use Rattle.ddt_resolver.specs.declared.pending.Pending.{Pending}
use Rattle.ddt_resolver.specs.Records.{IsBelow}
use Rattle.ddt_resolver.specs.State.{State}
use Rattle.ddt_resolver.specs.declared.step.Reply.{Reply}
use Rattle.ddt_resolver.specs.TickStep.{HastenStep}
use Rattle.ddt_resolver.specs.Step.{ResolverCall, Step}
use Rattle.ddt_resolver.specs.Order.{IsStateInOrder}
use Rattle.ddt_sim.specs.declared.lookup_result.Hop.{Hop}
use Rattle.ddt_sim.specs.Lookup.{Reaches}

-- A pass is seen as how many referrals it follows. A referral in front is one more in the first pass. A server that
-- isn't in charge ends a pass of its own, and those that follow it come after.
abbrev pub in_front : Action → List ℕ → List ℕ
in_front NodeReferral (n ∷ passes) = (n + 1) ∷ passes
in_front MsReferral (n ∷ passes) = (n + 1) ∷ passes
in_front NotAuthoritative passes = 0 ∷ passes
in_front action passes = passes

-- the same by the reply of a hop; one that can't be read as a Map-Referral changes nothing
abbrev pub told_in_front : Result Message ReferralFault → List ℕ → List ℕ
told_in_front (Ok message) passes = in_front message.action passes
told_in_front (Err fault) passes = passes

-- the passes of hops
abbrev pub passes_of : List Hop → List ℕ
passes_of [] = 0 ∷ []
passes_of (hop ∷ more) = told_in_front (message_in hop.reply) (passes_of more)

-- There are at most two passes, and each follows at most one referral more than x has digits.
pub record HasShortPasses (x : Xeid) (hops : List Hop) : Type 0 where
  pub two : length (passes_of hops) ≤ 2
  pub short : All (λ n. n ≤ length (xeid_path x) + 1) (passes_of hops)

-- How a lookup that stays pending goes on in a step. `same_pass`: it stays in its pass, and its saved prefix is the
-- same or a longer one. `second_pass`: its second pass begins. There is no third.
pub data PassGoesOn (l new : Pending) : Type 0 where
  same_pass : new.restarted ≡ l.restarted
      → (new.last_referral ≡ l.last_referral)
      ⊎ ((p : List ℕ) × (new.last_referral ≡ Some p) × IsBelow l.last_referral p) → PassGoesOn l new
  second_pass : l.restarted ≡ false → new.restarted ≡ true → PassGoesOn l new

-- So it is in each step of a resolver, whatever comes, in whichever order: late, twice, among other lookups and ticks.
abbrev pub PassesGoOn : Type 0
PassesGoOn =
    (s : State) (call : ResolverCall) (new : State) (reply : Reply) → IsStateInOrder s → Step s call new reply
    → (t : ℕ) (l m : Pending) → get s.pending t ≡ Some l → get new.pending t ≡ Some m → PassGoesOn l m

-- And so it is where a lookup is hastened.
abbrev pub HastePassesGoOn : Type 0
HastePassesGoOn =
    (s : State) (nonce : ℕ) (new : State) (ticked : Ticked) → IsStateInOrder s → HastenStep s nonce new ticked
    → (t : ℕ) (l m : Pending) → get s.pending t ≡ Some l → get new.pending t ≡ Some m → PassGoesOn l m

-- However far a lookup has come, also one that fails, its passes are short, whatever the servers say.
abbrev pub PassesAreShort : Type 0
PassesAreShort =
    (now : ℕ) (x : Xeid) (start : State) (hops : List Hop) (t : ℕ) (d : Outgoing) (s : State)
    → Reaches now x start hops t d s → HasShortPasses x hops
