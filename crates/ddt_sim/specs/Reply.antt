-- What a reply of an honest server makes of the lookup that waits for it.
use Rattle.std.specs.Prelude.{ℕ, ◌≡◌, ◌≤◌, List, Some}
use Rattle.ddt_path.specs.declared.record.Outcome.{Outcome}
use Rattle.ddt_path.specs.declared.xeid.Xeid.{Xeid}
use Rattle.ddt_path.specs.Path.{xeid_path}
use Rattle.ddt_register.specs.declared.register.Register.{Register}
use Rattle.ddt_check.specs.Assignment.{assignment}
use Rattle.ddt_ecm.specs.Request.{Message}
use Rattle.ddt_node.specs.Server.{IsDdtRequest}
use Rattle.ddt_cache.specs.Moment.{last_moment}
use Rattle.ddt_resolver.specs.declared.results.Outgoing.{Outgoing}
use Rattle.ddt_resolver.specs.declared.results.Heard.{Heard}
use Rattle.ddt_resolver.specs.declared.results.Heard.TheVariants as heard
use Rattle.ddt_resolver.specs.declared.results.Why.{Why}
use Rattle.ddt_resolver.specs.declared.results.Why.TheVariants.{Exhausted}
use Rattle.ddt_resolver.specs.State.{State, moved, last_nonce}
use Rattle.ddt_resolver.specs.Act.{HearStep}
use Rattle.ddt_resolver.specs.Order.{IsStateInOrder}
use Rattle.ddt_sim.specs.Honest.{IsServer, IsHonestReply}
use Rattle.ddt_sim.specs.Sound.{IsSound}
use Rattle.ddt_sim.specs.Lookup.{IsNotFor, hop_of}
use Rattle.ddt_sim.specs.Headline.{IsUnderWay, IsHonestHop}

-- It is for this lookup, and the resolver stays sound. An outcome is the assignment, and the lookup gives up only where
-- no nonce is left. With its request it is an honest hop.
pub record IsWellHeard (r : Register) (x : Xeid) (s : State) (t : ℕ) (d : Outgoing) (reply : List ℕ) (new : State)
    (h : Heard) : Type 0 where
  pub own : IsNotFor t h → ⊥
  pub sound : IsSound r new
  pub outcome : (o : Outcome) → h ≡ heard.Answer t o → o ≡ assignment r (xeid_path x)
  pub why : (w : Why) → h ≡ heard.GaveUp t w → (w ≡ Exhausted) × (new.next ≡ last_nonce)
  pub hop : IsHonestHop r x s.me (hop_of d reply)

-- the request d is a DDT Map-Request to a server of the register, and an honest reply to it is well heard
pub record IsUnderstood (r : Register) (now : ℕ) (x : Xeid) (s : State) (t : ℕ) (d : Outgoing) : Type 0 where
  pub request : Message
  pub server : IsServer r d.to
  pub spelled : IsDdtRequest d.bytes request
  pub heard : (reply : List ℕ) → IsHonestReply r d.to request (Some reply)
      → (new : State) (h : Heard) → HearStep (moved now s) d.to reply new h → IsWellHeard r x s t d reply new h

-- so it is with each request of a lookup that is under way
abbrev pub RequestsAreUnderstood : Type 0
RequestsAreUnderstood =
    (r : Register) (now : ℕ) (x : Xeid) (s : State) (t : ℕ) (d : Outgoing) → now ≤ last_moment → IsStateInOrder s
    → IsUnderWay r now x s t d → IsUnderstood r now x s t d
