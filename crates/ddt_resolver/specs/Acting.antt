-- What the parts of a resolver hand to each other.
use Rattle.std.specs.Prelude.{ℕ, ◌≡◌, ◌<◌, ◌≤◌, length, Some}
use Rattle.std.specs.FinMap.{get}
use Rattle.ddt_path.specs.Locators.{most_locators}
use Rattle.ddt_path.specs.Path.{xeid_path}
use Rattle.ddt_resolver.specs.declared.pending.Pending.{Pending}
use Rattle.ddt_resolver.specs.declared.replies.MatchedReply.{MatchedReply}
use Rattle.ddt_resolver.specs.declared.requests.Change.{Change}
use Rattle.ddt_resolver.specs.declared.requests.Change.TheVariants.{Keep, Save, Forget}
use Rattle.ddt_resolver.specs.declared.results.Why.TheVariants.{Exhausted}
use Rattle.ddt_resolver.specs.declared.results.Heard.{Heard}
use Rattle.ddt_resolver.specs.declared.results.Heard.TheVariants.{Followed, Answer, GaveUp}
use Rattle.ddt_resolver.specs.declared.results.Ticked.{Ticked}
use Rattle.ddt_resolver.specs.declared.results.Ticked.TheVariants as ticked_as
use Rattle.ddt_resolver.specs.State.{State, last_nonce, with_change, request_sent, dropped, stored, request}
use Rattle.ddt_resolver.specs.Order.{IsStateInOrder}
use Rattle.ddt_resolver.specs.Records.{IsAbout, NamesServer, outcome_of}

-- a reply that passed the tests, with the lookup that is pending, at a resolver in order
pub record IsHeard (s : State) (taken : MatchedReply) : Type 0 where
  pub order : IsStateInOrder s
  pub is_pending : get s.pending taken.ticket ≡ Some taken.lookup
  pub about : IsAbout taken.told (xeid_path taken.lookup.x)
  pub names_server : NamesServer taken.told
  pub few : length taken.told.servers ≤ most_locators

-- the record is saved, and its outcome is the lookup's
pub record IsAnswered (s : State) (taken : MatchedReply) (new : State) (heard : Heard) : Type 0 where
  pub state : new ≡ dropped (stored s taken.told) taken.ticket
  pub answer : heard ≡ Answer taken.ticket (outcome_of taken.told)

-- a record that is to be saved has at most 8 servers
abbrev pub IsSmall : Change → Type 0
IsSmall Keep = Unit {0}
IsSmall (Save rec) = length rec.servers ≤ most_locators
IsSmall (Forget p) = Unit {0}

-- a lookup goes on, or ends where no nonce is left
pub data SendsOn (s : State) (t : ℕ) (l : Pending) (change : Change) (new : State) (heard : Heard) : Type 0 where
  followed : s.next < last_nonce → new ≡ request_sent (with_change s change) t l → heard ≡ Followed t (request s l)
      → SendsOn s t l change new heard
  used_up : s.next ≡ last_nonce → new ≡ dropped s t → heard ≡ GaveUp t Exhausted → SendsOn s t l change new heard

-- a lookup that is due goes on without a reply, or ends where no nonce is left
pub data TriesOn (s : State) (t : ℕ) (l : Pending) (new : State) (ticked : Ticked) : Type 0 where
  tried : s.next < last_nonce → new ≡ request_sent s t l → ticked ≡ ticked_as.Sent t (request s l)
      → TriesOn s t l new ticked
  spent : s.next ≡ last_nonce → new ≡ dropped s t → ticked ≡ ticked_as.GaveUp t Exhausted → TriesOn s t l new ticked
