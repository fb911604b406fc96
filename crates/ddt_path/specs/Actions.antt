-- The actions of a Map-Referral: their numbers on the wire, their names and which refer (RFC 8111, section 6.1).
use Rattle.std.specs.Prelude.{ℕ, ◌≡◌, ◌==◌, ◌⊎◌, List, [], ◌∷◌, find, codes, Option}
use Rattle.ddt_path.specs.declared.action.Action.{Action}
use Rattle.ddt_path.specs.declared.action.Action.TheVariants.{NodeReferral, MsReferral, MsAck, MsNotRegistered, DelegationHole, NotAuthoritative}

-- the number of an action
abbrev pub number : Action → ℕ
number NodeReferral = 0
number MsReferral = 1
number MsAck = 2
number MsNotRegistered = 3
number DelegationHole = 4
number NotAuthoritative = 5

-- The six actions of a Map-Referral, by rising number from 0 to 5.
abbrev pub all_actions : List Action
all_actions = NodeReferral ∷ MsReferral ∷ MsAck ∷ MsNotRegistered ∷ DelegationHole ∷ NotAuthoritative ∷ []

-- the action of a number, of which there is none above 5
abbrev pub action_of : ℕ → Option Action
action_of n = find (λ action. number action == n) all_actions

-- an action that refers to other servers
abbrev pub IsReferral : Action → Type 0
IsReferral action = (action ≡ NodeReferral) ⊎ (action ≡ MsReferral)

-- the name of an action
abbrev pub name : Action → List ℕ
name NodeReferral = codes "NODE-REFERRAL"
name MsReferral = codes "MS-REFERRAL"
name MsAck = codes "MS-ACK"
name MsNotRegistered = codes "MS-NOT-REGISTERED"
name DelegationHole = codes "DELEGATION-HOLE"
name NotAuthoritative = codes "NOT-AUTHORITATIVE"
