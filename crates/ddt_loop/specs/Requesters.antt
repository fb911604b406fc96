-- Who waits for a lookup, and what the lookups of the identifiers have ended in so far.
use Rattle.std.specs.Prelude.{ℕ, ◌≡◌, ◌≢◌, List, [], ◌∷◌, ◌++◌, All, map, slice_set, Option, Some, None, Result, Ok, Err, IsSome, Bool, true, false}
use Rattle.std.specs.List.{list_any}
use Rattle.std.specs.Coded.{Coded, code_by, coded×, coded_list}
use Rattle.std.specs.Prelude.{refl}
use Rattle.std.specs.FinMap.{get}
use Rattle.ddt_path.specs.declared.record.Outcome.{Outcome}
use Rattle.ddt_path.specs.declared.xeid.Xeid.{Xeid}
use Rattle.ddt_resolver.specs.declared.results.AskError.{AskError}
use Rattle.ddt_resolver.specs.declared.results.Why.{Why}
use Rattle.ddt_resolver.specs.State.{State}
use Rattle.ddt_loop.specs.declared.requester.Requester.{Requester}
use Rattle.ddt_loop.specs.declared.requester.WaitingRequester.{WaitingRequester}
use Rattle.ddt_loop.specs.declared.lookup_end.LoopEnd.{LoopEnd}
use Rattle.ddt_loop.specs.declared.lookup_end.LoopEnd.TheVariants.{Answer, GaveUp, Refused, Unresolved}

-- those who wait, in the order of their asks; the ends, in the order of the identifiers
pub record Desk : Type 0 where
  pub waiting : List WaitingRequester
  pub ends : List LoopEnd

-- how a compiled program may store it: as its parts
abbrev pub desk_code : Coded WaitingRequester → Coded LoopEnd → Coded Desk
desk_code owner end =
    code_by (List WaitingRequester × List LoopEnd) (coded× (coded_list owner) (coded_list end))
    (λ d. (d.waiting, d.ends)) (λ p. record { waiting = p.0; ends = p.1 }) (λ _. refl)

-- nobody waits, and each identifier is unresolved
abbrev pub opening_desk : List Xeid → Desk
opening_desk ids = record { waiting = []; ends = map (λ _. Unresolved) ids }

-- somebody waits for the lookup of a ticket
abbrev pub waiting_for : ℕ → Requester → WaitingRequester
waiting_for t who = record { ticket = t; requester = who }

-- whoever asked waits for the lookup of this ticket, behind all who wait already
abbrev pub with_requester : Desk → ℕ → Requester → Desk
with_requester d t who = record d { waiting = d.waiting ++ waiting_for t who ∷ [] }

-- the identifier at a place has this end
abbrev pub with_end : Desk → ℕ → LoopEnd → Desk
with_end d place end = record d { ends = slice_set d.ends place end }

-- what the end of a lookup is to its identifier
abbrev pub end_of : Result Outcome Why → LoopEnd
end_of (Ok o) = Answer o
end_of (Err why) = GaveUp why

-- what the answer to an ask is to its identifier: nothing yet, where a lookup starts
abbrev pub end_of_ask : Result (Option Outcome) AskError → LoopEnd
end_of_ask (Ok (Some o)) = Answer o
end_of_ask (Ok None) = Unresolved
end_of_ask (Err why) = Refused why

-- whether the lookup of an identifier hasn't ended
abbrev pub is_unresolved : LoopEnd → Bool
is_unresolved (Answer o) = false
is_unresolved (GaveUp why) = false
is_unresolved (Refused why) = false
is_unresolved Unresolved = true

-- whether some identifier's lookup hasn't ended: as long as that is so there are more turns, up to the most allowed
abbrev pub has_unresolved : List LoopEnd → Bool
has_unresolved ends = list_any is_unresolved ends

-- Who waits for the lookup of a ticket is taken off the list. `nobody`: nobody waits for it. `somebody`: this one does.
pub data TakesOff (t : ℕ) (old new : List WaitingRequester) (taken : Option Requester) : Type 0 where
  nobody : All (λ o. o.ticket ≢ t) old → new ≡ old → taken ≡ None → TakesOff t old new taken
  somebody : (before after : List WaitingRequester) (who : Requester) → old ≡ before ++ waiting_for t who ∷ after
      → new ≡ before ++ after → taken ≡ Some who → TakesOff t old new taken

-- no two wait for one lookup
abbrev pub AreApart : List WaitingRequester → Type 0
AreApart [] = Unit {0}
AreApart (o ∷ others) = All (λ p. p.ticket ≢ o.ticket) others × AreApart others

-- each waits for a lookup that is pending
pub record AreWaiting (s : State) (waiting : List WaitingRequester) : Type 0 where
  pub apart : AreApart waiting
  pub pending : All (λ o. IsSome (get s.pending o.ticket)) waiting
