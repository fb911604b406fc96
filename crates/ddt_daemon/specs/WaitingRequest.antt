-- The requests of ITRs that wait for lookups.
use Rattle.std.specs.Prelude.{ℕ, ◌≡◌, ◌≢◌, ◌==◌, ◌&&◌, Bool, false, List, [], ◌∷◌, ◌++◌, All, Option, Some, None}
use Rattle.std.specs.List.{list_any, count_by}
use Rattle.std.specs.Cmp.Lexicographic.{pointwise}
use Rattle.ddt_path.specs.declared.locator.Locator.{Locator}
use Rattle.ddt_path.specs.declared.xeid.Xeid.{Xeid}
use Rattle.ddt_path.specs.Locators.{is_same_locator}
use Rattle.ddt_resolver.specs.declared.itr_messages.ItrRequest.{ItrRequest}
use Rattle.ddt_daemon.specs.declared.itr_requests.WaitingRequest.{WaitingRequest}

-- whether two XEIDs are the same: the instance and the address
abbrev pub is_same_xeid : Xeid → Xeid → Bool
is_same_xeid x y = (x.iid == y.iid) && is_same_locator x.address y.address

-- Whether an ITR repeats a request: the nonce, the XEID, the ITR-RLOC and the port that the reply goes to are the same.
abbrev pub is_same_request : ItrRequest → ItrRequest → Bool
is_same_request p q =
    (p.nonce == q.nonce) && (is_same_xeid p.xeid q.xeid && (is_same_locator p.to q.to && (p.port == q.port)))

-- whether such a request waits
abbrev pub waits_for : List WaitingRequest → ItrRequest → Bool
waits_for kept q = list_any (λ k. is_same_request k.request q) kept

-- how many requests that came from this source wait
abbrev pub of_source : List WaitingRequest → Locator → ℕ
of_source kept from = count_by (λ k. is_same_locator k.from from) kept

-- whether a lookup began at this referral set
abbrev pub begins_at : Option (List Locator) → List Locator → Bool
begins_at None servers = false
begins_at (Some own) servers = pointwise is_same_locator own servers

-- how many requests wait whose lookup began at this referral set
abbrev pub of_set : List WaitingRequest → List Locator → ℕ
of_set kept servers = count_by (λ k. begins_at k.begins servers) kept

-- A request that waits for the lookup of a ticket waits no longer. `nobody`: none waits for it. `somebody`: the first
-- that does.
pub data TakesKept (t : ℕ) (old new : List WaitingRequest) (taken : Option WaitingRequest) : Type 0 where
  nobody : All (λ k. k.ticket ≢ t) old → new ≡ old → taken ≡ None → TakesKept t old new taken
  somebody : (before after : List WaitingRequest) (k : WaitingRequest) → All (λ k. k.ticket ≢ t) before → k.ticket ≡ t
      → old ≡ before ++ k ∷ after → new ≡ before ++ after → taken ≡ Some k → TakesKept t old new taken
