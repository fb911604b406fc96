-- The requests that went out and have no reply yet.
use Rattle.std.specs.Prelude.{ℕ, ◌≡◌, ◌==◌, ◌&&◌, Bool, true, false, nat_lt, if◌then◌else◌, List, [], ◌∷◌, ◌++◌, length, All, Contains, Option, None, Some}
use Rattle.std.specs.List.{remove}
use Rattle.ddt_path.specs.declared.locator.Locator.{Locator}
use Rattle.ddt_path.specs.Locators.{is_same_locator}

-- A request that went out: the socket that it was sent from, the server that it was sent to, its nonce on the wire, and
-- the nonce that its sender gave it. When it was sent, and when its server is overdue, no fact rests on.
pub record Request : Type 0 where
  pub at : Locator
  pub to : Locator
  pub wire : ℕ
  pub plain : ℕ

-- some request to this server, with this nonce of its sender, is outstanding
abbrev pub IsOutstanding : ℕ → Locator → List Request → Type 0
IsOutstanding nonce server sent = (s : Request) × Contains sent s × (s.plain ≡ nonce) × (s.to ≡ server)

-- as many requests are outstanding at most as lookups can be pending
abbrev pub most_outstanding : ℕ
most_outstanding = 1024

-- whether a reply at a socket, from this address, with this nonce on the wire, is to a request
abbrev pub is_reply_to : Locator → Locator → ℕ → Request → Bool
is_reply_to at from wire s = ((s.wire == wire) && is_same_locator s.at at) && is_same_locator s.to from

-- where there is one too many, the oldest is forgotten
abbrev pub bounded : List Request → List Request
bounded sent = if nat_lt most_outstanding (length sent) then remove sent 0 else sent

-- one more request goes out
abbrev pub noted : List Request → Request → List Request
noted old s = bounded (old ++ s ∷ [])

-- A reply takes its request off the list. `unknown`: it is to none. `known`: it is to the first such.
pub data Takes (at from : Locator) (wire : ℕ) (old new : List Request) (taken : Option Request) : Type 0 where
  unknown : All (λ s. is_reply_to at from wire s ≡ false) old → new ≡ old → taken ≡ None
      → Takes at from wire old new taken
  known : (before after : List Request) (s : Request) → is_reply_to at from wire s ≡ true → old ≡ before ++ s ∷ after
      → new ≡ before ++ after → taken ≡ Some s → Takes at from wire old new taken
