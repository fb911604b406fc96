-- What a Map-Resolver hears in the place of a datagram: what it says of the identifier that its nonce asks for, in the
-- one spelling (RFC 8111, sections 6.4 and 6.4.1).
use Rattle.std.specs.Prelude.{ℕ, ◌≡◌, ◌<◌, List, length, Option, Some, None}
use Rattle.std.specs.Result.{IsErr}
use Rattle.std.specs.FinMap.{get}
use Rattle.ddt_foreign.specs.Plain.{nonce_of, plain_in, Gives}
use Rattle.ddt_resolver.specs.declared.pending.Pending.{Pending}
use Rattle.ddt_resolver.specs.State.{State}

-- the last request of this pending lookup has the nonce of a datagram
abbrev pub IsAskedFor : State → List ℕ → ℕ → Pending → Type 0
IsAskedFor s bytes t l = (get s.pending t ≡ Some l) × (l.nonce ≡ nonce_of bytes)

-- None is the datagram as it came. `short`: it has no nonce. `unasked`: no pending lookup has its nonce. `untaken`: one
-- has, but nothing is taken of it for the identifier. `taken`: something is, and given in the one spelling.
pub data IsSpelledAs (s : State) (bytes : List ℕ) (plain : Option (List ℕ)) : Type 0 where
  short : length bytes < 12 → plain ≡ None → IsSpelledAs s bytes plain
  unasked : ((t : ℕ) (l : Pending) → IsAskedFor s bytes t l → ⊥) → plain ≡ None → IsSpelledAs s bytes plain
  untaken : (t : ℕ) (l : Pending) → IsAskedFor s bytes t l → IsErr (plain_in l.x bytes) → plain ≡ None
      → IsSpelledAs s bytes plain
  taken : (t : ℕ) (l : Pending) (given : List ℕ) → IsAskedFor s bytes t l → Gives l.x bytes given → plain ≡ Some given
      → IsSpelledAs s bytes plain
