-- What a request asks, if its bit D is clear: what is read of bytes asks just what they spell.
use Rattle.std.proofs.Common.{◌≡◌, ◌+◌, ℕ, Bool, true, false, List, [], ◌∷◌, length, cond, Option, Some, None, refl, sym, ap, ◌∙◌, arith}
use Rattle.std.specs.Prelude.{is_some, slice_get, IfSome}
use Rattle.std.specs.Option.{option_map}
use Rattle.std.proofs.lemmas.Option.{same_Some}
use Rattle.ddt_path.specs.declared.locator.Locator.{Locator}
use Rattle.ddt_ecm.specs.Request.{Message, Spells}
use Rattle.ddt_resolver.specs.declared.itr_messages.ItrRequest.{ItrRequest}
use Rattle.ddt_resolver.specs.Front.{AsksAsItr, IsItrRequest, asked_at, asked_by}

-- what a request asks is what `asked_by` says
pub asked_is : (m : Message) (q : ItrRequest) → AsksAsItr m q → asked_by m ≡ Some q
asked_is m q a = rw (a.plain, a.first_rloc, ← a.identifier, ← a.nonce, ← a.port)

-- and the other way round
pub is_asked : (m : Message) (q : ItrRequest) → asked_by m ≡ Some q → AsksAsItr m q
is_asked m q e = by m.ddt refl (slice_get m.rlocs 0) refl e
  where
    by : (b : Bool) → m.ddt ≡ b → (o : Option Locator) → slice_get m.rlocs 0 ≡ o
        → cond b None (option_map (asked_at m) o) ≡ Some q → AsksAsItr m q
    by true is o at f = cc
    by false is None at f = cc
    by false is (Some l) at f =
        let same = same_Some (asked_at m l) q f in
        record { plain = is; identifier = (cc); nonce = (cc); first_rloc = at ∙ ap (λ (r : ItrRequest). Some r.to) same; port = cc }

-- a request names an ITR-RLOC, so that one whose bit D is clear asks something
pub asks_something : (bytes : List ℕ) (m : Message) → Spells bytes m → m.ddt ≡ false → is_some (asked_by m) ≡ true
asks_something bytes m s plain = rw plain (by m.rlocs s.spells_request.count)
  where
    by : (ls : List Locator) → length ls ≡ s.spells_request.irc + 1 → is_some (option_map (asked_at m) (slice_get ls 0)) ≡ true
    by [] count = absurd (omega (arith, count))
    by (l ∷ ls) count = refl

-- what is read asks just what the bytes spell
pub asked_in : (bytes : List ℕ) (m : Message) (o : Option ItrRequest) → Spells bytes m → o ≡ asked_by m
    → IfSome o (λ q. IsItrRequest bytes q)
asked_in bytes m None s e = tt
asked_in bytes m (Some q) s e = record { message = m; spells = s; asks = is_asked m q (sym e) }
