-- A pending lookup with its ticket.
use Rattle.std.specs.Prelude.{ℕ, refl}
use Rattle.std.specs.Coded.{Coded, code_by, coded×, coded_ℕ}
use Rattle.ddt_resolver.specs.declared.pending.Pending.{Pending}

-- a pending lookup under its ticket: the nonce of its first request, also where later requests got other nonces
pub record TicketedLookup : Type 0 where
  pub ticket : ℕ
  pub lookup : Pending

-- how a compiled program may store it: as its parts
abbrev pub ticketed_lookup_code : Coded Pending → Coded TicketedLookup
ticketed_lookup_code pending =
    code_by (ℕ × Pending) (coded× coded_ℕ pending) (λ w. (w.ticket, w.lookup)) (λ p.
    record { ticket = p.0; lookup = p.1 }) (λ _. refl)
