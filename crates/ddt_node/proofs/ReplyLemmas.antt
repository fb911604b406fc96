-- A request that is spelled is the one that is answered.
use Rattle.std.proofs.Common.{◌≡◌, List, ℕ, Option, Some, None, refl, ap, subst, ◌∙◌}
use Rattle.std.specs.Prelude.{is_some}
use Rattle.std.proofs.lemmas.Bool.{false≢true}
use Rattle.std.proofs.lemmas.Option.{same_Some}
use Rattle.ddt_wire.specs.Referral.{Spells}
use Rattle.ddt_config.specs.Table.{Outline}
use Rattle.ddt_ecm.specs.Request.{Message}
use Rattle.ddt_ecm.specs.laws.Request.{message_again}
use Rattle.ddt_node.specs.Server.{IsDdtRequest, reply_to, if_ddt, ddt_request}

found : (bytes : List ℕ) (m : Message) → IsDdtRequest bytes m → ddt_request bytes ≡ Some m
found bytes m (spelled, ddt) = ap if_ddt (message_again bytes m spelled) ∙ rw ddt refl

-- the reply to what was read is that to the request that the bytes spell
pub replied : (c : Outline) (bytes : List ℕ) (m n : Message) (reply : List ℕ) → IsDdtRequest bytes m → Some n ≡ ddt_request bytes → Spells reply (reply_to c n) → Spells reply (reply_to c m)
replied c bytes m n reply is read = subst (λ v. Spells reply (reply_to c v)) (same_Some n m (read ∙ found bytes m is))

pub unread : (bytes : List ℕ) (m : Message) → IsDdtRequest bytes m → None ≡ ddt_request bytes → ⊥
unread bytes m is read = false≢true (ap (λ (o : Option Message). is_some o) (read ∙ found bytes m is))
