-- What comes of a question by its reply.
use Rattle.std.specs.Prelude.{ℕ, Bool, true, false, List, Option, Some, None}
use Rattle.ddt_path.specs.declared.record.ReferralRecord.{ReferralRecord}
use Rattle.ddt_wire.specs.Referral.{Spells, message_of}
use Rattle.ddt_asking.specs.declared.verdict.Verdict.{Verdict}
use Rattle.ddt_asking.specs.declared.verdict.Verdict.TheVariants.{Agrees, Differs, Silent, NotJudged}

-- What comes of a question with this nonce, where this record is demanded, by the reply to it. It agrees where the
-- bytes, all of them, spell the Map-Referral of the nonce and the record; else it differs. Without one it is silent.
pub data IsVerdict (demanded : ReferralRecord) (nonce : ℕ) : Option (List ℕ) → Verdict → Type 0 where
  agrees : (bytes : List ℕ) → Spells bytes (message_of nonce demanded) → IsVerdict demanded nonce (Some bytes) Agrees
  differs : (bytes : List ℕ) → (Spells bytes (message_of nonce demanded) → ⊥)
      → IsVerdict demanded nonce (Some bytes) (Differs bytes)
  silent : IsVerdict demanded nonce None Silent

-- whether what comes of a question is that its reply agrees
abbrev pub is_agreement : Verdict → Bool
is_agreement Agrees = true
is_agreement (Differs reply) = false
is_agreement Silent = false
is_agreement NotJudged = false
