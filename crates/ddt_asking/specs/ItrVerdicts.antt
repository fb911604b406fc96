-- What comes of an ITR's question to a Map-Resolver by its reply.
use Rattle.std.specs.Prelude.{ℕ, ◌≡◌, List, Option, Some, None, IsTrue}
use Rattle.ddt_path.specs.declared.action.Action.{Action}
use Rattle.ddt_path.specs.declared.action.Action.TheVariants.{NodeReferral, MsReferral, MsAck, MsNotRegistered, DelegationHole, NotAuthoritative}
use Rattle.ddt_path.specs.declared.record.ReferralRecord.{ReferralRecord}
use Rattle.ddt_path.specs.declared.xeid.Xeid.{Xeid}
use Rattle.ddt_path.specs.Covers.{covers}
use Rattle.ddt_path.specs.Path.{xeid_path}
use Rattle.ddt_wire.specs.declared.negative_reply.NegativeReply.{NegativeReply}
use Rattle.ddt_wire.specs.NegativeReply.{SpellsReply}
use Rattle.ddt_asking.specs.declared.verdict.Verdict.{Verdict}
use Rattle.ddt_asking.specs.declared.verdict.Verdict.TheVariants.{Agrees, Differs, Silent}
use Rattle.ddt_asking.specs.Replies.{is_forwarded}

-- What a negative Map-Reply has to say: the nonce of the request, the TTL of the record, and an EID-prefix that
-- covers the identifier and lies inside the record's (RFC 9301, section 5.4; RFC 8111, section 7.3). So a
-- Map-Resolver that answers for less than the whole block agrees too.
pub record IsNegativeFor (x : Xeid) (demanded : ReferralRecord) (nonce : ℕ) (v : NegativeReply) : Type 0 where
  pub its_nonce : v.nonce ≡ nonce
  pub its_ttl : v.ttl ≡ demanded.ttl
  pub is_inside : IsTrue (covers demanded.prefix v.prefix)
  pub covers_it : IsTrue (covers v.prefix (xeid_path x))

-- bytes that spell such a negative Map-Reply, in whichever spelling
abbrev pub IsNegative : Xeid → ReferralRecord → ℕ → List ℕ → Type 0
IsNegative x demanded nonce bytes = (v : NegativeReply) × SpellsReply bytes v × IsNegativeFor x demanded nonce v

-- What an ITR has to get by the action of its identifier's record: of a registered site its own request, forwarded
-- to it as an ETR; elsewhere a negative Map-Reply. No assignment has another action.
abbrev pub IsDueTo : Action → Xeid → ReferralRecord → ℕ → List ℕ → Type 0
IsDueTo MsAck x demanded nonce bytes = IsTrue (is_forwarded nonce x bytes)
IsDueTo MsNotRegistered x demanded nonce bytes = IsNegative x demanded nonce bytes
IsDueTo DelegationHole x demanded nonce bytes = IsNegative x demanded nonce bytes
IsDueTo NodeReferral x demanded nonce bytes = ⊥
IsDueTo MsReferral x demanded nonce bytes = ⊥
IsDueTo NotAuthoritative x demanded nonce bytes = ⊥

abbrev pub IsDue : Xeid → ReferralRecord → ℕ → List ℕ → Type 0
IsDue x demanded nonce bytes = IsDueTo demanded.action x demanded nonce bytes

-- What comes of an ITR's question with this nonce, where its identifier has this record. It agrees where the ITR
-- gets what it has to; else it differs. Without a reply it is silent.
pub data IsItrVerdict (x : Xeid) (demanded : ReferralRecord) (nonce : ℕ) : Option (List ℕ) → Verdict → Type 0 where
  itr_agrees : (bytes : List ℕ) → IsDue x demanded nonce bytes → IsItrVerdict x demanded nonce (Some bytes) Agrees
  itr_differs : (bytes : List ℕ) → (IsDue x demanded nonce bytes → ⊥)
      → IsItrVerdict x demanded nonce (Some bytes) (Differs bytes)
  itr_silent : IsItrVerdict x demanded nonce None Silent
