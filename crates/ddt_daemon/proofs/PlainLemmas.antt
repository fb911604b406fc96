-- A Map-Referral is no Encapsulated Control Message, by its first four bits.
use Rattle.std.proofs.Common.{◌≡◌, ◌≤◌, ℕ, ◌+◌, ◌*◌, ◌/◌, ◌^◌, ◌<◌, ◌==◌, Bool, true, false, List, [], ◌∷◌, ◌++◌, refl, sym, ap, ◌∙◌, arith}
use Rattle.std.specs.Prelude.{◌≢◌}
use Rattle.std.specs.Int.{w32, to_be_bytes}
use Rattle.std.proofs.lemmas.Bool.{ne_eqb, true≢false}
use Rattle.ddt_wire.specs.declared.message_type.MessageType.TheVariants.{Encapsulated}
use Rattle.ddt_wire.specs.MessageType.{is_of}
use Rattle.ddt_wire.specs.Referral.{Message, Spells}
use Rattle.ddt_ecm.specs.EcmHeader.{ecm_fields}
use Rattle.ddt_ecm.specs.Request.{Message as AskMessage, Spells as SpellsRequest}

not_eight : (n : ℕ) → n ≡ 6 → (n == 8) ≡ false
not_eight n is = rw is refl

pub referral_is_plain : (bytes : List ℕ) (v : Message) → Spells bytes v → is_of Encapsulated bytes ≡ false
referral_is_plain bytes v s = let fits = s.ignored.reserved_fits in rw s.whole (not_eight _ (omega (arith, fits)))

pub no_referral : (bytes : List ℕ) (v : Message) → is_of Encapsulated bytes ≡ true → Spells bytes v → ⊥
no_referral bytes v sort s = true≢false (sym sort ∙ referral_is_plain bytes v s)

eight : (n : ℕ) → n ≡ 8 → (n == 8) ≡ true
eight n is = rw is refl

-- an Encapsulated Map-Request is an Encapsulated Control Message
pub request_is_encapsulated : (bytes : List ℕ) (m : AskMessage) → SpellsRequest bytes m → is_of Encapsulated bytes ≡ true
request_is_encapsulated bytes m s = rw s.whole (by_bit m.ddt)
  where
    by_bit : (d : Bool) → is_of Encapsulated (ecm_fields d s.ignored ++ s.packet) ≡ true
    by_bit true = let fits = s.ignored_fits in eight _ (omega (arith, fits))
    by_bit false = let fits = s.ignored_fits in eight _ (omega (arith, fits))
