-- The bit D of an ITR's request, set and cleared again.
use Rattle.std.proofs.Common.{◌≡◌, ℕ, ◌^◌, ◌<◌, Bool, true, false, List, ◌∷◌, ◌++◌, Ok, refl, sym, ap, subst, ◌∙◌, arith}
use Rattle.std.specs.Prelude.{Some}
use Rattle.ddt_path.specs.Path.{xeid_path}
use Rattle.ddt_ecm.specs.EcmHeader.{ecm_fields}
use Rattle.ddt_ecm.specs.Request.{Message, Spells, message_in}
use Rattle.ddt_ecm.specs.laws.Request.{message_again}
use Rattle.ddt_node.specs.Server.{first_etr, without_d}
use Rattle.ddt_daemon.specs.Onward.{with_d, IsStillRequest, GoesOnAsItCame}

-- four bytes in front
four : (a b c d e f g h : ℕ) (rest : List ℕ) → a ≡ e → b ≡ f → c ≡ g → d ≡ h → a ∷ b ∷ c ∷ d ∷ rest ≡ e ∷ f ∷ g ∷ h ∷ rest
four a b c d e f g h rest one two three last = rw (one, two, three, last) refl

-- the header with the bit
header_with : (ignored : ℕ) (rest : List ℕ) → ignored < 2 ^ 26 → with_d (ecm_fields false ignored ++ rest) ≡ ecm_fields true ignored ++ rest
header_with ignored rest fits = four _ _ _ _ _ _ _ _ rest (omega arith) (omega arith) (omega arith) (omega arith)

-- and without it again
header_again : (ignored : ℕ) (rest : List ℕ) → ignored < 2 ^ 26 → without_d (ecm_fields true ignored ++ rest) ≡ ecm_fields false ignored ++ rest
header_again ignored rest fits = four _ _ _ _ _ _ _ _ rest (omega arith) (omega arith) (omega arith) (omega arith)

-- the message with the bit
spells_with : (bytes : List ℕ) (m : Message) → m.ddt ≡ false → Spells bytes m → Spells (with_d bytes) (record m { ddt = true })
spells_with bytes m plain s =
    let is : bytes ≡ ecm_fields false s.ignored ++ s.packet = subst (λ (d : Bool). bytes ≡ ecm_fields d s.ignored ++ s.packet) plain s.whole in
    record {
      ignored = s.ignored;
      packet = s.packet;
      pseudo = s.pseudo;
      udp = s.udp;
      request = s.request;
      ignored_fits = s.ignored_fits;
      spells_ip = s.spells_ip;
      spells_udp = s.spells_udp;
      spells_request = s.spells_request;
      whole = ap with_d is ∙ header_with s.ignored s.packet s.ignored_fits;
    }

again : (bytes : List ℕ) (m : Message) → m.ddt ≡ false → Spells bytes m → without_d (with_d bytes) ≡ bytes
again bytes m plain s =
    let is : bytes ≡ ecm_fields false s.ignored ++ s.packet = subst (λ (d : Bool). bytes ≡ ecm_fields d s.ignored ++ s.packet) plain s.whole in
    ap (λ (l : List ℕ). without_d (with_d l)) is
    ∙ ap without_d (header_with s.ignored s.packet s.ignored_fits)
    ∙ header_again s.ignored s.packet s.ignored_fits
    ∙ sym is

pub still_request : IsStillRequest
still_request bytes q asks =
    let m = asks.message in
    (record m { ddt = true }, (spells_with bytes m asks.asks.plain asks.spells, refl), sym asks.asks.identifier, sym asks.asks.nonce)

pub goes_on : GoesOnAsItCame
goes_on c bytes q etr asks at =
    let m = asks.message in
    let read : message_in (with_d bytes) ≡ Ok (record m { ddt = true }) = message_again (with_d bytes) (record m { ddt = true }) (spells_with bytes m asks.asks.plain asks.spells) in
    let there : first_etr c (xeid_path m.xeid) ≡ Some etr = ap (λ x. first_etr c (xeid_path x)) (sym asks.asks.identifier) ∙ at in
    rw (read, there) (ap (λ (l : List ℕ). Some (record { to = etr; bytes = l })) (again bytes m asks.asks.plain asks.spells))
