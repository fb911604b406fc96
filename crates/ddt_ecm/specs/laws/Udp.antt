-- A UDP datagram that is read is spelled so, and what is spelled is read again.
use Rattle.std.proofs.Common.{◌≡◌, ℕ, ◌+◌, ◌*◌, ◌≤◌, true, eqb, List, ◌++◌, length, drop, Ok, refl, sym, ap, subst, ◌∙◌, arith, inl, inr, length-drop}
use Rattle.std.specs.Prelude.{◌||◌, ◌⊎◌, not}
use Rattle.std.proofs.lemmas.Bool.{eqb-true, eq-eqb, not-false, or_cases, or_left, or_right}
use Rattle.byteorder.specs.Endian.{big_number}
use Rattle.byteorder.specs.Numbers.{big_number-reads_back}
use Rattle.ddt_path.specs.Steps.{IsBytes}
use Rattle.ddt_path.specs.laws.Step.{guard_parts, ok_is}
use Rattle.ddt_path.specs.laws.Byte.{◌followed_by◌, number_stands, known_stands, number_fits, IsBytes-drop}
use Rattle.ddt_ecm.specs.declared.fault.RequestFault.{RequestFault}
use Rattle.ddt_ecm.specs.Checksum.{ones_sum, is_right}
use Rattle.ddt_ecm.specs.UdpHeader.{udp_fields, SpellsUdp, udp_at}
use Rattle.ddt_ecm.specs.laws.Checksum.{ones_sum-append}

-- ---- what is read is spelled so

-- a sum over a pseudo-header and a datagram
covers : (k : ℕ) (pseudo udp : List ℕ) → length pseudo ≡ k * 2 → ones_sum 0 (pseudo ++ udp) ≡ ones_sum (ones_sum 0 pseudo) udp
covers k pseudo udp even = ones_sum-append k pseudo udp 0 even

-- what the test of the checksum says
right_holds : (k : ℕ) (pseudo udp : List ℕ) (checksum : ℕ) → length pseudo ≡ k * 2 → (eqb checksum 0 || is_right (ones_sum (ones_sum 0 pseudo) udp)) ≡ true → (checksum ≡ 0) ⊎ (ones_sum 0 (pseudo ++ udp) ≡ 65535)
right_holds k pseudo udp checksum even e =
    elim (or_cases (eqb checksum 0) (is_right (ones_sum (ones_sum 0 pseudo) udp)) e) [
      | inl p ↦ inl (eqb-true _ _ p)
      | inr p ↦ inr (covers k pseudo udp even ∙ eqb-true _ _ p)
    ]

pub udp_takes : (k : ℕ) (pseudo udp : List ℕ) (x : ℕ × List ℕ) → length pseudo ≡ k * 2 → IsBytes udp → 8 ≤ length udp → udp_at (ones_sum 0 pseudo) udp ≡ Ok x → SpellsUdp pseudo udp x.0 x.1
unfolding udp_at
udp_takes k pseudo udp x even fits long e =
    guard_parts (not (eqb (big_number 2 (drop 4 udp)) (length udp))) _ _ x e λ len e₁.
    guard_parts (not (eqb (big_number 2 (drop 6 udp)) 0 || is_right (ones_sum (ones_sum 0 pseudo) udp))) _ _ x e₁ λ right e₂.
    guard_parts (not (eqb (big_number 2 (drop 2 udp)) 4342)) _ _ x e₂ λ destination e₃.
    let message = drop 8 udp in
    let port = big_number 2 udp in
    let checksum = big_number 2 (drop 6 udp) in
    let number : big_number 2 (drop 4 udp) ≡ 8 + length message = omega (arith, length-drop 8 udp, eqb-true _ _ (not-false _ len)) in
    let fields = number_stands 0 2 udp fits (omega arith) followed_by known_stands 2 2 4342 udp fits (omega arith) (eqb-true _ _ (not-false _ destination))
    followed_by known_stands 4 2 (8 + length message) udp fits (omega arith) number followed_by number_stands 6 2 udp fits (omega arith) in
    let made : SpellsUdp pseudo udp port message = record {
      checksum = checksum;
      port_fits = number_fits 2 udp fits;
      len_fits = omega (arith, number_fits 2 (drop 4 udp) (IsBytes-drop 4 udp fits), number);
      checksum_fits = number_fits 2 (drop 6 udp) (IsBytes-drop 6 udp fits);
      right = right_holds k pseudo udp checksum even (not-false _ right);
      whole = fields.is;
    } in
    subst (λ (y : ℕ × List ℕ). SpellsUdp pseudo udp y.0 y.1) (ok_is {E = RequestFault} (port, message) x e₃) made

-- ---- what is spelled is read again

udp_read : (sum port : ℕ) (udp message : List ℕ) → big_number 2 (drop 4 udp) ≡ length udp → (eqb (big_number 2 (drop 6 udp)) 0 || is_right (ones_sum sum udp)) ≡ true → big_number 2 (drop 2 udp) ≡ 4342 → big_number 2 udp ≡ port → drop 8 udp ≡ message
    → udp_at sum udp ≡ Ok (port, message)
unfolding udp_at
udp_read sum port udp message len right destination source rest =
    let same : eqb (length udp) (length udp) ≡ true = eq-eqb _ _ refl in
    rw (len, same, right, destination, source, rest) refl

right_again : (k : ℕ) (pseudo udp : List ℕ) (checksum : ℕ) → length pseudo ≡ k * 2 → big_number 2 (drop 6 udp) ≡ checksum → (checksum ≡ 0) ⊎ (ones_sum 0 (pseudo ++ udp) ≡ 65535)
    → (eqb (big_number 2 (drop 6 udp)) 0 || is_right (ones_sum (ones_sum 0 pseudo) udp)) ≡ true
right_again k pseudo udp checksum even is (inl e) = or_left _ _ (eq-eqb _ _ (is ∙ e))
right_again k pseudo udp checksum even is (inr e) = or_right _ _ (eq-eqb _ _ (sym (covers k pseudo udp even) ∙ e))

pub udp_again : (k : ℕ) (pseudo udp : List ℕ) (port : ℕ) (message : List ℕ) → length pseudo ≡ k * 2 → SpellsUdp pseudo udp port message → udp_at (ones_sum 0 pseudo) udp ≡ Ok (port, message)
udp_again k pseudo udp port message even s =
    let text = udp_fields port (8 + length message) s.checksum ++ message in
    let checksum : big_number 2 (drop 6 text) ≡ s.checksum = big_number-reads_back 2 s.checksum message s.checksum_fits in
    let number : big_number 2 (drop 4 text) ≡ 8 + length message = big_number-reads_back 2 (8 + length message) (drop 6 text) s.len_fits in
    let whole : 8 + length message ≡ length text = omega arith in
    let right = right_again k pseudo text s.checksum even checksum (subst (λ (t : List ℕ). (s.checksum ≡ 0) ⊎ (ones_sum 0 (pseudo ++ t) ≡ 65535)) s.whole s.right) in
    ap (udp_at (ones_sum 0 pseudo)) s.whole
    ∙ udp_read (ones_sum 0 pseudo) port text message (number ∙ whole) right refl (big_number-reads_back 2 port (drop 2 text) s.port_fits) refl

pub udp_some : (pseudo udp : List ℕ) (port : ℕ) (message : List ℕ) → SpellsUdp pseudo udp port message → 8 ≤ length udp
udp_some pseudo udp port message s = rw s.whole (omega arith)
