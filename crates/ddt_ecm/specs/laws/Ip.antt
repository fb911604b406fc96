-- An IP packet that is read is spelled so, and what is spelled is read again.
use Rattle.std.proofs.Common.{◌≡◌, ℕ, ◌+◌, ◌-◌, ◌*◌, ◌/◌, ◌%◌, ◌^◌, ◌<◌, ◌≤◌, true, false, ltb, leb, eqb, List, ◌++◌, length, take, drop, Ok, refl, sym, ap, subst, ◌∙◌, arith, inl, inr, length-take, length-drop, length-append}
use Rattle.std.specs.Prelude.{slice_index, ◌&&◌, not}
use Rattle.std.specs.Int.{w32, w128, to_be_bytes, bytes_high_first}
use Rattle.std.proofs.lemmas.Bool.{ltb-false, leb-true, le-ltb, le-leb, eqb-true, eq-eqb, not-false, and_parts}
use Rattle.std.proofs.lemmas.List.{take_at, drop_at}
use Rattle.byteorder.specs.Endian.{big_number}
use Rattle.byteorder.specs.Numbers.{big_number-reads_back}
use Rattle.ddt_path.specs.Steps.{IsBytes}
use Rattle.ddt_path.specs.laws.Step.{guard_parts, chosen, ok_is}
use Rattle.ddt_path.specs.laws.Byte.{HasFront-take, ◌beside◌, two_bytes, IsBytes-number, IsBetween, ◌followed_by◌, stands, number_stands, known_stands, byte_stands, known_byte, front_taken, number_fits, IsBytes-drop, IsBytes-take}
use Rattle.ddt_ecm.specs.declared.fault.RequestFault.{RequestFault}
use Rattle.ddt_ecm.specs.Checksum.{ones_sum, is_right}
use Rattle.ddt_ecm.specs.Ipv4Header.{pseudo4, Ipv4Header, ipv4_fields, SpellsIpv4, header_len, has_length4, ipv4_at}
use Rattle.ddt_ecm.specs.Ipv6Header.{pseudo6, Ipv6Header, ipv6_fields, SpellsIpv6, has_length6, ipv6_at}
use Rattle.ddt_ecm.specs.IpHeader.{SpellsIp, Version4, Version6, ip_at}

-- what was read of a packet: a datagram behind a pseudo-header of this sum
pub record IsPacket (ip : List ℕ) (sum : ℕ) (udp : List ℕ) : Type 0 where
  pub pseudo : List ℕ
  pub sum_is : sum ≡ ones_sum 0 pseudo
  pub some : 8 ≤ length udp
  pub udp_fits : IsBytes udp
  pub spelled : SpellsIp ip pseudo udp

-- two addresses of n bytes each, from a place on
abbrev addresses_at : ℕ → ℕ → List ℕ → List ℕ
addresses_at n k ip = bytes_high_first n (big_number n (drop k ip)) ++ bytes_high_first n (big_number n (drop (k + n) ip))

addresses_stand : (n k : ℕ) (ip : List ℕ) → IsBytes ip → k + n + n ≤ length ip → IsBetween ip k (addresses_at n k ip) (k + n + n)
addresses_stand n k ip fits long = number_stands k n ip fits (omega arith) followed_by number_stands (k + n) n ip fits long

-- ---- IPv4

abbrev options_of : List ℕ → List ℕ
options_of ip = take (header_len ip - 20) (drop 20 ip)

abbrev header4_of : (ip : List ℕ) → IsBytes ip → 20 ≤ header_len ip → header_len ip ≤ length ip → Ipv4Header
header4_of ip fits some within = record {
  words = slice_index ip 0 % 16;
  service = slice_index ip 1;
  identification = big_number 2 (drop 4 ip);
  flags = big_number 2 (drop 6 ip) / 2 ^ 14;
  hops = slice_index ip 8;
  checksum = big_number 2 (drop 10 ip);
  source = big_number 4 (drop 12 ip);
  destination = big_number 4 (drop 16 ip);
  options = options_of ip;
  words_fit = omega arith;
  service_fits = fits.at 1;
  identification_fits = number_fits 2 (drop 4 ip) (IsBytes-drop 4 ip fits);
  flags_fit = omega (arith, number_fits 2 (drop 6 ip) (IsBytes-drop 6 ip fits));
  hops_fit = fits.at 8;
  checksum_fits = number_fits 2 (drop 10 ip) (IsBytes-drop 10 ip fits);
  source_fits = number_fits 4 (drop 12 ip) (IsBytes-drop 12 ip fits);
  destination_fits = number_fits 4 (drop 16 ip) (IsBytes-drop 16 ip fits);
  options_fill = omega (arith, length-take (header_len ip - 20) (drop 20 ip), length-drop 20 ip, some, within);
  options_are_bytes = IsBytes-take (header_len ip - 20) (drop 20 ip) (IsBytes-drop 20 ip fits);
}

fields4_stand : (ip : List ℕ) (total : ℕ) (fits : IsBytes ip) (some : 20 ≤ header_len ip) (within : header_len ip ≤ length ip) → slice_index ip 0 / 16 ≡ 4 → big_number 2 (drop 2 ip) ≡ total → slice_index ip 9 ≡ 17
    → big_number 2 (drop 6 ip) % 2 ^ 14 ≡ 0 → IsBetween ip 0 (ipv4_fields (header4_of ip fits some within) total) (header_len ip)
fields4_stand ip total fits some within version total_is protocol fragment =
    let v = 64 + slice_index ip 0 % 16 in
    let f = big_number 2 (drop 6 ip) / 2 ^ 14 in
    let n = header_len ip - 20 in
    let first : slice_index ip 0 ≡ v = omega arith in
    let flags : big_number 2 (drop 6 ip) ≡ f * 2 ^ 14 = omega arith in
    let end : 20 + n ≡ header_len ip = omega arith in
    (known_byte 0 v ip (omega arith) first followed_by byte_stands 1 ip (omega arith))
    followed_by known_stands 2 2 total ip fits (omega arith) total_is
    followed_by number_stands 4 2 ip fits (omega arith)
    followed_by known_stands 6 2 (f * 2 ^ 14) ip fits (omega arith) flags
    followed_by (byte_stands 8 ip (omega arith) followed_by known_byte 9 17 ip (omega arith) protocol)
    followed_by number_stands 10 2 ip fits (omega arith)
    followed_by addresses_stand 4 12 ip fits (omega arith)
    followed_by subst (IsBetween ip 20 (options_of ip)) end (stands ip (options_of ip) 20 n (front_taken n (drop 20 ip) (omega (arith, length-drop 20 ip))))

ipv4_takes : (ip : List ℕ) (x : ℕ × List ℕ) → IsBytes ip → slice_index ip 0 / 16 ≡ 4 → ipv4_at ip ≡ Ok x → IsPacket ip x.0 x.1
unfolding ipv4_at
ipv4_takes ip x fits version e =
    guard_parts (ltb (length ip) 20) _ _ x e λ long e₁.
    guard_parts (not (has_length4 ip)) _ _ x e₁ λ lengths e₂.
    guard_parts (not (is_right (ones_sum 0 (take (header_len ip) ip)))) _ _ x e₂ λ right e₃.
    guard_parts (not (eqb (slice_index ip 9) 17)) _ _ x e₃ λ protocol e₄.
    guard_parts (not (eqb (big_number 2 (drop 6 ip) % 2 ^ 14) 0)) _ _ x e₄ λ fragment e₅.
    let l = and_parts (leb 20 (header_len ip)) (eqb (big_number 2 (drop 2 ip)) (length ip) && leb (header_len ip + 8) (length ip)) (not-false _ lengths) in
    let m = and_parts (eqb (big_number 2 (drop 2 ip)) (length ip)) (leb (header_len ip + 8) (length ip)) l.1 in
    let n = header_len ip in
    let some : 20 ≤ n = leb-true _ _ l.0 in
    let room : n + 8 ≤ length ip = leb-true _ _ m.1 in
    let within : n ≤ length ip = omega arith in
    let udp = drop n ip in
    let len : length udp ≡ length ip - n = length-drop n ip in
    let total = 4 * (slice_index ip 0 % 16) + length udp in
    let total_is : big_number 2 (drop 2 ip) ≡ total = omega (arith, eqb-true _ _ m.0) in
    let h = header4_of ip fits some within in
    let parts = fields4_stand ip total fits some within version total_is (eqb-true _ _ (not-false _ protocol)) (eqb-true _ _ (not-false _ fragment)) in
    let o = h.options_fill in
    let size : length (ipv4_fields h total) ≡ n = omega arith in
    let front = HasFront-take ip (ipv4_fields h total) n (record { parts = parts.is; len = size }) in
    let addresses : take 8 (drop 12 ip) ≡ addresses_at 4 12 ip = ap (take 8) (addresses_stand 4 12 ip fits (omega arith)).is in
    let s : SpellsIpv4 ip (pseudo4 (addresses_at 4 12 ip) (length udp)) udp = record {
      header = h;
      total_fits = omega (arith, number_fits 2 (drop 2 ip) (IsBytes-drop 2 ip fits), total_is);
      right = ap (ones_sum 0) (sym front) ∙ eqb-true _ _ (not-false _ right);
      covered = refl;
      whole = parts.is;
    } in
    let made : IsPacket ip (ones_sum 0 (pseudo4 (take 8 (drop 12 ip)) (length ip - n))) udp = record {
      pseudo = pseudo4 (addresses_at 4 12 ip) (length udp);
      sum_is = rw (addresses, len) refl;
      some = omega arith;
      udp_fits = IsBytes-drop n ip fits;
      spelled = Version4 s;
    } in
    subst (λ (y : ℕ × List ℕ). IsPacket ip y.0 y.1) (ok_is {E = RequestFault} (ones_sum 0 (pseudo4 (take 8 (drop 12 ip)) (length ip - n)), udp) x e₅) made

-- ---- IPv6

abbrev label_of : List ℕ → ℕ
label_of ip = slice_index ip 0 % 16 * 16777216 + slice_index ip 1 * 65536 + slice_index ip 2 * 256 + slice_index ip 3

abbrev header6_of : (ip : List ℕ) → IsBytes ip → Ipv6Header
header6_of ip fits = record {
  class_and_label = label_of ip;
  hops = slice_index ip 7;
  source = big_number 16 (drop 8 ip);
  destination = big_number 16 (drop 24 ip);
  class_and_label_fit = omega (arith, fits.at 0, fits.at 1, fits.at 2, fits.at 3);
  hops_fit = fits.at 7;
  source_fits = number_fits 16 (drop 8 ip) (IsBytes-drop 8 ip fits);
  destination_fits = number_fits 16 (drop 24 ip) (IsBytes-drop 24 ip fits);
}

fields6_stand : (ip : List ℕ) (payload : ℕ) (fits : IsBytes ip) → 40 ≤ length ip → slice_index ip 0 / 16 ≡ 6 → big_number 2 (drop 4 ip) ≡ payload → slice_index ip 6 ≡ 17 → IsBetween ip 0 (ipv6_fields (header6_of ip fits) payload) 40
fields6_stand ip payload fits long version payload_is protocol =
    let first = 6 * 2 ^ 28 + label_of ip in
    let number : big_number 4 ip ≡ first = omega (arith, fits.at 0, fits.at 1, fits.at 2, fits.at 3) in
    known_stands 0 4 first ip fits (omega arith) number
    followed_by known_stands 4 2 payload ip fits (omega arith) payload_is
    followed_by (known_byte 6 17 ip (omega arith) protocol followed_by byte_stands 7 ip (omega arith))
    followed_by addresses_stand 16 8 ip fits long

ipv6_takes : (ip : List ℕ) (x : ℕ × List ℕ) → IsBytes ip → slice_index ip 0 / 16 ≡ 6 → ipv6_at ip ≡ Ok x → IsPacket ip x.0 x.1
unfolding ipv6_at
ipv6_takes ip x fits version e =
    guard_parts (ltb (length ip) 40) _ _ x e λ short e₁.
    guard_parts (not (has_length6 ip)) _ _ x e₁ λ lengths e₂.
    guard_parts (not (eqb (slice_index ip 6) 17)) _ _ x e₂ λ protocol e₃.
    let l = and_parts (eqb (big_number 2 (drop 4 ip) + 40) (length ip)) (leb 48 (length ip)) (not-false _ lengths) in
    let long = ltb-false _ _ short in
    let room = leb-true _ _ l.1 in
    let udp = drop 40 ip in
    let len : length udp ≡ length ip - 40 = length-drop 40 ip in
    let payload : big_number 2 (drop 4 ip) ≡ length udp = omega (arith, eqb-true _ _ l.0) in
    let addresses : take 32 (drop 8 ip) ≡ addresses_at 16 8 ip = ap (take 32) (addresses_stand 16 8 ip fits long).is in
    let s : SpellsIpv6 ip (pseudo6 (addresses_at 16 8 ip) (length udp)) udp = record {
      header = header6_of ip fits;
      payload_fits = omega (arith, number_fits 2 (drop 4 ip) (IsBytes-drop 4 ip fits), payload);
      covered = refl;
      whole = (fields6_stand ip (length udp) fits long version payload (eqb-true _ _ (not-false _ protocol))).is;
    } in
    let made : IsPacket ip (ones_sum 0 (pseudo6 (take 32 (drop 8 ip)) (length ip - 40))) udp = record {
      pseudo = pseudo6 (addresses_at 16 8 ip) (length udp);
      sum_is = rw (addresses, len) refl;
      some = omega arith;
      udp_fits = IsBytes-drop 40 ip fits;
      spelled = Version6 s;
    } in
    subst (λ (y : ℕ × List ℕ). IsPacket ip y.0 y.1) (ok_is {E = RequestFault} (ones_sum 0 (pseudo6 (take 32 (drop 8 ip)) (length ip - 40)), udp) x e₃) made

pub ip_takes : (ip : List ℕ) (x : ℕ × List ℕ) → IsBytes ip → ip_at ip ≡ Ok x → IsPacket ip x.0 x.1
unfolding ip_at
ip_takes ip x fits e =
    guard_parts (ltb (length ip) 1) _ _ x e λ some e₁.
    elim (chosen (eqb (slice_index ip 0 / 16) 4) _ _ _ e₁) [
      | inl p ↦ ipv4_takes ip x fits (eqb-true _ _ p.0) p.1
      | inr p ↦ elim (chosen (eqb (slice_index ip 0 / 16) 6) _ _ _ p.1) [
        | inl q ↦ ipv6_takes ip x fits (eqb-true _ _ q.0) q.1
        | inr q ↦ absurd cc
      ]
    ]

-- ---- what is spelled is read again

ipv4_read : (ip udp addresses : List ℕ) (n : ℕ) → slice_index ip 0 / 16 ≡ 4 → header_len ip ≡ n → 20 ≤ n → n + 8 ≤ length ip → big_number 2 (drop 2 ip) ≡ length ip → ones_sum 0 (take n ip) ≡ 65535 → slice_index ip 9 ≡ 17 → big_number 2 (drop 6 ip) % 2 ^ 14 ≡ 0
    → take 8 (drop 12 ip) ≡ addresses → drop n ip ≡ udp → ip_at ip ≡ Ok (ones_sum 0 (pseudo4 addresses (length ip - n)), udp)
unfolding ip_at ipv4_at
ipv4_read ip udp addresses n version size some room total right protocol fragment from rest =
    let one : ltb (length ip) 1 ≡ false = le-ltb _ _ (omega arith) in
    let twenty : ltb (length ip) 20 ≡ false = le-ltb _ _ (omega arith) in
    let same : eqb (length ip) (length ip) ≡ true = eq-eqb _ _ refl in
    let header : leb 20 n ≡ true = le-leb _ _ some in
    let datagram : leb (n + 8) (length ip) ≡ true = le-leb _ _ room in
    rw (one, version, twenty, size, header, total, same, datagram, right, protocol, fragment, from, rest) refl

ipv4_again : (ip pseudo udp : List ℕ) → 8 ≤ length udp → SpellsIpv4 ip pseudo udp → ip_at ip ≡ Ok (ones_sum 0 pseudo, udp)
ipv4_again ip pseudo udp some s =
    let h = s.header in
    let n = 4 * h.words in
    let fields = ipv4_fields h (n + length udp) in
    let text = fields ++ udp in
    let o = h.options_fill in
    let w = h.words_fit in
    let small = s.total_fits in
    let size : length fields ≡ n = omega arith in
    let len : length text ≡ n + length udp = length-append fields udp ∙ omega arith in
    let number : big_number 2 (drop 2 text) ≡ n + length udp = big_number-reads_back 2 (n + length udp) (drop 4 text) small in
    let flags : big_number 2 (drop 6 text) ≡ h.flags * 2 ^ 14 = big_number-reads_back 2 (h.flags * 2 ^ 14) (drop 8 text) (omega (arith, h.flags_fit)) in
    let version : (64 + h.words) / 16 ≡ 4 = omega arith in
    let words : 4 * ((64 + h.words) % 16) ≡ n = omega arith in
    let none : big_number 2 (drop 6 text) % 2 ^ 14 ≡ 0 = omega (arith, flags) in
    let left : length text - n ≡ length udp = omega arith in
    let addresses = to_be_bytes w32 h.source ++ to_be_bytes w32 h.destination in
    let right : ones_sum 0 (take n text) ≡ 65535 = ap (ones_sum 0) (take_at fields udp n size) ∙ s.right in
    ap ip_at s.whole
    ∙ ipv4_read text udp addresses n version words (omega arith) (omega arith) (number ∙ sym len) right refl none refl (drop_at fields udp n size)
    ∙ ap (λ (k : ℕ). Ok (ones_sum 0 (pseudo4 addresses k), udp)) left
    ∙ ap (λ (p : List ℕ). Ok (ones_sum 0 p, udp)) (sym s.covered)

ipv6_read : (ip udp addresses : List ℕ) → slice_index ip 0 / 16 ≡ 6 → 48 ≤ length ip → big_number 2 (drop 4 ip) + 40 ≡ length ip → slice_index ip 6 ≡ 17 → take 32 (drop 8 ip) ≡ addresses → drop 40 ip ≡ udp
    → ip_at ip ≡ Ok (ones_sum 0 (pseudo6 addresses (length ip - 40)), udp)
unfolding ip_at ipv6_at
ipv6_read ip udp addresses version long payload protocol from rest =
    let one : ltb (length ip) 1 ≡ false = le-ltb _ _ (omega arith) in
    let forty : ltb (length ip) 40 ≡ false = le-ltb _ _ (omega arith) in
    let same : eqb (length ip) (length ip) ≡ true = eq-eqb _ _ refl in
    let room : leb 48 (length ip) ≡ true = le-leb _ _ long in
    rw (one, version, forty, payload, same, room, protocol, from, rest) refl

version6 : (label : ℕ) → label < 2 ^ 28 → (6 * 2 ^ 28 + label) / 16777216 % 256 / 16 ≡ 6
version6 label h = omega arith

ipv6_again : (ip pseudo udp : List ℕ) → 8 ≤ length udp → SpellsIpv6 ip pseudo udp → ip_at ip ≡ Ok (ones_sum 0 pseudo, udp)
ipv6_again ip pseudo udp some s =
    let h = s.header in
    let text = ipv6_fields h (length udp) ++ udp in
    let len : length text ≡ 40 + length udp = omega arith in
    let number : big_number 2 (drop 4 text) ≡ length udp = big_number-reads_back 2 (length udp) (drop 6 text) s.payload_fits in
    let payload : big_number 2 (drop 4 text) + 40 ≡ length text = omega arith in
    let left : length text - 40 ≡ length udp = omega arith in
    let addresses = to_be_bytes w128 h.source ++ to_be_bytes w128 h.destination in
    ap ip_at s.whole
    ∙ ipv6_read text udp addresses (version6 h.class_and_label h.class_and_label_fit) (omega arith) payload refl refl refl
    ∙ ap (λ (k : ℕ). Ok (ones_sum 0 (pseudo6 addresses k), udp)) left
    ∙ ap (λ (p : List ℕ). Ok (ones_sum 0 p, udp)) (sym s.covered)

pub ip_again : (ip pseudo udp : List ℕ) → 8 ≤ length udp → SpellsIp ip pseudo udp → ip_at ip ≡ Ok (ones_sum 0 pseudo, udp)
ip_again ip pseudo udp some (Version4 s) = ipv4_again ip pseudo udp some s
ip_again ip pseudo udp some (Version6 s) = ipv6_again ip pseudo udp some s

-- a pseudo-header is bytes, of a whole number of words
pub record IsPseudo (pseudo : List ℕ) : Type 0 where
  pub words : ℕ
  pub even : length pseudo ≡ words * 2
  pub fits : IsBytes pseudo

pub pseudo_known : (ip pseudo udp : List ℕ) → SpellsIp ip pseudo udp → IsPseudo pseudo
pseudo_known ip pseudo udp (Version4 s) =
    let addresses = IsBytes-number 4 s.header.source beside IsBytes-number 4 s.header.destination in
    let is : IsBytes (pseudo4 (to_be_bytes w32 s.header.source ++ to_be_bytes w32 s.header.destination) (length udp)) = addresses beside two_bytes 0 17 (omega arith) (omega arith) beside IsBytes-number 2 (length udp) in
    record { words = 6; even = ap length s.covered; fits = subst IsBytes (sym s.covered) is }
pseudo_known ip pseudo udp (Version6 s) =
    let addresses = IsBytes-number 16 s.header.source beside IsBytes-number 16 s.header.destination in
    let is : IsBytes (pseudo6 (to_be_bytes w128 s.header.source ++ to_be_bytes w128 s.header.destination) (length udp)) = addresses beside IsBytes-number 4 (length udp) beside IsBytes-number 4 17 in
    record { words = 20; even = ap length s.covered; fits = subst IsBytes (sym s.covered) is }
