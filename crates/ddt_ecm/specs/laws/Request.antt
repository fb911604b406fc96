-- A request that is read is spelled so, what is spelled is read again, and what spells a request is bytes.
use Rattle.std.proofs.Common.{◌≡◌, ℕ, ◌+◌, ◌*◌, ◌/◌, ◌%◌, ◌^◌, ◌<◌, ◌≤◌, Bool, false, ltb, eqb, List, ◌++◌, length, drop, Ok, refl, sym, ap, subst, ◌∙◌, arith}
use Rattle.std.specs.Prelude.{slice_index, not}
use Rattle.std.proofs.lemmas.Bool.{ltb-false, le-ltb, eqb-true, not-false}
use Rattle.byteorder.specs.Endian.{big_number}
use Rattle.ddt_path.specs.declared.locator.Locator.{Locator}
use Rattle.ddt_path.specs.declared.locator.Locator.TheVariants.{V4, V6}
use Rattle.ddt_path.specs.declared.xeid.Xeid.{Xeid}
use Rattle.ddt_path.specs.Path.{address_width, xeid_path}
use Rattle.ddt_path.specs.Steps.{IsBytes}
use Rattle.ddt_wire.specs.Referral.{bit}
use Rattle.ddt_path.specs.Reader.{AreRead}
use Rattle.ddt_path.specs.laws.Reader.{are_read}
use Rattle.ddt_path.specs.laws.Step.{bind_parts, guard_parts, ok_is}
use Rattle.ddt_path.specs.laws.Byte.{◌beside◌, two_bytes, known_stands, IsBytes-drop, IsBytes-number}
use Rattle.ddt_wire.specs.laws.Addresses.{address_is_bytes, addresses_are_bytes}
use Rattle.ddt_wire.specs.laws.Eid.{eid_is_bytes}
use Rattle.ddt_ecm.specs.declared.fault.RequestFault.{RequestFault}
use Rattle.ddt_ecm.specs.Checksum.{ones_sum}
use Rattle.ddt_ecm.specs.Ipv4Header.{Ipv4Header, ipv4_fields}
use Rattle.ddt_ecm.specs.Ipv6Header.{Ipv6Header, ipv6_fields}
use Rattle.ddt_ecm.specs.IpHeader.{SpellsIp, Version4, Version6, ip_at}
use Rattle.ddt_ecm.specs.UdpHeader.{udp_fields, SpellsUdp, udp_at}
use Rattle.ddt_ecm.specs.MapRequest.{SpellsSource, Absent, Plain, Lcaf, request_word, SpellsRequest, map_request_at}
use Rattle.ddt_ecm.specs.Request.{Message, Spells, message_in}
use Rattle.ddt_ecm.specs.EcmHeader.{first_byte, d_place, ecm_word, ecm_fields, ecm_at}
use Rattle.ddt_ecm.specs.laws.Udp.{udp_takes, udp_again, udp_some}
use Rattle.ddt_ecm.specs.laws.Ip.{ip_takes, ip_again, pseudo_known}
use Rattle.ddt_wire.specs.laws.Message.{bit_again}
use Rattle.ddt_ecm.specs.laws.MapRequest.{first_again, request_takes, request_again}
use Rattle.ddt_wire.specs.laws.Message.{bit_of, bit-le}

-- ---- what is read is spelled so

-- the bit D, and what is ignored behind it
abbrev ddt_of : List ℕ → Bool
ddt_of bytes = eqb (slice_index bytes 0 / d_place % 2) 1

abbrev ignored_of : List ℕ → ℕ
ignored_of bytes = slice_index bytes 0 % d_place * first_byte + slice_index bytes 1 * 65536 + slice_index bytes 2 * 256 + slice_index bytes 3

ecm_takes : (bytes ip : List ℕ) → IsBytes bytes → ecm_at bytes ≡ Ok ip → IsBytes ip × (bytes ≡ ecm_fields (ddt_of bytes) (ignored_of bytes) ++ ip)
unfolding ecm_at
ecm_takes bytes ip fits e =
    guard_parts (ltb (length bytes) 4) _ _ ip e λ long e₁.
    guard_parts (not (eqb (slice_index bytes 0 / 16) 8)) _ _ ip e₁ λ type e₂.
    guard_parts (not (eqb (slice_index bytes 0 / 8 % 2) 0)) _ _ ip e₂ λ security e₃.
    let d = bit_of (slice_index bytes 0 / 4 % 2) (omega arith) in
    let word = ecm_word (ddt_of bytes) (ignored_of bytes) in
    let number : big_number 4 bytes ≡ word = omega (arith, eqb-true _ _ (not-false _ type), eqb-true _ _ (not-false _ security), d) in
    let stand = known_stands 0 4 word bytes fits (ltb-false _ _ long) number in
    subst (λ (t : List ℕ). IsBytes t × (bytes ≡ ecm_fields (ddt_of bytes) (ignored_of bytes) ++ t)) (ok_is {E = RequestFault} (drop 4 bytes) ip e₃) (IsBytes-drop 4 bytes fits, stand.is)

pub message_takes : (bytes : List ℕ) (v : Message) → IsBytes bytes → message_in bytes ≡ Ok v → Spells bytes v
unfolding message_in
message_takes bytes v fits e =
    bind_parts (ecm_at bytes) _ v e λ ip read₁ e₁.
    bind_parts (ip_at ip) _ v e₁ λ inner read₂ e₂.
    bind_parts (udp_at inner.0 inner.1) _ v e₂ λ data_ read₃ e₃.
    bind_parts (map_request_at data_.1) _ v e₃ λ asked read₄ e₄.
    let h = ecm_takes bytes ip fits read₁ in
    let p = ip_takes ip inner h.0 read₂ in
    let w = pseudo_known ip p.pseudo inner.1 p.spelled in
    let u = udp_takes w.words p.pseudo inner.1 data_ w.even p.udp_fits p.some (ap (λ (s : ℕ). udp_at s inner.1) (sym p.sum_is) ∙ read₃) in
    let message_fits : IsBytes data_.1 = subst IsBytes (ap (drop 8) u.whole) (IsBytes-drop 8 inner.1 p.udp_fits) in
    let message : Message = record { nonce = asked.0; ddt = ddt_of bytes; port = data_.0; xeid = asked.1; rlocs = asked.2 } in
    let made : Spells bytes message = record {
      ignored = ignored_of bytes;
      packet = ip;
      pseudo = p.pseudo;
      udp = inner.1;
      request = data_.1;
      ignored_fits = omega (arith, fits.at 0, fits.at 1, fits.at 2, fits.at 3);
      spells_ip = p.spelled;
      spells_udp = u;
      spells_request = request_takes data_.1 asked message_fits read₄;
      whole = h.1;
    } in
    subst (Spells bytes) (ok_is {E = RequestFault} message v e₄) made

-- ---- what is spelled is read again

ecm_read : (bytes : List ℕ) → 4 ≤ length bytes → slice_index bytes 0 / 16 ≡ 8 → slice_index bytes 0 / 8 % 2 ≡ 0 → ecm_at bytes ≡ Ok (drop 4 bytes)
unfolding ecm_at
ecm_read bytes long type security =
    let four : ltb (length bytes) 4 ≡ false = le-ltb _ _ long in
    rw (four, type, security) refl

message_read : (bytes ip udp message : List ℕ) (sum : ℕ) (v : Message) → ecm_at bytes ≡ Ok ip → ip_at ip ≡ Ok (sum, udp) → udp_at sum udp ≡ Ok (v.port, message) → map_request_at message ≡ Ok (v.nonce, v.xeid, v.rlocs)
    → eqb (slice_index bytes 0 / 4 % 2) 1 ≡ v.ddt → message_in bytes ≡ Ok v
unfolding message_in
message_read bytes ip udp message sum v e i u m d = rw (e, i, u, m, d) refl

pub message_again : (bytes : List ℕ) (v : Message) → Spells bytes v → message_in bytes ≡ Ok v
message_again bytes v s =
    let text = ecm_fields v.ddt s.ignored ++ s.packet in
    let first = first_again 8 0 (bit v.ddt) s.ignored (omega arith) (omega arith) (bit-le v.ddt) s.ignored_fits in
    let header = ecm_read text (omega arith) first.0 first.1 in
    let ip = ip_again s.packet s.pseudo s.udp (udp_some s.pseudo s.udp v.port s.request s.spells_udp) s.spells_ip in
    let w = pseudo_known s.packet s.pseudo s.udp s.spells_ip in
    let udp = udp_again w.words s.pseudo s.udp v.port s.request w.even s.spells_udp in
    let request = request_again s.request v.nonce v.xeid v.rlocs s.spells_request in
    ap message_in s.whole
    ∙ message_read text s.packet s.udp s.request (ones_sum 0 s.pseudo) v header ip udp request (bit_again v.ddt (slice_index text 0 / 4 % 2) first.2)

-- ---- bytes

width_small : (a : Locator) → address_width a < 256
width_small (V4 a) = omega arith
width_small (V6 a) = omega arith

source_is_bytes : (bytes : List ℕ) → SpellsSource bytes → IsBytes bytes
source_is_bytes bytes (Absent is) = subst IsBytes (sym is) (IsBytes-number 2 0)
source_is_bytes bytes (Plain a fits is) = subst IsBytes (sym is) (address_is_bytes a)
source_is_bytes bytes (Lcaf r f t m content hr hf ht hm small fits is) =
    let four = two_bytes r f hr hf beside two_bytes t m ht hm in
    subst IsBytes (sym is) (IsBytes-number 2 16387 beside four beside IsBytes-number 2 (length content) beside fits)

pub request_is_bytes : (bytes : List ℕ) (nonce : ℕ) (x : Xeid) (ls : List Locator) → SpellsRequest bytes nonce x ls → IsBytes bytes
request_is_bytes bytes nonce x ls s =
    let i = s.ignored in
    subst IsBytes (sym s.whole) (IsBytes-number 4 (request_word i s.with_map s.irc) beside IsBytes-number 8 nonce beside source_is_bytes s.source s.spells_source
    beside addresses_are_bytes 0 ls s.itr_rlocs s.spells_rlocs beside two_bytes i.reserved (address_width x.address) i.reserved_fits (width_small x.address)
    beside eid_is_bytes (address_width x.address) s.eid (xeid_path x) s.spells_eid beside s.after_are_bytes)

pub udp_fields_are_bytes : (port len checksum : ℕ) → IsBytes (udp_fields port len checksum)
udp_fields_are_bytes port len checksum = IsBytes-number 2 port beside IsBytes-number 2 4342 beside IsBytes-number 2 len beside IsBytes-number 2 checksum

udp_is_bytes : (pseudo bytes : List ℕ) (port : ℕ) (message : List ℕ) → SpellsUdp pseudo bytes port message → IsBytes message → IsBytes bytes
udp_is_bytes pseudo bytes port message s fits = subst IsBytes (sym s.whole) (udp_fields_are_bytes port (8 + length message) s.checksum beside fits)

pub ipv4_fields_are_bytes : (h : Ipv4Header) (total : ℕ) → IsBytes (ipv4_fields h total)
ipv4_fields_are_bytes h total =
    let words = h.words_fit in
    two_bytes (64 + h.words) h.service (omega arith) h.service_fits beside IsBytes-number 2 total beside IsBytes-number 2 h.identification
    beside IsBytes-number 2 (h.flags * 2 ^ 14) beside two_bytes h.hops 17 h.hops_fit (omega arith) beside IsBytes-number 2 h.checksum
    beside IsBytes-number 4 h.source beside IsBytes-number 4 h.destination beside h.options_are_bytes

ipv6_fields_are_bytes : (h : Ipv6Header) (payload : ℕ) → IsBytes (ipv6_fields h payload)
ipv6_fields_are_bytes h payload =
    IsBytes-number 4 (6 * 2 ^ 28 + h.class_and_label) beside IsBytes-number 2 payload beside two_bytes 17 h.hops (omega arith) h.hops_fit
    beside IsBytes-number 16 h.source beside IsBytes-number 16 h.destination

ip_is_bytes : (bytes pseudo udp : List ℕ) → SpellsIp bytes pseudo udp → IsBytes udp → IsBytes bytes
ip_is_bytes bytes pseudo udp (Version4 s) fits =
    let total = 4 * s.header.words + length udp in
    subst IsBytes (sym s.whole) (ipv4_fields_are_bytes s.header total beside fits)
ip_is_bytes bytes pseudo udp (Version6 s) fits =
    subst IsBytes (sym s.whole) (ipv6_fields_are_bytes s.header (length udp) beside fits)

pub message_is_bytes : (bytes : List ℕ) (v : Message) → Spells bytes v → IsBytes bytes
message_is_bytes bytes v s =
    let request = request_is_bytes s.request v.nonce v.xeid v.rlocs s.spells_request in
    let udp = udp_is_bytes s.pseudo s.udp v.port s.request s.spells_udp request in
    let packet = ip_is_bytes s.packet s.pseudo s.udp s.spells_ip udp in
    subst IsBytes (sym s.whole) (IsBytes-number 4 (ecm_word v.ddt s.ignored) beside packet)

-- ---- the laws

pub messages_are_read : AreRead IsBytes Spells message_in
messages_are_read = are_read message_again message_takes message_is_bytes
