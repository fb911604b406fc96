-- What is written spells what was to be written, and is read again.
use Rattle.std.proofs.Common.{◌≡◌, ℕ, ◌+◌, ◌-◌, ◌^◌, ◌<◌, ◌≤◌, Bool, false, eqb, List, [], ◌∷◌, ◌++◌, length, Ok, refl, sym, ap, subst, ◌∙◌, arith, inr}
use Rattle.std.specs.List.{flat_map, AllByRecursion}
use Rattle.std.specs.Int.{w16, w32, w64, w128, to_be_bytes}
use Rattle.byteorder.specs.Endian.{big_number}
use Rattle.std.proofs.lemmas.Bool.{cond_both}
use Rattle.std.proofs.lemmas.List.{append-nil}
use Rattle.ddt_path.specs.declared.locator.Locator.{Locator}
use Rattle.ddt_path.specs.declared.locator.Locator.TheVariants.{V4, V6}
use Rattle.ddt_path.specs.declared.xeid.Xeid.{Xeid}
use Rattle.ddt_path.specs.Path.{address_width, xeid_path}
use Rattle.ddt_path.specs.Steps.{IsBytes}
use Rattle.ddt_wire.specs.Address.{family_and_address, IsAddress}
use Rattle.ddt_wire.specs.Eid.{SpellsEid, form_mask_len, written_eid, written_mask_len}
use Rattle.ddt_path.specs.laws.Byte.{bytes_back, ◌beside◌, two_bytes, IsBytes-nil, IsBytes-number}
use Rattle.ddt_wire.specs.laws.Addresses.{addresses_spell}
use Rattle.ddt_wire.specs.laws.Eid.{eid_spells}
use Rattle.ddt_ecm.specs.Checksum.{ones_sum, complement}
use Rattle.ddt_ecm.specs.Ipv4Header.{pseudo4, Ipv4Header, ipv4_fields, SpellsIpv4, ipv4_header, written_ipv4}
use Rattle.ddt_ecm.specs.Ipv6Header.{pseudo6, Ipv6Header, ipv6_fields, SpellsIpv6, written_ipv6}
use Rattle.ddt_ecm.specs.IpHeader.{SpellsIp, Version4, Version6, packet, packet4, packet6, source4, source6}
use Rattle.ddt_ecm.specs.UdpHeader.{udp_fields, SpellsUdp, not_absent, written_udp}
use Rattle.ddt_ecm.specs.MapRequest.{Ignored, Absent, request_word, SpellsRequest, written_map_request}
use Rattle.ddt_ecm.specs.Request.{Spells, message_in, written}
use Rattle.ddt_ecm.specs.laws.Statements.{IsRequest, message_of}
use Rattle.ddt_ecm.specs.laws.Checksum.{ones_sum-append}
use Rattle.ddt_ecm.specs.laws.Ip.{IsPseudo, pseudo_known}
use Rattle.ddt_ecm.specs.laws.Sum.{folded, checksum_right, present_right}
use Rattle.ddt_ecm.specs.laws.Writing.{request_small}
use Rattle.ddt_ecm.specs.laws.MapRequest.{full_is_prefix, form_of_full}
use Rattle.ddt_ecm.specs.laws.Request.{udp_fields_are_bytes, request_is_bytes, message_again}

-- ---- the Map-Request

abbrev none : Ignored
none = record { authoritative = false; flags = 0; reserved = 0; flags_fit = omega arith; reserved_fits = omega arith }

first_bytes : (irc : ℕ) → irc < 32 → (16 ∷ 0 ∷ irc ∷ 1 ∷ []) ≡ to_be_bytes w32 (request_word none false irc)
first_bytes irc lt =
    let e : big_number 4 (16 ∷ 0 ∷ irc ∷ 1 ∷ []) ≡ request_word none false irc = omega arith in
    sym (bytes_back 4 (16 ∷ 0 ∷ irc ∷ 1 ∷ []) (two_bytes 16 0 (omega arith) (omega arith) beside two_bytes irc 1 (omega arith) (omega arith)) refl) ∙ ap (to_be_bytes w32) e

request_spells : (nonce : ℕ) (x : Xeid) (rlocs : List Locator) → IsRequest nonce x rlocs → SpellsRequest (written_map_request nonce x rlocs) nonce x rlocs
request_spells nonce x rlocs h =
    let p = xeid_path x in
    let few = h.few in
    let some = h.some in
    let small : length rlocs - 1 < 32 = omega arith in
    let mask : written_mask_len p ≡ address_width x.address = ap form_mask_len (form_of_full x.iid x.address h.iid_fits h.address_fits) in
    let rest : List ℕ → List ℕ = λ first. first ++ to_be_bytes w64 nonce ++ to_be_bytes w16 0 ++ flat_map family_and_address rlocs ++ (0 ∷ address_width x.address ∷ []) ++ written_eid p in
    record {
      ignored = none;
      with_map = false;
      irc = length rlocs - 1;
      source = to_be_bytes w16 0;
      itr_rlocs = flat_map family_and_address rlocs;
      eid = written_eid p;
      after = [];
      nonce_fits = h.nonce_fits;
      irc_fits = small;
      iid_fits = h.iid_fits;
      address_fits = h.address_fits;
      count = omega arith;
      spells_source = Absent refl;
      spells_rlocs = addresses_spell [] rlocs IsBytes-nil h.rlocs_fit;
      spells_eid = subst (λ (k : ℕ). SpellsEid k (written_eid p) p) mask (eid_spells p (full_is_prefix x.iid x.address h.iid_fits h.address_fits));
      after_are_bytes = IsBytes-nil;
      none_after = λ _. refl;
      whole = ap rest (first_bytes (length rlocs - 1) small) ∙ sym (append-nil (rest (to_be_bytes w32 (request_word none false (length rlocs - 1)))));
    }

-- ---- UDP

present_fits : (c : ℕ) → c < 65536 → not_absent c < 65536
present_fits c lt = cond_both (eqb c 0) 65535 c (λ n. n < 65536) (λ _. omega arith) (λ _. lt)

udp_spells : (pseudo message : List ℕ) → IsPseudo pseudo → IsBytes message → length message ≤ 1000 → SpellsUdp pseudo (written_udp (ones_sum 0 pseudo) message) 4342 message
unfolding written_udp
udp_spells pseudo message p fits few =
    let sum = ones_sum 0 pseudo in
    let len = 8 + length message in
    let before = to_be_bytes w16 4342 ++ to_be_bytes w16 4342 ++ to_be_bytes w16 len in
    let zero = complement (ones_sum sum (udp_fields 4342 len 0 ++ message)) in
    let small = (folded 0 pseudo (omega arith) p.fits).small in
    let right = present_right sum 3 before message zero small refl (λ c. udp_fields_are_bytes 4342 len c beside fits) refl in
    record {
      checksum = not_absent zero;
      port_fits = omega arith;
      len_fits = omega arith;
      checksum_fits = present_fits zero (omega arith);
      right = inr (ones_sum-append p.words pseudo (udp_fields 4342 len (not_absent zero) ++ message) 0 p.even ∙ right);
      whole = refl;
    }

udp_length : (sum : ℕ) (message : List ℕ) → length (written_udp sum message) ≡ 8 + length message
unfolding written_udp
udp_length sum message = omega arith

-- ---- IP

header_is_bytes : (total c s d : ℕ) → IsBytes (ipv4_header total c s d)
header_is_bytes total c s d =
    let zeros = two_bytes 0 0 (omega arith) (omega arith) in
    two_bytes 69 0 (omega arith) (omega arith) beside IsBytes-number 2 total beside (zeros beside (zeros beside two_bytes 64 17 (omega arith) (omega arith)))
    beside IsBytes-number 2 c beside IsBytes-number 4 s beside IsBytes-number 4 d

header_right : (total s d : ℕ) → ones_sum 0 (ipv4_header total (complement (ones_sum 0 (ipv4_header total 0 s d))) s d) ≡ 65535
header_right total s d =
    let before = (69 ∷ 0 ∷ []) ++ to_be_bytes w16 total ++ (0 ∷ 0 ∷ 0 ∷ 0 ∷ 64 ∷ 17 ∷ []) in
    checksum_right 0 5 before (to_be_bytes w32 s ++ to_be_bytes w32 d) (omega arith) refl (λ c. header_is_bytes total c s d)

ipv4_spells : (s d n : ℕ) (udp : List ℕ) → s < 2 ^ 32 → d < 2 ^ 32 → n ≤ 1000 → length udp ≡ 8 + n → SpellsIpv4 (written_ipv4 (28 + n) s d ++ udp) (pseudo4 (to_be_bytes w32 s ++ to_be_bytes w32 d) (8 + n)) udp
unfolding written_ipv4
ipv4_spells s d n udp hs hd few is =
    let h : Ipv4Header = record {
      words = 5;
      service = 0;
      identification = 0;
      flags = 0;
      hops = 64;
      checksum = complement (ones_sum 0 (ipv4_header (28 + n) 0 s d));
      source = s;
      destination = d;
      options = [];
      words_fit = omega arith;
      service_fits = omega arith;
      identification_fits = omega arith;
      flags_fit = omega arith;
      hops_fit = omega arith;
      checksum_fits = omega arith;
      source_fits = hs;
      destination_fits = hd;
      options_fill = omega arith;
      options_are_bytes = IsBytes-nil;
    } in
    let total : 28 + n ≡ 20 + length udp = omega arith in
    record {
      header = h;
      total_fits = omega arith;
      right = ap (λ (t : ℕ). ones_sum 0 (ipv4_fields h t)) (sym total) ∙ header_right (28 + n) s d;
      covered = ap (pseudo4 (to_be_bytes w32 s ++ to_be_bytes w32 d)) (sym is);
      whole = ap (λ (t : ℕ). ipv4_fields h t ++ udp) total;
    }

ipv6_spells : (s d n : ℕ) (udp : List ℕ) → s < 2 ^ 128 → d < 2 ^ 128 → n ≤ 1000 → length udp ≡ 8 + n → SpellsIpv6 (written_ipv6 (8 + n) s d ++ udp) (pseudo6 (to_be_bytes w128 s ++ to_be_bytes w128 d) (8 + n)) udp
unfolding written_ipv6
ipv6_spells s d n udp hs hd few is =
    let h : Ipv6Header = record {
      class_and_label = 0;
      hops = 64;
      source = s;
      destination = d;
      class_and_label_fit = omega arith;
      hops_fit = omega arith;
      source_fits = hs;
      destination_fits = hd;
    } in
    record {
      header = h;
      payload_fits = omega arith;
      covered = ap (pseudo6 (to_be_bytes w128 s ++ to_be_bytes w128 d)) (sym is);
      whole = ap (λ (t : ℕ). ipv6_fields h t ++ udp) (sym is);
    }

-- an IP packet around a message
record IsPacket (bytes message : List ℕ) : Type 0 where
  pseudo : List ℕ
  udp : List ℕ
  spells_ip : SpellsIp bytes pseudo udp
  spells_udp : SpellsUdp pseudo udp 4342 message

packet_made : (bytes pseudo_ message : List ℕ) → IsBytes message → length message ≤ 1000 → SpellsIp bytes pseudo_ (written_udp (ones_sum 0 pseudo_) message) → IsPacket bytes message
packet_made bytes pseudo_ message fits few s =
    let udp_ = written_udp (ones_sum 0 pseudo_) message in
    record { pseudo = pseudo_; udp = udp_; spells_ip = s; spells_udp = udp_spells pseudo_ message (pseudo_known bytes pseudo_ udp_ s) fits few }

source4_fits : (ls : List Locator) → AllByRecursion IsAddress ls → source4 ls < 2 ^ 32
source4_fits [] h = omega arith
source4_fits (V4 a ∷ ls) h = h.0
source4_fits (V6 a ∷ ls) h = omega arith

source6_fits : (ls : List Locator) → AllByRecursion IsAddress ls → source6 ls < 2 ^ 128
source6_fits [] h = omega arith
source6_fits (V4 a ∷ ls) h = omega arith
source6_fits (V6 a ∷ ls) h = h.0

packet_spells : (to : Locator) (ls : List Locator) (message : List ℕ) → IsAddress to → AllByRecursion IsAddress ls → IsBytes message → length message ≤ 1000 → IsPacket (packet to ls message) message
unfolding packet4 packet6
packet_spells (V4 d) ls message hd hs fits few = packet_made _ _ message fits few (Version4 (ipv4_spells (source4 ls) d (length message) _ (source4_fits ls hs) hd few (udp_length _ message)))
packet_spells (V6 d) ls message hd hs fits few = packet_made _ _ message fits few (Version6 (ipv6_spells (source6 ls) d (length message) _ (source6_fits ls hs) hd few (udp_length _ message)))

-- ---- the whole

pub written_spells : (nonce : ℕ) (x : Xeid) (rlocs : List Locator) (ddt : Bool) → IsRequest nonce x rlocs → Spells (written nonce x rlocs ddt) (message_of nonce x rlocs ddt)
written_spells nonce x rlocs ddt h =
    let message = written_map_request nonce x rlocs in
    let s = request_spells nonce x rlocs h in
    let p = packet_spells x.address rlocs message h.address_fits h.rlocs_fit (request_is_bytes message nonce x rlocs s) (request_small nonce x rlocs h.few) in
    record {
      ignored = 0;
      packet = packet x.address rlocs message;
      pseudo = p.pseudo;
      udp = p.udp;
      request = message;
      ignored_fits = omega arith;
      spells_ip = p.spells_ip;
      spells_udp = p.spells_udp;
      spells_request = s;
      whole = refl;
    }

pub written_is_read : (nonce : ℕ) (x : Xeid) (rlocs : List Locator) (ddt : Bool) → IsRequest nonce x rlocs → message_in (written nonce x rlocs ddt) ≡ Ok (message_of nonce x rlocs ddt)
written_is_read nonce x rlocs ddt h = message_again (written nonce x rlocs ddt) (message_of nonce x rlocs ddt) (written_spells nonce x rlocs ddt h)
