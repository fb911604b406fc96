-- The bytes of a request hold its numbers by their widths alone, so requests of the same bytes are for one identifier.
use Rattle.std.proofs.Common.{◌≡◌, ℕ, zero, suc, ◌+◌, ◌*◌, ◌/◌, ◌%◌, ◌^◌, ◌<◌, true, List, [], ◌∷◌, ◌++◌, length, refl, sym, ap, subst, ◌∙◌, arith, append-nil}
use Rattle.std.specs.Prelude.{slice_index}
use Rattle.std.specs.List.{flat_map}
use Rattle.std.specs.Int.{w16, w32, w64, w128, to_be_bytes, bytes_high_first}
use Rattle.std.proofs.lemmas.Nat.{pow_pos, mod-pow-add, mod_below, shr_high, mod_low}
use Rattle.std.proofs.lemmas.List.Concat.{flat_map-cons}
use Rattle.byteorder.specs.Endian.{big_from, big_number}
use Rattle.byteorder.specs.Numbers.{big_from-bytes, length-bytes_high_first}
use Rattle.ddt_path.specs.declared.locator.Locator.{Locator}
use Rattle.ddt_path.specs.declared.locator.Locator.TheVariants.{V4, V6}
use Rattle.ddt_path.specs.declared.xeid.Xeid.{Xeid}
use Rattle.ddt_path.specs.Path.{digits, address_path, address_width, xeid_path}
use Rattle.ddt_path.specs.laws.Byte.{bytes_back, IsBytes-number}
use Rattle.ddt_wire.specs.Address.{no_address, family_and_address, IsAddress}
use Rattle.ddt_wire.specs.Eid.{written_eid}
use Rattle.ddt_wire.specs.MessageType.{map_request}
use Rattle.ddt_wire.specs.Referral.{bit}
use Rattle.ddt_wire.specs.laws.Message.{bit-le}
use Rattle.ddt_ecm.specs.Checksum.{ones_sum, complement}
use Rattle.ddt_ecm.specs.EcmHeader.{type_place, ecm_header}
use Rattle.ddt_ecm.specs.Ipv4Header.{pseudo4, written_ipv4}
use Rattle.ddt_ecm.specs.Ipv6Header.{pseudo6, ipv6_head, written_ipv6}
use Rattle.ddt_ecm.specs.IpHeader.{packet, packet4, packet6}
use Rattle.ddt_ecm.specs.UdpHeader.{written_udp}
use Rattle.ddt_ecm.specs.MapRequest.{written_map_request}
use Rattle.ddt_ecm.specs.Request.{Message, Spells, written}
use Rattle.ddt_ecm.specs.laws.MapRequest.{first_again}
use Rattle.ddt_ecm.specs.laws.Request.{messages_are_read}
use Rattle.ddt_ecm.specs.laws.Statements.{message_of}
use Rattle.ddt_ecm.specs.laws.Written.{written_spells}
use Rattle.ddt_resolver.specs.State.{request_bytes}
use Rattle.ddt_sockets.specs.Nonces.Translation.{IsAsked}

-- what spells a request begins with its type
pub first_of_request : (bytes : List ℕ) (m : Message) → Spells bytes m → slice_index bytes 0 / 16 ≡ 8
first_of_request bytes m s = rw s.whole ((first_again 8 0 (bit m.ddt) s.ignored (omega arith) (omega arith) (bit-le m.ddt) s.ignored_fits).0)

-- ---- digits and bytes of a number, by its width

low_digits : (w x : ℕ) → x % 2 ^ suc w ≡ x / 2 ^ w % 2 * 2 ^ w + x % 2 ^ w
low_digits w x =
    let e : suc w ≡ 1 + w = omega arith in
    ap (λ (n : ℕ). x % 2 ^ n) e ∙ mod-pow-add x 1 w

digits-low : (w x : ℕ) → digits w (x % 2 ^ w) ≡ digits w x
unfolding digits
digits-low zero x = refl
digits-low (suc w) x =
    let y = x % 2 ^ suc w in
    let b = x / 2 ^ w % 2 in
    let r = x % 2 ^ w in
    let small : r < 2 ^ w = mod_below x (2 ^ w) (pow_pos w) in
    let is : y ≡ b * 2 ^ w + r = low_digits w x in
    let top : y / 2 ^ w ≡ b = ap (λ (n : ℕ). n / 2 ^ w) is ∙ shr_high b w r small in
    let low : y % 2 ^ w ≡ r = ap (λ (n : ℕ). n % 2 ^ w) is ∙ mod_low b w r small in
    let first : y / 2 ^ w % 2 ≡ b = omega (arith, top) in
    let rest : digits w y ≡ digits w x = sym (digits-low w y) ∙ ap (digits w) low ∙ digits-low w x in
    rw (first, rest) refl

bytes-low : (k x : ℕ) → bytes_high_first k (x % 256 ^ k) ≡ bytes_high_first k x
bytes-low k x =
    let bytes = bytes_high_first k x in
    let number : big_number k bytes ≡ x % 256 ^ k = ap (big_from 0 k) (sym (append-nil bytes)) ∙ big_from-bytes k x [] in
    ap (bytes_high_first k) (sym number) ∙ bytes_back k bytes (IsBytes-number k x) (length-bytes_high_first k x)

bytes32 : (x : ℕ) → to_be_bytes w32 (x % 2 ^ 32) ≡ to_be_bytes w32 x
bytes32 x = bytes-low 4 x

bytes64 : (x : ℕ) → to_be_bytes w64 (x % 2 ^ 64) ≡ to_be_bytes w64 x
bytes64 x = bytes-low 8 x

bytes128 : (x : ℕ) → to_be_bytes w128 (x % 2 ^ 128) ≡ to_be_bytes w128 x
bytes128 x = bytes-low 16 x

-- ---- an address and an identifier in range

abbrev pub narrow : Locator → Locator
narrow (V4 a) = V4 (a % 2 ^ 32)
narrow (V6 a) = V6 (a % 2 ^ 128)

abbrev pub narrowed : Xeid → Xeid
narrowed x = record { iid = x.iid % 2 ^ 32; address = narrow x.address }

narrow_fits : (a : Locator) → IsAddress (narrow a)
narrow_fits (V4 a) = omega arith
narrow_fits (V6 a) = omega arith

width_kept : (a : Locator) → address_width (narrow a) ≡ address_width a
width_kept (V4 a) = refl
width_kept (V6 a) = refl

address_kept : (a : Locator) → address_path (narrow a) ≡ address_path a
address_kept (V4 a) = ap (λ (ds : List ℕ). 4 ∷ ds) (digits-low 32 a)
address_kept (V6 a) = ap (λ (ds : List ℕ). 6 ∷ ds) (digits-low 128 a)

path_kept : (x : Xeid) → xeid_path (narrowed x) ≡ xeid_path x
path_kept x =
    ap (λ (ds : List ℕ). ds ++ address_path (narrow x.address)) (digits-low 32 x.iid)
    ∙ ap (λ (ds : List ℕ). digits 32 x.iid ++ ds) (address_kept x.address)

bytes_kept : (a : Locator) → family_and_address (narrow a) ≡ family_and_address a
bytes_kept (V4 a) = ap (λ (bs : List ℕ). to_be_bytes w16 1 ++ bs) (bytes32 a)
bytes_kept (V6 a) = ap (λ (bs : List ℕ). to_be_bytes w16 2 ++ bs) (bytes128 a)

rlocs_kept : (a : Locator) → flat_map family_and_address (narrow a ∷ []) ≡ flat_map family_and_address (a ∷ [])
rlocs_kept a =
    flat_map-cons family_and_address (narrow a) []
    ∙ ap (λ (bs : List ℕ). bs ++ flat_map family_and_address []) (bytes_kept a)
    ∙ sym (flat_map-cons family_and_address a [])

-- ---- the Map-Request

abbrev request_of : List ℕ → List ℕ → ℕ → List ℕ → List ℕ
request_of nonce rlocs width path =
    (((map_request * type_place) ∷ 0 ∷ 0 ∷ 1 ∷ []) ++ nonce ++ to_be_bytes w16 no_address) ++ rlocs ++ (0 ∷ width ∷ []) ++ written_eid path

request_parts : (n : ℕ) (x : Xeid) (me : Locator)
    → written_map_request n x (me ∷ []) ≡ request_of (to_be_bytes w64 n) (flat_map family_and_address (me ∷ [])) (address_width x.address) (xeid_path x)
request_parts n x me = refl

request_kept : (n : ℕ) (x : Xeid) (me : Locator) → written_map_request (n % 2 ^ 64) (narrowed x) (narrow me ∷ []) ≡ written_map_request n x (me ∷ [])
request_kept n x me =
    let rlocs = flat_map family_and_address (narrow me ∷ []) in
    request_parts (n % 2 ^ 64) (narrowed x) (narrow me)
    ∙ ap (λ (bs : List ℕ). request_of bs rlocs (address_width (narrow x.address)) (xeid_path (narrowed x))) (bytes64 n)
    ∙ ap (λ (bs : List ℕ). request_of (to_be_bytes w64 n) bs (address_width (narrow x.address)) (xeid_path (narrowed x))) (rlocs_kept me)
    ∙ ap (λ (w : ℕ). request_of (to_be_bytes w64 n) (flat_map family_and_address (me ∷ [])) w (xeid_path (narrowed x))) (width_kept x.address)
    ∙ ap (request_of (to_be_bytes w64 n) (flat_map family_and_address (me ∷ [])) (address_width x.address)) (path_kept x)
    ∙ sym (request_parts n x me)

-- ---- the packet around it

abbrev header4_of : ℕ → ℕ → List ℕ → List ℕ → List ℕ
header4_of total checksum source destination =
    (69 ∷ 0 ∷ []) ++ to_be_bytes w16 total ++ (0 ∷ 0 ∷ 0 ∷ 0 ∷ 64 ∷ 17 ∷ []) ++ to_be_bytes w16 checksum ++ source ++ destination

abbrev packet4_of : List ℕ → List ℕ → List ℕ → List ℕ
packet4_of source destination message =
    header4_of (28 + length message) (complement (ones_sum 0 (header4_of (28 + length message) 0 source destination))) source destination
    ++ written_udp (ones_sum 0 (pseudo4 (source ++ destination) (8 + length message))) message

packet4_parts : (s d : ℕ) (message : List ℕ) → packet4 s d message ≡ packet4_of (to_be_bytes w32 s) (to_be_bytes w32 d) message
unfolding packet4 written_ipv4
packet4_parts s d message = refl

packet4_kept : (s d : ℕ) (message : List ℕ) → packet4 (s % 2 ^ 32) (d % 2 ^ 32) message ≡ packet4 s d message
packet4_kept s d message =
    packet4_parts (s % 2 ^ 32) (d % 2 ^ 32) message
    ∙ ap (λ (bs : List ℕ). packet4_of bs (to_be_bytes w32 (d % 2 ^ 32)) message) (bytes32 s)
    ∙ ap (λ (bs : List ℕ). packet4_of (to_be_bytes w32 s) bs message) (bytes32 d)
    ∙ sym (packet4_parts s d message)

abbrev packet6_of : List ℕ → List ℕ → List ℕ → List ℕ
packet6_of source destination message =
    (ipv6_head (8 + length message) ++ (source ++ destination))
    ++ written_udp (ones_sum 0 (pseudo6 (source ++ destination) (8 + length message))) message

packet6_parts : (s d : ℕ) (message : List ℕ) → packet6 s d message ≡ packet6_of (to_be_bytes w128 s) (to_be_bytes w128 d) message
unfolding packet6 written_ipv6
packet6_parts s d message = refl

packet6_kept : (s d : ℕ) (message : List ℕ) → packet6 (s % 2 ^ 128) (d % 2 ^ 128) message ≡ packet6 s d message
packet6_kept s d message =
    packet6_parts (s % 2 ^ 128) (d % 2 ^ 128) message
    ∙ ap (λ (bs : List ℕ). packet6_of bs (to_be_bytes w128 (d % 2 ^ 128)) message) (bytes128 s)
    ∙ ap (λ (bs : List ℕ). packet6_of (to_be_bytes w128 s) bs message) (bytes128 d)
    ∙ sym (packet6_parts s d message)

packet_kept : (to me : Locator) (message : List ℕ) → packet (narrow to) (narrow me ∷ []) message ≡ packet to (me ∷ []) message
packet_kept (V4 d) (V4 s) message = packet4_kept s d message
packet_kept (V4 d) (V6 s) message = packet4_kept 0 d message
packet_kept (V6 d) (V4 s) message = packet6_kept 0 d message
packet_kept (V6 d) (V6 s) message = packet6_kept s d message

-- ---- the whole

written_kept : (n : ℕ) (x : Xeid) (me : Locator) → written (n % 2 ^ 64) (narrowed x) (narrow me ∷ []) true ≡ written n x (me ∷ []) true
written_kept n x me =
    ap (λ (p : List ℕ). ecm_header true ++ p)
    (ap (packet (narrow x.address) (narrow me ∷ [])) (request_kept n x me) ∙ packet_kept x.address me (written_map_request n x (me ∷ [])))

abbrev pub said : ℕ → Xeid → Locator → Message
said n x me = message_of (n % 2 ^ 64) (narrowed x) (narrow me ∷ []) true

pub request_spells : (n : ℕ) (x : Xeid) (me : Locator) → Spells (request_bytes n x me) (said n x me)
unfolding request_bytes
request_spells n x me =
    subst (λ (bs : List ℕ). Spells bs (said n x me)) (written_kept n x me)
    (written_spells (n % 2 ^ 64) (narrowed x) (narrow me ∷ []) true (record {
      nonce_fits = omega arith;
      iid_fits = omega arith;
      address_fits = narrow_fits x.address;
      some = omega arith;
      few = omega arith;
      rlocs_fit = (narrow_fits me, tt);
    }))

-- requests of the same bytes have one nonce, by its 64 bits, and one identifier, by its path
pub one_request : (n m : ℕ) (x z : Xeid) (me : Locator) → request_bytes n x me ≡ request_bytes m z me → (n % 2 ^ 64 ≡ m % 2 ^ 64) × (xeid_path x ≡ xeid_path z)
one_request n m x z me e =
    let one : said n x me ≡ said m z me = messages_are_read.one (request_bytes m z me) (said n x me) (said m z me) (subst (λ (bs : List ℕ). Spells bs (said n x me)) e (request_spells n x me)) (request_spells m z me) in
    (ap (λ (v : Message). v.nonce) one, sym (path_kept x) ∙ ap (λ (v : Message). xeid_path v.xeid) one ∙ path_kept z)

-- and so is what such bytes are asked for
pub asked_in : (n nonce : ℕ) (z y : Xeid) (me : Locator) → IsAsked (request_bytes n z me) nonce y → (nonce ≡ n % 2 ^ 64) × (xeid_path y ≡ xeid_path z)
asked_in n nonce z y me a =
    let one : a.message ≡ said n z me = messages_are_read.one (request_bytes n z me) a.message (said n z me) a.spells (request_spells n z me) in
    (sym a.its_nonce ∙ ap (λ (v : Message). v.nonce) one, ap xeid_path (sym a.its_xeid) ∙ ap (λ (v : Message). xeid_path v.xeid) one ∙ path_kept z)
