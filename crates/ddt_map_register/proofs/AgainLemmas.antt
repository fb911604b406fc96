-- What is spelled is read again: locators, records, a Map-Register.
use Rattle.std.proofs.Common.{◌≡◌, ℕ, ◌+◌, ◌-◌, ◌*◌, ◌/◌, ◌%◌, ◌^◌, ◌<◌, ◌≤◌, Bool, true, false, ltb, eqb, List, [], ◌++◌, length, take, drop, replicate, Option, Some, None, Ok, refl, sym, ap, ◌∙◌, arith, length-append, append_assoc}
use Rattle.std.specs.Prelude.{slice_index}
use Rattle.std.specs.Int.{w64, to_be_bytes}
use Rattle.std.proofs.lemmas.Bool.{le-ltb, eq-eqb}
use Rattle.std.proofs.lemmas.List.{drop-drop}
use Rattle.std.proofs.Math.Seq.{drop-append_seam, take-append_seam}
use Rattle.byteorder.specs.Endian.{big_number}
use Rattle.byteorder.specs.Numbers.{big_number-reads_back}
use Rattle.ddt_path.specs.declared.locator.Locator.{Locator}
use Rattle.ddt_wire.specs.Address.{family_and_address, IsAddress}
use Rattle.ddt_wire.specs.Eid.{eid_at}
use Rattle.ddt_wire.specs.Referral.{bit}
use Rattle.ddt_wire.specs.laws.Addresses.{address_again}
use Rattle.ddt_wire.specs.laws.Eid.{plain_number, plain_long, not_lcaf, eid_again, eid_some}
use Rattle.ddt_map_register.specs.declared.registered_locator.RegisteredLocator.{RegisteredLocator}
use Rattle.ddt_map_register.specs.declared.register_head.RegisterHead.{RegisterHead}
use Rattle.ddt_map_register.specs.declared.map_register.XtrId.{XtrId}
use Rattle.ddt_foreign.specs.Grammar.{any_lcaf}
use Rattle.ddt_foreign.specs.Several.{several_at}
use Rattle.ddt_foreign.proofs.AgainLemmas.{several_again}
use Rattle.ddt_map_register.specs.RegisteredLocator.{locator_head, SpellsLocator, locator_of, passed_at, locator_at}
use Rattle.ddt_map_register.specs.RegisteredLocator.SpellsLocator.{Plain, Passed}
use Rattle.ddt_map_register.specs.RegisterRecord.{RegisterRecord, record_head, SpellsRecord, record_of, record_at}
use Rattle.ddt_map_register.specs.MapRegister.{Message, Ignored, first_byte, third_byte, head_bytes, id_bytes, FitsId, SpellsRegister, head_of, head_at, id_at, before_rest, message_of, message_in}

-- ---- a locator

locator_back : (v : RegisteredLocator) (tail : List ℕ) (a : Option Locator) → v.flags < 2 ^ 16 → v.address ≡ a → locator_of (locator_head v ++ tail) a ≡ v
locator_back v tail a fits e =
    let f : big_number 2 (drop 4 (locator_head v ++ tail)) ≡ v.flags = big_number-reads_back 2 v.flags tail fits in
    rw (f, ← e) refl

plain_read : (bytes rest : List ℕ) (v : RegisteredLocator) (a : Locator) → 8 ≤ length bytes → drop 6 bytes ≡ family_and_address a ++ rest → IsAddress a → locator_of bytes (Some a) ≡ v → locator_at bytes ≡ Ok (v, rest)
unfolding locator_at
plain_read bytes rest v a long tail fits e =
    let short : ltb (length bytes) 8 ≡ false = le-ltb _ _ long in
    rw (short, tail, plain_number a rest, not_lcaf a, address_again a rest fits, drop-append_seam (family_and_address a) rest) (ap (λ (x : RegisteredLocator). Ok (x, rest)) e)

passed_read : (bytes rest : List ℕ) (v : RegisteredLocator) (n : ℕ) → 14 + n ≤ length bytes → big_number 2 (drop 6 bytes) ≡ 16387 → big_number 2 (drop 12 bytes) ≡ n → drop (14 + n) bytes ≡ rest → locator_of bytes None ≡ v → locator_at bytes ≡ Ok (v, rest)
unfolding locator_at passed_at
passed_read bytes rest v n long family len tail e =
    let eight : ltb (length bytes) 8 ≡ false = le-ltb _ _ (omega arith) in
    let fourteen : ltb (length bytes) 14 ≡ false = le-ltb _ _ (omega arith) in
    let whole : ltb (length bytes) (14 + n) ≡ false = le-ltb _ _ long in
    rw (eight, family, fourteen, len, whole, tail) (ap (λ (x : RegisteredLocator). Ok (x, rest)) e)

pub locator_again : (front : List ℕ) (v : RegisteredLocator) (rest : List ℕ) → SpellsLocator front v → locator_at (front ++ rest) ≡ Ok (v, rest)
locator_again front v rest (Plain a ranges fits address whole) =
    let tail = family_and_address a ++ rest in
    ap (λ (bytes : List ℕ). locator_at (bytes ++ rest)) whole
    ∙ plain_read (locator_head v ++ tail) rest v a (omega (arith, plain_long a rest)) refl fits (locator_back v tail (Some a) ranges.flags_fit address)
locator_again front v rest (Passed reserved flags type more inner ranges address fits short whole) =
    let tail = any_lcaf reserved flags type more inner ++ rest in
    let bytes = locator_head v ++ tail in
    let len : big_number 2 (drop 12 bytes) ≡ length inner = big_number-reads_back 2 (length inner) (inner ++ rest) short in
    let behind : drop (14 + length inner) bytes ≡ rest = sym (drop-drop (length inner) 14 bytes) ∙ drop-append_seam inner rest in
    ap (λ (bytes : List ℕ). locator_at (bytes ++ rest)) whole
    ∙ passed_read bytes rest v (length inner) (omega (arith, length-append inner rest)) refl len behind (locator_back v tail None ranges.flags_fit address)

-- ---- a record

record_read : (bytes p rest : List ℕ) (n : ℕ) (ls : List RegisteredLocator) → 12 ≤ length bytes → eid_at (slice_index bytes 5) (drop 10 bytes) ≡ Ok (p, n)
    → several_at locator_at (slice_index bytes 4) (drop n (drop 10 bytes)) ≡ Ok (ls, rest) → record_at bytes ≡ Ok (record_of bytes p ls, rest)
unfolding record_at
record_read bytes p rest n ls long e l =
    let short : ltb (length bytes) 12 ≡ false = le-ltb _ _ long in
    rw (short, e, l) refl

record_back : (v : RegisterRecord) (mask : ℕ) (tail : List ℕ) → v.ttl < 2 ^ 32 → v.flags < 2 ^ 16 → v.version < 2 ^ 16 → record_of (record_head mask v ++ tail) v.prefix v.locators ≡ v
record_back v mask tail ttl_fits flags_fit version_fits =
    let bytes = record_head mask v ++ tail in
    let t : big_number 4 bytes ≡ v.ttl = big_number-reads_back 4 v.ttl (drop 4 bytes) ttl_fits in
    let f : big_number 2 (drop 6 bytes) ≡ v.flags = big_number-reads_back 2 v.flags (drop 8 bytes) flags_fit in
    let g : big_number 2 (drop 8 bytes) ≡ v.version = big_number-reads_back 2 v.version tail version_fits in
    rw (t, f, g) refl

pub record_again : (front : List ℕ) (v : RegisterRecord) (rest : List ℕ) → SpellsRecord front v → record_at (front ++ rest) ≡ Ok (v, rest)
record_again front v rest s =
    let head = record_head s.mask v in
    let tail = s.eid ++ (s.locators ++ rest) in
    let regrouped : front ++ rest ≡ head ++ tail =
    ap (λ (t : List ℕ). t ++ rest) s.whole ∙ append_assoc (head ++ s.eid) s.locators rest ∙ append_assoc head s.eid (s.locators ++ rest) in
    let locators : several_at locator_at (length v.locators) (drop (length s.eid) tail) ≡ Ok (v.locators, rest) =
    ap (several_at locator_at (length v.locators)) (drop-append_seam s.eid (s.locators ++ rest))
    ∙ several_again SpellsLocator locator_at locator_again s.locators v.locators rest s.spells_locators in
    ap record_at regrouped
    ∙ record_read (head ++ tail) v.prefix rest (length s.eid) v.locators (omega (arith, length-append s.eid (s.locators ++ rest), eid_some s.mask s.eid v.prefix s.spells_eid))
    (eid_again s.mask s.eid v.prefix (s.locators ++ rest) s.spells_eid) locators
    ∙ ap (λ (x : RegisterRecord). Ok (x, rest)) (record_back v s.mask tail s.ttl_fits s.flags_fit s.version_fits)

-- ---- the head

bit-le : (x : Bool) → bit x ≤ 1
bit-le true = omega arith
bit-le false = omega arith

bit_is : (x : Bool) (n : ℕ) → n ≡ bit x → eqb n 1 ≡ x
bit_is true n e = rw e refl
bit_is false n e = rw e refl

type_again : (a b c i : ℕ) → a ≤ 1 → b ≤ 1 → c ≤ 1 → i < 2 → (3 * 16 + a * 8 + b * 4 + c * 2 + i) / 16 ≡ 3
type_again a b c i ha hb hc hi = omega arith

p_again : (a b c i : ℕ) → a ≤ 1 → b ≤ 1 → c ≤ 1 → i < 2 → (3 * 16 + a * 8 + b * 4 + c * 2 + i) / 8 % 2 ≡ a
p_again a b c i ha hb hc hi = omega arith

s_again : (a b c i : ℕ) → a ≤ 1 → b ≤ 1 → c ≤ 1 → i < 2 → (3 * 16 + a * 8 + b * 4 + c * 2 + i) / 4 % 2 ≡ b
s_again a b c i ha hb hc hi = omega arith

i_again : (a b c i : ℕ) → a ≤ 1 → b ≤ 1 → c ≤ 1 → i < 2 → (3 * 16 + a * 8 + b * 4 + c * 2 + i) / 2 % 2 ≡ c
i_again a b c i ha hb hc hi = omega arith

e_again : (f a b c r d : ℕ) → a ≤ 1 → b ≤ 1 → c ≤ 1 → r ≤ 1 → d ≤ 1 → (f * 32 + a * 16 + b * 8 + c * 4 + r * 2 + d) / 16 % 2 ≡ a
e_again f a b c r d ha hb hc hr hd = omega arith

t_again : (f a b c r d : ℕ) → a ≤ 1 → b ≤ 1 → c ≤ 1 → r ≤ 1 → d ≤ 1 → (f * 32 + a * 16 + b * 8 + c * 4 + r * 2 + d) / 8 % 2 ≡ b
t_again f a b c r d ha hb hc hr hd = omega arith

a_again : (f a b c r d : ℕ) → a ≤ 1 → b ≤ 1 → c ≤ 1 → r ≤ 1 → d ≤ 1 → (f * 32 + a * 16 + b * 8 + c * 4 + r * 2 + d) / 4 % 2 ≡ c
a_again f a b c r d ha hb hc hr hd = omega arith

m_again : (f a b c r d : ℕ) → a ≤ 1 → b ≤ 1 → c ≤ 1 → r ≤ 1 → d ≤ 1 → (f * 32 + a * 16 + b * 8 + c * 4 + r * 2 + d) / 1 % 2 ≡ d
m_again f a b c r d ha hb hc hr hd = omega arith

head_read : (bytes : List ℕ) → 16 + big_number 2 (drop 14 bytes) ≤ length bytes → slice_index bytes 0 / 16 ≡ 3 → head_at bytes ≡ Ok (head_of bytes)
unfolding head_at
head_read bytes long type =
    let short : ltb (length bytes) 16 ≡ false = le-ltb _ _ (omega arith) in
    let same : eqb (slice_index bytes 0 / 16) 3 ≡ true = eq-eqb _ _ type in
    let whole : ltb (length bytes) (16 + big_number 2 (drop 14 bytes)) ≡ false = le-ltb _ _ long in
    rw (short, same, whole) refl

fields_again : (i : Ignored) (h : RegisterHead) (tail : List ℕ) → h.nonce < 2 ^ 64 → h.code_len < 2 ^ 16 → head_of (head_bytes i h ++ tail) ≡ h
fields_again i h tail nonce_fits len_fits =
    let bytes = head_bytes i h ++ tail in
    let p = bit_is h.proxy (first_byte i.last h / 8 % 2) (p_again (bit h.proxy) (bit h.security) (bit h.has_id) i.last (bit-le h.proxy) (bit-le h.security) (bit-le h.has_id) i.last_fits) in
    let s = bit_is h.security (first_byte i.last h / 4 % 2) (s_again (bit h.proxy) (bit h.security) (bit h.has_id) i.last (bit-le h.proxy) (bit-le h.security) (bit-le h.has_id) i.last_fits) in
    let d = bit_is h.has_id (first_byte i.last h / 2 % 2) (i_again (bit h.proxy) (bit h.security) (bit h.has_id) i.last (bit-le h.proxy) (bit-le h.security) (bit-le h.has_id) i.last_fits) in
    let third = third_byte i.first i.r h in
    let e = bit_is h.eid_notify (third / 16 % 2) (e_again i.first (bit h.eid_notify) (bit h.use_ttl) (bit h.merge) (bit i.r) (bit h.want_notify) (bit-le h.eid_notify) (bit-le h.use_ttl) (bit-le h.merge) (bit-le i.r) (bit-le h.want_notify)) in
    let t = bit_is h.use_ttl (third / 8 % 2) (t_again i.first (bit h.eid_notify) (bit h.use_ttl) (bit h.merge) (bit i.r) (bit h.want_notify) (bit-le h.eid_notify) (bit-le h.use_ttl) (bit-le h.merge) (bit-le i.r) (bit-le h.want_notify)) in
    let a = bit_is h.merge (third / 4 % 2) (a_again i.first (bit h.eid_notify) (bit h.use_ttl) (bit h.merge) (bit i.r) (bit h.want_notify) (bit-le h.eid_notify) (bit-le h.use_ttl) (bit-le h.merge) (bit-le i.r) (bit-le h.want_notify)) in
    let m = bit_is h.want_notify (third / 1 % 2) (m_again i.first (bit h.eid_notify) (bit h.use_ttl) (bit h.merge) (bit i.r) (bit h.want_notify) (bit-le h.eid_notify) (bit-le h.use_ttl) (bit-le h.merge) (bit-le i.r) (bit-le h.want_notify)) in
    let n : big_number 8 (drop 4 bytes) ≡ h.nonce = big_number-reads_back 8 h.nonce (drop 12 bytes) nonce_fits in
    let l : big_number 2 (drop 14 bytes) ≡ h.code_len = big_number-reads_back 2 h.code_len tail len_fits in
    rw (p, s, d, e, t, a, m, n, l) refl

head_again : (i : Ignored) (h : RegisterHead) (tail : List ℕ) → h.nonce < 2 ^ 64 → h.code_len < 2 ^ 16 → h.code_len ≤ length tail → head_at (head_bytes i h ++ tail) ≡ Ok h
head_again i h tail nonce_fits len_fits room =
    let bytes = head_bytes i h ++ tail in
    let l : big_number 2 (drop 14 bytes) ≡ h.code_len = big_number-reads_back 2 h.code_len tail len_fits in
    head_read bytes (omega (arith, l, room))
    (type_again (bit h.proxy) (bit h.security) (bit h.has_id) i.last (bit-le h.proxy) (bit-le h.security) (bit-le h.has_id) i.last_fits)
    ∙ ap (λ (x : RegisterHead). Ok x) (fields_again i h tail nonce_fits len_fits)

-- ---- the whole

id_again : (has : Bool) (id : Option XtrId) → FitsId has id → id_at has (id_bytes id) ≡ Ok id
unfolding id_at
id_again has None e = rw e refl
id_again has (Some id) (e, xtr_fits, site_fits) =
    let x : big_number 16 (id_bytes (Some id)) ≡ id.xtr = big_number-reads_back 16 id.xtr (to_be_bytes w64 id.site) xtr_fits in
    let s : big_number 8 (drop 16 (id_bytes (Some id))) ≡ id.site = big_number-reads_back 8 id.site [] site_fits in
    rw (e, x, s) refl

message_read : (bytes rest : List ℕ) (h : RegisterHead) (rs : List RegisterRecord) (id : Option XtrId) → head_at bytes ≡ Ok h → several_at record_at h.count (drop h.code_len (drop 16 bytes)) ≡ Ok (rs, rest)
    → id_at h.has_id rest ≡ Ok id → message_in bytes ≡ Ok (message_of bytes h rs rest id)
unfolding message_in
message_read bytes rest h rs id a b c = rw (a, b, c) refl

-- the front is what is before the rest
pub front_again : (front rest : List ℕ) → before_rest (front ++ rest) rest ≡ front
front_again front rest =
    let n : length (front ++ rest) - length rest ≡ length front = omega (arith, length-append front rest) in
    ap (λ (k : ℕ). take k (front ++ rest)) n ∙ take-append_seam front rest

pub message_again : (bytes : List ℕ) (v : Message) → SpellsRegister bytes v → message_in bytes ≡ Ok v
message_again bytes v s =
    let head = head_bytes s.ignored v.head in
    let last = id_bytes v.id in
    let after = v.record_bytes ++ last in
    let tail = v.code ++ after in
    let regrouped : bytes ≡ head ++ tail = s.whole ∙ append_assoc (head ++ v.code) v.record_bytes last ∙ append_assoc head v.code after in
    let room : v.head.code_len ≤ length tail = omega (arith, s.code_len_is, length-append v.code after) in
    let begins = head_again s.ignored v.head tail s.nonce_fits s.code_len_fits room in
    let behind : drop v.head.code_len tail ≡ after = ap (λ (n : ℕ). drop n tail) s.code_len_is ∙ drop-append_seam v.code after in
    let code : take v.head.code_len tail ≡ v.code = ap (λ (n : ℕ). take n tail) s.code_len_is ∙ take-append_seam v.code after in
    let records : several_at record_at v.head.count (drop v.head.code_len tail) ≡ Ok (v.records, last) =
    ap (λ (n : ℕ). several_at record_at n (drop v.head.code_len tail)) s.count_is ∙ ap (several_at record_at (length v.records)) behind
    ∙ several_again SpellsRecord record_at record_again v.record_bytes v.records last s.spells_records in
    let made : List ℕ → List ℕ → List ℕ → Message = λ c w r. record { head = v.head; code = c; covered = w; record_bytes = r; records = v.records; id = v.id } in
    let covers : head ++ replicate (length v.code) 0 ++ after ≡ v.covered = sym s.covers in
    let zeros : List ℕ → List ℕ → List ℕ = λ c a. head ++ replicate (length c) 0 ++ a in
    let back : message_of (head ++ tail) v.head v.records last v.id ≡ v =
    ap (λ (c : List ℕ). made c (zeros c (drop v.head.code_len tail)) (before_rest (drop v.head.code_len tail) last)) code
    ∙ ap (λ (a : List ℕ). made v.code (zeros v.code a) (before_rest a last)) behind
    ∙ ap (λ (w : List ℕ). made v.code w (before_rest after last)) covers
    ∙ ap (made v.code v.covered) (front_again v.record_bytes last) in
    ap message_in regrouped
    ∙ message_read (head ++ tail) last v.head v.records v.id begins records (id_again v.head.has_id v.id s.id_fits)
    ∙ ap (λ (x : Message). Ok x) back
