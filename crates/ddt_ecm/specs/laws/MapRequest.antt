-- A Map-Request that is read is spelled so, and what is spelled is read again.
use Rattle.std.proofs.Common.{◌≡◌, ℕ, ◌+◌, ◌*◌, ◌/◌, ◌%◌, ◌^◌, ◌<◌, ◌≤◌, Bool, true, false, ltb, leb, eqb, List, [], ◌∷◌, ◌++◌, length, take, drop, Ok, Err, refl, sym, ap, subst, ◌∙◌, arith, inl, inr, length-append, length-drop, append_assoc}
use Rattle.std.specs.Prelude.{slice_index, ◌&&◌, not}
use Rattle.std.proofs.lemmas.Bool.{both_ways, eqb-false, ltb-false, le-ltb, lt-leb, eqb-true, eq-eqb, ne_eqb, cases_eq, not-false, and_cases, and_left, and_right, not_from_true, cond-false}
use Rattle.std.proofs.lemmas.List.{take_at, drop_at, nil_from_length, drop-drop}
use Rattle.std.proofs.Math.Seq.{drop-append_seam}
use Rattle.byteorder.specs.Endian.{big_number}
use Rattle.byteorder.specs.Numbers.{big_number-reads_back}
use Rattle.ddt_path.specs.declared.locator.Locator.{Locator}
use Rattle.ddt_path.specs.declared.locator.Locator.TheVariants.{V4, V6}
use Rattle.ddt_path.specs.declared.xeid.Xeid.{Xeid}
use Rattle.ddt_path.specs.declared.form.Form.TheVariants.{Range, Block}
use Rattle.ddt_path.specs.Path.{path, digits, family, are_zero, address_width, address_number, address_digits, xeid_path, IsForm}
use Rattle.ddt_path.specs.FormOf.{padded_number, block_of, form_of}
use Rattle.ddt_path.specs.FormLemmas.{whole, none_left, take_len}
use Rattle.ddt_path.specs.DigitLemmas.{length-digits}
use Rattle.ddt_path.specs.Steps.{in_words, IsBytes}
use Rattle.ddt_wire.specs.Address.{IsAddress}
use Rattle.ddt_wire.specs.Eid.{SpellsEid, Plain, Inside, Instances, eid_at}
use Rattle.ddt_wire.specs.Referral.{bit}
use Rattle.ddt_wire.specs.laws.Statements.{IsPrefix}
use Rattle.ddt_path.specs.laws.Step.{bind_parts, guard_parts, words_ok, guard_ok, ok_is}
use Rattle.ddt_path.specs.laws.Byte.{HasFront, HasFront-fits, IsBetween, ◌followed_by◌, stands, number_stands, known_stands, byte_stands, number_fits, IsBytes-drop}
use Rattle.ddt_wire.specs.Addresses.{addresses_at}
use Rattle.ddt_wire.specs.laws.Addresses.{AreAddresses, addresses_take, addresses_again}
use Rattle.ddt_wire.specs.laws.CutPrefix.{form_of-named}
use Rattle.ddt_wire.specs.laws.Eid.{eid_takes, eid_again}
use Rattle.ddt_wire.specs.laws.Message.{bit_of, bit-le}
use Rattle.ddt_ecm.specs.declared.fault.RequestFault.{RequestFault}
use Rattle.ddt_ecm.specs.declared.fault.RequestFault.TheVariants as fault
use Rattle.ddt_ecm.specs.MapRequest.{Ignored, a_place, m_place, irc_limit, request_word, request_fields, SpellsRequest, from_eid, host_of, xeid_at, source_at, head_at, from_address, rlocs_at, trails, map_request_at}
use Rattle.ddt_ecm.specs.laws.Source.{IsSource, source_takes, source_again}

-- ---- the whole path of an identifier

full_path : (n : ℕ) (a : Locator) → path (Block n a (address_width a)) ≡ xeid_path (record { iid = n; address = a })
full_path n a = ap (λ (ds : List ℕ). digits 32 n ++ (family a ∷ ds)) (whole (address_width a) (address_number a))

full_form : (n : ℕ) (a : Locator) → n < 2 ^ 32 → IsAddress a → IsForm (Block n a (address_width a))
full_form n a hn ha = (hn, ha, omega arith, ap are_zero (none_left (address_width a) (address_number a)))

pub full_is_prefix : (n : ℕ) (a : Locator) → n < 2 ^ 32 → IsAddress a → IsPrefix (xeid_path (record { iid = n; address = a }))
full_is_prefix n a hn ha = (Block n a (address_width a), full_form n a hn ha, full_path n a)

pub form_of_full : (n : ℕ) (a : Locator) → n < 2 ^ 32 → IsAddress a → form_of (xeid_path (record { iid = n; address = a })) ≡ Block n a (address_width a)
form_of_full n a hn ha = form_of-named (xeid_path (record { iid = n; address = a })) (Block n a (address_width a)) (full_path n a) (full_form n a hn ha)

host_read : (n : ℕ) (a : Locator) → n < 2 ^ 32 → IsAddress a → host_of (form_of (xeid_path (record { iid = n; address = a }))) ≡ Ok (record { iid = n; address = a })
host_read n a hn ha =
    let same : eqb (address_width a) (address_width a) ≡ true = eq-eqb (address_width a) (address_width a) refl in
    rw (form_of_full n a hn ha, same) refl

-- ---- the identifier that a prefix is

-- a prefix of a single identifier
record IsHost (mask : ℕ) (p : List ℕ) (x : Xeid) : Type 0 where
  mask_is : mask ≡ address_width x.address
  path_is : p ≡ xeid_path x
  iid_fits : x.iid < 2 ^ 32
  address_fits : IsAddress x.address

refused : {A E : Type 0} (d : E) (x : A) → Err d ≡ Ok x → ⊥
refused d x e = absurd cc

form_of_block : (iid mask : ℕ) (a : Locator) → form_of (path (Block iid a mask)) ≡ block_of (padded_number 32 (digits 32 iid)) (family a ∷ take mask (address_digits a))
form_of_block iid mask a =
    let ds = digits 32 iid in
    let es = family a ∷ take mask (address_digits a) in
    cond-false (leb (length (ds ++ es)) 32) _ _ (lt-leb (length (ds ++ es)) 32 (omega (arith, length-append ds es, length-digits 32 iid)))
    ∙ rw (take_at ds es 32 (length-digits 32 iid), drop_at ds es 32 (length-digits 32 iid)) refl

-- a block that isn't as long as its family's width
short_block : (iid mask : ℕ) (a : Locator) → mask ≤ address_width a → (mask ≡ address_width a → ⊥) → host_of (form_of (path (Block iid a mask))) ≡ Err fault.NotHost
short_block iid mask (V4 n) le other = rw (form_of_block iid mask (V4 n), take_len 32 mask n le, ne_eqb mask 32 other) refl
short_block iid mask (V6 n) le other = rw (form_of_block iid mask (V6 n), take_len 128 mask n le, ne_eqb mask 128 other) refl

block_host : (iid mask : ℕ) (a : Locator) (p : List ℕ) (x : Xeid) → iid < 2 ^ 32 → IsAddress a → mask ≤ address_width a → p ≡ path (Block iid a mask) → host_of (form_of p) ≡ Ok x → IsHost mask p x
block_host iid mask a p x hi ha le is e =
    elim (cases_eq mask (address_width a)) [
      | inl same ↦
          let q : p ≡ xeid_path (record { iid = iid; address = a }) = is ∙ ap (λ (k : ℕ). path (Block iid a k)) same ∙ full_path iid a in
          let made : IsHost mask p (record { iid = iid; address = a }) = record { mask_is = same; path_is = q; iid_fits = hi; address_fits = ha } in
          subst (IsHost mask p) (ok_is {E = RequestFault} (record { iid = iid; address = a }) x (sym (host_read iid a hi ha) ∙ ap (λ (t : List ℕ). host_of (form_of t)) (sym q) ∙ e)) made
      | inr other ↦ absurd (refused fault.NotHost x (sym (short_block iid mask a le other) ∙ ap (λ (t : List ℕ). host_of (form_of t)) (sym is) ∙ e))
    ]

host_takes : (mask : ℕ) (eid p : List ℕ) (x : Xeid) → SpellsEid mask eid p → host_of (form_of p) ≡ Ok x → IsHost mask p x
host_takes mask eid p x (Plain a fits le is value) e = block_host 0 mask a p x (omega arith) fits le value e
host_takes mask eid p x (Inside r f m iid a h fits le is value) e = block_host iid mask a p x h.iid_fits fits le value e
host_takes mask eid p x (Instances r f len iid h le zeros is value) e =
    absurd (refused fault.NotHost x (sym (ap host_of (form_of-named p (Range iid len) (sym value) (h.iid_fits, le, zeros))) ∙ e))

-- ---- the identifier behind its mask length

-- what was read of an identifier, behind a reserved byte
record IsXeid (bytes : List ℕ) (x : Xeid) (n : ℕ) : Type 0 where
  reserved : ℕ
  eid : List ℕ
  reserved_fits : reserved < 256
  iid_fits : x.iid < 2 ^ 32
  address_fits : IsAddress x.address
  spelled : SpellsEid (address_width x.address) eid (xeid_path x)
  takes : HasFront bytes ((reserved ∷ address_width x.address ∷ []) ++ eid) n

xeid_takes : (bytes : List ℕ) (x : Xeid × ℕ) → IsBytes bytes → xeid_at bytes ≡ Ok x → IsXeid bytes x.0 x.1
unfolding xeid_at
xeid_takes bytes x fits e =
    let mask = slice_index bytes 1 in
    guard_parts (ltb (length bytes) 2) _ _ x e λ short e₁.
    bind_parts (in_words from_eid (eid_at mask (drop 2 bytes))) _ x e₁ λ p read₁ e₂.
    bind_parts (host_of (form_of p.0)) _ x e₂ λ y read₂ e₃.
    let long : 2 ≤ length bytes = ltb-false _ _ short in
    let r = eid_takes mask (drop 2 bytes) p (IsBytes-drop 2 bytes fits) (words_ok from_eid (eid_at mask (drop 2 bytes)) p read₁) in
    let h = host_takes mask r.0 p.0 y r.2 read₂ in
    let front = byte_stands 0 bytes (omega arith) followed_by byte_stands 1 bytes (omega arith) in
    let t : HasFront bytes ((slice_index bytes 0 ∷ mask ∷ []) ++ r.0) (2 + p.1) = record {
      parts = (front followed_by stands bytes r.0 2 p.1 r.1).is;
      len = length-append (slice_index bytes 0 ∷ mask ∷ []) r.0 ∙ ap (λ (n : ℕ). 2 + n) r.1.len;
    } in
    let made : IsXeid bytes y (2 + p.1) = record {
      reserved = slice_index bytes 0;
      eid = r.0;
      reserved_fits = fits.at 0;
      iid_fits = h.iid_fits;
      address_fits = h.address_fits;
      spelled = subst (λ (k : ℕ). SpellsEid k r.0 (xeid_path y)) h.mask_is (subst (SpellsEid mask r.0) h.path_is r.2);
      takes = subst (λ (k : ℕ). HasFront bytes ((slice_index bytes 0 ∷ k ∷ []) ++ r.0) (2 + p.1)) h.mask_is t;
    } in
    subst (λ (z : Xeid × ℕ). IsXeid bytes z.0 z.1) (ok_is {E = RequestFault} (y, 2 + p.1) x e₃) made

xeid_read : (bytes : List ℕ) (m : ℕ) (p : List ℕ) (k : ℕ) (x : Xeid) → 2 ≤ length bytes → slice_index bytes 1 ≡ m → eid_at m (drop 2 bytes) ≡ Ok (p, k) → host_of (form_of p) ≡ Ok x → xeid_at bytes ≡ Ok (x, 2 + k)
unfolding xeid_at
xeid_read bytes m p k x long mask eid host =
    let two : ltb (length bytes) 2 ≡ false = le-ltb _ _ long in
    rw (two, mask, eid, host) refl

xeid_again : (reserved : ℕ) (x : Xeid) (eid after : List ℕ) → x.iid < 2 ^ 32 → IsAddress x.address → SpellsEid (address_width x.address) eid (xeid_path x)
    → xeid_at ((reserved ∷ address_width x.address ∷ []) ++ (eid ++ after)) ≡ Ok (x, 2 + length eid)
xeid_again reserved x eid after hi ha s =
    xeid_read ((reserved ∷ address_width x.address ∷ []) ++ (eid ++ after)) (address_width x.address) (xeid_path x) (length eid) x (omega arith) refl (eid_again (address_width x.address) eid (xeid_path x) after s) (host_read x.iid x.address hi ha)

-- ---- what stands before the source EID

abbrev ignored_of : (message : List ℕ) (reserved_ : ℕ) → IsBytes message → reserved_ < 256 → Ignored
ignored_of message reserved_ fits small = record {
  authoritative = eqb (slice_index message 0 / a_place % 2) 1;
  flags = slice_index message 0 % m_place * 2048 + slice_index message 1 * 8 + slice_index message 2 / irc_limit;
  reserved = reserved_;
  flags_fit = omega (arith, fits.at 1, fits.at 2);
  reserved_fits = small;
}

abbrev with_map_of : List ℕ → Bool
with_map_of message = eqb (slice_index message 0 / m_place % 2) 1

abbrev irc_of : List ℕ → ℕ
irc_of message = slice_index message 2 % irc_limit

head_takes : (message : List ℕ) (count reserved : ℕ) (fits : IsBytes message) (small : reserved < 256) → head_at message ≡ Ok count
    → IsBetween message 0 (request_fields (ignored_of message reserved fits small) (with_map_of message) (irc_of message) (big_number 8 (drop 4 message))) 12 × (irc_of message + 1 ≡ count)
unfolding head_at
head_takes message count reserved fits small e =
    guard_parts (ltb (length message) 12) _ _ count e λ short e₁.
    guard_parts (not (eqb (slice_index message 0 / 16) 1)) _ _ count e₁ λ type e₂.
    guard_parts (not (eqb (slice_index message 3) 1)) _ _ count e₂ λ one e₃.
    let long : 12 ≤ length message = ltb-false _ _ short in
    let a = bit_of (slice_index message 0 / 8 % 2) (omega arith) in
    let m = bit_of (slice_index message 0 / 4 % 2) (omega arith) in
    let word = request_word (ignored_of message reserved fits small) (with_map_of message) (irc_of message) in
    let number : big_number 4 message ≡ word = omega (arith, eqb-true _ _ (not-false _ type), eqb-true _ _ (not-false _ one), a, m) in
    (known_stands 0 4 word message fits (omega arith) number followed_by number_stands 4 8 message fits (omega arith), ok_is {E = RequestFault} (irc_of message + 1) count e₃)

-- ---- the whole Map-Request

-- what was read of a Map-Request
abbrev Read : Type 0
Read = ℕ × Xeid × List Locator

regrouped : (message front from flat rest mask eid after : List ℕ) → message ≡ front ++ from → from ≡ flat ++ rest → rest ≡ (mask ++ eid) ++ after → message ≡ front ++ flat ++ mask ++ eid ++ after
regrouped message front from flat rest mask eid after p q r = p ∙ ap (λ (t : List ℕ). front ++ t) (q ∙ ap (λ (t : List ℕ). flat ++ t) r) ∙ simp append_assoc refl

zero_bit : (x : ℕ) → x < 2 → eqb x 1 ≡ false → x ≡ 0
zero_bit x lt e = let other = eqb-false x 1 e in omega arith

nothing_left : (message rest : List ℕ) (n : ℕ) → n ≤ length rest → trails message n rest ≡ false → eqb (slice_index message 0 / 4 % 2) 1 ≡ false → drop n rest ≡ []
nothing_left message rest n within e clear =
    elim (and_cases (eqb (slice_index message 0 / 4 % 2) 0) (not (eqb (length rest) n)) e) [
      | inl p ↦
          let e0 : eqb (slice_index message 0 / 4 % 2) 0 ≡ true = eq-eqb _ _ (zero_bit (slice_index message 0 / 4 % 2) (omega arith) clear) in
          absurd (both_ways (eqb (slice_index message 0 / 4 % 2) 0) p e0)
      | inr p ↦ nil_from_length (drop n rest) (omega (arith, length-drop n rest, eqb-true _ _ (not-false _ p)))
    ]

spelled : (message : List ℕ) (count source : ℕ) (ls : List Locator) (rest : List ℕ) (x : Xeid) (n : ℕ) → IsBytes message → head_at message ≡ Ok count → IsSource (drop 12 message) source
    → AreAddresses 0 (drop source (drop 12 message)) ls rest → length ls ≡ count → IsXeid rest x n → trails message n rest ≡ false → SpellsRequest message (big_number 8 (drop 4 message)) x ls
spelled message count source ls rest x n fits h (text, t, s) l size q over =
    let i = ignored_of message q.reserved fits q.reserved_fits in
    let fields = request_fields i (with_map_of message) (irc_of message) (big_number 8 (drop 4 message)) in
    let head = head_takes message count q.reserved fits q.reserved_fits h in
    let front = head.0 followed_by stands message text 12 source t in
    record {
      ignored = i;
      with_map = with_map_of message;
      irc = irc_of message;
      source = text;
      itr_rlocs = l.front;
      eid = q.eid;
      after = drop n rest;
      nonce_fits = number_fits 8 (drop 4 message) (IsBytes-drop 4 message fits);
      irc_fits = omega arith;
      iid_fits = q.iid_fits;
      address_fits = q.address_fits;
      count = size ∙ sym head.1;
      spells_source = s;
      spells_rlocs = l.spelled;
      spells_eid = q.spelled;
      after_are_bytes = IsBytes-drop n rest l.rest_fits;
      none_after = nothing_left message rest n (HasFront-fits rest ((q.reserved ∷ address_width x.address ∷ []) ++ q.eid) n q.takes) over;
      whole = regrouped message (fields ++ text) (drop (12 + source) message) l.front rest (q.reserved ∷ address_width x.address ∷ []) q.eid (drop n rest) front.is (sym (drop-drop source 12 message) ∙ l.parts) q.takes.parts;
    }

pub request_takes : (message : List ℕ) (x : Read) → IsBytes message → map_request_at message ≡ Ok x → SpellsRequest message x.0 x.1 x.2
unfolding map_request_at
request_takes message x fits e =
    bind_parts (head_at message) _ x e λ count read₁ e₁.
    bind_parts (source_at (drop 12 message)) _ x e₁ λ source read₂ e₂.
    let from_rlocs = drop source (drop 12 message) in
    bind_parts (rlocs_at count from_rlocs) _ x e₂ λ ls read₃ e₃.
    bind_parts (xeid_at ls.1) _ x e₃ λ q read₄ e₄.
    let g = guard_ok (trails message q.1 ls.1) fault.Trailing (Ok (big_number 8 (drop 4 message), q.0, ls.0)) x e₄ in
    let from_source = IsBytes-drop 12 message fits in
    let l = addresses_take 0 count from_rlocs ls (IsBytes-drop source (drop 12 message) from_source) (words_ok from_address (addresses_at 0 count from_rlocs) ls read₃) in
    let made = spelled message count source ls.0 ls.1 q.0 q.1 fits read₁ (source_takes (drop 12 message) source from_source read₂) l.0 l.1 (xeid_takes ls.1 q l.0.rest_fits read₄) g.0 in
    subst (λ (y : Read). SpellsRequest message y.0 y.1 y.2) (ok_is {E = RequestFault} (big_number 8 (drop 4 message), q.0, ls.0) x g.1) made

-- ---- what is spelled is read again

head_read : (message : List ℕ) (count : ℕ) → 12 ≤ length message → slice_index message 0 / 16 ≡ 1 → slice_index message 3 ≡ 1 → slice_index message 2 % 32 + 1 ≡ count → head_at message ≡ Ok count
unfolding head_at
head_read message count long type one rlocs =
    let twelve : ltb (length message) 12 ≡ false = le-ltb _ _ long in
    rw (twelve, type, one, rlocs) refl

-- the type and two bits in the first byte of a word
pub first_again : (type s m rest : ℕ) → type < 16 → s ≤ 1 → m ≤ 1 → rest < 2 ^ 26 → let first = ((type * 16 + s * 8 + m * 4) * 2 ^ 24 + rest) / 16777216 % 256 in (first / 16 ≡ type) × (first / 8 % 2 ≡ s) × (first / 4 % 2 ≡ m)
first_again type s m rest ht hs hm hr = (omega arith, omega arith, omega arith)

-- IRC and the record count at its end
low_again : (first f i : ℕ) → i < 32 → let word = first * 2 ^ 24 + (f * 2 ^ 13 + i * 2 ^ 8 + 1) in (word / 256 % 256 % 32 ≡ i) × (word % 256 ≡ 1)
low_again first f i hi = (omega arith, omega arith)

request_read : (message from_source from_rlocs from_xeid : List ℕ) (count source k nonce : ℕ) (x : Xeid) (ls : List Locator) → head_at message ≡ Ok count → drop 12 message ≡ from_source → source_at from_source ≡ Ok source → drop source from_source ≡ from_rlocs
    → rlocs_at count from_rlocs ≡ Ok (ls, from_xeid) → xeid_at from_xeid ≡ Ok (x, k) → trails message k from_xeid ≡ false → big_number 8 (drop 4 message) ≡ nonce → map_request_at message ≡ Ok (nonce, x, ls)
unfolding map_request_at
request_read message from_source from_rlocs from_xeid count source k nonce x ls h d s e r q over number = rw (h, d, s, e, r, q, over, number) refl

-- where M is clear, nothing stands after the EID
ends : (with_map : Bool) (b size : ℕ) (eid after : List ℕ) → b ≡ bit with_map → size ≡ 2 + length eid + length after → (with_map ≡ false → after ≡ []) → (eqb b 0 && not (eqb size (2 + length eid))) ≡ false
ends true b size eid after e is none = and_left _ _ (ap (λ (n : ℕ). eqb n 0) e)
ends false b size eid after e is none =
    let same : size ≡ 2 + length eid = omega (arith, is, ap length (none refl)) in
    and_right _ _ (not_from_true _ (eq-eqb _ _ same))

pub request_again : (message : List ℕ) (nonce : ℕ) (x : Xeid) (ls : List Locator) → SpellsRequest message nonce x ls → map_request_at message ≡ Ok (nonce, x, ls)
request_again message nonce x ls s =
    let i = s.ignored in
    let first = first_again 1 (bit i.authoritative) (bit s.with_map) (i.flags * 2 ^ 13 + s.irc * 2 ^ 8 + 1) (omega arith) (bit-le i.authoritative) (bit-le s.with_map) (omega (arith, i.flags_fit, s.irc_fits)) in
    let low = low_again (16 + bit i.authoritative * 8 + bit s.with_map * 4) i.flags s.irc s.irc_fits in
    let tail = (i.reserved ∷ address_width x.address ∷ []) ++ (s.eid ++ s.after) in
    let from_rlocs = s.itr_rlocs ++ tail in
    let text = request_fields i s.with_map s.irc nonce ++ (s.source ++ from_rlocs) in
    let regrouped : message ≡ text = s.whole ∙ simp append_assoc refl in
    let count : slice_index text 2 % 32 + 1 ≡ length ls = ap (λ (k : ℕ). k + 1) low.0 ∙ sym s.count in
    ap map_request_at regrouped
    ∙ request_read text (s.source ++ from_rlocs) from_rlocs tail (length ls) (length s.source) (2 + length s.eid) nonce x ls
    (head_read text (length ls) (omega arith) first.0 low.1 count)
    refl (source_again s.source from_rlocs s.spells_source) (drop-append_seam s.source from_rlocs) (ap (in_words from_address) (addresses_again 0 s.itr_rlocs ls tail s.spells_rlocs)) (xeid_again i.reserved x s.eid s.after s.iid_fits s.address_fits s.spells_eid)
    (ends s.with_map (slice_index text 0 / 4 % 2) (length tail) s.eid s.after first.2 (omega (arith, length-append s.eid s.after)) s.none_after)
    (big_number-reads_back 8 nonce (s.source ++ from_rlocs) s.nonce_fits)
