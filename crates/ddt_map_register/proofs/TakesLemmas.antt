-- What is read is spelled so: locators, records, a Map-Register.
use Rattle.std.proofs.Common.{◌≡◌, ℕ, zero, suc, ◌+◌, ◌*◌, ◌/◌, ◌%◌, ◌^◌, ◌<◌, ◌≤◌, Bool, true, false, ltb, eqb, List, [], ◌++◌, length, take, drop, replicate, Option, Some, None, Result, Ok, Err, refl, sym, ap, subst, ◌∙◌, arith, inl, inr, length-take, length-drop, length-append, append_assoc}
use Rattle.std.specs.Prelude.{slice_index, not, IfOk}
use Rattle.std.specs.Int.{w64, w128, to_be_bytes}
use Rattle.std.proofs.lemmas.Bool.{ltb-false, eqb-true, not-false}
use Rattle.std.proofs.lemmas.List.{append-nil, drop-drop, drop_all, nil_from_length}
use Rattle.byteorder.specs.Endian.{big_number}
use Rattle.ddt_path.specs.declared.locator.Locator.{Locator}
use Rattle.ddt_path.specs.Steps.{◌>>=◌, in_words, IsBytes}
use Rattle.ddt_path.specs.laws.Step.{bind_ok, bind_parts, guard_parts, chosen, ok_is, words_ok}
use Rattle.ddt_path.specs.laws.Byte.{front_taken, IsBetween, ◌followed_by◌, stands, number_stands, known_stands, byte_stands, known_byte, number_fits, IsBytes-drop, IsBytes-take, IsBytes-cons}
use Rattle.ddt_wire.specs.Address.{family_and_address, address_at}
use Rattle.ddt_wire.specs.Eid.{eid_at}
use Rattle.ddt_wire.specs.Referral.{bit}
use Rattle.ddt_wire.specs.laws.Addresses.{address_takes}
use Rattle.ddt_wire.specs.laws.Eid.{eid_takes}
use Rattle.ddt_map_register.specs.declared.registered_locator.RegisteredLocator.{RegisteredLocator}
use Rattle.ddt_map_register.specs.declared.register_head.RegisterHead.{RegisterHead}
use Rattle.ddt_map_register.specs.declared.map_register.XtrId.{XtrId}
use Rattle.ddt_map_register.specs.declared.fault.MapRegisterFault.{MapRegisterFault}
use Rattle.ddt_map_register.specs.declared.fault.MapRegisterFault.TheVariants.{Short, MessageType, Trailing}
use Rattle.ddt_foreign.specs.Grammar.{any_lcaf}
use Rattle.ddt_foreign.specs.Several.{several_at, SpellsSeveral, ComesAfter}
use Rattle.ddt_foreign.proofs.TakesLemmas.{IsSpelled, several_takes}
use Rattle.ddt_map_register.specs.RegisteredLocator.{locator_head, IsRegisteredLocator, SpellsLocator, locator_of, passed_at, locator_at, from_address}
use Rattle.ddt_map_register.specs.RegisteredLocator.SpellsLocator.{Plain, Passed}
use Rattle.ddt_map_register.specs.RegisterRecord.{RegisterRecord, record_head, SpellsRecord, record_of, record_at, from_eid}
use Rattle.ddt_map_register.specs.MapRegister.{Message, Ignored, first_byte, third_byte, head_bytes, id_bytes, FitsId, SpellsRegister, head_of, head_at, id_at, before_rest, message_of, message_in}
use Rattle.ddt_map_register.proofs.AgainLemmas.{front_again}

-- ---- a locator

locator_stands : (bytes : List ℕ) (a : Option Locator) → IsBytes bytes → 8 ≤ length bytes → IsBetween bytes 0 (locator_head (locator_of bytes a)) 6
locator_stands bytes a fits long =
    (byte_stands 0 bytes (omega (arith, long)) followed_by byte_stands 1 bytes (omega (arith, long)) followed_by byte_stands 2 bytes (omega (arith, long)) followed_by byte_stands 3 bytes (omega (arith, long)))
    followed_by number_stands 4 2 bytes fits (omega (arith, long))

locator_ranges : (bytes : List ℕ) (a : Option Locator) → IsBytes bytes → IsRegisteredLocator (locator_of bytes a)
locator_ranges bytes a fits = record {
  priority_fits = fits.at 0;
  weight_fits = fits.at 1;
  multicast_priority_fits = fits.at 2;
  multicast_weight_fits = fits.at 3;
  flags_fit = number_fits 2 (drop 4 bytes) (IsBytes-drop 4 bytes fits);
}

passed_takes : (bytes : List ℕ) (x : RegisteredLocator × List ℕ) → IsBytes bytes → big_number 2 (drop 6 bytes) ≡ 16387 → passed_at bytes ≡ Ok x → IsSpelled SpellsLocator bytes x.0 x.1
unfolding passed_at
passed_takes bytes x fits family e =
    let n = big_number 2 (drop 12 bytes) in
    guard_parts (ltb (length bytes) 14) Short _ x e λ a e₁.
    guard_parts (ltb (length bytes) (14 + n)) Short _ x e₁ λ b e₂.
    let long : 14 + n ≤ length bytes = ltb-false _ _ b in
    let inner = take n (drop 14 bytes) in
    let len : length inner ≡ n = length-take n (drop 14 bytes) ∙ omega (arith, length-drop 14 bytes, long) in
    let v = locator_of bytes None in
    let text = locator_head v ++ any_lcaf (slice_index bytes 8) (slice_index bytes 9) (slice_index bytes 10) (slice_index bytes 11) inner in
    let inner_stands = stands bytes inner 14 n (front_taken n (drop 14 bytes) (omega (arith, length-drop 14 bytes, long))) in
    let whole : IsBetween bytes 0 text (14 + n) =
    locator_stands bytes None fits (omega (arith, long))
    followed_by (known_stands 6 2 16387 bytes fits (omega (arith, long)) family
    followed_by (byte_stands 8 bytes (omega (arith, long)) followed_by byte_stands 9 bytes (omega (arith, long)) followed_by byte_stands 10 bytes (omega (arith, long)) followed_by byte_stands 11 bytes (omega (arith, long)))
    followed_by known_stands 12 2 (length inner) bytes fits (omega (arith, long)) (sym len)
    followed_by inner_stands) in
    let small : length inner < 2 ^ 16 = omega (arith, len, number_fits 2 (drop 12 bytes) (IsBytes-drop 12 bytes fits)) in
    let are_bytes = IsBytes-cons _ _ (fits.at 8) (IsBytes-cons _ _ (fits.at 9) (IsBytes-cons _ _ (fits.at 10) (IsBytes-cons _ _ (fits.at 11) (IsBytes-take n (drop 14 bytes) (IsBytes-drop 14 bytes fits))))) in
    let s : SpellsLocator text v = Passed (slice_index bytes 8) (slice_index bytes 9) (slice_index bytes 10) (slice_index bytes 11) inner (locator_ranges bytes None fits) refl are_bytes small refl in
    let made : IsSpelled SpellsLocator bytes v (drop (14 + n) bytes) = record { front = text; spelled = s; parts = whole.is; rest_fits = IsBytes-drop (14 + n) bytes fits } in
    subst (λ (y : RegisteredLocator × List ℕ). IsSpelled SpellsLocator bytes y.0 y.1) (ok_is {E = MapRegisterFault} (v, drop (14 + n) bytes) x e₂) made

plain_takes : (bytes : List ℕ) (x : RegisteredLocator × List ℕ) → IsBytes bytes → 8 ≤ length bytes
    → (in_words from_address (address_at (drop 6 bytes)) >>= λ a. Ok (locator_of bytes (Some a.0), drop a.1 (drop 6 bytes))) ≡ Ok x → IsSpelled SpellsLocator bytes x.0 x.1
plain_takes bytes x fits long e =
    let b = bind_ok (in_words from_address (address_at (drop 6 bytes))) (λ a. Ok (locator_of bytes (Some a.0), drop a.1 (drop 6 bytes))) x e in
    let a = b.0 in
    let r = address_takes (drop 6 bytes) a (IsBytes-drop 6 bytes fits) (words_ok from_address (address_at (drop 6 bytes)) a b.1) in
    let v = locator_of bytes (Some a.0) in
    let text = locator_head v ++ family_and_address a.0 in
    let whole : IsBetween bytes 0 text (6 + a.1) = locator_stands bytes (Some a.0) fits long followed_by stands bytes (family_and_address a.0) 6 a.1 r.takes in
    let s : SpellsLocator text v = Plain a.0 (locator_ranges bytes (Some a.0) fits) r.fits refl refl in
    let rest = drop a.1 (drop 6 bytes) in
    let made : IsSpelled SpellsLocator bytes v rest = record {
      front = text;
      spelled = s;
      parts = whole.is ∙ ap (λ (t : List ℕ). text ++ t) (sym (drop-drop a.1 6 bytes));
      rest_fits = IsBytes-drop a.1 (drop 6 bytes) (IsBytes-drop 6 bytes fits);
    } in
    subst (λ (y : RegisteredLocator × List ℕ). IsSpelled SpellsLocator bytes y.0 y.1) (ok_is {E = MapRegisterFault} (v, rest) x b.2) made

pub locator_takes : (bytes : List ℕ) (x : RegisteredLocator × List ℕ) → IsBytes bytes → locator_at bytes ≡ Ok x → IsSpelled SpellsLocator bytes x.0 x.1
unfolding locator_at
locator_takes bytes x fits e =
    guard_parts (ltb (length bytes) 8) Short _ x e λ a e₁.
    elim (chosen (eqb (big_number 2 (drop 6 bytes)) 16387) _ _ (Ok x) e₁) [
      | inl p ↦ passed_takes bytes x fits (eqb-true _ _ p.0) p.1
      | inr p ↦ plain_takes bytes x fits (ltb-false _ _ a) p.1
    ]

-- ---- a record

record_stands : (bytes p : List ℕ) (ls : List RegisteredLocator) → IsBytes bytes → 12 ≤ length bytes → length ls ≡ slice_index bytes 4 → IsBetween bytes 0 (record_head (slice_index bytes 5) (record_of bytes p ls)) 10
record_stands bytes p ls fits long count =
    number_stands 0 4 bytes fits (omega (arith, long))
    followed_by (known_byte 4 (length ls) bytes (omega (arith, long)) (sym count) followed_by byte_stands 5 bytes (omega (arith, long)))
    followed_by number_stands 6 2 bytes fits (omega (arith, long))
    followed_by number_stands 8 2 bytes fits (omega (arith, long))

pub record_takes : (bytes : List ℕ) (x : RegisterRecord × List ℕ) → IsBytes bytes → record_at bytes ≡ Ok x → IsSpelled SpellsRecord bytes x.0 x.1
unfolding record_at
record_takes bytes x fits e =
    let mask = slice_index bytes 5 in
    guard_parts (ltb (length bytes) 12) Short _ x e λ a e₁.
    bind_parts (in_words from_eid (eid_at mask (drop 10 bytes))) _ x e₁ λ eid read₁ e₂.
    bind_parts (several_at locator_at (slice_index bytes 4) (drop eid.1 (drop 10 bytes))) _ x e₂ λ ls read₂ e₃.
    let ten = IsBytes-drop 10 bytes fits in
    let r = eid_takes mask (drop 10 bytes) eid ten (words_ok from_eid (eid_at mask (drop 10 bytes)) eid read₁) in
    let l = several_takes SpellsLocator locator_at locator_takes (slice_index bytes 4) (drop eid.1 (drop 10 bytes)) ls (IsBytes-drop eid.1 (drop 10 bytes) ten) read₂ in
    let v = record_of bytes eid.0 ls.0 in
    let head = record_head mask v in
    let two : IsBetween bytes 0 (head ++ r.0) (10 + eid.1) = record_stands bytes eid.0 ls.0 fits (ltb-false _ _ a) l.1 followed_by stands bytes r.0 10 eid.1 r.1 in
    let text = head ++ r.0 ++ l.0.front in
    let whole : bytes ≡ text ++ ls.1 =
    two.is ∙ ap (λ (t : List ℕ). (head ++ r.0) ++ t) (sym (drop-drop eid.1 10 bytes) ∙ l.0.parts) ∙ sym (append_assoc (head ++ r.0) l.0.front ls.1) in
    let s : SpellsRecord text v = record {
      mask = mask;
      eid = r.0;
      locators = l.0.front;
      ttl_fits = number_fits 4 bytes fits;
      mask_fits = fits.at 5;
      flags_fit = number_fits 2 (drop 6 bytes) (IsBytes-drop 6 bytes fits);
      version_fits = number_fits 2 (drop 8 bytes) (IsBytes-drop 8 bytes fits);
      count_fits = omega (arith, l.1, fits.at 4);
      spells_eid = r.2;
      spells_locators = l.0.spelled;
      whole = refl;
    } in
    let made : IsSpelled SpellsRecord bytes v ls.1 = record { front = text; spelled = s; parts = whole; rest_fits = l.0.rest_fits } in
    subst (λ (y : RegisterRecord × List ℕ). IsSpelled SpellsRecord bytes y.0 y.1) (ok_is {E = MapRegisterFault} (v, ls.1) x e₃) made

-- ---- the head

bit_of : (n : ℕ) → n < 2 → bit (eqb n 1) ≡ n
bit_of zero h = refl
bit_of (suc zero) h = refl
bit_of (suc (suc n)) h = absurd (omega arith)

first_again : (b a c d : ℕ) → b / 16 ≡ 3 → a ≡ b / 8 % 2 → c ≡ b / 4 % 2 → d ≡ b / 2 % 2 → b ≡ 3 * 16 + a * 8 + c * 4 + d * 2 + b % 2
first_again b a c d type ha hc hd = omega arith

third_again : (b e t a r m : ℕ) → e ≡ b / 16 % 2 → t ≡ b / 8 % 2 → a ≡ b / 4 % 2 → r ≡ b / 2 % 2 → m ≡ b / 1 % 2 → b ≡ b / 32 * 32 + e * 16 + t * 8 + a * 4 + r * 2 + m
third_again b e t a r m he ht ha hr hm = omega arith

ignored_in : (bytes : List ℕ) → IsBytes bytes → Ignored
ignored_in bytes fits = record {
  last = slice_index bytes 0 % 2;
  reserved = slice_index bytes 1;
  first = slice_index bytes 2 / 32;
  r = eqb (slice_index bytes 2 / 2 % 2) 1;
  last_fits = omega arith;
  reserved_fits = fits.at 1;
  first_fits = omega (arith, fits.at 2);
}

head_stands : (bytes : List ℕ) (fits : IsBytes bytes) → 16 ≤ length bytes → slice_index bytes 0 / 16 ≡ 3 → IsBetween bytes 0 (head_bytes (ignored_in bytes fits) (head_of bytes)) 16
unfolding ignored_in
head_stands bytes fits long type =
    let h = head_of bytes in
    let x = slice_index bytes 0 in
    let y = slice_index bytes 2 in
    let one : x ≡ first_byte (x % 2) h = first_again x (bit h.proxy) (bit h.security) (bit h.has_id) type (bit_of (x / 8 % 2) (omega arith)) (bit_of (x / 4 % 2) (omega arith)) (bit_of (x / 2 % 2) (omega arith)) in
    let three : y ≡ third_byte (y / 32) (eqb (y / 2 % 2) 1) h =
    third_again y (bit h.eid_notify) (bit h.use_ttl) (bit h.merge) (bit (eqb (y / 2 % 2) 1)) (bit h.want_notify) (bit_of (y / 16 % 2) (omega arith)) (bit_of (y / 8 % 2) (omega arith)) (bit_of (y / 4 % 2) (omega arith)) (bit_of (y / 2 % 2) (omega arith)) (bit_of (y / 1 % 2) (omega arith)) in
    (known_byte 0 (first_byte (x % 2) h) bytes (omega arith) one followed_by byte_stands 1 bytes (omega arith)
    followed_by known_byte 2 (third_byte (y / 32) (eqb (y / 2 % 2) 1) h) bytes (omega arith) three followed_by byte_stands 3 bytes (omega arith))
    followed_by number_stands 4 8 bytes fits (omega arith)
    followed_by (byte_stands 12 bytes (omega arith) followed_by byte_stands 13 bytes (omega arith))
    followed_by number_stands 14 2 bytes fits (omega arith)

head_parts : {P : Type 0} (bytes : List ℕ) (h : RegisterHead) → head_at bytes ≡ Ok h → (slice_index bytes 0 / 16 ≡ 3 → 16 + (head_of bytes).code_len ≤ length bytes → head_of bytes ≡ h → P) → P
unfolding head_at
head_parts bytes h e k =
    guard_parts (ltb (length bytes) 16) Short _ h e λ a e₁.
    guard_parts (not (eqb (slice_index bytes 0 / 16) 3)) MessageType _ h e₁ λ b e₂.
    guard_parts (ltb (length bytes) (16 + big_number 2 (drop 14 bytes))) Short _ h e₂ λ c e₃.
    k (eqb-true _ _ (not-false _ b)) (ltb-false _ _ c) (ok_is {E = MapRegisterFault} (head_of bytes) h e₃)

-- what follows so many records isn't longer
pub rest_is_short : (n : ℕ) (bytes rest : List ℕ) → IsBytes bytes → ComesAfter record_at n bytes rest → length rest ≤ length bytes
rest_is_short n bytes rest fits (records, e) =
    let s = several_takes SpellsRecord record_at record_takes n bytes (records, rest) fits e in
    omega (arith, ap length s.0.parts, length-append s.0.front rest)

-- ---- what comes after the records

sixteen_and_eight : (bytes : List ℕ) → IsBytes bytes → length bytes ≡ 24 → bytes ≡ to_be_bytes w128 (big_number 16 bytes) ++ to_be_bytes w64 (big_number 8 (drop 16 bytes))
sixteen_and_eight bytes fits len =
    let two = number_stands 0 16 bytes fits (omega arith) followed_by number_stands 16 8 bytes fits (omega arith) in
    let text = to_be_bytes w128 (big_number 16 bytes) ++ to_be_bytes w64 (big_number 8 (drop 16 bytes)) in
    let nothing : drop 24 bytes ≡ [] = drop_all 24 bytes (omega arith) in
    two.is ∙ ap (λ (t : List ℕ). text ++ t) nothing ∙ append-nil text

id_takes : (has : Bool) (bytes : List ℕ) (id : Option XtrId) → IsBytes bytes → id_at has bytes ≡ Ok id → FitsId has id × (bytes ≡ id_bytes id)
unfolding id_at
id_takes true bytes id fits e =
    let made : Option XtrId = Some (record { xtr = big_number 16 bytes; site = big_number 8 (drop 16 bytes) }) in
    guard_parts (ltb (length bytes) 24) Short _ id e λ a e₁.
    elim (chosen (eqb (length bytes) 24) (Ok made) (Err Trailing) (Ok id) e₁) [
      | inl p ↦
          let all : FitsId true made × (bytes ≡ id_bytes made) =
          ((refl, number_fits 16 bytes fits, number_fits 8 (drop 16 bytes) (IsBytes-drop 16 bytes fits)), sixteen_and_eight bytes fits (eqb-true _ _ p.0)) in
          subst (λ (y : Option XtrId). FitsId true y × (bytes ≡ id_bytes y)) (ok_is {E = MapRegisterFault} made id p.1) all
      | inr p ↦ absurd cc
    ]
id_takes false bytes id fits e =
    elim (chosen (eqb (length bytes) 0) (Ok None) (Err Trailing) (Ok id) e) [
      | inl p ↦
          let all : FitsId false None × (bytes ≡ id_bytes None) = (refl, nil_from_length bytes (eqb-true _ _ p.0)) in
          subst (λ (y : Option XtrId). FitsId false y × (bytes ≡ id_bytes y)) (ok_is {E = MapRegisterFault} None id p.1) all
      | inr p ↦ absurd cc
    ]

-- ---- the whole

-- a datagram of which all parts were read
all_spelled : (bytes : List ℕ) (rs : List RegisterRecord) (rest : List ℕ) (id : Option XtrId) → IsBytes bytes → slice_index bytes 0 / 16 ≡ 3 → 16 + (head_of bytes).code_len ≤ length bytes
    → IsSpelled (SpellsSeveral SpellsRecord) (drop (head_of bytes).code_len (drop 16 bytes)) rs rest × (length rs ≡ (head_of bytes).count) → FitsId (head_of bytes).has_id id × (rest ≡ id_bytes id)
    → SpellsRegister bytes (message_of bytes (head_of bytes) rs rest id)
all_spelled bytes rs rest id fits type long l i =
    let h = head_of bytes in
    let ignored_ = ignored_in bytes fits in
    let head = head_bytes ignored_ h in
    let code = take h.code_len (drop 16 bytes) in
    let begins = head_stands bytes fits (omega (arith, long)) type in
    let taken = front_taken h.code_len (drop 16 bytes) (omega (arith, length-drop 16 bytes, long)) in
    let two : IsBetween bytes 0 (head ++ code) (16 + h.code_len) = begins followed_by stands bytes code 16 h.code_len taken in
    let after : drop h.code_len (drop 16 bytes) ≡ l.0.front ++ id_bytes id = l.0.parts ∙ ap (λ (t : List ℕ). l.0.front ++ t) i.1 in
    let records : before_rest (drop h.code_len (drop 16 bytes)) rest ≡ l.0.front = ap (λ (t : List ℕ). before_rest t rest) l.0.parts ∙ front_again l.0.front rest in
    let front : take 16 bytes ≡ head = ap (take 16) begins.is in
    record {
      ignored = ignored_;
      nonce_fits = number_fits 8 (drop 4 bytes) (IsBytes-drop 4 bytes fits);
      key_fits = fits.at 12;
      algorithm_fits = fits.at 13;
      code_is_bytes = IsBytes-take h.code_len (drop 16 bytes) (IsBytes-drop 16 bytes fits);
      code_len_is = sym taken.len;
      code_len_fits = number_fits 2 (drop 14 bytes) (IsBytes-drop 14 bytes fits);
      count_is = sym l.1;
      count_fits = fits.at 3;
      spells_records = subst (λ (t : List ℕ). SpellsSeveral SpellsRecord t rs) (sym records) l.0.spelled;
      id_fits = i.0;
      whole = two.is ∙ ap (λ (t : List ℕ). (head ++ code) ++ t) (sym (drop-drop h.code_len 16 bytes) ∙ after) ∙ sym (append_assoc (head ++ code) l.0.front (id_bytes id)) ∙ ap (λ (t : List ℕ). head ++ code ++ t ++ id_bytes id) (sym records);
      covers = ap (λ (t : List ℕ). t ++ replicate (length code) 0 ++ drop h.code_len (drop 16 bytes)) front ∙ ap (λ (t : List ℕ). head ++ replicate (length code) 0 ++ t) (after ∙ ap (λ (t : List ℕ). t ++ id_bytes id) (sym records));
    }

pub message_takes : (bytes : List ℕ) (v : Message) → IsBytes bytes → message_in bytes ≡ Ok v → SpellsRegister bytes v
unfolding message_in
message_takes bytes v fits e =
    bind_parts (head_at bytes) _ v e λ h read₁ e₁.
    bind_parts (several_at record_at h.count (drop h.code_len (drop 16 bytes))) _ v e₁ λ rs read₂ e₂.
    bind_parts (id_at h.has_id rs.1) _ v e₂ λ id read₃ e₃.
    head_parts bytes h read₁ λ type long same.
    let all : (x : RegisterHead) → head_of bytes ≡ x → several_at record_at x.count (drop x.code_len (drop 16 bytes)) ≡ Ok rs → id_at x.has_id rs.1 ≡ Ok id → SpellsRegister bytes (message_of bytes x rs.0 rs.1 id) =
    λ x is r₂ r₃.
    let r : several_at record_at (head_of bytes).count (drop (head_of bytes).code_len (drop 16 bytes)) ≡ Ok rs = ap (λ (y : RegisterHead). several_at record_at y.count (drop y.code_len (drop 16 bytes))) is ∙ r₂ in
    let l = several_takes SpellsRecord record_at record_takes (head_of bytes).count (drop (head_of bytes).code_len (drop 16 bytes)) rs (IsBytes-drop (head_of bytes).code_len (drop 16 bytes) (IsBytes-drop 16 bytes fits)) r in
    let i = id_takes (head_of bytes).has_id rs.1 id l.0.rest_fits (ap (λ (y : RegisterHead). id_at y.has_id rs.1) is ∙ r₃) in
    subst (λ (y : RegisterHead). SpellsRegister bytes (message_of bytes y rs.0 rs.1 id)) is (all_spelled bytes rs.0 rs.1 id fits type long l i) in
    subst (SpellsRegister bytes) (ok_is {E = MapRegisterFault} (message_of bytes h rs.0 rs.1 id) v e₃) (all h same read₂ read₃)

-- what was read
pub message_found : (bytes : List ℕ) (r : Result Message MapRegisterFault) → IsBytes bytes → r ≡ message_in bytes → IfOk r (λ v. SpellsRegister bytes v)
message_found bytes (Ok v) fits e = message_takes bytes v fits (sym e)
message_found bytes (Err f) fits e = tt
