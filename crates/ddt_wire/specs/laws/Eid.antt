-- An EID that is read is spelled so, what is spelled is read again, and what is written spells its prefix.
use Rattle.std.proofs.Common.{◌≡◌, ℕ, zero, suc, ◌+◌, ◌^◌, ◌<◌, ◌≤◌, Bool, true, false, cond, ltb, eqb, List, [], ◌∷◌, ◌++◌, length, take, drop, Result, Ok, Err, refl, sym, ap, subst, ◌∙◌, arith, inl, inr, length-append}
use Rattle.std.specs.Prelude.{◌||◌, ◌↔◌, not, slice_index, IfOk}
use Rattle.std.specs.Result.{IsErr}
use Rattle.std.proofs.Math.Dec.{eqb-suc-zero}
use Rattle.std.specs.Int.{w16, w32, to_be_bytes}
use Rattle.std.proofs.lemmas.Bool.{ltb-false, le-ltb, eqb-true, not-false}
use Rattle.byteorder.specs.Endian.{big_number}
use Rattle.byteorder.specs.Numbers.{big_number-reads_back}
use Rattle.ddt_path.specs.declared.locator.Locator.{Locator}
use Rattle.ddt_path.specs.declared.locator.Locator.TheVariants.{V4, V6}
use Rattle.ddt_path.specs.declared.form.Form.{Form}
use Rattle.ddt_path.specs.declared.form.Form.TheVariants.{Range, Block}
use Rattle.ddt_path.specs.declared.form.PrefixFault.{PrefixFault}
use Rattle.ddt_path.specs.declared.form.PrefixFault.TheVariants as prefix_fault
use Rattle.ddt_path.specs.Path.{path, digits, are_zero, address_width, prefix_of, IsForm}
use Rattle.ddt_wire.specs.declared.eid.EidFault.{EidFault}
use Rattle.ddt_wire.specs.declared.eid.EidFault.TheVariants.{Short, Lcaf, MaskLength}
use Rattle.ddt_path.specs.Steps.{◌>>=◌, in_words, IsBytes}
use Rattle.ddt_wire.specs.Address.{afi, family_and_address, IsAddress, address_at}
use Rattle.ddt_wire.specs.Eid.{from_address, from_prefix, block_at, inside_at, lcaf_at, eid_at, has_length, instance_head, instance_lcaf, IsInstance, SpellsEid, Plain, Inside, Instances, written_form, form_mask_len, written_eid, written_mask_len}
use Rattle.ddt_wire.specs.laws.Statements.{IsPrefix}
use Rattle.ddt_path.specs.laws.Step.{bind_ok, words_ok, guard_ok, held_ok, chosen, ok_is, err_not_ok, err_unless}
use Rattle.ddt_path.specs.laws.Byte.{HasFront, HasFront-take, HasFront-fits, IsBetween, ◌followed_by◌, stands, number_stands, known_stands, byte_stands, known_byte, number_fits, IsBytes-drop, IsBytes-number, ◌beside◌, two_bytes}
use Rattle.ddt_wire.specs.laws.Addresses.{address_takes, address_again, address_is_bytes}
use Rattle.ddt_wire.specs.laws.CutPrefix.{form_of-named}

-- ---- what is read is spelled so

-- what was read of a block
record IsBlock (iid mask : ℕ) (bytes p : List ℕ) (n : ℕ) : Type 0 where
  a : Locator
  takes : HasFront bytes (family_and_address a) n
  fits : IsAddress a
  within : mask ≤ address_width a
  is : p ≡ path (Block iid a mask)

block_takes : (iid mask : ℕ) (bytes : List ℕ) (x : List ℕ × ℕ) → IsBytes bytes → block_at iid mask bytes ≡ Ok x → IsBlock iid mask bytes x.0 x.1
unfolding block_at
block_takes iid mask bytes x fits e =
    let b = bind_ok (in_words from_address (address_at bytes)) (λ a. cond (ltb (address_width a.0) mask) (Err MaskLength) (Ok (path (Block iid a.0 mask), a.1))) x e in
    let r = address_takes bytes b.0 fits (words_ok from_address (address_at bytes) b.0 b.1) in
    let g = guard_ok (ltb (address_width b.0.0) mask) MaskLength (Ok (path (Block iid b.0.0 mask), b.0.1)) x b.2 in
    let made : IsBlock iid mask bytes (path (Block iid b.0.0 mask)) b.0.1 = record { a = b.0.0; takes = r.takes; fits = r.fits; within = ltb-false _ _ g.0; is = refl } in
    subst (λ (y : List ℕ × ℕ). IsBlock iid mask bytes y.0 y.1) (ok_is {E = EidFault} (path (Block iid b.0.0 mask), b.0.1) x g.1) made

-- what was read of an EID
abbrev pub IsEid : ℕ → List ℕ → List ℕ → ℕ → Type 0
IsEid mask bytes p n = (text : List ℕ) × HasFront bytes text n × SpellsEid mask text p

-- the fields of an LCAF before the AFI inside it
head_stands : (bytes : List ℕ) (len : ℕ) → IsBytes bytes → 14 ≤ length bytes → big_number 2 bytes ≡ 16387 → slice_index bytes 4 ≡ 2 → big_number 2 (drop 6 bytes) ≡ 4 + len
    → IsBetween bytes 0 (instance_head (slice_index bytes 2) (slice_index bytes 3) (slice_index bytes 5) (big_number 4 (drop 8 bytes)) len) 12
head_stands bytes len fits long family type length_is =
    known_stands 0 2 16387 bytes fits (omega arith) family
    followed_by (byte_stands 2 bytes (omega arith) followed_by byte_stands 3 bytes (omega arith) followed_by known_byte 4 2 bytes (omega arith) type followed_by byte_stands 5 bytes (omega arith))
    followed_by known_stands 6 2 (4 + len) bytes fits (omega arith) length_is
    followed_by number_stands 8 4 bytes fits (omega arith)

is_instance : (bytes : List ℕ) → IsBytes bytes → IsInstance (slice_index bytes 2) (slice_index bytes 3) (slice_index bytes 5) (big_number 4 (drop 8 bytes))
is_instance bytes fits = record { reserved_fits = fits.at 2; flags_fits = fits.at 3; mask_fits = fits.at 5; iid_fits = number_fits 4 (drop 8 bytes) (IsBytes-drop 8 bytes fits) }

-- what is known of an LCAF whose type and length are right
record IsLcaf (bytes : List ℕ) : Type 0 where
  fits : IsBytes bytes
  long : 14 ≤ length bytes
  family : big_number 2 bytes ≡ 16387
  type : slice_index bytes 4 ≡ 2
  fits_inside : has_length (big_number 2 (drop 12 bytes)) (big_number 2 (drop 6 bytes)) ≡ true

or_left : (b : Bool) → (b || false) ≡ true → b ≡ true
or_left true e = refl
or_left false e = e

range_len : (inner len : ℕ) → inner ≡ 0 → has_length inner len ≡ true → len ≡ 6
range_len inner len e h = eqb-true len 6 (or_left (eqb len 6) (sym (ap (λ (i : ℕ). has_length i len) e) ∙ h))

block_len : (a : Locator) (inner len : ℕ) → inner ≡ afi a → has_length inner len ≡ true → len ≡ 4 + length (family_and_address a)
block_len (V4 x) inner len e h = eqb-true len 10 (or_left (eqb len 10) (sym (ap (λ (i : ℕ). has_length i len) e) ∙ h))
block_len (V6 x) inner len e h = eqb-true len 22 (sym (ap (λ (i : ℕ). has_length i len) e) ∙ h)

inner_afi : (a : Locator) (bytes : List ℕ) (n : ℕ) → HasFront bytes (family_and_address a) n → big_number 2 bytes ≡ afi a
inner_afi (V4 x) bytes n t = ap (big_number 2) t.parts
inner_afi (V6 x) bytes n t = ap (big_number 2) t.parts

lcaf_stands : (bytes inner : List ℕ) (n : ℕ) → IsLcaf bytes → big_number 2 (drop 6 bytes) ≡ 4 + length inner → IsBetween bytes 12 inner n → 12 + length inner ≡ n
    → HasFront bytes (instance_lcaf (slice_index bytes 2) (slice_index bytes 3) (slice_index bytes 5) (big_number 4 (drop 8 bytes)) inner) n
lcaf_stands bytes inner n h len i e =
    let head = instance_head (slice_index bytes 2) (slice_index bytes 3) (slice_index bytes 5) (big_number 4 (drop 8 bytes)) (length inner) in
    record { parts = (head_stands bytes (length inner) h.fits h.long h.family h.type len followed_by i).is; len = length-append head inner ∙ e }

-- ---- a range of instances

record IsRange (iid len : ℕ) (p : List ℕ) : Type 0 where
  within : len ≤ 32
  zeros : are_zero (drop len (digits 32 iid)) ≡ true
  is : p ≡ path (Range iid len)

range_made : (iid len : ℕ) (p : List ℕ) → prefix_of (Range iid len) ≡ Ok p → IsRange iid len p
range_made iid len p e =
    let g = guard_ok (ltb 32 len) prefix_fault.Length (cond (are_zero (drop len (digits 32 iid))) (Ok (path (Range iid len))) (Err prefix_fault.TailNotZero)) p e in
    let z = held_ok (are_zero (drop len (digits 32 iid))) prefix_fault.TailNotZero (Ok (path (Range iid len))) p g.1 in
    record { within = ltb-false _ _ g.0; zeros = z.0; is = sym (ok_is {E = PrefixFault} (path (Range iid len)) p z.1) }

range_takes : (mask : ℕ) (bytes : List ℕ) (x : List ℕ × ℕ) → IsLcaf bytes → big_number 2 (drop 12 bytes) ≡ 0
    → (in_words from_prefix (prefix_of (Range (big_number 4 (drop 8 bytes)) (slice_index bytes 5))) >>= λ p. Ok (p, 14)) ≡ Ok x → IsEid mask bytes x.0 x.1
range_takes mask bytes x h zero_afi e =
    let iid = big_number 4 (drop 8 bytes) in
    let b = bind_ok (in_words from_prefix (prefix_of (Range iid (slice_index bytes 5)))) (λ p. Ok (p, 14)) x e in
    let r = range_made iid (slice_index bytes 5) b.0 (words_ok from_prefix (prefix_of (Range iid (slice_index bytes 5))) b.0 b.1) in
    let i = known_stands 12 2 0 bytes h.fits h.long zero_afi in
    let t = lcaf_stands bytes (to_be_bytes w16 0) 14 h (range_len (big_number 2 (drop 12 bytes)) (big_number 2 (drop 6 bytes)) zero_afi h.fits_inside) i refl in
    let made : IsEid mask bytes b.0 14 = (instance_lcaf (slice_index bytes 2) (slice_index bytes 3) (slice_index bytes 5) iid (to_be_bytes w16 0), t, Instances (slice_index bytes 2) (slice_index bytes 3) (slice_index bytes 5) iid (is_instance bytes h.fits) r.within r.zeros refl r.is) in
    subst (λ (y : List ℕ × ℕ). IsEid mask bytes y.0 y.1) (ok_is {E = EidFault} (b.0, 14) x b.2) made

-- ---- a block inside an LCAF

inner_block_takes : (mask : ℕ) (bytes : List ℕ) (x : List ℕ × ℕ) → IsLcaf bytes
    → (block_at (big_number 4 (drop 8 bytes)) mask (drop 12 bytes) >>= λ b. Ok (b.0, 12 + b.1)) ≡ Ok x → IsEid mask bytes x.0 x.1
inner_block_takes mask bytes x h e =
    let iid = big_number 4 (drop 8 bytes) in
    let b = bind_ok (block_at iid mask (drop 12 bytes)) (λ y. Ok (y.0, 12 + y.1)) x e in
    let r = block_takes iid mask (drop 12 bytes) b.0 (IsBytes-drop 12 bytes h.fits) b.1 in
    let i = stands bytes (family_and_address r.a) 12 b.0.1 r.takes in
    let len = block_len r.a (big_number 2 (drop 12 bytes)) (big_number 2 (drop 6 bytes)) (inner_afi r.a (drop 12 bytes) b.0.1 r.takes) h.fits_inside in
    let t = lcaf_stands bytes (family_and_address r.a) (12 + b.0.1) h len i (ap (λ (n : ℕ). 12 + n) r.takes.len) in
    let made : IsEid mask bytes b.0.0 (12 + b.0.1) = (instance_lcaf (slice_index bytes 2) (slice_index bytes 3) (slice_index bytes 5) iid (family_and_address r.a), t, Inside (slice_index bytes 2) (slice_index bytes 3) (slice_index bytes 5) iid r.a (is_instance bytes h.fits) r.fits r.within refl r.is) in
    subst (λ (y : List ℕ × ℕ). IsEid mask bytes y.0 y.1) (ok_is {E = EidFault} (b.0.0, 12 + b.0.1) x b.2) made

inside_takes : (mask : ℕ) (bytes : List ℕ) (x : List ℕ × ℕ) → IsLcaf bytes → inside_at mask bytes ≡ Ok x → IsEid mask bytes x.0 x.1
unfolding inside_at
inside_takes mask bytes x h e =
    let range : Result (List ℕ × ℕ) EidFault = in_words from_prefix (prefix_of (Range (big_number 4 (drop 8 bytes)) (slice_index bytes 5))) >>= λ p. Ok (p, 14) in
    let block : Result (List ℕ × ℕ) EidFault = block_at (big_number 4 (drop 8 bytes)) mask (drop 12 bytes) >>= λ b. Ok (b.0, 12 + b.1) in
    elim (chosen (eqb (big_number 2 (drop 12 bytes)) 0) range block (Ok x) e) [
      | inl p ↦ range_takes mask bytes x h (eqb-true _ _ p.0) p.1
      | inr p ↦ inner_block_takes mask bytes x h p.1
    ]

lcaf_takes : (mask : ℕ) (bytes : List ℕ) (x : List ℕ × ℕ) → IsBytes bytes → big_number 2 bytes ≡ 16387 → lcaf_at mask bytes ≡ Ok x → IsEid mask bytes x.0 x.1
unfolding lcaf_at
lcaf_takes mask bytes x fits family e =
    let right = has_length (big_number 2 (drop 12 bytes)) (big_number 2 (drop 6 bytes)) in
    let last = cond (not right) (Err Lcaf) (inside_at mask bytes) in
    let third = cond (ltb (length bytes) 14) (Err Short) last in
    let a = guard_ok (ltb (length bytes) 8) Short (cond (not (eqb (slice_index bytes 4) 2)) (Err Lcaf) third) x e in
    let b = guard_ok (not (eqb (slice_index bytes 4) 2)) Lcaf third x a.1 in
    let c = guard_ok (ltb (length bytes) 14) Short last x b.1 in
    let d = guard_ok (not right) Lcaf (inside_at mask bytes) x c.1 in
    let h : IsLcaf bytes = record { fits = fits; long = ltb-false _ _ c.0; family = family; type = eqb-true _ _ (not-false _ b.0); fits_inside = not-false right d.0 } in
    inside_takes mask bytes x h d.1

pub eid_takes : (mask : ℕ) (bytes : List ℕ) (x : List ℕ × ℕ) → IsBytes bytes → eid_at mask bytes ≡ Ok x → IsEid mask bytes x.0 x.1
unfolding eid_at
eid_takes mask bytes x fits e =
    let g = guard_ok (ltb (length bytes) 2) Short (cond (eqb (big_number 2 bytes) 16387) (lcaf_at mask bytes) (block_at 0 mask bytes)) x e in
    elim (chosen (eqb (big_number 2 bytes) 16387) (lcaf_at mask bytes) (block_at 0 mask bytes) (Ok x) g.1) [
      | inl p ↦ lcaf_takes mask bytes x fits (eqb-true _ _ p.0) p.1
      | inr p ↦
          let r = block_takes 0 mask bytes x fits p.1 in
          (family_and_address r.a, r.takes, Plain r.a r.fits r.within refl r.is)
    ]

-- ---- what is spelled is read again

block_again : (iid mask : ℕ) (a : Locator) (rest : List ℕ) → IsAddress a → mask ≤ address_width a → block_at iid mask (family_and_address a ++ rest) ≡ Ok (path (Block iid a mask), length (family_and_address a))
unfolding block_at
block_again iid mask a rest fits le =
    let within : ltb (address_width a) mask ≡ false = le-ltb (address_width a) mask le in
    rw (address_again a rest fits, within) refl

pub plain_number : (a : Locator) (rest : List ℕ) → big_number 2 (family_and_address a ++ rest) ≡ afi a
plain_number (V4 x) rest = refl
plain_number (V6 x) rest = refl

pub plain_long : (a : Locator) (rest : List ℕ) → 6 ≤ length (family_and_address a ++ rest)
plain_long (V4 x) rest = omega arith
plain_long (V6 x) rest = omega arith

pub not_lcaf : (a : Locator) → eqb (afi a) 16387 ≡ false
not_lcaf (V4 x) = refl
not_lcaf (V6 x) = refl

plain_again : (mask : ℕ) (a : Locator) (rest : List ℕ) → IsAddress a → mask ≤ address_width a → eid_at mask (family_and_address a ++ rest) ≡ Ok (path (Block 0 a mask), length (family_and_address a))
unfolding eid_at
plain_again mask a rest fits le =
    let long = plain_long a rest in
    let two : ltb (length (family_and_address a ++ rest)) 2 ≡ false = le-ltb _ _ (omega arith) in
    rw (two, plain_number a rest, not_lcaf a, block_again 0 mask a rest fits le) refl

pub afi_some : (a : Locator) → eqb (afi a) 0 ≡ false
afi_some (V4 x) = refl
afi_some (V6 x) = refl

-- an LCAF, by what its fields read as
lcaf_read : (mask : ℕ) (bytes : List ℕ) → 14 ≤ length bytes → big_number 2 bytes ≡ 16387 → slice_index bytes 4 ≡ 2 → has_length (big_number 2 (drop 12 bytes)) (big_number 2 (drop 6 bytes)) ≡ true
    → eid_at mask bytes ≡ inside_at mask bytes
unfolding eid_at lcaf_at
lcaf_read mask bytes long family type right =
    let two : ltb (length bytes) 2 ≡ false = le-ltb _ _ (omega arith) in
    let eight : ltb (length bytes) 8 ≡ false = le-ltb _ _ (omega arith) in
    let fourteen : ltb (length bytes) 14 ≡ false = le-ltb _ _ long in
    rw (two, family, eight, type, fourteen, right) refl

inside_read : (mask iid len : ℕ) (bytes : List ℕ) → big_number 4 (drop 8 bytes) ≡ iid → slice_index bytes 5 ≡ len → big_number 2 (drop 12 bytes) ≡ 0 → len ≤ 32 → are_zero (drop len (digits 32 iid)) ≡ true
    → inside_at mask bytes ≡ Ok (path (Range iid len), 14)
unfolding inside_at
inside_read mask iid len bytes number mask_is family le zeros =
    let within : ltb 32 len ≡ false = le-ltb 32 len le in
    rw (family, number, mask_is, within, zeros) refl

inside_block_read : (mask iid : ℕ) (bytes : List ℕ) (a : Locator) (rest : List ℕ) → big_number 4 (drop 8 bytes) ≡ iid → drop 12 bytes ≡ family_and_address a ++ rest → IsAddress a → mask ≤ address_width a
    → inside_at mask bytes ≡ Ok (path (Block iid a mask), 12 + length (family_and_address a))
unfolding inside_at
inside_block_read mask iid bytes a rest number tail fits le =
    let some : eqb (afi a) 0 ≡ false = afi_some a in
    rw (number, tail, plain_number a rest, some, block_again iid mask a rest fits le) refl

lcaf_again : (mask r f m iid i : ℕ) (inner rest : List ℕ) → 2 ≤ length inner → length inner ≤ 18 → big_number 2 (inner ++ rest) ≡ i → has_length i (4 + length inner) ≡ true
    → eid_at mask (instance_lcaf r f m iid inner ++ rest) ≡ inside_at mask (instance_lcaf r f m iid inner ++ rest)
lcaf_again mask r f m iid i inner rest some few family right =
    let bytes = instance_lcaf r f m iid inner ++ rest in
    let long : 14 ≤ length bytes = omega (arith, length-append inner rest) in
    let small : 4 + length inner < 256 ^ 2 = omega arith in
    let len : big_number 2 (drop 6 bytes) ≡ 4 + length inner = big_number-reads_back 2 (4 + length inner) (to_be_bytes w32 iid ++ (inner ++ rest)) small in
    lcaf_read mask bytes long refl refl (ap (λ (n : ℕ). has_length n (big_number 2 (drop 6 bytes))) family ∙ ap (has_length i) len ∙ right)

range_again : (mask r f len iid : ℕ) (rest : List ℕ) → iid < 2 ^ 32 → len ≤ 32 → are_zero (drop len (digits 32 iid)) ≡ true
    → eid_at mask (instance_lcaf r f len iid (to_be_bytes w16 0) ++ rest) ≡ Ok (path (Range iid len), 14)
range_again mask r f len iid rest lt le zeros =
    lcaf_again mask r f len iid 0 (to_be_bytes w16 0) rest (omega arith) (omega arith) refl refl
    ∙ inside_read mask iid len (instance_lcaf r f len iid (to_be_bytes w16 0) ++ rest) (big_number-reads_back 4 iid (to_be_bytes w16 0 ++ rest) lt) refl refl le zeros

address_lengths : (a : Locator) → (6 ≤ length (family_and_address a)) × (length (family_and_address a) ≤ 18)
address_lengths (V4 x) = (omega arith, omega arith)
address_lengths (V6 x) = (omega arith, omega arith)

right_length : (a : Locator) → has_length (afi a) (4 + length (family_and_address a)) ≡ true
right_length (V4 x) = refl
right_length (V6 x) = refl

inner_again : (mask r f m iid : ℕ) (a : Locator) (rest : List ℕ) → iid < 2 ^ 32 → IsAddress a → mask ≤ address_width a
    → eid_at mask (instance_lcaf r f m iid (family_and_address a) ++ rest) ≡ Ok (path (Block iid a mask), length (instance_lcaf r f m iid (family_and_address a)))
inner_again mask r f m iid a rest lt fits le =
    let inner = family_and_address a in
    let n = address_lengths a in
    let len : 12 + length inner ≡ length (instance_lcaf r f m iid inner) = omega arith in
    lcaf_again mask r f m iid (afi a) inner rest (omega arith) n.1 (plain_number a rest) (right_length a)
    ∙ inside_block_read mask iid (instance_lcaf r f m iid inner ++ rest) a rest (big_number-reads_back 4 iid (inner ++ rest) lt) refl fits le
    ∙ ap (λ (k : ℕ). Ok (path (Block iid a mask), k)) len

pub eid_again : (mask : ℕ) (eid p rest : List ℕ) → SpellsEid mask eid p → eid_at mask (eid ++ rest) ≡ Ok (p, length eid)
eid_again mask eid p rest (Plain a fits le is value) = rw (is, value) (plain_again mask a rest fits le)
eid_again mask eid p rest (Inside r f m iid a h fits le is value) = rw (is, value) (inner_again mask r f m iid a rest h.iid_fits fits le)
eid_again mask eid p rest (Instances r f len iid h le zeros is value) = rw (is, value) (range_again mask r f len iid rest h.iid_fits le zeros)

-- an EID has its AFI at least
pub eid_some : (mask : ℕ) (eid p : List ℕ) → SpellsEid mask eid p → 2 ≤ length eid
eid_some mask eid p (Plain a fits le is value) = rw is (omega arith)
eid_some mask eid p (Inside r f m iid a h fits le is value) = rw is (omega arith)
eid_some mask eid p (Instances r f len iid h le zeros is value) = rw is (omega arith)

-- ---- written

no_flags : (mask iid : ℕ) → mask < 256 → iid < 2 ^ 32 → IsInstance 0 0 mask iid
no_flags mask iid m i = record { reserved_fits = omega arith; flags_fits = omega arith; mask_fits = m; iid_fits = i }

form_spells : (form : Form) → IsForm form → SpellsEid (form_mask_len form) (written_form form) (path form)
form_spells (Range iid len) h = Instances 0 0 len iid (no_flags len iid (omega (arith, h.1)) h.0) h.1 h.2 refl refl
form_spells (Block zero a len) h = Plain a h.1 h.2 refl refl
form_spells (Block (suc n) a len) h = Inside 0 0 0 (suc n) a (no_flags 0 (suc n) (omega arith) h.0) h.1 h.2 (rw (eqb-suc-zero n) refl) refl

pub eid_spells : (p : List ℕ) → IsPrefix p → SpellsEid (written_mask_len p) (written_eid p) p
eid_spells p (form, h, e) = rw (form_of-named p form e h) (subst (λ (q : List ℕ). SpellsEid (form_mask_len form) (written_form form) q) e (form_spells form h))

mask_small : (form : Form) → IsForm form → form_mask_len form < 256
mask_small (Range iid len) h = omega arith
mask_small (Block iid (V4 a) len) h = omega (arith, h.2)
mask_small (Block iid (V6 a) len) h = omega (arith, h.2)

pub mask_len_fits : (p : List ℕ) → IsPrefix p → written_mask_len p < 256
mask_len_fits p (form, h, e) = rw (form_of-named p form e h) (mask_small form h)

-- ---- only bytes, and the laws

pub four : (a b c d : ℕ) → a < 256 → b < 256 → c < 256 → d < 256 → IsBytes (a ∷ b ∷ c ∷ d ∷ [])
four a b c d ha hb hc hd = two_bytes a b ha hb beside two_bytes c d hc hd

lcaf_is_bytes : (r f m iid : ℕ) (inner : List ℕ) → IsInstance r f m iid → IsBytes inner → IsBytes (instance_lcaf r f m iid inner)
lcaf_is_bytes r f m iid inner h i =
    IsBytes-number 2 16387 beside four r f 2 m h.reserved_fits h.flags_fits (omega arith) h.mask_fits
    beside IsBytes-number 2 (4 + length inner) beside IsBytes-number 4 iid beside i

pub eid_is_bytes : (mask : ℕ) (bytes p : List ℕ) → SpellsEid mask bytes p → IsBytes bytes
eid_is_bytes mask bytes p (Plain a fits le is value) = subst IsBytes (sym is) (address_is_bytes a)
eid_is_bytes mask bytes p (Inside r f m iid a h fits le is value) = subst IsBytes (sym is) (lcaf_is_bytes r f m iid (family_and_address a) h (address_is_bytes a))
eid_is_bytes mask bytes p (Instances r f len iid h le zeros is value) = subst IsBytes (sym is) (lcaf_is_bytes r f len iid (to_be_bytes w16 0) h (IsBytes-number 2 0))

pub one_eid : (mask : ℕ) (bytes p q : List ℕ) → SpellsEid mask bytes p → SpellsEid mask bytes q → p ≡ q
one_eid mask bytes p q a b = ap (λ (x : List ℕ × ℕ). x.0) (ok_is {E = EidFault} (p, length bytes) (q, length bytes) (sym (eid_again mask bytes p [] a) ∙ eid_again mask bytes q [] b))

pub eid_faults : (mask : ℕ) (bytes : List ℕ) → IsBytes bytes → IsErr (eid_at mask bytes) ↔ ((eid rest p : List ℕ) → SpellsEid mask eid p → bytes ≡ eid ++ rest → ⊥)
eid_faults mask bytes fits = (
  λ e eid rest p s is. err_not_ok (eid_at mask bytes) (p, length eid) e (ap (eid_at mask) is ∙ eid_again mask eid p rest s),
  λ n. err_unless (eid_at mask bytes) (λ x e. let t = eid_takes mask bytes x fits e in n t.0 (drop x.1 bytes) x.0 t.2 t.1.parts),
)

-- what was read is spelled by the front
pub eid_taken : (mask : ℕ) (bytes p : List ℕ) (taken : ℕ) → IsBytes bytes → eid_at mask bytes ≡ Ok (p, taken) → SpellsEid mask (take taken bytes) p × (taken ≤ length bytes)
eid_taken mask bytes p taken fits e =
    let t = eid_takes mask bytes (p, taken) fits e in
    (subst (λ (text : List ℕ). SpellsEid mask text p) (sym (HasFront-take bytes t.0 taken t.1)) t.2, HasFront-fits bytes t.0 taken t.1)

-- what was read of a slice
pub eid_found : (mask : ℕ) (bytes : List ℕ) (r : Result (List ℕ × ℕ) EidFault) → IsBytes bytes → r ≡ eid_at mask bytes → IfOk r (λ x. SpellsEid mask (take x.1 bytes) x.0 × (x.1 ≤ length bytes))
eid_found mask bytes (Ok x) fits e = eid_taken mask bytes x.0 x.1 fits (sym e)
eid_found mask bytes (Err d) fits e = tt
