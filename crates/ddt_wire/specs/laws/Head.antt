-- A head that is read is spelled so, and what is spelled is read again.
use Rattle.std.proofs.Common.{◌≡◌, ℕ, ◌+◌, ◌*◌, ◌/◌, ◌%◌, ◌^◌, ◌<◌, ◌≤◌, true, false, ltb, eqb, List, ◌++◌, length, drop, Ok, refl, ap, subst, ◌∙◌, arith}
use Rattle.std.specs.Prelude.{slice_index, not}
use Rattle.std.proofs.lemmas.Bool.{ltb-false, le-ltb, eqb-true, eq-eqb, not-false}
use Rattle.byteorder.specs.Endian.{big_number}
use Rattle.byteorder.specs.Numbers.{big_number-reads_back}
use Rattle.ddt_wire.specs.declared.head.Head.{Head}
use Rattle.ddt_wire.specs.declared.head.HeadFault.{HeadFault}
use Rattle.ddt_path.specs.Steps.{IsBytes}
use Rattle.ddt_wire.specs.Head.{head_bytes, IsHead, head_of, head_at}
use Rattle.ddt_path.specs.laws.Step.{guard_parts, ok_is}
use Rattle.ddt_path.specs.laws.Byte.{IsBetween, ◌followed_by◌, ◌beside◌, two_bytes, number_stands, known_stands, byte_stands, number_fits, IsBytes-drop, IsBytes-number}

-- ---- what is read is spelled so

-- these bytes begin with this head
pub record BeginsWith (type : ℕ) (bytes : List ℕ) (h : Head) : Type 0 where
  pub ignored : ℕ
  pub ignored_fits : ignored < 2 ^ 20
  pub fits : IsHead h
  pub stands : IsBetween bytes 0 (head_bytes type ignored h) 22

-- the 20 bits behind the type
abbrev ignored_in : List ℕ → ℕ
ignored_in bytes = slice_index bytes 0 % 16 * 65536 + slice_index bytes 1 * 256 + slice_index bytes 2

head_stands : (type : ℕ) (bytes : List ℕ) → IsBytes bytes → 24 ≤ length bytes → slice_index bytes 0 / 16 ≡ type → slice_index bytes 3 ≡ 1 → IsBetween bytes 0 (head_bytes type (ignored_in bytes) (head_of bytes)) 22
head_stands type bytes fits long named one =
    let word = type * 2 ^ 28 + (ignored_in bytes * 2 ^ 8 + 1) in
    let first : big_number 4 bytes ≡ word = omega (arith, named, one) in
    known_stands 0 4 word bytes fits (omega (arith, long)) first
    followed_by number_stands 4 8 bytes fits (omega (arith, long))
    followed_by number_stands 12 4 bytes fits (omega (arith, long))
    followed_by (byte_stands 16 bytes (omega (arith, long)) followed_by byte_stands 17 bytes (omega (arith, long)))
    followed_by number_stands 18 2 bytes fits (omega (arith, long))
    followed_by number_stands 20 2 bytes fits (omega (arith, long))

read_head_fits : (bytes : List ℕ) → IsBytes bytes → IsHead (head_of bytes)
read_head_fits bytes fits = record {
  nonce_fits = number_fits 8 (drop 4 bytes) (IsBytes-drop 4 bytes fits);
  ttl_fits = number_fits 4 (drop 12 bytes) (IsBytes-drop 12 bytes fits);
  locators_fit = fits.at 16;
  mask_fits = fits.at 17;
  flags_fit = number_fits 2 (drop 18 bytes) (IsBytes-drop 18 bytes fits);
  version_fits = number_fits 2 (drop 20 bytes) (IsBytes-drop 20 bytes fits);
}

pub head_takes : (type : ℕ) (bytes : List ℕ) (h : Head) → IsBytes bytes → head_at type bytes ≡ Ok h → BeginsWith type bytes h
unfolding head_at
head_takes type bytes h fits e =
    guard_parts (ltb (length bytes) 4) _ _ h e λ a e₁.
    guard_parts (not (eqb (slice_index bytes 0 / 16) type)) _ _ h e₁ λ b e₂.
    guard_parts (not (eqb (slice_index bytes 3) 1)) _ _ h e₂ λ c e₃.
    guard_parts (ltb (length bytes) 24) _ _ h e₃ λ d e₄.
    let made : BeginsWith type bytes (head_of bytes) = record {
      ignored = ignored_in bytes;
      ignored_fits = omega (arith, fits.at 0, fits.at 1, fits.at 2);
      fits = read_head_fits bytes fits;
      stands = head_stands type bytes fits (ltb-false _ _ d) (eqb-true _ _ (not-false _ b)) (eqb-true _ _ (not-false _ c));
    } in
    subst (λ (x : Head). BeginsWith type bytes x) (ok_is {E = HeadFault} (head_of bytes) h e₄) made

-- ---- what is spelled is read again

type_again : (t r : ℕ) → t < 16 → r < 2 ^ 20 → (t * 2 ^ 28 + (r * 2 ^ 8 + 1)) / 16777216 % 256 / 16 ≡ t
type_again t r ht hr = omega arith

count_again : (t r : ℕ) → t < 16 → r < 2 ^ 20 → (t * 2 ^ 28 + (r * 2 ^ 8 + 1)) % 256 ≡ 1
count_again t r ht hr = omega arith

head_is : (type : ℕ) (bytes : List ℕ) → 24 ≤ length bytes → slice_index bytes 0 / 16 ≡ type → slice_index bytes 3 ≡ 1 → head_at type bytes ≡ Ok (head_of bytes)
unfolding head_at
head_is type bytes long named one =
    let four : ltb (length bytes) 4 ≡ false = le-ltb _ _ (omega (arith, long)) in
    let all : ltb (length bytes) 24 ≡ false = le-ltb _ _ long in
    let same : eqb (slice_index bytes 0 / 16) type ≡ true = eq-eqb _ _ named in
    rw (four, same, one, all) refl

fields_again : (type ignored : ℕ) (h : Head) (tail : List ℕ) → IsHead h → head_of (head_bytes type ignored h ++ tail) ≡ h
fields_again type ignored h tail fits =
    let bytes = head_bytes type ignored h ++ tail in
    let n : big_number 8 (drop 4 bytes) ≡ h.nonce = big_number-reads_back 8 h.nonce (drop 12 bytes) fits.nonce_fits in
    let t : big_number 4 (drop 12 bytes) ≡ h.ttl = big_number-reads_back 4 h.ttl (drop 16 bytes) fits.ttl_fits in
    let f : big_number 2 (drop 18 bytes) ≡ h.flags = big_number-reads_back 2 h.flags (drop 20 bytes) fits.flags_fit in
    let v : big_number 2 (drop 20 bytes) ≡ h.version = big_number-reads_back 2 h.version (drop 22 bytes) fits.version_fits in
    rw (n, t, f, v) refl

pub head_again : (type ignored : ℕ) (h : Head) (tail : List ℕ) → type < 16 → ignored < 2 ^ 20 → IsHead h → 2 ≤ length tail → head_at type (head_bytes type ignored h ++ tail) ≡ Ok h
head_again type ignored h tail small few fits some =
    head_is type (head_bytes type ignored h ++ tail) (omega (arith, some)) (type_again type ignored small few) (count_again type ignored small few)
    ∙ ap (λ (x : Head). Ok x) (fields_again type ignored h tail fits)

-- ---- a head is bytes

pub head_is_bytes : (type ignored : ℕ) (h : Head) → IsHead h → IsBytes (head_bytes type ignored h)
head_is_bytes type ignored h fits =
    IsBytes-number 4 (type * 2 ^ 28 + (ignored * 2 ^ 8 + 1)) beside IsBytes-number 8 h.nonce beside IsBytes-number 4 h.ttl
    beside two_bytes h.locators h.mask_len fits.locators_fit fits.mask_fits beside IsBytes-number 2 h.flags beside IsBytes-number 2 h.version
