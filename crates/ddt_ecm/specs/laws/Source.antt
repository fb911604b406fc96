-- A source EID and ITR-RLOCs that are read are spelled so, and what is spelled is read again.
use Rattle.std.proofs.Common.{◌≡◌, ℕ, ◌+◌, ◌^◌, ◌<◌, ◌≤◌, false, ltb, eqb, List, [], ◌∷◌, ◌++◌, length, take, drop, Ok, refl, sym, ap, subst, ◌∙◌, arith, inl, inr, length-append, length-drop}
use Rattle.std.specs.Prelude.{slice_index}
use Rattle.std.specs.Int.{w16, to_be_bytes, bytes_high_first}
use Rattle.std.proofs.lemmas.Bool.{ltb-false, le-ltb, eqb-true}
use Rattle.std.proofs.lemmas.List.{length-take-le}
use Rattle.byteorder.specs.Endian.{big_number}
use Rattle.byteorder.specs.Numbers.{big_number-reads_back}
use Rattle.ddt_path.specs.declared.locator.Locator.{Locator}
use Rattle.ddt_path.specs.Steps.{in_words, IsBytes}
use Rattle.ddt_wire.specs.Address.{family_and_address, IsAddress, address_at}
use Rattle.ddt_path.specs.laws.Step.{bind_parts, words_ok, guard_parts, chosen, ok_is}
use Rattle.ddt_path.specs.laws.Byte.{HasFront, IsBetween, ◌followed_by◌, stands, known_stands, byte_stands, number_taken, front_taken, number_fits, IsBytes-drop, IsBytes-take}
use Rattle.ddt_wire.specs.laws.Addresses.{address_takes, address_again}
use Rattle.ddt_wire.specs.laws.Eid.{plain_number, plain_long, not_lcaf, afi_some}
use Rattle.ddt_ecm.specs.declared.fault.RequestFault.{RequestFault}
use Rattle.ddt_ecm.specs.MapRequest.{SpellsSource, Absent, Plain, Lcaf, from_source, source_at}

-- ---- the source EID

-- what was read of a source EID
abbrev pub IsSource : List ℕ → ℕ → Type 0
IsSource bytes n = (text : List ℕ) × HasFront bytes text n × SpellsSource text

absent_takes : (bytes : List ℕ) → IsBytes bytes → 2 ≤ length bytes → big_number 2 bytes ≡ 0 → IsSource bytes 2
absent_takes bytes fits long family = (to_be_bytes w16 0, subst (λ (k : ℕ). HasFront bytes (bytes_high_first 2 k) 2) family (number_taken 2 bytes fits long), Absent refl)

plain_takes : (bytes : List ℕ) (x : Locator × ℕ) (n : ℕ) → IsBytes bytes → address_at bytes ≡ Ok x → x.1 ≡ n → IsSource bytes n
plain_takes bytes x n fits e same =
    let r = address_takes bytes x fits e in
    let made : IsSource bytes x.1 = (family_and_address x.0, r.takes, Plain x.0 r.fits refl) in
    subst (IsSource bytes) same made

abbrev content_of : List ℕ → List ℕ
content_of bytes = take (big_number 2 (drop 6 bytes)) (drop 8 bytes)

lcaf_stands : (bytes : List ℕ) (len : ℕ) → IsBytes bytes → 8 + len ≤ length bytes → big_number 2 bytes ≡ 16387 → big_number 2 (drop 6 bytes) ≡ len
    → IsBetween bytes 0 (to_be_bytes w16 16387 ++ (slice_index bytes 2 ∷ slice_index bytes 3 ∷ slice_index bytes 4 ∷ slice_index bytes 5 ∷ []) ++ to_be_bytes w16 len) 8
lcaf_stands bytes len fits long family is =
    known_stands 0 2 16387 bytes fits (omega arith) family
    followed_by (byte_stands 2 bytes (omega arith) followed_by byte_stands 3 bytes (omega arith) followed_by byte_stands 4 bytes (omega arith) followed_by byte_stands 5 bytes (omega arith))
    followed_by known_stands 6 2 len bytes fits (omega arith) is

lcaf_takes : (bytes : List ℕ) (n : ℕ) → IsBytes bytes → big_number 2 bytes ≡ 16387 → 8 + big_number 2 (drop 6 bytes) ≤ length bytes → 8 + big_number 2 (drop 6 bytes) ≡ n → IsSource bytes n
lcaf_takes bytes n fits family long same =
    let len = big_number 2 (drop 6 bytes) in
    let content = content_of bytes in
    let size : length content ≡ len = length-take-le len (drop 8 bytes) (omega (arith, length-drop 8 bytes)) in
    let room : 8 + length content ≤ length bytes = omega arith in
    let head = to_be_bytes w16 16387 ++ (slice_index bytes 2 ∷ slice_index bytes 3 ∷ slice_index bytes 4 ∷ slice_index bytes 5 ∷ []) ++ to_be_bytes w16 (length content) in
    let tail = stands bytes content 8 len (front_taken len (drop 8 bytes) (omega (arith, length-drop 8 bytes))) in
    let parts = lcaf_stands bytes (length content) fits room family (sym size) followed_by tail in
    let taken : HasFront bytes (head ++ content) (8 + len) = record { parts = parts.is; len = length-append head content ∙ ap (λ (k : ℕ). 8 + k) size } in
    let small : len < 2 ^ 16 = number_fits 2 (drop 6 bytes) (IsBytes-drop 6 bytes fits) in
    let spelled : SpellsSource (head ++ content) =
    Lcaf (slice_index bytes 2) (slice_index bytes 3) (slice_index bytes 4) (slice_index bytes 5) content (fits.at 2) (fits.at 3) (fits.at 4) (fits.at 5) (omega arith) (IsBytes-take len (drop 8 bytes) (IsBytes-drop 8 bytes fits)) refl in
    let made : IsSource bytes (8 + len) = (head ++ content, taken, spelled) in
    subst (IsSource bytes) same made

pub source_takes : (bytes : List ℕ) (n : ℕ) → IsBytes bytes → source_at bytes ≡ Ok n → IsSource bytes n
unfolding source_at
source_takes bytes n fits e =
    guard_parts (ltb (length bytes) 2) _ _ n e λ short e₁.
    elim (chosen (eqb (big_number 2 bytes) 0) _ _ _ e₁) [
      | inl p ↦ subst (IsSource bytes) (ok_is {E = RequestFault} 2 n p.1) (absent_takes bytes fits (ltb-false _ _ short) (eqb-true _ _ p.0))
      | inr p ↦ elim (chosen (eqb (big_number 2 bytes) 16387) _ _ _ p.1) [
        | inl t ↦
            guard_parts (ltb (length bytes) 8) _ _ n t.1 λ eight e₂.
            guard_parts (ltb (length bytes) (8 + big_number 2 (drop 6 bytes))) _ _ n e₂ λ all e₃.
            lcaf_takes bytes n fits (eqb-true _ _ t.0) (ltb-false _ _ all) (ok_is {E = RequestFault} (8 + big_number 2 (drop 6 bytes)) n e₃)
        | inr t ↦
            bind_parts (in_words from_source (address_at bytes)) _ n t.1 λ a read e₂.
            plain_takes bytes a n fits (words_ok from_source (address_at bytes) a read) (ok_is {E = RequestFault} a.1 n e₂)
      ]
    ]

absent_again : (rest : List ℕ) → source_at (to_be_bytes w16 0 ++ rest) ≡ Ok 2
unfolding source_at
absent_again rest = let two : ltb (length (to_be_bytes w16 0 ++ rest)) 2 ≡ false = le-ltb _ _ (omega arith) in rw two refl

plain_again : (a : Locator) (rest : List ℕ) → IsAddress a → source_at (family_and_address a ++ rest) ≡ Ok (length (family_and_address a))
unfolding source_at
plain_again a rest fits =
    let long = plain_long a rest in
    let two : ltb (length (family_and_address a ++ rest)) 2 ≡ false = le-ltb _ _ (omega arith) in
    rw (two, plain_number a rest, afi_some a, not_lcaf a, address_again a rest fits) refl

lcaf_read : (bytes : List ℕ) (n : ℕ) → 8 + n ≤ length bytes → big_number 2 bytes ≡ 16387 → big_number 2 (drop 6 bytes) ≡ n → source_at bytes ≡ Ok (8 + n)
unfolding source_at
lcaf_read bytes n long family len =
    let two : ltb (length bytes) 2 ≡ false = le-ltb _ _ (omega arith) in
    let eight : ltb (length bytes) 8 ≡ false = le-ltb _ _ (omega arith) in
    let all : ltb (length bytes) (8 + n) ≡ false = le-ltb _ _ long in
    rw (two, family, eight, len, all) refl

pub source_again : (text rest : List ℕ) → SpellsSource text → source_at (text ++ rest) ≡ Ok (length text)
source_again text rest (Absent is) = rw is (absent_again rest)
source_again text rest (Plain a fits is) = rw is (plain_again a rest fits)
source_again text rest (Lcaf r f t m content hr hf ht hm small fits is) =
    let whole = to_be_bytes w16 16387 ++ (r ∷ f ∷ t ∷ m ∷ []) ++ to_be_bytes w16 (length content) ++ content in
    let long : 8 + length content ≤ length (whole ++ rest) = omega (arith, length-append content rest) in
    let size : 8 + length content ≡ length whole = omega arith in
    rw is (lcaf_read (whole ++ rest) (length content) long refl (big_number-reads_back 2 (length content) (content ++ rest) small) ∙ ap (λ (k : ℕ). Ok k) size)
