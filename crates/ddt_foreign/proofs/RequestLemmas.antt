-- What holds of foreign Map-Requests: beside the core's reader, with another bit D, and of what is looked up.
use Rattle.std.proofs.Common.{◌≡◌, ℕ, zero, suc, ◌+◌, ◌/◌, ◌%◌, ◌≤◌, ◌⊎◌, Bool, true, false, ltb, eqb, List, [], ◌∷◌, ◌++◌, length, take, drop, Option, Some, None, Result, Ok, Err, refl, sym, ap, subst, ◌∙◌, arith, inl, inr, add-one, length-drop}
use Rattle.std.specs.Prelude.{not, slice_index}
use Rattle.std.proofs.lemmas.Bool.{ltb-false, le-ltb, eqb-true, not-false}
use Rattle.std.proofs.lemmas.List.{drop-drop, drop_at}
use Rattle.byteorder.specs.Endian.{big_number}
use Rattle.ddt_path.specs.declared.form.Form.{Form}
use Rattle.ddt_path.specs.declared.form.Form.TheVariants.{Range, Block}
use Rattle.ddt_path.specs.declared.form.PrefixFault.{PrefixFault}
use Rattle.ddt_path.specs.declared.locator.Locator.{Locator}
use Rattle.ddt_path.specs.declared.locator.Locator.TheVariants.{V4}
use Rattle.ddt_path.specs.declared.xeid.Xeid.{Xeid}
use Rattle.ddt_path.specs.Covers.{covers}
use Rattle.ddt_path.specs.FormOf.{form_of}
use Rattle.ddt_path.specs.Path.{digits, address_width, address_digits, address_path, xeid_path, path, are_zero, is_prefix_path, prefix_of, IsForm}
use Rattle.ddt_path.specs.Steps.{◌>>=◌, in_words}
use Rattle.ddt_path.specs.DigitLemmas.{length-digits}
use Rattle.ddt_path.specs.laws.Cover.{front_covered}
use Rattle.ddt_path.specs.laws.PathTest.{is_path-xeid_path, form_of_prefix, prefix_that_covers}
use Rattle.ddt_path.specs.laws.Prefix.{length-block, inner_range, host_path}
use Rattle.ddt_path.specs.laws.Step.{bind_parts, guard_parts, held_ok, words_ok, chosen, ok_is}
use Rattle.ddt_wire.specs.declared.address.AddressFault.{AddressFault}
use Rattle.ddt_wire.specs.declared.address.AddressFault.TheVariants as address_fault
use Rattle.ddt_wire.specs.declared.eid.EidFault.{EidFault}
use Rattle.ddt_wire.specs.Address.{address_at}
use Rattle.ddt_wire.specs.Addresses.{behind_at, addresses_at}
use Rattle.ddt_wire.specs.Eid as wire
use Rattle.ddt_wire.specs.Eid.{eid_at, block_at, inside_at}
use Rattle.ddt_wire.specs.laws.CutPrefix.{form_of-named, take_block}
use Rattle.ddt_ecm.specs.declared.fault.RequestFault.{RequestFault}
use Rattle.ddt_ecm.specs.EcmHeader.{ecm_at}
use Rattle.ddt_ecm.specs.IpHeader.{ip_at}
use Rattle.ddt_ecm.specs.UdpHeader.{udp_at}
use Rattle.ddt_ecm.specs.MapRequest as core
use Rattle.ddt_ecm.specs.MapRequest.{map_request_at, source_at, head_at, xeid_at, host_of, trails}
use Rattle.ddt_ecm.specs.Request.{Message, inner_in, message_in}
use Rattle.ddt_foreign.specs.declared.fault.ForeignRequestFault.{ForeignRequestFault}
use Rattle.ddt_foreign.specs.declared.fault.ForeignRequestFault.TheVariants.{Headers}
use Rattle.ddt_foreign.specs.Several.{several_at}
use Rattle.ddt_foreign.specs.Request.{content_at, after_source, rloc_at, rlocs_at, known, Asked, from_eid, first_of, prefix_at, count_at, asked_of, if_known, asked_in, request_in}
use Rattle.ddt_foreign.specs.RequestLaws.{IsSame, RequestsStay, with_ddt, OnlyDdtChanges, IsFirst, FirstIsLookedUp, RlocsAreFew}
use Rattle.ddt_foreign.proofs.AlikeLemmas.{IsPlainFamily, address_family}
use Rattle.ddt_foreign.proofs.KnownLemmas.{several_length, known_few}

-- ---- the source EID

source_absent : (bytes : List ℕ) → ltb (length bytes) 2 ≡ false → eqb (big_number 2 bytes) 0 ≡ true → after_source bytes ≡ Ok (drop 2 bytes)
unfolding after_source
source_absent bytes short none = rw (short, none) refl

source_lcaf : (bytes content rest : List ℕ) → ltb (length bytes) 2 ≡ false → eqb (big_number 2 bytes) 0 ≡ false → eqb (big_number 2 bytes) 16387 ≡ true → content_at bytes ≡ Ok (content, rest) → after_source bytes ≡ Ok rest
unfolding after_source
source_lcaf bytes content rest short some l e = rw (short, some, l, e) refl

source_plain : (bytes : List ℕ) (a : Locator × ℕ) → ltb (length bytes) 2 ≡ false → eqb (big_number 2 bytes) 0 ≡ false → eqb (big_number 2 bytes) 16387 ≡ false → address_at bytes ≡ Ok a
    → after_source bytes ≡ Ok (drop a.1 bytes)
unfolding after_source
source_plain bytes a short some l e = rw (short, some, l, e) refl

content_read : (bytes : List ℕ) (n : ℕ) → core.lcaf_at bytes ≡ Ok n → content_at bytes ≡ Ok (take (big_number 2 (drop 6 bytes)) (drop 8 bytes), drop n bytes)
unfolding content_at
content_read bytes n e =
    guard_parts (ltb (length bytes) 8) _ _ n e λ a e₁.
    guard_parts (ltb (length bytes) (8 + big_number 2 (drop 6 bytes))) _ _ n e₁ λ b e₂.
    let same : 8 + big_number 2 (drop 6 bytes) ≡ n = ok_is {E = RequestFault} (8 + big_number 2 (drop 6 bytes)) n e₂ in
    rw (a, b) (ap (λ (m : ℕ). Ok (take (big_number 2 (drop 6 bytes)) (drop 8 bytes), drop m bytes)) same)

source_alike : (bytes : List ℕ) (n : ℕ) → source_at bytes ≡ Ok n → after_source bytes ≡ Ok (drop n bytes)
unfolding source_at
source_alike bytes n e =
    guard_parts (ltb (length bytes) 2) _ _ n e λ short e₁.
    elim (chosen (eqb (big_number 2 bytes) 0) _ _ (Ok n) e₁) [
      | inl p ↦ subst (λ (m : ℕ). after_source bytes ≡ Ok (drop m bytes)) (ok_is {E = RequestFault} 2 n p.1) (source_absent bytes short p.0)
      | inr p ↦
          elim (chosen (eqb (big_number 2 bytes) 16387) _ _ (Ok n) p.1) [
            | inl q ↦ source_lcaf bytes (take (big_number 2 (drop 6 bytes)) (drop 8 bytes)) (drop n bytes) short p.0 q.0 (content_read bytes n q.1)
            | inr q ↦
                bind_parts (in_words core.from_source (address_at bytes)) _ n q.1 λ a read e₂.
                let r = words_ok core.from_source (address_at bytes) a read in
                subst (λ (m : ℕ). after_source bytes ≡ Ok (drop m bytes)) (ok_is {E = RequestFault} a.1 n e₂) (source_plain bytes a short p.0 q.0 r)
          ]
    ]

-- ---- the ITR-RLOCs

rloc_read : (bytes : List ℕ) (a : Locator × ℕ) → IsPlainFamily bytes → address_at bytes ≡ Ok a → rloc_at bytes ≡ Ok (Some a.0, drop a.1 bytes)
unfolding rloc_at
rloc_read bytes a family e =
    let short : ltb (length bytes) 2 ≡ false = le-ltb _ _ family.long in
    rw (short, family.no_lcaf, family.some, e) refl

rloc_alike : (bytes : List ℕ) (x : Locator × ℕ) → behind_at 0 bytes ≡ Ok x → rloc_at bytes ≡ Ok (Some x.0, drop x.1 bytes)
unfolding behind_at
rloc_alike bytes x e =
    guard_parts (ltb (length bytes) 0) address_fault.Short _ x e λ short e₁.
    bind_parts (address_at (drop 0 bytes)) _ x e₁ λ a read e₂.
    let same : (a.0, 0 + a.1) ≡ x = ok_is {E = AddressFault} (a.0, 0 + a.1) x e₂ in
    let none : a.1 ≡ 0 + a.1 = omega arith in
    let made : rloc_at bytes ≡ Ok (Some a.0, drop (0 + a.1) bytes) = rloc_read bytes a (address_family bytes a read) read ∙ ap (λ (n : ℕ). Ok (Some a.0, drop n bytes)) none in
    subst (λ (y : Locator × ℕ). rloc_at bytes ≡ Ok (Some y.0, drop y.1 bytes)) same made

abbrev AreRlocs : ℕ → List ℕ → List Locator × List ℕ → Type 0
AreRlocs k bytes x = (os : List (Option Locator)) × (several_at rloc_at k bytes ≡ Ok (os, x.1)) × (known os ≡ x.0)

one_more : (k : ℕ) (bytes : List ℕ) (o : Option Locator) (rest : List ℕ) (os : List (Option Locator)) (after : List ℕ) → rloc_at bytes ≡ Ok (o, rest) → several_at rloc_at k rest ≡ Ok (os, after)
    → several_at rloc_at (suc k) bytes ≡ Ok (o ∷ os, after)
unfolding several_at
one_more k bytes o rest os after a b = rw (a, b) refl

none_more : (bytes : List ℕ) → several_at rloc_at 0 bytes ≡ Ok ([], bytes)
unfolding several_at
none_more bytes = refl

rlocs_alike : (k : ℕ) (bytes : List ℕ) (x : List Locator × List ℕ) → addresses_at 0 k bytes ≡ Ok x → AreRlocs k bytes x
unfolding addresses_at
rlocs_alike zero bytes x e =
    let made : AreRlocs 0 bytes ([], bytes) = ([], none_more bytes, refl) in
    subst (AreRlocs 0 bytes) (ok_is {E = AddressFault} ([], bytes) x e) made
rlocs_alike (suc k) bytes x e =
    bind_parts (behind_at 0 bytes) _ x e λ first read₁ e₁.
    bind_parts (addresses_at 0 k (drop first.1 bytes)) _ x e₁ λ others read₂ e₂.
    let one = rloc_alike bytes first read₁ in
    let more = rlocs_alike k (drop first.1 bytes) others read₂ in
    let made : AreRlocs (suc k) bytes (first.0 ∷ others.0, others.1) =
    (Some first.0 ∷ more.0, one_more k bytes (Some first.0) (drop first.1 bytes) more.0 others.1 one more.1, ap (λ (t : List Locator). first.0 ∷ t) more.2) in
    subst (AreRlocs (suc k) bytes) (ok_is {E = AddressFault} (first.0 ∷ others.0, others.1) x e₂) made

rlocs_read : (n : ℕ) (bytes : List ℕ) (x : List Locator × List ℕ) → AreRlocs n bytes x → rlocs_at n bytes ≡ Ok x
unfolding rlocs_at
rlocs_read n bytes x r = rw (r.1, r.2) refl

-- the core's requests have an ITR-RLOC
some_read : (k : ℕ) (bytes : List ℕ) (x : List Locator × List ℕ) (v : Asked) → addresses_at 0 (suc k) bytes ≡ Ok x → if_known v x.0 ≡ Ok v
unfolding addresses_at
some_read k bytes x v e =
    bind_parts (behind_at 0 bytes) _ x e λ first read₁ e₁.
    bind_parts (addresses_at 0 k (drop first.1 bytes)) _ x e₁ λ others read₂ e₂.
    subst (λ (y : List Locator × List ℕ). if_known v y.0 ≡ Ok v) (ok_is {E = AddressFault} (first.0 ∷ others.0, others.1) x e₂) refl

-- ---- how many are known

pub rlocs_few : (n : ℕ) (bytes : List ℕ) (x : List Locator × List ℕ) → rlocs_at n bytes ≡ Ok x → length x.0 ≤ n
unfolding rlocs_at
rlocs_few n bytes x e =
    bind_parts (several_at rloc_at n bytes) _ x e λ all read e₁.
    subst (λ (y : List Locator × List ℕ). length y.0 ≤ n) (ok_is {E = ForeignRequestFault} (known all.0, all.1) x e₁) (omega (arith, known_few all.0, several_length n bytes all read))

-- ---- the EID-prefix

block_path : (iid : ℕ) (a : Locator) (len : ℕ) → is_prefix_path (path (Block iid a len)) ≡ true
block_path i a len =
    let x : Xeid = record { iid = i; address = a } in
    let c : covers (path (Block i a len)) (xeid_path x) ≡ true = subst (λ (t : List ℕ). covers t (xeid_path x) ≡ true) (take_block i a len) (front_covered (33 + len) (xeid_path x)) in
    prefix_that_covers (path (Block i a len)) (xeid_path x) (is_path-xeid_path x) c

range_path : (iid len : ℕ) (a : Locator) → len ≤ 32 → is_prefix_path (path (Range iid len)) ≡ true
range_path i len a le =
    let x : Xeid = record { iid = i; address = a } in
    let p = path (Range i len) in
    let c : covers p (xeid_path x) ≡ true = subst (λ (t : List ℕ). covers t (xeid_path x) ≡ true) (inner_range i len a le) (front_covered (length p) (xeid_path x)) in
    prefix_that_covers p (xeid_path x) (is_path-xeid_path x) c

block_is_prefix : (iid mask : ℕ) (bytes : List ℕ) (x : List ℕ × ℕ) → block_at iid mask bytes ≡ Ok x → is_prefix_path x.0 ≡ true
unfolding block_at
block_is_prefix iid mask bytes x e =
    bind_parts (in_words wire.from_address (address_at bytes)) _ x e λ a read e₁.
    guard_parts (ltb (address_width a.0) mask) _ _ x e₁ λ le e₂.
    subst (λ (y : List ℕ × ℕ). is_prefix_path y.0 ≡ true) (ok_is {E = EidFault} (path (Block iid a.0 mask), a.1) x e₂) (block_path iid a.0 mask)

-- any address, beside which a range of instances is seen
abbrev some_address : Locator
some_address = V4 0

range_is_prefix : (iid len : ℕ) (p : List ℕ) → prefix_of (Range iid len) ≡ Ok p → is_prefix_path p ≡ true
range_is_prefix iid len p e =
    guard_parts (ltb 32 len) _ _ p e λ le e₁.
    let q = held_ok (are_zero (drop len (digits 32 iid))) _ _ p e₁ in
    subst (λ (t : List ℕ). is_prefix_path t ≡ true) (ok_is {E = PrefixFault} (path (Range iid len)) p q.1) (range_path iid len some_address (ltb-false _ _ le))

inside_is_prefix : (mask : ℕ) (bytes : List ℕ) (x : List ℕ × ℕ) → inside_at mask bytes ≡ Ok x → is_prefix_path x.0 ≡ true
unfolding inside_at
inside_is_prefix mask bytes x e =
    elim (chosen (eqb (big_number 2 (drop 12 bytes)) 0) _ _ (Ok x) e) [
      | inl p ↦
          bind_parts (in_words wire.from_prefix (prefix_of (Range (big_number 4 (drop 8 bytes)) (slice_index bytes 5)))) _ x p.1 λ q read e₁.
          let r = words_ok wire.from_prefix (prefix_of (Range (big_number 4 (drop 8 bytes)) (slice_index bytes 5))) q read in
          subst (λ (y : List ℕ × ℕ). is_prefix_path y.0 ≡ true) (ok_is {E = EidFault} (q, 14) x e₁) (range_is_prefix (big_number 4 (drop 8 bytes)) (slice_index bytes 5) q r)
      | inr p ↦
          bind_parts (block_at (big_number 4 (drop 8 bytes)) mask (drop 12 bytes)) _ x p.1 λ b read e₁.
          subst (λ (y : List ℕ × ℕ). is_prefix_path y.0 ≡ true) (ok_is {E = EidFault} (b.0, 12 + b.1) x e₁) (block_is_prefix (big_number 4 (drop 8 bytes)) mask (drop 12 bytes) b read)
    ]

lcaf_is_prefix : (mask : ℕ) (bytes : List ℕ) (x : List ℕ × ℕ) → wire.lcaf_at mask bytes ≡ Ok x → is_prefix_path x.0 ≡ true
unfolding wire.lcaf_at
lcaf_is_prefix mask bytes x e =
    guard_parts (ltb (length bytes) 8) _ _ x e λ a e₁.
    guard_parts (not (eqb (slice_index bytes 4) 2)) _ _ x e₁ λ b e₂.
    guard_parts (ltb (length bytes) 14) _ _ x e₂ λ c e₃.
    guard_parts (not (wire.has_length (big_number 2 (drop 12 bytes)) (big_number 2 (drop 6 bytes)))) _ _ x e₃ λ d e₄.
    inside_is_prefix mask bytes x e₄

eid_is_prefix : (mask : ℕ) (bytes : List ℕ) (x : List ℕ × ℕ) → eid_at mask bytes ≡ Ok x → is_prefix_path x.0 ≡ true
unfolding eid_at
eid_is_prefix mask bytes x e =
    guard_parts (ltb (length bytes) 2) _ _ x e λ short e₁.
    elim (chosen (eqb (big_number 2 bytes) 16387) _ _ (Ok x) e₁) [
      | inl p ↦ lcaf_is_prefix mask bytes x p.1
      | inr p ↦ block_is_prefix 0 mask bytes x p.1
    ]

prefix_is_prefix : (bytes p : List ℕ) → prefix_at bytes ≡ Ok p → is_prefix_path p ≡ true
unfolding prefix_at
prefix_is_prefix bytes p e =
    guard_parts (ltb (length bytes) 4) _ _ p e λ short e₁.
    let afi = big_number 2 (drop 2 bytes) in
    bind_parts (in_words (from_eid afi) (eid_at (slice_index bytes 1) (drop 2 bytes))) _ p e₁ λ x read e₂.
    let r = words_ok (from_eid afi) (eid_at (slice_index bytes 1) (drop 2 bytes)) x read in
    subst (λ (t : List ℕ). is_prefix_path t ≡ true) (ok_is {E = ForeignRequestFault} x.0 p e₂) (eid_is_prefix (slice_index bytes 1) (drop 2 bytes) x r)

-- ---- its first address

block_first : (i : ℕ) (a : Locator) (len : ℕ) (p : List ℕ) → len ≤ address_width a → are_zero (drop len (address_digits a)) ≡ true → path (Block i a len) ≡ p → IsFirst p (record { iid = i; address = a })
block_first i a len p le tail e =
    let x : Xeid = record { iid = i; address = a } in
    let front : take (33 + len) (xeid_path x) ≡ p = take_block i a len ∙ e in
    let long : length p ≡ 33 + len = sym (ap length e) ∙ length-block i a len le in
    let seam : drop 32 (xeid_path x) ≡ address_path a = drop_at (digits 32 i) (address_path a) 32 (length-digits 32 i) in
    let sum : 33 + len ≡ 32 + suc len = omega arith in
    let after : drop (33 + len) (xeid_path x) ≡ drop len (address_digits a) =
    ap (λ (n : ℕ). drop n (xeid_path x)) sum ∙ sym (drop-drop (suc len) 32 (xeid_path x)) ∙ ap (drop (suc len)) seam in
    record {
      is_covered = subst (λ (t : List ℕ). covers t (xeid_path x) ≡ true) front (front_covered (33 + len) (xeid_path x));
      zero = ap (λ (n : ℕ). are_zero (drop n (xeid_path x))) long ∙ ap are_zero after ∙ tail;
    }

form_first : (f : Form) (p : List ℕ) (x : Xeid) → IsForm f → path f ≡ p → first_of f ≡ Ok x → IsFirst p x
form_first (Range i len) p x h e g = absurd cc
form_first (Block i a len) p x h e g = subst (IsFirst p) (ok_is {E = ForeignRequestFault} (record { iid = i; address = a }) x g) (block_first i a len p h.2 h.3 e)

prefix_first : (p : List ℕ) (x : Xeid) → is_prefix_path p ≡ true → first_of (form_of p) ≡ Ok x → IsFirst p x
prefix_first p x e g =
    let f = form_of_prefix p e in
    form_first f.0 p x f.1 f.2 (sym (ap first_of (form_of-named p f.0 f.2 f.1)) ∙ g)

form_host : (f : Form) (p : List ℕ) (x : Xeid) → IsForm f → path f ≡ p → host_of f ≡ Ok x → p ≡ xeid_path x
form_host (Range i len) p x h e g = absurd cc
form_host (Block i a len) p x h e g =
    elim (chosen (eqb len (address_width a)) _ _ (Ok x) g) [
      | inl q ↦
          let y : Xeid = record { iid = i; address = a } in
          let width : path (Block i a len) ≡ path (Block i a (address_width a)) = ap (λ (n : ℕ). path (Block i a n)) (eqb-true len (address_width a) q.0) in
          sym e ∙ width ∙ host_path y ∙ ap xeid_path (ok_is {E = RequestFault} y x q.1)
      | inr q ↦ absurd cc
    ]

prefix_host : (p : List ℕ) (x : Xeid) → is_prefix_path p ≡ true → host_of (form_of p) ≡ Ok x → p ≡ xeid_path x
prefix_host p x e g =
    let f = form_of_prefix p e in
    form_host f.0 p x f.1 f.2 (sym (ap host_of (form_of-named p f.0 f.2 f.1)) ∙ g)

host_first : (f : Form) (x : Xeid) → host_of f ≡ Ok x → first_of f ≡ Ok x
host_first (Range iid len) x e = absurd cc
host_first (Block i a len) x e =
    elim (chosen (eqb len (address_width a)) _ _ (Ok x) e) [
      | inl p ↦ ap (λ (y : Xeid). Ok y) (ok_is {E = RequestFault} (record { iid = i; address = a }) x p.1)
      | inr p ↦ absurd cc
    ]

-- an EID that is read has an AFI
long_enough : (mask : ℕ) (bytes : List ℕ) (p : List ℕ × ℕ) → eid_at mask (drop 2 bytes) ≡ Ok p → ltb (length bytes) 4 ≡ false
unfolding eid_at
long_enough mask bytes p e =
    guard_parts (ltb (length (drop 2 bytes)) 2) _ _ p e λ short e₁.
    le-ltb _ _ (omega (arith, ltb-false _ _ short, length-drop 2 bytes))

prefix_read : (bytes : List ℕ) (p : List ℕ × ℕ) → ltb (length bytes) 4 ≡ false → eid_at (slice_index bytes 1) (drop 2 bytes) ≡ Ok p → prefix_at bytes ≡ Ok p.0
unfolding prefix_at
prefix_read bytes p short e = rw (short, e) refl

record IsHost (bytes : List ℕ) (x : Xeid) : Type 0 where
  p : List ℕ
  read : prefix_at bytes ≡ Ok p
  first : first_of (form_of p) ≡ Ok x
  same : p ≡ xeid_path x

xeid_alike : (bytes : List ℕ) (x : Xeid × ℕ) → xeid_at bytes ≡ Ok x → IsHost bytes x.0
unfolding xeid_at
xeid_alike bytes x e =
    guard_parts (ltb (length bytes) 2) _ _ x e λ short e₁.
    let eid = eid_at (slice_index bytes 1) (drop 2 bytes) in
    bind_parts (in_words core.from_eid eid) _ x e₁ λ p read₁ e₂.
    bind_parts (host_of (form_of p.0)) _ x e₂ λ y read₂ e₃.
    let r = words_ok core.from_eid eid p read₁ in
    let made : IsHost bytes y = record {
      p = p.0;
      read = prefix_read bytes p (long_enough (slice_index bytes 1) bytes p r) r;
      first = host_first (form_of p.0) y read₂;
      same = prefix_host p.0 y (eid_is_prefix (slice_index bytes 1) (drop 2 bytes) p r) read₂;
    } in
    subst (λ (z : Xeid × ℕ). IsHost bytes z.0) (ok_is {E = RequestFault} (y, 2 + p.1) x e₃) made

-- ---- what the core reads

count_read : (message : List ℕ) (n : ℕ) → head_at message ≡ Ok n → (count_at message ≡ Ok n) × (slice_index message 2 % 32 + 1 ≡ n)
unfolding head_at count_at
count_read message n e =
    guard_parts (ltb (length message) 12) _ _ n e λ a e₁.
    guard_parts (not (eqb (slice_index message 0 / 16) 1)) _ _ n e₁ λ b e₂.
    guard_parts (not (eqb (slice_index message 3) 1)) _ _ n e₂ λ c e₃.
    let one : slice_index message 3 ≡ 1 = eqb-true _ _ (not-false _ c) in
    let same : slice_index message 2 % 32 + 1 ≡ n = ok_is {E = RequestFault} (slice_index message 2 % 32 + 1) n e₃ in
    (rw (a, b, one) (ap (λ (m : ℕ). Ok m) same), same)

asked_read : (d : Bool) (port : ℕ) (message from after p : List ℕ) (n : ℕ) (ls : List Locator) (x : Xeid) → count_at message ≡ Ok n → after_source (drop 12 message) ≡ Ok from → rlocs_at n from ≡ Ok (ls, after)
    → prefix_at after ≡ Ok p → first_of (form_of p) ≡ Ok x → if_known (asked_of d port message p x ls) ls ≡ Ok (asked_of d port message p x ls) → asked_in d port message ≡ Ok (asked_of d port message p x ls)
unfolding asked_in
asked_read d port message from after p n ls x c s r q f k = rw (c, s, r, q, f) k

-- a Map-Request says what one of the core says
record IsAlike (d : Bool) (port : ℕ) (message : List ℕ) (y : ℕ × Xeid × List Locator) : Type 0 where
  v : Asked
  read : asked_in d port message ≡ Ok v
  nonce : v.nonce ≡ y.0
  ddt : v.ddt ≡ d
  port_is : v.port ≡ port
  prefix : v.prefix ≡ xeid_path y.1
  xeid : v.xeid ≡ y.1
  rlocs : v.rlocs ≡ y.2

message_alike : (d : Bool) (port : ℕ) (message : List ℕ) (y : ℕ × Xeid × List Locator) → map_request_at message ≡ Ok y → IsAlike d port message y
unfolding map_request_at
message_alike d port message y e =
    bind_parts (head_at message) _ y e λ count read₁ e₁.
    bind_parts (source_at (drop 12 message)) _ y e₁ λ source read₂ e₂.
    let from = drop source (drop 12 message) in
    bind_parts (core.rlocs_at count from) _ y e₂ λ ls read₃ e₃.
    bind_parts (xeid_at ls.1) _ y e₃ λ x read₄ e₄.
    guard_parts (trails message x.1 ls.1) _ _ y e₄ λ whole e₅.
    let h = count_read message count read₁ in
    let r : addresses_at 0 count from ≡ Ok ls = words_ok core.from_address (addresses_at 0 count from) ls read₃ in
    let host = xeid_alike ls.1 x read₄ in
    let asked = asked_of d port message host.p x.0 ls.0 in
    let suc_count : count ≡ suc (slice_index message 2 % 32) = sym h.1 ∙ add-one (slice_index message 2 % 32) in
    let some : if_known asked ls.0 ≡ Ok asked = some_read (slice_index message 2 % 32) from ls asked (sym (ap (λ (k : ℕ). addresses_at 0 k from) suc_count) ∙ r) in
    let made : IsAlike d port message (big_number 8 (drop 4 message), x.0, ls.0) = record {
      v = asked;
      read = asked_read d port message from ls.1 host.p count ls.0 x.0 h.0 (source_alike (drop 12 message) source read₂) (rlocs_read count from ls (rlocs_alike count from ls r)) host.read host.first some;
      nonce = refl;
      ddt = refl;
      port_is = refl;
      prefix = host.same;
      xeid = refl;
      rlocs = refl;
    } in
    subst (IsAlike d port message) (ok_is {E = RequestFault} (big_number 8 (drop 4 message), x.0, ls.0) y e₅) made

inner_read : (bytes ip : List ℕ) (udp : ℕ × List ℕ) (data_ : ℕ × List ℕ) → ecm_at bytes ≡ Ok ip → ip_at ip ≡ Ok udp → udp_at udp.0 udp.1 ≡ Ok data_ → inner_in bytes ≡ Ok data_
unfolding inner_in
inner_read bytes ip udp data_ a b c = rw (a, b, c) refl

request_read : (bytes : List ℕ) (inner : ℕ × List ℕ) (v : Asked) → inner_in bytes ≡ Ok inner → asked_in (eqb (slice_index bytes 0 / 4 % 2) 1) inner.0 inner.1 ≡ Ok v → request_in bytes ≡ Ok v
unfolding request_in
request_read bytes inner v a b = rw a b

pub requests_stay : RequestsStay
unfolding message_in
requests_stay bytes m e =
    bind_parts (ecm_at bytes) _ m e λ ip read₁ e₁.
    bind_parts (ip_at ip) _ m e₁ λ udp read₂ e₂.
    bind_parts (udp_at udp.0 udp.1) _ m e₂ λ data_ read₃ e₃.
    bind_parts (map_request_at data_.1) _ m e₃ λ asked read₄ e₄.
    let d = eqb (slice_index bytes 0 / 4 % 2) 1 in
    let a = message_alike d data_.0 data_.1 asked read₄ in
    let n : Message = record { nonce = asked.0; ddt = d; port = data_.0; xeid = asked.1; rlocs = asked.2 } in
    let same : IsSame a.v n = record { nonce = a.nonce; ddt = a.ddt; port = a.port_is; prefix = a.prefix; xeid = a.xeid; rlocs = a.rlocs } in
    (a.v, request_read bytes data_ a.v (inner_read bytes ip udp data_ read₁ read₂ read₃) a.read, subst (IsSame a.v) (ok_is {E = RequestFault} n m e₄) same)

-- ---- another bit D

ecm_alike : (b c : ℕ) (rest : List ℕ) → c / 8 ≡ b / 8 → ecm_at (c ∷ rest) ≡ ecm_at (b ∷ rest)
unfolding ecm_at
ecm_alike b c rest e =
    let type : c / 16 ≡ b / 16 = omega (arith, e) in
    rw (type, e) refl

inner_alike : (b c : ℕ) (rest : List ℕ) → c / 8 ≡ b / 8 → inner_in (c ∷ rest) ≡ inner_in (b ∷ rest)
unfolding inner_in
inner_alike b c rest e = rw (ecm_alike b c rest e) refl

step_with : {A : Type 0} (d : Bool) (r : Result A ForeignRequestFault) (f g : A → Result Asked ForeignRequestFault) → ((a : A) → f a ≡ with_ddt d (g a)) → (r >>= f) ≡ with_ddt d (r >>= g)
step_with d (Ok a) f g h = h a
step_with d (Err e) f g h = refl

known_with : (d : Bool) (v w : Asked) (ls : List Locator) → v ≡ record w { ddt = d } → if_known v ls ≡ with_ddt d (if_known w ls)
known_with d v w [] e = refl
known_with d v w (a ∷ others) e = ap (λ (u : Asked). Ok u) e

asked_with : (d b : Bool) (port : ℕ) (message : List ℕ) → asked_in d port message ≡ with_ddt d (asked_in b port message)
unfolding asked_in
asked_with d b port message =
    step_with d (count_at message) _ _ λ count.
    step_with d (after_source (drop 12 message)) _ _ λ from.
    step_with d (rlocs_at count from) _ _ λ ls.
    step_with d (prefix_at ls.1) _ _ λ p.
    step_with d (first_of (form_of p)) _ _ λ x.
    known_with d (asked_of d port message p x ls.0) (asked_of b port message p x ls.0) ls.0 refl

pub only_ddt_changes : OnlyDdtChanges
unfolding request_in
only_ddt_changes b c rest e =
    let d = eqb (c / 4 % 2) 1 in
    rw (inner_alike b c rest e) (step_with d (in_words Headers (inner_in (b ∷ rest))) _ _ λ inner. asked_with d (eqb (b / 4 % 2) 1) inner.0 inner.1)

-- ---- what is read

known_some : (w : Asked) (ls : List Locator) (v : Asked) → if_known w ls ≡ Ok v → (1 ≤ length ls) × (w ≡ v)
known_some w [] v e = absurd cc
known_some w (a ∷ others) v e = (omega arith, ok_is {E = ForeignRequestFault} w v e)

count_few : (message : List ℕ) (n : ℕ) → count_at message ≡ Ok n → n ≤ 32
unfolding count_at
count_few message n e =
    guard_parts (ltb (length message) 12) _ _ n e λ a e₁.
    guard_parts (not (eqb (slice_index message 0 / 16) 1)) _ _ n e₁ λ b e₂.
    guard_parts (eqb (slice_index message 3) 0) _ _ n e₂ λ c e₃.
    let same = ok_is {E = ForeignRequestFault} (slice_index message 2 % 32 + 1) n e₃ in
    omega (arith, same)

record IsGood (v : Asked) : Type 0 where
  first : IsFirst v.prefix v.xeid
  some : 1 ≤ length v.rlocs
  few : length v.rlocs ≤ 32

asked_good : (d : Bool) (port : ℕ) (message : List ℕ) (v : Asked) → asked_in d port message ≡ Ok v → IsGood v
unfolding asked_in
asked_good d port message v e =
    bind_parts (count_at message) _ v e λ count read₁ e₁.
    bind_parts (after_source (drop 12 message)) _ v e₁ λ from read₂ e₂.
    bind_parts (rlocs_at count from) _ v e₂ λ ls read₃ e₃.
    bind_parts (prefix_at ls.1) _ v e₃ λ p read₄ e₄.
    bind_parts (first_of (form_of p)) _ v e₄ λ x read₅ e₅.
    let k = known_some (asked_of d port message p x ls.0) ls.0 v e₅ in
    let few = rlocs_few count from ls read₃ in
    let made : IsGood (asked_of d port message p x ls.0) = record {
      first = prefix_first p x (prefix_is_prefix ls.1 p read₄) read₅;
      some = k.0;
      few = omega (arith, few, count_few message count read₁);
    } in
    subst IsGood k.1 made

request_good : (bytes : List ℕ) (v : Asked) → request_in bytes ≡ Ok v → IsGood v
unfolding request_in
request_good bytes v e =
    bind_parts (in_words Headers (inner_in bytes)) _ v e λ inner read e₁.
    asked_good (eqb (slice_index bytes 0 / 4 % 2) 1) inner.0 inner.1 v e₁

pub first_is_looked_up : FirstIsLookedUp
first_is_looked_up bytes v e = (request_good bytes v e).first

pub rlocs_are_few : RlocsAreFew
rlocs_are_few bytes v e = ((request_good bytes v e).some, (request_good bytes v e).few)
