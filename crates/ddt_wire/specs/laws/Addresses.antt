-- An address, and addresses one after the other, that are read are spelled so, what is spelled is read again, and what
-- is written spells them.
use Rattle.std.proofs.Common.{◌≡◌, ℕ, zero, suc, ◌+◌, ◌^◌, ◌<◌, ◌≤◌, false, cond, ltb, eqb, List, [], ◌∷◌, ◌++◌, length, take, drop, Result, Ok, Err, refl, sym, ap, subst, ◌∙◌, arith, inl, inr, length-append, append_assoc}
use Rattle.std.specs.Int.{w16, to_be_bytes, bytes_high_first}
use Rattle.std.specs.List.{flat_map, AllByRecursion}
use Rattle.std.proofs.lemmas.Bool.{ltb-false, le-ltb, eqb-true}
use Rattle.std.proofs.lemmas.List.Concat.{flat_map-cons}
use Rattle.std.proofs.Math.Seq.{drop-append_seam}
use Rattle.byteorder.specs.Endian.{big_number}
use Rattle.byteorder.specs.Numbers.{big_number-reads_back}
use Rattle.ddt_path.specs.declared.locator.Locator.{Locator}
use Rattle.ddt_path.specs.declared.locator.Locator.TheVariants.{V4, V6}
use Rattle.ddt_path.specs.Steps.{◌>>=◌, IsBytes}
use Rattle.ddt_path.specs.laws.Step.{bind_ok, guard_ok, chosen, ok_is}
use Rattle.ddt_path.specs.laws.Byte.{HasFront, HasFront-then, front_taken, number_taken, number_taken_at, number_fits, IsBytes-drop, IsBytes-take, IsBytes-append, IsBytes-nil, ◌beside◌, IsBytes-number}
use Rattle.ddt_wire.specs.declared.address.AddressFault.{AddressFault}
use Rattle.ddt_wire.specs.declared.address.AddressFault.TheVariants.{Short, Family}
use Rattle.ddt_wire.specs.Address.{family_and_address, IsAddress, address_at}
use Rattle.ddt_wire.specs.Addresses.{SpellsBehind, SpellsAddresses, written_behind, behind_at, addresses_at}

-- ---- one address

-- what was read of an address
pub record IsRead (bytes : List ℕ) (a : Locator) (n : ℕ) : Type 0 where
  pub takes : HasFront bytes (family_and_address a) n
  pub fits : IsAddress a

-- an address of so many bytes, behind its AFI
abbrev here : (ℕ → Locator) → ℕ → List ℕ → Result (Locator × ℕ) AddressFault
here address size bytes = cond (ltb (length bytes) (2 + size)) (Err Short) (Ok (address (big_number size (drop 2 bytes)), 2 + size))

here_takes : (address : ℕ → Locator) (family size : ℕ) (bytes : List ℕ) (x : Locator × ℕ) → ((n : ℕ) → family_and_address (address n) ≡ to_be_bytes w16 family ++ bytes_high_first size n)
    → ((n : ℕ) → n < 256 ^ size → IsAddress (address n)) → IsBytes bytes → big_number 2 bytes ≡ family → here address size bytes ≡ Ok x → IsRead bytes x.0 x.1
here_takes address family size bytes x text small fits named e =
    let n = big_number size (drop 2 bytes) in
    let g = guard_ok (ltb (length bytes) (2 + size)) Short (Ok (address n, 2 + size)) x e in
    let long : 2 + size ≤ length bytes = ltb-false _ _ g.0 in
    let front : HasFront bytes (to_be_bytes w16 family) 2 = subst (λ (k : ℕ). HasFront bytes (bytes_high_first 2 k) 2) named (number_taken 2 bytes fits (omega arith)) in
    let whole = HasFront-then bytes (to_be_bytes w16 family) (bytes_high_first size n) 2 size front (number_taken_at 2 size bytes fits long) in
    let made : IsRead bytes (address n) (2 + size) = record { takes = subst (λ (t : List ℕ). HasFront bytes t (2 + size)) (sym (text n)) whole; fits = small n (number_fits size (drop 2 bytes) (IsBytes-drop 2 bytes fits)) } in
    subst (λ (y : Locator × ℕ). IsRead bytes y.0 y.1) (ok_is {E = AddressFault} (address n, 2 + size) x g.1) made

pub address_takes : (bytes : List ℕ) (x : Locator × ℕ) → IsBytes bytes → address_at bytes ≡ Ok x → IsRead bytes x.0 x.1
unfolding address_at
address_takes bytes x fits e =
    let g = guard_ok (ltb (length bytes) 2) Short (cond (eqb (big_number 2 bytes) 1) (here V4 4 bytes) (cond (eqb (big_number 2 bytes) 2) (here V6 16 bytes) (Err Family))) x e in
    elim (chosen (eqb (big_number 2 bytes) 1) (here V4 4 bytes) (cond (eqb (big_number 2 bytes) 2) (here V6 16 bytes) (Err Family)) (Ok x) g.1) [
      | inl p ↦ here_takes V4 1 4 bytes x (λ n. refl) (λ n lt. lt) fits (eqb-true _ _ p.0) p.1
      | inr p ↦ elim (chosen (eqb (big_number 2 bytes) 2) (here V6 16 bytes) (Err Family) (Ok x) p.1) [
        | inl q ↦ here_takes V6 2 16 bytes x (λ n. refl) (λ n lt. lt) fits (eqb-true _ _ q.0) q.1
        | inr q ↦ absurd cc
      ]
    ]

v4_read : (bytes : List ℕ) (x : ℕ) → 6 ≤ length bytes → big_number 2 bytes ≡ 1 → big_number 4 (drop 2 bytes) ≡ x → address_at bytes ≡ Ok (V4 x, 6)
unfolding address_at
v4_read bytes x long family number =
    let two : ltb (length bytes) 2 ≡ false = le-ltb _ _ (omega arith) in
    let six : ltb (length bytes) 6 ≡ false = le-ltb _ _ long in
    rw (two, family, six, number) refl

v6_read : (bytes : List ℕ) (x : ℕ) → 18 ≤ length bytes → big_number 2 bytes ≡ 2 → big_number 16 (drop 2 bytes) ≡ x → address_at bytes ≡ Ok (V6 x, 18)
unfolding address_at
v6_read bytes x long family number =
    let two : ltb (length bytes) 2 ≡ false = le-ltb _ _ (omega arith) in
    let eighteen : ltb (length bytes) 18 ≡ false = le-ltb _ _ long in
    rw (two, family, eighteen, number) refl

pub address_again : (a : Locator) (rest : List ℕ) → IsAddress a → address_at (family_and_address a ++ rest) ≡ Ok (a, length (family_and_address a))
address_again (V4 x) rest fits = v4_read (family_and_address (V4 x) ++ rest) x (omega arith) refl (big_number-reads_back 4 x rest fits)
address_again (V6 x) rest fits = v6_read (family_and_address (V6 x) ++ rest) x (omega arith) refl (big_number-reads_back 16 x rest fits)

pub address_is_bytes : (a : Locator) → IsBytes (family_and_address a)
address_is_bytes (V4 a) = IsBytes-number 2 1 beside IsBytes-number 4 a
address_is_bytes (V6 a) = IsBytes-number 2 2 beside IsBytes-number 16 a

-- ---- several that are read are spelled so

-- what was read of an address behind others
abbrev IsBehind : ℕ → List ℕ → Locator → ℕ → Type 0
IsBehind before bytes a n = (text : List ℕ) × HasFront bytes text n × SpellsBehind before text a

behind_takes : (before : ℕ) (bytes : List ℕ) (x : Locator × ℕ) → IsBytes bytes → behind_at before bytes ≡ Ok x → IsBehind before bytes x.0 x.1
unfolding behind_at
behind_takes before bytes x fits e =
    let g = guard_ok (ltb (length bytes) before) Short (address_at (drop before bytes) >>= λ a. Ok (a.0, before + a.1)) x e in
    let b = bind_ok (address_at (drop before bytes)) (λ a. Ok (a.0, before + a.1)) x g.1 in
    let r = address_takes (drop before bytes) b.0 (IsBytes-drop before bytes fits) b.1 in
    let front = front_taken before bytes (ltb-false _ _ g.0) in
    let text = take before bytes ++ family_and_address b.0.0 in
    let s : SpellsBehind before text b.0.0 = record { ignored = take before bytes; count = front.len; are_bytes = IsBytes-take before bytes fits; fits = r.fits; whole = refl } in
    let made : IsBehind before bytes b.0.0 (before + b.0.1) = (text, HasFront-then bytes (take before bytes) (family_and_address b.0.0) before b.0.1 front r.takes, s) in
    subst (λ (y : Locator × ℕ). IsBehind before bytes y.0 y.1) (ok_is {E = AddressFault} (b.0.0, before + b.0.1) x b.2) made

-- what was read of several
pub record AreAddresses (before : ℕ) (bytes : List ℕ) (ls : List Locator) (rest : List ℕ) : Type 0 where
  pub front : List ℕ
  pub spelled : SpellsAddresses before front ls
  pub parts : bytes ≡ front ++ rest
  pub rest_fits : IsBytes rest

pub addresses_take : (before k : ℕ) (bytes : List ℕ) (x : List Locator × List ℕ) → IsBytes bytes → addresses_at before k bytes ≡ Ok x → AreAddresses before bytes x.0 x.1 × (length x.0 ≡ k)
unfolding addresses_at
addresses_take before zero bytes x fits e =
    let made : AreAddresses before bytes [] bytes = record { front = []; spelled = refl; parts = refl; rest_fits = fits } in
    subst (λ (y : List Locator × List ℕ). AreAddresses before bytes y.0 y.1 × (length y.0 ≡ 0)) (ok_is {E = AddressFault} ([], bytes) x e) (made, refl)
addresses_take before (suc k) bytes x fits e =
    let a = bind_ok (behind_at before bytes) (λ first. addresses_at before k (drop first.1 bytes) >>= λ others. Ok (first.0 ∷ others.0, others.1)) x e in
    let b = bind_ok (addresses_at before k (drop a.0.1 bytes)) (λ others. Ok (a.0.0 ∷ others.0, others.1)) x a.2 in
    let first = behind_takes before bytes a.0 fits a.1 in
    let others = addresses_take before k (drop a.0.1 bytes) b.0 (IsBytes-drop a.0.1 bytes fits) b.1 in
    let whole = first.1.parts ∙ ap (λ (t : List ℕ). first.0 ++ t) others.0.parts ∙ sym (append_assoc first.0 others.0.front b.0.1) in
    let made : AreAddresses before bytes (a.0.0 ∷ b.0.0) b.0.1 = record { front = first.0 ++ others.0.front; spelled = (first.0, others.0.front, first.2, others.0.spelled, refl); parts = whole; rest_fits = others.0.rest_fits } in
    subst (λ (y : List Locator × List ℕ). AreAddresses before bytes y.0 y.1 × (length y.0 ≡ suc k)) (ok_is {E = AddressFault} (a.0.0 ∷ b.0.0, b.0.1) x b.2) (made, ap suc others.1)

-- ---- what is spelled is read again

behind_read : (before : ℕ) (bytes : List ℕ) (a : Locator) (rest : List ℕ) → before ≤ length bytes → drop before bytes ≡ family_and_address a ++ rest → IsAddress a → behind_at before bytes ≡ Ok (a, before + length (family_and_address a))
unfolding behind_at
behind_read before bytes a rest long tail fits =
    let within : ltb (length bytes) before ≡ false = le-ltb _ _ long in
    rw (within, tail, address_again a rest fits) refl

behind_again : (before : ℕ) (front : List ℕ) (a : Locator) (rest : List ℕ) → SpellsBehind before front a → behind_at before (front ++ rest) ≡ Ok (a, length front)
behind_again before front a rest s =
    let text = family_and_address a in
    let bytes = s.ignored ++ (text ++ rest) in
    let regrouped : front ++ rest ≡ bytes = ap (λ (t : List ℕ). t ++ rest) s.whole ∙ append_assoc s.ignored text rest in
    let tail : drop before bytes ≡ text ++ rest = ap (λ (n : ℕ). drop n bytes) (sym s.count) ∙ drop-append_seam s.ignored (text ++ rest) in
    let long : before ≤ length bytes = omega (arith, s.count, length-append s.ignored (text ++ rest)) in
    let len : before + length text ≡ length front = omega (arith, s.count, ap length s.whole, length-append s.ignored text) in
    ap (behind_at before) regrouped ∙ behind_read before bytes a rest long tail s.fits ∙ ap (λ (n : ℕ). Ok (a, n)) len

pub addresses_again : (before : ℕ) (front : List ℕ) (ls : List Locator) (rest : List ℕ) → SpellsAddresses before front ls → addresses_at before (length ls) (front ++ rest) ≡ Ok (ls, rest)
unfolding addresses_at
addresses_again before front [] rest s = rw s refl
addresses_again before front (l ∷ ls) rest (f, g, one, others, e) =
    let regrouped : front ++ rest ≡ f ++ (g ++ rest) = ap (λ (t : List ℕ). t ++ rest) e ∙ append_assoc f g rest in
    ap (addresses_at before (suc (length ls))) regrouped
    ∙ rw (behind_again before f l (g ++ rest) one, drop-append_seam f (g ++ rest), addresses_again before g ls rest others) refl

-- ---- what is written, and bytes

pub addresses_spell : (before : List ℕ) (ls : List Locator) → IsBytes before → AllByRecursion IsAddress ls → SpellsAddresses (length before) (flat_map (written_behind before) ls) ls
addresses_spell before [] fits h = refl
addresses_spell before (l ∷ ls) fits h =
    let one : SpellsBehind (length before) (written_behind before l) l = record { ignored = before; count = refl; are_bytes = fits; fits = h.0; whole = refl } in
    (written_behind before l, flat_map (written_behind before) ls, one, addresses_spell before ls fits h.1, flat_map-cons (written_behind before) l ls)

pub addresses_are_bytes : (before : ℕ) (ls : List Locator) (bytes : List ℕ) → SpellsAddresses before bytes ls → IsBytes bytes
addresses_are_bytes before [] bytes s = subst IsBytes (sym s) IsBytes-nil
addresses_are_bytes before (l ∷ ls) bytes (f, g, one, others, e) =
    let first = subst IsBytes (sym one.whole) (IsBytes-append one.ignored (family_and_address l) one.are_bytes (address_is_bytes l)) in
    subst IsBytes (sym e) (IsBytes-append f g first (addresses_are_bytes before ls g others))
