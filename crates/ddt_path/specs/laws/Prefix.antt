-- Forms that are cut from identifiers, and the paths that they name.
use Rattle.std.proofs.Common.{◌≡◌, ℕ, zero, suc, ◌+◌, ◌-◌, ◌^◌, ◌<◌, ◌≤◌, true, false, List, [], ◌∷◌, ◌++◌, length, take, drop, refl, sym, ap, subst, ◌∙◌, arith, Ok, Err, inl, inr}
use Rattle.std.specs.Prelude.{replicate, ◌==◌, ◌&&◌, nat_le, nat_lt, ◌≢◌, min}
use Rattle.std.specs.Int.Digits.{number_from_digits}
use Rattle.std.proofs.lemmas.Bool.{le-leb, lt-leb, le-ltb, cond-true, cond-false, false_from_ne_true, cases_eq, eq-eqb, ne_eqb}
use Rattle.std.proofs.lemmas.List.{take-append-drop, length-append, length-take, length-drop, take_at, drop_at, take-take, take-append-le}
use Rattle.ddt_path.specs.declared.locator.Locator.{Locator}
use Rattle.ddt_path.specs.declared.locator.Locator.TheVariants.{V4, V6}
use Rattle.ddt_path.specs.declared.xeid.Xeid.{Xeid}
use Rattle.ddt_path.specs.declared.form.Form.{Form}
use Rattle.ddt_path.specs.declared.form.Form.TheVariants.{Range, Block}
use Rattle.ddt_path.specs.declared.form.PrefixFault.TheVariants.{TailNotZero}
use Rattle.ddt_path.specs.Path.{digits, are_zero, path, IsForm, family, address_digits, address_width, address_number, address_path, xeid_path, prefix_of, form_width, form_len, form_tail}
use Rattle.ddt_path.specs.DigitLemmas.{length-digits, number_after-digits}
use Rattle.ddt_path.specs.FormLemmas.{are_zero-replicate, mod_small, whole, none_left, take_len}
use Rattle.ddt_path.specs.Covers.{covers, shared_len}
use Rattle.ddt_path.specs.laws.Share.{covers-take, shared_len-take, shared_len-le, shared_len_le_second, covers_by_shared}

pub replicate-are_zero : (n : ℕ) → are_zero (replicate n 0) ≡ true
replicate-are_zero zero = refl
replicate-are_zero (suc n) = replicate-are_zero n

-- a list that is the front of another with zeros behind it
abbrev pub IsFront : ℕ → ℕ → List ℕ → List ℕ → Type 0
IsFront w len front ds = front ≡ take len ds ++ replicate (w - len) 0

front_len : (w len : ℕ) (ds : List ℕ) → length ds ≡ w → len ≤ w → length (take len ds) ≡ len
front_len w len ds n le = length-take len ds ∙ omega arith

pub take-front : (w len : ℕ) (front ds : List ℕ) → length ds ≡ w → len ≤ w → IsFront w len front ds → take len front ≡ take len ds
take-front w len front ds n le e = ap (take len) e ∙ take_at (take len ds) (replicate (w - len) 0) len (front_len w len ds n le)

pub drop-front : (w len : ℕ) (front ds : List ℕ) → length ds ≡ w → len ≤ w → IsFront w len front ds → are_zero (drop len front) ≡ true
drop-front w len front ds n le e = ap (λ (es : List ℕ). are_zero (drop len es)) e ∙ ap are_zero (drop_at (take len ds) (replicate (w - len) 0) len (front_len w len ds n le)) ∙ replicate-are_zero (w - len)

-- a list whose digits past len are 0 is its own front
pub front_of-self : (w len : ℕ) (ds : List ℕ) → length ds ≡ w → are_zero (drop len ds) ≡ true → ds ≡ take len ds ++ replicate (w - len) 0
front_of-self w len ds n zeros =
    sym (take-append-drop len ds) ∙ ap (λ (es : List ℕ). take len ds ++ es) (are_zero-replicate (drop len ds) zeros ∙ ap (λ (k : ℕ). replicate k 0) (length-drop len ds ∙ ap (λ (k : ℕ). k - len) n))

small_mod : (x w : ℕ) → x < 2 ^ w → number_from_digits 2 (digits w x) ≡ x
small_mod x w h = number_after-digits w 0 x ∙ mod_small x w h

-- two numbers of the same digits are one
pub digits-injective : (w a b : ℕ) → a < 2 ^ w → b < 2 ^ w → digits w a ≡ digits w b → a ≡ b
digits-injective w a b ha hb e = sym (small_mod a w ha) ∙ ap (number_from_digits 2) e ∙ small_mod b w hb

pub tail_not_zero : (w len x front : ℕ) → x < 2 ^ w → front < 2 ^ w → IsFront w len (digits w front) (digits w x) → front ≢ x → are_zero (drop len (digits w x)) ≡ false
tail_not_zero w len x front hx hf e apart =
    false_from_ne_true (are_zero (drop len (digits w x))) (λ zeros. apart (digits-injective w front x hf hx (e ∙ sym (front_of-self w len (digits w x) (length-digits w x) zeros))))

-- ---- the path of an identifier

pub length-address_digits : (a : Locator) → length (address_digits a) ≡ address_width a
length-address_digits a = length-digits (address_width a) (address_number a)

pub length-xeid_path : (x : Xeid) → length (xeid_path x) ≡ 33 + address_width x.address
length-xeid_path x = length-append (digits 32 x.iid) (address_path x.address) ∙ rw (length-digits 32 x.iid) (omega (arith, length-address_digits x.address))

pub take-xeid_path-short : (x : Xeid) (len : ℕ) → len ≤ 32 → take len (xeid_path x) ≡ take len (digits 32 x.iid)
take-xeid_path-short x len le = take-append-le len (digits 32 x.iid) (address_path x.address) (omega (arith, length-digits 32 x.iid))

take-append-past : (p q : List ℕ) (n k : ℕ) → length p ≡ n → take (n + k) (p ++ q) ≡ p ++ take k q
take-append-past [] q n k e = ap (λ (m : ℕ). take m q) (omega arith)
take-append-past (d ∷ p) q zero k e = absurd (omega arith)
take-append-past (d ∷ p) q (suc n) k e =
    let m : suc n + k ≡ suc (n + k) = omega arith in
    rw m (ap (λ (r : List ℕ). d ∷ r) (take-append-past p q n k (omega arith)))

pub take-xeid_path-long : (x : Xeid) (len : ℕ) → 33 ≤ len → take len (xeid_path x) ≡ digits 32 x.iid ++ (family x.address ∷ take (len - 33) (address_digits x.address))
take-xeid_path-long x len le =
    let e : len ≡ 32 + suc (len - 33) = omega arith in
    ap (λ (n : ℕ). take n (xeid_path x)) e ∙ take-append-past (digits 32 x.iid) (address_path x.address) 32 (suc (len - 33)) (length-digits 32 x.iid)

-- ---- cut

pub cut_long : (x : Xeid) (len : ℕ) (a : Locator) → 33 ≤ len → len ≤ length (xeid_path x) → family a ≡ family x.address → address_width a ≡ address_width x.address
    → IsFront (address_width x.address) (len - 33) (address_digits a) (address_digits x.address)
    → digits 32 x.iid ++ (family a ∷ take (len - 33) (address_digits a)) ≡ take len (xeid_path x)
cut_long x len a low high f w e =
    let n = length-address_digits x.address in
    let le : len - 33 ≤ address_width x.address = omega (arith, length-xeid_path x) in
    rw (f, take-front (address_width x.address) (len - 33) (address_digits a) (address_digits x.address) n le e) (sym (take-xeid_path-long x len low))

pub cut_long_tail : (x : Xeid) (len : ℕ) (a : Locator) → len ≤ address_width x.address
    → IsFront (address_width x.address) len (address_digits a) (address_digits x.address) → are_zero (drop len (address_digits a)) ≡ true
cut_long_tail x len a le e = drop-front (address_width x.address) len (address_digits a) (address_digits x.address) (length-address_digits x.address) le e

-- ---- host

pub host_path : (x : Xeid) → digits 32 x.iid ++ (family x.address ∷ take (address_width x.address) (address_digits x.address)) ≡ xeid_path x
host_path x = ap (λ (ds : List ℕ). digits 32 x.iid ++ (family x.address ∷ ds)) (whole (address_width x.address) (address_number x.address))

pub host_tail : (a : Locator) → are_zero (drop (address_width a) (address_digits a)) ≡ true
host_tail a = ap are_zero (none_left (address_width a) (address_number a))

-- ---- the length of a form's path, and an identifier inside

pub length-range : (iid len : ℕ) → len ≤ 32 → length (path (Range iid len)) ≡ len
length-range iid len le = take_len 32 len iid le

pub length-block : (iid : ℕ) (a : Locator) (len : ℕ) → len ≤ address_width a → length (path (Block iid a len)) ≡ 33 + len
length-block iid a len le = length-append (digits 32 iid) (family a ∷ take len (address_digits a)) ∙ rw (length-digits 32 iid) (omega (arith, take_len (address_width a) len (address_number a) le))

pub inner_range : (iid len : ℕ) (a : Locator) → len ≤ 32 → take (length (path (Range iid len))) (xeid_path (record { iid = iid; address = a })) ≡ path (Range iid len)
inner_range iid len a le =
    let x : Xeid = record { iid = iid; address = a } in
    ap (λ (n : ℕ). take n (xeid_path x)) (length-range iid len le) ∙ take-xeid_path-short x len le

pub inner_block : (iid : ℕ) (a : Locator) (len : ℕ) → len ≤ address_width a → take (length (path (Block iid a len))) (xeid_path (record { iid = iid; address = a })) ≡ path (Block iid a len)
inner_block iid a len le =
    let x : Xeid = record { iid = iid; address = a } in
    let e : 33 + len - 33 ≡ len = omega arith in
    ap (λ (n : ℕ). take n (xeid_path x)) (length-block iid a len le) ∙ take-xeid_path-long x (33 + len) (omega arith) ∙ rw e refl

-- ---- what is refused, and what is made

pub prefix_of-tail : (form : Form) → form_len form ≤ form_width form → are_zero (form_tail form) ≡ false → prefix_of form ≡ Err TailNotZero
prefix_of-tail form le tail = cond-false (nat_lt (form_width form) (form_len form)) _ _ (le-ltb _ _ le) ∙ cond-false (are_zero (form_tail form)) _ _ tail

pub prefix_of-made : (form : Form) → form_len form ≤ form_width form → are_zero (form_tail form) ≡ true → prefix_of form ≡ Ok (path form)
prefix_of-made form le tail = cond-false (nat_lt (form_width form) (form_len form)) _ _ (le-ltb _ _ le) ∙ cond-true (are_zero (form_tail form)) _ _ tail

-- ---- covers and what is common, of two paths that are fronts of others

pub covers_of_fronts : (p q x y : List ℕ) → take (length p) x ≡ p → length p ≤ length x → take (length q) y ≡ q → covers p q ≡ (nat_le (length p) (length q) && nat_le (length p) (shared_len x y))
covers_of_fronts p q x y ep lp eq =
    let a = length p in
    let b = length q in
    ap (λ (r : List ℕ). covers r q) (sym ep) ∙ ap (λ (r : List ℕ). covers (take a x) r) (sym eq) ∙ covers-take a b x y lp

pub common_of_fronts : (p q x y : List ℕ) → take (length p) x ≡ p → take (length q) y ≡ q → take (min (min (shared_len x y) (length p)) (length q)) x ≡ take (shared_len p q) p
common_of_fronts p q x y ep eq =
    let a = length p in
    let b = length q in
    let s : shared_len p q ≡ min (min a b) (shared_len x y) =
    ap (λ (r : List ℕ). shared_len r q) (sym ep) ∙ ap (λ (r : List ℕ). shared_len (take a x) r) (sym eq) ∙ shared_len-take a b x y in
    let le : shared_len p q ≤ a = shared_len-le p q in
    let n : min (min (shared_len x y) a) b ≡ shared_len p q = omega arith in
    ap (λ (k : ℕ). take k x) n ∙ sym (take-take (shared_len p q) a x le) ∙ ap (take (shared_len p q)) ep

-- ---- an open prefix

pub length-of_range : (form : Form) (self : List ℕ) (iid len : ℕ) → path form ≡ self → IsForm form → form ≡ Range iid len → len ≡ length self
length-of_range form self iid len view h is =
    let k : IsForm (Range iid len) = subst IsForm is h in
    sym (length-range iid len k.1) ∙ ap (λ (f : Form). length (path f)) (sym is) ∙ ap length view

pub length-of_block : (form : Form) (self : List ℕ) (iid : ℕ) (a : Locator) (len : ℕ) → path form ≡ self → IsForm form → form ≡ Block iid a len → 33 + len ≡ length self
length-of_block form self iid a len view h is =
    let k : IsForm (Block iid a len) = subst IsForm is h in
    sym (length-block iid a len k.2) ∙ ap (λ (f : Form). length (path f)) (sym is) ∙ ap length view

pub inner_of_range : (form : Form) (self : List ℕ) (iid len : ℕ) (a : Locator) → path form ≡ self → IsForm form → form ≡ Range iid len → take (length self) (xeid_path (record { iid = iid; address = a })) ≡ self
inner_of_range form self iid len a view h is =
    let k : IsForm (Range iid len) = subst IsForm is h in
    let v : path (Range iid len) ≡ self = ap path (sym is) ∙ view in
    subst (λ (ds : List ℕ). take (length ds) (xeid_path (record { iid = iid; address = a })) ≡ ds) v (inner_range iid len a k.1)

pub inner_of_block : (form : Form) (self : List ℕ) (iid : ℕ) (a : Locator) (len : ℕ) → path form ≡ self → IsForm form → form ≡ Block iid a len → take (length self) (xeid_path (record { iid = iid; address = a })) ≡ self
inner_of_block form self iid a len view h is =
    let k : IsForm (Block iid a len) = subst IsForm is h in
    let v : path (Block iid a len) ≡ self = ap path (sym is) ∙ view in
    subst (λ (ds : List ℕ). take (length ds) (xeid_path (record { iid = iid; address = a })) ≡ ds) v (inner_block iid a len k.2)

pub inner_range_fits : (form : Form) (self : List ℕ) (iid len : ℕ) (a : Locator) → path form ≡ self → IsForm form → form ≡ Range iid len → length self ≤ length (xeid_path (record { iid = iid; address = a }))
inner_range_fits form self iid len a view h is =
    let k : IsForm (Range iid len) = subst IsForm is h in
    let x : Xeid = record { iid = iid; address = a } in
    omega (arith, length-of_range form self iid len view h is, length-xeid_path x, k.1)

pub inner_block_fits : (form : Form) (self : List ℕ) (iid : ℕ) (a : Locator) (len : ℕ) → path form ≡ self → IsForm form → form ≡ Block iid a len → length self ≤ length (xeid_path (record { iid = iid; address = a }))
inner_block_fits form self iid a len view h is =
    let k : IsForm (Block iid a len) = subst IsForm is h in
    let x : Xeid = record { iid = iid; address = a } in
    omega (arith, length-of_block form self iid a len view h is, length-xeid_path x, k.2)

-- a number is its own front if and only if the digits past it are 0
pub is_front_test : (w len x front : ℕ) → len ≤ w → x < 2 ^ w → front < 2 ^ w → IsFront w len (digits w front) (digits w x) → (front == x) ≡ are_zero (drop len (digits w x))
is_front_test w len x front le hx hf e =
    elim (cases_eq front x) [
      | inl same ↦ eq-eqb front x same ∙ sym (subst (λ (n : ℕ). are_zero (drop len (digits w n)) ≡ true) same (drop-front w len (digits w front) (digits w x) (length-digits w x) le e))
      | inr apart ↦ ne_eqb front x apart ∙ sym (tail_not_zero w len x front hx hf e apart)
    ]

pub covers_shorter : (p q x y : List ℕ) → take (length p) x ≡ p → length p ≤ length x → take (length q) y ≡ q → length p ≤ length q → covers p q ≡ nat_le (length p) (shared_len x y)
covers_shorter p q x y ep lp eq le = covers_of_fronts p q x y ep lp eq ∙ rw (le-leb (length p) (length q) le) refl

pub covers_longer : (p q : List ℕ) → length q < length p → covers p q ≡ false
covers_longer p q lt = covers_by_shared p q ∙ lt-leb (length p) (shared_len p q) (omega (arith, shared_len_le_second p q))

-- an address has at most 128 digits
pub width_most : (a : Locator) → address_width a ≤ 128
width_most (V4 n) = omega arith
width_most (V6 n) = omega arith
