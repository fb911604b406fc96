-- No prefix goes on behind the whole path of an identifier.
use Rattle.std.proofs.Common.{◌≡◌, ℕ, ◌≤◌, Bool, true, false, List, ◌∷◌, length, take, refl, sym, ap, ◌∙◌, arith}
use Rattle.std.specs.Prelude.{◌||◌}
use Rattle.std.proofs.lemmas.Bool.{false≢true}
use Rattle.std.proofs.lemmas.List.{length-take, length-append}
use Rattle.ddt_path.specs.declared.locator.Locator.{Locator}
use Rattle.ddt_path.specs.declared.locator.Locator.TheVariants.{V4, V6}
use Rattle.ddt_path.specs.declared.form.Form.{Form}
use Rattle.ddt_path.specs.declared.form.Form.TheVariants.{Range, Block}
use Rattle.ddt_path.specs.declared.xeid.Xeid.{Xeid}
use Rattle.ddt_path.specs.Path.{digits, path, address_width, address_digits, address_path, family, xeid_path, is_path, is_prefix_path}
use Rattle.ddt_path.specs.DigitLemmas.{length-digits}
use Rattle.ddt_path.specs.Covers.{covers, overlaps}
use Rattle.ddt_path.specs.laws.Cover.{covers_self, covered_same, covers_rest}
use Rattle.ddt_path.specs.laws.PathTest.{identifier_of, form_of_prefix, prefix_that_covers}

block_no_longer : (a b : Locator) (len : ℕ) (ds : List ℕ) → covers (family a ∷ ds) (family b ∷ take len (address_digits b)) ≡ true → length ds ≡ address_width a → length (take len (address_digits b)) ≤ address_width a
block_no_longer (V4 a) (V4 b) len ds c n = omega (arith, length-take len (digits 32 b), length-digits 32 b)
block_no_longer (V4 a) (V6 b) len ds c n = absurd (false≢true c)
block_no_longer (V6 a) (V4 b) len ds c n = absurd (false≢true c)
block_no_longer (V6 a) (V6 b) len ds c n = omega (arith, length-take len (digits 128 b), length-digits 128 b)

form_no_longer : (form : Form) (x : Xeid) → covers (xeid_path x) (path form) ≡ true → length (path form) ≤ length (xeid_path x)
form_no_longer (Range iid len) x c =
    omega (arith, length-take len (digits 32 iid), length-digits 32 iid, length-append (digits 32 x.iid) (address_path x.address), length-digits 32 x.iid)
form_no_longer (Block iid a len) x c =
    let ds = address_digits x.address in
    let n : length ds ≡ address_width x.address = length-digits (address_width x.address) _ in
    let rest = covers_rest (digits 32 x.iid) (digits 32 iid) (family x.address ∷ ds) (family a ∷ take len (address_digits a)) (length-digits 32 x.iid ∙ sym (length-digits 32 iid)) c in
    let le = block_no_longer x.address a len ds rest n in
    omega (arith, length-append (digits 32 iid) (family a ∷ take len (address_digits a)), length-digits 32 iid, length-append (digits 32 x.iid) (address_path x.address), length-digits 32 x.iid)

-- a prefix that begins with an identifier is that identifier
no_longer : (x p : List ℕ) → is_path x ≡ true → is_prefix_path p ≡ true → covers x p ≡ true → x ≡ p
no_longer x p e h c =
    let y = identifier_of x e in
    let f = form_of_prefix p h in
    let d : covers (xeid_path y.0) (path f.0) ≡ true = rw (y.2, f.2) c in
    let le : length (path f.0) ≤ length (xeid_path y.0) = form_no_longer f.0 y.0 d in
    sym y.2 ∙ covered_same (xeid_path y.0) (path f.0) d le ∙ f.2

-- and one identifier begins with no other
pub one_identifier : (x y : List ℕ) → is_path x ≡ true → is_path y ≡ true → covers x y ≡ true → x ≡ y
one_identifier x y e f c = no_longer x y e (prefix_that_covers y y f (covers_self y)) c

or_same : (a b : Bool) → (b ≡ true → a ≡ true) → (a || b) ≡ a
or_same true b h = refl
or_same false true h = sym (h refl)
or_same false false h = refl

-- a prefix overlaps an identifier if and only if it covers it
pub overlaps_whole : (x p : List ℕ) → is_path x ≡ true → is_prefix_path p ≡ true → overlaps p x ≡ covers p x
overlaps_whole x p e h = or_same (covers p x) (covers x p) (λ c. ap (λ (q : List ℕ). covers q x) (sym (no_longer x p e h c)) ∙ covers_self x)
