-- Locators that pass for one are one; which locators a list lists.
use Rattle.std.proofs.Common.{◌≡◌, ℕ, zero, suc, ◌<◌, true, List, [], ◌∷◌, length, get_or, ap, refl, arith}
use Rattle.std.proofs.lemmas.Bool.{false≢true, eqb-true, eq-eqb, or_right}
use Rattle.ddt_path.specs.declared.locator.Locator.{Locator}
use Rattle.ddt_path.specs.declared.locator.Locator.TheVariants.{V4, V6}
use Rattle.ddt_path.specs.Locators.{is_same_locator, lists}

pub same_locator : (m l : Locator) → is_same_locator m l ≡ true → m ≡ l
same_locator (V4 a) (V4 b) e = ap (λ (n : ℕ). V4 n) (eqb-true a b e)
same_locator (V6 a) (V6 b) e = ap (λ (n : ℕ). V6 n) (eqb-true a b e)
same_locator (V4 a) (V6 b) e = absurd (false≢true e)
same_locator (V6 a) (V4 b) e = absurd (false≢true e)

pub is_same_locator_self : (l : Locator) → is_same_locator l l ≡ true
is_same_locator_self (V4 a) = eq-eqb a a refl
is_same_locator_self (V6 a) = eq-eqb a a refl

-- the locator at a place of a list is listed
pub lists_at : (ls : List Locator) (i : ℕ) (d : Locator) → i < length ls → lists ls (get_or ls i d) ≡ true
lists_at [] i d lt = absurd (omega arith)
lists_at (l ∷ ls) zero d lt = rw (is_same_locator_self l) refl
lists_at (l ∷ ls) (suc i) d lt = or_right (is_same_locator l (get_or ls i d)) _ (lists_at ls i d (omega arith))
