-- Paths that share a front.
use Rattle.std.proofs.Common.{◌≡◌, ℕ, zero, suc, ◌+◌, ◌<◌, ◌≤◌, Bool, true, false, cond, List, [], ◌∷◌, ◌++◌, length, take, refl, sym, ap, ◌∙◌, arith, inl, inr}
use Rattle.std.specs.Prelude.{min, nat_le, ◌==◌, ◌&&◌, ◌≢◌}
use Rattle.std.proofs.lemmas.Bool.{eq-eqb, ne_eqb, cases_eq, cases_lt, le-leb, false≢true}
use Rattle.std.proofs.lemmas.Bool.Decides.{nat_tests}
use Rattle.std.proofs.lemmas.List.{length-take, take_all}
use Rattle.std.specs.Cmp.{nat_eq_equiv}
use Rattle.ddt_path.specs.Covers.{shared_len, covers, is_same_path}
use Rattle.ddt_path.specs.laws.Cover.{eqb_self}

pub shared_len-le : (p q : List ℕ) → shared_len p q ≤ length p
shared_len-le [] q = omega arith
shared_len-le (d ∷ p) [] = omega arith
shared_len-le (d ∷ p) (e ∷ q) = elim (d == e) as (λ b. cond b (1 + shared_len p q) 0 ≤ suc (length p)) [ true ↦ omega (arith, shared_len-le p q) | false ↦ omega arith ]

pub shared_len_le_second : (p q : List ℕ) → shared_len p q ≤ length q
shared_len_le_second [] q = omega arith
shared_len_le_second (d ∷ p) [] = omega arith
shared_len_le_second (d ∷ p) (e ∷ q) = elim (d == e) as (λ b. cond b (1 + shared_len p q) 0 ≤ suc (length q)) [ true ↦ omega (arith, shared_len_le_second p q) | false ↦ omega arith ]

pub shared_len-sym : (p q : List ℕ) → shared_len p q ≡ shared_len q p
shared_len-sym [] [] = refl
shared_len-sym [] (e ∷ q) = refl
shared_len-sym (d ∷ p) [] = refl
shared_len-sym (d ∷ p) (e ∷ q) = ap (λ (b : Bool). cond b (1 + shared_len p q) 0) (nat_eq_equiv.symm d e) ∙ ap (λ (n : ℕ). cond (e == d) (1 + n) 0) (shared_len-sym p q)

suc_le_suc : (m n : ℕ) → nat_le m n ≡ nat_le (suc m) (1 + n)
suc_le_suc m n = grind (arith, nat_tests)

no_suc_le : (m : ℕ) → false ≡ nat_le (suc m) 0
no_suc_le m = grind (arith, nat_tests)

nil_le : (m : ℕ) → true ≡ nat_le 0 m
nil_le m = grind (arith, nat_tests)

pub covers_by_shared : (p q : List ℕ) → covers p q ≡ nat_le (length p) (shared_len p q)
covers_by_shared [] q = nil_le 0
covers_by_shared (d ∷ p) [] = no_suc_le (length p)
covers_by_shared (d ∷ p) (e ∷ q) =
    elim (d == e) as (λ b. (b && covers p q) ≡ nat_le (suc (length p)) (cond b (1 + shared_len p q) 0)) [
      | true ↦ covers_by_shared p q ∙ suc_le_suc (length p) (shared_len p q)
      | false ↦ no_suc_le (length p)
    ]

-- a shared front, and what the rests share
pub shared_len-append : (p q r : List ℕ) → shared_len (p ++ q) (p ++ r) ≡ length p + shared_len q r
shared_len-append [] q r = omega arith
shared_len-append (d ∷ p) q r = rw (eqb_self d, shared_len-append p q r) (omega arith)

shorter : (a b n : ℕ) → 1 + min (min a b) n ≡ min (min (suc a) (suc b)) (1 + n)
shorter a b n = omega arith

pub shared_len-take : (l m : ℕ) (p q : List ℕ) → shared_len (take l p) (take m q) ≡ min (min l m) (shared_len p q)
shared_len-take zero m p q = omega arith
shared_len-take (suc l) m [] q = omega arith
shared_len-take (suc l) zero (d ∷ p) [] = omega arith
shared_len-take (suc l) (suc m) (d ∷ p) [] = omega arith
shared_len-take (suc l) zero (d ∷ p) (e ∷ q) = omega arith
shared_len-take (suc l) (suc m) (d ∷ p) (e ∷ q) =
    elim (d == e) as (λ b. cond b (1 + shared_len (take l p) (take m q)) 0 ≡ min (min (suc l) (suc m)) (cond b (1 + shared_len p q) 0)) [
      | true ↦ rw (shared_len-take l m p q) (shorter l m (shared_len p q))
      | false ↦ omega arith
    ]

pub shared_len-differ : (d e : ℕ) (p q : List ℕ) → d ≢ e → shared_len (d ∷ p) (e ∷ q) ≡ 0
shared_len-differ d e p q h = rw (ne_eqb d e h) refl

tests_of_min : (l m n s : ℕ) → l ≤ n → nat_le (min l n) (min (min l m) s) ≡ (nat_le l m && nat_le l s)
tests_of_min l m n s h = grind (arith, nat_tests)

-- a front covers what shares all of it
pub covers-take : (l m : ℕ) (p q : List ℕ) → l ≤ length p → covers (take l p) (take m q) ≡ (nat_le l m && nat_le l (shared_len p q))
covers-take l m p q le = covers_by_shared (take l p) (take m q) ∙ rw (shared_len-take l m p q, length-take l p) (tests_of_min l m (length p) (shared_len p q) le)

pub covers-front : (n : ℕ) (p q : List ℕ) → n ≤ length p → covers (take n p) q ≡ (nat_le n (length q) && nat_le n (shared_len p q))
covers-front n p q le = ap (covers (take n p)) (sym (take_all (length q) q (omega arith))) ∙ covers-take n (length q) p q le

-- what doesn't cover a path shares less than all of its digits with it
pub shares_less : (p q : List ℕ) → covers p q ≡ false → shared_len p q < length p
shares_less p q apart =
    elim (cases_lt (shared_len p q) (length p)) [
      | inl lt ↦ lt
      | inr ge ↦ absurd (false≢true (sym apart ∙ covers_by_shared p q ∙ le-leb (length p) (shared_len p q) ge))
    ]

-- behind two lists of one length: what the rests share counts where the lists are the same
pub shared_len-append_all : (p q r s : List ℕ) → length p ≡ length q → shared_len p q ≡ length p → shared_len (p ++ r) (q ++ s) ≡ length p + shared_len r s
shared_len-append_all [] [] r s n = λ e. omega arith
shared_len-append_all [] (d ∷ q) r s n = absurd (omega arith)
shared_len-append_all (d ∷ p) [] r s n = absurd (omega arith)
shared_len-append_all (d ∷ p) (f ∷ q) r s n =
    elim (d == f) as (λ b. cond b (1 + shared_len p q) 0 ≡ suc (length p) → cond b (1 + shared_len (p ++ r) (q ++ s)) 0 ≡ suc (length p) + shared_len r s) [
      | true ↦ λ e. let h : shared_len (p ++ r) (q ++ s) ≡ length p + shared_len r s = shared_len-append_all p q r s (omega arith) (omega arith) in omega arith
      | false ↦ λ e. absurd (omega arith)
    ]

pub shared_len-append_some : (p q r s : List ℕ) → length p ≡ length q → shared_len p q ≢ length p → shared_len (p ++ r) (q ++ s) ≡ shared_len p q
shared_len-append_some [] q r s n = λ apart. absurd (apart refl)
shared_len-append_some (d ∷ p) [] r s n = absurd (omega arith)
shared_len-append_some (d ∷ p) (f ∷ q) r s n =
    elim (d == f) as (λ b. cond b (1 + shared_len p q) 0 ≢ suc (length p) → cond b (1 + shared_len (p ++ r) (q ++ s)) 0 ≡ cond b (1 + shared_len p q) 0) [
      | true ↦ λ apart. ap (λ (k : ℕ). 1 + k) (shared_len-append_some p q r s (omega arith) (λ e. apart (omega (arith, e))))
      | false ↦ λ apart. refl
    ]

-- two paths are equal where each covers the other
pub covers_both : (p q : List ℕ) → (covers p q && covers q p) ≡ is_same_path p q
covers_both [] [] = refl
covers_both [] (e ∷ q) = refl
covers_both (d ∷ p) [] = refl
covers_both (d ∷ p) (e ∷ q) =
    elim (cases_eq d e) [
      | inl same ↦ rw (eq-eqb d e same, eq-eqb e d (sym same)) (covers_both p q)
      | inr apart ↦ rw (ne_eqb d e apart) refl
    ]

pub not_covered : (p q : List ℕ) → covers p q ≡ false → false ≡ is_same_path p q
not_covered p q e = sym (ap (λ (b : Bool). b && covers q p) e) ∙ covers_both p q
