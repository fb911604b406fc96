-- The rows of servers, with the locators of one more group.
use Rattle.std.proofs.Common.{◌≡◌, ℕ, ◌+◌, ◌<◌, Bool, true, false, ◌||◌, ◌==◌, cond, List, length, get_or, take, Option, Some, None, refl, sym, ap, ◌∙◌, arith, inl, inr}
use Rattle.std.specs.Prelude.{◌&&◌, nat_lt}
use Rattle.std.specs.List.{list_any}
use Rattle.std.specs.Ordering.{nat_cmp, is_eq}
use Rattle.std.proofs.lemmas.Bool.{cases_order, lt-ltb, le-ltb, ne_eqb, or_left, or_right, or_from, and_from, and_parts, eq-eqb}
use Rattle.std.proofs.lemmas.List.Folds.{list_any_more}
use Rattle.ddt_path.specs.declared.locator.Locator.{Locator}
use Rattle.ddt_path.specs.declared.locator.Locator.TheVariants.{V4, V6}
use Rattle.ddt_path.specs.Locators.{lists, is_same_locator}
use Rattle.ddt_path.specs.laws.Member.{any_in, in_any}
use Rattle.ddt_register.specs.declared.group.Group.{Group}
use Rattle.ddt_review.specs.Warnings.Found.{IsServerRow, address_of, address_cmp}

module _ (groups : List Group) (i : ℕ) (g : Group) (lt : i < length groups) (is : g ≡ get_or groups i g) (l : Locator) where
  abbrev listed : Group → Bool
  listed h = lists h.locators l

  abbrev listed_at : ℕ → Group → Bool
  listed_at n h = h.row == n && lists h.locators l

  more : list_any listed (take (i + 1) groups) ≡ (list_any listed (take i groups) || listed g)
  more = list_any_more listed groups i g lt ∙ ap (λ (h : Group). list_any listed (take i groups) || listed h) (sym is)

  more_at : (n : ℕ) → list_any (listed_at n) (take (i + 1) groups) ≡ (list_any (listed_at n) (take i groups) || listed_at n g)
  more_at n = list_any_more (listed_at n) groups i g lt
      ∙ ap (λ (h : Group). list_any (listed_at n) (take i groups) || listed_at n h) (sym is)

  pub servers_more : (row : Option ℕ) → IsServerRow (take i groups) l row
      → IsServerRow (take (i + 1) groups) l (cond (lists g.locators l) (Some g.row) row)
  servers_more row before = go (lists g.locators l) refl row before
    where
      go : (b : Bool) → lists g.locators l ≡ b → (row : Option ℕ) → IsServerRow (take i groups) l row
          → IsServerRow (take (i + 1) groups) l (cond b (Some g.row) row)
      go true e row before = more_at g.row ∙ or_right (list_any (listed_at g.row) (take i groups)) (listed_at g.row g)
          (and_from (g.row == g.row) (lists g.locators l) (eq-eqb g.row g.row refl) e)
      go false e None before = more ∙ or_from (list_any listed (take i groups)) (listed g) before e
      go false e (Some n) before = more_at n ∙ or_left (list_any (listed_at n) (take i groups)) (listed_at n g) before

-- two addresses are one if and only if their locators are
nat_ties : (a b : ℕ) → is_eq (nat_cmp a b) ≡ (a == b)
nat_ties a b =
    elim (cases_order a b) [
      | inl same ↦
          let n : nat_lt a b ≡ false = le-ltb a b (omega arith) in
          let e : (a == b) ≡ true = eq-eqb a b same in
          rw (n, e) refl
      | inr (inl lt) ↦
          let n : nat_lt a b ≡ true = lt-ltb a b lt in
          let e : (a == b) ≡ false = ne_eqb a b (omega arith) in
          rw (n, e) refl
      | inr (inr gt) ↦
          let n : nat_lt a b ≡ false = le-ltb a b (omega arith) in
          let e : (a == b) ≡ false = ne_eqb a b (omega arith) in
          rw (n, e) refl
    ]

pub same_address : (k l : Locator) → is_eq (address_cmp (address_of k) (address_of l)) ≡ is_same_locator k l
same_address (V4 a) (V4 b) = nat_ties a b
same_address (V6 a) (V6 b) = nat_ties a b
same_address (V4 a) (V6 b) = refl
same_address (V6 a) (V4 b) = refl

-- one more locator of a group
cond_or : {A : Type 0} (a b : Bool) (x y : A) → cond b x (cond a x y) ≡ cond (a || b) x y
cond_or true true x y = refl
cond_or true false x y = refl
cond_or false true x y = refl
cond_or false false x y = refl

pub locators_more : {A : Type 0} (ls : List Locator) (i : ℕ) (d : Locator) → i < length ls → (l : Locator) (x y : A)
    → cond (is_same_locator (get_or ls i d) l) x (cond (lists (take i ls) l) x y) ≡ cond (lists (take (i + 1) ls) l) x y
locators_more ls i d lt l x y =
    cond_or (lists (take i ls) l) (is_same_locator (get_or ls i d) l) x y
    ∙ ap (λ (b : Bool). cond b x y) (sym (list_any_more (λ (m : Locator). is_same_locator m l) ls i d lt))

-- a locator that has a row is a server's
pub server_some : (groups : List Group) (l : Locator) (n : ℕ) → IsServerRow groups l (Some n)
    → list_any (λ g. lists g.locators l) groups ≡ true
server_some groups l n is =
    let f = any_in (λ (g : Group). g.row == n && lists g.locators l) groups is in
    in_any (λ (g : Group). lists g.locators l) groups f.0 f.1 (and_parts (f.0.row == n) (lists f.0.locators l) f.2).1
