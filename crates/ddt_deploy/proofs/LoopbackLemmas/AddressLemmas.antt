-- The addresses of servers: each is one that a server may have, and no two of them are the same.
use Rattle.std.proofs.Common.{◌≡◌, ℕ, zero, suc, ◌+◌, ◌<◌, ◌≤◌, Bool, true, false, ◌==◌, ◌&&◌, cond, List, [], ◌∷◌, map, refl, sym, ap, subst, ◌∙◌, arith, inl, inr}
use Rattle.std.specs.Prelude.{nat_lt, not}
use Rattle.std.specs.List.{list_all, list_any, range_with_len}
use Rattle.std.proofs.lemmas.Bool.{lt-ltb, ltb-true, ltb-false, ne_eqb, eqb-false, cases_Bool}
use Rattle.ddt_path.specs.declared.locator.Locator.{Locator}
use Rattle.ddt_path.specs.Locators.{is_same_locator, lists, are_distinct}
use Rattle.ddt_path.specs.laws.Member.{IsIn, in_map, none_of, all_of}
use Rattle.ddt_deploy.specs.Loopback.Addresses.{server_address, is_server_address, most_servers, network, broadcast, resolver}

-- the number of the address of a server
number_of : ℕ → ℕ
number_of n = network + cond (nat_lt n 52) 1 2 + n

abbrev step_of : Bool → ℕ
step_of b = cond b 1 2

rises : (k n : ℕ) → k < n → (b c : Bool) → nat_lt k 52 ≡ b → nat_lt n 52 ≡ c
    → 2130706432 + step_of b + k < 2130706432 + step_of c + n
rises k n lt true true p q = omega arith
rises k n lt true false p q = omega arith
rises k n lt false false p q = omega arith
rises k n lt false true p q = let a = ltb-true n 52 q in let b = ltb-false k 52 p in absurd (omega arith)

-- a later server has a higher address
pub other_address : (k n : ℕ) → k < n → is_same_locator (server_address n) (server_address k) ≡ false
other_address k n lt =
    let up : 2130706432 + step_of (nat_lt k 52) + k < 2130706432 + step_of (nat_lt n 52) + n =
    rises k n lt (nat_lt k 52) (nat_lt n 52) refl refl in
    ne_eqb _ _ (λ same. absurd (omega (arith, up, same)))

above : (a n k : ℕ) → IsIn k (range_with_len a n) → (a ≤ k) × (k < a + n)
above a zero k h = absurd h
above a (suc n) k (inl same) = (omega (arith, same), omega (arith, same))
above a (suc n) k (inr later) = let p = above (a + 1) n k later in (omega (arith, p.0), omega (arith, p.1))

pub addresses_distinct : (a n : ℕ) → are_distinct (map server_address (range_with_len a n)) ≡ true
addresses_distinct a zero = refl
addresses_distinct a (suc n) =
    rw (none_of (λ m. is_same_locator m (server_address a)) (map server_address (range_with_len (a + 1) n)) (λ m k.
    let p = in_map server_address (range_with_len (a + 1) n) m k in
    let q = above (a + 1) n p.0 p.1 in
    ap (λ (l : Locator). is_same_locator l (server_address a)) p.2 ∙ other_address a p.0 (omega (arith, q.0))))
    (addresses_distinct (a + 1) n)

-- the address of each server is one that a server may have
may_have : (k : ℕ) → k < 524280 → (b : Bool) → nat_lt k 52 ≡ b
    → ((nat_lt 2130706432 (2130706432 + step_of b + k) && nat_lt (2130706432 + step_of b + k) 2147483647) && not
    ((2130706432 + step_of b + k) == 2130706485)) ≡ true
may_have k lt true e =
    let small = ltb-true k 52 e in
    rw (
      lt-ltb 2130706432 (2130706432 + 1 + k) (omega arith),
      lt-ltb (2130706432 + 1 + k) 2147483647
          (omega arith),
      ne_eqb (2130706432 + 1 + k) 2130706485 (λ same. absurd (omega (arith, same))),
    ) refl
may_have k lt false e =
    let large = ltb-false k 52 e in
    rw (
      lt-ltb 2130706432 (2130706432 + 2 + k) (omega arith),
      lt-ltb (2130706432 + 2 + k) 2147483647
          (omega arith),
      ne_eqb (2130706432 + 2 + k) 2130706485 (λ same. absurd (omega (arith, same))),
    ) refl

pub addresses_may_be : (n : ℕ) → n ≤ 524280
    → list_all is_server_address (map server_address (range_with_len 0 n)) ≡ true
addresses_may_be n few = all_of is_server_address (map server_address (range_with_len 0 n)) (λ l k.
    let p = in_map server_address (range_with_len 0 n) l k in
    let q = above 0 n p.0 p.1 in
    ap is_server_address p.2 ∙ may_have p.0 (omega (arith, q.1)) (nat_lt p.0 52) refl)
