-- The ETRs in force of a site are eight locators at most.
use Rattle.std.proofs.Common.{◌≡◌, ℕ, zero, suc, ◌≤◌, Bool, true, false, cond, List, [], ◌∷◌, length, take, drop, refl, sym, ◌∙◌, arith}
use Rattle.std.specs.Prelude.{◌&&◌, ◌^◌, insert, nat_lt}
use Rattle.std.specs.List.{list_all, list_any}
use Rattle.std.proofs.lemmas.Bool.{and_parts, and_from, leb-true}
use Rattle.std.proofs.lemmas.List.{length-take, length-map}
use Rattle.std.proofs.lemmas.List.Folds.{list_all-append, list_all-map}
use Rattle.ddt_path.specs.declared.locator.Locator.{Locator}
use Rattle.ddt_path.specs.Path.{address_number, address_width}
use Rattle.ddt_path.specs.Locators.{most_locators, is_same_locator}
use Rattle.ddt_foreign.specs.declared.order.Ranked.{Ranked}
use Rattle.ddt_foreign.specs.Order.{place_of, placed}
use Rattle.ddt_register.specs.Ranges.{are_locators}
use Rattle.ddt_config.specs.Shaped.{fits}
use Rattle.ddt_registrar.specs.Registration.{joined, all_joined, ranked_in, registered_etrs}
use Rattle.ddt_registrar.specs.State.{Registration, Site}
use Rattle.ddt_registrar.specs.Taking.{etrs_with, etrs_in_force}
use Rattle.ddt_laws.specs.Registrations.Ranges.{are_ranked, is_keyed_in_range}

-- ---- eight at most

few_placed : (one : Ranked) (ranked : List Ranked) → length (placed one ranked) ≤ most_locators
few_placed one ranked = omega (arith, length-take most_locators (insert ranked (place_of one.priority ranked) one))

few_case : (b : Bool) (one : Ranked) (ranked : List Ranked) → length ranked ≤ most_locators → length (cond b ranked (placed one ranked)) ≤ most_locators
few_case true one ranked few = few
few_case false one ranked few = few_placed one ranked

few_joined : (etrs ranked : List Ranked) → length ranked ≤ most_locators → length (all_joined etrs ranked) ≤ most_locators
few_joined [] ranked few = few
few_joined (one ∷ others) ranked few =
    few_joined others (joined one ranked) (few_case (list_any (λ r. is_same_locator r.address one.address) ranked) one ranked few)

few_ranked : (live : List Registration) (ranked : List Ranked) → length ranked ≤ most_locators → length (ranked_in live ranked) ≤ most_locators
few_ranked [] ranked few = few
few_ranked (r ∷ others) ranked few = few_ranked others (all_joined r.etrs ranked) (few_joined r.etrs ranked few)

pub few_registered : (live : List Registration) → length (registered_etrs live) ≤ most_locators
few_registered live = omega (arith, few_ranked live [] (omega arith), length-map (ranked_in live []) (λ (r : Ranked). r.address))

few_configured : (b c : Bool) (configured : List Locator) → length configured ≤ most_locators
    → length (cond b (cond c configured []) configured) ≤ most_locators
few_configured true true configured few = few
few_configured true false configured few = omega arith
few_configured false c configured few = few

few_with : (s : Site) (live : List Registration) → length s.configured ≤ most_locators → length (etrs_with s live) ≤ most_locators
few_with s [] few = few_configured s.has_registered s.falls_back s.configured few
few_with s (r ∷ others) few = few_registered (r ∷ others)

pub few_in_force : (s : Site) → is_keyed_in_range s ≡ true → length (etrs_in_force s) ≤ most_locators
few_in_force s e = few_with s s.live (leb-true (length s.configured) most_locators (and_parts (fits s.configured) _ e).0)

-- ---- in range

all_take : {A : Type 0} (test : A → Bool) (n : ℕ) (xs : List A) → list_all test xs ≡ true → list_all test (take n xs) ≡ true
all_take test zero xs e = refl
all_take test (suc n) [] e = refl
all_take test (suc n) (x ∷ xs) e =
    let parts = and_parts (test x) (list_all test xs) e in
    and_from (test x) (list_all test (take n xs)) parts.0 (all_take test n xs parts.1)

all_drop : {A : Type 0} (test : A → Bool) (n : ℕ) (xs : List A) → list_all test xs ≡ true → list_all test (drop n xs) ≡ true
all_drop test zero xs e = e
all_drop test (suc n) [] e = refl
all_drop test (suc n) (x ∷ xs) e = all_drop test n xs (and_parts (test x) (list_all test xs) e).1

all_insert : {A : Type 0} (test : A → Bool) (xs : List A) (n : ℕ) (x : A) → test x ≡ true → list_all test xs ≡ true → list_all test (insert xs n x) ≡ true
all_insert test xs n x here e =
    list_all-append test (take n xs) (x ∷ drop n xs)
    ∙ and_from (list_all test (take n xs)) (list_all test (x ∷ drop n xs)) (all_take test n xs e)
    (and_from (test x) (list_all test (drop n xs)) here (all_drop test n xs e))

-- the address of an ETR has at most the digits of its family
abbrev fits_family : Ranked → Bool
fits_family r = nat_lt (address_number r.address) (2 ^ address_width r.address)

-- so have those of all, by their addresses
by_address : (etrs : List Ranked) → are_ranked etrs ≡ list_all fits_family etrs
by_address etrs = list_all-map (λ (l : Locator). nat_lt (address_number l) (2 ^ address_width l)) (λ (r : Ranked). r.address) etrs

joined_case : (b : Bool) (one : Ranked) (ranked : List Ranked) → fits_family one ≡ true → list_all fits_family ranked ≡ true
    → list_all fits_family (cond b ranked (placed one ranked)) ≡ true
joined_case true one ranked here e = e
joined_case false one ranked here e =
    all_take fits_family most_locators (insert ranked (place_of one.priority ranked) one)
    (all_insert fits_family ranked (place_of one.priority ranked) one here e)

all_fit : (etrs ranked : List Ranked) → list_all fits_family etrs ≡ true → list_all fits_family ranked ≡ true → list_all fits_family (all_joined etrs ranked) ≡ true
all_fit [] ranked new e = e
all_fit (one ∷ others) ranked new e =
    let parts = and_parts (fits_family one) (list_all fits_family others) new in
    all_fit others (joined one ranked) parts.1
    (joined_case (list_any (λ r. is_same_locator r.address one.address) ranked) one ranked parts.0 e)

ranked_fit : (live : List Registration) (ranked : List Ranked) → list_all (λ (g : Registration). are_ranked g.etrs) live ≡ true
    → list_all fits_family ranked ≡ true → list_all fits_family (ranked_in live ranked) ≡ true
ranked_fit [] ranked new e = e
ranked_fit (r ∷ others) ranked new e =
    let parts = and_parts (are_ranked r.etrs) (list_all (λ (g : Registration). are_ranked g.etrs) others) new in
    ranked_fit others (all_joined r.etrs ranked) parts.1 (all_fit r.etrs ranked (sym (by_address r.etrs) ∙ parts.0) e)

registered_fit : (live : List Registration) → list_all (λ (g : Registration). are_ranked g.etrs) live ≡ true → are_locators (registered_etrs live) ≡ true
registered_fit live e = by_address (ranked_in live []) ∙ ranked_fit live [] e refl

configured_fit : (b c : Bool) (configured : List Locator) → are_locators configured ≡ true → are_locators (cond b (cond c configured []) configured) ≡ true
configured_fit true true configured e = e
configured_fit true false configured e = refl
configured_fit false c configured e = e

with_fit : (s : Site) (live : List Registration) → are_locators s.configured ≡ true → list_all (λ (g : Registration). are_ranked g.etrs) live ≡ true
    → are_locators (etrs_with s live) ≡ true
with_fit s [] e new = configured_fit s.has_registered s.falls_back s.configured e
with_fit s (r ∷ others) e new = registered_fit (r ∷ others) new

pub in_force_fit : (s : Site) → is_keyed_in_range s ≡ true → are_locators (etrs_in_force s) ≡ true
in_force_fit s e =
    let lists = and_parts (fits s.configured) (are_locators s.configured && list_all (λ (g : Registration). are_ranked g.etrs) s.live) e in
    let parts = and_parts (are_locators s.configured) (list_all (λ (g : Registration). are_ranked g.etrs) s.live) lists.1 in
    with_fit s s.live parts.0 parts.1
