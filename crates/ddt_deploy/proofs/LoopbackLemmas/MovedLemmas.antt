-- Groups that get the addresses of servers one after the other.
use Rattle.std.proofs.Common.{◌≡◌, ℕ, zero, suc, ◌+◌, ◌*◌, ◌<◌, ◌≤◌, true, List, [], ◌∷◌, ◌++◌, length, map, take, get_or, refl, sym, ap, ◌∙◌, arith, inl, inr}
use Rattle.std.specs.Prelude.{slice_get, ◌↔◌}
use Rattle.std.specs.List.{flat_map, range_with_len}
use Rattle.std.proofs.lemmas.List.{append-nil, length-append, map-append, length-map, take_more}
use Rattle.std.proofs.lemmas.List.Concat.{flat_map-cons}
use Rattle.std.proofs.lemmas.List.Folds.{length-flat_map-take}
use Rattle.std.proofs.lemmas.Grind.{flat_map-append}
use Rattle.std.proofs.lemmas.List.FromFn.{length-range_with_len}
use Rattle.ddt_path.specs.declared.locator.Locator.{Locator}
use Rattle.ddt_path.specs.declared.record.Role.{Role}
use Rattle.ddt_path.specs.Locators.{are_distinct}
use Rattle.ddt_path.specs.laws.Member.{IsIn}
use Rattle.ddt_register.specs.declared.group.Group.{Group}
use Rattle.ddt_register.specs.declared.register.Register.{Register}
use Rattle.ddt_register.specs.laws.Rising.{groups_rise}
use Rattle.ddt_register.specs.laws.Count.{few_rows}
use Rattle.ddt_check.specs.Rules.{IsAccepted}
use Rattle.ddt_check.specs.laws.Kept.{server_set}
use Rattle.ddt_deploy.specs.Loopback.Addresses.{server_address, server_addresses}
use Rattle.ddt_deploy.specs.Loopback.Moved.{AreOneForOne, kept_of, locators_in}
use Rattle.ddt_deploy.proofs.LoopbackLemmas.AddressLemmas.{addresses_distinct}
use Rattle.ddt_deploy.proofs.LoopbackLemmas.DistinctLemmas.{own_place}

ranges_meet : (a n m : ℕ) → range_with_len a (n + m) ≡ range_with_len a n ++ range_with_len (a + n) m
ranges_meet a zero m = rw (zero_plus m, plus_zero a) refl
  where
    zero_plus : (m : ℕ) → zero + m ≡ m
    zero_plus m = omega arith

    plus_zero : (a : ℕ) → a + zero ≡ a
    plus_zero a = omega arith
ranges_meet a (suc n) m =
    rw (suc_plus n m, moves a n) (ap (λ (rest : List ℕ). a ∷ rest) (ranges_meet (a + 1) n m))
  where
    suc_plus : (n m : ℕ) → suc n + m ≡ suc (n + m)
    suc_plus n m = omega arith

    moves : (a n : ℕ) → a + suc n ≡ (a + 1) + n
    moves a n = omega arith

-- the addresses of more servers stand behind those of the first
pub more_servers : (n m : ℕ) → server_addresses n ++ map server_address (range_with_len n m) ≡ server_addresses (n + m)
more_servers n m =
    let from : 0 + n ≡ n = omega arith in
    sym (ap (map server_address) (ranges_meet 0 n m ∙ ap (λ (a : ℕ). range_with_len 0 n ++ range_with_len a m) from)
    ∙ map-append server_address (range_with_len 0 n) (range_with_len n m))

pub count_of_servers : (n : ℕ) → length (server_addresses n) ≡ n
count_of_servers n = length-map (range_with_len 0 n) server_address ∙ length-range_with_len 0 n

-- the groups of an accepted register have few locators
eight_each : (gs : List Group) → ((g : Group) → IsIn g gs → length g.locators ≤ 8)
    → length (locators_in gs) ≤ 8 * length gs
eight_each [] h = omega arith
eight_each (g ∷ gs) h =
    let first = h g (inl refl) in
    let rest = eight_each gs (λ i k. h i (inr k)) in
    omega (arith, length-append g.locators (locators_in gs))

pub few_servers : (r : Register) → IsAccepted r → length (locators_in r.groups) ≤ 524280
few_servers r accepted =
    let each = eight_each r.groups (λ g k. (server_set r accepted g k).0.1) in
    let rows = few_rows (λ (g : Group). g.row) r.groups (groups_rise r) in
    omega arith

-- two lists of one length, in which nothing stands twice, are one for one
pub one_for_one : (olds news : List Locator) → are_distinct olds ≡ true → are_distinct news ≡ true
    → length news ≡ length olds
    → AreOneForOne olds news
one_for_one olds news e f same = (
  same,
  λ i j lt mt. (
    λ a. ap (slice_get news) (own_place olds e i j lt mt a),
    λ a. ap (slice_get olds) (own_place news f i j (omega arith) (omega arith) a),
  ),
)

with_last : (gs : List Group) (g : Group) → locators_in (gs ++ g ∷ []) ≡ locators_in gs ++ g.locators
with_last gs g =
    flat_map-append (λ (h : Group). h.locators) gs (g ∷ [])
    ∙ ap (λ (l : List Locator). locators_in gs ++ l)
    (flat_map-cons (λ (h : Group). h.locators) g [] ∙ append-nil g.locators)

-- ---- one more group

module _ (gs : List Group) (i : ℕ) (g : Group) (lt : i < length gs) (is : g ≡ get_or gs i g) where
  groups_more : take (i + 1) gs ≡ take i gs ++ g ∷ []
  groups_more = take_more gs i g lt ∙ ap (λ (h : Group). take i gs ++ h ∷ []) (sym is)

  locators_more : locators_in (take (i + 1) gs) ≡ locators_in (take i gs) ++ g.locators
  locators_more = ap locators_in groups_more ∙ with_last (take i gs) g

  -- there is an address for each of its locators
  pub few_more : (first : ℕ) (ls : List Locator) → ls ≡ g.locators → first ≡ length (locators_in (take i gs))
      → length (locators_in gs) ≤ 524280 → first + length ls ≤ 524280
  few_more first ls same so_far few =
      let more = length-flat_map-take (λ (h : Group). h.locators) gs i g lt in
      let here : length (get_or gs i g).locators ≡ length ls = ap (λ (h : Group). length h.locators) (sym is)
      ∙ ap length (sym same) in
      omega (arith, more, here)

  -- the groups so far, with as many addresses as they have locators
  pub more_moved : (moved after : List Group) (first : ℕ) (ls news : List Locator) → ls ≡ g.locators
      → news ≡ map server_address (range_with_len first (length ls))
      → after ≡ moved ++ record { name = g.name; kind = g.kind; locators = news; row = g.row } ∷ []
      → first ≡ length (locators_in (take i gs)) → map kept_of moved ≡ map kept_of (take i gs)
      → locators_in moved ≡ server_addresses first
      → (first + length ls ≡ length (locators_in (take (i + 1) gs)))
      × (map kept_of after ≡ map kept_of (take (i + 1) gs)) × (locators_in after ≡ server_addresses (first + length ls))
  more_moved moved after first ls news same addresses pushed so_far kept located =
      let new : Group = record { name = g.name; kind = g.kind; locators = news; row = g.row } in
      let many : length news ≡ length g.locators =
      ap length addresses ∙ length-map (range_with_len first (length ls)) server_address
      ∙ length-range_with_len first (length ls) ∙ ap length same in (
        omega (arith, ap length locators_more, length-append (locators_in (take i gs)) g.locators, ap length same),
        ap (map kept_of) pushed ∙ map-append kept_of moved (new ∷ [])
            ∙ ap (λ (k : List (List ℕ × Role × ℕ × ℕ)). k ++ kept_of new ∷ []) kept
            ∙ ap (λ (n : ℕ). map kept_of (take i gs) ++ (g.name, g.kind, g.row, n) ∷ []) many
            ∙ sym (map-append kept_of (take i gs) (g ∷ [])) ∙ ap (map kept_of) (sym groups_more),
        ap locators_in pushed ∙ with_last moved new ∙ ap (λ (l : List Locator). l ++ news) located
            ∙ ap (λ (l : List Locator). server_addresses first ++ l) addresses ∙ more_servers first (length ls),
      )
