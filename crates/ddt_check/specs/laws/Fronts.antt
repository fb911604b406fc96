-- Of two prefixes, the one with the lower number sorts first.
use Rattle.std.proofs.Common.{◌≡◌, ◌⊎◌, ℕ, zero, suc, ◌+◌, ◌-◌, ◌*◌, ◌/◌, ◌^◌, ◌<◌, ◌≤◌, true, List, [], ◌∷◌, length, drop, get_or, Ordering, Less, Equal, Greater, refl, sym, ap, subst, ◌∙◌, arith, inl, inr, IsTrue}
use Rattle.std.specs.Prelude.{◌==◌, ◌&&◌, ◌||◌, nat_le, ⊤}
use Rattle.std.specs.Ordering.{nat_cmp, is_lt, ordering_then}
use Rattle.std.proofs.Math.Nat.{div-mul-le_self, one-le-pow, pow-succ', mul-le-mul_right, pow-le-pow_right}
use Rattle.std.specs.List.{list_all}
use Rattle.std.specs.Cmp.Lexicographic.{slice_cmp}
use Rattle.std.proofs.lemmas.Bool.{and_parts, or_cases, cases_lt, leb-true, eqb-true}
use Rattle.std.proofs.lemmas.Nat.{div_below, pow_pos, le-div}
use Rattle.ddt_path.specs.declared.form.Form.{Form}
use Rattle.ddt_path.specs.declared.form.Form.TheVariants.{Range, Block}
use Rattle.ddt_path.specs.declared.locator.Locator.{Locator}
use Rattle.ddt_path.specs.declared.locator.Locator.TheVariants.{V4, V6}
use Rattle.ddt_path.specs.Path.{path, IsForm, is_prefix_path, address_number, address_width, family}
use Rattle.ddt_path.specs.FormOf.{form_of}
use Rattle.ddt_path.specs.FormLemmas.{form_of-path}
use Rattle.ddt_path.specs.FormOrder.{parts_of, parts_cmp}
use Rattle.ddt_path.specs.laws.PathTest.{form_of_prefix}
use Rattle.ddt_path.specs.laws.FormOrder.{less, equal, forms_cmp}
use Rattle.ddt_register.specs.declared.zone.Zone.{Zone}
use Rattle.ddt_register.specs.declared.site.Site.{Site}
use Rattle.ddt_register.specs.declared.group.Group.{Group}
use Rattle.ddt_register.specs.Ranges.{is_zone_in_range, is_site_in_range, is_group_in_range, are_locators}
use Rattle.ddt_path.specs.Names.{is_name, is_name_byte}
use Rattle.ddt_check.specs.Fronts.{address_front, form_front, prefix_front, bytes_front, name_front}

lower_quotient : (n m d : ℕ) → 0 < d → n / d < m / d → n < m
lower_quotient n m d pos lt = elim (cases_lt n m) [
  | inl less ↦ less
  | inr more ↦
      let whole : m / d * d ≤ m = div-mul-le_self m d in
      let le : m / d ≤ n / d = le-div (m / d) n d pos (omega arith) in
      absurd (omega arith)
]

address_front_fits : (a : Locator) → address_number a < 2 ^ address_width a → address_front a < 2 ^ 32
address_front_fits (V4 n) h = let lt : n / 2 ^ 2 < 2 ^ 30 = div_below n (2 ^ 2) (2 ^ 30) (pow_pos 2) (omega arith) in
    omega arith
address_front_fits (V6 n) h = let lt : n / 2 ^ 98 < 2 ^ 30 = div_below n (2 ^ 98) (2 ^ 30) (pow_pos 98) (omega arith) in
    omega arith

-- of two addresses, the one with the lower number is of the lower family, or lower in the same one
address_before : (a b : Locator) → address_number a < 2 ^ address_width a → address_number b < 2 ^ address_width b
    → address_front a < address_front b
    → (family a < family b) ⊎ ((family a ≡ family b) × (address_number a < address_number b))
address_before (V4 n) (V4 m) h k lt = inr (refl, lower_quotient n m (2 ^ 2) (pow_pos 2) (omega arith))
address_before (V4 n) (V6 m) h k lt = inl (omega arith)
address_before (V6 n) (V4 m) h k lt =
    let below : m / 2 ^ 2 < 2 ^ 30 = div_below m (2 ^ 2) (2 ^ 30) (pow_pos 2) (omega arith) in absurd (omega arith)
address_before (V6 n) (V6 m) h k lt = inr (refl, lower_quotient n m (2 ^ 98) (pow_pos 98) (omega arith))

split_front : (a b x y : ℕ) → x < 2 ^ 32 → y < 2 ^ 32 → a * 2 ^ 32 + x < b * 2 ^ 32 + y
    → (a < b) ⊎ ((a ≡ b) × (x < y))
split_front a b x y h k lt = elim (cases_lt a b) [
  | inl less ↦ inl less
  | inr more ↦ inr (omega arith, omega arith)
]

first_lower : (a b f g n m l k : ℕ) → a < b → is_lt (parts_cmp (a, f, n, l) (b, g, m, k)) ≡ true
first_lower a b f g n m l k lt = rw (less a b lt) refl

second_lower : (a b f g n m l k : ℕ) → a ≡ b → f < g → is_lt (parts_cmp (a, f, n, l) (b, g, m, k)) ≡ true
second_lower a b f g n m l k same lt = rw (equal a b same, less f g lt) refl

third_lower : (a b f g n m l k : ℕ) → a ≡ b → f ≡ g → n < m → is_lt (parts_cmp (a, f, n, l) (b, g, m, k)) ≡ true
third_lower a b f g n m l k same tied lt = rw (equal a b same, equal f g tied, less n m lt) refl

parts_before : (f g : Form) → IsForm f → IsForm g → form_front f < form_front g
    → is_lt (parts_cmp (parts_of f) (parts_of g)) ≡ true
parts_before (Range a l) (Range b m) h k lt = first_lower a b 0 0 0 0 l m (omega arith)
parts_before (Range a l) (Block b address m) h k lt =
    elim (split_front a b 0 (address_front address) (omega arith) (address_front_fits address k.1) (omega arith)) [
      | inl less ↦ first_lower a b 0 (family address) 0 (address_number address) l m less
      | inr same ↦ second_lower a b 0 (family address) 0 (address_number address) l m same.0 (some_family address)
    ]
  where
    some_family : (z : Locator) → 0 < family z
    some_family (V4 n) = omega arith
    some_family (V6 n) = omega arith
parts_before (Block a address l) (Range b m) h k lt =
    first_lower a b (family address) 0 (address_number address) 0 l m (omega arith)
parts_before (Block a x l) (Block b y m) h k lt =
    let u = address_front_fits x h.1 in
    let v = address_front_fits y k.1 in
    elim (split_front a b (address_front x) (address_front y) u v lt) [
      | inl less ↦ first_lower a b (family x) (family y) (address_number x) (address_number y) l m less
      | inr same ↦ elim (address_before x y h.1 k.1 same.1) [
        | inl lower ↦ second_lower a b (family x) (family y) (address_number x) (address_number y) l m same.0 lower
        | inr tied ↦ third_lower a b (family x) (family y) (address_number x) (address_number y) l m same.0 tied.0
            tied.1
      ]
    ]

form_before : (f g : Form) → IsForm f → IsForm g → form_front f < form_front g
    → is_lt (slice_cmp nat_cmp (path f) (path g)) ≡ true
form_before f g h k lt = ap is_lt (forms_cmp f g h k) ∙ parts_before f g h k lt

pub front_of_path : (f : Form) → IsForm f → prefix_front (path f) ≡ form_front f
front_of_path f h = ap form_front (form_of-path f h)

-- of two prefixes, the one with the lower number sorts first
pub prefixes_by_front : (p q : List ℕ) → is_prefix_path p ≡ true → is_prefix_path q ≡ true
    → prefix_front p < prefix_front q → is_lt (slice_cmp nat_cmp p q) ≡ true
prefixes_by_front p q i j lt =
    let f = form_of_prefix p i in
    let g = form_of_prefix q j in
    let a : prefix_front p ≡ form_front f.0 = ap prefix_front (sym f.2) ∙ front_of_path f.0 f.1 in
    let b : prefix_front q ≡ form_front g.0 = ap prefix_front (sym g.2) ∙ front_of_path g.0 g.1 in
    ap (λ (x : List ℕ). is_lt (slice_cmp nat_cmp x q)) (sym f.2)
    ∙ ap (λ (y : List ℕ). is_lt (slice_cmp nat_cmp (path f.0) y)) (sym g.2)
    ∙ form_before f.0 g.0 f.1 g.1 (omega arith)

pub zones_by_front : (a b : Zone) → IsTrue (is_zone_in_range a) → IsTrue (is_zone_in_range b)
    → prefix_front a.prefix < prefix_front b.prefix → is_lt (slice_cmp nat_cmp a.prefix b.prefix) ≡ true
zones_by_front a b h k lt = prefixes_by_front a.prefix b.prefix
    (and_parts (is_prefix_path a.prefix) (is_name a.group) h).0
    (and_parts (is_prefix_path b.prefix) (is_name b.group) k).0 lt

pub sites_by_front : (a b : Site) → IsTrue (is_site_in_range a) → IsTrue (is_site_in_range b)
    → prefix_front a.prefix < prefix_front b.prefix → is_lt (slice_cmp nat_cmp a.prefix b.prefix) ≡ true
sites_by_front a b h k lt = prefixes_by_front a.prefix b.prefix
    (and_parts (is_prefix_path a.prefix) (are_locators a.etrs) h).0
    (and_parts (is_prefix_path b.prefix) (are_locators b.etrs) k).0 lt

-- ---- names

-- bytes are below 256
abbrev pub AreBytes : List ℕ → Type 0
AreBytes [] = ⊤
AreBytes (b ∷ bs) = (b < 256) × AreBytes bs

bytes_front_fits : (n : ℕ) (bs : List ℕ) → AreBytes bs → bytes_front n bs < 256 ^ n
bytes_front_fits zero bs h = omega arith
bytes_front_fits (suc n) [] h = let one : 1 ≤ 256 ^ suc n = one-le-pow (suc n) 256 (omega arith) in omega arith
bytes_front_fits (suc n) (b ∷ bs) h =
    let rest = bytes_front_fits n bs h.1 in
    let next : 256 ^ suc n ≡ 256 * 256 ^ n = pow-succ' 256 n in
    let le : (b + 1) * 256 ^ n ≤ 256 * 256 ^ n = mul-le-mul_right (256 ^ n) (let lt : b < 256 = h.0 in omega arith) in
    let split : (b + 1) * 256 ^ n ≡ b * 256 ^ n + 256 ^ n = grind arith in
    omega arith

bytes_before : (n : ℕ) (xs ys : List ℕ) → AreBytes xs → AreBytes ys → bytes_front n xs < bytes_front n ys
    → is_lt (slice_cmp nat_cmp xs ys) ≡ true
bytes_before zero xs ys h k lt = absurd (omega arith)
bytes_before (suc n) [] [] h k lt = absurd (omega arith)
bytes_before (suc n) [] (y ∷ ys) h k lt = refl
bytes_before (suc n) (x ∷ xs) [] h k lt = absurd (omega arith)
bytes_before (suc n) (x ∷ xs) (y ∷ ys) h k lt = elim (cases_lt x y) [
  | inl less ↦ lower_first x y xs ys less
  | inr more ↦ elim (cases_lt y x) [
    | inl above ↦
        let p = 256 ^ n in
        let fits = bytes_front_fits n ys k.1 in
        let le : (y + 1) * p ≤ x * p = mul-le-mul_right p (omega arith) in
        let split : (y + 1) * p ≡ y * p + p = grind arith in
        absurd (omega arith)
    | inr equal_ ↦
        let same : x ≡ y = omega arith in
        let terms : x * 256 ^ n ≡ y * 256 ^ n = ap (λ (z : ℕ). z * 256 ^ n) same in
        same_first x y xs ys same (bytes_before n xs ys h.1 k.1 (omega arith))
  ]
]
  where
    lower_first : (x y : ℕ) (xs ys : List ℕ) → x < y → is_lt (slice_cmp nat_cmp (x ∷ xs) (y ∷ ys)) ≡ true
    lower_first x y xs ys lt = ap (λ (o : Ordering). is_lt (ordering_then o (slice_cmp nat_cmp xs ys))) (less x y lt)

    same_first : (x y : ℕ) (xs ys : List ℕ) → x ≡ y → is_lt (slice_cmp nat_cmp xs ys) ≡ true
        → is_lt (slice_cmp nat_cmp (x ∷ xs) (y ∷ ys)) ≡ true
    same_first x y xs ys same rest =
        ap (λ (o : Ordering). is_lt (ordering_then o (slice_cmp nat_cmp xs ys))) (equal x y same) ∙ rest

byte_fits : (b : ℕ) → is_name_byte b ≡ true → b < 256
byte_fits b e = elim (or_cases (nat_le 97 b && nat_le b 122) ((nat_le 48 b && nat_le b 57) || b == 45) e) [
  | inl letter ↦ let le = leb-true b 122 (and_parts (nat_le 97 b) (nat_le b 122) letter).1 in omega arith
  | inr other ↦ elim (or_cases (nat_le 48 b && nat_le b 57) (b == 45) other) [
    | inl digit ↦ let le = leb-true b 57 (and_parts (nat_le 48 b) (nat_le b 57) digit).1 in omega arith
    | inr hyphen ↦ let same = eqb-true b 45 hyphen in omega arith
  ]
]

bytes_fit : (bs : List ℕ) → list_all is_name_byte bs ≡ true → AreBytes bs
bytes_fit [] e = tt
bytes_fit (b ∷ bs) e =
    let p = and_parts (is_name_byte b) (list_all is_name_byte bs) e in
    (byte_fits b p.0, bytes_fit bs p.1)

name_bytes : (a : List ℕ) → is_name a ≡ true → AreBytes a
name_bytes a e = bytes_fit a (and_parts (nat_le 1 (length a) && nat_le (length a) 63) (list_all is_name_byte a) e).1

-- the number byte by byte
no_bytes : (n : ℕ) → bytes_front n [] ≡ 0
no_bytes zero = refl
no_bytes (suc n) = refl

next_byte : (n place : ℕ) (bytes : List ℕ) → bytes_front (suc n) (drop place bytes)
    ≡ get_or bytes place 0 * 256 ^ n + bytes_front n (drop (place + 1) bytes)
next_byte n zero [] = let e = no_bytes n in omega arith
next_byte n (suc place) [] =
    let e : suc place + 1 ≡ suc (place + 1) = omega arith in
    let none : bytes_front n (drop (suc place + 1) []) ≡ 0 = ap (λ (k : ℕ). bytes_front n (drop k [])) e ∙ no_bytes n in
    omega arith
next_byte n zero (b ∷ bytes) = refl
next_byte n (suc place) (b ∷ bytes) =
    let e : suc place + 1 ≡ suc (place + 1) = omega arith in
    next_byte n place bytes
    ∙ ap (λ (k : ℕ). get_or bytes place 0 * 256 ^ n + bytes_front n (drop k (b ∷ bytes))) (sym e)

-- so far a number has these bytes of a list, and it fits them
pub record IsFrontTo (bytes : List ℕ) (place front : ℕ) : Type 0 where
  pub so_far : front * 256 ^ (8 - place) + bytes_front (8 - place) (drop place bytes) ≡ bytes_front 8 bytes
  pub fits : front < 256 ^ place

pub front_next : (bytes : List ℕ) (place front byte : ℕ) → place < 8 → byte < 256 → byte ≡ get_or bytes place 0
    → IsFrontTo bytes place front → IsFrontTo bytes (place + 1) (front * 256 + byte)
front_next bytes place front byte lt small is state =
    let n = 7 - place in
    let here : 8 - place ≡ suc n = omega arith in
    let next : 8 - (place + 1) ≡ n = omega arith in
    let high : 256 ^ suc n ≡ 256 * 256 ^ n = pow-succ' 256 n in
    let up : 256 ^ (place + 1) ≡ 256 * 256 ^ place = ap (λ (k : ℕ). 256 ^ k) (omega arith) ∙ pow-succ' 256 place in
    let split : (front * 256 + byte) * 256 ^ n ≡ front * (256 * 256 ^ n) + byte * 256 ^ n = grind arith in
    let rest = bytes_front n (drop (place + 1) bytes) in
    record {
      so_far = rw (next, split)
          (let e : front * (256 * 256 ^ n) + byte * 256 ^ n + rest
          ≡ front * (256 * 256 ^ n) + (byte * 256 ^ n + rest) = omega arith in
          e ∙ ap (λ (k : ℕ). front * k + (byte * 256 ^ n + rest)) (sym high)
          ∙ ap (λ (k : ℕ). front * 256 ^ suc n + (k * 256 ^ n + rest)) is
          ∙ ap (λ (k : ℕ). front * 256 ^ suc n + k) (sym (next_byte n place bytes))
          ∙ ap (λ (k : ℕ). front * 256 ^ k + bytes_front k (drop place bytes)) (sym here)
          ∙ state.so_far);
      fits = let under : front < 256 ^ place = state.fits in rw up (omega arith);
    }

pub front_room : (place front byte : ℕ) → place < 8 → byte < 256 → front < 256 ^ place → front * 256 + byte < 2 ^ 64
front_room place front byte lt small under =
    let up : 256 ^ suc place ≡ 256 * 256 ^ place = pow-succ' 256 place in
    let most : 256 ^ suc place ≤ 256 ^ 8 =
    pow-le-pow_right {n = 256} (omega arith) {i = suc place} {j = 8} (omega arith) in
    omega arith

pub front_done : (bytes : List ℕ) (place front : ℕ) → place ≡ 8 → IsFrontTo bytes place front
    → front ≡ bytes_front 8 bytes
front_done bytes place front all state =
    let none : 8 - place ≡ 0 = omega arith in
    let e : front * 256 ^ 0 + bytes_front 0 (drop place bytes) ≡ bytes_front 8 bytes =
    subst (λ (k : ℕ). front * 256 ^ k + bytes_front k (drop place bytes) ≡ bytes_front 8 bytes) none state.so_far in
    omega arith

-- of two names, the one with the lower number sorts first
pub names_by_front : (a b : List ℕ) → is_name a ≡ true → is_name b ≡ true → name_front a < name_front b
    → is_lt (slice_cmp nat_cmp a b) ≡ true
names_by_front a b h k lt = bytes_before 8 a b (name_bytes a h) (name_bytes b k) lt

pub groups_by_front : (a b : Group) → IsTrue (is_group_in_range a) → IsTrue (is_group_in_range b)
    → name_front a.name < name_front b.name → is_lt (slice_cmp nat_cmp a.name b.name) ≡ true
groups_by_front a b h k lt = names_by_front a.name b.name (and_parts (is_name a.name) (are_locators a.locators) h).0
    (and_parts (is_name b.name) (are_locators b.locators) k).0 lt
