-- Rows that are numbered one after another: they rise, and those of lists one behind another are apart.
use Rattle.std.proofs.Common.{◌≡◌, ℕ, zero, suc, ◌+◌, ◌<◌, ◌≤◌, Bool, true, false, ◌==◌, ◌&&◌, ◌||◌, List, [], ◌∷◌, ◌++◌, map, length, refl, sym, ap, subst, ◌∙◌, arith, nat_le}
use Rattle.std.specs.Prelude.{nat_lt, not}
use Rattle.std.proofs.lemmas.Bool.{and_parts, lt-ltb, le-leb, eqb-true, ne_eqb}
use Rattle.std.proofs.lemmas.List.{length-map, map-append}
use Rattle.ddt_register.specs.declared.zone.Zone.{Zone}
use Rattle.ddt_register.specs.declared.site.Site.{Site}
use Rattle.ddt_register.specs.declared.group.Group.{Group}
use Rattle.ddt_register.specs.Rows.{rise, has_row, are_apart, are_rows, zone_rows, site_rows, group_rows}
use Rattle.ddt_organisations.specs.Seam.Joined.{numbered}

numbered_parts : (n row : ℕ) (rows : List ℕ) → numbered n (row ∷ rows) ≡ true
    → (row ≡ n + 1) × (numbered (n + 1) rows ≡ true)
numbered_parts n row rows e =
    let p = and_parts (row == n + 1) (numbered (n + 1) rows) e in
    (eqb-true row (n + 1) p.0, p.1)

-- one more row, the next one
pub numbered_more : (n row : ℕ) (rows : List ℕ) → numbered n rows ≡ true → row ≡ n + length rows + 1
    → numbered n (rows ++ row ∷ []) ≡ true
numbered_more n row [] e is = grind (arith, is)
numbered_more n row (first ∷ rows) e is =
    let p = and_parts (first == n + 1) (numbered (n + 1) rows) e in
    let next : row ≡ (n + 1) + length rows + 1 = omega (arith, is) in
    rw (p.0) (numbered_more (n + 1) row rows p.1 next)

-- they rise from any row that isn't past them
pub numbered_rise : (last n : ℕ) (rows : List ℕ) → last ≤ n → n + length rows ≤ 65535 → numbered n rows ≡ true
    → rise last rows ≡ true
numbered_rise last n [] low most e = refl
numbered_rise last n (row ∷ rows) low most e =
    let p = numbered_parts n row rows e in
    let is : row ≡ n + 1 = p.0 in
    let up : last < row = omega (arith, is, low) in
    let fits : row ≤ 65535 = omega (arith, is, most) in
    let next : row ≤ n + 1 = omega (arith, is) in
    let less : n + 1 + length rows ≤ 65535 = omega (arith, most) in
    rw (lt-ltb last row up, le-leb row 65535 fits) (numbered_rise row (n + 1) rows next less p.1)

-- a row before them isn't one of them
not_among : (n row : ℕ) (rows : List ℕ) → row ≤ n → numbered n rows ≡ true → has_row rows row ≡ false
not_among n row [] le e = refl
not_among n row (first ∷ rows) le e =
    let p = numbered_parts n first rows e in
    let is : first ≡ n + 1 = p.0 in
    let next : row ≤ n + 1 = omega (arith, le) in
    rw (ne_eqb first row (λ same. omega (arith, same, is, le)), not_among (n + 1) row rows next p.1) refl

-- rows of two lists, one behind the other
pub numbered_apart : (n m : ℕ) (rows others : List ℕ) → n + length rows ≤ m → numbered n rows ≡ true
    → numbered m others ≡ true → are_apart rows others ≡ true
numbered_apart n m [] others fits e f = refl
numbered_apart n m (row ∷ rows) others fits e f =
    let p = numbered_parts n row rows e in
    let is : row ≡ n + 1 = p.0 in
    let le : row ≤ m = omega (arith, is, fits) in
    let less : n + 1 + length rows ≤ m = omega (arith, fits) in
    rw (not_among m row others le f) (numbered_apart (n + 1) m rows others less p.1 f)

-- the other way round
pub numbered_apart_back : (n m : ℕ) (rows others : List ℕ) → m + length others ≤ n → numbered n rows ≡ true
    → numbered m others ≡ true → are_apart rows others ≡ true
numbered_apart_back n m [] others fits e f = refl
numbered_apart_back n m (row ∷ rows) others fits e f =
    let p = numbered_parts n row rows e in
    let is : row ≡ n + 1 = p.0 in
    let up : m + length others < row = omega (arith, is, fits) in
    let less : m + length others ≤ n + 1 = omega (arith, fits) in
    rw (not_past m row others up f) (numbered_apart_back (n + 1) m rows others less p.1 f)
  where
    not_past : (m row : ℕ) (others : List ℕ) → m + length others < row → numbered m others ≡ true
        → has_row others row ≡ false
    not_past m row [] lt e = refl
    not_past m row (first ∷ others) lt e =
        let p = numbered_parts m first others e in
        let is : first ≡ m + 1 = p.0 in
        let next : m + 1 + length others < row = omega (arith, lt) in
        rw (ne_eqb first row (λ same. omega (arith, same, is, lt)), not_past (m + 1) row others next p.1) refl

-- groups, zones and sites that are numbered one behind another have the rows of a register
pub numbered_rows : (zones : List Zone) (sites : List Site) (groups : List Group)
    → numbered 0 (group_rows groups) ≡ true → numbered (length groups) (zone_rows zones) ≡ true
    → numbered (length groups + length zones) (site_rows sites) ≡ true
    → length groups + length zones + length sites ≤ 65535 → are_rows zones sites groups ≡ true
numbered_rows zones sites groups g z s most =
    let gl : length (group_rows groups) ≡ length groups = length-map groups (λ (g : Group). g.row) in
    let zl : length (zone_rows zones) ≡ length zones = length-map zones (λ (z : Zone). z.row) in
    let sl : length (site_rows sites) ≡ length sites = length-map sites (λ (s : Site). s.row) in
    rw (
      numbered_rise 0 (length groups) (zone_rows zones) (omega arith) (omega (arith, zl, most)) z,
      numbered_rise 0 (length groups + length zones) (site_rows sites) (omega arith) (omega (arith, sl, most)) s,
      numbered_rise 0 0 (group_rows groups) (omega arith) (omega (arith, gl, most)) g,
      numbered_apart (length groups) (length groups + length zones) (zone_rows zones) (site_rows sites) (omega (arith, zl)) z s,
      numbered_apart_back (length groups) 0 (zone_rows zones) (group_rows groups) (omega (arith, gl)) z g,
      numbered_apart_back (length groups + length zones) 0 (site_rows sites) (group_rows groups) (omega (arith, gl)) s g,
    )
    refl

-- one more item, in the next row
pub item_more : {A : Type 0} (row_of : A → ℕ) (n : ℕ) (items : List A) (item : A) → numbered n (map row_of items) ≡ true
    → row_of item ≡ n + length items + 1 → numbered n (map row_of (items ++ item ∷ [])) ≡ true
item_more row_of n items item e is =
    let len : length (map row_of items) ≡ length items = length-map items row_of in
    ap (numbered n) (map-append row_of items (item ∷ []))
    ∙ numbered_more n (row_of item) (map row_of items) e (omega (arith, is, len))
