-- Which rows of a register are written, and what is left of it, before each number of a row.
use Rattle.std.proofs.Common.{◌≡◌, ◌≢◌, ℕ, zero, suc, ◌+◌, ◌<◌, ◌≤◌, Bool, true, false, ◌==◌, ◌&&◌, ◌||◌, List, [], ◌∷◌, ◌++◌, map, None, Some, refl, sym, ap, subst, ◌∙◌, append_assoc, arith, nat_le}
use Rattle.std.specs.Prelude.{nat_lt, not}
use Rattle.std.specs.List.{list_any, list_all}
use Rattle.std.proofs.lemmas.Bool.{and_parts, or_parts, not-true, lt-ltb, leb-true, le-leb, eqb-false, ne_eqb}
use Rattle.std.proofs.lemmas.List.{append-nil, map-append}
use Rattle.ddt_register.specs.declared.zone.Zone.{Zone}
use Rattle.ddt_register.specs.declared.site.Site.{Site}
use Rattle.ddt_register.specs.declared.group.Group.{Group}
use Rattle.ddt_register.specs.declared.register.Register.{Register}
use Rattle.ddt_register.specs.declared.csv_row.Row.{Row}
use Rattle.ddt_register.specs.declared.csv_row.Row.TheVariants as Of
use Rattle.ddt_register.specs.Rows.{rise, has_row, are_apart, zone_rows, site_rows, group_rows, most_rows}
use Rattle.ddt_register.specs.Spelled.{Lists, no_items, items_of, joined, lists_of}
use Rattle.ddt_register.specs.laws.Rising.{rise_parts, zones_rise, sites_rise, groups_rise}
use Rattle.csv.specs.Writing.{default_writer, row_text}
use Rattle.std.proofs.lemmas.Grind.{flat_map-append}
use Rattle.std.proofs.lemmas.List.Concat.{flat_map-cons}
use Rattle.ddt_deploy.specs.Loopback.Records.{AreItsRows, columns, items_of_rows, records_of, row_fields, row_number}
use Rattle.ddt_deploy.specs.Loopback.Written.{IsNotFirst, TakesItem, text_of}

-- ---- lists of items, one behind the other

joined_assoc : (a b c : Lists) → joined (joined a b) c ≡ joined a (joined b c)
joined_assoc a b c = λ i. record {
  zones = append_assoc a.zones b.zones c.zones i;
  sites = append_assoc a.sites b.sites c.sites i;
  groups = append_assoc a.groups b.groups c.groups i;
}

joined_none : (a : Lists) → joined a no_items ≡ a
joined_none a = λ i. record {
  zones = append-nil a.zones i;
  sites = append-nil a.sites i;
  groups =
      append-nil a.groups i;
}

one_more : (rows : List Row) (row : Row) → items_of_rows (rows ++ row ∷ []) ≡ joined (items_of_rows rows) (items_of row)
one_more [] row = joined_none (items_of row)
one_more (first ∷ rows) row =
    ap (joined (items_of first)) (one_more rows row)
    ∙ sym (joined_assoc (items_of first) (items_of_rows rows) (items_of row))

-- ---- rows that rise

-- the last of some rows, or another number where there are none
abbrev pub last_or : ℕ → List ℕ → ℕ
last_or last [] = last
last_or last (row ∷ rows) = last_or row rows

last_more : (last : ℕ) (rows : List ℕ) (row : ℕ) → last_or last (rows ++ row ∷ []) ≡ row
last_more last [] row = refl
last_more last (first ∷ rows) row = last_more first rows row

rise_more : (last : ℕ) (rows : List ℕ) (row : ℕ) → rise last rows ≡ true → last_or last rows < row → row ≤ 65535
    → rise last (rows ++ row ∷ []) ≡ true
rise_more last [] row e lt most = rw (lt-ltb last row lt, le-leb row 65535 most) refl
rise_more last (first ∷ rows) row e lt most =
    let p = and_parts (nat_lt last first && nat_le first 65535) (rise first rows) e in
    rw (p.0) (rise_more first rows row p.1 lt most)

-- a first row that isn't the next one stands behind it
head_skips : (last row : ℕ) (rows : List ℕ) → rise last (row ∷ rows) ≡ true → (row ≢ last + 1)
    → rise (last + 1) (row ∷ rows) ≡ true
head_skips last row rows e other =
    let p = and_parts (nat_lt last row && nat_le row 65535) (rise row rows) e in
    let q = and_parts (nat_lt last row) (nat_le row 65535) p.0 in
    let up : last < row = (rise_parts last row rows e).0 in
    rw (lt-ltb (last + 1) row (next last row up other), q.1) p.1
  where
    next : (last row : ℕ) → last < row → (row ≢ last + 1) → last + 1 < row
    next last row up other = omega (arith, other)

skips : (last : ℕ) (rows : List ℕ) → rise last rows ≡ true → has_row rows (last + 1) ≡ false
    → rise (last + 1) rows ≡ true
skips last [] e none = refl
skips last (row ∷ rows) e none =
    head_skips last row rows e (eqb-false row (last + 1) (or_parts (row == last + 1) (has_row rows (last + 1)) none).0)

skips_first : {A : Type 0} (row_of : A → ℕ) (last : ℕ) (xs : List A) → rise last (map row_of xs) ≡ true
    → IsNotFirst row_of (last + 1) xs → rise (last + 1) (map row_of xs) ≡ true
skips_first row_of last [] e other = refl
skips_first row_of last (x ∷ xs) e other = head_skips last (row_of x) (map row_of xs) e other

none_left : {A : Type 0} (row_of : A → ℕ) (xs : List A) → rise 65535 (map row_of xs) ≡ true → xs ≡ []
none_left row_of [] e = refl
none_left row_of (x ∷ xs) e =
    let p = and_parts (nat_lt 65535 (row_of x) && nat_le (row_of x) 65535) (rise (row_of x) (map row_of xs)) e in
    let most = leb-true (row_of x) 65535 (and_parts (nat_lt 65535 (row_of x)) (nat_le (row_of x) 65535) p.0).1 in
    let up = (rise_parts 65535 (row_of x) (map row_of xs) e).0 in
    absurd (omega (arith, most, up))

-- ---- rows that are apart

apart_first : (row : ℕ) (rows others : List ℕ) → are_apart (row ∷ rows) others ≡ true
    → (has_row others row ≡ false) × (are_apart rows others ≡ true)
apart_first row rows others e =
    let p = and_parts (not (has_row others row)) (are_apart rows others) e in
    (not-true (has_row others row) p.0, p.1)

apart_second : (rows : List ℕ) (other : ℕ) (others : List ℕ) → are_apart rows (other ∷ others) ≡ true
    → (has_row rows other ≡ false) × (are_apart rows others ≡ true)
apart_second [] other others e = (refl, refl)
apart_second (row ∷ rows) other others e =
    let p = and_parts (not ((other == row) || has_row others row)) (are_apart rows (other ∷ others)) e in
    let q = or_parts (other == row) (has_row others row) (not-true ((other == row) || has_row others row) p.0) in
    let ne = eqb-false other row q.0 in
    let rest = apart_second rows other others p.1 in
    (rw (ne_eqb row other (λ same. ne (sym same))) rest.0, rw (q.1) rest.1)

-- ---- before the row of a number

-- The rows below the number are written, and the others are left.
pub record IsMidway (r : Register) (n : ℕ) (rows : List Row) (left : Lists) : Type 0 where
  pub last : ℕ
  pub next : n ≡ last + 1
  pub rising : rise 0 (map row_number rows) ≡ true
  pub below : last_or 0 (map row_number rows) ≤ last
  pub items : joined (items_of_rows rows) left ≡ lists_of r
  pub zones : rise last (zone_rows left.zones) ≡ true
  pub sites : rise last (site_rows left.sites) ≡ true
  pub groups : rise last (group_rows left.groups) ≡ true
  pub zones_sites : are_apart (zone_rows left.zones) (site_rows left.sites) ≡ true
  pub zones_groups : are_apart (zone_rows left.zones) (group_rows left.groups) ≡ true
  pub sites_groups : are_apart (site_rows left.sites) (group_rows left.groups) ≡ true

pub starts : (r : Register) → IsMidway r 1 [] (lists_of r)
starts r =
    let apart = (and_parts _ _ r.rows).1 in
    let p = and_parts _ _ apart in
    let q = and_parts _ _ p.1 in
    record {
      last = 0;
      next = refl;
      rising = refl;
      below = omega arith;
      items = refl;
      zones = zones_rise r;
      sites = sites_rise r;
      groups = groups_rise r;
      zones_sites = p.0;
      zones_groups = q.0;
      sites_groups = q.1;
    }

none_taken : (r : Register) (n : ℕ) (rows : List Row) (left : Lists) → IsMidway r n rows left
    → IsNotFirst (λ (z : Zone). z.row) n left.zones → IsNotFirst (λ (s : Site). s.row) n left.sites
    → IsNotFirst (λ (g : Group). g.row) n left.groups → IsMidway r (n + 1) rows left
none_taken r n rows left m z s g = record {
  last = m.last + 1;
  next = ap (λ (k : ℕ). k + 1) m.next;
  rising = m.rising;
  below = omega (arith, m.below);
  items = m.items;
  zones = skips_first (λ (z : Zone). z.row) m.last left.zones m.zones (subst (λ (k : ℕ). IsNotFirst (λ
      (z : Zone). z.row) k left.zones) m.next z);
  sites = skips_first (λ (s : Site). s.row) m.last left.sites m.sites (subst (λ (k : ℕ). IsNotFirst (λ
      (s : Site). s.row) k left.sites) m.next s);
  groups = skips_first (λ (g : Group). g.row) m.last left.groups m.groups (subst (λ (k : ℕ). IsNotFirst (λ
      (g : Group). g.row) k left.groups) m.next g);
  zones_sites = m.zones_sites;
  zones_groups = m.zones_groups;
  sites_groups = m.sites_groups;
}

-- what holds of all rows when one more is written
module _ (r : Register) (n : ℕ) (rows : List Row) (row : Row) (left : Lists) (m : IsMidway r n rows (joined
    (items_of row) left)) (is : row_number row ≡ n) (most : n ≤ 65535) where
  more_numbers : map row_number (rows ++ row ∷ []) ≡ map row_number rows ++ n ∷ []
  more_numbers = map-append row_number rows (row ∷ []) ∙ ap (λ (k : ℕ). map row_number rows ++ k ∷ []) is

  more_rising : rise 0 (map row_number (rows ++ row ∷ [])) ≡ true
  more_rising = ap (rise 0) more_numbers
      ∙ rise_more 0 (map row_number rows) n m.rising (omega (arith, m.below, m.next)) most

  more_below : last_or 0 (map row_number (rows ++ row ∷ [])) ≤ n
  more_below = let e = ap (last_or 0) more_numbers ∙ last_more 0 (map row_number rows) n in omega (arith, e)

  more_items : joined (items_of_rows (rows ++ row ∷ [])) left ≡ lists_of r
  more_items =
      ap (λ (items : Lists). joined items left) (one_more rows row)
      ∙ joined_assoc (items_of_rows rows) (items_of row) left ∙ m.items

  -- the rows of a list behind a row that is its first, or that it doesn't have
  behind : (rest : List ℕ) → rise m.last (row_number row ∷ rest) ≡ true → rise n rest ≡ true
  behind rest e = subst (λ (k : ℕ). rise k rest ≡ true) is (rise_parts m.last (row_number row) rest e).1

  beside : (rest : List ℕ) → rise m.last rest ≡ true → has_row rest (row_number row) ≡ false → rise n rest ≡ true
  beside rest e none =
      subst (λ (k : ℕ). rise k rest ≡ true) (sym m.next)
      (skips m.last rest e (subst (λ (k : ℕ). has_row rest k ≡ false) (is ∙ m.next) none))

one_taken : (r : Register) (n : ℕ) (rows : List Row) (row : Row) (left : Lists)
    → IsMidway r n rows (joined (items_of row) left)
    → row_number row ≡ n → n ≤ 65535 → IsMidway r (n + 1) (rows ++ row ∷ []) left
one_taken r n rows (Of.Zone z) left m is most =
    let s = apart_first z.row (zone_rows left.zones) (site_rows left.sites) m.zones_sites in
    let g = apart_first z.row (zone_rows left.zones) (group_rows left.groups) m.zones_groups in
    record {
      last = n;
      next = refl;
      rising = more_rising r n rows (Of.Zone z) left m is most;
      below = more_below r n rows (Of.Zone z) left m is most;
      items = more_items r n rows (Of.Zone z) left m is most;
      zones = behind r n rows (Of.Zone z) left m is most (zone_rows left.zones) m.zones;
      sites = beside r n rows (Of.Zone z) left m is most (site_rows left.sites) m.sites s.0;
      groups = beside r n rows (Of.Zone z) left m is most (group_rows left.groups) m.groups g.0;
      zones_sites = s.1;
      zones_groups = g.1;
      sites_groups = m.sites_groups;
    }
one_taken r n rows (Of.Site s) left m is most =
    let z = apart_second (zone_rows left.zones) s.row (site_rows left.sites) m.zones_sites in
    let g = apart_first s.row (site_rows left.sites) (group_rows left.groups) m.sites_groups in
    record {
      last = n;
      next = refl;
      rising = more_rising r n rows (Of.Site s) left m is most;
      below = more_below r n rows (Of.Site s) left m is most;
      items = more_items r n rows (Of.Site s) left m is most;
      zones = beside r n rows (Of.Site s) left m is most (zone_rows left.zones) m.zones z.0;
      sites = behind r n rows (Of.Site s) left m is most (site_rows left.sites) m.sites;
      groups = beside r n rows (Of.Site s) left m is most (group_rows left.groups) m.groups g.0;
      zones_sites = z.1;
      zones_groups = m.zones_groups;
      sites_groups = g.1;
    }
one_taken r n rows (Of.Group g) left m is most =
    let z = apart_second (zone_rows left.zones) g.row (group_rows left.groups) m.zones_groups in
    let s = apart_second (site_rows left.sites) g.row (group_rows left.groups) m.sites_groups in
    record {
      last = n;
      next = refl;
      rising = more_rising r n rows (Of.Group g) left m is most;
      below = more_below r n rows (Of.Group g) left m is most;
      items = more_items r n rows (Of.Group g) left m is most;
      zones = beside r n rows (Of.Group g) left m is most (zone_rows left.zones) m.zones z.0;
      sites = beside r n rows (Of.Group g) left m is most (site_rows left.sites) m.sites s.0;
      groups = behind r n rows (Of.Group g) left m is most (group_rows left.groups) m.groups;
      zones_sites = m.zones_sites;
      zones_groups = z.1;
      sites_groups = s.1;
    }

-- the next number, whether a row has it or not
pub passes : (r : Register) (n : ℕ) (rows : List Row) (left after : Lists) → IsMidway r n rows left
    → TakesItem n left after None
    → IsMidway r (n + 1) rows after
passes r n rows left after m t = subst (IsMidway r (n + 1) rows) (sym t.0) (none_taken r n rows left m t.1 t.2 t.3)

pub takes : (r : Register) (n : ℕ) (rows : List Row) (left after : Lists) (fields : List (List ℕ))
    → IsMidway r n rows left
    → n ≤ 65535 → (t : TakesItem n left after (Some fields)) → IsMidway r (n + 1) (rows ++ t.0 ∷ []) after
takes r n rows left after fields m most t = one_taken r n rows t.0 after (subst (IsMidway r n rows) t.3 m) t.2 most

pub ends : (r : Register) (rows : List Row) (left : Lists) → IsMidway r 65536 rows left → AreItsRows r rows
ends r rows left m =
    let last : m.last ≡ 65535 = omega (arith, m.next) in
    let zones = none_left (λ (z : Zone). z.row) left.zones (subst (λ (k : ℕ). rise k (zone_rows left.zones)
    ≡ true) last m.zones) in
    let sites = none_left (λ (s : Site). s.row) left.sites (subst (λ (k : ℕ). rise k (site_rows left.sites)
    ≡ true) last m.sites) in
    let groups = none_left (λ (g : Group). g.row) left.groups (subst (λ (k : ℕ). rise k (group_rows left.groups)
    ≡ true) last m.groups) in
    let none : left ≡ no_items = λ i. record { zones = zones i; sites = sites i; groups = groups i } in
    record {
      rising = m.rising;
      items = sym (joined_none (items_of_rows rows)) ∙ ap (joined (items_of_rows rows)) (sym none) ∙ m.items;
    }

-- the text of one more row
pub text_more : (before now after : List ℕ) (rows : List Row) (row : Row) (fields : List (List ℕ))
    → fields ≡ row_fields row
    → now ≡ before ++ text_of (map row_fields rows) → after ≡ now ++ row_text default_writer fields
    → after ≡ before ++ text_of (map row_fields (rows ++ row ∷ []))
text_more before now after rows row fields is e f =
    f ∙ ap (λ (t : List ℕ). t ++ row_text default_writer fields) e
    ∙ append_assoc before (text_of (map row_fields rows)) (row_text default_writer fields)
    ∙ ap (λ (t : List ℕ). before ++ t)
    (ap (λ (t : List (List ℕ)). text_of (map row_fields rows) ++ row_text default_writer t) is
    ∙ ap (λ (t : List ℕ). text_of (map row_fields rows) ++ t) (sym (append-nil (row_text default_writer
    (row_fields row))))
    ∙ sym (flat_map-append (row_text default_writer) (map row_fields rows) (row_fields row ∷ []))
    ∙ ap text_of (sym (map-append row_fields rows (row ∷ []))))

-- the text of the names of the columns and of all rows
pub whole_text : (none first after : List ℕ) (fields : List (List ℕ)) (rows : List Row) → none ≡ []
    → first ≡ none ++ row_text default_writer fields → fields ≡ columns
    → after ≡ first ++ text_of (map row_fields rows) → after ≡ text_of (records_of rows)
whole_text none first after fields rows empty e is f =
    f ∙ ap (λ (t : List ℕ). t ++ text_of (map row_fields rows))
    (e ∙ ap (λ (t : List ℕ). t ++ row_text default_writer fields) empty ∙ ap (row_text default_writer) is)
    ∙ sym (flat_map-cons (row_text default_writer) columns (map row_fields rows))
