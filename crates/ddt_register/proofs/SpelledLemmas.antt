-- What records spell, record after record.
use Rattle.std.proofs.Common.{◌≡◌, ◌≢◌, ℕ, zero, suc, ◌+◌, ◌<◌, ◌≤◌, add-zero, List, [], ◌∷◌, ◌++◌, length, take, Bool, true, false, Result, Ok, Err, append_assoc, refl, sym, ap, subst, ◌∙◌, arith}
use Rattle.std.specs.Prelude.{⊤, nat_lt}
use Rattle.std.proofs.lemmas.Bool.{lt-ltb, ltb-false}
use Rattle.std.proofs.lemmas.List.{append-nil}
use Rattle.ddt_path.specs.declared.record.Role.{Role}
use Rattle.ddt_text.specs.FirstFault.{prefix_in}
use Rattle.ddt_path.specs.Steps.{◌>>=◌}
use Rattle.ddt_register.specs.declared.csv_row.Kind.{Kind}
use Rattle.ddt_register.specs.declared.csv_row.Row.{Row}
use Rattle.ddt_register.specs.declared.csv_row.Row.TheVariants as Of
use Rattle.ddt_register.specs.declared.fault.ReadFault.{ReadFault}
use Rattle.ddt_register.specs.declared.fault.ReadFault.TheVariants as Fault
use Rattle.ddt_register.specs.Rows.{most_rows, rise, are_apart, zone_rows, site_rows, group_rows, are_rows}
use Rattle.ddt_register.specs.Spelled.{Lists, no_items, items_of, joined, field_of, name_in, empty_in, locators_in, kind_in, group_in, zone_in, site_in, item_in, fields_in, row_in, rows_in, columns_in, spelled}
use Rattle.ddt_register.proofs.FieldLemmas.{four_fields}
use Rattle.ddt_register.specs.laws.Rising.{rise-lower}
use Rattle.ddt_register.proofs.RowLemmas.{rise-more, low_row, are_apart-first, are_apart-skip}

ok_eq : {A : Type 0} (a b : A) → (let r : Result A ReadFault = Ok a in r) ≡ Ok b → a ≡ b
ok_eq a b e = cc

-- ---- records after records

abbrev after_items : Lists → Result Lists ReadFault → Result Lists ReadFault
after_items items rest = rest >>= λ more. Ok (joined items more)

joined-assoc : (a b c : Lists) → joined (joined a b) c ≡ joined a (joined b c)
joined-assoc a b c =
    rw (append_assoc a.zones b.zones c.zones, append_assoc a.sites b.sites c.sites, append_assoc a.groups b.groups c.groups) refl

joined-none : (items : Lists) → joined items no_items ≡ items
joined-none items = rw (append-nil items.zones, append-nil items.sites, append-nil items.groups) refl

after_items-none : (r : Result Lists ReadFault) → r ≡ after_items no_items r
after_items-none (Ok more) = refl
after_items-none (Err fault) = refl

after_items-joined : (first items : Lists) (r : Result Lists ReadFault) → (after_items items r >>= (λ more. Ok (joined first more))) ≡ after_items (joined first items) r
after_items-joined first items (Ok more) = ap Ok (sym (joined-assoc first items more))
after_items-joined first items (Err fault) = refl

-- the item of a row and those of the rows after it
parts_of : (r : Result Row ReadFault) (rest : Result Lists ReadFault) (items : Lists) → (r >>= (λ item. (rest >>= λ more. Ok (joined (items_of item) more)))) ≡ Ok items
    → (item : Row) × (more : Lists) × (r ≡ Ok item) × (rest ≡ Ok more) × (joined (items_of item) more ≡ items)
parts_of (Ok item) (Ok more) items e = (item, more, refl, refl, ok_eq _ items e)
parts_of (Ok item) (Err fault) items e = cc e
parts_of (Err fault) rest items e = cc e

-- the items of some rows, and then those of the rows after them
rows_in-append : (n : ℕ) (done rest : List (List (List ℕ))) (items : Lists) → rows_in n done ≡ Ok items → rows_in n (done ++ rest) ≡ after_items items (rows_in (n + length done) rest)
rows_in-append n [] rest items e =
    subst (λ (i : Lists). rows_in n rest ≡ after_items i (rows_in (n + 0) rest)) (ok_eq no_items items e) (rw (add-zero n) (after_items-none (rows_in n rest)))
rows_in-append n (fields ∷ done) rest items e =
    let p = parts_of (row_in n fields) (rows_in (n + 1) done) items e in
    let at : n + 1 + length done ≡ n + suc (length done) = omega arith in
    rw (p.2, rows_in-append (n + 1) done rest p.1 p.3, at) (
    after_items-joined (items_of p.0) p.1 (rows_in (n + suc (length done)) rest) ∙ ap (λ (i : Lists). after_items i (rows_in (n + suc (length done)) rest)) p.4)

pub rows_in-done : (n : ℕ) (done : List (List (List ℕ))) (items : Lists) → rows_in n done ≡ Ok items → rows_in n (done ++ []) ≡ Ok items
rows_in-done n done items e = rows_in-append n done [] items e ∙ ap Ok (joined-none items)

pub rows_in-last : (n : ℕ) (done : List (List (List ℕ))) (items : Lists) (fields : List (List ℕ)) (item : Row) → rows_in n done ≡ Ok items → row_in (n + length done) fields ≡ Ok item → rows_in n (done ++ fields ∷ []) ≡ Ok (joined items (items_of item))
rows_in-last n done items fields item e f = rows_in-append n done (fields ∷ []) items e ∙ rw f (ap (λ (i : Lists). Ok (joined items i)) (joined-none (items_of item)))

pub rows_in-fault : (n : ℕ) (done rest : List (List (List ℕ))) (items : Lists) (fields : List (List ℕ)) (fault : ReadFault) → rows_in n done ≡ Ok items → row_in (n + length done) fields ≡ Err fault → rows_in n (done ++ fields ∷ rest) ≡ Err fault
rows_in-fault n done rest items fields fault e f = rows_in-append n done (fields ∷ rest) items e ∙ rw f refl

-- ---- the rows of what is spelled

abbrev item_row : Row → ℕ
item_row (Of.Zone zone) = zone.row
item_row (Of.Site site) = site.row
item_row (Of.Group group) = group.row

abbrev IsItem : ℕ → Result Row ReadFault → Type 0
IsItem n (Ok item) = item_row item ≡ n
IsItem n (Err fault) = ⊤

-- an item stands in this row
record InRow (n : ℕ) (r : Result Row ReadFault) : Type 0 where
  here : IsItem n r

InRow-fault : {n : ℕ} {fault : ReadFault} → InRow n (Err fault)
InRow-fault = record { here = tt }

InRow-step : {A : Type 0} {n : ℕ} (r : Result A ReadFault) {next : A → Result Row ReadFault} → ((a : A) → InRow n (next a)) → InRow n (r >>= next)
InRow-step (Ok a) h = h a
InRow-step (Err fault) h = InRow-fault

group_in-row : (n : ℕ) (role : Role) (prefix group addresses : List ℕ) → InRow n (group_in role n prefix group addresses)
group_in-row n role prefix group addresses =
    InRow-step (empty_in (Fault.Prefix n) prefix) λ _. InRow-step (name_in (Fault.Name n) group) λ name. InRow-step (locators_in (Fault.Address n) addresses) λ locators. record { here = refl }

zone_in-row : (n : ℕ) (role : Role) (prefix group addresses : List ℕ) → InRow n (zone_in role n prefix group addresses)
zone_in-row n role prefix group addresses =
    InRow-step (field_of (Fault.Prefix n) (prefix_in prefix)) λ path. InRow-step (name_in (Fault.Name n) group) λ name. InRow-step (empty_in (Fault.Address n) addresses) λ _. record { here = refl }

site_in-row : (n : ℕ) (prefix group addresses : List ℕ) → InRow n (site_in n prefix group addresses)
site_in-row n prefix group addresses =
    InRow-step (field_of (Fault.Prefix n) (prefix_in prefix)) λ path. InRow-step (empty_in (Fault.Name n) group) λ _. InRow-step (locators_in (Fault.Address n) addresses) λ etrs. record { here = refl }

item_in-row : (n : ℕ) (kind : Kind) (prefix group addresses : List ℕ) → InRow n (item_in kind n prefix group addresses)
item_in-row n (Kind.Group role) prefix group addresses = group_in-row n role prefix group addresses
item_in-row n (Kind.Zone role) prefix group addresses = zone_in-row n role prefix group addresses
item_in-row n Kind.Site prefix group addresses = site_in-row n prefix group addresses

fields_in-row : (n : ℕ) (text prefix group addresses : List ℕ) → InRow n (fields_in n text prefix group addresses)
fields_in-row n text prefix group addresses = InRow-step (kind_in (Fault.Kind n) text) λ kind. item_in-row n kind prefix group addresses

row_in-row : (n : ℕ) (fields : List (List ℕ)) (item : Row) → row_in n fields ≡ Ok item → (item_row item ≡ n) × (n ≤ 65535)
row_in-row n [] item e = cc e
row_in-row n (a ∷ []) item e = cc e
row_in-row n (a ∷ b ∷ []) item e = cc e
row_in-row n (a ∷ b ∷ c ∷ []) item e = cc e
row_in-row n (a ∷ b ∷ c ∷ d ∷ []) item e = by (nat_lt 65535 n) refl
  where
    by : (t : Bool) → nat_lt 65535 n ≡ t → (item_row item ≡ n) × (n ≤ 65535)
    by true q = cc (rw q at e)
    by false q = ((subst (InRow n) (rw q at e) (fields_in-row n a b c d)).here, ltb-false 65535 n q)
row_in-row n (a ∷ b ∷ c ∷ d ∷ f ∷ more) item e = cc e

pub row_in-length : (n : ℕ) (fields : List (List ℕ)) → length fields ≢ 4 → row_in n fields ≡ Err (Fault.Csv n)
row_in-length n [] h = refl
row_in-length n (a ∷ []) h = refl
row_in-length n (a ∷ b ∷ []) h = refl
row_in-length n (a ∷ b ∷ c ∷ []) h = refl
row_in-length n (a ∷ b ∷ c ∷ d ∷ []) h = absurd (h refl)
row_in-length n (a ∷ b ∷ c ∷ d ∷ f ∷ more) h = refl

-- past the last row there is a fault, whatever the record
row_in-late : (n : ℕ) (fields : List (List ℕ)) → 65535 < n → (fault : ReadFault) × (row_in n fields ≡ Err fault)
row_in-late n [] lt = (Fault.Csv n, refl)
row_in-late n (a ∷ []) lt = (Fault.Csv n, refl)
row_in-late n (a ∷ b ∷ []) lt = (Fault.Csv n, refl)
row_in-late n (a ∷ b ∷ c ∷ []) lt = (Fault.Csv n, refl)
row_in-late n (a ∷ b ∷ c ∷ d ∷ []) lt = (Fault.TooMany, rw (lt-ltb 65535 n lt) refl)
row_in-late n (a ∷ b ∷ c ∷ d ∷ f ∷ more) lt = (Fault.Csv n, refl)

pub row_in-too_many : (n : ℕ) (fields : List (List ℕ)) → 65535 < n → length fields ≡ 4 → row_in n fields ≡ Err Fault.TooMany
row_in-too_many n fields lt e = ap (row_in n) (four_fields fields e) ∙ rw (lt-ltb 65535 n lt) refl

-- the lists of items whose rows are above this one
record IsAbove (last : ℕ) (items : Lists) : Type 0 where
  zones : rise last (zone_rows items.zones) ≡ true
  sites : rise last (site_rows items.sites) ≡ true
  groups : rise last (group_rows items.groups) ≡ true
  zones_sites : are_apart (zone_rows items.zones) (site_rows items.sites) ≡ true
  zones_groups : are_apart (zone_rows items.zones) (group_rows items.groups) ≡ true
  sites_groups : are_apart (site_rows items.sites) (group_rows items.groups) ≡ true

IsAbove-first : (last : ℕ) (item : Row) (items : Lists) → last < item_row item → item_row item ≤ 65535 → IsAbove (item_row item) items → IsAbove last (joined (items_of item) items)
IsAbove-first last (Of.Zone zone) items lt le h =
    let same : zone.row ≤ zone.row = omega arith in
    let low : last ≤ zone.row = omega arith in
    record {
      zones = rise-more last zone.row (zone_rows items.zones) lt le ∙ h.zones;
      sites = rise-lower last zone.row (site_rows items.sites) low h.sites;
      groups = rise-lower last zone.row (group_rows items.groups) low h.groups;
      zones_sites = are_apart-first zone.row (zone_rows items.zones) (site_rows items.sites) (low_row zone.row zone.row (site_rows items.sites) same h.sites) ∙ h.zones_sites;
      zones_groups = are_apart-first zone.row (zone_rows items.zones) (group_rows items.groups) (low_row zone.row zone.row (group_rows items.groups) same h.groups) ∙ h.zones_groups;
      sites_groups = h.sites_groups;
    }
IsAbove-first last (Of.Site site) items lt le h =
    let same : site.row ≤ site.row = omega arith in
    let low : last ≤ site.row = omega arith in
    record {
      zones = rise-lower last site.row (zone_rows items.zones) low h.zones;
      sites = rise-more last site.row (site_rows items.sites) lt le ∙ h.sites;
      groups = rise-lower last site.row (group_rows items.groups) low h.groups;
      zones_sites = are_apart-skip site.row (zone_rows items.zones) (site_rows items.sites) (low_row site.row site.row (zone_rows items.zones) same h.zones) ∙ h.zones_sites;
      zones_groups = h.zones_groups;
      sites_groups = are_apart-first site.row (site_rows items.sites) (group_rows items.groups) (low_row site.row site.row (group_rows items.groups) same h.groups) ∙ h.sites_groups;
    }
IsAbove-first last (Of.Group group) items lt le h =
    let same : group.row ≤ group.row = omega arith in
    let low : last ≤ group.row = omega arith in
    record {
      zones = rise-lower last group.row (zone_rows items.zones) low h.zones;
      sites = rise-lower last group.row (site_rows items.sites) low h.sites;
      groups = rise-more last group.row (group_rows items.groups) lt le ∙ h.groups;
      zones_sites = h.zones_sites;
      zones_groups = are_apart-skip group.row (zone_rows items.zones) (group_rows items.groups) (low_row group.row group.row (zone_rows items.zones) same h.zones) ∙ h.zones_groups;
      sites_groups = are_apart-skip group.row (site_rows items.sites) (group_rows items.groups) (low_row group.row group.row (site_rows items.sites) same h.sites) ∙ h.sites_groups;
    }

rows_in-above : (last n : ℕ) (rows : List (List (List ℕ))) (items : Lists) → last < n → rows_in n rows ≡ Ok items → IsAbove last items
rows_in-above last n [] items lt e = subst (IsAbove last) (ok_eq no_items items e) (record { zones = refl; sites = refl; groups = refl; zones_sites = refl; zones_groups = refl; sites_groups = refl })
rows_in-above last n (fields ∷ rows) items lt e =
    let p = parts_of (row_in n fields) (rows_in (n + 1) rows) items e in
    let here = row_in-row n fields p.0 p.2 in
    let more = rows_in-above n (n + 1) rows p.1 (omega arith) p.3 in
    subst (IsAbove last) p.4 (IsAbove-first last p.0 p.1 (rw here.0 lt) (rw here.0 here.1) (subst (λ (m : ℕ). IsAbove m p.1) (sym here.0) more))

-- what is spelled is a register: rows rise, and none stands twice
pub rows_in-are_rows : (rows : List (List (List ℕ))) (items : Lists) → rows_in 1 rows ≡ Ok items → are_rows items.zones items.sites items.groups ≡ true
rows_in-are_rows rows items e =
    let h = rows_in-above 0 1 rows items (omega arith) e in
    rw (h.zones, h.sites, h.groups, h.zones_sites, h.zones_groups, h.sites_groups) refl

-- ---- what stands behind the 65,536th row

rows_in-take : (m n : ℕ) (rows : List (List (List ℕ))) → n + m ≡ 65536 → rows_in n (take (suc m) rows) ≡ rows_in n rows
rows_in-take m n [] e = refl
rows_in-take zero n (fields ∷ rows) e =
    let late = row_in-late n fields (omega arith) in
    rw late.1 refl
rows_in-take (suc m) n (fields ∷ rows) e = rw (rows_in-take m (n + 1) rows (omega arith)) refl

pub spelled-take : (records : List (List (List ℕ))) → spelled (take (most_rows + 2) records) ≡ spelled records
spelled-take [] = refl
spelled-take (columns ∷ rows) = ap (λ (r : Result Lists ReadFault). columns_in columns >>= λ _. r) (rows_in-take most_rows 1 rows refl)
