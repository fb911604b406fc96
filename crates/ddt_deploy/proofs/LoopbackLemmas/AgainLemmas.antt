-- What is written of a register that some records spell is read again as that register.
use Rattle.std.proofs.Common.{◌≡◌, ◌≢◌, ◌⊎◌, ℕ, zero, suc, ◌+◌, ◌<◌, ◌≤◌, ◌^◌, Bool, true, false, ◌==◌, ◌&&◌, List, [], ◌∷◌, ◌++◌, length, map, Option, Some, None, Result, Ok, Err, refl, sym, ap, subst, ◌∙◌, append_assoc, arith, inl, inr}
use Rattle.std.specs.Prelude.{nat_lt, codes, ⊤}
use Rattle.std.specs.Str.{bytes_eq}
use Rattle.std.specs.List.{flat_map, list_all, slice_split, All, AllByRecursion}
use Rattle.std.proofs.lemmas.Bool.{and_parts, ne_eqb, ltb-true, ltb-false, le-ltb, lt-ltb, le-leb, cases_Bool}
use Rattle.std.proofs.lemmas.List.{append-nil, length-append}
use Rattle.std.proofs.lemmas.List.Elements.{All-from_recursion}
use Rattle.std.proofs.lemmas.List.Concat.{flat_map-cons}
use Rattle.std.proofs.lemmas.List.Splits.{slice_split_none, slice_split_at}
use Rattle.csv.specs.Machine.{next_record}
use Rattle.csv.specs.Reading.{default_config, records, records_from, strip_bom}
use Rattle.csv.specs.Writing.{default_writer, row_body, row_text, read_back, fields_text, escaped, is_blank}
use Rattle.csv.specs.declared.parser.State.TheVariants as st
use Rattle.csv.proofs.RoundTrip.{read-write}
use Rattle.ddt_path.specs.declared.locator.Locator.{Locator}
use Rattle.ddt_path.specs.declared.record.Role.{Role}
use Rattle.ddt_path.specs.declared.record.Role.TheVariants.{Node, Ms}
use Rattle.ddt_path.specs.Names.{is_name}
use Rattle.ddt_path.specs.Path.{is_prefix_path, path as path_of, IsForm, address_number, address_width}
use Rattle.ddt_path.specs.laws.Member.{IsIn}
use Rattle.ddt_path.specs.laws.PathTest.{form_of_prefix}
use Rattle.ddt_path.specs.Steps.{◌>>=◌}
use Rattle.ddt_text.specs.FirstFault.{prefix_in, locator_in}
use Rattle.ddt_text.specs.Written.{written_locator, written_prefix}
use Rattle.ddt_text.specs.laws.Address.{plain-locator}
use Rattle.ddt_text.specs.laws.Byte.{ArePlain}
use Rattle.ddt_text.specs.laws.Readers.{locators_are_read, prefixes_are_read}
use Rattle.ddt_text.specs.laws.Written.{written_locator-spells, written_prefix-spells}
use Rattle.ddt_register.specs.declared.zone.Zone.{Zone}
use Rattle.ddt_register.specs.declared.site.Site.{Site}
use Rattle.ddt_register.specs.declared.group.Group.{Group}
use Rattle.ddt_register.specs.declared.register.Register.{Register}
use Rattle.ddt_register.specs.declared.fault.ReadFault.{ReadFault}
use Rattle.ddt_register.specs.declared.fault.ReadFault.TheVariants as Fault
use Rattle.ddt_register.specs.declared.csv_row.Row.{Row}
use Rattle.ddt_register.specs.declared.csv_row.Row.TheVariants as Of
use Rattle.ddt_register.specs.Ranges.{are_locators}
use Rattle.ddt_register.specs.Rows.{rise, most_rows}
use Rattle.ddt_register.specs.Spelled.{Lists, no_items, items_of, joined, lists_of, field_of, name_in, empty_in, each_locator, locators_in, group_in, zone_in, site_in, fields_in, row_in, rows_in, columns_in, spelled, unless_too_many}
use Rattle.ddt_register.specs.laws.Range.{zone_at, site_at, group_at}
use Rattle.ddt_register.specs.laws.RowOrder.{Rising, rising_from_rise, one_order}
use Rattle.ddt_deploy.specs.Loopback.Records.{AreItsRows, columns, items_of_rows, more_locators, records_of, row_fields, row_number, spaced, zone_kind, group_kind, zone_fields, site_fields, group_fields}
use Rattle.ddt_deploy.specs.Loopback.Written.{text_of}

-- ---- the text of records

ends_some : (a b : List ℕ) → 0 < length (a ++ (b ++ 10 ∷ []))
ends_some a b =
    let line : List ℕ = 10 ∷ [] in
    omega (arith, length-append a (b ++ line), length-append b line)

row_is_some : (fields : List (List ℕ)) (rest : List ℕ) → length rest < length (row_text default_writer fields ++ rest)
row_is_some fields rest =
    let some : 0 < length (row_text default_writer fields) = ends_some (row_body default_writer fields) _ in
    omega (arith, length-append (row_text default_writer fields) rest)

read_all : (all : List (List (List ℕ))) → ((fields : List (List ℕ)) → IsIn fields all → read_back fields ≡ fields)
    → (n : ℕ) → length (text_of all) < n → records_from default_config n st.StartRecord (text_of all) ≡ all
unfolding records_from next_record
read_all all whole zero lt = absurd (omega arith)
read_all [] whole (suc n) lt = refl
read_all (fields ∷ all) whole (suc n) lt =
    let text = flat_map-cons (row_text default_writer) fields all in
    let some = row_is_some fields (text_of all) in
    rw (text, read-write fields (text_of all))
    (ap (λ (first : List (List ℕ)). first ∷ records_from default_config n st.StartRecord (text_of all))
    (whole fields (inl refl))
    ∙ ap (λ (more : List (List (List ℕ))). fields ∷ more)
    (read_all all (λ f k. whole f (inr k)) n (omega (arith, ap length text, some))))

no_mark : (rest : List ℕ)
    → strip_bom (row_text default_writer columns ++ rest) ≡ row_text default_writer columns ++ rest
unfolding strip_bom is_blank fields_text escaped
no_mark rest = refl

row_whole : (row : Row) → read_back (row_fields row) ≡ row_fields row
row_whole (Of.Zone z) = refl
row_whole (Of.Site s) = refl
row_whole (Of.Group g) = refl

rows_whole : (rows : List Row) (fields : List (List ℕ)) → IsIn fields (map row_fields rows) → read_back fields ≡ fields
rows_whole [] fields k = absurd k
rows_whole (row ∷ rows) fields (inl same) = ap read_back same ∙ row_whole row ∙ sym same
rows_whole (row ∷ rows) fields (inr later) = rows_whole rows fields later

all_whole : (rows : List Row) (fields : List (List ℕ)) → IsIn fields (records_of rows) → read_back fields ≡ fields
all_whole rows fields (inl same) = ap read_back same ∙ sym same
all_whole rows fields (inr later) = rows_whole rows fields later

records_again : (rows : List Row) → records default_config (strip_bom (text_of (records_of rows))) ≡ records_of rows
records_again rows =
    let text = flat_map-cons (row_text default_writer) columns (map row_fields rows) in
    let same : strip_bom (text_of (records_of rows)) ≡ text_of (records_of rows) =
    ap strip_bom text ∙ no_mark (text_of (map row_fields rows)) ∙ sym text in
    ap (records default_config) same
    ∙ read_all (records_of rows) (all_whole rows) (length (text_of (records_of rows)) + 1) (omega arith)

-- ---- the fields of a row

prefix_again : (prefix : List ℕ) → is_prefix_path prefix ≡ true → prefix_in (written_prefix prefix) ≡ Ok prefix
prefix_again prefix e =
    let f = form_of_prefix prefix e in
    subst (λ (p : List ℕ). prefix_in (written_prefix p) ≡ Ok p) f.2
    (prefixes_are_read.read (written_prefix (path_of f.0)) (path_of f.0) (written_prefix-spells f.0 f.1))

locator_again : (l : Locator) → address_number l < 2 ^ address_width l → locator_in (written_locator l) ≡ Ok l
locator_again l fits = locators_are_read.read (written_locator l) l (written_locator-spells l fits)

abbrev is_space : ℕ → Bool
is_space b = b == 32

no_spaces : (text : List ℕ) → ArePlain 46 text → AllByRecursion (λ b. is_space b ≡ false) text
no_spaces [] h = tt
no_spaces (b ∷ text) h = (ne_eqb b 32 (λ same. absurd (omega (arith, h.0.0, same))), no_spaces text h.1)

unspaced : (l : Locator) → address_number l < 2 ^ address_width l → All (λ b. is_space b ≡ false) (written_locator l)
unspaced l fits =
    All-from_recursion (λ b. is_space b ≡ false) (written_locator l)
    (no_spaces (written_locator l) (plain-locator (written_locator l) l (written_locator-spells l fits)))

-- what are_locators says of the first locator and of the others
first_fits : (l : Locator) (ls : List Locator) → are_locators (l ∷ ls) ≡ true
    → (address_number l < 2 ^ address_width l) × (are_locators ls ≡ true)
first_fits l ls e =
    let p = and_parts (nat_lt (address_number l) (2 ^ address_width l)) (are_locators ls) e in
    (ltb-true (address_number l) (2 ^ address_width l) p.0, p.1)

spaced_parts : (l : Locator) (ls : List Locator) → are_locators (l ∷ ls) ≡ true
    → slice_split is_space (written_locator l ++ more_locators ls) ≡ map written_locator (l ∷ ls)
spaced_parts l [] e =
    ap (slice_split is_space) (append-nil (written_locator l))
    ∙ slice_split_none is_space (written_locator l) (unspaced l (first_fits l [] e).0)
spaced_parts l (m ∷ ls) e =
    let fits = first_fits l (m ∷ ls) e in
    let more : more_locators (m ∷ ls) ≡ 32 ∷ (written_locator m ++ more_locators ls) =
    flat_map-cons (λ (l : Locator). 32 ∷ written_locator l) m ls in
    ap (λ (t : List ℕ). slice_split is_space (written_locator l ++ t)) more
    ∙ slice_split_at is_space (written_locator l) 32 (written_locator m ++ more_locators ls) (unspaced l fits.0) refl
    ∙ ap (λ (parts : List (List ℕ)). written_locator l ∷ parts) (spaced_parts m ls fits.1)

each_again : (fault : ReadFault) (ls : List Locator) → are_locators ls ≡ true
    → each_locator fault (map written_locator ls) ≡ Ok ls
each_again fault [] e = refl
each_again fault (l ∷ ls) e =
    let fits = first_fits l ls e in
    rw (locator_again l fits.0, each_again fault ls fits.1) refl

is_some_text : (text more : List ℕ) (l : Locator) → locator_in text ≡ Ok l → (length (text ++ more) == 0) ≡ false
is_some_text [] more l e = absurd (cc e)
is_some_text (b ∷ text) more l e = ne_eqb (suc (length (text ++ more))) 0 (λ none. absurd (omega (arith, none)))

locators_again : (fault : ReadFault) (ls : List Locator) → are_locators ls ≡ true
    → locators_in fault (spaced ls) ≡ Ok ls
locators_again fault [] e = refl
locators_again fault (l ∷ ls) e =
    let fits = first_fits l ls e in
    rw (is_some_text (written_locator l) (more_locators ls) l (locator_again l fits.0))
    (ap (each_locator fault) (spaced_parts l ls e) ∙ each_again fault (l ∷ ls) e)

-- ---- a row

zone_again : (kind : Role) (n : ℕ) (prefix group : List ℕ) → n ≤ 65535 → is_prefix_path prefix ≡ true
    → is_name group ≡ true
    → row_in n (zone_kind kind ∷ written_prefix prefix ∷ group ∷ [] ∷ [])
    ≡ Ok (Of.Zone (record { prefix = prefix; kind = kind; group = group; row = n }))
zone_again Node n prefix group most p g = rw (le-ltb 65535 n most, prefix_again prefix p, g) refl
zone_again Ms n prefix group most p g = rw (le-ltb 65535 n most, prefix_again prefix p, g) refl

site_again : (n : ℕ) (prefix : List ℕ) (etrs : List Locator) → n ≤ 65535 → is_prefix_path prefix ≡ true
    → are_locators etrs ≡ true
    → row_in n (site_fields (record { prefix = prefix; etrs = etrs; row = n }))
    ≡ Ok (Of.Site (record { prefix = prefix; etrs = etrs; row = n }))
site_again n prefix etrs most p e =
    rw (le-ltb 65535 n most, prefix_again prefix p)
    (ap (λ (r : Result (List Locator) ReadFault). r >>= (λ ls. Ok (Of.Site
    (record { prefix = prefix; etrs = ls; row = n }))))
    (locators_again (Fault.Address n) etrs e))

group_again : (kind : Role) (n : ℕ) (name : List ℕ) (ls : List Locator) → n ≤ 65535 → is_name name ≡ true
    → are_locators ls ≡ true
    → row_in n (group_kind kind ∷ [] ∷ name ∷ spaced ls ∷ [])
    ≡ Ok (Of.Group (record { name = name; kind = kind; locators = ls; row = n }))
group_again Node n name ls most g e =
    rw (le-ltb 65535 n most, g)
    (ap (λ (r : Result (List Locator) ReadFault). r >>= (λ ls. Ok (Of.Group
    (record { name = name; kind = Node; locators = ls; row = n }))))
    (locators_again (Fault.Address n) ls e))
group_again Ms n name ls most g e =
    rw (le-ltb 65535 n most, g)
    (ap (λ (r : Result (List Locator) ReadFault). r >>= (λ ls. Ok (Of.Group
    (record { name = name; kind = Ms; locators = ls; row = n }))))
    (locators_again (Fault.Address n) ls e))

-- a row is one of some lists
abbrev pub Has : Lists → Row → Type 0
Has items (Of.Zone z) = IsIn z items.zones
Has items (Of.Site s) = IsIn s items.sites
Has items (Of.Group g) = IsIn g items.groups

row_again : (r : Register) (row : Row) (n : ℕ) → Has (lists_of r) row → row_number row ≡ n → n ≤ 65535
    → row_in n (row_fields row) ≡ Ok row
row_again r (Of.Zone z) n k is most =
    let fits = and_parts (is_prefix_path z.prefix) (is_name z.group) (zone_at r z k) in
    zone_again z.kind n z.prefix z.group most fits.0 fits.1
    ∙ ap (λ (m : ℕ). Ok (Of.Zone (record { prefix = z.prefix; kind = z.kind; group = z.group; row = m }))) (sym is)
row_again r (Of.Site s) n k is most =
    let fits = and_parts (is_prefix_path s.prefix) (are_locators s.etrs) (site_at r s k) in
    site_again n s.prefix s.etrs most fits.0 fits.1
    ∙ ap (λ (m : ℕ). Ok (Of.Site (record { prefix = s.prefix; etrs = s.etrs; row = m }))) (sym is)
row_again r (Of.Group g) n k is most =
    let fits = and_parts (is_name g.name) (are_locators g.locators) (group_at r g k) in
    group_again g.kind n g.name g.locators most fits.0 fits.1
    ∙ ap (λ (m : ℕ). Ok (Of.Group (record { name = g.name; kind = g.kind; locators = g.locators; row = m }))) (sym is)

-- ---- rows, and the lists of their items

kept_in : (first row : Row) (items : Lists) → Has items row → Has (joined (items_of first) items) row
kept_in (Of.Zone y) (Of.Zone z) items k = inr k
kept_in (Of.Zone y) (Of.Site s) items k = k
kept_in (Of.Zone y) (Of.Group g) items k = k
kept_in (Of.Site y) (Of.Zone z) items k = k
kept_in (Of.Site y) (Of.Site s) items k = inr k
kept_in (Of.Site y) (Of.Group g) items k = k
kept_in (Of.Group y) (Of.Zone z) items k = k
kept_in (Of.Group y) (Of.Site s) items k = k
kept_in (Of.Group y) (Of.Group g) items k = inr k

first_in : (row : Row) (items : Lists) → Has (joined (items_of row) items) row
first_in (Of.Zone z) items = inl refl
first_in (Of.Site s) items = inl refl
first_in (Of.Group g) items = inl refl

either_in : (first row : Row) (items : Lists) → Has (joined (items_of first) items) row → (row ≡ first) ⊎ Has items row
either_in (Of.Zone y) (Of.Zone z) items (inl same) = inl (ap (λ (x : Zone). Of.Zone x) same)
either_in (Of.Zone y) (Of.Zone z) items (inr k) = inr k
either_in (Of.Zone y) (Of.Site s) items k = inr k
either_in (Of.Zone y) (Of.Group g) items k = inr k
either_in (Of.Site y) (Of.Zone z) items k = inr k
either_in (Of.Site y) (Of.Site s) items (inl same) = inl (ap (λ (x : Site). Of.Site x) same)
either_in (Of.Site y) (Of.Site s) items (inr k) = inr k
either_in (Of.Site y) (Of.Group g) items k = inr k
either_in (Of.Group y) (Of.Zone z) items k = inr k
either_in (Of.Group y) (Of.Site s) items k = inr k
either_in (Of.Group y) (Of.Group g) items (inl same) = inl (ap (λ (x : Group). Of.Group x) same)
either_in (Of.Group y) (Of.Group g) items (inr k) = inr k

has_row : (rows : List Row) (row : Row) → IsIn row rows → Has (items_of_rows rows) row
has_row [] row k = absurd k
has_row (first ∷ rows) row (inl same) =
    subst (λ (x : Row). Has (joined (items_of first) (items_of_rows rows)) x) (sym same) (first_in first
    (items_of_rows rows))
has_row (first ∷ rows) row (inr later) = kept_in first row (items_of_rows rows) (has_row rows row later)

nothing_in : (row : Row) → Has no_items row → ⊥
nothing_in (Of.Zone z) k = k
nothing_in (Of.Site s) k = k
nothing_in (Of.Group g) k = k

row_had : (rows : List Row) (row : Row) → Has (items_of_rows rows) row → IsIn row rows
row_had [] row k = absurd (nothing_in row k)
row_had (first ∷ rows) row k = elim (either_in first row (items_of_rows rows) k) [
  | inl same ↦ inl same
  | inr later ↦ inr (row_had rows row later)
]

-- ---- rows without a gap

-- the rows are numbered one after the other, from this number on, and none is above the last that there may be
abbrev pub InTurn : ℕ → List Row → Type 0
InTurn n [] = ⊤
InTurn n (row ∷ rows) = (row_number row ≡ n) × (n ≤ 65535) × InTurn (n + 1) rows

rows_rise : (last : ℕ) (rows : List Row) → InTurn (last + 1) rows → rise last (map row_number rows) ≡ true
rows_rise last [] h = refl
rows_rise last (row ∷ rows) h =
    rw (h.0, lt-ltb last (last + 1) (omega arith), le-leb (last + 1) 65535 h.1) (rows_rise (last + 1) rows h.2)

rows_again : (r : Register) (n : ℕ) (rows : List Row) → ((row : Row) → IsIn row rows → Has (lists_of r) row)
    → InTurn n rows
    → rows_in n (map row_fields rows) ≡ Ok (items_of_rows rows)
rows_again r n [] has h = refl
rows_again r n (row ∷ rows) has h =
    rw (row_again r row n (has row (inl refl)) h.0 h.1, rows_again r (n + 1) rows (λ x k. has x (inr k)) h.2) refl

-- a step that gives a value
stepped : {A B : Type 0} (a : Result A ReadFault) (f : A → Result B ReadFault) (b : B) → a >>= f ≡ Ok b
    → (x : A) × (a ≡ Ok x) × (f x ≡ Ok b)
stepped (Ok x) f b e = (x, refl, e)
stepped (Err fault) f b e = absurd (cc e)

number_case : (row item : Row) → (let r : Result Row ReadFault = Ok row in r) ≡ Ok item
    → row_number item ≡ row_number row
number_case row item e = let same : row ≡ item = cc e in ap row_number (sym same)

group_number : (role : Role) (n : ℕ) (prefix group addresses : List ℕ) (item : Row)
    → group_in role n prefix group addresses ≡ Ok item
    → row_number item ≡ n
group_number role n prefix group addresses item e =
    let a = stepped (empty_in (Fault.Prefix n) prefix) _ item e in
    let b = stepped (name_in (Fault.Name n) group) _ item a.2 in
    let c = stepped (locators_in (Fault.Address n) addresses) _ item b.2 in
    number_case _ item c.2

zone_number : (role : Role) (n : ℕ) (prefix group addresses : List ℕ) (item : Row)
    → zone_in role n prefix group addresses ≡ Ok item
    → row_number item ≡ n
zone_number role n prefix group addresses item e =
    let a = stepped (field_of (Fault.Prefix n) (prefix_in prefix)) _ item e in
    let b = stepped (name_in (Fault.Name n) group) _ item a.2 in
    let c = stepped (empty_in (Fault.Address n) addresses) _ item b.2 in
    number_case _ item c.2

site_number : (n : ℕ) (prefix group addresses : List ℕ) (item : Row) → site_in n prefix group addresses ≡ Ok item
    → row_number item ≡ n
site_number n prefix group addresses item e =
    let a = stepped (field_of (Fault.Prefix n) (prefix_in prefix)) _ item e in
    let b = stepped (empty_in (Fault.Name n) group) _ item a.2 in
    let c = stepped (locators_in (Fault.Address n) addresses) _ item b.2 in
    number_case _ item c.2

number_in : (n : ℕ) (kind prefix group addresses : List ℕ) (item : Row)
    → fields_in n kind prefix group addresses ≡ Ok item
    → row_number item ≡ n
number_in n kind prefix group addresses item e = elim (cases_Bool (bytes_eq kind (codes "group-node"))) [
  | inl hit ↦ group_number Node n prefix group addresses item (rw hit at e)
  | inr a ↦ elim (cases_Bool (bytes_eq kind (codes "group-ms"))) [
    | inl hit ↦ group_number Ms n prefix group addresses item (rw (a, hit) at e)
    | inr b ↦ elim (cases_Bool (bytes_eq kind (codes "node"))) [
      | inl hit ↦ zone_number Node n prefix group addresses item (rw (a, b, hit) at e)
      | inr c ↦ elim (cases_Bool (bytes_eq kind (codes "ms"))) [
        | inl hit ↦ zone_number Ms n prefix group addresses item (rw (a, b, c, hit) at e)
        | inr d ↦ elim (cases_Bool (bytes_eq kind (codes "site"))) [
          | inl hit ↦ site_number n prefix group addresses item (rw (a, b, c, d, hit) at e)
          | inr f ↦ absurd (cc (rw (a, b, c, d, f) at e))
        ]
      ]
    ]
  ]
]

few_case : (n : ℕ) (past : Bool) (u : Unit {0}) → nat_lt most_rows n ≡ past → unless_too_many past ≡ Ok u → n ≤ 65535
few_case n true u is e = absurd (cc e)
few_case n false u is e = ltb-false 65535 n is

number_of_row : (n : ℕ) (fields : List (List ℕ)) (item : Row) → row_in n fields ≡ Ok item
    → (row_number item ≡ n) × (n ≤ 65535)
number_of_row n [] item e = absurd (cc e)
number_of_row n (a ∷ []) item e = absurd (cc e)
number_of_row n (a ∷ b ∷ []) item e = absurd (cc e)
number_of_row n (a ∷ b ∷ c ∷ []) item e = absurd (cc e)
number_of_row n (a ∷ b ∷ c ∷ d ∷ []) item e =
    let p = stepped (unless_too_many (nat_lt most_rows n)) _ item e in
    (number_in n a b c d item p.2, few_case n (nat_lt most_rows n) p.0 refl p.1)
number_of_row n (a ∷ b ∷ c ∷ d ∷ e ∷ more) item h = absurd (cc h)

-- what records spell are rows without a gap
rows_of : (n : ℕ) (all : List (List (List ℕ))) (items : Lists) → rows_in n all ≡ Ok items
    → (rows : List Row) × (items_of_rows rows ≡ items) × InTurn n rows
rows_of n [] items e = ([], cc e, tt)
rows_of n (fields ∷ all) items e =
    let a = stepped (row_in n fields) _ items e in
    let b = stepped (rows_in (n + 1) all) _ items a.2 in
    let rest = rows_of (n + 1) all b.0 b.1 in
    let number = number_of_row n fields a.0 a.1 in
    let whole : joined (items_of a.0) b.0 ≡ items = cc b.2 in
    (a.0 ∷ rest.0, ap (joined (items_of a.0)) rest.1 ∙ whole, (number.0, number.1, rest.2))

spelled_rows : (all : List (List (List ℕ))) (items : Lists) → spelled all ≡ Ok items
    → (rows : List Row) × (items_of_rows rows ≡ items) × InTurn 1 rows
spelled_rows [] items e = ([], cc e, tt)
spelled_rows (first ∷ all) items e = let p = stepped (columns_in first) _ items e in rows_of 1 all items p.2

-- the rows of a register are those that some records spell, if they spell it
same_rows : (r : Register) (rows found : List Row) → AreItsRows r rows → items_of_rows found ≡ lists_of r
    → InTurn 1 found → found ≡ rows
same_rows r rows found its items turn =
    let same : items_of_rows rows ≡ items_of_rows found = its.items ∙ sym items in
    one_order row_number rows found (rising_from_rise row_number rows 0 its.rising)
    (rising_from_rise row_number found 0 (rows_rise 0 found turn))
    (λ row k. row_had found row (subst (λ (l : Lists). Has l row) same (has_row rows row k)))
    (λ row k. row_had rows row (subst (λ (l : Lists). Has l row) (sym same) (has_row found row k)))

pub read_again : (r : Register) (rows : List Row) (text : List ℕ) (all : List (List (List ℕ))) → AreItsRows r rows
    → text ≡ text_of (records_of rows) → spelled all ≡ Ok (lists_of r)
    → spelled (records default_config (strip_bom text)) ≡ Ok (lists_of r)
read_again r rows text all its is e =
    let found = spelled_rows all (lists_of r) e in
    let turn : InTurn 1 rows = subst (InTurn 1) (same_rows r rows found.0 its found.1 found.2) found.2 in
    ap (λ (t : List ℕ). spelled (records default_config (strip_bom t))) is
    ∙ ap spelled (records_again rows)
    ∙ rows_again r 1 rows (λ row k. subst (λ (l : Lists). Has l row) its.items (has_row rows row k)) turn
    ∙ ap Ok its.items
