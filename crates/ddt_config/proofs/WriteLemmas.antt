-- What is written is one table, and is read as what it was written for.
use Rattle.std.proofs.Common.{◌≡◌, ℕ, suc, ◌+◌, ◌<◌, ◌≤◌, true, List, [], ◌∷◌, ◌++◌, length, take, get_or, map, Some, Ok, String, Global, Result, Err, IfOk, Ordering, Less, Equal, Greater, string_bytes, refl, sym, ap, ◌∙◌, arith, inl}
use Rattle.std.specs.List.{All}
use Rattle.std.proofs.lemmas.Bool.{false≢true}
use Rattle.std.proofs.lemmas.List.{take_all, map-append, map_more}
use Rattle.std.proofs.lemmas.List.Elements.{All-head, All-tail}
use Rattle.std.proofs.lemmas.List.Sums.{AllPass-from_list_all}
use Rattle.std.specs.String.{string_cmp}
use Rattle.std.specs.Ordering.{match_ordering}
use Rattle.std.specs.BTreeMap.{insert_entry}
use Rattle.toml.specs.Data.{Data, Members, string, array, table, depth, has_valid_dates, items_depth, items_have_valid_dates, members_depth, members_have_valid_dates}
use Rattle.toml.specs.Parse.{parse_document}
use Rattle.toml.specs.View.{view, items_view, members_view}
use Rattle.toml.specs.declared.value.Value.{Value}
use Rattle.ddt_path.specs.declared.locator.Locator.{Locator}
use Rattle.ddt_path.specs.declared.record.Role.{Role}
use Rattle.ddt_path.specs.declared.record.Role.TheVariants.{Node, Ms}
use Rattle.ddt_path.specs.Names.{is_name}
use Rattle.ddt_text.specs.Grammar.{SpellsLocator, SpellsPrefix}
use Rattle.ddt_text.specs.Written.{written_locator, written_prefix}
use Rattle.ddt_config.specs.declared.child.Child.{Child}
use Rattle.ddt_config.specs.declared.site_entry.SiteEntry.{SiteEntry}
use Rattle.ddt_config.specs.declared.authority.Content.{Content}
use Rattle.ddt_config.specs.declared.authority.Content.TheVariants.{Children, Sites}
use Rattle.ddt_config.specs.declared.authority.Authority.{Authority}
use Rattle.ddt_config.specs.Table.{Outline, config_in, config_in_document, config_in_text}
use Rattle.ddt_config.specs.Shaped.{is_content_of, is_authority_of, is_shaped}
use Rattle.ddt_config.specs.Stands.{HoldsPrefix, AreFor, IsArrayOf, IsLocatorText, IsTomlTableOf, IsChild, IsSite, IsContent, IsAuthority, Stands}
use Rattle.ddt_config.specs.Writing.{inserted, items_of, written_each, written_locators, written_child, written_site, written_content, written_authority, written_config, AreLocatorsSpelled, IsChildSpelled, IsSiteSpelled, IsContentSpelled, IsAuthoritySpelled}
use Rattle.ddt_config.proofs.RoomLemmas.{are_authorities}
use Rattle.ddt_config.proofs.StandsLemmas.{tables_are_read}

-- a member put into the map of a table
in_order : (o : Ordering) (a b c : List (String Global × Value)) → members_view (match_ordering o a b c) ≡ match_ordering o (members_view a) (members_view b) (members_view c)
in_order Less a b c = refl
in_order Equal a b c = refl
in_order Greater a b c = refl

pub members_inserted : (es : List (String Global × Value)) (k : String Global) (v : Value) → members_view (insert_entry string_cmp es k v) ≡ inserted (string_bytes k) (view v) (members_view es)
members_inserted [] k v = refl
members_inserted (e ∷ es) k v = in_order (string_cmp k e.0) _ _ _ ∙ rw (members_inserted es k v) refl

-- ---- values beside what they were written for

pub values-next : {A : Type 0} (write : A → Data) (vs : List Value) (xs : List A) (i : ℕ) (v : Value) (x d : A)
    → i < length xs → x ≡ get_or xs i d → map view vs ≡ map write (take i xs) → view v ≡ write x → map view (vs ++ v ∷ []) ≡ map write (take (i + 1) xs)
values-next write vs xs i v x d lt is h e = map-append view vs (v ∷ []) ∙ (λ j. h j ++ (e ∙ ap write is) j ∷ []) ∙ sym (map_more write xs i d lt)

items_view-map : (vs : List Value) → items_view vs ≡ items_of (map view vs)
items_view-map [] = refl
items_view-map (v ∷ vs) = rw (items_view-map vs) refl

pub values-end : {A : Type 0} (write : A → Data) (v : Value) (vs : List Value) (xs : List A) (i : ℕ) → view v ≡ array (items_view vs) → length xs ≤ i → map view vs ≡ map write (take i xs) → view v ≡ written_each write xs
values-end write v vs xs i e le h =
    e ∙ ap array (items_view-map vs) ∙ ap (λ ds. array (items_of ds)) (h ∙ ap (map write) (take_all i xs le))

-- ---- what is written stands for what it is written for

for_written : {A : Type 0} (IsFor : Data → A → Type 0) (write : A → Data) (P : A → Type 0) → ((x : A) → P x → IsFor (write x) x) → (xs : List A) → All P xs → AreFor IsFor (items_of (map write xs)) xs
for_written IsFor write P stands [] h = tt
for_written IsFor write P stands (x ∷ xs) h = (stands x (All-head P x xs h), for_written IsFor write P stands xs (All-tail P x xs h))

array_stands : {A : Type 0} (IsFor : Data → A → Type 0) (write : A → Data) (P : A → Type 0) → ((x : A) → P x → IsFor (write x) x) → (xs : List A) → All P xs → IsArrayOf IsFor (written_each write xs) xs
array_stands IsFor write P stands xs h = (items_of (map write xs), refl, for_written IsFor write P stands xs h)

locators_stand : (ls : List Locator) → AreLocatorsSpelled ls → IsArrayOf IsLocatorText (written_locators ls) ls
locators_stand =
    array_stands IsLocatorText (λ l. string (written_locator l)) (λ l. SpellsLocator (written_locator l) l) (λ l h. (written_locator l, refl, h))

child_stands : (c : Child) → IsChildSpelled c → IsTomlTableOf IsChild (table (written_child c)) c
child_stands c h = (
  written_child c,
  refl,
  record { prefix = (written_prefix c.prefix, refl, h.0); kind = refl; locators = (written_locators c.locators, refl, locators_stand c.locators h.1) },
)

site_stands : (s : SiteEntry) → IsSiteSpelled s → IsTomlTableOf IsSite (table (written_site s)) s
site_stands s h = (
  written_site s,
  refl,
  record { prefix = (written_prefix s.prefix, refl, h.0); etrs = (written_locators s.etrs, refl, locators_stand s.etrs h.1) },
)

-- an authority of a shaped configuration holds what its servers' role asks for
content_stands : (role : Role) (p : List ℕ) (content : Content) → is_content_of role p content ≡ true → IsContentSpelled content → IsContent role (written_content p content) content
content_stands Node p (Children cs) e h =
    inl (written_each (λ c. table (written_child c)) cs, refl, array_stands (IsTomlTableOf IsChild) (λ c. table (written_child c)) IsChildSpelled child_stands cs h)
content_stands Ms p (Sites ss) e h =
    inl (written_each (λ s. table (written_site s)) ss, refl, array_stands (IsTomlTableOf IsSite) (λ s. table (written_site s)) IsSiteSpelled site_stands ss h)
content_stands Node p (Sites ss) e h = absurd (false≢true e)
content_stands Ms p (Children cs) e h = absurd (false≢true e)

prefix_stands : (p : List ℕ) (content : Content) → SpellsPrefix (written_prefix p) p → HoldsPrefix (written_content p content) p
prefix_stands p (Children cs) h = (written_prefix p, refl, h)
prefix_stands p (Sites ss) h = (written_prefix p, refl, h)

authority_stands : (role : Role) (a : Authority) → (is_authority_of role a ≡ true) × IsAuthoritySpelled a → IsTomlTableOf (IsAuthority role) (table (written_authority a)) a
authority_stands role a h = (
  written_authority a,
  refl,
  record { prefix = prefix_stands a.prefix a.content h.1.0; content = content_stands role a.prefix a.content h.0 h.1.1 },
)

pub config_back : (o : Outline) → is_name o.name ≡ true → AreLocatorsSpelled o.locators → All IsAuthoritySpelled o.authorities → is_shaped o.role o.locators o.authorities ≡ true → config_in (written_config o) ≡ Ok o
config_back o n l a e =
    let fit = AllPass-from_list_all (is_authority_of o.role) o.authorities (are_authorities o.role o.locators o.authorities e) in
    let write = λ (b : Authority). table (written_authority b) in
    let stands : Stands (written_config o) o = record {
      name = refl;
      word = n;
      kind = refl;
      locators = (written_locators o.locators, refl, locators_stand o.locators l);
      authorities = inl (
        written_each write o.authorities,
        refl,
        array_stands (IsTomlTableOf (IsAuthority o.role)) write (λ b. (is_authority_of o.role b ≡ true) × IsAuthoritySpelled b) (authority_stands o.role) o.authorities (λ k d lt. (fit k d lt, a k d lt)),
      );
    } in
    (tables_are_read (written_config o) o).1 (stands, e)

-- ---- nesting: a value nests at most n deep, and each date in it can be written

abbrev IsPlain : ℕ → Data → Type 0
IsPlain n d = (depth d ≤ n) × (has_valid_dates d ≡ true)

abbrev ArePlain : ℕ → Members → Type 0
ArePlain n ms = (members_depth ms ≤ n) × (members_have_valid_dates ms ≡ true)

items_plain : {A : Type 0} (n : ℕ) (write : A → Data) → ((x : A) → IsPlain n (write x)) → (xs : List A) → (items_depth (items_of (map write xs)) ≤ n) × (items_have_valid_dates (items_of (map write xs)) ≡ true)
items_plain n write plain [] = (omega arith, refl)
items_plain n write plain (x ∷ xs) =
    let here = plain x in
    let more = items_plain n write plain xs in
    (let a : depth (write x) ≤ n = here.0 in let b : items_depth (items_of (map write xs)) ≤ n = more.0 in omega arith, rw (here.1, more.1) refl)

plain_each : {A : Type 0} (n : ℕ) (write : A → Data) → ((x : A) → IsPlain n (write x)) → (xs : List A) → IsPlain (suc n) (written_each write xs)
plain_each n write plain xs = let all = items_plain n write plain xs in (let a : items_depth (items_of (map write xs)) ≤ n = all.0 in omega arith, all.1)

plain_tables : {A : Type 0} (n : ℕ) (written : A → Members) → ((x : A) → ArePlain n (written x)) → (xs : List A) → IsPlain (suc (suc n)) (written_each (λ x. table (written x)) xs)
plain_tables n written plain xs = plain_each (suc n) (λ x. table (written x)) (λ x. (let b : members_depth (written x) ≤ n = (plain x).0 in omega arith, (plain x).1)) xs

plain_locators : (ls : List Locator) → IsPlain 1 (written_locators ls)
plain_locators ls = plain_each 0 (λ l. string (written_locator l)) (λ l. (omega arith, refl)) ls

plain_child : (c : Child) → ArePlain 1 (written_child c)
plain_child c = let ls = plain_locators c.locators in (let a : depth (written_locators c.locators) ≤ 1 = ls.0 in omega arith, rw ls.1 refl)

plain_site : (s : SiteEntry) → ArePlain 1 (written_site s)
plain_site s = let ls = plain_locators s.etrs in (let a : depth (written_locators s.etrs) ≤ 1 = ls.0 in omega arith, rw ls.1 refl)

plain_content : (p : List ℕ) (content : Content) → ArePlain 3 (written_content p content)
plain_content p (Children cs) =
    let all = plain_tables 1 written_child plain_child cs in
    (let a : depth (written_each (λ c. table (written_child c)) cs) ≤ 3 = all.0 in omega arith, rw all.1 refl)
plain_content p (Sites ss) =
    let all = plain_tables 1 written_site plain_site ss in
    (let a : depth (written_each (λ s. table (written_site s)) ss) ≤ 3 = all.0 in omega arith, rw all.1 refl)

plain_config : (o : Outline) → ArePlain 5 (written_config o)
plain_config o =
    let ls = plain_locators o.locators in
    let all = plain_tables 3 written_authority (λ a. plain_content a.prefix a.content) o.authorities in (
      let a : depth (written_locators o.locators) ≤ 1 = ls.0 in
          let b : depth (written_each (λ a. table (written_authority a)) o.authorities) ≤ 5 = all.0 in
          omega arith,
      rw (all.1, ls.1) refl,
    )

-- a table of what is written is shallow, and has no date that can't be written
pub shallow_table : (o : Outline) (ms : Members) → ms ≡ written_config o → members_depth ms ≤ 5
shallow_table o ms is = omega (arith, ap (λ m. members_depth m) is, (plain_config o).0)

pub dated_table : (o : Outline) (ms : Members) → ms ≡ written_config o → members_have_valid_dates ms ≡ true
dated_table o ms is = ap (λ m. members_have_valid_dates m) is ∙ (plain_config o).1

pub ok_by : {A E : Type 0} (P Q : A → Type 0) → ((a : A) → P a → Q a) → (r : Result A E) → IfOk r P → IfOk r Q
ok_by P Q f (Ok a) h = f a h
ok_by P Q f (Err e) h = tt

-- the printed table is read back
pub read_again : (o : Outline) (text : List ℕ) (ms : Members) → members_depth ms ≤ 5 → (members_depth ms ≤ 80 → parse_document text ≡ Some ms) → config_in ms ≡ Ok o → config_in_text text ≡ Ok o
read_again o text ms depth back stands = ap config_in_document (back (omega (arith, depth))) ∙ stands
