-- A table is read as what it stands for, and as nothing else: step by step, both ways.
use Rattle.std.proofs.Common.{◌≡◌, ◌⊎◌, ◌↔◌, ℕ, Bool, true, false, cond, List, [], ◌∷◌, Option, None, Some, Result, Ok, Err, refl, sym, ap, subst, ◌∙◌, inl, inr}
use Rattle.std.specs.List.{list_all}
use Rattle.std.specs.Option.{option_map}
use Rattle.std.specs.Cmp.Lexicographic.{bytes_decides}
use Rattle.toml.specs.Data.{Data, Items, no_items, item, Members, get_member, string, array, table, as_str, as_array, as_table}
use Rattle.ddt_path.specs.declared.locator.Locator.{Locator}
use Rattle.ddt_path.specs.declared.record.Role.{Role}
use Rattle.ddt_path.specs.declared.record.Role.TheVariants.{Node, Ms}
use Rattle.ddt_path.specs.Names.{is_name}
use Rattle.ddt_text.specs.declared.fault.TextFault.{TextFault}
use Rattle.ddt_text.specs.FirstFault.{locator_in, prefix_in}
use Rattle.ddt_text.specs.laws.Readers.{locators_are_read, prefixes_are_read}
use Rattle.ddt_path.specs.Steps.{◌>>=◌}
use Rattle.ddt_path.specs.laws.Step.{bind_ok, held_ok, ok_is}
use Rattle.ddt_config.specs.declared.fault.Key.{Key}
use Rattle.ddt_config.specs.declared.fault.Key.TheVariants as key
use Rattle.ddt_config.specs.declared.fault.ConfigFault.{ConfigFault}
use Rattle.ddt_config.specs.declared.fault.ConfigFault.TheVariants.{Value, Shape}
use Rattle.ddt_config.specs.declared.authority.Content.{Content}
use Rattle.ddt_config.specs.declared.authority.Content.TheVariants.{Children, Sites}
use Rattle.ddt_config.specs.Shaped.{is_shaped}
use Rattle.ddt_config.specs.Table.{key_text, role_text, each, of_kind, of_form, listed, text_of, array_of, array_or_none, text_at, all_of, is_text_value, is_table_value, item_of, items_in, locator_of, locators_in, path_in, role_of, role_in, name_in, child_in, site_in, content_in, authority_in, Outline, outline_in, with_shape, config_in}
use Rattle.ddt_config.specs.Stands.{HoldsText, HoldsPrefix, AreFor, IsArrayOf, IsLocatorText, HoldsLocators, IsTomlTableOf, HoldsTables, IsChild, IsSite, IsContent, IsAuthority, Stands}

-- what is read is what stands there
abbrev Agrees : {D A : Type 0} → (D → Result A ConfigFault) → (D → A → Type 0) → Type 0
Agrees {D} {A} read IsFor = (d : D) (x : A) → (read d ≡ Ok x) ↔ IsFor d x

abbrev ok_of : {A : Type 0} → A → Result A ConfigFault
ok_of x = Ok x

same_value : {A : Type 0} {x y : A} → ok_of x ≡ ok_of y → x ≡ y
same_value {A} {x} {y} e = ok_is {E = ConfigFault} x y e

-- ---- kinds and forms

kind_ok : {A : Type 0} (k : Key) (o : Option A) (x : A) → of_kind k o ≡ Ok x → o ≡ Some x
kind_ok k None x e = absurd cc
kind_ok k (Some y) x e = cc

form_ok : {A : Type 0} (k : Key) (r : Result A TextFault) (x : A) → of_form k r ≡ Ok x → r ≡ Ok x
form_ok k (Err fault) x e = absurd cc
form_ok k (Ok y) x e = cc

is_string : (d : Data) (text : List ℕ) → as_str d ≡ Some text → d ≡ string text
is_string (string s) text e = cc
is_string other text e = absurd cc

is_array : (d : Data) (vs : List Data) → option_map listed (as_array d) ≡ Some vs → (ds : Items) × (d ≡ array ds) × (listed ds ≡ vs)
is_array (array ds) vs e = (ds, refl, cc)
is_array other vs e = absurd cc

is_table : (d : Data) (ms : Members) → as_table d ≡ Some ms → d ≡ table ms
is_table (table ns) ms e = cc
is_table other ms e = absurd cc

-- ---- texts

text_held : {A : Type 0} (k : Key) (ms : Members) (read : List ℕ → Result A ConfigFault) (x : A) → (text_at k ms >>= read) ≡ Ok x
    → (text : List ℕ) × HoldsText ms k text × (read text ≡ Ok x)
text_held k ms read x e =
    let s = bind_ok (text_at k ms) read x e in
    let d = bind_ok (of_kind k (get_member (key_text k) ms)) (text_of k) s.0 s.1 in
    (s.0, kind_ok k (get_member (key_text k) ms) d.0 d.1 ∙ ap Some (is_string d.0 s.0 (kind_ok k (as_str d.0) s.0 d.2)), s.2)

path_agrees : Agrees path_in HoldsPrefix
path_agrees ms p = (
  λ e.
      let s = text_held key.Prefix ms (λ text. of_form key.Prefix (prefix_in text)) p e in
      (s.0, s.1, prefixes_are_read.taken s.0 p tt (form_ok key.Prefix (prefix_in s.0) p s.2)),
  λ h. rw (h.1, prefixes_are_read.read h.0 p h.2) refl,
)

word_ok : (text : List ℕ) (role : Role) (node ms : Bool) → (node ≡ true → text ≡ role_text Node) → (ms ≡ true → text ≡ role_text Ms)
    → cond node (Ok Node) (cond ms (Ok Ms) (Err (Value key.Kind))) ≡ Ok role → text ≡ role_text role
word_ok text role true ms is_node is_ms e = is_node refl ∙ ap role_text (same_value e)
word_ok text role false true is_node is_ms e = is_ms refl ∙ ap role_text (same_value e)
word_ok text role false false is_node is_ms e = absurd cc

role_agrees : Agrees role_in (λ ms role. HoldsText ms key.Kind (role_text role))
role_agrees ms role = (
  λ e.
      let s = text_held key.Kind ms role_of role e in
      s.1 ∙ ap (λ text. Some (string text)) (word_ok s.0 role _ _ (bytes_decides s.0 (role_text Node)).0 (bytes_decides s.0 (role_text Ms)).0 s.2),
  from role,
)
  where
    from : (role : Role) → HoldsText ms key.Kind (role_text role) → role_in ms ≡ Ok role
    from Node h = rw h refl
    from Ms h = rw h refl

name_agrees : Agrees name_in (λ ms name. HoldsText ms key.Name name × (is_name name ≡ true))
name_agrees ms name = (
  λ e.
      let s = text_held key.Name ms (λ text. cond (is_name text) (Ok text) (Err (Value key.Name))) name e in
      let t = held_ok (is_name s.0) (Value key.Name) (Ok s.0) name s.2 in
      subst (λ (n : List ℕ). HoldsText ms key.Name n × (is_name n ≡ true)) (same_value t.1) (s.1, t.0),
  λ h. rw (h.0, h.1) refl,
)

-- ---- arrays

module _ {A : Type 0} (is_kind : Data → Bool) (read : Data → Result A ConfigFault) (IsFor : Data → A → Type 0)
    (agrees : Agrees read IsFor) (kinds : (d : Data) (x : A) → IsFor d x → is_kind d ≡ true) where
  each_for : (ds : Items) (xs : List A) → each read (listed ds) ≡ Ok xs → AreFor IsFor ds xs
  each_for no_items [] e = tt
  each_for no_items (x ∷ xs) e = absurd cc
  each_for (item d ds) xs e =
      let s = bind_ok (read d) _ xs e in
      let t = bind_ok (each read (listed ds)) _ xs s.2 in
      subst (AreFor IsFor (item d ds)) (same_value t.2) ((agrees d s.0).0 s.1, each_for ds t.0 t.1)

  for_each : (ds : Items) (xs : List A) → AreFor IsFor ds xs → (each read (listed ds) ≡ Ok xs) × (list_all is_kind (listed ds) ≡ true)
  for_each no_items [] h = (refl, refl)
  for_each no_items (x ∷ xs) h = absurd h
  for_each (item d ds) [] h = absurd h
  for_each (item d ds) (x ∷ xs) h =
      let rest = for_each ds xs h.1 in
      (rw ((agrees d x).1 h.0, rest.0) refl, rw (kinds d x h.0, rest.1) refl)

  array_for : (k : Key) (d : Data) (xs : List A) → ((array_of k d >>= all_of k is_kind) >>= each read) ≡ Ok xs → IsArrayOf IsFor d xs
  array_for k d xs e =
      let s = bind_ok (array_of k d >>= all_of k is_kind) (each read) xs e in
      let t = bind_ok (array_of k d) (all_of k is_kind) s.0 s.1 in
      let u = held_ok (list_all is_kind t.0) _ (Ok t.0) s.0 t.2 in
      let v = is_array d t.0 (kind_ok k (option_map listed (as_array d)) t.0 t.1) in
      (v.0, v.1, each_for v.0 xs (ap (each read) (v.2 ∙ same_value u.1) ∙ s.2))

  for_array : (k : Key) (d : Data) (xs : List A) → IsArrayOf IsFor d xs → ((array_of k d >>= all_of k is_kind) >>= each read) ≡ Ok xs
  for_array k d xs h = let r = for_each h.0 xs h.2 in rw (h.1, r.1) r.0

-- ---- what a key holds

text_kind : (d : Data) (l : Locator) → IsLocatorText d l → is_text_value d ≡ true
text_kind d l h = rw h.1 refl

locator_agrees : (k : Key) → Agrees (locator_of k) IsLocatorText
locator_agrees k d l = (
  λ e.
      let s = bind_ok (text_of k d) (λ text. of_form k (locator_in text)) l e in
      (s.0, is_string d s.0 (kind_ok k (as_str d) s.0 s.1), locators_are_read.taken s.0 l tt (form_ok k (locator_in s.0) l s.2)),
  λ h. rw (h.1, locators_are_read.read h.0 l h.2) refl,
)

locators_agree : (k : Key) → Agrees (locators_in k) (λ ms. HoldsLocators ms k)
locators_agree k ms ls = (
  to (get_member (key_text k) ms),
  λ h. rw h.1 (for_array is_text_value (locator_of k) IsLocatorText (locator_agrees k) text_kind k h.0 ls h.2),
)
  where
    to : (o : Option Data) → (((of_kind k o >>= array_of k) >>= all_of k is_text_value) >>= each (locator_of k)) ≡ Ok ls
        → (d : Data) × (o ≡ Some d) × IsArrayOf IsLocatorText d ls
    to None e = absurd cc
    to (Some d) e = (d, refl, array_for is_text_value (locator_of k) IsLocatorText (locator_agrees k) text_kind k d ls e)

module _ {A : Type 0} (read : Members → Result A ConfigFault) (Is : Members → A → Type 0) (agrees : Agrees read Is) where
  table_kind : (d : Data) (x : A) → IsTomlTableOf Is d x → is_table_value d ≡ true
  table_kind d x h = rw h.1 refl

  item_agrees : (k : Key) → Agrees (item_of k read) (IsTomlTableOf Is)
  item_agrees k d x = (
    λ e.
        let s = bind_ok (of_kind k (as_table d)) read x e in
        (s.0, is_table d s.0 (kind_ok k (as_table d) s.0 s.1), (agrees s.0 x).0 s.2),
    λ h. rw h.1 ((agrees h.0 x).1 h.2),
  )

  tables_agree : (k : Key) → Agrees (items_in k read) (λ ms. HoldsTables Is ms k)
  tables_agree k ms xs = (to (get_member (key_text k) ms), from)
    where
      to : (o : Option Data) → ((array_or_none k o >>= all_of k is_table_value) >>= each (item_of k read)) ≡ Ok xs
          → ((d : Data) × (o ≡ Some d) × IsArrayOf (IsTomlTableOf Is) d xs) ⊎ ((o ≡ None) × (xs ≡ []))
      to None e = inr (refl, sym (same_value e))
      to (Some d) e = inl (d, refl, array_for is_table_value (item_of k read) (IsTomlTableOf Is) (item_agrees k) table_kind k d xs e)

      from : HoldsTables Is ms k xs → items_in k read ms ≡ Ok xs
      from (inl h) = rw h.1 (for_array is_table_value (item_of k read) (IsTomlTableOf Is) (item_agrees k) table_kind k h.0 xs h.2)
      from (inr h) = rw (h.0, h.1) refl

-- ---- tables

child_agrees : Agrees child_in IsChild
child_agrees ms c = (
  λ e.
      let p = bind_ok (path_in ms) _ c e in
      let r = bind_ok (role_in ms) _ c p.2 in
      let l = bind_ok (locators_in key.Locators ms) _ c r.2 in
      subst (IsChild ms) (same_value l.2)
      (record { prefix = (path_agrees ms p.0).0 p.1; kind = (role_agrees ms r.0).0 r.1; locators = (locators_agree key.Locators ms l.0).0 l.1 }),
  λ h. rw ((path_agrees ms c.prefix).1 h.prefix, (role_agrees ms c.role).1 h.kind, (locators_agree key.Locators ms c.locators).1 h.locators) refl,
)

site_agrees : Agrees site_in IsSite
site_agrees ms s = (
  λ e.
      let p = bind_ok (path_in ms) _ s e in
      let l = bind_ok (locators_in key.Etrs ms) _ s p.2 in
      subst (IsSite ms) (same_value l.2) (record { prefix = (path_agrees ms p.0).0 p.1; etrs = (locators_agree key.Etrs ms l.0).0 l.1 }),
  λ h. rw ((path_agrees ms s.prefix).1 h.prefix, (locators_agree key.Etrs ms s.etrs).1 h.etrs) refl,
)

content_to : (role : Role) (ms : Members) (content : Content) → content_in role ms ≡ Ok content → IsContent role ms content
content_to Node ms content e =
    let s = bind_ok (items_in key.Child child_in ms) _ content e in
    subst (IsContent Node ms) (same_value s.2) ((tables_agree child_in IsChild child_agrees key.Child ms s.0).0 s.1)
content_to Ms ms content e =
    let s = bind_ok (items_in key.Site site_in ms) _ content e in
    subst (IsContent Ms ms) (same_value s.2) ((tables_agree site_in IsSite site_agrees key.Site ms s.0).0 s.1)

content_from : (role : Role) (ms : Members) (content : Content) → IsContent role ms content → content_in role ms ≡ Ok content
content_from Node ms (Children cs) h = rw ((tables_agree child_in IsChild child_agrees key.Child ms cs).1 h) refl
content_from Ms ms (Sites ss) h = rw ((tables_agree site_in IsSite site_agrees key.Site ms ss).1 h) refl
content_from Node ms (Sites ss) h = absurd h
content_from Ms ms (Children cs) h = absurd h

authority_agrees : (role : Role) → Agrees (authority_in role) (IsAuthority role)
authority_agrees role ms a = (
  λ e.
      let p = bind_ok (path_in ms) _ a e in
      let c = bind_ok (content_in role ms) _ a p.2 in
      subst (IsAuthority role ms) (same_value c.2) (record { prefix = (path_agrees ms p.0).0 p.1; content = content_to role ms c.0 c.1 }),
  λ h. rw ((path_agrees ms a.prefix).1 h.prefix, content_from role ms a.content h.content) refl,
)

outline_to : (ms : Members) (o : Outline) → outline_in ms ≡ Ok o → Stands ms o
outline_to ms o e =
    let n = bind_ok (name_in ms) _ o e in
    let r = bind_ok (role_in ms) _ o n.2 in
    let l = bind_ok (locators_in key.Locators ms) _ o r.2 in
    let a = bind_ok (items_in key.Authority (authority_in r.0) ms) _ o l.2 in
    let name = (name_agrees ms n.0).0 n.1 in
    subst (Stands ms) (same_value a.2)
    (record {
      name = name.0;
      word = name.1;
      kind = (role_agrees ms r.0).0 r.1;
      locators = (locators_agree key.Locators ms l.0).0 l.1;
      authorities = (tables_agree (authority_in r.0) (IsAuthority r.0) (authority_agrees r.0) key.Authority ms a.0).0 a.1;
    })

pub tables_are_read : (ms : Members) (o : Outline) → (config_in ms ≡ Ok o) ↔ (Stands ms o × (is_shaped o.role o.locators o.authorities ≡ true))
tables_are_read ms o = (
  λ e.
      let s = bind_ok (outline_in ms) with_shape o e in
      let h = held_ok (is_shaped s.0.role s.0.locators s.0.authorities) Shape (Ok s.0) o s.2 in
      subst (λ (p : Outline). Stands ms p × (is_shaped p.role p.locators p.authorities ≡ true)) (same_value h.1) (outline_to ms s.0 s.1, h.0),
  λ h. rw (
    (name_agrees ms o.name).1 (h.0.name, h.0.word),
    (role_agrees ms o.role).1 h.0.kind,
    (locators_agree key.Locators ms o.locators).1 h.0.locators,
    (tables_agree (authority_in o.role) (IsAuthority o.role) (authority_agrees o.role) key.Authority ms o.authorities).1 h.0.authorities,
    h.1,
  )
      refl,
)
