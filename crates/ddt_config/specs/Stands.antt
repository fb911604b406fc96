-- What a table stands for, key by key and whichever is examined first. Keys that no line names may hold anything.
use Rattle.std.specs.Prelude.{◌≡◌, ◌⊎◌, ℕ, true, List, [], ◌∷◌, None, Some}
use Rattle.toml.specs.Data.{Data, Items, no_items, item, Members, get_member, string, array, table}
use Rattle.ddt_path.specs.declared.locator.Locator.{Locator}
use Rattle.ddt_path.specs.declared.record.Role.{Role}
use Rattle.ddt_path.specs.declared.record.Role.TheVariants.{Node, Ms}
use Rattle.ddt_path.specs.Names.{is_name}
use Rattle.ddt_text.specs.Grammar.{SpellsLocator, SpellsPrefix}
use Rattle.ddt_config.specs.declared.fault.Key.{Key}
use Rattle.ddt_config.specs.declared.fault.Key.TheVariants as key
use Rattle.ddt_config.specs.declared.child.Child.{Child}
use Rattle.ddt_config.specs.declared.site_entry.SiteEntry.{SiteEntry}
use Rattle.ddt_config.specs.declared.authority.Content.{Content}
use Rattle.ddt_config.specs.declared.authority.Content.TheVariants.{Children, Sites}
use Rattle.ddt_config.specs.declared.authority.Authority.{Authority}
use Rattle.ddt_config.specs.Table.{Outline, key_text, role_text}

-- the key holds this text
abbrev pub HoldsText : Members → Key → List ℕ → Type 0
HoldsText ms k text = get_member (key_text k) ms ≡ Some (string text)

-- `prefix` holds a text that spells the prefix
abbrev pub HoldsPrefix : Members → List ℕ → Type 0
HoldsPrefix ms p = (text : List ℕ) × HoldsText ms key.Prefix text × SpellsPrefix text p

-- as many items as values, and each is for its value
abbrev pub AreFor : {A : Type 0} → (Data → A → Type 0) → Items → List A → Type 0
AreFor IsFor no_items [] = Unit {0}
AreFor IsFor (item d ds) (x ∷ xs) = IsFor d x × AreFor IsFor ds xs
AreFor IsFor no_items (x ∷ xs) = ⊥
AreFor IsFor (item d ds) [] = ⊥

-- An array with one item for each value, in the same order.
abbrev pub IsArrayOf : {A : Type 0} → (Data → A → Type 0) → Data → List A → Type 0
IsArrayOf IsFor d xs = (ds : Items) × (d ≡ array ds) × AreFor IsFor ds xs

-- a text that spells the locator
abbrev pub IsLocatorText : Data → Locator → Type 0
IsLocatorText d l = (text : List ℕ) × (d ≡ string text) × SpellsLocator text l

-- the key holds an array of the texts of the locators
abbrev pub HoldsLocators : Members → Key → List Locator → Type 0
HoldsLocators ms k ls = (d : Data) × (get_member (key_text k) ms ≡ Some d) × IsArrayOf IsLocatorText d ls

-- a table that stands for the value
abbrev pub IsTomlTableOf : {A : Type 0} → (Members → A → Type 0) → Data → A → Type 0
IsTomlTableOf Stands d x = (ms : Members) × (d ≡ table ms) × Stands ms x

-- the key holds an array of tables that stand for the values; it may be missing where they are none
abbrev pub HoldsTables : {A : Type 0} → (Members → A → Type 0) → Members → Key → List A → Type 0
HoldsTables Stands ms k xs =
    ((d : Data) × (get_member (key_text k) ms ≡ Some d) × IsArrayOf (IsTomlTableOf Stands) d xs)
    ⊎ ((get_member (key_text k) ms ≡ None) × (xs ≡ []))

-- The table of a child: its prefix, `kind` for DDT nodes or Map-Servers, and the locators to refer to.
pub record IsChild (ms : Members) (c : Child) : Type 0 where
  pub prefix : HoldsPrefix ms c.prefix
  pub kind : HoldsText ms key.Kind (role_text c.role)
  pub locators : HoldsLocators ms key.Locators c.locators

-- The table of a site: its prefix and its ETRs' locators. `etrs` must be there, and is empty for a site without an ETR.
pub record IsSite (ms : Members) (s : SiteEntry) : Type 0 where
  pub prefix : HoldsPrefix ms s.prefix
  pub etrs : HoldsLocators ms key.Etrs s.etrs

-- the children of a DDT node, the sites of a Map-Server
abbrev pub IsContent : Role → Members → Content → Type 0
IsContent Node ms (Children cs) = HoldsTables IsChild ms key.Child cs
IsContent Ms ms (Sites ss) = HoldsTables IsSite ms key.Site ss
IsContent Node ms (Sites ss) = ⊥
IsContent Ms ms (Children cs) = ⊥

-- The table of an authority: its prefix, and the children or sites in it, by the server's role.
pub record IsAuthority (role : Role) (ms : Members) (a : Authority) : Type 0 where
  pub prefix : HoldsPrefix ms a.prefix
  pub content : IsContent role ms a.content

-- the top table
pub record Stands (ms : Members) (o : Outline) : Type 0 where
  pub name : HoldsText ms key.Name o.name
  pub word : is_name o.name ≡ true
  pub kind : HoldsText ms key.Kind (role_text o.role)
  pub locators : HoldsLocators ms key.Locators o.locators
  pub authorities : HoldsTables (IsAuthority o.role) ms key.Authority o.authorities
