-- A configuration in an order that doesn't hang on that of the register's rows.
use Rattle.std.specs.Prelude.{ℕ, if◌then◌else◌, List, [], ◌∷◌, map}
use Rattle.std.specs.Ordering.{nat_cmp, is_le}
use Rattle.std.specs.Cmp.Lexicographic.{slice_cmp}
use Rattle.ddt_config.specs.declared.authority.Content.{Content}
use Rattle.ddt_config.specs.declared.authority.Content.TheVariants.{Children, Sites}
use Rattle.ddt_config.specs.declared.authority.Authority.{Authority}
use Rattle.ddt_config.specs.Table.{Outline}

-- an item among others that are in order: before the first of them whose prefix doesn't stand before its own
abbrev pub put_among : {A : Type 0} → (A → List ℕ) → A → List A → List A
put_among prefix x [] = x ∷ []
put_among prefix x (y ∷ ys) =
    if is_le (slice_cmp nat_cmp (prefix x) (prefix y)) then x ∷ (y ∷ ys) else y ∷ put_among prefix x ys

-- items in the order of their prefixes
abbrev pub by_prefix : {A : Type 0} → (A → List ℕ) → List A → List A
by_prefix prefix [] = []
by_prefix prefix (x ∷ xs) = put_among prefix x (by_prefix prefix xs)

-- the children or the sites of an authority in that order
abbrev pub ordered_content : Content → Content
ordered_content (Children cs) = Children (by_prefix (λ c. c.prefix) cs)
ordered_content (Sites ss) = Sites (by_prefix (λ s. s.prefix) ss)

-- an authority with what it holds in order
abbrev pub ordered_authority : Authority → Authority
ordered_authority a = record { prefix = a.prefix; content = ordered_content a.content }

-- A configuration with its authorities, and what each holds, in the order of prefixes. Locators keep their order.
abbrev pub ordered : Outline → Outline
ordered c = record {
  name = c.name;
  role = c.role;
  locators = c.locators;
  authorities = by_prefix (λ a. a.prefix) (map ordered_authority c.authorities);
}
