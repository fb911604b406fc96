-- Which groups are ours.
use Rattle.std.proofs.Common.{◌≡◌, ℕ, Bool, true, false, cond, List, [], ◌∷◌, map, Some, refl, sym, ap, ◌∙◌}
use Rattle.std.specs.Prelude.{◌&&◌, not, is_some}
use Rattle.std.specs.List.{filter, find}
use Rattle.ddt_path.specs.Names.{is_same_name}
use Rattle.ddt_path.specs.laws.Cover.{same_path}
use Rattle.ddt_register.specs.declared.group.Group.{Group}
use Rattle.ddt_register.specs.declared.register.Register.{Register}
use Rattle.ddt_check.specs.Zones.{group_named}
use Rattle.ddt_config.specs.declared.config.ServerConfig.{ServerConfig}
use Rattle.ddt_config.specs.Table.{Outline, outline}
use Rattle.ddt_compile.specs.GroupConfig.{group_config}
use Rattle.ddt_deploy.specs.Folders.Wanted.{our_group, our_groups}

and_false : (b : Bool) → (b && false) ≡ false
and_false true = refl
and_false false = refl

module _ (foreign : List ℕ → Bool) (name : List ℕ) where
  abbrev has_name : Group → Bool
  has_name g = is_same_name g.name name

  abbrev keeps : Group → Bool
  keeps g = not (foreign g.name)

  found_ours : (gs : List Group)
      → is_some (find has_name (filter keeps gs)) ≡ (is_some (find has_name gs) && not (foreign name))
  found_ours [] = refl
  found_ours (g ∷ gs) = go (keeps g) (has_name g) refl refl (found_ours gs)
    where
      go : (kept named : Bool) → keeps g ≡ kept → has_name g ≡ named
          → is_some (find has_name (filter keeps gs)) ≡ (is_some (find has_name gs) && not (foreign name))
          → is_some (find has_name (cond kept (g ∷ filter keeps gs) (filter keeps gs)))
          ≡ (is_some (cond named (Some g) (find has_name gs)) && not (foreign name))
      go true true k n rest =
          ap (λ (b : Bool). is_some (cond b (Some g) (find has_name (filter keeps gs)))) n
          ∙ sym k ∙ ap (λ (x : List ℕ). not (foreign x)) (same_path g.name name n)
      go true false k n rest =
          ap (λ (b : Bool). is_some (cond b (Some g) (find has_name (filter keeps gs)))) n ∙ rest
      go false true k n rest =
          let gone : false ≡ not (foreign name) =
          sym k ∙ ap (λ (x : List ℕ). not (foreign x)) (same_path g.name name n) in
          rest ∙ ap (λ (b : Bool). is_some (find has_name gs) && b) (sym gone)
          ∙ and_false (is_some (find has_name gs)) ∙ gone
      go false false k n rest = rest

-- a name is that of one of our groups if a group of the register has it and it isn't foreign
pub is_ours : (foreign : List ℕ → Bool) (r : Register) (name : List ℕ)
    → is_some (our_group foreign r name) ≡ (is_some (group_named r name) && not (foreign name))
is_ours foreign r name = found_ours foreign name r.groups

map_kept : {A B : Type 0} (f : A → B) (keeps : B → Bool) (xs : List A)
    → map f (filter (λ (x : A). keeps (f x)) xs) ≡ filter keeps (map f xs)
map_kept f keeps [] = refl
map_kept f keeps (x ∷ xs) = go (keeps (f x)) (map_kept f keeps xs)
  where
    go : (b : Bool)
        → map f (filter (λ (y : _). keeps (f y)) xs) ≡ filter keeps (map f xs)
        → map f (cond b (x ∷ filter (λ (y : _). keeps (f y)) xs) (filter (λ (y : _). keeps (f y)) xs))
        ≡ cond b (f x ∷ filter keeps (map f xs)) (filter keeps (map f xs))
    go true rest = ap (λ (ys : List _). f x ∷ ys) rest
    go false rest = rest

-- the configurations of our groups are those of all groups without the foreign ones
pub our_configs : (foreign : List ℕ → Bool) (r : Register) (all : List ServerConfig)
    → map outline all ≡ map (group_config r) r.groups
    → map outline (filter (λ (c : ServerConfig). not (foreign c.name)) all) ≡ map (group_config r) (our_groups foreign r)
our_configs foreign r all each =
    let keeps = λ (o : Outline). not (foreign o.name) in
    map_kept outline keeps all ∙ ap (filter keeps) each ∙ sym (map_kept (group_config r) keeps r.groups)
