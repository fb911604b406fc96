-- What is carried over from one site of before after the other.
use Rattle.std.proofs.Common.{◌≡◌, Bool, true, false, cond, List, [], ◌∷◌, map, length, Option, Some, refl, ap, ◌∙◌, arith}
use Rattle.std.specs.Prelude.{not, find}
use Rattle.std.specs.List.{list_any}
use Rattle.std.specs.Option.{option_map_or}
use Rattle.std.proofs.lemmas.Bool.{not-true, and_parts}
use Rattle.ddt_path.specs.Covers.{is_same_path}
use Rattle.ddt_path.specs.laws.Cover.{same_path}
use Rattle.ddt_config.specs.Shaped.{have_own_prefixes}
use Rattle.ddt_node.specs.laws.Changed.{at_prefix}
use Rattle.ddt_registrar.specs.Carried.{carried, carried_from}
use Rattle.ddt_registrar.specs.State.{Site}
use Rattle.ddt_registrar.specs.laws.InForce.{each_once}
use Rattle.ddt_registrar.proofs.SiteLemmas.{either_way, none_of}

-- from one site
abbrev pub carried_one : Site → Site → Site
carried_one b = at_prefix (λ (s : Site). s.prefix) b.prefix (carried b)

-- from all
abbrev pub carried_all : List Site → List Site → List Site
carried_all [] sites = sites
carried_all (b ∷ others) sites = carried_all others (map (carried_one b) sites)

none_carried : (sites : List Site) → sites ≡ map (carried_from []) sites
none_carried [] = refl
none_carried (s ∷ sites) = ap (λ (ss : List Site). s ∷ ss) (none_carried sites)

module _ (b : Site) (others : List Site) (alone : list_any (λ (a : Site). is_same_path b.prefix a.prefix) others ≡ false) (s : Site) where
  abbrev from : Option Site → Site → Site
  from found t = option_map_or (λ (a : Site). carried a t) found t

  one_case : (same : Bool) → is_same_path s.prefix b.prefix ≡ same
      → carried_from others (cond same (carried b s) s) ≡ from (cond same (Some b) (find (λ (a : Site). is_same_path a.prefix s.prefix) others)) s
  one_case true is =
      ap (λ (found : Option Site). from found (carried b s))
      (none_of (λ (a : Site). a.prefix) b.prefix s.prefix others (same_path s.prefix b.prefix is) alone)
  one_case false is = refl

  one_carried : carried_from others (carried_one b s) ≡ carried_from (b ∷ others) s
  one_carried =
      one_case (is_same_path s.prefix b.prefix) refl
      ∙ ap (λ (same : Bool). from (cond same (Some b) (find (λ (a : Site). is_same_path a.prefix s.prefix) others)) s) (either_way s.prefix b.prefix)

-- each site has what the one of its prefix had
pub all_carried : (before sites : List Site) → have_own_prefixes (λ (s : Site). s.prefix) before ≡ true
    → carried_all before sites ≡ map (carried_from before) sites
all_carried [] sites own = none_carried sites
all_carried (b ∷ others) sites own =
    let parts = and_parts (not (list_any (λ (a : Site). is_same_path b.prefix a.prefix) others)) _ own in
    all_carried others (map (carried_one b) sites) parts.1
    ∙ each_once (carried_from others) (carried_one b) (carried_from (b ∷ others)) (one_carried b others (not-true _ parts.0)) sites

pub no_items : {A : Type 0} (xs : List A) → length xs ≡ 0 → xs ≡ []
no_items [] long = refl
no_items (x ∷ xs) long = absurd (omega (arith, long))
