-- The register in force, site by site.
use Rattle.std.proofs.Common.{◌≡◌, ℕ, true, false, cond, List, [], ◌∷◌, map, Option, Some, None, refl, sym, ap, ◌∙◌, inl, inr}
use Rattle.std.specs.Prelude.{not, slice_get}
use Rattle.std.specs.List.{list_any, list_all}
use Rattle.std.specs.Option.{option_map}
use Rattle.std.proofs.lemmas.Bool.{and_parts, or_parts, not-true, cond-true, cond-false}
use Rattle.std.proofs.lemmas.Option.{slice_get-map}
use Rattle.ddt_path.specs.declared.locator.Locator.{Locator}
use Rattle.ddt_path.specs.Covers.{is_same_path}
use Rattle.ddt_path.specs.laws.Cover.{path_itself}
use Rattle.ddt_path.specs.laws.Member.{IsIn, in_contained, contained}
use Rattle.ddt_register.specs.declared.site.Site.{Site}
use Rattle.ddt_register.specs.declared.register.Register.{Register}
use Rattle.ddt_compile.specs.GroupConfig.{config_named}
use Rattle.ddt_config.specs.Shaped.{have_own_prefixes}
use Rattle.ddt_node.specs.Etrs.{with_etrs}
use Rattle.ddt_node.specs.laws.Changed.{map_kept}
use Rattle.ddt_registrar.specs.State.{Site as Keyed}
use Rattle.ddt_registrar.specs.Taking.{etrs_in_force, in_force}
use Rattle.ddt_laws.specs.Registrations.EtrLemmas.{few_in_force, in_force_fit}
use Rattle.ddt_laws.specs.Registrations.Ranges.{is_keyed_in_range}
use Rattle.ddt_laws.specs.Registrations.RegisterLemmas.{row_with}
use Rattle.ddt_laws.specs.Registrations.InForce.{HasEtrs, register_with, register_in_force}
use Rattle.ddt_laws.specs.Registrations.Statements.{IsInForce, SomeRegisterIsInForce}
use Rattle.ddt_laws.proofs.RegistrationsLemmas.AcceptLemmas.{accepted}
use Rattle.ddt_laws.proofs.RegistrationsLemmas.CompileLemmas.{compiled}

as_it_is : {A : Type 0} (f : A → A) → ((a : A) → f a ≡ a) → (o : Option A) → o ≡ option_map f o
as_it_is f h None = refl
as_it_is {A = A} f h (Some a) = ap (λ (x : A). Some x) (sym (h a))

one_then_other : {A : Type 0} (f g h : A → A) → ((a : A) → f (g a) ≡ h a) → (o : Option A) → option_map f (option_map g o) ≡ option_map h o
one_then_other f g h e None = refl
one_then_other {A = A} f g h e (Some a) = ap (λ (x : A). Some x) (e a)

-- a site with these ETRs
abbrev having : Site → List Locator → Site
having x etrs = record { prefix = x.prefix; etrs = etrs; row = x.row }

module _ (p : List ℕ) (e : List Locator) (sites : List Site) (n : ℕ) (x : Site) (at : slice_get sites n ≡ Some x) where
  row_at : (etrs : List Locator) → cond (is_same_path x.prefix p) e x.etrs ≡ etrs → slice_get (map (row_with p e) sites) n ≡ Some (having x etrs)
  row_at etrs is =
      slice_get-map (row_with p e) sites n ∙ ap (option_map (row_with p e)) at ∙ ap (λ (ls : List Locator). Some (having x ls)) is

  other_row : is_same_path x.prefix p ≡ false → slice_get (map (row_with p e) sites) n ≡ Some x
  other_row apart = row_at x.etrs (cond-false (is_same_path x.prefix p) e x.etrs apart)

-- the second register is the one in which the first keyed site has its ETRs in force, and then the others have theirs
module _ (k : Keyed) (others : List Keyed) (r m s : Register) (h : HasEtrs k.prefix (etrs_in_force k) r m) (later : IsInForce others m s) where
  abbrev e : List Locator
  e = etrs_in_force k

  moved_row : (n : ℕ) (x : Site) → slice_get (map (row_with k.prefix e) r.sites) n ≡ Some x → slice_get m.sites n ≡ Some x
  moved_row n x at = ap (λ (xs : List Site). slice_get xs n) h.sites ∙ at

  others_stay : (n : ℕ) (x : Site) → slice_get r.sites n ≡ Some x → list_any (λ (j : Keyed). is_same_path x.prefix j.prefix) (k ∷ others) ≡ false
      → slice_get s.sites n ≡ Some x
  others_stay n x at none =
      let parts = or_parts (is_same_path x.prefix k.prefix) (list_any (λ (j : Keyed). is_same_path x.prefix j.prefix) others) none in
      later.others n x (moved_row n x (other_row k.prefix e r.sites n x at parts.0)) parts.1

  keyed_have : (n : ℕ) (x : Site) (j : Keyed) → have_own_prefixes (λ (a : Keyed). a.prefix) (k ∷ others) ≡ true → IsIn j (k ∷ others)
      → slice_get r.sites n ≡ Some x → x.prefix ≡ j.prefix → slice_get s.sites n ≡ Some (having x (etrs_in_force j))
  keyed_have n x j own (inl is) at same =
      let of_k : x.prefix ≡ k.prefix = same ∙ ap (λ (a : Keyed). a.prefix) is in
      let alone : list_any (λ (a : Keyed). is_same_path k.prefix a.prefix) others ≡ false =
      not-true _ (and_parts (not (list_any (λ (a : Keyed). is_same_path k.prefix a.prefix) others)) _ own).0 in
      later.others n (having x e)
      (moved_row n (having x e) (row_at k.prefix e r.sites n x at e (cond-true (is_same_path x.prefix k.prefix) e x.etrs (path_itself x.prefix k.prefix of_k))))
      (ap (λ (q : List ℕ). list_any (λ (a : Keyed). is_same_path q a.prefix) others) of_k ∙ alone)
      ∙ ap (λ (a : Keyed). Some (having x (etrs_in_force a))) (sym is)
  keyed_have n x j own (inr among) at same =
      let parts = and_parts (not (list_any (λ (a : Keyed). is_same_path k.prefix a.prefix) others)) _ own in
      later.with_keys n (row_with k.prefix e x) j parts.1 (contained others j among)
      (moved_row n (row_with k.prefix e x) (row_at k.prefix e r.sites n x at (row_with k.prefix e x).etrs refl)) same

  pub one_more : s.zones ≡ r.zones → s.groups ≡ r.groups → IsInForce (k ∷ others) r s
  one_more zones groups = record {
    accepted = later.accepted;
    zones = zones;
    groups = groups;
    same_roots = rw (zones, groups) refl;
    prefixes = later.prefixes ∙ ap (map (λ (x : Site). x.prefix)) h.sites ∙ map_kept (λ (x : Site). x.prefix) (row_with k.prefix e) (λ x. refl) r.sites;
    rows = later.rows ∙ ap (map (λ (x : Site). x.row)) h.sites ∙ map_kept (λ (x : Site). x.row) (row_with k.prefix e) (λ x. refl) r.sites;
    others = others_stay;
    with_keys = λ n x j own among. keyed_have n x j own (in_contained (k ∷ others) j among);
    configs = λ name.
        later.configs name ∙ ap (option_map (in_force others)) (compiled k.prefix e r m h name)
        ∙ one_then_other (in_force others) (with_etrs k.prefix e) (in_force (k ∷ others)) (λ c. refl) (config_named r name);
  }

pub in_force_of : SomeRegisterIsInForce
in_force_of [] fit r ok = record {
  accepted = ok;
  zones = refl;
  groups = refl;
  same_roots = refl;
  prefixes = refl;
  rows = refl;
  others = λ n x at none. at;
  with_keys = λ n x k own among. absurd (in_contained [] k among);
  configs = λ name. as_it_is (in_force []) (λ c. refl) (config_named r name);
}
in_force_of (k ∷ others) fit r ok =
    let parts = and_parts (is_keyed_in_range k) (list_all is_keyed_in_range others) fit in
    let e = etrs_in_force k in
    let m = register_with k.prefix e (in_force_fit k parts.0) r in
    let h : HasEtrs k.prefix e r m = record { zones = refl; groups = refl; sites = refl } in
    let later = in_force_of others parts.1 m (accepted k.prefix e r m h (few_in_force k parts.0) ok) in
    one_more k others r m (register_in_force others parts.1 m) h later later.zones later.groups
