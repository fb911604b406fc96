-- The configurations of a stage, read off those of both registers by the groups' names.
use Rattle.std.proofs.Common.{◌≡◌, ℕ, Bool, true, false, cond, List, [], ◌∷◌, ◌++◌, map, find, Option, Some, None, Less, refl, sym, ap, ap₂, subst, ◌∙◌, inl, inr}
use Rattle.std.specs.List.{filter_map, cons_option, AllByRecursion}
use Rattle.std.specs.List.Sorted.{IsStrictlySortedBy}
use Rattle.std.specs.Option.{option_map}
use Rattle.std.specs.Ordering.{nat_cmp}
use Rattle.std.specs.Cmp.Lexicographic.{slice_cmp, nat_list_cmp_total}
use Rattle.std.specs.BTreeMap.{BTreeMap, get, IsOrdered, is_at}
use Rattle.std.specs.Map.{keys_of}
use Rattle.std.proofs.lemmas.Option.{same_Some, none-some}
use Rattle.std.proofs.lemmas.List.{map-append}
use Rattle.std.proofs.lemmas.List.Elements.{filter_map-append}
use Rattle.std.proofs.lemmas.Map.Entries.{place_from_lookup, btree_map_get_place}
use Rattle.ddt_path.specs.Names.{is_same_name}
use Rattle.ddt_path.specs.laws.Cover.{same_path}
use Rattle.ddt_path.specs.laws.Member.{IsIn, in_contained, contained, in_get, get_in}
use Rattle.ddt_register.specs.declared.group.Group.{Group}
use Rattle.ddt_register.specs.declared.register.Register.{Register}
use Rattle.ddt_config.specs.declared.config.ServerConfig.{ServerConfig}
use Rattle.ddt_config.specs.Table.{Outline, outline}
use Rattle.ddt_compile.specs.GroupConfig.{config_named, group_config}
use Rattle.ddt_plan.specs.declared.versions.Versions.{Versions}
use Rattle.ddt_plan.specs.Versions.{earlier, later, AreVersions}
use Rattle.ddt_plan.proofs.VersionLemmas.{from_kept, is_kept}
use Rattle.ddt_deploy.specs.declared.rollout.fault.RolloutFault.{RolloutFault}
use Rattle.ddt_deploy.specs.declared.rollout.stage.Stage.{Stage}
use Rattle.ddt_deploy.specs.declared.rollout.stage.Stage.TheVariants.{From, After, Last}
use Rattle.ddt_deploy.specs.Rollout.Between.{Waits, config_at, config_before_last, refusal_at}
use Rattle.ddt_deploy.specs.Rollout.Waits.{AreWaits}
use Rattle.ddt_deploy.specs.Rollout.Configurations.{AreConfigurationsAt, config_in, refusal_in, refusal_of}

-- ---- names

named_found : (r : Register) (name : List ℕ) (gs : List Group) (o : Outline)
    → option_map (group_config r) (find (λ (g : Group). is_same_name g.name name) gs) ≡ Some o → o.name ≡ name
named_found r name [] o e = absurd (none-some o e)
named_found r name (g ∷ gs) o e = go (is_same_name g.name name) refl (named_found r name gs o) e
  where
    go : (b : Bool) → is_same_name g.name name ≡ b
        → (option_map (group_config r) (find (λ (h : Group). is_same_name h.name name) gs) ≡ Some o → o.name ≡ name)
        → option_map (group_config r) (cond b (Some g) (find (λ (g : Group). is_same_name g.name name) gs)) ≡ Some o
        → o.name ≡ name
    go true is rest e = ap (λ (c : Outline). c.name) (sym (same_Some (group_config r g) o e)) ∙ same_path g.name name is
    go false is rest e = rest e

-- a register gives a name a configuration of that name
pub named_so : (r : Register) (name : List ℕ) (o : Outline) → config_named r name ≡ Some o → o.name ≡ name
named_so r name o e = named_found r name r.groups o e

-- what a group has at a stage has its name, where both of its configurations have it
abbrev HasName : List ℕ → Option Outline → Type 0
HasName name o = (c : Outline) → o ≡ Some c → c.name ≡ name

name_before_last : (stage : Stage) (kept : Waits) (name : List ℕ) (o p : Option Outline) → HasName name o
    → HasName name p → HasName name (config_before_last stage kept o p)
name_before_last stage kept name None None h k c e = absurd (none-some c e)
name_before_last stage kept name (Some a) None h k c e =
    ap (λ (d : Outline). d.name) (sym (same_Some _ c e)) ∙ h a refl
name_before_last stage kept name None (Some b) h k c e =
    ap (λ (d : Outline). d.name) (sym (same_Some _ c e)) ∙ k b refl
name_before_last stage kept name (Some a) (Some b) h k c e =
    ap (λ (d : Outline). d.name) (sym (same_Some _ c e)) ∙ h a refl

name_at : (stage : Stage) (kept : Waits) (name : List ℕ) (o p : Option Outline) → HasName name o → HasName name p
    → HasName name (config_at stage kept o p)
name_at Last kept name o p h k = k
name_at (From least) kept name o p h k = name_before_last (From least) kept name o p h k
name_at (After waits) kept name o p h k = name_before_last (After waits) kept name o p h k

none_at : (stage : Stage) (kept : Waits) → config_at stage kept None None ≡ None
none_at Last kept = refl
none_at (From least) kept = refl
none_at (After waits) kept = refl

no_refusal : (stage : Stage) → refusal_at stage None None ≡ None
no_refusal Last = refl
no_refusal (From least) = refl
no_refusal (After waits) = refl

-- ---- what is kept by the names of groups

module _ (r s : Register) (stage : Stage) (kept : Waits) (m : BTreeMap (List ℕ) Versions)
    (ordered : IsOrdered (slice_cmp nat_cmp) m) (versions : AreVersions r s m) where
  entry_kept : (e : List ℕ × Versions) → IsIn e m.entries → get (slice_cmp nat_cmp) m e.0 ≡ Some e.1
  entry_kept e k = let p = get_in m.entries e k in btree_map_get_place nat_list_cmp_total m p.0 e.0 e.1 ordered p.2

  -- what holds of what is kept under a name holds of the configurations of the registers
  by_name : {A : Type 0} (f : Option Outline → Option Outline → A) (name : List ℕ) (known : Option Versions)
      → get (slice_cmp nat_cmp) m name ≡ known
      → f (earlier known) (later known) ≡ f (config_named r name) (config_named s name)
  by_name f name known e =
      ap₂ f (ap earlier (sym e) ∙ versions.before name) (ap later (sym e) ∙ versions.after name)

  at_entry : (e : List ℕ × Versions) → IsIn e m.entries
      → config_in stage kept e ≡ config_at stage kept (config_named r e.0) (config_named s e.0)
  at_entry e k = by_name (config_at stage kept) e.0 (Some e.1) (entry_kept e k)

  name_of : (e : List ℕ × Versions) → IsIn e m.entries → (c : Outline) → config_in stage kept e ≡ Some c → c.name ≡ e.0
  name_of e k c is =
      name_at stage kept e.0 (config_named r e.0) (config_named s e.0) (named_so r e.0) (named_so s e.0) c
      (sym (at_entry e k) ∙ is)

  listed : (c : Outline) → IsIn c (filter_map (config_in stage kept) m.entries)
      → config_at stage kept (config_named r c.name) (config_named s c.name) ≡ Some c
  listed c k =
      let p = from_kept (config_in stage kept) m.entries c k in
      subst (λ (name : List ℕ). config_at stage kept (config_named r name) (config_named s name) ≡ Some c)
      (sym (name_of p.0 p.1 c p.2)) (sym (at_entry p.0 p.1) ∙ p.2)

  in_entries : (c : Outline) (known : Option Versions) → get (slice_cmp nat_cmp) m c.name ≡ known
      → config_at stage kept (earlier known) (later known) ≡ Some c
      → IsIn c (filter_map (config_in stage kept) m.entries)
  in_entries c None e is = absurd (none-some c (sym (none_at stage kept) ∙ is))
  in_entries c (Some v) e is =
      let p = place_from_lookup (is_at (slice_cmp nat_cmp c.name)) m.entries v e in
      is_kept (config_in stage kept) m.entries (p.1, v) c (in_get m.entries p.0 (p.1, v) p.2) is

  abbrev names : List Outline → List (List ℕ)
  names configs = map (λ (c : Outline). c.name) configs

  kept_names : (P : List ℕ → Type 0) (es : List (List ℕ × Versions))
      → ((e : List ℕ × Versions) → IsIn e es → IsIn e m.entries)
      → AllByRecursion P (keys_of es) → AllByRecursion P (names (filter_map (config_in stage kept) es))
  kept_names P [] all h = tt
  kept_names P (e ∷ es) all h = go (config_in stage kept e) refl (kept_names P es (λ x k. all x (inr k)) h.1)
    where
      go : (o : Option Outline) → config_in stage kept e ≡ o
          → AllByRecursion P (names (filter_map (config_in stage kept) es))
          → AllByRecursion P (names (cons_option o (filter_map (config_in stage kept) es)))
      go None is rest = rest
      go (Some c) is rest = (subst P (sym (name_of e (all e (inl refl)) c is)) h.0, rest)

  sorted_case : (e : List ℕ × Versions) → IsIn e m.entries → (o : Option Outline) (cs : List Outline)
      → config_in stage kept e ≡ o → AllByRecursion (λ (n : List ℕ). slice_cmp nat_cmp e.0 n ≡ Less) (names cs)
      → IsStrictlySortedBy (slice_cmp nat_cmp) (names cs)
      → IsStrictlySortedBy (slice_cmp nat_cmp) (names (cons_option o cs))
  unfolding IsStrictlySortedBy
  sorted_case e k None cs is below sorted = sorted
  sorted_case e k (Some c) cs is below sorted = (
    subst (λ (name : List ℕ). AllByRecursion (λ (n : List ℕ). slice_cmp nat_cmp name n ≡ Less) (names cs))
        (sym (name_of e k c is)) below,
    sorted,
  )

  sorted_names : (es : List (List ℕ × Versions)) → ((e : List ℕ × Versions) → IsIn e es → IsIn e m.entries)
      → IsStrictlySortedBy (slice_cmp nat_cmp) (keys_of es)
      → IsStrictlySortedBy (slice_cmp nat_cmp) (names (filter_map (config_in stage kept) es))
  unfolding IsStrictlySortedBy
  sorted_names [] all h = tt
  sorted_names (e ∷ es) all h =
      sorted_case e (all e (inl refl)) (config_in stage kept e) (filter_map (config_in stage kept) es) refl
      (kept_names (λ (n : List ℕ). slice_cmp nat_cmp e.0 n ≡ Less) es (λ x k. all x (inr k)) h.0)
      (sorted_names es (λ x k. all x (inr k)) h.1)

  pub configurations_are : AreWaits r s kept
      → AreConfigurationsAt r s stage (filter_map (config_in stage kept) m.entries)
  configurations_are waits = record {
    kept = kept;
    waits = waits;
    exact = λ c. (
      λ k. listed c (in_contained (filter_map (config_in stage kept) m.entries) c k),
      λ e. contained (filter_map (config_in stage kept) m.entries) c
          (in_entries c (get (slice_cmp nat_cmp) m c.name) refl
          (by_name (config_at stage kept) c.name (get (slice_cmp nat_cmp) m c.name) refl ∙ e)),
    );
    in_order = sorted_names m.entries (λ x k. k) ordered;
  }

  pub none_refused : ((e : List ℕ × Versions) → IsIn e m.entries → refusal_in stage e ≡ None)
      → (name : List ℕ) → refusal_of r s stage name ≡ None
  none_refused good name = go (get (slice_cmp nat_cmp) m name) refl
    where
      go : (known : Option Versions) → get (slice_cmp nat_cmp) m name ≡ known → refusal_of r s stage name ≡ None
      go None e = sym (by_name (refusal_at stage) name None e) ∙ no_refusal stage
      go (Some v) e =
          let p = place_from_lookup (is_at (slice_cmp nat_cmp name)) m.entries v e in
          sym (by_name (refusal_at stage) name (Some v) e)
          ∙ good (p.1, v) (in_get m.entries p.0 (p.1, v) p.2)

  pub refused_by : (fault : RolloutFault) (e : List ℕ × Versions) → IsIn e m.entries → refusal_in stage e ≡ Some fault
      → (name : List ℕ) × (refusal_of r s stage name ≡ Some fault)
  refused_by fault e k is = (e.0, sym (by_name (refusal_at stage) e.0 (Some e.1) (entry_kept e k)) ∙ is)

-- ---- a loop's step

outlined : (o : Option ServerConfig) → map outline (cons_option o []) ≡ cons_option (option_map outline o) []
outlined None = refl
outlined (Some c) = refl

pub made_more : (stage : Stage) (kept : Waits) (es : List (List ℕ × Versions)) (e : List ℕ × Versions)
    (old new : List ServerConfig) (config : Option ServerConfig)
    → map outline old ≡ filter_map (config_in stage kept) es → new ≡ old ++ cons_option config []
    → option_map outline config ≡ config_in stage kept e
    → map outline new ≡ filter_map (config_in stage kept) (es ++ e ∷ [])
made_more stage kept es e old new config before is one =
    ap (map outline) is ∙ map-append outline old (cons_option config [])
    ∙ ap₂ (λ (xs ys : List Outline). xs ++ ys) before
    (outlined config ∙ ap (λ (o : Option Outline). cons_option o []) one)
    ∙ sym (filter_map-append (config_in stage kept) es (e ∷ []))

pub all_more : {A : Type 0} (P : A → Type 0) (xs : List A) (x : A) → ((y : A) → IsIn y xs → P y) → P x
    → (y : A) → IsIn y (xs ++ x ∷ []) → P y
all_more P [] x all one y (inl e) = subst P (sym e) one
all_more P [] x all one y (inr k) = absurd k
all_more P (z ∷ zs) x all one y (inl e) = all y (inl e)
all_more P (z ∷ zs) x all one y (inr k) = all_more P zs x (λ w j. all w (inr j)) one y k
