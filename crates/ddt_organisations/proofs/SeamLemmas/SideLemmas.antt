-- A group that can be run from a side has its configuration there.
use Rattle.std.proofs.Common.{◌≡◌, ℕ, Bool, true, false, cond, List, map, Option, Some, None, refl, sym, ap, subst, ◌∙◌, inl, inr}
use Rattle.std.specs.Prelude.{not, is_some, Contains, ◌&&◌, ◌||◌}
use Rattle.std.specs.Option.{option_map}
use Rattle.std.proofs.lemmas.Bool.{false≢true, or_cases, and_parts, not-true}
use Rattle.std.proofs.lemmas.Option.{same_Some}
use Rattle.ddt_path.specs.declared.locator.Locator.{Locator}
use Rattle.ddt_path.specs.Locators.{lists}
use Rattle.ddt_path.specs.Names.{is_same_name}
use Rattle.ddt_path.specs.laws.Cover.{path_itself}
use Rattle.ddt_path.specs.laws.Member.{IsIn, in_contained, holds_at, map_in}
use Rattle.ddt_register.specs.declared.group.Group.{Group}
use Rattle.ddt_register.specs.declared.register.Register.{Register}
use Rattle.ddt_register.specs.laws.Rising.{rule_kept, earlier_fails}
use Rattle.ddt_register.specs.laws.RowOrder.{found_first, groups_up}
use Rattle.ddt_check.specs.Rules.{IsAccepted}
use Rattle.ddt_check.specs.Says.{says}
use Rattle.ddt_check.specs.Zones.{group_named}
use Rattle.ddt_check.specs.laws.Kept.{own_name}
use Rattle.ddt_config.specs.Answer.{answer}
use Rattle.ddt_config.specs.Table.{Outline}
use Rattle.ddt_compile.specs.GroupConfig.{group_config, config_named}
use Rattle.ddt_compile.specs.laws.Statements.{IsHonestConfig, AnswersHonestly, ConfigsAreShaped}
use Rattle.ddt_plan.specs.declared.groups.GroupChangeKind.{GroupChangeKind}
use Rattle.ddt_plan.specs.declared.groups.GroupChangeKind.TheVariants.{Added, Removed, Changed}
use Rattle.ddt_plan.specs.Groups.{is_same_config, change_of_config, change_of_group}
use Rattle.ddt_organisations.specs.Seam.Seam.{is_run_from, run_of, is_good_run, is_good_seam}
use Rattle.ddt_organisations.specs.Seam.Laws.{SidesAnswerAsJoined, GoodSeamsAreRun}
use Rattle.ddt_organisations.proofs.SeamLemmas.AnswerLemmas.{alike_answer, locators_same}

-- the group of its own name
pub group_of_name : (r : Register) → IsAccepted r → (g : Group) → IsIn g r.groups → group_named r g.name ≡ Some g
group_of_name r accepted g k =
    found_first (λ (h : Group). h.row) (λ (h : Group). is_same_name h.name g.name) r.groups g (groups_up r) k
    (path_itself g.name g.name refl) (λ h j lt. own_name r accepted h g j k lt)

pub config_of_group : (r : Register) → IsAccepted r → (g : Group) → IsIn g r.groups
    → config_named r g.name ≡ Some (group_config r g)
config_of_group r accepted g k = ap (option_map (group_config r)) (group_of_name r accepted g k)

-- no change where both have a configuration: they are alike
both_alike : (c d : Outline) (b : Bool) → is_same_config c d ≡ b
    → not (is_some (cond b None (Some Changed))) ≡ true → is_same_config c d ≡ true
both_alike c d true e unchanged = e
both_alike c d false e unchanged = absurd (false≢true unchanged)

-- no change where the later register has a configuration: the earlier has one that is alike
unchanged_alike : (before : Option Outline) (d : Outline) → not (is_some (change_of_config before (Some d))) ≡ true
    → (c : Outline) × (before ≡ Some c) × (is_same_config c d ≡ true)
unchanged_alike None d unchanged = absurd (false≢true unchanged)
unchanged_alike (Some c) d unchanged = (c, refl, both_alike c d (is_same_config c d) refl unchanged)

module _ (side joined : Register) (accepted : IsAccepted joined) (g : Group) (k : IsIn g joined.groups)
    (run : is_run_from side joined g ≡ true) where
  pub run_config : (c : Outline) × (config_named side g.name ≡ Some c)
      × (is_same_config c (group_config joined g) ≡ true)
  run_config = unchanged_alike (config_named side g.name) (group_config joined g)
      (subst (λ (later : Option Outline). not (is_some (change_of_config (config_named side g.name) later)) ≡ true)
      (config_of_group joined accepted g k) run)

pub sides_answer : AnswersHonestly → ConfigsAreShaped → SidesAnswerAsJoined
sides_answer honest shaped side joined g c whole accepted there run compiled =
    let k = in_contained joined.groups g there in
    let found = run_config side joined accepted g k run in
    let same : found.0 ≡ c = same_Some found.0 c (sym found.1 ∙ compiled) in
    let alike : is_same_config c (group_config joined g) ≡ true =
    subst (λ (o : Outline). is_same_config o (group_config joined g) ≡ true) same found.2 in
    let shape = shaped joined g accepted there in
    let locators : c.locators ≡ g.locators = locators_same c (group_config joined g) alike shape in (
      λ l x listed.
          alike_answer c (group_config joined g) alike shape x
          ∙ honest joined g accepted there l x (subst (λ (ls : List Locator). lists ls l ≡ true) locators listed),
      locators,
    )

pub good_run : GoodSeamsAreRun
good_run foreign ours theirs joined g accepted good there =
    let k = in_contained joined.groups g there in
    let own = run_of foreign ours theirs joined g in
    let test : is_good_run own ≡ true =
    holds_at is_good_run (map (run_of foreign ours theirs joined) joined.groups) own good
    (map_in (run_of foreign ours theirs joined) joined.groups g k) in
    elim (or_cases own.from_theirs (not own.is_foreign && own.from_ours) test) [
      | inl run ↦
          let found = run_config theirs joined accepted g k run in
          (theirs, inl refl, run, found.0, found.1)
      | inr run ↦
          let p = and_parts (not own.is_foreign) own.from_ours run in
          let found = run_config ours joined accepted g k p.1 in
          (ours, inr (refl, not-true own.is_foreign p.0), p.1, found.0, found.1)
    ]
