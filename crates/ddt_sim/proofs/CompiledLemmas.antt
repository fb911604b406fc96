-- The server at a locator of an accepted register is there, and answers honestly.
use Rattle.std.proofs.Common.{◌≡◌, ℕ, Bool, List, Some, None, sym, subst, ◌∙◌}
use Rattle.std.specs.Prelude.{IsTrue}
use Rattle.std.proofs.lemmas.Bool.{false≢true}
use Rattle.ddt_path.specs.declared.locator.Locator.{Locator}
use Rattle.ddt_path.specs.Locators.{lists}
use Rattle.ddt_path.specs.laws.Member.{IsIn, in_contained, contained, in_map, map_in, found_in, found_passes, unfound}
use Rattle.ddt_register.specs.declared.group.Group.{Group}
use Rattle.ddt_register.specs.declared.register.Register.{Register}
use Rattle.ddt_check.specs.Says.{says}
use Rattle.ddt_config.specs.Answer.{answer}
use Rattle.ddt_config.specs.Table.{Outline}
use Rattle.ddt_compile.specs.GroupConfig.{group_config}
use Rattle.ddt_compile.specs.laws.Statements.{AnswersHonestly}
use Rattle.ddt_sim.specs.Honest.{IsServer}
use Rattle.ddt_sim.specs.Compiled.{AreCompiled, server_at}

abbrev here : Locator → Outline → Bool
here l c = lists c.locators l

module _ (r : Register) (servers : List Outline) (compiled : AreCompiled servers r) (l : Locator) where
  -- a server that is found is that of a group
  its_group : (c : Outline) → server_at servers l ≡ Some c → (g : Group) × IsIn g r.groups × (c ≡ group_config r g) × IsTrue (here l (group_config r g))
  its_group c found =
      let g = in_map (group_config r) r.groups c (subst (IsIn c) compiled.1 (found_in (here l) servers c found)) in
      (g.0, g.1, g.2, rw g.2 at (found_passes (here l) servers c found))

  pub found_is_server : (c : Outline) → server_at servers l ≡ Some c → IsServer r l
  found_is_server c found = let g = its_group c found in (g.0, contained r.groups g.0 g.1, g.3)

module _ (law : AnswersHonestly) (r : Register) (servers : List Outline) (compiled : AreCompiled servers r) (l : Locator) where
  pub honest_server : (c : Outline) (x : List ℕ) → server_at servers l ≡ Some c → answer c x ≡ says r l x
  honest_server c x found = let g = its_group r servers compiled l c found in rw g.2 (law r g.0 compiled.0 (contained r.groups g.0 g.1) l x g.3)

  pub server_is_there : IsServer r l → server_at servers l ≡ None → ⊥
  server_is_there g none =
      let there = map_in (group_config r) r.groups g.0 (in_contained r.groups g.0 g.1) in
      false≢true (sym (unfound (here l) servers (group_config r g.0) none (rw compiled.1 there)) ∙ g.2)
