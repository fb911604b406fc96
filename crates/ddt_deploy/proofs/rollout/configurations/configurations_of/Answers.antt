use Rattle.std.proofs.Common.{◌≡◌, ℕ, List, None, Err, sym, ap, subst, ◌∙◌, rules}
use Rattle.std.specs.List.{filter_map}
use Rattle.std.proofs.lemmas.List.{map-id}
use Rattle.std.proofs.lemmas.Iterator.Consumers.{YieldsList-turn, YieldsList-end, YieldsList-from_rest}
use Rattle.ddt_path.specs.laws.Member.{IsIn, in_at}
use Rattle.ddt_plan.specs.declared.versions.Versions.{Versions}
use Rattle.ddt_deploy.specs.Rollout.Configurations.{config_in, refusal_in}
use Rattle.ddt_deploy.proofs.RolloutLemmas.ConfigurationLemmas.{made_more, all_more}
use Rattle.ddt_deploy.proofs.rollout.configurations.configurations_of.Goals as goal

pub loop-name-preserved : goal.loop-name-preserved
loop-name-preserved c =
    let e : List ℕ × Versions = (c.in-Some._name, c.in-Some.of_group) in (
      made_more c.args.stage c.args.kept.now c.loop-name.yielded e c.loop-name.configs.items
          c.push_if.new.configs.items c.in_ok-config.config c.loop-name.invariant.0 c.in_ok-push_if.ensures
          c.in_ok-config.ensures.found,
      all_more (λ (x : List ℕ × Versions). refusal_in c.args.stage x ≡ None) c.loop-name.yielded e
          c.loop-name.invariant.1 c.in_ok-config.ensures.good,
    )

pub returns-clause-made : goal.returns-clause-made
returns-clause-made c =
    let m = c.args.versions in
    let all = YieldsList-end (YieldsList-from_rest m.entries (search rules)) c.loop-name.yielded
    c.loop-name._name-iterator c.loop-name.yielded_by c.next.result c.next.new.self c.in-None.is c.next.ensures.steps in
    let yielded : c.loop-name.yielded ≡ m.entries = sym (map-id c.loop-name.yielded) ∙ all.0 in (
      c.loop-name.invariant.0 ∙ ap (filter_map (config_in c.args.stage c.args.kept.now)) yielded,
      c.into_iter-name-iterator.ensures.into_iter_gives.5,
    )

pub returns-clause-good : goal.returns-clause-good
returns-clause-good c =
    let m = c.args.versions in
    let all = YieldsList-end (YieldsList-from_rest m.entries (search rules)) c.loop-name.yielded
    c.loop-name._name-iterator c.loop-name.yielded_by c.next.result c.next.new.self c.in-None.is c.next.ensures.steps in
    let yielded : c.loop-name.yielded ≡ m.entries = sym (map-id c.loop-name.yielded) ∙ all.0 in
    (c.into_iter-name-iterator.ensures.into_iter_gives.5, λ e k. c.loop-name.invariant.1 e (subst (IsIn e) (sym yielded) k))

pub returns-in_err-config-clause-refused : goal.returns-in_err-config-clause-refused
returns-in_err-config-clause-refused c =
    let m = c.args.versions in
    let e : List ℕ × Versions = (c.in-Some._name, c.in-Some.of_group) in
    let turn = YieldsList-turn (YieldsList-from_rest m.entries (search rules)) c.loop-name.yielded
    c.loop-name._name-iterator c.loop-name.yielded_by c.next.result c.next.new.self e c.in-Some.is c.next.ensures.steps in
    let is : c.from_residual.result ≡ Err c.in_err-config.field-0.0 = search rules in
    rw is (λ known. (
      c.into_iter-name-iterator.ensures.into_iter_gives.5,
      (e, in_at m.entries _ e turn.0 turn.1, c.in_err-config.ensures.refused known),
    ))
