use Rattle.std.proofs.Common.{◌≡◌, ℕ, ◌+◌, ◌<◌, List, Bool, length, take, sym, ap₂, ◌∙◌, rules}
use Rattle.std.specs.Prelude.{is_some, if◌then◌else◌}
use Rattle.ddt_deploy.specs.Rollout.Waits.{lost_in}
use Rattle.ddt_deploy.proofs.RolloutLemmas.WaitLemmas.{front_more, all_fronts}
use Rattle.ddt_deploy.proofs.rollout.lost_zone_waits.count_around.Goals as goal

pub loop-len-preserved : goal.loop-len-preserved
loop-len-preserved c =
    let test : List ℕ → Bool = λ q. is_some (lost_in c.args.groups.now q) in
    let one : c.from-count.result ≡ (if test (take c.loop-len.len c.args.prefix) then 1 else 0) = search rules in
    let within : c.loop-len.len < length c.args.prefix + 1 = search rules in (
      ap₂ (λ (m n : ℕ). m + n) c.loop-len.invariant.0 one ∙ sym (front_more test c.args.prefix c.loop-len.len within),
      search rules,
    )

pub returns-clause-count : goal.returns-clause-count
returns-clause-count c =
    let test : List ℕ → Bool = λ q. is_some (lost_in c.args.groups.now q) in
    let all : c.loop-len.len ≡ length c.args.prefix + 1 = search rules in
    c.loop-len.invariant.0 ∙ all_fronts test c.args.prefix c.loop-len.len all
