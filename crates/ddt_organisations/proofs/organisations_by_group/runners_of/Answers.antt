use Rattle.std.proofs.Common.{ℕ, List, [], ap, subst}
use Rattle.std.specs.Global.{Vec}
use Rattle.std.specs.Map.{lookup}
use Rattle.std.specs.Option.{option_map_or}
use Rattle.std.specs.Ordering.{nat_cmp}
use Rattle.std.specs.Cmp.Lexicographic.{slice_cmp}
use Rattle.std.specs.BTreeMap.{is_at}
use Rattle.std.proofs.lemmas.List.{take_all}
use Rattle.ddt_compile.specs.Lists.{list_at}
use Rattle.ddt_organisations.specs.declared.organisation as code
use Rattle.ddt_organisations.specs.Found.{HaveRunners}
use Rattle.ddt_organisations.proofs.RunnerLemmas.{runners_first, runners_more}
use Rattle.ddt_organisations.proofs.organisations_by_group.runners_of.Goals as goal

pub loop-number-init : goal.loop-number-init
loop-number-init c = runners_first (list_at (slice_cmp nat_cmp) c.new-runners.result) (λ name.
    ap (λ (entries : List (List ℕ × Vec ℕ)). option_map_or (λ (v : Vec ℕ). v.items)
    (lookup (is_at (slice_cmp nat_cmp name)) entries) []) c.new-runners.ensures.empty)

pub loop-number-preserved : goal.loop-number-preserved
loop-number-preserved c = runners_more c.args.all.now c.loop-number.number c.index-all-number.result
    c.loop-number-test.true c.index-all-number.is (list_at (slice_cmp nat_cmp) c.loop-number.runners)
    (list_at (slice_cmp nat_cmp) c.add_groups.new.runners) c.loop-number.invariant c.in_ok-add_groups.ensures

pub returns : goal.returns
returns c =
    subst (λ (all : List code.Organisation.Organisation). HaveRunners all (list_at (slice_cmp nat_cmp) c.loop-number.runners))
    (take_all c.loop-number.number c.args.all.now c.loop-number-test.false) c.loop-number.invariant
