use Rattle.std.proofs.Common.{Some, map, sym, ap, subst, ◌∙◌, rules}
use Rattle.std.specs.Ordering.{nat_cmp}
use Rattle.std.specs.Cmp.Lexicographic.{slice_cmp}
use Rattle.std.specs.BTreeMap.{Updates}
use Rattle.std.proofs.lemmas.List.{map-id}
use Rattle.std.proofs.lemmas.Iterator.Adapters.{YieldsList-from_vec}
use Rattle.std.proofs.lemmas.Iterator.Consumers.{YieldsList-end}
use Rattle.ddt_config.specs.Table.{outline}
use Rattle.ddt_plan.specs.declared.versions.Versions.{Versions}
use Rattle.ddt_plan.proofs.VersionLemmas.{found, found_config, put_one}
use Rattle.ddt_plan.proofs.versions.put_all.Goals as goal

pub loop-config-preserved : goal.loop-config-preserved
loop-config-preserved c =
    let mid = c.remove-known.new.self in
    let new = c.insert.new.self in
    let config = c.in-Some.config in
    put_one c.args.which c.args.versions c.loop-config.all mid new c.loop-config.yielded config c.loop-config.invariant
    c.remove-known.result
    c.remove-known.ensures.value c.remove-known.ensures.updates
    (subst (λ (v : Versions). Updates (slice_cmp nat_cmp) mid new config.name (Some v)) c.joined.ensures
    c.in_ok-insert.ensures.updates)

pub returns : goal.returns
returns c = λ name.
    let items = c.into_vec-config-items.result.items in
    let all = YieldsList-end
    (YieldsList-from_vec {s = c.into_iter-config-iterator.result} items (search rules) (search rules))
    c.loop-config.yielded c.loop-config.config-iterator c.loop-config.yielded_by c.next.result c.next.new.self
    c.in-None.is c.next.ensures.steps in
    let yielded = sym (map-id c.loop-config.yielded) ∙ all.0 in
    let each = ap (map outline) (yielded ∙ c.into_vec-config-items.ensures) ∙ c.in_ok-compile.ensures.each in (
      found c.loop-config.yielded name,
      found_config c.args.accepted.now name c.loop-config.yielded
          c.args.accepted.now.groups each,
      c.loop-config.invariant name,
    )
