use Rattle.std.proofs.Common.{◌∙◌, rules}
use Rattle.std.specs.Ordering.{nat_cmp}
use Rattle.std.specs.Cmp.Lexicographic.{slice_cmp}
use Rattle.std.specs.BTreeMap.{get}
use Rattle.ddt_deploy.proofs.FoldersLemmas.ManifestLemmas.{line_passed, line_put, long_enough}
use Rattle.ddt_deploy.proofs.folders.manifest.add_config.Goals as goal

pub slice_bounds-from_slice-end : goal.slice_bounds-from_slice-end
slice_bounds-from_slice-end c =
    search (rules, long_enough c.args.line.now c.in-Some.name c.in-Some.ensures)

pub returns-in_ok-insert-in-Some : goal.returns-in_ok-insert-in-Some
returns-in_ok-insert-in-Some c =
    line_put c.args.listed.now c.insert.new.self c.args.line.now c.in-Some.name c.of.result c.in-Some.ensures
    (c.of.ensures ∙ c.in_ok-digits-in-Some.ensures.items) c.in_ok-insert-in-Some.ensures.updates

pub returns-in-None : goal.returns-in-None
returns-in-None c = line_passed (get (slice_cmp nat_cmp) c.args.listed.now) c.args.line.now c.in-None.ensures
