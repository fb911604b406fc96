use Rattle.std.proofs.Common.{sym, ◌∙◌}
use Rattle.ddt_path.specs.Path.{xeid_path}
use Rattle.ddt_path.specs.laws.End.{overlaps_whole}
use Rattle.ddt_path.specs.laws.PathTest.{is_path-xeid_path}
use Rattle.ddt_trie.proofs.list_map.covers_alone.Goals as goal

pub returns-clause-overlaps : goal.returns-clause-overlaps
returns-clause-overlaps c =
    let x = c.args.x in
    c.covers_xeid.ensures ∙ sym (overlaps_whole (xeid_path x) c.args.prefix (is_path-xeid_path x) c.form-form.ensures.passes)
