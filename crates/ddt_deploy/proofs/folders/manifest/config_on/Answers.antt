use Rattle.std.proofs.Common.{None, Some, ◌∙◌}
use Rattle.std.specs.Prelude.{codes}
use Rattle.std.proofs.lemmas.Bool.Decides.{Decides-eqb}
use Rattle.std.proofs.lemmas.Slice.Eq.{strip_prefix_is, strip_suffix_is}
use Rattle.ddt_deploy.proofs.FoldersLemmas.ManifestLemmas.{by_name, no_blanks, no_ending, rest_of}
use Rattle.ddt_deploy.proofs.folders.manifest.config_on.Goals as goal

pub returns-in_err-strip_prefix : goal.returns-in_err-strip_prefix
returns-in_err-strip_prefix c =
    let behind = c.in_ok-behind.behind.now in
    rw c.from_residual-in_err-strip_prefix.ensures
    (no_blanks c.args.line.now behind (c.in_ok-behind.ensures.lookup.0.2 ∙ rest_of c.args.line.now)
    (strip_prefix_is Decides-eqb behind (codes "  ") None c.in_err-strip_prefix.ensures.cases))

pub returns-in_err-name : goal.returns-in_err-name
returns-in_err-name c =
    let behind = c.in_ok-behind.behind.now in
    let rest = c.in_ok-strip_prefix.field-0 in
    rw c.from_residual-in_err-name.ensures
    (no_ending c.args.line.now behind (c.in_ok-behind.ensures.lookup.0.2 ∙ rest_of c.args.line.now) rest.now
    (strip_prefix_is Decides-eqb behind (codes "  ") (Some rest) c.in_ok-strip_prefix.ensures.cases)
    (strip_suffix_is Decides-eqb rest.now (codes ".toml") None c.in_err-name.ensures.cases))

pub returns : goal.returns
returns c =
    let behind = c.in_ok-behind.behind.now in
    let rest = c.in_ok-strip_prefix.field-0 in
    by_name c.args.line.now behind (c.in_ok-behind.ensures.lookup.0.2 ∙ rest_of c.args.line.now) rest.now
    (strip_prefix_is Decides-eqb behind (codes "  ") (Some rest) c.in_ok-strip_prefix.ensures.cases)
    c.in_ok-name.name.now
    (strip_suffix_is Decides-eqb rest.now (codes ".toml") (Some c.in_ok-name.name) c.in_ok-name.ensures.cases)
    c.in_ok-behind.ensures.lookup.0.0 c.of.result c.of.ensures
