use Rattle.std.proofs.Common.{◌≡◌, true, refl, ◌∙◌, arith}
use Rattle.std.proofs.lemmas.Bool.{and_parts}
use Rattle.std.specs.Ordering.{is_le}
use Rattle.ddt_path.specs.Names.{is_name}
use Rattle.ddt_path.specs.Path.{is_prefix_path}
use Rattle.ddt_register.specs.Ranges.{are_locators}
use Rattle.ddt_check.specs.Fronts.{prefix_front}
use Rattle.ddt_check.specs.laws.Fronts.{prefixes_by_front}
use Rattle.ddt_check.proofs.EntryLemmas.{passes_by_front}
use Rattle.ddt_check.proofs.rules.sites.is_up_to.Goals as goal

pub returns : goal.returns
returns c =
    let e = c.args.zone.now in
    let f = c.args.site.now in
    let z = e.item.now in
    let s = f.item.now in
    let own : is_prefix_path z.prefix ≡ true = (and_parts (is_prefix_path z.prefix) (is_name z.group) e.in_range).0 in
    let other : is_prefix_path s.prefix ≡ true =
    (and_parts (is_prefix_path s.prefix) (are_locators s.etrs) f.in_range).0 in
    let x : e.front ≡ prefix_front z.prefix = e.fronted in
    let y : f.front ≡ prefix_front s.prefix = f.fronted in
    c.is_up_to_by_front.ensures
    ∙ passes_by_front z.prefix s.prefix e.front f.front
    (λ lt. prefixes_by_front z.prefix s.prefix own other (omega (arith, x, y, lt)))
    (λ lt. prefixes_by_front s.prefix z.prefix other own (omega (arith, x, y, lt))) is_le refl refl
