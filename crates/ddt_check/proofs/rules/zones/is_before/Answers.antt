use Rattle.std.proofs.Common.{◌≡◌, true, refl, ◌∙◌, arith}
use Rattle.std.proofs.lemmas.Bool.{and_parts}
use Rattle.std.specs.Ordering.{is_lt}
use Rattle.ddt_path.specs.Names.{is_name}
use Rattle.ddt_register.specs.Ranges.{are_locators}
use Rattle.ddt_check.specs.Fronts.{name_front}
use Rattle.ddt_check.specs.laws.Fronts.{names_by_front}
use Rattle.ddt_check.proofs.EntryLemmas.{passes_by_front}
use Rattle.ddt_check.proofs.rules.zones.is_before.Goals as goal

pub returns : goal.returns
returns c =
    let e = c.args.entry.now in
    let s = c.args.sought.now in
    let g = e.item.now in
    let own : is_name g.name ≡ true = (and_parts (is_name g.name) (are_locators g.locators) e.in_range).0 in
    let x : e.front ≡ name_front g.name = e.fronted in
    let y : s.front ≡ name_front s.name = s.fronted in
    c.is_before_by_front.ensures
    ∙ passes_by_front g.name s.name e.front s.front
    (λ lt. names_by_front g.name s.name own s.is_name (omega (arith, x, y, lt)))
    (λ lt. names_by_front s.name g.name s.is_name own (omega (arith, x, y, lt))) is_lt refl refl
